-- The laws of the links of two ends.
use Rattle.std.proofs.Common.{◌≡◌, ℕ, zero, suc, ◌+◌, ◌*◌, ◌^◌, ◌<◌, ◌≤◌, ◌⊎◌, inl, inr, min, Bool, true, false, if◌then◌else◌, List, [], ◌∷◌, ◌++◌, length}
use Rattle.std.proofs.Common.{take, Option, Some, None, slice_get, refl, sym, ap, subst, ◌∙◌, arith, nat_le}
use Rattle.std.proofs.lemmas.Bool.{cases_lt}
use Rattle.std.proofs.lemmas.List.{length-take-le, take_all}
use Rattle.bt_wire.specs.declared.item.Item.{Item}
use Rattle.bt_wire.specs.declared.item.Refusal.{Refusal}
use Rattle.bt_wire.specs.Messages.{Message}
use Rattle.bt_metadata.specs.Assemblies.{AssemblyState}
use Rattle.bt_end.specs.Ends.{EndState, Part, Watching, Serving, Awaiting, Fetching, Fetched, unopened, renewed}
use Rattle.bt_end.specs.Halves.{high_water}
use Rattle.bt_session.specs.ByteLinks as B
use Rattle.bt_session.specs.MessageLinks as M
use Rattle.bt_session.specs.MessageLinks.{Connection}
use Rattle.bt_session.specs.LinkLaws.{source_of, IsConfigured, IsFirstPart, IsNew, AreMatched, IsWritten, AreWritten, IsHonestRun, SameLink}
use Rattle.bt_session.specs.LinkLaws.{ByteLinkIsMessageLink, MessageLinkIsByteLink, NothingIsRefused, IsInOrder, AreInOrder, HandledInOrder, FetchesFrom}
use Rattle.bt_session.specs.LinkLaws.{FetchedIsServed, FewStepsStaySmall, OutcomesAreOne, QueuedMayBeSent}
use Rattle.bt_metadata.specs.Laws.{HoldsBlocksOf}
use Rattle.bt_session.specs.declared.link.Outcome.{Outcome}
use Rattle.bt_session.specs.declared.link.Outcome.TheVariants as outcome
use Rattle.bt_session.specs.declared.link.Side.{Side}
use Rattle.bt_session.specs.declared.link.Side.TheVariants.{Left, Right}
use Rattle.bt_session.specs.declared.link.Step.{Step}
use Rattle.bt_session.specs.declared.link.Step.TheVariants as step
use Rattle.bt_session.proofs.LinkInvariant.{IsPartFor, Knows, Wires, Inv, node_of, made}
use Rattle.bt_session.proofs.LinkTurns.{TurnsSo, turns_so, Turns, turns, queues_well}
use Rattle.bt_session.proofs.LinkSteps.{Delivers, delivers, SaysSo, says_so, CanSay, can_say, say_is_told, say_grows, one_say, matched_back, still_renewed}
use Rattle.bt_session.proofs.LinkSteps.{knows_renewed, new_wires, new_inv}

-- ---- sides

-- the byte link with the same ends
abbrev link_with : M.Link → Wires → B.Link
link_with l w = record {
  left = node_of l.left (take l.right.handled l.right.sent) w.feed w.untaken w.outbox;
  right = node_of l.right (take l.left.handled l.left.sent) w.other_feed w.other_untaken w.other_outbox;
  past = l.past;
}

abbrev turned : Wires → Wires
turned w = record {
  feed = w.other_feed;
  untaken = w.other_untaken;
  outbox = w.other_outbox;
  other_feed = w.feed;
  other_untaken = w.untaken;
  other_outbox = w.outbox;
}

abbrev wires_at : Side → Wires → Wires
wires_at Left w = w
wires_at Right w = turned w

abbrev mine : Side → EndState → EndState → EndState
mine Left a b = a
mine Right a b = b

abbrev yours : Side → EndState → EndState → EndState
yours Left a b = b
yours Right a b = a

abbrev IsInv : EndState → EndState → M.Link → Wires → Type 0
IsInv a b l w = Inv a b (M.seen_from Left l) w

inv_turned : (a b : EndState) (p : M.Pair) (w : Wires) → Inv a b p w → Inv b a (record { own = p.other; other = p.own }) (turned w)
inv_turned a b p w i = record { going = i.coming; coming = i.going; own = i.other; other = i.own; knows = i.known; known = i.knows }

inv_at : (s : Side) (a b : EndState) (l : M.Link) (w : Wires) → IsInv a b l w → Inv (mine s a b) (yours s a b) (M.seen_from s l) (wires_at s w)
inv_at Left a b l w i = i
inv_at Right a b l w i = inv_turned a b (M.seen_from Left l) w i

inv_back : (s : Side) (a b : EndState) (l : M.Link) (p : M.Pair) (w : Wires) → Inv (mine s a b) (yours s a b) p w → IsInv a b (M.with_pair s l p) (wires_at s w)
inv_back Left a b l p w i = i
inv_back Right a b l p w i = inv_turned b a p w i

seen_same : (s : Side) (l : M.Link) (w : Wires) → B.seen_from s (link_with l w) ≡ made (M.seen_from s l) (wires_at s w)
seen_same Left l w = refl
seen_same Right l w = refl

with_same : (s : Side) (l : M.Link) (w v : Wires) (p : M.Pair) → B.with_pair s (link_with l w) (made p v) ≡ link_with (M.with_pair s l p) (wires_at s v)
with_same Left l w v p = refl
with_same Right l w v p = refl

-- the ends, by side
record Ready (a b : EndState) : Type 0 where
  pub own : IsConfigured a
  pub other : IsConfigured b
  pub matched : AreMatched a b

ready_at : (s : Side) (a b : EndState) → Ready a b → Ready (mine s a b) (yours s a b)
ready_at Left a b r = r
ready_at Right a b r = record { own = r.other; other = r.own; matched = matched_back a b r.matched }

small_other : (s : Side) (l : M.Link) → M.IsSmall l → M.IsSmallNode (M.seen_from s l).other
small_other Left l h = h.1
small_other Right l h = h.0

small_own : (s : Side) (l : M.Link) (p : M.Pair) → M.IsSmall (M.with_pair s l p) → M.IsSmallNode p.own
small_own Left l p h = h.0
small_own Right l p h = h.1

-- ---- one step

-- the link k is the byte link of l
record IsLinkOf (a b : EndState) (l : M.Link) (k : B.Link) : Type 0 where
  pub wires : Wires
  pub same : k ≡ link_with l wires
  pub inv : IsInv a b l wires

lifted : (s : Side) (a b : EndState) (l : M.Link) (w : Wires) {v : Wires} {p : M.Pair} {q : B.Pair} {k : B.Link} → k ≡ B.with_pair s (link_with l w) q
    → q ≡ made p v
    → Inv (mine s a b) (yours s a b) p v → IsLinkOf a b (M.with_pair s l p) k
lifted s a b l w {v} {p} e f i = record {
  wires = wires_at s v;
  same = e ∙ ap (λ (x : B.Pair). B.with_pair s (link_with l w) x) f ∙ with_same s l w v p;
  inv = inv_back s a b l p v i;
}

reset_same : (a b : EndState) (l : M.Link) (w : Wires) (k : B.Link) → Ready a b → IsInv a b l w → k ≡ B.after_reset (link_with l w)
    → IsLinkOf a b (M.after_reset l) k
reset_same a b l w k r i e = record {
  wires = new_wires (renewed l.left.end) (renewed l.right.end);
  same = e;
  inv = new_inv r.own r.other r.matched (still_renewed a l.left.end i.own)
      (still_renewed b l.right.end i.other) (knows_renewed b l.left.end i.knows) (knows_renewed a l.right.end i.known) refl refl refl refl;
}

-- what comes of a step in the byte link comes of it in the message link
step_follows : {a b : EndState} (l : M.Link) (w : Wires) (s : Step) (o : Outcome) (k : B.Link) → Ready a b → IsInv a b l w → IsWritten s → M.IsSmall l
    → M.IsSmall (M.after l s o) → B.IsStep (link_with l w) s o k → M.IsOutcome l s o × IsLinkOf a b (M.after l s o) k
step_follows {a} {b} l w (step.Turn s) o k r i written small later is =
    let e = ready_at s a b r in
    let p : M.Pair = M.seen_from s l in
    let turn : B.IsTurn (made p (wires_at s w)) o is.0 = subst (λ (x : B.Pair). B.IsTurn x o is.0) (seen_same s l w) is.1 in
    let t : TurnsSo (mine s a b) (yours s a b) p o is.0 = turns_so (mine s a b) (yours s a b) p (wires_at s w) o is.0 e.own e.other (inv_at s a b l w i)
    (small_other s l small) turn in
    (t.told, lifted s a b l w is.2 t.same (t.inv (small_own s l (M.after_turn p o) later)))
step_follows {a} {b} l w (step.Say s msg) o k r i written small later is =
    let e = ready_at s a b r in
    let p : M.Pair = M.seen_from s l in
    let say : B.IsSay (made p (wires_at s w)) msg o is.0 = subst (λ (x : B.Pair). B.IsSay x msg o is.0) (seen_same s l w) is.1 in
    let t : SaysSo (mine s a b) (yours s a b) p (wires_at s w) msg o is.0 = says_so o is.0 e.own e.matched
    (inv_at s a b l w i) written (small_other s l small) (small_own s l (M.after_say p msg o) later) say in
    (t.told, lifted s a b l w is.2 t.same t.inv)
step_follows {a} {b} l w (step.Deliver s n) o k r i written small later is =
    let p : M.Pair = M.seen_from s l in
    let d : Delivers (mine s a b) (yours s a b) p (wires_at s w) n = delivers (mine s a b) (yours s a b) p (wires_at s w) n (inv_at s a b l w i) in
    let delivery : B.IsDelivery (made p (wires_at s w)) n o is.0 = subst (λ (x : B.Pair). B.IsDelivery x n o is.0) (seen_same s l w) is.1 in
    let told : o ≡ outcome.Delivered (min n (M.undelivered p.other)) = delivery.0 ∙ sym d.delivery.0 in
    let same : is.0 ≡ made (M.after_deliver p (outcome.Delivered (min n (M.undelivered p.other)))) d.wires = delivery.1 ∙ sym d.delivery.1 in
    let here : IsLinkOf a b (M.with_pair s l (M.after_deliver p (outcome.Delivered (min n (M.undelivered p.other))))) k =
    lifted s a b l w is.2 same d.inv in
    (told, subst (λ (x : Outcome). IsLinkOf a b (M.with_pair s l (M.after_deliver p x)) k) (sym told) here)
step_follows {a} {b} l w step.Reset o k r i written small later is = (is.0, reset_same a b l w k r i is.1)

-- and the other way round
step_goes : {a b : EndState} (l : M.Link) (w : Wires) (s : Step) (o : Outcome) → Ready a b → IsInv a b l w → IsWritten s → M.IsSmall l
    → M.IsSmall (M.after l s o) → M.IsOutcome l s o → (k : B.Link) × B.IsStep (link_with l w) s o k × IsLinkOf a b (M.after l s o) k
step_goes {a} {b} l w (step.Turn s) o r i written small later told =
    let e = ready_at s a b r in
    let p : M.Pair = M.seen_from s l in
    let t : Turns (mine s a b) (yours s a b) p (wires_at s w) (M.turn_of p) (M.after_turn p (M.turn_of p)) =
    turns (mine s a b) (yours s a b) p (wires_at s w) e.own e.other (inv_at s a b l w i) (small_other s l small) in
    let turn : B.IsTurn (made p (wires_at s w)) o (made (M.after_turn p o) t.wires) =
    subst (λ (x : Outcome). B.IsTurn (made p (wires_at s w)) x (made (M.after_turn p x) t.wires)) (sym told) t.turn in
    let inv : M.IsSmallNode (M.after_turn p o).own → Inv (mine s a b) (yours s a b) (M.after_turn p o) t.wires =
    subst (λ (x : Outcome). M.IsSmallNode (M.after_turn p x).own → Inv (mine s a b) (yours s a b) (M.after_turn p x) t.wires) (sym told) t.inv in
    let k : B.Link = B.with_pair s (link_with l w) (made (M.after_turn p o) t.wires) in (
      k,
      (made (M.after_turn p o) t.wires, subst (λ (x : B.Pair). B.IsTurn x o (made (M.after_turn p o) t.wires)) (sym (seen_same s l w)) turn, refl),
      lifted s a b l w refl refl (inv (small_own s l (M.after_turn p o) later)),
    )
step_goes {a} {b} l w (step.Say s msg) o r i written small later told =
    let e = ready_at s a b r in
    let p : M.Pair = M.seen_from s l in
    let t : CanSay (mine s a b) (yours s a b) p (wires_at s w) msg o = can_say o e.own e.matched
    (inv_at s a b l w i) written (small_other s l small) (small_own s l (M.after_say p msg o) later) told in
    let k : B.Link = B.with_pair s (link_with l w) (made (M.after_say p msg o) t.wires) in (
      k,
      (made (M.after_say p msg o) t.wires, subst (λ (x : B.Pair). B.IsSay x msg o (made (M.after_say p msg o) t.wires)) (sym (seen_same s l w)) t.say, refl),
      lifted s a b l w refl refl t.inv,
    )
step_goes {a} {b} l w (step.Deliver s n) o r i written small later told =
    let p : M.Pair = M.seen_from s l in
    let x : Outcome = outcome.Delivered (min n (M.undelivered p.other)) in
    let d : Delivers (mine s a b) (yours s a b) p (wires_at s w) n = delivers (mine s a b) (yours s a b) p (wires_at s w) n (inv_at s a b l w i) in
    let k : B.Link = B.with_pair s (link_with l w) (made (M.after_deliver p x) d.wires) in
    let delivery : B.IsDelivery (B.seen_from s (link_with l w)) n x (made (M.after_deliver p x) d.wires) =
    subst (λ (y : B.Pair). B.IsDelivery y n x (made (M.after_deliver p x) d.wires)) (sym (seen_same s l w)) d.delivery in
    let here : IsLinkOf a b (M.with_pair s l (M.after_deliver p x)) k = lifted s a b l w
    refl refl d.inv in (
      k,
      (
        made (M.after_deliver p x) d.wires,
        subst (λ (y : Outcome). B.IsDelivery (B.seen_from s (link_with l w)) n y (made (M.after_deliver p x) d.wires))
            (sym told) delivery,
        refl,
      ),
      subst (λ (y : Outcome). IsLinkOf a b (M.with_pair s l (M.after_deliver p y)) k) (sym told) here,
    )
step_goes {a} {b} l w step.Reset o r i written small later told =
    (B.after_reset (link_with l w), (told, refl), reset_same a b l w (B.after_reset (link_with l w)) r i refl)

-- ---- steps

small_now : (l : M.Link) (ss : List Step) (os : List Outcome) → M.StaysSmall l ss os → M.IsSmall l
small_now l [] os h = h
small_now l (s ∷ ss) [] h = h
small_now l (s ∷ ss) (o ∷ os) h = h.0

steps_follow : {a b : EndState} (ss : List Step) (os : List Outcome) {l : M.Link} {j : B.Link} (k : B.Link) → Ready a b → IsLinkOf a b l j → AreWritten ss
    → M.StaysSmall l ss os → B.AreSteps j ss os k → M.AreOutcomes l ss os × IsLinkOf a b (M.after_all l ss os) k
steps_follow [] [] k r h written small is = (tt, record { wires = h.wires; same = is ∙ h.same; inv = h.inv })
steps_follow [] (o ∷ os) k r h written small is = absurd is
steps_follow (s ∷ ss) [] k r h written small is = absurd is
steps_follow {a} {b} (s ∷ ss) (o ∷ os) {l} k r h written small is =
    let first : B.IsStep (link_with l h.wires) s o is.0 = subst (λ (x : B.Link). B.IsStep x s o is.0) h.same is.1 in
    let one = step_follows l h.wires s o is.0 r h.inv written.0 small.0 (small_now (M.after l s o) ss os small.1) first in
    let more = steps_follow ss os k r one.1 written.1 small.1 is.2 in
    ((one.0, more.0), more.1)

steps_go : (a b : EndState) (ss : List Step) (os : List Outcome) (l : M.Link) (j : B.Link) → Ready a b → IsLinkOf a b l j → AreWritten ss
    → M.StaysSmall l ss os → M.AreOutcomes l ss os → (k : B.Link) × B.AreSteps j ss os k × IsLinkOf a b (M.after_all l ss os) k
steps_go a b [] [] l j r h written small told = (j, refl, h)
steps_go a b [] (o ∷ os) l j r h written small told = absurd told
steps_go a b (s ∷ ss) [] l j r h written small told = absurd told
steps_go a b (s ∷ ss) (o ∷ os) l j r h written small told =
    let one = step_goes l h.wires s o r h.inv written.0 small.0 (small_now (M.after l s o) ss os small.1) told.0 in
    let more = steps_go a b ss os (M.after l s o) one.0 r one.2 written.1 small.1 told.1 in
    (more.0, (one.0, subst (λ (x : B.Link). B.IsStep x s o one.0) (sym h.same) one.1, more.1), more.2)

-- ---- new ends

first_part : (p : Part) → IsFirstPart p → (source : Option (List ℕ)) → IsPartFor source p
first_part Watching h source = tt
first_part (Serving metadata) h source = tt
first_part (Awaiting most) h source = tt
first_part (Fetching s) h source = absurd h
first_part (Fetched metadata) h source = absurd h

-- an end knows nothing at first
first_knows : (a b : EndState) → IsNew a → Knows b a
first_knows a b n =
    let k : Knows b (unopened a.own a.handshake a.announce a.window a.part) = record {
      table = record { entries = tt; few = omega arith };
      id = inl refl;
      donthave = inl refl;
      part = first_part a.part n.part (source_of b.part);
    } in
    subst (λ (e : EndState). Knows b e) (sym n.unopened) k

linked_new : (a b : EndState) → IsNew a → IsNew b → AreMatched a b → IsLinkOf a b (M.link_of a b) (B.link_of a b)
linked_new a b h k m = record {
  wires = new_wires a b;
  same = refl;
  inv = new_inv h.is k.is m (record { own = refl; handshake = refl; serves = refl }) (record { own = refl; handshake = refl; serves = refl })
      (first_knows a b h) (first_knows b a k)
      (ap (λ (e : EndState). e.context) h.unopened) (ap (λ (e : EndState). e.sends) h.unopened) (ap (λ (e : EndState). e.context) k.unopened)
      (ap (λ (e : EndState). e.sends) k.unopened);
}

linked : (a b : EndState) (ss : List Step) (os : List Outcome) → IsHonestRun a b ss os → IsLinkOf a b (M.link_of a b) (B.link_of a b)
linked a b ss os h = linked_new a b h.left h.right h.matched

readied : (a b : EndState) (ss : List Step) (os : List Outcome) → IsHonestRun a b ss os → Ready a b
readied a b ss os h = record { own = h.left.is; other = h.right.is; matched = h.matched }

same_link : (a b : EndState) (l : M.Link) (k : B.Link) → IsLinkOf a b l k → SameLink l k
same_link a b l k h = record {
  left = ap (λ (x : B.Link). x.left.half.end) h.same;
  right = ap (λ (x : B.Link). x.right.half.end) h.same;
  connections = ap B.connections_of h.same;
}

-- ---- the laws

runs : (a b : EndState) (ss : List Step) (os : List Outcome) (k : B.Link) → IsHonestRun a b ss os → B.AreSteps (B.link_of a b) ss os k
    → M.AreOutcomes (M.link_of a b) ss os × IsLinkOf a b (M.after_all (M.link_of a b) ss os) k
runs a b ss os k h is = steps_follow ss os k (readied a b ss os h) (linked a b ss os h) h.written h.small is

pub byte_link_is_message_link : ByteLinkIsMessageLink
byte_link_is_message_link a b ss os k h is =
    let r = runs a b ss os k h is in
    (r.0, same_link a b (M.after_all (M.link_of a b) ss os) k r.1)

pub message_link_is_byte_link : MessageLinkIsByteLink
message_link_is_byte_link a b ss os h told =
    let r = steps_go a b ss os (M.link_of a b) (B.link_of a b) (readied a b ss os h) (linked a b ss os h) h.written h.small told in
    (r.0, r.1, same_link a b (M.after_all (M.link_of a b) ss os) r.0 r.2)

-- ---- nothing is refused

turn_sound : (p : M.Pair) (next : Option Item) (r : Refusal) → M.turn_by p next ≡ outcome.Refused r → ⊥
turn_sound p None r e = cc
turn_sound p (Some i) r e = by_tests (nat_le (M.total (take (p.other.handled + 1) p.other.sent)) p.other.delivered) (nat_le high_water (M.undelivered p.own)) e
  where
    by_tests : (x y : Bool) → (if x then (if y then outcome.Busy else outcome.Handled) else outcome.Idle) ≡ outcome.Refused r → ⊥
    by_tests true true e = cc
    by_tests true false e = cc
    by_tests false y e = cc

outcome_sound : (l : M.Link) (s : Step) (o : Outcome) (r : Refusal) → M.IsOutcome l s o → o ≡ outcome.Refused r → ⊥
outcome_sound l (step.Turn s) o r told e = turn_sound (M.seen_from s l) (M.next_item (M.seen_from s l).other) r (sym told ∙ e)
outcome_sound l (step.Say s msg) o r told e = subst (λ (x : Outcome). M.IsSayOf (M.seen_from s l).own msg x) e told
outcome_sound l (step.Deliver s n) o r told e = cc
outcome_sound l step.Reset o r told e = cc

outcomes_sound : (l : M.Link) (ss : List Step) (os : List Outcome) (n : ℕ) (r : Refusal) → M.AreOutcomes l ss os → slice_get os n ≡ Some (outcome.Refused r) → ⊥
outcomes_sound l ss [] n r told e = cc
outcomes_sound l [] (o ∷ os) n r told e = told
outcomes_sound l (s ∷ ss) (o ∷ os) zero r told e = outcome_sound l s o r told.0 (cc)
outcomes_sound l (s ∷ ss) (o ∷ os) (suc n) r told e = outcomes_sound (M.after l s o) ss os n r told.1 e

pub nothing_is_refused : NothingIsRefused
nothing_is_refused a b ss os k h is n r e = outcomes_sound (M.link_of a b) ss os n r (runs a b ss os k h is).0 e

-- ---- each item once, in order

front_at : (n : ℕ) (is : List Item) → (n < length is) ⊎ (length is ≤ n) → take n is ≡ take (length (take n is)) is
front_at n is (inl lt) = ap (λ (j : ℕ). take j is) (sym (length-take-le n is (omega arith)))
front_at n is (inr le) =
    let all : take n is ≡ is = take_all n is le in
    all ∙ sym (take_all (length (take n is)) is (omega (arith, ap length all)))

fronts : (n : ℕ) (is : List Item) → take n is ≡ take (length (take n is)) is
fronts n is = front_at n is (cases_lt n (length is))

in_order : (l : M.Link) → IsInOrder (M.connection_of l)
in_order l = (fronts l.right.handled l.right.sent, fronts l.left.handled l.left.sent)

order_more : (cs : List Connection) (c : Connection) → AreInOrder cs → IsInOrder c → AreInOrder (cs ++ c ∷ [])
order_more [] c h k = (k, tt)
order_more (d ∷ cs) c h k = (h.0, order_more cs c h.1 k)

past_side : (s : Side) (l : M.Link) (p : M.Pair) → (M.with_pair s l p).past ≡ l.past
past_side Left l p = refl
past_side Right l p = refl

past_in_order : (l : M.Link) (s : Step) (o : Outcome) → AreInOrder l.past → AreInOrder (M.after l s o).past
past_in_order l (step.Turn s) o h = subst (λ (cs : List Connection). AreInOrder cs) (sym (past_side s l (M.after_turn (M.seen_from s l) o))) h
past_in_order l (step.Say s msg) o h = subst (λ (cs : List Connection). AreInOrder cs) (sym (past_side s l (M.after_say (M.seen_from s l) msg o))) h
past_in_order l (step.Deliver s n) o h = subst (λ (cs : List Connection). AreInOrder cs) (sym (past_side s l (M.after_deliver (M.seen_from s l) o))) h
past_in_order l step.Reset o h = order_more l.past (M.connection_of l) h (in_order l)

all_in_order : (l : M.Link) (ss : List Step) (os : List Outcome) → AreInOrder l.past → AreInOrder (M.after_all l ss os).past
all_in_order l [] os h = h
all_in_order l (s ∷ ss) [] h = h
all_in_order l (s ∷ ss) (o ∷ os) h = all_in_order (M.after l s o) ss os (past_in_order l s o h)

pub handled_in_order : HandledInOrder
handled_in_order a b ss os k h is =
    let e : M.Link = M.after_all (M.link_of a b) ss os in
    let same = (same_link a b e k (runs a b ss os k h is).1).connections in
    subst (λ (cs : List Connection). AreInOrder cs) (sym same) (order_more e.past (M.connection_of e) (all_in_order (M.link_of a b) ss os tt) (in_order e))

-- ---- what is fetched is what is served

fetches : (source : Option (List ℕ)) (p : Part) → IsPartFor source p → FetchesFrom source p
fetches source Watching h = record { blocks = λ s e. absurd cc; whole = λ m e. absurd cc }
fetches source (Serving metadata) h = record { blocks = λ s e. absurd cc; whole = λ m e. absurd cc }
fetches source (Awaiting most) h = record { blocks = λ s e. absurd cc; whole = λ m e. absurd cc }
fetches source (Fetching a) h = record {
  blocks = λ s e. let same : a ≡ s = cc in (h.0, h.1, subst (λ (x : AssemblyState). HoldsBlocksOf h.0 x) same h.2.holds);
  whole = λ m e. absurd cc;
}
fetches source (Fetched metadata) h = record { blocks = λ s e. absurd cc; whole = λ m e. h ∙ e }

pub fetched_is_served : FetchedIsServed
fetched_is_served a b ss os k h is =
    let r = (runs a b ss os k h is).1 in
    let same = same_link a b (M.after_all (M.link_of a b) ss os) k r in (
      subst (λ (e : EndState). FetchesFrom (source_of b.part) e.part) (sym same.left)
          (fetches (source_of b.part) (M.after_all (M.link_of a b) ss os).left.end.part r.inv.knows.part),
      subst (λ (e : EndState). FetchesFrom (source_of a.part) e.part) (sym same.right)
          (fetches (source_of a.part) (M.after_all (M.link_of a b) ss os).right.end.part r.inv.known.part),
    )

-- ---- bytes that are sent

-- n more steps keep both directions below 2^62 bytes
record HasRoom (l : M.Link) (n : ℕ) : Type 0 where
  pub left : M.total l.left.sent + 8388640 * n < 2 ^ 62
  pub right : M.total l.right.sent + 8388640 * n < 2 ^ 62

room_small : (l : M.Link) (n : ℕ) → HasRoom l n → M.IsSmall l
room_small l n h = (omega (arith, h.left), omega (arith, h.right))

-- a step of one side
room_side : (s : Side) (l : M.Link) (p : M.Pair) (n : ℕ) → HasRoom l (suc n) → M.total p.own.sent ≤ M.total (M.seen_from s l).own.sent + 8388640
    → M.total p.other.sent ≡ M.total (M.seen_from s l).other.sent → HasRoom (M.with_pair s l p) n
room_side Left l p n h g r = record { left = omega (arith, h.left); right = omega (arith, h.right) }
room_side Right l p n h g r = record { left = omega (arith, h.left); right = omega (arith, h.right) }

say_rests : (p : M.Pair) (msg : Message) (o : Outcome) → M.total (M.after_say p msg o).other.sent ≡ M.total p.other.sent
say_rests p msg outcome.Said = refl
say_rests p msg other = refl

deliver_rests : (p : M.Pair) (o : Outcome) → (M.total (M.after_deliver p o).own.sent ≡ M.total p.own.sent)
    × (M.total (M.after_deliver p o).other.sent ≡ M.total p.other.sent)
deliver_rests p (outcome.Delivered n) = (refl, refl)
deliver_rests p other = (refl, refl)

room_after : (a b : EndState) (l : M.Link) (w : Wires) (s : Step) (o : Outcome) (n : ℕ) → Ready a b → IsInv a b l w → HasRoom l (suc n) → M.IsOutcome l s o
    → HasRoom (M.after l s o) n
room_after a b l w (step.Turn s) o n r i h told =
    let e = ready_at s a b r in
    let p : M.Pair = M.seen_from s l in
    let t : Turns (mine s a b) (yours s a b) p (wires_at s w) (M.turn_of p) (M.after_turn p (M.turn_of p)) =
    turns (mine s a b) (yours s a b) p (wires_at s w) e.own e.other (inv_at s a b l w i) (small_other s l (room_small l (suc n) h)) in
    subst (λ (x : Outcome). HasRoom (M.with_pair s l (M.after_turn p x)) n) (sym told) (room_side s l (M.after_turn p (M.turn_of p)) n h t.grows t.rests)
room_after a b l w (step.Say s msg) o n r i h told =
    let e = ready_at s a b r in
    let p : M.Pair = M.seen_from s l in
    room_side s l (M.after_say p msg o) n h (say_grows (mine s a b) (yours s a b) p (wires_at s w) msg o e.own (inv_at s a b l w i) told) (say_rests p msg o)
room_after a b l w (step.Deliver s k) o n r i h told =
    let p : M.Pair = M.seen_from s l in
    let same = deliver_rests p o in
    room_side s l (M.after_deliver p o) n h (omega (arith, same.0)) same.1
room_after a b l w step.Reset o n r i h told = record { left = omega (arith, h.left); right = omega (arith, h.right) }

-- what comes of a step in the byte link comes of it in the message link, however much was sent
step_told : (a b : EndState) (l : M.Link) (w : Wires) (s : Step) (o : Outcome) (k : B.Link) → Ready a b → IsInv a b l w → M.IsSmall l
    → B.IsStep (link_with l w) s o k → M.IsOutcome l s o
step_told a b l w (step.Turn s) o k r i small is =
    let e = ready_at s a b r in
    let p : M.Pair = M.seen_from s l in
    let turn : B.IsTurn (made p (wires_at s w)) o is.0 = subst (λ (x : B.Pair). B.IsTurn x o is.0) (seen_same s l w) is.1 in
    (turns_so (mine s a b) (yours s a b) p (wires_at s w) o is.0 e.own e.other (inv_at s a b l w i) (small_other s l small) turn).told
step_told a b l w (step.Say s msg) o k r i small is =
    let e = ready_at s a b r in
    let p : M.Pair = M.seen_from s l in
    let say : B.IsSay (made p (wires_at s w)) msg o is.0 = subst (λ (x : B.Pair). B.IsSay x msg o is.0) (seen_same s l w) is.1 in
    say_is_told (mine s a b) (yours s a b) p (wires_at s w) msg o is.0 e.own (inv_at s a b l w i) (small_other s l small) say
step_told a b l w (step.Deliver s n) o k r i small is =
    let p : M.Pair = M.seen_from s l in
    let d : Delivers (mine s a b) (yours s a b) p (wires_at s w) n = delivers (mine s a b) (yours s a b) p (wires_at s w) n (inv_at s a b l w i) in
    let delivery : B.IsDelivery (made p (wires_at s w)) n o is.0 = subst (λ (x : B.Pair). B.IsDelivery x n o is.0) (seen_same s l w) is.1 in
    delivery.0 ∙ sym d.delivery.0
step_told a b l w step.Reset o k r i small is = is.0

small_bytes : {a b : EndState} (ss : List Step) (os : List Outcome) {l : M.Link} {j : B.Link} (k : B.Link) → Ready a b → IsLinkOf a b l j → AreWritten ss
    → HasRoom l (length ss) → B.AreSteps j ss os k → M.StaysSmall l ss os
small_bytes [] os {l} k r h written room is = room_small l 0 room
small_bytes (s ∷ ss) [] k r h written room is = absurd is
small_bytes {a} {b} (s ∷ ss) (o ∷ os) {l} k r h written room is =
    let first : B.IsStep (link_with l h.wires) s o is.0 = subst (λ (x : B.Link). B.IsStep x s o is.0) h.same is.1 in
    let small = room_small l (suc (length ss)) room in
    let told : M.IsOutcome l s o = step_told a b l h.wires s o is.0 r h.inv small first in
    let later : HasRoom (M.after l s o) (length ss) = room_after a b l h.wires s o (length ss) r h.inv room told in
    let one = step_follows l h.wires s o is.0 r h.inv written.0 small (room_small (M.after l s o) (length ss) later) first in
    (small, small_bytes ss os k r one.1 written.1 later is.2)

small_messages : (a b : EndState) (ss : List Step) (os : List Outcome) (l : M.Link) (j : B.Link) → Ready a b → IsLinkOf a b l j → AreWritten ss
    → HasRoom l (length ss) → M.AreOutcomes l ss os → M.StaysSmall l ss os
small_messages a b [] os l j r h written room told = room_small l 0 room
small_messages a b (s ∷ ss) [] l j r h written room told = absurd told
small_messages a b (s ∷ ss) (o ∷ os) l j r h written room told =
    let small = room_small l (suc (length ss)) room in
    let later : HasRoom (M.after l s o) (length ss) = room_after a b l h.wires s o (length ss) r h.inv room told.0 in
    let one = step_goes l h.wires s o r h.inv written.0 small (room_small (M.after l s o) (length ss) later) told.0 in
    (small, small_messages a b ss os (M.after l s o) one.0 r one.2 written.1 later told.1)

first_room : (a b : EndState) (ss : List Step) → length ss ≤ 4294967296 → HasRoom (M.link_of a b) (length ss)
first_room a b ss few = record { left = omega arith; right = omega arith }

pub few_steps_stay_small : FewStepsStaySmall
few_steps_stay_small a b ss os h = (
  λ k is. small_bytes ss os k (record { own = h.left.is; other = h.right.is; matched = h.matched })
      (linked_new a b h.left h.right h.matched) h.written (first_room a b ss h.few) is,
  λ told. small_messages a b ss os (M.link_of a b) (B.link_of a b) (record { own = h.left.is; other = h.right.is; matched = h.matched })
      (linked_new a b h.left h.right h.matched) h.written (first_room a b ss h.few) told,
)

-- ---- one outcome

one_outcome : {a b : EndState} (l : M.Link) (w : Wires) (s : Step) (o p : Outcome) → Ready a b → IsInv a b l w → IsWritten s → M.IsOutcome l s o
    → M.IsOutcome l s p → o ≡ p
one_outcome l w (step.Turn s) o p r i written h k = h ∙ sym k
one_outcome {a} {b} l w (step.Say s msg) o p r i written h k = one_say o p
    (ready_at s a b r).own (inv_at s a b l w i) written h k
one_outcome l w (step.Deliver s n) o p r i written h k = h ∙ sym k
one_outcome l w step.Reset o p r i written h k = h ∙ sym k

one_run : {a b : EndState} (ss : List Step) (os ps : List Outcome) {l : M.Link} {j : B.Link} → Ready a b → IsLinkOf a b l j → AreWritten ss
    → M.StaysSmall l ss os → M.AreOutcomes l ss os → M.AreOutcomes l ss ps → os ≡ ps
one_run [] [] [] r h written small x y = refl
one_run [] [] (p ∷ ps) r h written small x y = absurd y
one_run [] (o ∷ os) ps r h written small x y = absurd x
one_run (s ∷ ss) [] ps r h written small x y = absurd x
one_run (s ∷ ss) (o ∷ os) [] r h written small x y = absurd y
one_run {a} {b} (s ∷ ss) (o ∷ os) (p ∷ ps) {l} r h written small x y =
    let same : o ≡ p = one_outcome l h.wires s o p r h.inv written.0 x.0 y.0 in
    let one = step_goes l h.wires s o r h.inv written.0 small.0 (small_now (M.after l s o) ss os small.1) x.0 in
    let later : M.AreOutcomes (M.after l s o) ss ps = subst (λ (z : Outcome). M.AreOutcomes (M.after l s z) ss ps) (sym same) y.1 in
    ap (λ (z : Outcome). z ∷ os) same ∙ ap (λ (zs : List Outcome). p ∷ zs) (one_run ss os ps r one.2 written.1 small.1 x.1 later)

pub outcomes_are_one : OutcomesAreOne
outcomes_are_one a b ss os ps h x y = one_run ss os ps (readied a b ss os h) (linked a b ss os h) h.written h.small x y

-- ---- what is queued

small_end : (l : M.Link) (ss : List Step) (os : List Outcome) → M.StaysSmall l ss os → M.IsSmall (M.after_all l ss os)
small_end l [] os h = h
small_end l (s ∷ ss) [] h = h
small_end l (s ∷ ss) (o ∷ os) h = small_end (M.after l s o) ss os h.1

pub queued_may_be_sent : QueuedMayBeSent
queued_may_be_sent a b ss os k h is =
    let small : M.StaysSmall (M.link_of a b) ss os = (few_steps_stay_small a b ss os h).0 k is in
    let r = (runs a b ss os k (record { left = h.left; right = h.right; matched = h.matched; written = h.written; small = small }) is).1 in
    let e : M.Link = M.after_all (M.link_of a b) ss os in
    let few = small_end (M.link_of a b) ss os small in
    let mine_well : B.QueuesWell (link_with e r.wires).left = queues_well a b (M.seen_from Left e) r.wires h.left.is h.right.is r.inv few.1 in
    let yours_well : B.QueuesWell (link_with e r.wires).right = queues_well b a (M.seen_from Right e) (turned r.wires) h.right.is h.left.is
    (inv_turned a b (M.seen_from Left e) r.wires r.inv) few.0 in
    (subst (λ (x : B.Link). B.QueuesWell x.left) (sym r.same) mine_well, subst (λ (x : B.Link). B.QueuesWell x.right) (sym r.same) yours_well)
