-- What goes one way over a wire, as steps of the byte link: a delivery, and then turns.
use Rattle.std.proofs.Common.{◌≡◌, ◌⊎◌, ℕ, suc, ◌+◌, ◌≤◌, inl, inr, min, Bool, true, false, List, [], ◌∷◌, ◌++◌, length, take, drop, slice_get}
use Rattle.std.proofs.Common.{Option, Some, None, Result, Ok, Err, refl, sym, ap, subst, ◌∙◌, arith, length-append}
use Rattle.std.proofs.lemmas.List.{drop_all, append-nil, length-take-le, nil_from_length}
use Rattle.std.specs.Io.KnownBytes.{Consumes, Appends}
use Rattle.bt_wire.specs.declared.item.Item.{Item}
use Rattle.bt_wire.specs.declared.item.Refusal.{Refusal}
use Rattle.bt_wire.specs.Handshakes.{hand_fault}
use Rattle.bt_feed.specs.Answers.{after}
use Rattle.bt_feed.specs.Feeds.{taken}
use Rattle.bt_feed.specs.Stages.{is_closed}
use Rattle.bt_feed.proofs.FeedLaws.{least_taken}
use Rattle.bt_end.specs.Ends.{EndState, react}
use Rattle.bt_end.specs.Halves.{HalfState, with_feed, reacted, received, without_sent, stopping, connected, IsAnswered, IsTurned, AreHandled}
use Rattle.bt_end.specs.declared.end.Turn.TheVariants.{Handled, Idle}
use Rattle.bt_end.specs.declared.end.TurnError.{TurnError}
use Rattle.bt_end.specs.declared.end.TurnError.TheVariants as turn_error
use Rattle.bt_end.proofs.Handling.{idle_used}
use Rattle.bt_session.specs.ByteLinks as B
use Rattle.bt_session.specs.FetchLaws.{IsMove, AreMoves}
use Rattle.bt_session.specs.declared.link.Outcome.{Outcome}
use Rattle.bt_session.specs.declared.link.Outcome.TheVariants as outcome
use Rattle.bt_session.specs.declared.link.Side.{Side}
use Rattle.bt_session.specs.declared.link.Side.TheVariants.{Left, Right}
use Rattle.bt_session.specs.declared.link.Step.{Step}
use Rattle.bt_session.specs.declared.link.Step.TheVariants as step
use Rattle.bt_loop.specs.Rounds.{IsCarried, IsWay, IsHalt, is_halt}
use Rattle.bt_loop.specs.Runs.{IsGiven, IsEndOf, delivered, delivered_by}
use Rattle.bt_loop.specs.Wires.{WireSeen, coming, other}

-- ---- sides

seen_with : (s : Side) (l : B.Link) (p : B.Pair) → B.seen_from s (B.with_pair s l p) ≡ p
seen_with Left l p = refl
seen_with Right l p = refl

-- ---- one after the other

pub steps_both : (ss ts : List Step) (os ps : List Outcome) (l m k : B.Link) → B.AreSteps l ss os m → B.AreSteps m ts ps k
    → B.AreSteps l (ss ++ ts) (os ++ ps) k
steps_both [] ts [] ps l m k h g = subst (λ (x : B.Link). B.AreSteps x ts ps k) h g
steps_both [] ts (o ∷ os) ps l m k h g = absurd h
steps_both (s ∷ ss) ts [] ps l m k h g = absurd h
steps_both (s ∷ ss) ts (o ∷ os) ps l m k h g = (h.0, h.1, steps_both ss ts os ps h.0 m k h.2 g)

pub moves_both : (ss ts : List Step) → AreMoves ss → AreMoves ts → AreMoves (ss ++ ts)
moves_both [] ts h g = g
moves_both (s ∷ ss) ts h g = (h.0, moves_both ss ts h.1 g)

delivered_both : (os ps : List Outcome) → delivered (os ++ ps) ≡ delivered os + delivered ps
delivered_both [] ps = omega arith
delivered_both (o ∷ os) ps = omega (arith, delivered_both os ps)

-- ---- links that moves reach

-- steps of the byte link of two new ends lead to this link, and deliver n bytes; nothing is said or reset
pub record IsReached (a b : EndState) (l : B.Link) (n : ℕ) : Type 0 where
  pub steps : List Step
  pub outcomes : List Outcome
  pub are : B.AreSteps (B.link_of a b) steps outcomes l
  pub moves : AreMoves steps
  pub all : delivered outcomes ≡ n

reached_more : {a b : EndState} {l : B.Link} {n : ℕ} (s : Step) (o : Outcome) (k : B.Link) → IsReached a b l n → IsMove s → B.IsStep l s o k
    → IsReached a b k (n + delivered_by o)
reached_more {a} {b} {l} {n} s o k r m is = record {
  steps = r.steps ++ s ∷ [];
  outcomes = r.outcomes ++ o ∷ [];
  are = steps_both r.steps (s ∷ []) r.outcomes (o ∷ []) (B.link_of a b) l k r.are (k, is, refl);
  moves = moves_both r.steps (s ∷ []) r.moves (m, tt);
  all = omega (arith, delivered_both r.outcomes (o ∷ []), r.all);
}

-- the node has this half, with these bytes untaken, and its feed takes of them what it may
given : (x : B.Node) (half : HalfState) (bytes : List ℕ) → x.half ≡ half → x.untaken ≡ bytes → IsGiven half bytes (B.fed x)
given x half bytes e f = (λ i. received (e i) (f i), λ i. drop (taken (e i).feed (f i)) (f i))

-- ---- a delivery

-- n bytes more were delivered to the side s
record HasDelivered (a b : EndState) (s : Side) (l : B.Link) (n : ℕ) (half : HalfState) (bytes : List ℕ) : Type 0 where
  link : B.Link
  reached : IsReached a b link (n + length bytes)
  own : IsGiven half bytes (B.seen_from s link).own
  other : (B.seen_from s link).other ≡ B.with_half (B.seen_from s l).other (without_sent (length bytes) (B.seen_from s l).other.half)
  items : length (B.seen_from s link).own.handled ≡ length (B.seen_from s l).own.handled

delivers : {a b : EndState} {n : ℕ} (s : Side) (l : B.Link) (half sender : HalfState) (bytes : List ℕ) → IsReached a b l n
    → (B.seen_from s l).own.half ≡ half → (B.seen_from s l).own.untaken ≡ [] → (B.seen_from s l).other.half ≡ sender
    → bytes ≡ take (length bytes) sender.outbox → length bytes ≤ length sender.outbox → HasDelivered a b s l n half bytes
delivers {a} {b} {n} s l half sender bytes r e none f is le =
    let p : B.Pair = B.seen_from s l in
    let k : ℕ = length bytes in
    let q : B.Pair = B.delivers p k in
    let next : B.Link = B.with_pair s l q in
    let outbox : p.other.half.outbox ≡ sender.outbox = ap (λ (x : HalfState). x.outbox) f in
    let count : k ≡ min k (length p.other.half.outbox) = omega (arith, le, ap (length {A = ℕ}) outbox) in
    let is_delivery : B.IsDelivery p k (outcome.Delivered k) q = (ap outcome.Delivered count, ap (B.delivers p) count) in
    let one : B.IsStep l (step.Deliver s k) (outcome.Delivered k) next = (q, is_delivery, refl) in
    let all : p.own.untaken ++ take k p.other.half.outbox ≡ bytes =
    ap (λ (u : List ℕ). u ++ take k p.other.half.outbox) none ∙ ap (λ (o : List ℕ). take k o) outbox ∙ sym is in
    let own : IsGiven half bytes q.own = given (record p.own { untaken = p.own.untaken ++ take k p.other.half.outbox }) half bytes e all in
    let seen : B.seen_from s next ≡ q = seen_with s l q in
    record {
      link = next;
      reached = reached_more (step.Deliver s k) (outcome.Delivered k) next r tt one;
      own = subst (λ (x : B.Pair). IsGiven half bytes x.own) (sym seen) own;
      other = ap (λ (x : B.Pair). x.other) seen;
      items = ap (λ (x : B.Pair). length x.own.handled) seen;
    }

-- ---- turns

-- the end at the side s took turns and handled `items` items; then it was `last`, was given `bytes`, and a turn stopped it so
record HasTaken (a b : EndState) (s : Side) (l : B.Link) (n items : ℕ) (stop : Result Unit TurnError) (end : HalfState) : Type 0 where
  link : B.Link
  reached : IsReached a b link n
  last : HalfState
  bytes : List ℕ
  own : IsGiven last bytes (B.seen_from s link).own
  turned : IsTurned (received last bytes) (stopping stop) end
  other : (B.seen_from s link).other ≡ (B.seen_from s l).other
  items_are : length (B.seen_from s link).own.handled ≡ length (B.seen_from s l).own.handled + items

-- one turn that handles an item
record HasHandled (a b : EndState) (s : Side) (l : B.Link) (n : ℕ) (half : HalfState) (rest : List ℕ) : Type 0 where
  link : B.Link
  reached : IsReached a b link n
  own : IsGiven half rest (B.seen_from s link).own
  other : (B.seen_from s link).other ≡ (B.seen_from s l).other
  items_are : length (B.seen_from s link).own.handled ≡ length (B.seen_from s l).own.handled + 1

handles : {a b : EndState} {n : ℕ} (s : Side) (l : B.Link) (half next : HalfState) (bytes : List ℕ) → IsReached a b l n
    → IsGiven half bytes (B.seen_from s l).own → IsTurned (received half bytes) (Ok Handled) next
    → HasHandled a b s l n next (drop (taken half.feed bytes) bytes)
handles {a} {b} {n} s l half next bytes r g h =
    let p : B.Pair = B.seen_from s l in
    let item : Item = h.0 in
    let y : B.Node = B.handles p.own item in
    let q : B.Pair = record { own = B.fed y; other = p.other } in
    let link : B.Link = B.with_pair s l q in
    let answered : IsAnswered p.own.half (Ok (Some item)) = subst (λ (x : HalfState). IsAnswered x (Ok (Some item))) (sym g.0) h.1 in
    let one : B.IsStep l (step.Turn s) outcome.Handled link = (q, (y, (item, answered, refl), refl), refl) in
    let F : HalfState → HalfState = λ x. reacted (with_feed x (after x.feed (Ok (Some item)))) (react x.end item) in
    let rest : List ℕ = drop (taken half.feed bytes) bytes in
    let own : IsGiven next rest q.own = given y next rest (ap F g.0 ∙ sym h.2) g.1 in
    let seen : B.seen_from s link ≡ q = seen_with s l q in
    record {
      link = link;
      reached = subst (λ (k : ℕ). IsReached a b link k) (omega arith) (reached_more (step.Turn s) outcome.Handled link r tt one);
      own = subst (λ (x : B.Pair). IsGiven next rest x.own) (sym seen) own;
      other = ap (λ (x : B.Pair). x.other) seen;
      items_are = ap (λ (x : B.Pair). length x.own.handled) seen ∙ length-append p.own.handled (item ∷ []);
    }

takes : {a b : EndState} {n : ℕ} (s : Side) (ends : List HalfState) (l : B.Link) (half end : HalfState) (bytes : List ℕ) (used : ℕ)
    (stop : Result Unit TurnError) → IsReached a b l n → IsGiven half bytes (B.seen_from s l).own → AreHandled ends half bytes used stop end
    → HasTaken a b s l n (length ends) stop end
takes s [] l half end bytes used stop r g h = record {
  link = l;
  reached = r;
  last = half;
  bytes = bytes;
  own = g;
  turned = h.1;
  other = refl;
  items_are = omega arith;
}
takes s (next ∷ ends) l half end bytes used stop r g h =
    let one = handles s l half next bytes r g h.0 in
    let more = takes s ends one.link next end (drop (taken half.feed bytes) bytes) h.1.0 stop one.reached one.own h.1.2 in
    record {
      link = more.link;
      reached = more.reached;
      last = more.last;
      bytes = more.bytes;
      own = more.own;
      turned = more.turned;
      other = more.other ∙ one.other;
      items_are = omega (arith, more.items_are, one.items_are);
    }

-- an idle turn leaves no byte untaken, and awaits more
none_left : (last end : HalfState) (bytes : List ℕ) → IsTurned (received last bytes) (Ok Idle) end
    → (drop (taken last.feed bytes) bytes ≡ []) × (is_closed end.feed.stage end.feed.held ≡ false)
none_left last end bytes h =
    let all : 0 + taken last.feed bytes ≡ length bytes =
    idle_used last end bytes bytes 0 (taken last.feed bytes) refl refl (least_taken last.feed bytes).0 (omega arith) h in (
      drop_all (taken last.feed bytes) bytes (omega (arith, all)),
      subst (λ (x : HalfState). is_closed x.feed.stage x.feed.held ≡ false) (sym h.1) h.0.1,
    )

-- ---- one way

-- Seen from the side s, a link that moves reach has these ends; they handled so many items, and each awaits more.
pub record Follows (a b : EndState) (s : Side) (n : ℕ) (own other : HalfState) (own_items other_items : ℕ) : Type 0 where
  pub link : B.Link
  pub reached : IsReached a b link n
  pub own_is : IsEndOf own own_items (B.seen_from s link).own
  pub other_is : IsEndOf other other_items (B.seen_from s link).other
  pub own_open : is_closed own.feed.stage own.feed.held ≡ false
  pub other_open : is_closed other.feed.stage other.feed.held ≡ false

pub follows_at_other : {a b : EndState} {n : ℕ} {x y : HalfState} {k m : ℕ} (s : Side) → Follows a b s n x y k m → Follows a b (other s) n y x m k
follows_at_other Left f =
    record { link = f.link; reached = f.reached; own_is = f.other_is; other_is = f.own_is; own_open = f.other_open; other_open = f.own_open }
follows_at_other Right f =
    record { link = f.link; reached = f.reached; own_is = f.other_is; other_is = f.own_is; own_open = f.other_open; other_open = f.own_open }

appended : (old new : Option (List ℕ)) (xs bytes : List ℕ) → old ≡ Some xs → Appends old new bytes → new ≡ Some (xs ++ bytes)
appended None new xs bytes e a = absurd cc
appended (Some ys) None xs bytes e a = absurd a
appended (Some ys) (Some zs) xs bytes e a =
    let same : ys ≡ xs = cc in
    ap Some (a ∙ ap (λ (x : List ℕ). x ++ bytes) same)

consumed : (old new : Option (List ℕ)) (xs bytes : List ℕ) → old ≡ Some xs → Consumes old new bytes
    → (rest : List ℕ) × (new ≡ Some rest) × (xs ≡ bytes ++ rest)
consumed None new xs bytes e c = absurd cc
consumed (Some ys) None xs bytes e c = absurd c
consumed (Some ys) (Some zs) xs bytes e c =
    let same : ys ≡ xs = cc in
    (zs, refl, sym same ∙ c)

-- of as many bytes nothing is left
all_of : (xs bytes rest : List ℕ) → xs ≡ bytes ++ rest → length xs ≡ length bytes → (rest ≡ []) × (bytes ≡ xs)
all_of xs bytes rest e same =
    let none : rest ≡ [] = nil_from_length rest (omega (arith, same, ap (length {A = ℕ}) e, length-append bytes rest)) in
    (none, sym (e ∙ ap (λ (x : List ℕ). bytes ++ x) none ∙ append-nil bytes))

-- what came is what was sent, and nothing is left on the way
came : {stop : Result Unit TurnError} {s t : WireSeen} {a a' b b' : HalfState} {items : ℕ} (from : Side) (c : IsCarried from stop s t a a' b b' items)
    → coming (other from) s ≡ Some [] → (coming (other from) t ≡ Some []) × (c.bytes ≡ take (length c.bytes) a.outbox)
came {s} {t} {a} from c clear =
    let sent : List ℕ = take (length c.bytes) a.outbox in
    let middle : c.middle ≡ Some sent = appended (coming (other from) s) c.middle [] sent clear c.goes in
    let rest = consumed c.middle (coming (other from) t) sent c.bytes middle c.comes in
    let size : length sent ≡ length c.bytes = length-take-le (length c.bytes) a.outbox (omega (arith, c.most)) in
    let all = all_of sent c.bytes rest.0 rest.2 size in
    (rest.1 ∙ ap Some all.0, all.1)

-- the turns that follow a delivery
carried_turns : {a b : EndState} {stop : Result Unit TurnError} {s t : WireSeen} {x x' y y' : HalfState} {items n k m : ℕ} (from : Side)
    (f : Follows a b (other from) n y x k m) (c : IsCarried from stop s t x x' y y' items) → coming (other from) s ≡ Some []
    → (d : HasDelivered a b (other from) f.link n y c.bytes) × HasTaken a b (other from) d.link (n + length c.bytes) (length c.ends) stop y'
carried_turns {stop} {x} {y} {y'} from f c clear =
    let bytes = came from c clear in
    let d = delivers (other from) f.link y x c.bytes f.reached f.own_is.half f.own_is.untaken f.other_is.half bytes.1 (omega (arith, c.most)) in
    (d, takes (other from) c.ends d.link y y' c.bytes c.used stop d.reached d.own c.handled)

carried_follows : {a b : EndState} {s t : WireSeen} {x x' y y' : HalfState} {items n k m : ℕ} (from : Side)
    (f : Follows a b (other from) n y x k m) (c : IsCarried from (Ok tt) s t x x' y y' items) → coming (other from) s ≡ Some []
    → Follows a b (other from) (n + length c.bytes) y' x' (k + items) m
carried_follows {x} {x'} {y} {y'} {items} {k} {m} from f c clear =
    let side : Side = other from in
    let both = carried_turns from f c clear in
    let d = both.0 in
    let h = both.1 in
    let left = none_left h.last y' h.bytes h.turned in
    let other_node : (B.seen_from side h.link).other ≡ B.with_half (B.seen_from side f.link).other (without_sent (length c.bytes) (B.seen_from side f.link).other.half) =
    h.other ∙ d.other in
    record {
      link = h.link;
      reached = h.reached;
      own_is = record {
        half = h.own.0 ∙ sym h.turned.1;
        untaken = h.own.1 ∙ left.0;
        items = omega (arith, h.items_are, d.items, f.own_is.items, c.count);
      };
      other_is = record {
        half = ap (λ (z : B.Node). z.half) other_node ∙ ap (without_sent (length c.bytes)) f.other_is.half ∙ sym c.sent;
        untaken = ap (λ (z : B.Node). z.untaken) other_node ∙ f.other_is.untaken;
        items = ap (λ (z : B.Node). length z.handled) other_node ∙ f.other_is.items;
      };
      own_open = left.1;
      other_open = subst (λ (z : HalfState). is_closed z.feed.stage z.feed.held ≡ false) (sym c.sent) f.other_open;
    }

-- how many bytes go one way
abbrev pub way_bytes : {from : Side} {s t : WireSeen} {x x' y y' : HalfState} {items : ℕ} → IsWay from s t x x' y y' items → ℕ
way_bytes (inl c) = length c.bytes
way_bytes (inr n) = 0

skipped_follows : {a b : EndState} {s : Side} {x x' y y' : HalfState} {items n k m : ℕ} → x' ≡ x → y' ≡ y → items ≡ 0
    → Follows a b s n y x k m → Follows a b s (n + 0) y' x' (k + items) m
skipped_follows {a} {b} {s} {x} {x'} {y} {y'} {items} {n} {k} {m} e f none h =
    let P : HalfState → HalfState → Type 0 = λ v w. Follows a b s n v w k m in
    let here : P y' x' = subst (P y') (sym e) (subst (λ (v : HalfState). P v x) (sym f) h) in
    let Q : ℕ → ℕ → Type 0 = λ v w. Follows a b s v y' x' w m in
    subst (Q (n + 0)) (omega (arith, none)) (subst (λ (v : ℕ). Q v k) (omega arith) here)

-- nothing is on its way to either side
abbrev pub IsEmpty : WireSeen → Type 0
IsEmpty s = (coming Left s ≡ Some []) × (coming Right s ≡ Some [])

pub way_follows : {a b : EndState} {s t : WireSeen} {x x' y y' : HalfState} {items n k m : ℕ} (from : Side)
    (f : Follows a b (other from) n y x k m) (w : IsWay from s t x x' y y' items) → coming (other from) s ≡ Some []
    → Follows a b (other from) (n + way_bytes w) y' x' (k + items) m
way_follows from f (inl c) clear = carried_follows from f c clear
way_follows from f (inr n) clear = skipped_follows n.sender n.receiver n.none f

-- and nothing is left on the way
pub way_clear : {s t : WireSeen} {x x' y y' : HalfState} {items : ℕ} (from : Side) → IsWay from s t x x' y y' items
    → coming (other from) s ≡ Some [] → coming from s ≡ Some [] → (coming (other from) t ≡ Some []) × (coming from t ≡ Some [])
way_clear from (inl c) to back = ((came from c to).0, c.back ∙ back)
way_clear from (inr n) to back = (ap (coming (other from)) n.seen ∙ to, ap (coming from) n.seen ∙ back)

-- ---- an end that stops

abbrev pub IsStopping : Outcome → Type 0
IsStopping (outcome.Refused r) = Unit {0}
IsStopping outcome.Busy = Unit {0}
IsStopping other = ⊥

-- steps of the byte link, of which the last one is a refusal, or finds that too much waits to be sent
pub record IsStopped (a b : EndState) : Type 0 where
  pub steps : List Step
  pub outcomes : List Outcome
  pub link : B.Link
  pub are : B.AreSteps (B.link_of a b) steps outcomes link
  pub moves : AreMoves steps
  pub at : ℕ
  pub why : Outcome
  pub stops : IsStopping why
  pub there : slice_get outcomes at ≡ Some why

last_at : (os : List Outcome) (o : Outcome) → slice_get (os ++ o ∷ []) (length os) ≡ Some o
last_at [] o = refl
last_at (x ∷ os) o = last_at os o

stopped : {a b : EndState} {n : ℕ} (s : Side) (l : B.Link) (end : HalfState) (o : Outcome) → IsStopping o → IsReached a b l n
    → B.TurnGives (B.seen_from s l).own o (B.with_half (B.seen_from s l).own end) → IsStopped a b
stopped {a} {b} s l end o stops r h =
    let p : B.Pair = B.seen_from s l in
    let y : B.Node = B.with_half p.own end in
    let q : B.Pair = record { own = B.fed y; other = p.other } in
    let next : B.Link = B.with_pair s l q in
    let one : B.IsStep l (step.Turn s) o next = (q, (y, h, refl), refl) in
    record {
      steps = r.steps ++ step.Turn s ∷ [];
      outcomes = r.outcomes ++ o ∷ [];
      link = next;
      are = steps_both r.steps (step.Turn s ∷ []) r.outcomes (o ∷ []) (B.link_of a b) l next r.are (next, one, refl);
      moves = moves_both r.steps (step.Turn s ∷ []) r.moves (tt, tt);
      at = length r.outcomes;
      why = o;
      stops = stops;
      there = last_at r.outcomes o;
    }

stopped_by : {a b : EndState} {n : ℕ} (s : Side) (l : B.Link) (last end : HalfState) (bytes : List ℕ) (e : TurnError) → is_halt e ≡ true
    → IsReached a b l n → IsGiven last bytes (B.seen_from s l).own → IsTurned (received last bytes) (Err e) end → IsStopped a b
stopped_by s l last end bytes (turn_error.Refused r) is reached g h =
    stopped s l end (outcome.Refused r) tt reached (subst (λ (x : HalfState). IsTurned x (Err (turn_error.Refused r)) end) (sym g.0) h, refl)
stopped_by s l last end bytes turn_error.Busy is reached g h =
    stopped s l end outcome.Busy tt reached (subst (λ (x : HalfState). IsTurned x (Err turn_error.Busy) end) (sym g.0) h, refl)
stopped_by s l last end bytes turn_error.Memory is reached g h = absurd cc

pub halt_stops : {a b : EndState} {s t : WireSeen} {x x' y y' : HalfState} {n k m : ℕ} (from : Side) → Follows a b (other from) n y x k m
    → IsHalt from s t x x' y y' → coming (other from) s ≡ Some [] → IsStopped a b
halt_stops {y'} from f h clear =
    let turns = (carried_turns from f h.3 clear).1 in
    stopped_by (other from) turns.link turns.last y' turns.bytes h.0 h.2 turns.reached turns.own turns.turned

-- ---- the start

pub starts : (a b : EndState) → Follows a b Left 0 (connected a) (connected b) 0 0
unfolding hand_fault
starts a b = record {
  link = B.link_of a b;
  reached = record { steps = []; outcomes = []; are = refl; moves = tt; all = refl };
  own_is = record { half = refl; untaken = refl; items = refl };
  other_is = record { half = refl; untaken = refl; items = refl };
  own_open = refl;
  other_open = refl;
}
