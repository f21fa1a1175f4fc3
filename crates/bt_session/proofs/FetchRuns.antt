-- The laws of a fetch from an end that serves, over all steps of a run.
use Rattle.std.proofs.Common.{◌≡◌, ℕ, zero, suc, ◌+◌, ◌*◌, ◌<◌, ◌≤◌, Bool, true, false, if◌then◌else◌, List, [], ◌∷◌, ◌++◌, length, map, take, drop}
use Rattle.std.proofs.Common.{Option, Some, None, slice_get, nat_le, refl, sym, ap, subst, ◌∙◌, arith}
use Rattle.std.proofs.lemmas.Bool.{leb-true}
use Rattle.std.proofs.lemmas.List.{drop_all, length-map, length-append, take-append-le}
use Rattle.bt_ext.specs.Metadata.{block_count}
use Rattle.bt_wire.specs.declared.item.Item.{Item}
use Rattle.bt_wire.specs.declared.item.Item.TheVariants as items
use Rattle.bt_wire.specs.Messages.{Message}
use Rattle.bt_metadata.specs.Blocks.{window}
use Rattle.bt_end.specs.Ends.{EndState, Part, react, metadata_of, request_for}
use Rattle.bt_end.specs.Halves.{high_water}
use Rattle.bt_session.specs.FetchLaws.{IsFetchPair, IsMove, AreMoves, FetchIsShort, FetchIsWhole, FetchIsFree}
use Rattle.bt_session.specs.MessageLinks.{Node, Link, Pair, total, link_of, next_item, seen_from, turn_by, turn_of, handles, after, after_all, after_turn}
use Rattle.bt_session.specs.MessageLinks.{after_deliver, undelivered, IsOutcome, AreOutcomes}
use Rattle.bt_session.specs.declared.link.Outcome.{Outcome}
use Rattle.bt_session.specs.declared.link.Outcome.TheVariants as outcome
use Rattle.bt_session.specs.declared.link.Side.TheVariants.{Left, Right}
use Rattle.bt_session.specs.declared.link.Step.{Step}
use Rattle.bt_session.specs.declared.link.Step.TheVariants as step
use Rattle.bt_session.proofs.FetchInvariant.{is_open, greetings, Pending, Way, short_total, no_rest, PartIs, Sides, Inv, delivered_inv}
use Rattle.bt_session.proofs.FetchInvariant.{inv_starts, server_turns, fetcher_turns}
use Rattle.bt_session.proofs.FetchParts.{fetch_ends}
use Rattle.bt_session.proofs.FetchReactions.{Heard, Unheard, Opened, Known, greeting_message, data_message, AreShort, IsAsked}
use Rattle.bt_session.proofs.UnderWay.{total_parts}

-- ---- the invariant over steps

turn_left_inv : (metadata : List ℕ) (a b : EndState) (l : Link) (o : Outcome) → IsFetchPair metadata a b → Inv metadata a b l.left l.right
    → Inv metadata a b (after_turn (seen_from Left l) o).own (after_turn (seen_from Left l) o).other
turn_left_inv metadata a b l outcome.Handled p v = server_turns metadata a b l.left l.right (next_item l.right) p v refl
turn_left_inv metadata a b l o p v = v

turn_right_inv : (metadata : List ℕ) (a b : EndState) (l : Link) (o : Outcome) → IsFetchPair metadata a b → Inv metadata a b l.left l.right
    → Inv metadata a b (after_turn (seen_from Right l) o).other (after_turn (seen_from Right l) o).own
turn_right_inv metadata a b l outcome.Handled p v = fetcher_turns metadata a b l.left l.right (next_item l.left) p v refl
turn_right_inv metadata a b l o p v = v

deliver_left_inv : (metadata : List ℕ) (a b : EndState) (l : Link) (o : Outcome) → Inv metadata a b l.left l.right
    → Inv metadata a b (after_deliver (seen_from Left l) o).own (after_deliver (seen_from Left l) o).other
deliver_left_inv metadata a b l (outcome.Delivered k) v = delivered_inv metadata a b l.left l.right l.left.delivered (l.right.delivered + k) v
deliver_left_inv metadata a b l o v = v

deliver_right_inv : (metadata : List ℕ) (a b : EndState) (l : Link) (o : Outcome) → Inv metadata a b l.left l.right
    → Inv metadata a b (after_deliver (seen_from Right l) o).other (after_deliver (seen_from Right l) o).own
deliver_right_inv metadata a b l (outcome.Delivered k) v = delivered_inv metadata a b l.left l.right (l.left.delivered + k) l.right.delivered v
deliver_right_inv metadata a b l o v = v

inv_after : (metadata : List ℕ) (a b : EndState) (l : Link) (s : Step) (o : Outcome) → IsFetchPair metadata a b → IsMove s
    → Inv metadata a b l.left l.right → Inv metadata a b (after l s o).left (after l s o).right
inv_after metadata a b l (step.Turn Left) o p move v = turn_left_inv metadata a b l o p v
inv_after metadata a b l (step.Turn Right) o p move v = turn_right_inv metadata a b l o p v
inv_after metadata a b l (step.Deliver Left n) o p move v = deliver_left_inv metadata a b l o v
inv_after metadata a b l (step.Deliver Right n) o p move v = deliver_right_inv metadata a b l o v
inv_after metadata a b l (step.Say s msg) o p move v = absurd move
inv_after metadata a b l step.Reset o p move v = absurd move

inv_all : (metadata : List ℕ) (a b : EndState) (l : Link) (steps : List Step) (outcomes : List Outcome) → IsFetchPair metadata a b → AreMoves steps
    → Inv metadata a b l.left l.right → Inv metadata a b (after_all l steps outcomes).left (after_all l steps outcomes).right
inv_all metadata a b l [] os p moves v = v
inv_all metadata a b l (s ∷ ss) [] p moves v = v
inv_all metadata a b l (s ∷ ss) (o ∷ os) p moves v =
    inv_all metadata a b (after l s o) ss os p moves.1 (inv_after metadata a b l s o p moves.0 v)

inv_run : (metadata : List ℕ) (a b : EndState) (steps : List Step) (outcomes : List Outcome) → IsFetchPair metadata a b → AreMoves steps
    → Inv metadata a b (after_all (link_of a b) steps outcomes).left (after_all (link_of a b) steps outcomes).right
inv_run metadata a b steps outcomes p moves = inv_all metadata a b (link_of a b) steps outcomes p moves (inv_starts metadata a b p)

-- ---- few bytes

asked_few : (stage : Heard) (metadata : List ℕ) (b : EndState) (q : Part) (answered waiting : List ℕ) (asked : ℕ)
    → PartIs stage metadata b q answered waiting asked → asked ≤ block_count (length metadata)
asked_few Unheard metadata b q answered waiting asked h = omega (arith, h.3)
asked_few Opened metadata b q answered waiting asked h = omega (arith, h.3)
asked_few Known metadata b q answered waiting asked h = omega (arith, h.1)

greetings_few : (stage : Heard) → greetings stage ≤ 3
greetings_few Unheard = omega arith
greetings_few Opened = omega arith
greetings_few Known = omega arith

both_few : (n x y i j : ℕ) → x + 16542 ≤ 16610 * i → y + 16542 ≤ 16610 * j → i ≤ 3 + n → j ≤ 3 + n → x + y ≤ 136 + 16610 * (4 + 2 * n)
both_few n x y i j h k f g = omega (arith, h, k, f, g)

pub fetch_is_short : FetchIsShort
fetch_is_short metadata a b steps outcomes p moves =
    let l : Link = after_all (link_of a b) steps outcomes in
    let v = inv_run metadata a b steps outcomes p moves in
    let s = v.sides in
    let few : v.asked ≤ block_count (length metadata) = asked_few v.y_stage metadata b l.right.end.part v.answered v.waiting v.asked s.part in
    both_few (block_count (length metadata)) (total l.left.sent) (total l.right.sent) (length l.left.sent) (length l.right.sent) s.going.bytes s.coming.bytes
    (omega (arith, s.answers, greetings_few v.x_stage, few)) (omega (arith, s.requests, greetings_few v.y_stage, few))

-- ---- the metadata is there in the end

not_unheard : (hand : Item) (greet : Message) (opened : Bool) (rest : List Message) → Pending hand greet opened Unheard rest [] → ⊥
not_unheard hand greet false rest h = let e : [] ≡ hand ∷ [] = h.1 in cc
not_unheard hand greet true rest h = cc

not_opened : (hand : Item) (greet : Message) (rest : List Message) → Pending hand greet true Opened rest [] → ⊥
not_opened hand greet rest h = cc

no_messages : (xs : List Message) → [] ≡ map items.Message xs → xs ≡ []
no_messages [] e = refl
no_messages (x ∷ xs) e = absurd cc

no_blocks : (metadata ks : List ℕ) → map (data_message metadata) ks ≡ [] → ks ≡ []
no_blocks metadata [] e = refl
no_blocks metadata (k ∷ ks) e = absurd cc

no_requests : (ks : List ℕ) → map request_for ks ≡ [] → ks ≡ []
no_requests [] e = refl
no_requests (k ∷ ks) e = absurd cc

-- nothing is under way of what was sent
at_end : (hand : Item) (greet : Message) (opened : Bool) (stage : Heard) (rest : List Message) (sent : List Item) (handled : ℕ)
    → Way hand greet opened stage rest sent handled → handled ≡ length sent → Pending hand greet opened stage rest []
at_end hand greet opened stage rest sent handled w e =
    subst (λ (is : List Item). Pending hand greet opened stage rest is) (drop_all handled sent (omega (arith, e))) w.pending

whole_by : {metadata : List ℕ} {a b : EndState} (x_stage y_stage : Heard) {x_notices y_notices : List Message} {answered waiting : List ℕ} {asked : ℕ}
    {x y : Node} → IsFetchPair metadata a b → Sides metadata a b x_stage y_stage x_notices y_notices answered waiting asked x y
    → Pending (items.Handshake a.handshake) (greeting_message a.own.reg (Some (length metadata))) (is_open x_stage) y_stage
    (x_notices ++ map (data_message metadata) answered) []
    → Pending (items.Handshake b.handshake) (greeting_message b.own.reg None) (is_open y_stage) x_stage (y_notices ++ map request_for waiting) []
    → metadata_of y.end.part ≡ Some metadata
whole_by {b} Unheard y_stage {y_notices} {waiting} p s h k =
    absurd (not_unheard (items.Handshake b.handshake) (greeting_message b.own.reg None) (is_open y_stage) (y_notices ++ map request_for waiting) k)
whole_by {metadata} {a} Opened Unheard {x_notices} {answered} p s h k =
    absurd (not_unheard (items.Handshake a.handshake) (greeting_message a.own.reg (Some (length metadata))) true
    (x_notices ++ map (data_message metadata) answered) h)
whole_by {metadata} {a} Known Unheard {x_notices} {answered} p s h k =
    absurd (not_unheard (items.Handshake a.handshake) (greeting_message a.own.reg (Some (length metadata))) true
    (x_notices ++ map (data_message metadata) answered) h)
whole_by {b} Opened Opened {y_notices} {waiting} p s h k =
    absurd (not_opened (items.Handshake b.handshake) (greeting_message b.own.reg None) (y_notices ++ map request_for waiting) k)
whole_by {b} Opened Known {y_notices} {waiting} p s h k =
    absurd (not_opened (items.Handshake b.handshake) (greeting_message b.own.reg None) (y_notices ++ map request_for waiting) k)
whole_by {metadata} {a} Known Opened {x_notices} {answered} p s h k =
    absurd (not_opened (items.Handshake a.handshake) (greeting_message a.own.reg (Some (length metadata)))
    (x_notices ++ map (data_message metadata) answered) h)
whole_by {metadata} {b} Known Known {x_notices} {y_notices} {answered} {waiting} {y} p s h k =
    let none : answered ≡ [] =
    no_blocks metadata answered (no_rest x_notices (map (data_message metadata) answered)
    (no_messages (x_notices ++ map (data_message metadata) answered) h)) in
    let left : waiting ≡ [] =
    no_requests waiting (no_rest y_notices (map request_for waiting) (no_messages (y_notices ++ map request_for waiting) k)) in
    let asks : IsAsked metadata b.window y.end.part [] =
    subst (λ (ks : List ℕ). IsAsked metadata b.window y.end.part ks) (ap (λ (ks : List ℕ). ks ++ waiting) none ∙ left) s.part.0 in
    ap metadata_of (fetch_ends metadata b.window y.end.part p.least asks.is asks.none)

pub fetch_is_whole : FetchIsWhole
fetch_is_whole metadata a b steps outcomes p moves calm =
    let l : Link = after_all (link_of a b) steps outcomes in
    let v = inv_run metadata a b steps outcomes p moves in
    let s = v.sides in
    whole_by v.x_stage v.y_stage p s
    (at_end (items.Handshake a.handshake) (greeting_message a.own.reg (Some (length metadata))) (is_open v.x_stage) v.y_stage
    (v.x_notices ++ map (data_message metadata) v.answered) l.left.sent l.left.handled s.going calm.0)
    (at_end (items.Handshake b.handshake) (greeting_message b.own.reg None) (is_open v.y_stage) v.x_stage (v.y_notices ++ map request_for v.waiting)
    l.right.sent l.right.handled s.coming calm.1)

-- ---- no end is busy

-- the items that were handled were delivered
abbrev IsPaid : Node → Type 0
IsPaid x = total (take x.handled x.sent) ≤ x.delivered

pending_few : (hand : Item) (greet : Message) (opened : Bool) (stage : Heard) (rest : List Message) (is : List Item) → Pending hand greet opened stage rest is
    → length is ≤ 2 + length rest
pending_few hand greet false Unheard rest is h = omega (arith, ap length h.1)
pending_few hand greet false Opened rest is h = omega (arith, ap length h.1)
pending_few hand greet false Known rest is h = absurd h
pending_few hand greet true Unheard rest is h = omega (arith, ap length h, length-map rest items.Message)
pending_few hand greet true Opened rest is h = omega (arith, ap length h, length-map rest items.Message)
pending_few hand greet true Known rest is h = omega (arith, ap length h, length-map rest items.Message)

under_way_few : (stage : Heard) (metadata : List ℕ) (b : EndState) (q : Part) (answered waiting : List ℕ) (asked : ℕ) → b.window ≤ window
    → PartIs stage metadata b q answered waiting asked → (length answered ≤ 8) × (length waiting ≤ 8)
under_way_few Unheard metadata b q answered waiting asked most h = (omega (arith, ap length h.1), omega (arith, ap length h.2))
under_way_few Opened metadata b q answered waiting asked most h = (omega (arith, ap length h.1), omega (arith, ap length h.2))
under_way_few Known metadata b q answered waiting asked most h =
    let few : length answered + length waiting ≤ 8 = omega (arith, most, h.0.few, length-append answered waiting) in (omega (arith, few), omega (arith, few))

short_later : (n : ℕ) (is : List Item) → AreShort is → AreShort (drop n is)
short_later zero is h = h
short_later (suc n) [] h = tt
short_later (suc n) (i ∷ is) h = short_later n is h.1

way_free : (hand : Item) (greet : Message) (opened : Bool) (stage : Heard) (xs ys : List Message) (x : Node)
    → Way hand greet opened stage (xs ++ ys) x.sent x.handled → IsPaid x → length xs ≤ 1 → length ys ≤ 8 → undelivered x < high_water
way_free hand greet opened stage xs ys x w paid few least =
    let later : List Item = drop x.handled x.sent in
    let short : length later ≤ 11 = omega (arith, pending_few hand greet opened stage (xs ++ ys) later w.pending, length-append xs ys, few, least) in
    omega (arith, total_parts x.handled x.sent, short_total later (short_later x.handled x.sent w.short), short, paid)

left_free : (metadata : List ℕ) (a b : EndState) (x y : Node) → IsFetchPair metadata a b → Inv metadata a b x y → IsPaid x → undelivered x < high_water
left_free metadata a b x y p v paid =
    let s = v.sides in
    let few = under_way_few v.y_stage metadata b y.end.part v.answered v.waiting v.asked p.most s.part in
    way_free (items.Handshake a.handshake) (greeting_message a.own.reg (Some (length metadata))) (is_open v.x_stage) v.y_stage v.x_notices
    (map (data_message metadata) v.answered) x s.going paid s.server_few (omega (arith, few.0, length-map v.answered (data_message metadata)))

right_free : (metadata : List ℕ) (a b : EndState) (x y : Node) → IsFetchPair metadata a b → Inv metadata a b x y → IsPaid y → undelivered y < high_water
right_free metadata a b x y p v paid =
    let s = v.sides in
    let few = under_way_few v.y_stage metadata b y.end.part v.answered v.waiting v.asked p.most s.part in
    way_free (items.Handshake b.handshake) (greeting_message b.own.reg None) (is_open v.y_stage) v.x_stage v.y_notices (map request_for v.waiting) y s.coming
    paid s.fetcher_few (omega (arith, few.1, length-map v.waiting request_for))

both_true : (t u : Bool) → (if t then (if u then outcome.Busy else outcome.Handled) else outcome.Idle) ≡ outcome.Busy → u ≡ true
both_true true true e = refl
both_true true false e = absurd cc
both_true false u e = absurd cc

first_true : (t u : Bool) → (if t then (if u then outcome.Busy else outcome.Handled) else outcome.Idle) ≡ outcome.Handled → t ≡ true
first_true true u e = refl
first_true false u e = absurd cc

turn_busy : (p : Pair) (o : Option Item) → turn_by p o ≡ outcome.Busy → undelivered p.own < high_water → ⊥
turn_busy p None e lt = absurd cc
turn_busy p (Some i) e lt =
    let t : nat_le high_water (undelivered p.own) ≡ true =
    both_true (nat_le (total (take (p.other.handled + 1) p.other.sent)) p.other.delivered) (nat_le high_water (undelivered p.own)) e in
    omega (arith, leb-true high_water (undelivered p.own) t, lt)

-- what is handled is delivered, after a turn too
turn_paid : (p : Pair) (o : Option Item) → turn_by p o ≡ outcome.Handled → IsPaid p.own → IsPaid p.other → p.own.handled ≤ length p.own.sent
    → IsPaid (handles p o).own × IsPaid (handles p o).other
turn_paid p None e own other within = (own, other)
turn_paid p (Some i) e own other within =
    let more : List Item = map items.Message (react p.own.end i).queued in
    let t = first_true (nat_le (total (take (p.other.handled + 1) p.other.sent)) p.other.delivered) (nat_le high_water (undelivered p.own)) e in (
      omega (arith, own, ap total (take-append-le p.own.handled p.own.sent more within)),
      leb-true (total (take (p.other.handled + 1) p.other.sent)) p.other.delivered t,
    )

turned_paid : (p : Pair) (o : Outcome) → o ≡ turn_of p → IsPaid p.own → IsPaid p.other → p.own.handled ≤ length p.own.sent
    → IsPaid (after_turn p o).own × IsPaid (after_turn p o).other
turned_paid p outcome.Handled e own other within = turn_paid p (next_item p.other) (sym e) own other within
turned_paid p o e own other within = (own, other)

delivered_paid : (p : Pair) (o : Outcome) → IsPaid p.own → IsPaid p.other → IsPaid (after_deliver p o).own × IsPaid (after_deliver p o).other
delivered_paid p (outcome.Delivered k) own other = (own, omega (arith, other))
delivered_paid p o own other = (own, other)

step_paid : (metadata : List ℕ) (a b : EndState) (l : Link) (s : Step) (o : Outcome) → IsMove s → Inv metadata a b l.left l.right → IsOutcome l s o
    → IsPaid l.left → IsPaid l.right → IsPaid (after l s o).left × IsPaid (after l s o).right
step_paid metadata a b l (step.Turn Left) o move v is left right = turned_paid (seen_from Left l) o is left right v.sides.going.within
step_paid metadata a b l (step.Turn Right) o move v is left right =
    let h = turned_paid (seen_from Right l) o is right left v.sides.coming.within in (h.1, h.0)
step_paid metadata a b l (step.Deliver Left n) o move v is left right = delivered_paid (seen_from Left l) o left right
step_paid metadata a b l (step.Deliver Right n) o move v is left right = let h = delivered_paid (seen_from Right l) o right left in (h.1, h.0)
step_paid metadata a b l (step.Say s msg) o move v is left right = absurd move
step_paid metadata a b l step.Reset o move v is left right = absurd move

not_busy : {metadata : List ℕ} {a b : EndState} (l : Link) (s : Step) {o : Outcome} → IsFetchPair metadata a b → IsMove s → Inv metadata a b l.left l.right
    → IsOutcome l s o → IsPaid l.left → IsPaid l.right → o ≡ outcome.Busy → ⊥
not_busy {metadata} {a} {b} l (step.Turn Left) p move v is left right e =
    turn_busy (seen_from Left l) (next_item l.right) (sym is ∙ e) (left_free metadata a b l.left l.right p v left)
not_busy {metadata} {a} {b} l (step.Turn Right) p move v is left right e =
    turn_busy (seen_from Right l) (next_item l.left) (sym is ∙ e) (right_free metadata a b l.left l.right p v right)
not_busy l (step.Deliver s n) p move v is left right e = absurd cc
not_busy l (step.Say s msg) p move v is left right e = absurd move
not_busy l step.Reset p move v is left right e = absurd move

free_by : {metadata : List ℕ} {a b : EndState} (l : Link) (steps : List Step) (outcomes : List Outcome) (n : ℕ) → IsFetchPair metadata a b → AreMoves steps
    → Inv metadata a b l.left l.right → IsPaid l.left → IsPaid l.right → AreOutcomes l steps outcomes → slice_get outcomes n ≡ Some outcome.Busy → ⊥
free_by l [] [] n p moves v left right are e = cc
free_by l [] (o ∷ os) n p moves v left right are e = absurd are
free_by l (s ∷ ss) [] n p moves v left right are e = absurd are
free_by l (s ∷ ss) (o ∷ os) zero p moves v left right are e =
    let busy : o ≡ outcome.Busy = cc in not_busy l s p moves.0 v are.0 left right busy
free_by {metadata} {a} {b} l (s ∷ ss) (o ∷ os) (suc n) p moves v left right are e =
    let paid = step_paid metadata a b l s o moves.0 v are.0 left right in
    free_by (after l s o) ss os n p moves.1 (inv_after metadata a b l s o p moves.0 v) paid.0 paid.1 are.1 e

pub fetch_is_free : FetchIsFree
fetch_is_free metadata a b steps outcomes n p moves are e =
    free_by (link_of a b) steps outcomes n p moves (inv_starts metadata a b p) (omega arith) (omega arith) are e
