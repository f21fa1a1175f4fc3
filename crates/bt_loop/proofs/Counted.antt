-- What the message link counts: the bytes that were delivered, and the items that were handled.
use Rattle.std.proofs.Common.{◌≡◌, ℕ, ◌+◌, ◌-◌, ◌≤◌, inl, inr, min, Bool, true, false, if◌then◌else◌, nat_le, List, [], ◌∷◌, length}
use Rattle.std.proofs.Common.{map, take, Option, Some, None, refl, sym, ap, subst, ◌∙◌, arith, length-append}
use Rattle.std.proofs.lemmas.Bool.{le-leb}
use Rattle.std.proofs.lemmas.Option.{slice_get_within, slice_get_cases}
use Rattle.bt_wire.specs.declared.item.Item.{Item}
use Rattle.bt_wire.specs.declared.item.Item.TheVariants as items
use Rattle.bt_end.specs.Ends.{EndState, react}
use Rattle.bt_end.specs.Halves.{high_water}
use Rattle.bt_session.specs.FetchLaws.{IsMove, AreMoves, IsQuiet}
use Rattle.bt_session.specs.MessageLinks as M
use Rattle.bt_session.specs.declared.link.Outcome.{Outcome}
use Rattle.bt_session.specs.declared.link.Outcome.TheVariants as outcome
use Rattle.bt_session.specs.declared.link.Side.{Side}
use Rattle.bt_session.specs.declared.link.Side.TheVariants.{Left, Right}
use Rattle.bt_session.specs.declared.link.Step.{Step}
use Rattle.bt_session.specs.declared.link.Step.TheVariants as step
use Rattle.bt_session.proofs.UnderWay.{total-append, total_parts}
use Rattle.bt_loop.specs.Runs.{delivered_by, delivered}

-- no more is handled or delivered than was sent, and n bytes were delivered in all
pub record IsCounted (p : M.Pair) (n : ℕ) : Type 0 where
  pub own : p.own.handled ≤ length p.own.sent
  pub other : p.other.handled ≤ length p.other.sent
  pub own_bytes : p.own.delivered ≤ M.total p.own.sent
  pub other_bytes : p.other.delivered ≤ M.total p.other.sent
  pub all : p.own.delivered + p.other.delivered ≡ n

counted_at : (s : Side) (l : M.Link) (n : ℕ) → IsCounted (M.seen_from Left l) n → IsCounted (M.seen_from s l) n
counted_at Left l n c = c
counted_at Right l n c = record { own = c.other; other = c.own; own_bytes = c.other_bytes; other_bytes = c.own_bytes; all = omega (arith, c.all) }

counted_back : (s : Side) (l : M.Link) (p : M.Pair) (n : ℕ) → IsCounted p n → IsCounted (M.seen_from Left (M.with_pair s l p)) n
counted_back Left l p n c = c
counted_back Right l p n c = record { own = c.other; other = c.own; own_bytes = c.other_bytes; other_bytes = c.own_bytes; all = omega (arith, c.all) }

-- ---- a turn

counted_handles : (p : M.Pair) (n : ℕ) (next : Option Item) → M.next_item p.other ≡ next → IsCounted p n → IsCounted (M.handles p next) n
counted_handles p n None e c = c
counted_handles p n (Some item) e c =
    let sent : List Item = map items.Message (react p.own.end item).queued in
    record {
      own = omega (arith, c.own, length-append p.own.sent sent);
      other = omega (arith, slice_get_within p.other.sent p.other.handled item e);
      own_bytes = omega (arith, c.own_bytes, total-append p.own.sent sent);
      other_bytes = c.other_bytes;
      all = c.all;
    }

counted_after : (p : M.Pair) (n : ℕ) (o : Outcome) → IsCounted p n → IsCounted (M.after_turn p o) n
counted_after p n outcome.Handled c = counted_handles p n (M.next_item p.other) refl c
counted_after p n other c = c

turn_delivers : (p : M.Pair) (next : Option Item) → delivered_by (M.turn_by p next) ≡ 0
turn_delivers p None = refl
turn_delivers p (Some item) = by_tests (nat_le (M.total (take (p.other.handled + 1) p.other.sent)) p.other.delivered) (nat_le high_water (M.undelivered p.own))
  where
    by_tests : (x y : Bool) → delivered_by (if x then (if y then outcome.Busy else outcome.Handled) else outcome.Idle) ≡ 0
    by_tests true true = refl
    by_tests true false = refl
    by_tests false y = refl

-- ---- a step

counted_turn : (s : Side) (l : M.Link) (n : ℕ) (o : Outcome) → o ≡ M.turn_of (M.seen_from s l) → IsCounted (M.seen_from Left l) n
    → IsCounted (M.seen_from Left (M.after l (step.Turn s) o)) (n + delivered_by o)
counted_turn s l n o e c =
    let p : M.Pair = M.seen_from s l in
    let none : delivered_by o ≡ 0 = ap delivered_by e ∙ turn_delivers p (M.next_item p.other) in
    let k : M.Link = M.with_pair s l (M.after_turn p o) in
    let after : IsCounted (M.seen_from Left k) n = counted_back s l (M.after_turn p o) n (counted_after p n o (counted_at s l n c)) in
    subst (IsCounted (M.seen_from Left k)) (omega (arith, none)) after

counted_delivers : (s : Side) (l : M.Link) (n m : ℕ) → IsCounted (M.seen_from Left l) n
    → IsCounted (M.seen_from Left (M.after l (step.Deliver s m) (outcome.Delivered (min m (M.undelivered (M.seen_from s l).other)))))
    (n + min m (M.undelivered (M.seen_from s l).other))
counted_delivers s l n m c =
    let p : M.Pair = M.seen_from s l in
    let k : ℕ = min m (M.undelivered p.other) in
    let here = counted_at s l n c in
    counted_back s l (record p { other = M.delivers p.other k }) (n + k) (
    record {
      own = here.own;
      other = here.other;
      own_bytes = here.own_bytes;
      other_bytes = omega (arith, here.other_bytes);
      all = omega (arith, here.all);
    }
    )

counted_step : (s : Step) (l : M.Link) (n : ℕ) (o : Outcome) → IsMove s → M.IsOutcome l s o → IsCounted (M.seen_from Left l) n
    → IsCounted (M.seen_from Left (M.after l s o)) (n + delivered_by o)
counted_step (step.Turn s) l n o m e c = counted_turn s l n o e c
counted_step (step.Deliver s k) l n o m e c =
    let P : Outcome → Type 0 = λ x. IsCounted (M.seen_from Left (M.after l (step.Deliver s k) x)) (n + delivered_by x) in
    subst P (sym e) (counted_delivers s l n k c)
counted_step (step.Say s msg) l n o m e c = absurd m
counted_step step.Reset l n o m e c = absurd m

counted_all : (ss : List Step) (os : List Outcome) (l : M.Link) (n : ℕ) → AreMoves ss → M.AreOutcomes l ss os → IsCounted (M.seen_from Left l) n
    → IsCounted (M.seen_from Left (M.after_all l ss os)) (n + delivered os)
counted_all [] [] l n m h c = subst (IsCounted (M.seen_from Left l)) (omega arith) c
counted_all [] (o ∷ os) l n m h c = absurd h
counted_all (s ∷ ss) [] l n m h c = absurd h
counted_all (s ∷ ss) (o ∷ os) l n m h c =
    let k : M.Link = M.after_all (M.after l s o) ss os in
    subst (IsCounted (M.seen_from Left k)) (omega arith)
    (counted_all ss os (M.after l s o) (n + delivered_by o) m.1 h.1 (counted_step s l n o m.0 h.0 c))

-- from two new ends on
pub counted : (a b : EndState) (ss : List Step) (os : List Outcome) → AreMoves ss → M.AreOutcomes (M.link_of a b) ss os
    → IsCounted (M.seen_from Left (M.after_all (M.link_of a b) ss os)) (delivered os)
counted a b ss os m h =
    let k : M.Link = M.after_all (M.link_of a b) ss os in
    let first : IsCounted (M.seen_from Left (M.link_of a b)) 0 = record {
      own = omega arith;
      other = omega arith;
      own_bytes = omega arith;
      other_bytes = omega arith;
      all = omega arith;
    } in
    subst (IsCounted (M.seen_from Left k)) (omega arith) (counted_all ss os (M.link_of a b) 0 m h first)

-- ---- idle turns

-- all that was sent was delivered, and a turn is idle: all was handled
idle_by : (p : M.Pair) (next : Option Item) → M.next_item p.other ≡ next → outcome.Idle ≡ M.turn_by p next → M.total p.other.sent ≤ p.other.delivered
    → length p.other.sent ≤ p.other.handled
idle_by p None e idle le =
    elim (slice_get_cases p.other.sent p.other.handled).1 [
      | inl w ↦ let c : None ≡ Some w.0 = sym e ∙ w.2 in absurd (cc)
      | inr w ↦ w.0
    ]
idle_by p (Some item) e idle le =
    let n : ℕ = p.other.handled + 1 in
    let there : nat_le (M.total (take n p.other.sent)) p.other.delivered ≡ true = le-leb (M.total (take n p.other.sent)) p.other.delivered
    (omega (arith, le, total_parts n p.other.sent)) in
    absurd (by_tests (nat_le (M.total (take n p.other.sent)) p.other.delivered) (nat_le high_water (M.undelivered p.own)) there idle)
  where
    by_tests : (x y : Bool) → x ≡ true → outcome.Idle ≡ (if x then (if y then outcome.Busy else outcome.Handled) else outcome.Idle) → ⊥
    by_tests true true h e = cc
    by_tests true false h e = cc
    by_tests false y h e = cc

pub idle_handled : (p : M.Pair) → outcome.Idle ≡ M.turn_of p → M.total p.other.sent ≤ p.other.delivered → length p.other.sent ≤ p.other.handled
idle_handled p idle le = idle_by p (M.next_item p.other) refl idle le

-- ---- nothing is under way

-- a byte may be delivered to each end, and each may make a turn
abbrev pub last_steps : List Step
last_steps = step.Deliver Left 1 ∷ step.Deliver Right 1 ∷ step.Turn Left ∷ step.Turn Right ∷ []

-- but there is none, and nothing to handle
abbrev pub last_outcomes : List Outcome
last_outcomes = outcome.Delivered 0 ∷ outcome.Delivered 0 ∷ outcome.Idle ∷ outcome.Idle ∷ []

none_delivered : (x : M.Node) → outcome.Delivered 0 ≡ outcome.Delivered (min 1 (M.undelivered x)) → M.total x.sent ≤ x.delivered
none_delivered x e = let same : 0 ≡ min 1 (M.total x.sent - x.delivered) = ap delivered_by e in omega (arith, same)

pub quiet_after : (l : M.Link) (n : ℕ) → IsCounted (M.seen_from Left l) n → M.AreOutcomes l last_steps last_outcomes
    → IsQuiet (M.after_all l last_steps last_outcomes)
quiet_after l n c h =
    let right = none_delivered l.right h.0 in
    let left = none_delivered l.left h.1.0 in
    let m : M.Link = M.after (M.after l (step.Deliver Left 1) (outcome.Delivered 0)) (step.Deliver Right 1) (outcome.Delivered 0) in
    let of_right = idle_handled (M.seen_from Left m) h.1.1.0 (omega (arith, right)) in
    let of_left = idle_handled (M.seen_from Right m) h.1.1.1.0 (omega (arith, left)) in
    (omega (arith, of_left, c.own), omega (arith, of_right, c.other))
