-- One more event: what the code keeps is what the events show.
use Rattle.std.proofs.Common.{◌≡◌, ℕ, Bool, true, false, ◌&&◌, ◌||◌, if◌then◌else◌, List, ◌∷◌, Option, Some, None, max, refl, sym, ◌∙◌, ap, subst}
use mathlib.Core.Path.{fun_ext}
use Rattle.std.specs.BTreeMap.{btree_map_len}
use Rattle.bt_remarks.specs.declared.events.Side.{Side}
use Rattle.bt_remarks.specs.declared.events.Side.TheVariants.{A, B}
use Rattle.bt_remarks.specs.declared.events.Block.{Block}
use Rattle.bt_remarks.specs.Said.{Message, Other, Told, other, is_same, said, Kind, Blocks, Metadata, asked, cancelled, answered, asked_block, asked_metadata}
use Rattle.bt_remarks.specs.Said.{answered_block, answered_metadata}
use Rattle.bt_remarks.specs.declared.halves.Half.{Half}
use Rattle.bt_remarks.specs.declared.requests.Asked.{Asked}
use Rattle.bt_remarks.specs.declared.requests.Requests.{Requests}
use Rattle.bt_remarks.specs.Requests.{Pending, opened, with_cancel, closed, count_after, is_too_much, answered_after, is_unasked, is_dropped, is_again}
use Rattle.bt_remarks.specs.Tables.{request_at, IsAfter}
use Rattle.bt_remarks.specs.Steps.{has, unasks, drops, asks_again, IsHalfAfter}
use Rattle.bt_remarks.specs.Known.{number_after, has_fast, is_choking, last_choke, has_all, is_named, fast_after, choking_after, choke_after}
use Rattle.bt_remarks.specs.Known.{unchoke_after, may_be_dropped, all_after, named_after}
use Rattle.bt_remarks.specs.Known.{allowed_after, came_after, pending, pending_count, overflowed, last_answered}
use Rattle.bt_remarks.specs.Remarked.{has_unasked, is_again_of, has_again, is_choked, has_choked, is_elsewhere, has_elsewhere}
use Rattle.bt_remarks.specs.Ends.{late_of, unanswered}
use Rattle.bt_remarks.specs.Matched.{IsRequests, IsHalf}

or_true : (b : Bool) → (b || true) ≡ true
or_true true = refl
or_true false = refl

none_of_or : (a b : Bool) → (a || b) ≡ false → b ≡ false
none_of_or true b h = cc
none_of_or false b h = h

or_congr : (a b x : Bool) → (x ≡ false → a ≡ b) → (a || x) ≡ (b || x)
or_congr a b true h = or_true a ∙ sym (or_true b)
or_congr a b false h = ap (λ t. t || false) (h refl)

-- the look-ups are one function
looks : (kind : Kind) (side : Side) (events : List Told) (requests : Requests) → IsRequests kind side events requests → requests.overflowed ≡ false
    → request_at requests ≡ pending kind side events
looks kind side events requests h o = fun_ext (λ i. fun_ext (λ b. h.pending o i b))

requests_step : (kind : Kind) (side : Side) (e : Told) (events : List Told) (old new : Requests) → IsRequests kind side events old
    → IsAfter (asked kind (said side e)) (cancelled kind (said side e)) (answered kind (said (other side) e)) (number_after events) e.mark old new
    → IsRequests kind side (e ∷ events) new
requests_step kind side e events old new h a =
    let ask = asked kind (said side e) in
    let cancel = cancelled kind (said side e) in
    let answer = answered kind (said (other side) e) in
    let still : new.overflowed ≡ false → old.overflowed ≡ false = λ o. none_of_or _ _ (sym a.overflowed ∙ o) in
    record {
      overflowed = a.overflowed ∙ or_congr _ _ old.overflowed (λ o. ap (λ f. is_too_much ask f (btree_map_len old.pending))
          (looks kind side events old h o) ∙ ap (is_too_much ask (pending kind side events)) (h.count o))
          ∙ ap (λ o. is_too_much ask (pending kind side events) (pending_count kind side events) || o) h.overflowed;
      pending = λ o i b. a.pending o i b ∙ ap (λ f. closed answer (with_cancel cancel (opened ask (number_after events) e.mark f)) i b)
          (looks kind side events old h (still o));
      count = λ o. a.count o ∙ ap (λ f. count_after ask answer f (btree_map_len old.pending)) (looks kind side events old h (still o))
          ∙ ap (count_after ask answer (pending kind side events)) (h.count (still o));
      answered = λ o. a.answered o ∙ ap (λ f. answered_after answer f old.answered) (looks kind side events old h (still o))
          ∙ ap (answered_after answer (pending kind side events)) (h.answered (still o));
    }

pub half_step : (side : Side) (e : Told) (events : List Told) (old new : Half) → IsHalf side events old
    → IsHalfAfter (said side e) (said (other side) e) e.known (number_after events) e.mark old new → IsHalf side (e ∷ events) new
half_step side e events old new h a = record {
  fast = a.fast ∙ ap (fast_after (said side e)) h.fast;
  choking = a.choking ∙ ap (choking_after (said side e)) h.choking;
  choke = a.choke ∙ ap (choke_after (said side e) (number_after events)) h.choke;
  unchoke = a.unchoke ∙ ap (λ c. unchoke_after (said side e) c (number_after events) old.unchoke) h.choking
      ∙ ap (unchoke_after (said side e) (is_choking side events) (number_after events)) h.unchoke;
  all = a.all ∙ ap (all_after (said side e) e.known) h.all;
  named = λ k. a.named k ∙ ap (named_after (said side e) e.known k) (h.named k);
  allowed = λ k. a.allowed k ∙ ap (allowed_after (said (other side) e) k) (h.allowed k);
  came = λ k. a.came k ∙ ap (came_after (said (other side) e) k) (h.came k);
  blocks = requests_step Blocks side e events old.blocks new.blocks h.blocks a.blocks;
  metadata = requests_step Metadata side e events old.metadata new.metadata h.metadata a.metadata;
}

requests_stay : (kind : Kind) (side : Side) (events : List Told) (number mark : ℕ) (old new : Requests) → IsRequests kind side events old
    → IsAfter None None None number mark old new → IsRequests kind side events new
requests_stay kind side events number mark old new h a =
    let still : new.overflowed ≡ false → old.overflowed ≡ false = λ o. sym a.overflowed ∙ o in
    record {
      overflowed = a.overflowed ∙ h.overflowed;
      pending = λ o i b. a.pending o i b ∙ h.pending (still o) i b;
      count = λ o. a.count o ∙ h.count (still o);
      answered = λ o. a.answered o ∙ h.answered (still o);
    }

pub half_stays : (side : Side) (events : List Told) (known : Bool) (number mark : ℕ) (old new : Half) → IsHalf side events old
    → IsHalfAfter Other Other known number mark old new → IsHalf side events new
half_stays side events known number mark old new h a = record {
  fast = a.fast ∙ h.fast;
  choking = a.choking ∙ h.choking;
  choke = a.choke ∙ h.choke;
  unchoke = a.unchoke ∙ h.unchoke;
  all = a.all ∙ h.all;
  named = λ k. a.named k ∙ h.named k;
  allowed = λ k. a.allowed k ∙ h.allowed k;
  came = λ k. a.came k ∙ h.came k;
  blocks = requests_stay Blocks side events number mark old.blocks new.blocks h.blocks a.blocks;
  metadata = requests_stay Metadata side events number mark old.metadata new.metadata h.metadata a.metadata;
}

-- ---- the remarks
by_known : (f : Bool → Pending → Bool) (o : Bool) (p q : Pending) → f true p ≡ f true q → (o ≡ false → p ≡ q) → f o p ≡ f o q
by_known f true p q k h = k
by_known f false p q k h = ap (f false) (h refl)

pub unasked_is : (kind : Kind) (side : Side) (events : List Told) (requests : Requests) (answer : Option Block) → IsRequests kind side events requests
    → is_unasked answer requests.overflowed (request_at requests) ≡ is_unasked answer (overflowed kind side events) (pending kind side events)
unasked_is kind side events requests None h = refl
unasked_is kind side events requests (Some block) h =
    by_known (is_unasked (Some block)) requests.overflowed (request_at requests) (pending kind side events) refl (looks kind side events requests h)
    ∙ ap (λ o. is_unasked (Some block) o (pending kind side events)) h.overflowed

pub again_is : (kind : Kind) (side : Side) (events : List Told) (requests : Requests) (ask : Option Block) (dropped : Asked → Bool)
    → IsRequests kind side events requests
    → is_again ask requests.overflowed dropped (request_at requests) ≡ is_again ask (overflowed kind side events) dropped (pending kind side events)
again_is kind side events requests None dropped h = refl
again_is kind side events requests (Some block) dropped h =
    by_known (λ o p. is_again (Some block) o dropped p) requests.overflowed (request_at requests) (pending kind side events) refl
    (looks kind side events requests h)
    ∙ ap (λ o. is_again (Some block) o dropped (pending kind side events)) h.overflowed

-- what may have been dropped, as the code keeps it
drops_is : (side : Side) (events : List Told) (mine theirs : Half) → IsHalf side events mine → IsHalf (other side) events theirs
    → drops mine theirs ≡ may_be_dropped Blocks side events
drops_is side events mine theirs h g =
    ap (λ f. is_dropped (f && theirs.has_fast) theirs.is_choking theirs.unchoke) h.fast
    ∙ ap (λ f. is_dropped (has_fast side events && f) theirs.is_choking theirs.unchoke) g.fast
    ∙ ap (λ c. is_dropped (has_fast side events && has_fast (other side) events) c theirs.unchoke) g.choking
    ∙ ap (is_dropped (has_fast side events && has_fast (other side) events) (is_choking (other side) events)) g.unchoke

-- each remark, from what the code keeps of the event's side and of the other side
pub has_unasked_is : (e : Told) (events : List Told) (theirs : Half) → IsHalf (other e.side) events theirs
    → (e.known && unasks theirs e.message) ≡ has_unasked e events
has_unasked_is e events theirs h =
    ap (λ x. e.known && (x || is_unasked (answered_metadata e.message) theirs.metadata.overflowed (request_at theirs.metadata))) (unasked_is Blocks
    (other e.side) events theirs.blocks (answered_block e.message) h.blocks)
    ∙ ap (λ x. e.known && (is_unasked (answered_block e.message) (overflowed Blocks (other e.side) events) (pending Blocks
    (other e.side) events) || x)) (unasked_is Metadata (other e.side) events theirs.metadata (answered_metadata e.message) h.metadata)

pub has_again_is : (e : Told) (events : List Told) (mine theirs : Half) → IsHalf e.side events mine → IsHalf (other e.side) events theirs
    → (e.known && asks_again mine theirs e.message) ≡ has_again e events
has_again_is e events mine theirs h g =
    ap (λ d. e.known && (is_again (asked_block e.message) mine.blocks.overflowed d (request_at mine.blocks)
    || is_again (asked_metadata e.message) mine.metadata.overflowed (λ request. false) (request_at mine.metadata)))
    (drops_is e.side events mine theirs h g)
    ∙ ap (λ x. e.known && (x || is_again (asked_metadata e.message) mine.metadata.overflowed (λ request. false) (request_at mine.metadata)))
    (again_is Blocks e.side events mine.blocks (asked_block e.message) (may_be_dropped Blocks e.side events) h.blocks)
    ∙ ap (λ x. e.known && (is_again_of Blocks e events || x))
    (again_is Metadata e.side events mine.metadata (asked_metadata e.message) (λ request. false) h.metadata)

pub has_choked_is : (e : Told) (events : List Told) (mine theirs : Half) → IsHalf e.side events mine → IsHalf (other e.side) events theirs
    → (e.known && is_choked e.message theirs.is_choking (has mine.allowed)) ≡ has_choked e events
has_choked_is e events mine theirs h g =
    ap (λ x. e.known && is_choked e.message x (has mine.allowed)) g.choking
    ∙ ap (λ x. e.known && is_choked e.message (is_choking (other e.side) events) x) (fun_ext h.allowed)

pub has_elsewhere_is : (e : Told) (events : List Told) (mine : Half) → IsHalf e.side events mine
    → (e.known && is_elsewhere e.message mine.has_all (has mine.named) (has mine.came)) ≡ has_elsewhere e events
has_elsewhere_is e events mine h =
    ap (λ x. e.known && is_elsewhere e.message x (has mine.named) (has mine.came)) h.all
    ∙ ap (λ x. e.known && is_elsewhere e.message (has_all e.side events) x (has mine.came)) (fun_ext h.named)
    ∙ ap (λ x. e.known && is_elsewhere e.message (has_all e.side events) (is_named e.side events) x) (fun_ext h.came)

-- ---- the end
known_same : (closed o : Bool) (n n' : ℕ) (p p' : Pending) → (o ≡ false → n ≡ n') → (o ≡ false → p ≡ p') → late_of o closed n p ≡ late_of o closed n' p'
known_same closed true n n' p p' h g = refl
known_same closed false n n' p p' h g = ap (λ m. late_of false closed m p) (h refl) ∙ ap (late_of false closed n') (g refl)

pub unanswered_is : (closed stopped : Bool) (side : Side) (events : List Told) (mine theirs : Half) → stopped ≡ false → IsHalf side events mine
    → IsHalf (other side) events theirs
    → late_of mine.blocks.overflowed closed (max theirs.choke mine.blocks.answered) (request_at mine.blocks) ≡ unanswered closed stopped side events
unanswered_is closed stopped side events mine theirs goes h g =
    known_same closed mine.blocks.overflowed (max theirs.choke mine.blocks.answered) (max (last_choke (other side) events)
    (last_answered Blocks side events)) (request_at mine.blocks) (pending Blocks side events)
    (λ o. ap (λ n. max n mine.blocks.answered) g.choke ∙ ap (max (last_choke (other side) events)) (h.blocks.answered o))
    (looks Blocks side events mine.blocks h.blocks)
    ∙ ap (λ o. late_of o closed (max (last_choke (other side) events) (last_answered Blocks side events)) (pending Blocks side events)) h.blocks.overflowed
    ∙ ap (λ s. late_of (s || overflowed Blocks side events) closed (max (last_choke (other side) events) (last_answered Blocks side events))
    (pending Blocks side events)) (sym goes)

-- ---- the sides
said_own : (side : Side) (message : Message) → (if is_same side side then message else Other) ≡ message
said_own A message = refl
said_own B message = refl

said_other : (side : Side) (message : Message) → (if is_same side (other side) then message else Other) ≡ Other
said_other A message = refl
said_other B message = refl

said_back : (side : Side) (message : Message) → (if is_same side (other (other side)) then message else Other) ≡ message
said_back A message = refl
said_back B message = refl

-- an event of the half's side
pub own_step : (e : Told) (events : List Told) (old new : Half) → IsHalf e.side events old
    → IsHalfAfter e.message Other e.known (number_after events) e.mark old new → IsHalf e.side (e ∷ events) new
own_step e events old new h a =
    let P : Message → Message → Type 0 = λ says hears. IsHalfAfter says hears e.known (number_after events) e.mark old new in
    half_step e.side e events old new h (subst (λ x. P x (said (other e.side) e)) (sym (said_own e.side e.message)) (subst (P e.message) (sym
    (said_other e.side e.message)) a))

-- an event of the other side
pub other_step : (e : Told) (events : List Told) (old new : Half) → IsHalf (other e.side) events old
    → IsHalfAfter Other e.message e.known (number_after events) e.mark old new → IsHalf (other e.side) (e ∷ events) new
other_step e events old new h a =
    let P : Message → Message → Type 0 = λ says hears. IsHalfAfter says hears e.known (number_after events) e.mark old new in
    half_step (other e.side) e events old new h
    (subst (λ x. P x (said (other (other e.side)) e)) (sym (said_other e.side e.message)) (subst (P Other) (sym (said_back e.side e.message)) a))
