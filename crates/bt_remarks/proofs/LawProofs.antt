-- A pending request was made, and neither made again nor answered since.
use Rattle.std.proofs.Common.{◌≡◌, ◌≢◌, ℕ, Bool, true, false, ◌&&◌, ◌||◌, if◌then◌else◌, eqb, List, [], ◌∷◌, ◌++◌, Option, Some, None, refl, sym, ◌∙◌, ap}
use Rattle.std.proofs.Common.{⊎_elim, inl, inr, ◌⊎◌, arith, eq-eqb, subst}
use Rattle.std.specs.List.{list_any}
use Rattle.std.proofs.lemmas.Bool.Decides.{nat_tests}
use Rattle.bt_remarks.specs.declared.events.Side.{Side}
use Rattle.bt_remarks.specs.declared.events.Side.TheVariants.{A, B}
use Rattle.bt_remarks.specs.declared.events.Block.{Block}
use Rattle.bt_remarks.specs.declared.requests.Asked.{Asked}
use Rattle.bt_remarks.specs.Said.{Told, Kind, Blocks, Metadata, Message, Request, Other, other, is_same, said, asked, cancelled, answered}
use Rattle.bt_remarks.specs.Requests.{Pending, opened, marked, with_cancel, closed, is_at, is_cancel, has_length}
use Rattle.bt_remarks.specs.Known.{number_after, pending}
use Rattle.bt_remarks.specs.Laws.{cancels, Leaves, AllLeave, IsPending, PendingIsUnanswered}

-- A side that speaks doesn't answer itself.
silent : (kind : Kind) (speaker side : Side) (message : Message) (block : Block) → asked kind (if is_same speaker side then message else Other) ≡ Some block
    → answered kind (if is_same speaker (other side) then message else Other) ≡ None
silent Blocks A A message block h = refl
silent Blocks B B message block h = refl
silent Blocks A B message block h = cc
silent Blocks B A message block h = cc
silent Metadata A A message block h = refl
silent Metadata B B message block h = refl
silent Metadata A B message block h = cc
silent Metadata B A message block h = cc

-- A message that asks cancels nothing.
no_cancel : (kind : Kind) (message : Message) (block : Block) → asked kind message ≡ Some block → cancelled kind message ≡ None
no_cancel Blocks (Request one) block h = refl
no_cancel Blocks _ block h = cc
no_cancel Metadata message block h = refl

-- what an event leaves pending
leaves_opened : (ask : Option Block) (number mark index begin : ℕ) (p : Pending) → ((block : Block) → ask ≡ Some block
    → is_at block index begin ≡ false) → opened ask number mark p index begin ≡ p index begin
leaves_opened None number mark index begin p h = refl
leaves_opened (Some block) number mark index begin p h =
    ap (λ t. if t then Some (record { number = number; length = block.length; mark = mark; is_cancelled = false }) else p index begin) (h block refl)

apart : (t : Bool) (n : ℕ) (request : Asked) → (t ≡ true → request.length ≢ n) → (t && has_length n (Some request)) ≡ false
apart true n request h = let ne = h refl in grind (arith, nat_tests)
apart false n request h = refl

leaves_closed : (answer : Option Block) (index begin : ℕ) (p : Pending) (request : Asked) → p index begin ≡ Some request
    → ((block : Block) → answer ≡ Some block → is_at block index begin ≡ true → request.length ≢ block.length) → closed answer p index begin ≡ Some request
leaves_closed None index begin p request is h = is
leaves_closed (Some block) index begin p request is h =
    ap (λ o. if is_at block index begin && has_length block.length o then None else o) is
    ∙ ap (λ t. if t then None else Some request) (apart (is_at block index begin) block.length request (h block refl))

unmark : (cancel : Option Block) (index begin : ℕ) (p : Pending) (request : Asked) → p index begin ≡ Some request
    → with_cancel cancel p index begin ≡ Some (record request { is_cancelled = is_cancel cancel index begin request.length || request.is_cancelled })
unmark None index begin p request is = is
unmark (Some block) index begin p request is = ap (λ o. marked (is_cancel (Some block) index begin) o) is

-- the request of an event, after later ones
abbrev request_after : Kind → Side → ℕ → ℕ → Block → Told → List Told → List Told → Asked
request_after kind side index begin block e earlier later = record {
  number = number_after earlier;
  length = block.length;
  mark = e.mark;
  is_cancelled = list_any (cancels kind side index begin block.length) later;
}

back : (kind : Kind) (side : Side) (index begin : ℕ) (later : List Told) (e : Told) (earlier : List Told) (block : Block)
    → asked kind (said side e) ≡ Some block → is_at block index begin ≡ true → AllLeave kind side index begin block.length later
    → pending kind side (later ++ e ∷ earlier) index begin ≡ Some (request_after kind side index begin block e earlier later)
back kind side index begin [] e earlier block asks at left =
    ap (λ a. closed a (with_cancel (cancelled kind (said side e)) (opened (asked kind (said side e)) (number_after earlier) e.mark
    (pending kind side earlier))) index begin)
    (silent kind e.side side e.message block asks)
    ∙ ap (λ c. with_cancel c (opened (asked kind (said side e)) (number_after earlier) e.mark (pending kind side earlier)) index begin)
    (no_cancel kind (said side e) block asks)
    ∙ ap (λ a. opened a (number_after earlier) e.mark (pending kind side earlier) index begin) asks
    ∙ ap (λ t. if t then Some (request_after kind side index begin block e earlier []) else pending kind side earlier index begin) at
back kind side index begin (x ∷ later) e earlier block asks at left =
    let rest = later ++ e ∷ earlier in
    let request = request_after kind side index begin block e earlier later in
    let before = back kind side index begin later e earlier block asks at left.1 in
    let p : Pending = opened (asked kind (said side x)) (number_after rest) x.mark (pending kind side rest) in
    leaves_closed (answered kind (said (other side) x)) index begin (with_cancel (cancelled kind (said side x)) p)
    (request_after kind side index begin block e earlier (x ∷ later))
    (unmark (cancelled kind (said side x)) index begin p request
    (leaves_opened (asked kind (said side x)) (number_after rest) x.mark index begin (pending kind side rest) left.0.not_again ∙ before)) left.0.no_answer

-- ---- the way there
more_later : (kind : Kind) (side : Side) (x : Told) (events : List Told) (index begin : ℕ) (request one : Asked) → Leaves kind side index begin request.length x
    → request ≡ record one { is_cancelled = cancels kind side index begin one.length x || one.is_cancelled }
    → IsPending kind side events index begin one → IsPending kind side (x ∷ events) index begin request
more_later kind side x events index begin request one leaves is h =
    let later = request_after kind side index begin h.block h.event h.earlier h.later in
    let length : request.length ≡ h.block.length = ap (λ (r : Asked). r.length) is ∙ ap (λ (r : Asked). r.length) h.is in
    record {
      later = x ∷ h.later;
      event = h.event;
      earlier = h.earlier;
      block = h.block;
      split = ap (λ xs. x ∷ xs) h.split;
      asks = h.asks;
      at = h.at;
      is = is ∙ ap (λ (r : Asked). record r { is_cancelled = cancels kind side index begin r.length x || r.is_cancelled }) h.is;
      left = (subst (λ n. Leaves kind side index begin n x) length leaves, h.left);
    }

bool_cases : (t : Bool) → (t ≡ true) ⊎ (t ≡ false)
bool_cases true = inl refl
bool_cases false = inr refl

option_cases : (o : Option Block) → (o ≡ None) ⊎ ((block : Block) × (o ≡ Some block))
option_cases None = inl refl
option_cases (Some block) = inr (block, refl)

some_same : (a b : Asked) → Some a ≡ Some b → a ≡ b
some_same a b h = cc

same_block : (a b : Block) → Some a ≡ Some b → a ≡ b
same_block a b h = cc

kept_one : (t : Bool) (request one : Asked) → (if t then None else Some request) ≡ Some one → (t ≡ false) × (request ≡ one)
kept_one true request one h = cc
kept_one false request one h = (refl, cc)

other_length : (n : ℕ) (request one : Asked) → eqb request.length n ≡ false → request ≡ one → one.length ≢ n
other_length n request one h e same = let t : eqb request.length n ≡ true = eq-eqb request.length n (ap (λ r. r.length) e ∙ same) in cc

still_there : (t : Bool) (n : ℕ) (o : Option Asked) (one : Asked) → (if t && has_length n o then None else o) ≡ Some one
    → (o ≡ Some one) × (t ≡ true → one.length ≢ n)
still_there false n o one h = (h, λ f. cc)
still_there true n None one h = cc
still_there true n (Some request) one h = let k = kept_one (eqb request.length n) request one h in (ap Some k.1, λ _. other_length n request one k.0 k.1)

-- A request that is pending after an answer was so before, and the answer wasn't its.
closed_back : (answer : Option Block) (index begin : ℕ) (p : Pending) (request : Asked) → closed answer p index begin ≡ Some request
    → (p index begin ≡ Some request) × ((block : Block) → answer ≡ Some block → is_at block index begin ≡ true → request.length ≢ block.length)
closed_back None index begin p request h = (h, λ block none _ _. cc)
closed_back (Some block) index begin p request h =
    let k = still_there (is_at block index begin) block.length (p index begin) request h in
    (k.0, λ one same at len. let e = same_block block one same in k.1 (ap (λ x. is_at x index begin) e ∙ at) (len ∙ ap (λ x. x.length) (sym e)))

-- the request that was made
abbrev IsNewOne : Option Block → ℕ → ℕ → ℕ → ℕ → Asked → Type 0
IsNewOne ask index begin number mark request =
    (block : Block) × (ask ≡ Some block) × (is_at block index begin ≡ true)
    × (request ≡ record { number = number; length = block.length; mark = mark; is_cancelled = false })

-- A request that is pending after one was made is that one, or was so before.
opened_back : (ask : Option Block) (number mark index begin : ℕ) (p : Pending) (request : Asked) → opened ask number mark p index begin ≡ Some request
    → IsNewOne ask index begin number mark request
    ⊎ ((p index begin ≡ Some request) × ((block : Block) → ask ≡ Some block → is_at block index begin ≡ false))
opened_back None number mark index begin p request h = inr (h, λ block none. cc)
opened_back (Some block) number mark index begin p request h =
    let new : Asked = record { number = number; length = block.length; mark = mark; is_cancelled = false } in
    ⊎_elim
    (λ (here : is_at block index begin ≡ true).
    let is_new : Some new ≡ Some request = ap (λ t. if t then Some new else p index begin) (sym here) ∙ h in
    let is : request ≡ new = cc is_new in
    inl (block, refl, here, is))
    (λ (away : is_at block index begin ≡ false).
    inr (ap (λ t. if t then Some new else p index begin) (sym away) ∙ h, λ one same. ap (λ x. is_at x index begin) (sym (same_block block one same)) ∙ away))
    (bool_cases (is_at block index begin))

marked_back : (test : ℕ → Bool) (o : Option Asked) (request : Asked) → marked test o ≡ Some request
    → (one : Asked) × (o ≡ Some one) × (request ≡ record one { is_cancelled = test one.length || one.is_cancelled })
marked_back test None request h = cc
marked_back test (Some one) request h = (one, refl, sym (some_same _ _ h))

-- A request that is pending after a cancel was so before, perhaps without its mark.
cancel_back : (cancel : Option Block) (index begin : ℕ) (p : Pending) (request : Asked) → with_cancel cancel p index begin ≡ Some request
    → (one : Asked) × (p index begin ≡ Some one)
    × (request ≡ record one { is_cancelled = is_cancel cancel index begin one.length || one.is_cancelled })
cancel_back None index begin p request h = (request, h, refl)
cancel_back (Some block) index begin p request h = marked_back (is_cancel (Some block) index begin) (p index begin) request h

there : (kind : Kind) (side : Side) (events : List Told) (index begin : ℕ) (request : Asked) → pending kind side events index begin ≡ Some request
    → IsPending kind side events index begin request
there kind side [] index begin request h = cc
there kind side (e ∷ events) index begin request h =
    let ask = asked kind (said side e) in
    let cancel = cancelled kind (said side e) in
    let p : Pending = opened ask (number_after events) e.mark (pending kind side events) in
    let k = closed_back (answered kind (said (other side) e)) index begin (with_cancel cancel p) request h in
    let c = cancel_back cancel index begin p request k.0 in
    let one = c.0 in
    ⊎_elim
    (λ (new : IsNewOne ask index begin (number_after events) e.mark one).
    let block = new.0 in
    record {
      later = [];
      event = e;
      earlier = events;
      block = block;
      split = refl;
      asks = new.1;
      at = new.2;
      is = c.2 ∙ ap (λ (a : Option Block). record one { is_cancelled = is_cancel a index begin one.length || one.is_cancelled })
          (no_cancel kind (said side e) block new.1) ∙ new.3;
      left = tt;
    })
    (λ (old : (pending kind side events index begin ≡ Some one) × ((block : Block) → ask ≡ Some block → is_at block index begin ≡ false)).
    more_later kind side e events index begin request one (record { not_again = old.1; no_answer = k.1 }) c.2
    (there kind side events index begin one old.0))
    (opened_back ask (number_after events) e.mark index begin (pending kind side events) one c.1)

pub pending_is : PendingIsUnanswered
pending_is kind side events index begin request = (
  there kind side events index begin request,
  λ h. ap (λ xs. pending kind side xs index begin) h.split ∙ back kind side index begin h.later h.event h.earlier h.block h.asks h.at h.left
      ∙ ap Some (sym h.is),
)
