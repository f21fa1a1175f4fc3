-- The keys of the table of requests.
use Rattle.std.proofs.Common.{◌≡◌, ◌+◌, ◌-◌, ℕ, Bool, true, false, ◌&&◌, ◌||◌, eqb, cond, if◌then◌else◌, is_some, max, Option, Some, None, refl, sym, ◌∙◌, ap, arith}
use Rattle.std.proofs.lemmas.Bool.Decides.{nat_tests}
use Rattle.std.specs.Ordering.{nat_cmp, ordering_then, is_eq}
use Rattle.bt_remarks.specs.declared.requests.Asked.{Asked}
use Rattle.bt_remarks.specs.declared.events.Block.{Block}
use Rattle.bt_remarks.specs.Requests.{Pending, has_length, is_at, marked, with_cancel, closed, later_of}

-- Keys are equal exactly if their parts are.
pub key_test : (block : Block) (i b : ℕ) → is_eq (ordering_then (nat_cmp block.index i) (nat_cmp block.begin b)) ≡ is_at block i b
key_test block i b = grind (arith, nat_tests)

pub at_same : (block : Block) (i b : ℕ) → is_at block i b ≡ true → (block.index ≡ i) × (block.begin ≡ b)
at_same block i b h = grind (arith, nat_tests)

closed_cases : (at : Bool) (request : Option Asked) (n : ℕ) → (at ≡ true → has_length n request ≡ true)
    → cond at None request ≡ (if at && has_length n request then None else request)
closed_cases true request n h = ap (λ t. cond t None request) (sym (h refl))
closed_cases false request n h = refl

-- what a table has after the key of an answered request was removed
pub removed : (block : Block) (pending : Pending) (i b : ℕ) → has_length block.length (pending block.index block.begin) ≡ true
    → cond (is_at block i b) None (pending i b) ≡ closed (Some block) pending i b
removed block pending i b h =
    closed_cases (is_at block i b) (pending i b) block.length
    (λ here.
    let same = at_same block i b here in
    ap (λ k. has_length block.length (pending k b)) (sym same.0) ∙ ap (λ k. has_length block.length (pending block.index k)) (sym same.1) ∙ h)

-- what a table has after the request of a cancel was marked
abbrev cancelled_one : ℕ → Asked → Asked
cancelled_one n request = record request { is_cancelled = eqb request.length n || request.is_cancelled }

marked_cases : (at : Bool) (o : Option Asked) (request : Asked) (n : ℕ) → (at ≡ true → o ≡ Some request)
    → cond at (Some (cancelled_one n request)) o ≡ marked (λ m. at && eqb m n) o
marked_cases true o request n h = ap (λ r. marked (λ m. eqb m n) r) (sym (h refl))
marked_cases false None request n h = refl
marked_cases false (Some one) request n h = refl

pub cancelled_there : (block : Block) (pending : Pending) (i b : ℕ) (request : Asked) → pending block.index block.begin ≡ Some request
    → cond (is_at block i b) (Some (cancelled_one block.length request)) (pending i b) ≡ with_cancel (Some block) pending i b
cancelled_there block pending i b request h =
    marked_cases (is_at block i b) (pending i b) request block.length
    (λ here. let same = at_same block i b here in ap (λ k. pending k b) (sym same.0) ∙ ap (pending block.index) (sym same.1) ∙ h)

unmarked_cases : (at : Bool) (o : Option Asked) (n : ℕ) → (at ≡ true → o ≡ None) → o ≡ marked (λ m. at && eqb m n) o
unmarked_cases at None n h = refl
unmarked_cases true (Some one) n h = cc (h refl)
unmarked_cases false (Some one) n h = refl

pub cancelled_nowhere : (block : Block) (pending : Pending) (i b : ℕ) → pending block.index block.begin ≡ None
    → pending i b ≡ with_cancel (Some block) pending i b
cancelled_nowhere block pending i b h =
    unmarked_cases (is_at block i b) (pending i b) block.length
    (λ here. let same = at_same block i b here in ap (λ k. pending k b) (sym same.0) ∙ ap (pending block.index) (sym same.1) ∙ h)

pub fewer : (b : Bool) (n m : ℕ) → b ≡ true → m + 1 ≡ n → m ≡ (if b then n - 1 else n)
fewer true n m h e = omega arith
fewer false n m h e = cc

pub newer : (request : Option Asked) (one : Asked) (n number : ℕ) → request ≡ Some one → one.length ≡ n → max number one.number ≡ later_of n request number
newer None one n number e h = cc
newer (Some request) one n number e h = grind (arith, e, h)

pub none_of_both : (a b : Bool) → a ≡ false → b ≡ false → a ≡ (b || a)
none_of_both a true h g = cc
none_of_both a false h g = refl

pub more : (b : Bool) (old : Option Asked) (n m : ℕ) → is_some old ≡ b → m ≡ n + (if is_some old then 0 else 1) → m ≡ (if b then n else n + 1)
more true old n m h e = e ∙ ap (λ t. n + (if t then 0 else 1)) h ∙ omega arith
more false old n m h e = e ∙ ap (λ t. n + (if t then 0 else 1)) h
