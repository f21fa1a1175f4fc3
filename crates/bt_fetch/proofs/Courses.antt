-- What happened so far, and one thing more.
use Rattle.std.proofs.Common.{◌≡◌, ℕ, ◌+◌, ◌<◌, ◌≤◌, Bool, true, false, cond, if◌then◌else◌, List, [], ◌∷◌, ◌++◌, length, get_or, Option, Some, None, Result, Err}
use Rattle.std.proofs.Common.{refl, sym, ap, subst, ◌∙◌, append_assoc, append-nil, add-zero, nat_lt, arith}
use Rattle.std.proofs.lemmas.List.Sums.{fold_push, sum_by_push}
use Rattle.std.proofs.lemmas.List.{get_or_past}
use Rattle.std.proofs.lemmas.Bool.Decides.{nat_tests}
use Rattle.bt_exchange.specs.Lists.{IsAdded}
use Rattle.bt_fetch.specs.declared.device.Outcome.{Outcome}
use Rattle.bt_fetch.specs.declared.file.FetchError.{FetchError}
use Rattle.bt_fetch.specs.declared.file.FetchError.TheVariants as error
use Rattle.bt_fetch.specs.declared.device.Ending.{Ending}
use Rattle.bt_fetch.specs.declared.device.Ending.TheVariants.{By, Left}
use Rattle.bt_fetch.specs.declared.device.Happening.{Happening}
use Rattle.bt_fetch.specs.declared.device.Happening.TheVariants.{Dialled, Ended}
use Rattle.bt_fetch.specs.Queues.{dials_of, one, taken}
use Rattle.bt_fetch.specs.Logs.{AddsAll, is_dial, is_fetched, Stage, Going, Won, Wrong, stage_after, IsCourse, IsStage, IsLogged}

adds_none : (a : Option (List Happening)) → AddsAll a a []
adds_none None = tt
adds_none (Some xs) = sym (append-nil xs)

adds_more : (a b c : Option (List Happening)) (zs : List Happening) (x : Happening) → AddsAll a b zs → IsAdded b c x → AddsAll a c (zs ++ x ∷ [])
adds_more None b c zs x h i = tt
adds_more (Some xs) None c zs x h i = absurd h
adds_more (Some xs) (Some ys) None zs x h i = i
adds_more (Some xs) (Some ys) (Some ws) zs x h i = i ∙ ap (λ (l : List Happening). l ++ x ∷ []) h ∙ append_assoc xs zs (x ∷ [])

pub course_first : (a : Option (List Happening)) (dials : ℕ → ℕ) → ((k : ℕ) → dials k ≡ 0) → IsCourse Going a a dials
course_first a dials h = record { happened = []; added = adds_none a; counts = λ k. sym (h k); stage = refl }

pub course_more : (s : Stage) (a b c : Option (List Happening)) (x : Happening) (d e : ℕ → ℕ) → IsCourse s a b d → IsAdded b c x
    → ((k : ℕ) → e k ≡ d k + one (is_dial k x)) → IsCourse (stage_after s x) a c e
course_more s a b c x d e h i g = record {
  happened = h.happened ++ x ∷ [];
  added = adds_more a b c h.happened x h.added i;
  counts = λ k. sum_by_push (λ (y : Happening). cond (is_dial k y) 1 0) h.happened x ∙ ap (λ (n : ℕ). n + cond (is_dial k x) 1 0) (h.counts k) ∙ sym (g k);
  stage = fold_push stage_after Going h.happened x ∙ ap (λ (t : Stage). stage_after t x) h.stage;
}

pub course_same : (s : Stage) (a b : Option (List Happening)) (d e : ℕ → ℕ) → IsCourse s a b d → ((k : ℕ) → e k ≡ d k) → IsCourse s a b e
course_same s a b d e h g = record { happened = h.happened; added = h.added; counts = λ k. h.counts k ∙ sym (g k); stage = h.stage }

pub dials_same : (m n : ℕ) (a b : List Bool) (k : ℕ) → m ≡ n → a ≡ b → dials_of m a k ≡ dials_of n b k
dials_same m n a b k e f = ap (λ (x : ℕ). dials_of x a k) e ∙ ap (λ (l : List Bool). dials_of n l k) f

pub course_dialled : (a b c : Option (List Happening)) (address : ℕ) (d e : ℕ → ℕ) → IsCourse Going a b d → IsAdded b c (Dialled address)
    → ((k : ℕ) → e k ≡ d k + taken (Some address) k) → IsCourse Going a c e
course_dialled a b c address d e h i g = course_more Going a b c (Dialled address) d e h i g

pub course_ended : (s t : Stage) (a b c : Option (List Happening)) (address : ℕ) (ending : Ending) (d : ℕ → ℕ) → stage_after s (Ended address ending) ≡ t
    → IsCourse s a b d → IsAdded b c (Ended address ending) → IsCourse t a c d
course_ended s t a b c address ending d e h i =
    subst (λ (u : Stage). IsCourse u a c d) e (course_more s a b c (Ended address ending) d d h i (λ k. sym (add-zero (d k))))

left_stays : (s : Stage) (address : ℕ) → stage_after s (Ended address Left) ≡ s
left_stays Going address = refl
left_stays Won address = refl
left_stays Wrong address = refl

pub course_left : (s : Stage) (a b c : Option (List Happening)) (address : ℕ) (d : ℕ → ℕ) → IsCourse s a b d → IsAdded b c (Ended address Left) → IsCourse s a c d
course_left s a b c address d h i = course_ended s s a b c address Left d (left_stays s address) h i

pub fetched_wins : (address : ℕ) (o : Outcome) → is_fetched o ≡ true → stage_after Going (Ended address (By o)) ≡ Won
fetched_wins address o h = ap (λ (b : Bool). if b then Won else Going) h

pub other_goes_on : (address : ℕ) (o : Outcome) → is_fetched o ≡ false → stage_after Going (Ended address (By o)) ≡ Going
other_goes_on address o h = ap (λ (b : Bool). if b then Won else Going) h

-- ---- the end of a fetch

one_most : (b : Bool) → one b ≤ 1
one_most true = omega arith
one_most false = omega arith

one_least : (b : Bool) → b ≡ true → 1 ≤ one b
one_least true h = omega arith
one_least false h = absurd cc

below_is : (k n : ℕ) → k < n → nat_lt k n ≡ true
below_is k n h = grind (arith, nat_tests)

above_is : (k n : ℕ) → n ≤ k → nat_lt k n ≡ false
above_is k n h = grind (arith, nat_tests)

pub course_logged : (addresses n : ℕ) (again : List Bool) (a b : Option (List Happening)) (s : Stage) (r : Result ℕ FetchError) → length again ≤ addresses
    → n ≤ length again → (r ≡ Err error.NotFetched → n ≡ addresses) → IsStage r s → IsCourse s a b (dials_of n again) → IsLogged addresses a b r
course_logged addresses n again a b s r l w m t h = record {
  happened = h.happened;
  added = h.added;
  twice = λ k. omega (arith, h.counts k, one_most (nat_lt k n), one_most (get_or again k false));
  none = λ k g. h.counts k ∙ (let p = above_is k n (omega arith) in let q = get_or_past again k false (omega arith) in rw (p, q) refl);
  each = λ e k g. omega (arith, h.counts k, one_least (nat_lt k n) (below_is k n (omega (arith, m e))));
  stage = subst (λ (u : Stage). IsStage r u) (sym h.stage) t;
}

-- nothing happened
pub logged_none : (addresses : ℕ) (a : Option (List Happening)) → IsLogged addresses a a (Err error.Memory)
logged_none addresses a = record {
  happened = [];
  added = adds_none a;
  twice = λ k. omega arith;
  none = λ k g. refl;
  each = λ e k g. absurd cc;
  stage = tt;
}

pub course_told : (s t : Stage) (start a b c : Option (List Happening)) (address : ℕ) (ending : Ending) (dials : ℕ → ℕ) → b ≡ a
    → stage_after Going (Ended address ending) ≡ s → t ≡ s → IsCourse Going start a dials → IsAdded b c (Ended address ending) → IsCourse t start c dials
course_told s t start a b c address ending dials e f k h i =
    subst (λ (u : Stage). IsCourse u start c dials) (sym k)
    (course_ended Going s start b c address ending dials f (subst (λ (x : Option (List Happening)). IsCourse Going start x dials) (sym e) h) i)
