-- How many blocks have a status.
use Rattle.std.proofs.Common.{◌≡◌, ℕ, suc, ◌+◌, ◌*◌, ◌<◌, ◌≤◌, Bool, true, false, cond, ◌&&◌, eqb, List, [], ◌∷◌, length, set, map, replicate, count_by}
use Rattle.std.proofs.Common.{get_or, refl, sym, ap, ◌∙◌, arith}
use Rattle.std.specs.List.{list_all}
use Rattle.std.proofs.lemmas.Bool.Decides.{nat_tests}
use Rattle.std.proofs.lemmas.List.Folds.{sum_by-replicate}
use Rattle.std.proofs.lemmas.List.Sums.{sum_by-cons, sum_by-set, count_by-le-length}
use Rattle.bt_metadata.specs.declared.assembly.Status.{Status}
use Rattle.bt_metadata.specs.declared.assembly.Status.TheVariants as status
use Rattle.bt_metadata.specs.Sound.{holds, rejects, settles, kept_status}

-- one more in front
count-front : (p : Status → Bool) (s : Status) (ss : List Status) → count_by p (s ∷ ss) ≡ cond (p s) 1 0 + count_by p ss
count-front p s ss = sum_by-cons (λ x. cond (p x) 1 0) s ss

-- ---- all of them

more_pass : (b : Bool) (n m : ℕ) (rest : Bool) → n ≤ m → eqb n m ≡ rest → eqb (cond b 1 0 + n) (suc m) ≡ (b && rest)
more_pass true n m rest h e = grind (arith, nat_tests)
more_pass false n m rest h e = grind (arith, nat_tests)

-- each one passes exactly if as many pass as there are
pub count_all : (p : Status → Bool) (ss : List Status) → eqb (count_by p ss) (length ss) ≡ list_all p ss
count_all p [] = refl
count_all p (s ∷ ss) =
    ap (λ n. eqb n (suc (length ss))) (count-front p s ss)
    ∙ more_pass (p s) (count_by p ss) (length ss) (list_all p ss) (count_by-le-length p ss) (count_all p ss)

settled_one : (s : Status) → cond (settles s) 1 0 ≡ cond (holds s) 1 0 + cond (rejects s) 1 0
settled_one status.Lacking = refl
settled_one status.Asked = refl
settled_one status.Rejected = refl
settled_one status.Held = refl

-- what is settled is held or rejected
pub count-settled : (ss : List Status) → count_by settles ss ≡ count_by holds ss + count_by rejects ss
count-settled [] = refl
count-settled (s ∷ ss) =
    omega (arith, count-front settles s ss, count-front holds s ss, count-front rejects s ss, settled_one s, count-settled ss)

-- ---- what is forgotten, and what stays

pub count-kept : (p q : Status → Bool) → ((s : Status) → p (kept_status s) ≡ q s) → (ss : List Status) → count_by p (map kept_status ss) ≡ count_by q ss
count-kept p q h [] = refl
count-kept p q h (s ∷ ss) =
    let one : ◌≡◌ {A = ℕ} (cond (p (kept_status s)) 1 0) (cond (q s) 1 0) = ap (λ b. cond b 1 0) (h s) in
    omega (arith, count-front p (kept_status s) (map kept_status ss), count-front q s ss, one, count-kept p q h ss)

pub count-none : (ss : List Status) → count_by (λ s. false) ss ≡ 0
count-none [] = refl
count-none (s ∷ ss) = omega (arith, count-front (λ s. false) s ss, count-none ss)

pub count-lacking : (p : Status → Bool) (k : ℕ) → p status.Lacking ≡ false → count_by p (replicate k status.Lacking) ≡ 0
count-lacking p k h =
    let none : k * cond (p status.Lacking) 1 0 ≡ k * 0 = ap (λ b. k * cond b 1 0) h in
    omega (arith, sum_by-replicate (λ x. cond (p x) 1 0) k status.Lacking, none)

-- ---- one is set

pub count-set : (p : Status → Bool) (ss : List Status) (k : ℕ) (x y : Status) → k < length ss → get_or ss k status.Lacking ≡ x
    → count_by p (set ss k y) + cond (p x) 1 0 ≡ count_by p ss + cond (p y) 1 0
count-set p ss k x y h e =
    ap (λ z. count_by p (set ss k y) + cond (p z) 1 0) (sym e) ∙ sum_by-set (λ x. cond (p x) 1 0) ss k y status.Lacking h
