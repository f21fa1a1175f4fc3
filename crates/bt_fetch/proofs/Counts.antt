-- How many places have a connection.
use Rattle.std.proofs.Common.{◌≡◌, ℕ, ◌+◌, ◌<◌, ◌≤◌, Bool, false, cond, List, [], ◌∷◌, ◌++◌, length, take, drop, get_or, sym, ap, ◌∙◌, arith, length-take, length-drop}
use Rattle.std.specs.List.{count_by}
use Rattle.std.proofs.lemmas.List.Sums.{count_by-le-length, sum_by_push, sum_by-take-drop, sum_by-drop_more}

-- one more came
pub count_pushed : {X : Type 0} (p : X → Bool) (xs ys : List X) (x : X) → xs ≡ ys ++ x ∷ [] → count_by p xs ≡ count_by p ys + cond (p x) 1 0
count_pushed {X} p xs ys x e = ap (λ (l : List X). count_by p l) e ∙ sum_by_push (λ (y : X). cond (p y) 1 0) ys x

pub count_pushed_free : {X : Type 0} (p : X → Bool) (xs ys : List X) (x : X) → xs ≡ ys ++ x ∷ [] → p x ≡ false → count_by p xs ≡ count_by p ys
count_pushed_free {X} p xs ys x e h =
    let z : ℕ → Type 0 = λ n. n ≡ 0 in
    let k : z (cond (p x) 1 0) = ap (λ (b : Bool). cond b 1 0) h in
    omega (arith, count_pushed p xs ys x e, k)

-- no more of them than there are at all
pub count_fits : {X : Type 0} (p : X → Bool) (xs : List X) → count_by p xs ≤ length xs
count_fits {X} p xs = count_by-le-length p xs

-- where one is none of them, there is room for one more
pub free_room : {X : Type 0} (p : X → Bool) (xs : List X) (i : ℕ) (x : X) → i < length xs → x ≡ get_or xs i x → p x ≡ false
    → count_by p xs + 1 ≤ length xs
free_room {X} p xs i x l e h =
    let f : X → ℕ = λ y. cond (p y) 1 0 in
    let z : f (get_or xs i x) ≡ 0 = ap f (sym e) ∙ ap (λ (b : Bool). cond b 1 0) h in
    let whole = sum_by-take-drop f xs i in
    let more = sum_by-drop_more f xs i x l in
    let before = count_by-le-length p (take i xs) in
    let after = count_by-le-length p (drop (i + 1) xs) in
    omega (arith, z, whole, more, before, after, length-take i xs, length-drop (i + 1) xs)
