-- The bits past the last piece are those of the last byte that are left, and one of them is 1 where the byte's remainder
-- isn't 0.
use Rattle.std.proofs.Common.{◌≡◌, ℕ, ◌+◌, ◌-◌, ◌*◌, ◌/◌, ◌%◌, ◌≤◌, ◌<◌, Bool, false, eqb, not, ◌||◌, List, [], ◌∷◌, ◌++◌, length, take, drop, get_or, refl}
use Rattle.std.proofs.Common.{sym, ap, ◌∙◌, arith, inl, inr}
use Rattle.std.specs.List.{flat_map, list_any}
use Rattle.std.proofs.lemmas.Bool.{cases_eq, eq-eqb, ne_eqb}
use Rattle.std.proofs.lemmas.Grind.{flat_map-append}
use Rattle.std.proofs.lemmas.List.{length-append, length-take-le, take-append-drop, drop_more, drop_all}
use Rattle.std.proofs.lemmas.List.Concat.{flat_map-cons}
use Rattle.std.proofs.Math.Seq.{drop-append-add}
use Rattle.bt_wire.specs.Bitfields.{bits_of}
use Rattle.bt_wire.specs.Parts.{bound_of}

abbrev is_one : ℕ → Bool
is_one bit = eqb bit 1

-- a bit in front of what is left
step : (x y z : ℕ) (rest : Bool) → x < 2 → (x ≡ 0 → z ≡ y) → (x ≡ 1 → 0 < z) → rest ≡ not (eqb y 0) → (eqb x 1 || rest) ≡ not (eqb z 0)
step x y z rest lt same more e =
    elim (cases_eq x 1) [
      | inl one ↦ rw (eq-eqb x 1 one, ne_eqb z 0 (λ zero. absurd (omega (arith, more one, zero)))) refl
      | inr other ↦ rw (ne_eqb x 1 other) (e ∙ ap (λ (k : ℕ). not (eqb k 0)) (sym (same (omega arith))))
    ]

any1 : (b : ℕ) → list_any is_one (b % 2 ∷ []) ≡ not (eqb (b % 2) 0)
any1 b = step (b % 2) 0 (b % 2) false (omega arith) (λ e. e) (λ e. omega arith) refl

any2 : (b : ℕ) → list_any is_one (b / 2 % 2 ∷ b % 2 ∷ []) ≡ not (eqb (b % 4) 0)
any2 b = step (b / 2 % 2) (b % 2) (b % 4) _ (omega arith) (λ e. omega arith) (λ e. omega arith) (any1 b)

any3 : (b : ℕ) → list_any is_one (b / 4 % 2 ∷ b / 2 % 2 ∷ b % 2 ∷ []) ≡ not (eqb (b % 8) 0)
any3 b = step (b / 4 % 2) (b % 4) (b % 8) _ (omega arith) (λ e. omega arith) (λ e. omega arith) (any2 b)

any4 : (b : ℕ) → list_any is_one (b / 8 % 2 ∷ b / 4 % 2 ∷ b / 2 % 2 ∷ b % 2 ∷ []) ≡ not (eqb (b % 16) 0)
any4 b = step (b / 8 % 2) (b % 8) (b % 16) _ (omega arith) (λ e. omega arith) (λ e. omega arith) (any3 b)

any5 : (b : ℕ) → list_any is_one (b / 16 % 2 ∷ b / 8 % 2 ∷ b / 4 % 2 ∷ b / 2 % 2 ∷ b % 2 ∷ []) ≡ not (eqb (b % 32) 0)
any5 b = step (b / 16 % 2) (b % 16) (b % 32) _ (omega arith) (λ e. omega arith) (λ e. omega arith) (any4 b)

any6 : (b : ℕ) → list_any is_one (b / 32 % 2 ∷ b / 16 % 2 ∷ b / 8 % 2 ∷ b / 4 % 2 ∷ b / 2 % 2 ∷ b % 2 ∷ []) ≡ not (eqb (b % 64) 0)
any6 b = step (b / 32 % 2) (b % 32) (b % 64) _ (omega arith) (λ e. omega arith) (λ e. omega arith) (any5 b)

any7 : (b : ℕ) → list_any is_one (b / 64 % 2 ∷ b / 32 % 2 ∷ b / 16 % 2 ∷ b / 8 % 2 ∷ b / 4 % 2 ∷ b / 2 % 2 ∷ b % 2 ∷ []) ≡ not (eqb (b % 128) 0)
any7 b = step (b / 64 % 2) (b % 64) (b % 128) _ (omega arith) (λ e. omega arith) (λ e. omega arith) (any6 b)

none_left : (b : ℕ) → not (eqb (b % 1) 0) ≡ false
none_left b = rw (eq-eqb (b % 1) 0 (omega arith)) refl

-- of the last byte, from the bit after the first r on
left : (b r : ℕ) → 0 < r → r ≤ 8 → list_any is_one (drop r (bits_of b)) ≡ not (eqb (b % bound_of (r % 8)) 0)
left b r some le =
    elim (cases_eq r 1) [
      | inl e ↦ rw e (any7 b)
      | inr n1 ↦
          elim (cases_eq r 2) [
            | inl e ↦ rw e (any6 b)
            | inr n2 ↦
                elim (cases_eq r 3) [
                  | inl e ↦ rw e (any5 b)
                  | inr n3 ↦
                      elim (cases_eq r 4) [
                        | inl e ↦ rw e (any4 b)
                        | inr n4 ↦
                            elim (cases_eq r 5) [
                              | inl e ↦ rw e (any3 b)
                              | inr n5 ↦
                                  elim (cases_eq r 6) [
                                    | inl e ↦ rw e (any2 b)
                                    | inr n6 ↦
                                        elim (cases_eq r 7) [
                                          | inl e ↦ rw e (any1 b)
                                          | inr n7 ↦
                                              let e : r ≡ 8 = omega arith in rw e (sym (none_left b))
                                        ]
                                  ]
                            ]
                      ]
                ]
          ]
    ]

length-bits : (bytes : List ℕ) → length (flat_map bits_of bytes) ≡ 8 * length bytes
length-bits [] = refl
length-bits (b ∷ bytes) = ap length (flat_map-cons bits_of b bytes) ∙ omega (arith, length-bits bytes, length-append (bits_of b) (flat_map bits_of bytes))

-- all bytes but the last, and the last
pub spare_left : (pieces : ℕ) (field : List ℕ) (last : ℕ) → length field ≡ (pieces + 7) / 8 → 0 < length field → last ≡ get_or field (length field - 1) 0
    → not (eqb (last % bound_of (pieces % 8)) 0) ≡ list_any is_one (drop pieces (flat_map bits_of field))
spare_left pieces field last len some e =
    let k : ℕ = length field - 1 in
    let front = take k field in
    let size : length front ≡ k = length-take-le k field (omega arith) in
    let tail : drop k field ≡ last ∷ [] = drop_more field k 0 (omega arith) ∙ ap (λ (x : ℕ). x ∷ drop (k + 1) field) (sym e)
    ∙ ap (λ (x : List ℕ). last ∷ x) (drop_all (k + 1) field (omega arith)) in
    let parts : field ≡ front ++ (last ∷ []) = sym (take-append-drop k field) ∙ ap (λ (x : List ℕ). front ++ x) tail in
    let bits : flat_map bits_of field ≡ flat_map bits_of front ++ bits_of last = ap (flat_map bits_of) parts ∙ flat_map-append bits_of front (last ∷ []) in
    let r : ℕ = pieces - 8 * k in
    let count : length (flat_map bits_of front) ≡ 8 * k = length-bits front ∙ ap (λ (n : ℕ). 8 * n) size in
    let at : pieces ≡ length (flat_map bits_of front) + r = omega (arith, count, len) in
    let here : drop pieces (flat_map bits_of field) ≡ drop r (bits_of last) =
    ap (drop pieces) bits ∙ ap (λ (n : ℕ). drop n (flat_map bits_of front ++ bits_of last)) at ∙ drop-append-add (flat_map bits_of front) (bits_of last) r in
    let same : r % 8 ≡ pieces % 8 = omega (arith, len) in
    sym (ap (list_any is_one) here ∙ left last r (omega (arith, len)) (omega (arith, len)) ∙ ap (λ (n : ℕ). not (eqb (last % bound_of n) 0)) same)
