-- A front that is put into a text, and the digits of an offset.
use Rattle.std.proofs.Common.{◌≡◌, ℕ, ◌+◌, ◌/◌, ◌%◌, ◌^◌, ◌<◌, ◌≤◌, true, false, nat_eq, List, ◌++◌, length}
use Rattle.std.proofs.Common.{take, drop, sym, ap, ◌∙◌, inl, inr, arith, eq-zero-or-pos, append_assoc}
use Rattle.std.proofs.lemmas.Bool.{eq-eqb, ne_eqb}
use Rattle.std.proofs.lemmas.List.{take_at, take-append-drop, length-append, length-take-le}
use Rattle.std.specs.Fmt.{decimal}
use borrow.Rule.Slice.PartMut.{put_mid, post_of}
use Rattle.itoa.proofs.Decimal.{decimal_four}
use Rattle.bt_rows.specs.Fronts.{high_text, low_text}

-- of a write to a part of a text, the text up to it and the first bytes of what was written
pub take_front : (a k m : ℕ) (xs ys : List ℕ) → a ≤ length xs → m ≤ length ys → take (a + m) (put_mid a k xs ys) ≡ take a xs ++ take m ys
take_front a k m xs ys inside short =
    let p = take a xs ++ take m ys in
    let whole : put_mid a k xs ys ≡ p ++ (drop m ys ++ post_of a k xs) =
    ap (λ (l : List ℕ). take a xs ++ (l ++ post_of a k xs)) (sym (take-append-drop m ys))
    ∙ ap (λ (l : List ℕ). take a xs ++ l) (append_assoc (take m ys) (drop m ys) (post_of a k xs))
    ∙ sym (append_assoc (take a xs) (take m ys) (drop m ys ++ post_of a k xs)) in
    let long : length p ≡ a + m =
    omega (arith, length-append (take a xs) (take m ys), length-take-le a xs inside, length-take-le m ys short) in
    ap (take (a + m)) whole ∙ take_at p (drop m ys ++ post_of a k xs) (a + m) long

pub digits_of : (base low : ℕ) → base % 10000 ≡ 0 → low < 10000 → base + low < 2 ^ 64 → high_text base ++ low_text base low ≡ decimal (base + low)
digits_of base low whole short fits =
    elim (eq-zero-or-pos base) [
      | inl z ↦
          let e : nat_eq base 0 ≡ true = eq-eqb base 0 z in
          let a : base + low ≡ low = omega arith in
          rw (e, a)
      | inr g ↦
          let e : nat_eq base 0 ≡ false = ne_eqb base 0 (λ z. absurd (omega arith)) in
          let a : (base + low) / 10000 ≡ base / 10000 = omega arith in
          let b : (base + low) % 10000 ≡ low = omega arith in
          rw (e, decimal_four (base + low) (omega arith) fits, a, b)
    ]
