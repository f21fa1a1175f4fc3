-- Octets as segments of 16 bits, and back.
use Rattle.std.proofs.Common.{◌≡◌, ℕ, ◌+◌, ◌*◌, ◌/◌, ◌%◌, ◌-◌, ◌<◌, ◌^◌, suc, List, [], ◌∷◌, ◌++◌, length, get_or, take, drop, refl, ap, sym, ◌∙◌, arith}
use Rattle.std.proofs.lemmas.List.{drop-take, take-append-drop, take-take}
use Rattle.std.specs.Net.Addr.{octets_of, segments_of}
use Rattle.bt_address.specs.Compact.{port_bytes}

high : (a b : ℕ) → b < 256 → (a * 256 + b) / 256 ≡ a
high a b h = grind arith

low : (a b : ℕ) → b < 256 → (a * 256 + b) % 256 ≡ b
low a b h = grind arith

pub octets_whole : (n : ℕ) (xs : List ℕ) → length xs ≡ 2 * n → ((k : ℕ) → get_or xs k 0 < 2 ^ 8) → octets_of (segments_of xs) ≡ xs
octets_whole n [] even small = refl
octets_whole n (a ∷ []) even small = absurd (omega (arith, even))
octets_whole n (a ∷ b ∷ xs) even small =
    let rest = octets_whole (n - 1) xs (omega (arith, even)) (λ k. small (suc (suc k))) in
    (λ i. high a b (small 1) i ∷ low a b (small 1) i ∷ rest i)

pub port_whole : (xs : List ℕ) → length xs ≡ 2 → ((k : ℕ) → get_or xs k 0 < 2 ^ 8) → port_bytes (get_or xs 0 0 * 256 + get_or xs 1 0) ≡ xs
port_whole [] two small = absurd (omega (arith, two))
port_whole (a ∷ []) two small = absurd (omega (arith, two))
port_whole (a ∷ b ∷ []) two small = (λ i. high a b (small 1) i ∷ low a b (small 1) i ∷ [])
port_whole (a ∷ b ∷ c ∷ xs) two small = absurd (omega (arith, two))

pub take_two : (m n : ℕ) (xs : List ℕ) → take m xs ++ take n (drop m xs) ≡ take (m + n) xs
take_two m n xs =
    ap (λ y. y ++ take n (drop m xs)) (sym (take-take m (m + n) xs (omega arith)))
    ∙ ap (λ y. take m (take (m + n) xs) ++ y) (sym (drop-take m n xs)) ∙ take-append-drop m (take (m + n) xs)
