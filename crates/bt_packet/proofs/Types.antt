-- What the definitions on types give, case by case.
use Rattle.std.proofs.Common.{◌≡◌, ℕ, ◌-◌, ◌<◌, ◌≤◌, true, false, List, [], ◌∷◌, length, get_or, take, drop}
use Rattle.std.proofs.Common.{Some, None, option_and_then, ap, sym, ◌∙◌, refl, arith}
use Rattle.std.proofs.lemmas.List.{take_rest, length-drop}
use Rattle.bt_packet.specs.Bytes.{word, after}
use Rattle.bt_packet.specs.Links.{is_tag, network, after_type, typed, cooked}

-- what follows n bytes is shorter
pub shorter : (bytes : List ℕ) (n : ℕ) → 0 < n → n ≤ length bytes → length (take (length bytes - n) (drop n bytes)) < length bytes
shorter bytes n some h = rw (take_rest bytes n) (omega (arith, length-drop n bytes))

-- a tag is stepped over
pub after_tag : (type : ℕ) (bytes : List ℕ) (next : ℕ) → is_tag type ≡ true → 4 ≤ length bytes → next ≡ word (get_or bytes 2 0) (get_or bytes 3 0)
    → after_type type bytes ≡ after_type next (take (length bytes - 4) (drop 4 bytes))
unfolding after_type
after_tag type (a ∷ b ∷ c ∷ d ∷ rest) next tag h e = rw (tag, e, take_rest (a ∷ b ∷ c ∷ d ∷ rest) 4) refl
after_tag type (a ∷ b ∷ c ∷ []) next tag h e = absurd (omega arith)
after_tag type (a ∷ b ∷ []) next tag h e = absurd (omega arith)
after_tag type (a ∷ []) next tag h e = absurd (omega arith)
after_tag type [] next tag h e = absurd (omega arith)

-- a tag that isn't whole
pub cut_tag : (type : ℕ) (bytes : List ℕ) → is_tag type ≡ true → length bytes < 4 → after_type type bytes ≡ None
unfolding after_type
cut_tag type (a ∷ b ∷ c ∷ d ∷ rest) tag h = absurd (omega arith)
cut_tag type (a ∷ b ∷ c ∷ []) tag h = rw tag refl
cut_tag type (a ∷ b ∷ []) tag h = rw tag refl
cut_tag type (a ∷ []) tag h = rw tag refl
cut_tag type [] tag h = rw tag refl

-- another type
pub after_network : (type : ℕ) (bytes : List ℕ) → is_tag type ≡ false → after_type type bytes ≡ network type bytes
unfolding after_type
after_network type (a ∷ b ∷ c ∷ d ∷ rest) tag = rw tag refl
after_network type (a ∷ b ∷ c ∷ []) tag = rw tag refl
after_network type (a ∷ b ∷ []) tag = rw tag refl
after_network type (a ∷ []) tag = rw tag refl
after_network type [] tag = rw tag refl

pub typed_whole : (bytes : List ℕ) (type : ℕ) → 2 ≤ length bytes → type ≡ word (get_or bytes 0 0) (get_or bytes 1 0)
    → typed bytes ≡ after_type type (take (length bytes - 2) (drop 2 bytes))
unfolding typed
typed_whole (a ∷ b ∷ rest) type h e = rw (e, take_rest (a ∷ b ∷ rest) 2) refl
typed_whole (a ∷ []) type h e = absurd (omega arith)
typed_whole [] type h e = absurd (omega arith)

pub typed_cut : (bytes : List ℕ) → length bytes < 2 → typed bytes ≡ None
unfolding typed
typed_cut (a ∷ b ∷ rest) h = absurd (omega arith)
typed_cut (a ∷ []) h = refl
typed_cut [] h = refl

pub cooked_whole : (bytes : List ℕ) (type : ℕ) → 2 ≤ length bytes → type ≡ word (get_or bytes 0 0) (get_or bytes 1 0)
    → cooked bytes ≡ option_and_then (after_type type) (after 18 (take (length bytes - 2) (drop 2 bytes)))
unfolding cooked
cooked_whole (a ∷ b ∷ rest) type h e = rw (e, take_rest (a ∷ b ∷ rest) 2) refl
cooked_whole (a ∷ []) type h e = absurd (omega arith)
cooked_whole [] type h e = absurd (omega arith)

pub cooked_cut : (bytes : List ℕ) → length bytes < 2 → cooked bytes ≡ None
unfolding cooked
cooked_cut (a ∷ b ∷ rest) h = absurd (omega arith)
cooked_cut (a ∷ []) h = refl
cooked_cut [] h = refl

pub cooked_short : (bytes : List ℕ) → 2 ≤ length bytes → after 18 (take (length bytes - 2) (drop 2 bytes)) ≡ None → cooked bytes ≡ None
cooked_short bytes h e =
    let kind : ℕ = word (get_or bytes 0 0) (get_or bytes 1 0) in
    cooked_whole bytes kind h refl ∙ ap (option_and_then (after_type kind)) e

pub cooked_after : (bytes rest : List ℕ) (type : ℕ) → 2 ≤ length bytes → type ≡ word (get_or bytes 0 0) (get_or bytes 1 0)
    → Some rest ≡ after 18 (take (length bytes - 2) (drop 2 bytes)) → cooked bytes ≡ after_type type rest
cooked_after bytes rest type h e is = cooked_whole bytes type h e ∙ sym (ap (option_and_then (after_type type)) is)
