-- What the definitions on what isn't read give, case by case.
use Rattle.std.proofs.Common.{◌≡◌, ℕ, ◌-◌, ◌/◌, ◌<◌, ◌≤◌, ◌==◌, ◌&&◌, Bool, true, false, List, [], ◌∷◌, length, get_or, take, drop, if◌then◌else◌}
use Rattle.std.proofs.Common.{Option, Some, None, option_and_then, ap, sym, ◌∙◌, refl, arith}
use Rattle.std.proofs.lemmas.List.{take_rest}
use Rattle.bt_packet.specs.Bytes.{word, after}
use Rattle.bt_packet.specs.Links.{is_tag}
use Rattle.bt_packet.specs.Ip.{is_fragment}
use Rattle.bt_packet.specs.Unread.{type_after, first_type, is_fragmented, is_part}

-- a tag is stepped over
pub next_type : (type : ℕ) (bytes : List ℕ) (next : ℕ) → is_tag type ≡ true → 4 ≤ length bytes → next ≡ word (get_or bytes 2 0) (get_or bytes 3 0)
    → type_after type bytes ≡ type_after next (take (length bytes - 4) (drop 4 bytes))
unfolding type_after
next_type type (a ∷ b ∷ c ∷ d ∷ rest) next tag h e = rw (tag, e, take_rest (a ∷ b ∷ c ∷ d ∷ rest) 4) refl
next_type type (a ∷ b ∷ c ∷ []) next tag h e = absurd (omega arith)
next_type type (a ∷ b ∷ []) next tag h e = absurd (omega arith)
next_type type (a ∷ []) next tag h e = absurd (omega arith)
next_type type [] next tag h e = absurd (omega arith)

pub cut_tag : (type : ℕ) (bytes : List ℕ) → is_tag type ≡ true → length bytes < 4 → type_after type bytes ≡ None
unfolding type_after
cut_tag type (a ∷ b ∷ c ∷ d ∷ rest) tag h = absurd (omega arith)
cut_tag type (a ∷ b ∷ c ∷ []) tag h = rw tag refl
cut_tag type (a ∷ b ∷ []) tag h = rw tag refl
cut_tag type (a ∷ []) tag h = rw tag refl
cut_tag type [] tag h = rw tag refl

pub no_tag : (type : ℕ) (bytes : List ℕ) → is_tag type ≡ false → type_after type bytes ≡ Some type
unfolding type_after
no_tag type (a ∷ b ∷ c ∷ d ∷ rest) tag = rw tag refl
no_tag type (a ∷ b ∷ c ∷ []) tag = rw tag refl
no_tag type (a ∷ b ∷ []) tag = rw tag refl
no_tag type (a ∷ []) tag = rw tag refl
no_tag type [] tag = rw tag refl

pub first_cut : (bytes : List ℕ) → length bytes < 2 → first_type bytes ≡ None
unfolding first_type
first_cut (a ∷ b ∷ rest) h = absurd (omega arith)
first_cut (a ∷ []) h = refl
first_cut [] h = refl

pub first_whole : (bytes : List ℕ) (type : ℕ) → 2 ≤ length bytes → type ≡ word (get_or bytes 0 0) (get_or bytes 1 0)
    → first_type bytes ≡ type_after type (take (length bytes - 2) (drop 2 bytes))
unfolding first_type
first_whole (a ∷ b ∷ rest) type h e = rw (e, take_rest (a ∷ b ∷ rest) 2) refl
first_whole (a ∷ []) type h e = absurd (omega arith)
first_whole [] type h e = absurd (omega arith)

-- ---- fragments

pub fragmented_cut : (p : List ℕ) → length p < 8 → is_fragmented p ≡ false
unfolding is_fragmented
fragmented_cut (a ∷ b ∷ c ∷ d ∷ e ∷ f ∷ g ∷ h ∷ rest) short = absurd (omega arith)
fragmented_cut _ short = refl

pub fragmented_four : (p : List ℕ) (flags : ℕ) → 8 ≤ length p → get_or p 0 0 / 16 ≡ 4 → flags ≡ word (get_or p 6 0) (get_or p 7 0)
    → is_fragmented p ≡ is_fragment flags
unfolding is_fragmented
fragmented_four (a ∷ b ∷ c ∷ d ∷ e ∷ f ∷ g ∷ h ∷ rest) flags enough v is = rw (v, is) refl
fragmented_four _ flags enough v is = absurd (omega arith)

pub fragmented_six : (p : List ℕ) → 8 ≤ length p → get_or p 0 0 / 16 ≡ 6
    → is_fragmented p ≡ ((get_or p 6 0 == 44) && is_part (after 34 (take (length p - 8) (drop 8 p))))
unfolding is_fragmented
fragmented_six (a ∷ b ∷ c ∷ d ∷ e ∷ f ∷ g ∷ h ∷ rest) enough v = rw (v, take_rest (a ∷ b ∷ c ∷ d ∷ e ∷ f ∷ g ∷ h ∷ rest) 8) refl
fragmented_six _ enough v = absurd (omega arith)

pub fragmented_other : (p : List ℕ) → 8 ≤ length p → (get_or p 0 0 / 16 == 4) ≡ false → (get_or p 0 0 / 16 == 6) ≡ false → is_fragmented p ≡ false
unfolding is_fragmented
fragmented_other (a ∷ b ∷ c ∷ d ∷ e ∷ f ∷ g ∷ h ∷ rest) enough v w = rw (v, w) refl
fragmented_other _ enough v w = absurd (omega arith)
