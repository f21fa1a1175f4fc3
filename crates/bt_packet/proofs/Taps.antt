-- What the definition on headers of PKTAP gives, case by case.
use Rattle.std.proofs.Common.{◌≡◌, ℕ, ◌<◌, ◌≤◌, List, [], ◌∷◌, length, get_or}
use Rattle.std.proofs.Common.{Some, None, option_and_then, refl, arith}
use Rattle.bt_packet.specs.Bytes.{low_long_word, after}
use Rattle.bt_packet.specs.Links.{plain_packet_in, tapped}

pub tapped_cut : (p : List ℕ) → length p < 12 → tapped p ≡ None
unfolding tapped
tapped_cut (a ∷ b ∷ c ∷ d ∷ e ∷ f ∷ g ∷ h ∷ i ∷ j ∷ k ∷ l ∷ rest) short = absurd (omega arith)
tapped_cut _ short = refl

tapped_is : (p : List ℕ) → 12 ≤ length p
    → tapped p ≡ option_and_then (plain_packet_in (low_long_word (get_or p 8 0) (get_or p 9 0) (get_or p 10 0) (get_or p 11 0)))
    (after (low_long_word (get_or p 0 0) (get_or p 1 0) (get_or p 2 0) (get_or p 3 0)) p)
unfolding tapped
tapped_is (a ∷ b ∷ c ∷ d ∷ e ∷ f ∷ g ∷ h ∷ i ∷ j ∷ k ∷ l ∷ rest) enough = refl
tapped_is _ enough = absurd (omega arith)

pub tapped_short : (p : List ℕ) (size : ℕ) → 12 ≤ length p → size ≡ low_long_word (get_or p 0 0) (get_or p 1 0) (get_or p 2 0) (get_or p 3 0)
    → after size p ≡ None → tapped p ≡ None
tapped_short p size enough s n = rw (tapped_is p enough, ← s, n) refl

pub tapped_whole : (p rest : List ℕ) (size link : ℕ) → 12 ≤ length p → size ≡ low_long_word (get_or p 0 0) (get_or p 1 0) (get_or p 2 0) (get_or p 3 0)
    → Some rest ≡ after size p → link ≡ low_long_word (get_or p 8 0) (get_or p 9 0) (get_or p 10 0) (get_or p 11 0) → tapped p ≡ plain_packet_in link rest
tapped_whole p rest size link enough s n l = rw (tapped_is p enough, ← s, ← n, l) refl
