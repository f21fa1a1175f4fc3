-- What the definitions on PPP give, case by case.
use Rattle.std.proofs.Common.{◌≡◌, ℕ, ◌-◌, ◌<◌, ◌≤◌, ◌==◌, ◌&&◌, true, false, List, [], ◌∷◌, length, get_or, take, drop, if◌then◌else◌}
use Rattle.std.proofs.Common.{Some, None, refl, arith}
use Rattle.std.proofs.lemmas.List.{take_rest}
use Rattle.bt_packet.specs.Links.{is_ppp_ip, ppp_low, ppp, unframed, session}

pub low_cut : (p : List ℕ) → length p < 1 → ppp_low p ≡ None
unfolding ppp_low
low_cut [] short = refl
low_cut (a ∷ rest) short = absurd (omega arith)

pub low_ip : (p : List ℕ) → 1 ≤ length p → is_ppp_ip (get_or p 0 0) ≡ true → ppp_low p ≡ Some (take (length p - 1) (drop 1 p))
unfolding ppp_low
low_ip (a ∷ rest) enough ip = rw (ip, take_rest (a ∷ rest) 1) refl
low_ip [] enough ip = absurd (omega arith)

pub low_other : (p : List ℕ) → 1 ≤ length p → is_ppp_ip (get_or p 0 0) ≡ false → ppp_low p ≡ None
unfolding ppp_low
low_other (a ∷ rest) enough other = rw other refl
low_other [] enough other = refl

pub ppp_cut : (p : List ℕ) → length p < 1 → ppp p ≡ None
unfolding ppp
ppp_cut [] short = refl
ppp_cut (a ∷ rest) short = absurd (omega arith)

pub ppp_two : (p : List ℕ) → 1 ≤ length p → (get_or p 0 0 == 0) ≡ true → ppp p ≡ ppp_low (take (length p - 1) (drop 1 p))
unfolding ppp
ppp_two (a ∷ rest) enough e = rw (e, take_rest (a ∷ rest) 1) refl
ppp_two [] enough e = absurd (omega arith)

pub ppp_one : (p : List ℕ) → 1 ≤ length p → (get_or p 0 0 == 0) ≡ false → ppp p ≡ ppp_low p
unfolding ppp
ppp_one (a ∷ rest) enough e = rw e refl
ppp_one [] enough e = absurd (omega arith)

pub unframed_cut : (p : List ℕ) → length p < 2 → unframed p ≡ p
unfolding unframed
unframed_cut [] short = refl
unframed_cut (a ∷ []) short = refl
unframed_cut (a ∷ b ∷ rest) short = absurd (omega arith)

pub unframed_whole : (p : List ℕ) → 2 ≤ length p
    → unframed p ≡ (if (get_or p 0 0 == 0xff) && (get_or p 1 0 == 0x03) then take (length p - 2) (drop 2 p) else p)
unfolding unframed
unframed_whole (a ∷ b ∷ rest) enough = rw (take_rest (a ∷ b ∷ rest) 2) refl
unframed_whole (a ∷ []) enough = absurd (omega arith)
unframed_whole [] enough = absurd (omega arith)

pub session_cut : (p : List ℕ) → length p < 6 → session p ≡ None
unfolding session
session_cut (a ∷ b ∷ c ∷ d ∷ e ∷ f ∷ rest) short = absurd (omega arith)
session_cut _ short = refl

pub session_is : (p : List ℕ) → 6 ≤ length p
    → session p ≡ (if (get_or p 0 0 == 0x11) && (get_or p 1 0 == 0) then ppp (take (length p - 6) (drop 6 p)) else None)
unfolding session
session_is (a ∷ b ∷ c ∷ d ∷ e ∷ f ∷ rest) enough = rw (take_rest (a ∷ b ∷ c ∷ d ∷ e ∷ f ∷ rest) 6) refl
session_is _ enough = absurd (omega arith)

pub session_whole : (p : List ℕ) → 6 ≤ length p → ((get_or p 0 0 == 0x11) && (get_or p 1 0 == 0)) ≡ true
    → session p ≡ ppp (take (length p - 6) (drop 6 p))
session_whole p enough e = rw (session_is p enough, e) refl

pub session_other : (p : List ℕ) → 6 ≤ length p → ((get_or p 0 0 == 0x11) && (get_or p 1 0 == 0)) ≡ false → session p ≡ None
session_other p enough e = rw (session_is p enough, e) refl
