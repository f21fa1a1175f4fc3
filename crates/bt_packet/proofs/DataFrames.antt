-- What the definitions on data frames of 802.11 give, case by case.
use Rattle.std.proofs.Common.{◌≡◌, ℕ, ◌+◌, ◌-◌, ◌%◌, ◌<◌, ◌≤◌, ◌==◌, true, false, List, [], ◌∷◌, length, get_or, take, drop, if◌then◌else◌}
use Rattle.std.proofs.Common.{Some, None, option_and_then, refl, arith}
use Rattle.std.proofs.lemmas.List.{take_rest}
use Rattle.bt_packet.specs.Bytes.{low_word, after}
use Rattle.bt_packet.specs.Links.{typed, is_snap, snap, sequenced, is_plain_data, fourth_address, qos_control, wireless, radiotap}

pub snap_cut : (p : List ℕ) → length p < 6 → snap p ≡ None
unfolding snap
snap_cut (a ∷ b ∷ c ∷ d ∷ e ∷ f ∷ rest) short = absurd (omega arith)
snap_cut _ short = refl

snap_is : (p : List ℕ) → 6 ≤ length p
    → snap p ≡ (if is_snap (get_or p 0 0) (get_or p 1 0) (get_or p 2 0) (get_or p 3 0) (get_or p 4 0) (get_or p 5 0)
    then typed (take (length p - 6) (drop 6 p)) else None)
unfolding snap
snap_is (a ∷ b ∷ c ∷ d ∷ e ∷ f ∷ rest) enough = rw (take_rest (a ∷ b ∷ c ∷ d ∷ e ∷ f ∷ rest) 6) refl
snap_is _ enough = absurd (omega arith)

pub snap_whole : (p : List ℕ) → 6 ≤ length p
    → is_snap (get_or p 0 0) (get_or p 1 0) (get_or p 2 0) (get_or p 3 0) (get_or p 4 0) (get_or p 5 0) ≡ true
    → snap p ≡ typed (take (length p - 6) (drop 6 p))
snap_whole p enough e = rw (snap_is p enough, e) refl

pub snap_other : (p : List ℕ) → 6 ≤ length p
    → is_snap (get_or p 0 0) (get_or p 1 0) (get_or p 2 0) (get_or p 3 0) (get_or p 4 0) (get_or p 5 0) ≡ false → snap p ≡ None
snap_other p enough e = rw (snap_is p enough, e) refl

-- ---- sequence control

pub sequenced_cut : (fields : ℕ) (p : List ℕ) → length p < 2 → sequenced fields p ≡ None
unfolding sequenced
sequenced_cut fields (a ∷ b ∷ rest) short = absurd (omega arith)
sequenced_cut fields (a ∷ []) short = refl
sequenced_cut fields [] short = refl

sequenced_is : (fields : ℕ) (p : List ℕ) → 2 ≤ length p
    → sequenced fields p ≡ (if get_or p 0 0 % 16 == 0 then option_and_then snap (after fields (take (length p - 2) (drop 2 p))) else None)
unfolding sequenced
sequenced_is fields (a ∷ b ∷ rest) enough = rw (take_rest (a ∷ b ∷ rest) 2) refl
sequenced_is fields (a ∷ []) enough = absurd (omega arith)
sequenced_is fields [] enough = absurd (omega arith)

pub sequenced_other : (fields : ℕ) (p : List ℕ) → 2 ≤ length p → (get_or p 0 0 % 16 == 0) ≡ false → sequenced fields p ≡ None
sequenced_other fields p enough e = rw (sequenced_is fields p enough, e) refl

pub sequenced_short : (fields : ℕ) (p : List ℕ) → 2 ≤ length p → (get_or p 0 0 % 16 == 0) ≡ true
    → after fields (take (length p - 2) (drop 2 p)) ≡ None → sequenced fields p ≡ None
sequenced_short fields p enough e n = rw (sequenced_is fields p enough, e, n) refl

pub sequenced_whole : (fields : ℕ) (p rest : List ℕ) → 2 ≤ length p → (get_or p 0 0 % 16 == 0) ≡ true
    → Some rest ≡ after fields (take (length p - 2) (drop 2 p)) → sequenced fields p ≡ snap rest
sequenced_whole fields p rest enough e n = rw (sequenced_is fields p enough, e, ← n) refl

-- ---- frame control

pub wireless_cut : (p : List ℕ) → length p < 2 → wireless p ≡ None
unfolding wireless
wireless_cut (a ∷ b ∷ rest) short = absurd (omega arith)
wireless_cut (a ∷ []) short = refl
wireless_cut [] short = refl

wireless_is : (p : List ℕ) → 2 ≤ length p
    → wireless p ≡ (if is_plain_data (get_or p 0 0) (get_or p 1 0)
    then option_and_then (sequenced (fourth_address (get_or p 1 0) + qos_control (get_or p 0 0) (get_or p 1 0))) (after 20 (take (length p - 2) (drop 2 p)))
    else None)
unfolding wireless
wireless_is (a ∷ b ∷ rest) enough = rw (take_rest (a ∷ b ∷ rest) 2) refl
wireless_is (a ∷ []) enough = absurd (omega arith)
wireless_is [] enough = absurd (omega arith)

pub wireless_other : (p : List ℕ) → 2 ≤ length p → is_plain_data (get_or p 0 0) (get_or p 1 0) ≡ false → wireless p ≡ None
wireless_other p enough e = rw (wireless_is p enough, e) refl

pub wireless_short : (p : List ℕ) → 2 ≤ length p → is_plain_data (get_or p 0 0) (get_or p 1 0) ≡ true
    → after 20 (take (length p - 2) (drop 2 p)) ≡ None → wireless p ≡ None
wireless_short p enough e n = rw (wireless_is p enough, e, n) refl

pub wireless_whole : (p rest : List ℕ) (fourth qos : ℕ) → 2 ≤ length p → is_plain_data (get_or p 0 0) (get_or p 1 0) ≡ true
    → Some rest ≡ after 20 (take (length p - 2) (drop 2 p)) → fourth ≡ fourth_address (get_or p 1 0) → qos ≡ qos_control (get_or p 0 0) (get_or p 1 0)
    → wireless p ≡ sequenced (fourth + qos) rest
wireless_whole p rest fourth qos enough e n f q = rw (wireless_is p enough, e, ← n, f, q) refl

-- ---- radiotap

pub radiotap_cut : (p : List ℕ) → length p < 4 → radiotap p ≡ None
unfolding radiotap
radiotap_cut (a ∷ b ∷ c ∷ d ∷ rest) short = absurd (omega arith)
radiotap_cut _ short = refl

radiotap_is : (p : List ℕ) → 4 ≤ length p
    → radiotap p ≡ (if get_or p 0 0 == 0 then option_and_then wireless (after (low_word (get_or p 2 0) (get_or p 3 0)) p) else None)
unfolding radiotap
radiotap_is (a ∷ b ∷ c ∷ d ∷ rest) enough = refl
radiotap_is _ enough = absurd (omega arith)

pub radiotap_other : (p : List ℕ) → 4 ≤ length p → (get_or p 0 0 == 0) ≡ false → radiotap p ≡ None
radiotap_other p enough e = rw (radiotap_is p enough, e) refl

pub radiotap_none : (p : List ℕ) (size : ℕ) → 4 ≤ length p → (get_or p 0 0 == 0) ≡ true → size ≡ low_word (get_or p 2 0) (get_or p 3 0)
    → None ≡ after size p → None ≡ radiotap p
radiotap_none p size enough e s n = rw (radiotap_is p enough, e, ← s, ← n) refl

pub radiotap_whole : (p rest : List ℕ) (size : ℕ) → 4 ≤ length p → (get_or p 0 0 == 0) ≡ true → size ≡ low_word (get_or p 2 0) (get_or p 3 0)
    → Some rest ≡ after size p → radiotap p ≡ wireless rest
radiotap_whole p rest size enough e s n = rw (radiotap_is p enough, e, ← s, ← n) refl
