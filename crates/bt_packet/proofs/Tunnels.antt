-- What the definitions on packets in packets give, case by case.
use Rattle.std.proofs.Common.{◌≡◌, ℕ, zero, suc, ◌+◌, ◌-◌, ◌*◌, ◌<◌, ◌≤◌, Bool, true, false, List, [], ◌∷◌, length, get_or, take, drop, if◌then◌else◌}
use Rattle.std.proofs.Common.{Option, Some, None, option_and_then, option_map, ap, sym, ◌∙◌, refl, arith}
use Rattle.std.proofs.lemmas.List.{take_rest}
use Rattle.bt_packet.specs.Bytes.{word, after}
use Rattle.bt_packet.specs.Links.{is_gre, gre_fields, bridged, gre}
use Rattle.bt_packet.specs.Ip.{Contents, authenticated, ipv4_carried, is_wrapped, unwrapped}

pub gre_cut : (p : List ℕ) → length p < 4 → gre p ≡ None
unfolding gre
gre_cut (a ∷ b ∷ c ∷ d ∷ rest) short = absurd (omega arith)
gre_cut _ short = refl

pub gre_is : (p : List ℕ) → 4 ≤ length p
    → gre p ≡ (if is_gre (get_or p 0 0) (get_or p 1 0)
    then option_and_then (bridged (word (get_or p 2 0) (get_or p 3 0))) (after (gre_fields (get_or p 0 0)) (take (length p - 4) (drop 4 p))) else None)
unfolding gre
gre_is (a ∷ b ∷ c ∷ d ∷ rest) enough = rw (take_rest (a ∷ b ∷ c ∷ d ∷ rest) 4) refl
gre_is _ enough = absurd (omega arith)

pub gre_other : (p : List ℕ) → 4 ≤ length p → is_gre (get_or p 0 0) (get_or p 1 0) ≡ false → gre p ≡ None
gre_other p enough e = rw (gre_is p enough, e) refl

pub gre_none : (p : List ℕ) (fields : ℕ) → 4 ≤ length p → is_gre (get_or p 0 0) (get_or p 1 0) ≡ true → fields ≡ gre_fields (get_or p 0 0)
    → None ≡ after fields (take (length p - 4) (drop 4 p)) → None ≡ gre p
gre_none p fields enough e f n = rw (gre_is p enough, e, ← f, ← n) refl

pub gre_whole : (p rest : List ℕ) (fields type : ℕ) → 4 ≤ length p → is_gre (get_or p 0 0) (get_or p 1 0) ≡ true → fields ≡ gre_fields (get_or p 0 0)
    → type ≡ word (get_or p 2 0) (get_or p 3 0) → Some rest ≡ after fields (take (length p - 4) (drop 4 p)) → gre p ≡ bridged type rest
gre_whole p rest fields type enough e f t n = rw (gre_is p enough, e, ← f, ← n, t) refl

pub authenticated_cut : (c : Contents) (p : List ℕ) → length p < 2 → authenticated c p ≡ None
unfolding authenticated
authenticated_cut c (a ∷ b ∷ rest) short = absurd (omega arith)
authenticated_cut c (a ∷ []) short = refl
authenticated_cut c [] short = refl

pub authenticated_is : (c : Contents) (p : List ℕ) → 2 ≤ length p
    → authenticated c p ≡ option_map (ipv4_carried (get_or p 0 0) c.source c.target (c.size - (4 * get_or p 1 0 + 8)))
    (after (4 * get_or p 1 0 + 6) (take (length p - 2) (drop 2 p)))
unfolding authenticated
authenticated_is c (a ∷ b ∷ rest) enough = rw (take_rest (a ∷ b ∷ rest) 2) refl
authenticated_is c (a ∷ []) enough = absurd (omega arith)
authenticated_is c [] enough = absurd (omega arith)

pub authenticated_none : (c : Contents) (p : List ℕ) (words : ℕ) → 2 ≤ length p → words ≡ get_or p 1 0
    → None ≡ after (4 * words + 6) (take (length p - 2) (drop 2 p)) → None ≡ authenticated c p
authenticated_none c p words enough e n = rw (authenticated_is c p enough, ← e, ← n) refl

pub authenticated_whole : (c : Contents) (p rest : List ℕ) (words again left : ℕ) → 2 ≤ length p → words ≡ get_or p 1 0 → again ≡ get_or p 1 0
    → Some rest ≡ after (4 * words + 6) (take (length p - 2) (drop 2 p)) → left ≡ c.size - (4 * again + 8)
    → Some (ipv4_carried (get_or p 0 0) c.source c.target left rest) ≡ authenticated c p
authenticated_whole c p rest words again left enough e f n l = rw (authenticated_is c p enough, l, f, ← e, ← n) refl

pub unwrapped_plain : (n : ℕ) (c : Contents) → is_wrapped c.protocol ≡ false → unwrapped n c ≡ Some c
unfolding unwrapped
unwrapped_plain zero c plain = rw plain refl
unwrapped_plain (suc n) c plain = rw plain refl
