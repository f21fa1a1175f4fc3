-- Attributes of NFLOG.
use Rattle.std.proofs.Common.{◌≡◌, ℕ, zero, suc, ◌+◌, ◌-◌, ◌*◌, ◌/◌, ◌<◌, ◌≤◌, ◌==◌}
use Rattle.std.proofs.Common.{nat_le, nat_lt, Bool, true, false, List, [], ◌∷◌, length, get_or, take, drop}
use Rattle.std.proofs.Common.{Option, Some, None, option_and_then, if◌then◌else◌, ap, sym, ◌∙◌, refl, arith, inl, inr, lt-ltb, le-ltb}
use Rattle.std.proofs.lemmas.List.{take_rest, length-drop}
use Rattle.bt_packet.specs.Bytes.{low_word, after}
use Rattle.bt_packet.specs.Links.{padded, attributes, all_attributes}
use Rattle.bt_packet.proofs.Extensions.{after_shorter}

pub attributes_cut : (n : ℕ) (p : List ℕ) → length p < 4 → attributes n p ≡ None
unfolding attributes
attributes_cut zero p short = refl
attributes_cut (suc n) (a ∷ b ∷ c ∷ d ∷ rest) short = absurd (omega arith)
attributes_cut (suc n) (a ∷ b ∷ c ∷ []) short = refl
attributes_cut (suc n) (a ∷ b ∷ []) short = refl
attributes_cut (suc n) (a ∷ []) short = refl
attributes_cut (suc n) [] short = refl

-- how often doesn't matter, if it isn't less than the bytes
bind_same : (f g : List ℕ → Option (List ℕ)) (o : Option (List ℕ)) → ((r : List ℕ) → o ≡ Some r → f r ≡ g r) → option_and_then f o ≡ option_and_then g o
bind_same f g None h = refl
bind_same f g (Some r) h = h r refl

either : (n m : ℕ) (p : List ℕ) → length p < 4 → attributes n p ≡ attributes m p
either n m p h = attributes_cut n p h ∙ sym (attributes_cut m p h)

enough : (k n m : ℕ) (p : List ℕ) → length p ≤ k → length p ≤ n → length p ≤ m → attributes n p ≡ attributes m p
unfolding attributes
enough zero n m p hk hn hm = either n m p (omega (arith, hk))
enough (suc k) zero m p hk hn hm = either zero m p (omega (arith, hn))
enough (suc k) (suc n) zero p hk hn hm = either (suc n) zero p (omega (arith, hm))
enough (suc k) (suc n) (suc m) (a ∷ b ∷ c ∷ d ∷ rest) hk hn hm =
    let alike : (r : List ℕ) → after (padded (low_word a b) - 4) rest ≡ Some r → attributes n r ≡ attributes m r = (λ r e. (
    let s : length r + (padded (low_word a b) - 4) ≤ length rest = after_shorter (padded (low_word a b) - 4) rest r e in
    let t : length r ≤ length rest = omega (arith, s) in enough k n m r (omega (arith, t, hk)) (omega (arith, t, hn)) (omega (arith, t, hm)))) in
    ap (λ (x : Option (List ℕ)). if nat_lt (low_word a b) 4 then None else if low_word c d == 9 then Some (take (low_word a b - 4) rest) else x)
    (bind_same (attributes n) (attributes m) (after (padded (low_word a b) - 4) rest) alike)
enough (suc k) (suc n) (suc m) (a ∷ b ∷ c ∷ []) hk hn hm = refl
enough (suc k) (suc n) (suc m) (a ∷ b ∷ []) hk hn hm = refl
enough (suc k) (suc n) (suc m) (a ∷ []) hk hn hm = refl
enough (suc k) (suc n) (suc m) [] hk hn hm = refl

-- one attribute of this length and type
attribute_is : (p : List ℕ) (size type : ℕ) → 4 ≤ length p → size ≡ low_word (get_or p 0 0) (get_or p 1 0) → type ≡ low_word (get_or p 2 0) (get_or p 3 0)
    → all_attributes p ≡ (if nat_lt size 4 then None else if type == 9 then Some (take (size - 4) (take (length p - 4) (drop 4 p)))
    else option_and_then (attributes (length (drop 1 p))) (after (padded size - 4) (take (length p - 4) (drop 4 p))))
unfolding attributes
attribute_is (a ∷ b ∷ c ∷ d ∷ rest) size type h s t = rw (s, t, take_rest (a ∷ b ∷ c ∷ d ∷ rest) 4) refl
attribute_is (a ∷ b ∷ c ∷ []) size type h s t = absurd (omega arith)
attribute_is (a ∷ b ∷ []) size type h s t = absurd (omega arith)
attribute_is (a ∷ []) size type h s t = absurd (omega arith)
attribute_is [] size type h s t = absurd (omega arith)

pub attributes_low : (p : List ℕ) (size : ℕ) → 4 ≤ length p → size ≡ low_word (get_or p 0 0) (get_or p 1 0) → size < 4 → all_attributes p ≡ None
attributes_low p size h s low = let e : nat_lt size 4 ≡ true = lt-ltb size 4 low in rw (attribute_is p size _ h s refl, e) refl

pub attributes_packet : (p : List ℕ) (size type : ℕ) → 4 ≤ length p → size ≡ low_word (get_or p 0 0) (get_or p 1 0)
    → type ≡ low_word (get_or p 2 0) (get_or p 3 0) → 4 ≤ size → (type == 9) ≡ true
    → all_attributes p ≡ Some (take (size - 4) (take (length p - 4) (drop 4 p)))
attributes_packet p size type h s t high nine =
    let e : nat_lt size 4 ≡ false = le-ltb size 4 high in rw (attribute_is p size type h s t, e, nine) refl

pub attributes_none : (p : List ℕ) (size type : ℕ) → 4 ≤ length p → size ≡ low_word (get_or p 0 0) (get_or p 1 0)
    → type ≡ low_word (get_or p 2 0) (get_or p 3 0) → 4 ≤ size → (type == 9) ≡ false
    → None ≡ after (padded size - 4) (take (length p - 4) (drop 4 p)) → None ≡ all_attributes p
attributes_none p size type h s t high other n =
    let e : nat_lt size 4 ≡ false = le-ltb size 4 high in rw (attribute_is p size type h s t, e, other, ← n) refl

rest_is : (p : List ℕ) (n : ℕ) → n ≤ length p → length (take (length p - n) (drop n p)) + n ≡ length p
rest_is p n h = rw (take_rest p n) (omega (arith, h, length-drop n p))

pub attributes_step : (p rest : List ℕ) (size type : ℕ) → 4 ≤ length p → size ≡ low_word (get_or p 0 0) (get_or p 1 0)
    → type ≡ low_word (get_or p 2 0) (get_or p 3 0) → 4 ≤ size → (type == 9) ≡ false
    → Some rest ≡ after (padded size - 4) (take (length p - 4) (drop 4 p)) → all_attributes p ≡ all_attributes rest
attributes_step p rest size type h s t high other n =
    let e : nat_lt size 4 ≡ false = le-ltb size 4 high in
    let l : length rest + (padded size - 4) ≤ length (take (length p - 4) (drop 4 p)) = after_shorter (padded size - 4) _ rest (sym n) in
    let from : attributes (length (drop 1 p)) rest ≡ all_attributes rest =
    enough (length rest) (length (drop 1 p)) (length rest) rest (omega arith) (omega (arith, l, h, rest_is p 4 h, length-drop 1 p)) (omega arith) in
    rw (attribute_is p size type h s t, e, other, ← n) from

pub attributes_shorter : (p rest : List ℕ) (skip : ℕ) → 4 ≤ length p → Some rest ≡ after skip (take (length p - 4) (drop 4 p)) → length rest < length p
attributes_shorter p rest skip h n =
    let l : length rest + skip ≤ length (take (length p - 4) (drop 4 p)) = after_shorter skip _ rest (sym n) in omega (arith, l, h, rest_is p 4 h)
