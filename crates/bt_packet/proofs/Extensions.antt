-- Extension headers of IPv6.
use Rattle.std.proofs.Common.{◌≡◌, ℕ, zero, suc, ◌+◌, ◌-◌, ◌*◌, ◌<◌, ◌≤◌, nat_le, Bool}
use Rattle.std.proofs.Common.{true, false, if◌then◌else◌, List, [], ◌∷◌, ◌++◌, length, get_or, take, drop}
use Rattle.std.proofs.Common.{Option, Some, None, option_and_then, ap, sym, ◌∙◌, refl, arith, inl, inr, leb-true, ◌==◌, bit_and}
use Rattle.std.proofs.lemmas.Bool.{cases_Bool}
use Rattle.std.proofs.lemmas.List.{take_rest, length-drop}
use Rattle.bt_packet.specs.Bytes.{word, after}
use Rattle.bt_packet.specs.Ip.{is_extension, is_atomic, is_whole, content_size, past, upper}

pub atomic_cut : (p : List ℕ) → length p < 2 → is_atomic p ≡ false
unfolding is_atomic
atomic_cut (a ∷ b ∷ rest) short = absurd (omega arith)
atomic_cut (a ∷ []) short = refl
atomic_cut [] short = refl

pub atomic_is : (p : List ℕ) → 2 ≤ length p → is_atomic p ≡ (bit_and (word (get_or p 0 0) (get_or p 1 0)) 0xfff9 == 0)
unfolding is_atomic
atomic_is (a ∷ b ∷ rest) enough = refl
atomic_is (a ∷ []) enough = absurd (omega arith)
atomic_is [] enough = absurd (omega arith)

pub upper_above : (n protocol : ℕ) (bytes : List ℕ) → is_extension protocol ≡ false → upper n protocol bytes ≡ Some (protocol, bytes)
unfolding upper
upper_above zero protocol bytes e = rw e refl
upper_above (suc n) protocol (next ∷ words ∷ rest) e = rw e refl
upper_above (suc n) protocol (next ∷ []) e = rw e refl
upper_above (suc n) protocol [] e = rw e refl

pub upper_cut : (n protocol : ℕ) (bytes : List ℕ) → is_extension protocol ≡ true → length bytes < 2 → upper n protocol bytes ≡ None
unfolding upper
upper_cut zero protocol bytes e short = rw e refl
upper_cut (suc n) protocol (next ∷ words ∷ rest) e short = absurd (omega arith)
upper_cut (suc n) protocol (next ∷ []) e short = rw e refl
upper_cut (suc n) protocol [] e short = rw e refl

-- whether a fragment is the whole packet is said in its header
pub whole_front : (protocol words : ℕ) (header tail : List ℕ) → length header ≡ content_size protocol words
    → is_whole protocol (header ++ tail) ≡ is_whole protocol header
unfolding is_atomic
whole_front protocol words (a ∷ b ∷ header) tail e = refl
whole_front protocol words (a ∷ []) tail e =
    elim (cases_Bool (protocol == 44)) [ inl l ↦ (let six : 1 ≡ 6 = rw l at e in absurd cc) | inr l ↦ rw l refl ]
whole_front protocol words [] tail e =
    elim (cases_Bool (protocol == 44)) [ inl l ↦ (let six : 0 ≡ 6 = rw l at e in absurd cc) | inr l ↦ rw l refl ]

pub past_append : (protocol words : ℕ) (header tail : List ℕ) → length header ≡ content_size protocol words → is_whole protocol header ≡ true
    → past protocol words (header ++ tail) ≡ after (content_size protocol words) (header ++ tail)
past_append protocol words header tail e whole =
    let w : is_whole protocol (header ++ tail) ≡ true = whole_front protocol words header tail e ∙ whole in rw w refl

-- what one header leaves to the next
pub upper_next : (n protocol next words : ℕ) (rest : List ℕ) → is_extension protocol ≡ true
    → upper (suc n) protocol (next ∷ words ∷ rest) ≡ option_and_then (upper n next) (past protocol words rest)
unfolding upper
upper_next n protocol next words rest e = rw e refl

picked : (b : Bool) (xs r : List ℕ) → (if b then Some xs else None) ≡ Some r → xs ≡ r
picked true xs r e = cc
picked false xs r e = cc

-- what follows is no longer
pub after_shorter : (j : ℕ) (bytes r : List ℕ) → after j bytes ≡ Some r → length r + j ≤ length bytes
after_shorter j bytes r e =
    elim (cases_Bool (nat_le j (length bytes))) [
      | inl l ↦ (let d : drop j bytes ≡ r = picked (nat_le j (length bytes)) (drop j bytes) r e in
          rw (← d) (omega (arith, length-drop j bytes, leb-true j (length bytes) l)))
      | inr l ↦ (let none : None ≡ Some r = rw l at e in absurd cc)
    ]

past_shorter : (protocol words : ℕ) (bytes r : List ℕ) → past protocol words bytes ≡ Some r → length r ≤ length bytes
past_shorter protocol words bytes r e =
    elim (cases_Bool (is_whole protocol bytes)) [
      | inl l ↦ (let f : after (content_size protocol words) bytes ≡ Some r = rw l at e in
          let s : length r + content_size protocol words ≤ length bytes = after_shorter (content_size protocol words) bytes r f in omega (arith, s))
      | inr l ↦ (let none : None ≡ Some r = rw l at e in absurd cc)
    ]

bind_same : (f g : List ℕ → Option (ℕ × List ℕ)) (o : Option (List ℕ)) → ((r : List ℕ) → o ≡ Some r → f r ≡ g r) → option_and_then f o ≡ option_and_then g o
bind_same f g None h = refl
bind_same f g (Some r) h = h r refl

upper_nil : (n m protocol : ℕ) → upper n protocol [] ≡ upper m protocol []
unfolding upper
upper_nil zero zero protocol = refl
upper_nil zero (suc m) protocol = refl
upper_nil (suc n) zero protocol = refl
upper_nil (suc n) (suc m) protocol = refl

upper_one : (n m protocol a : ℕ) → upper n protocol (a ∷ []) ≡ upper m protocol (a ∷ [])
unfolding upper
upper_one zero zero protocol a = refl
upper_one zero (suc m) protocol a = refl
upper_one (suc n) zero protocol a = refl
upper_one (suc n) (suc m) protocol a = refl

-- the count of headers doesn't matter, if it isn't less than the bytes
pub enough : (k n m protocol : ℕ) (bytes : List ℕ) → length bytes ≤ k → length bytes ≤ n → length bytes ≤ m → upper n protocol bytes ≡ upper m protocol bytes
unfolding upper
enough k n m protocol [] hk hn hm = upper_nil n m protocol
enough k n m protocol (a ∷ []) hk hn hm = upper_one n m protocol a
enough (suc k) (suc n) (suc m) protocol (a ∷ b ∷ rest) hk hn hm =
    let alike : (r : List ℕ) → past protocol b rest ≡ Some r → upper n a r ≡ upper m a r = (λ r e. (
    let s : length r ≤ length rest = past_shorter protocol b rest r e in enough k n m a r (omega arith) (omega arith) (omega arith))) in
    ap (λ (x : Option (ℕ × List ℕ)). if is_extension protocol then x else Some (protocol, a ∷ b ∷ rest))
    (bind_same (upper n a) (upper m a) (past protocol b rest) alike)
enough zero n m protocol (a ∷ b ∷ rest) hk hn hm = absurd (omega arith)
enough (suc k) zero m protocol (a ∷ b ∷ rest) hk hn hm = absurd (omega arith)
enough (suc k) (suc n) zero protocol (a ∷ b ∷ rest) hk hn hm = absurd (omega arith)

pub upper_step : (protocol next words : ℕ) (bytes rest : List ℕ)
    → is_extension protocol ≡ true → 2 ≤ length bytes → next ≡ get_or bytes 0 0 → words ≡ get_or bytes 1 0
    → Some rest ≡ past protocol words (take (length bytes - 2) (drop 2 bytes)) → upper (length bytes) protocol bytes ≡ upper (length rest) next rest
upper_step protocol next words (a ∷ b ∷ tail) rest e h is_next is_words is =
    let is' : past protocol words tail ≡ Some rest = sym (is ∙ ap (past protocol words) (take_rest (a ∷ b ∷ tail) 2)) in
    let short : length rest ≤ length tail = past_shorter protocol words tail rest is' in
    let from : upper (suc (length tail)) next rest ≡ upper (length rest) next rest =
    enough (length rest) (suc (length tail)) (length rest) next rest (omega arith) (omega arith) (omega arith) in
    rw (upper_next (suc (length tail)) protocol a b tail e, ← is_next, ← is_words, is') from
upper_step protocol next words (a ∷ []) rest e h is_next is_words is = absurd (omega arith)
upper_step protocol next words [] rest e h is_next is_words is = absurd (omega arith)

pub upper_none : (protocol words : ℕ) (bytes : List ℕ) → is_extension protocol ≡ true → 2 ≤ length bytes → words ≡ get_or bytes 1 0
    → None ≡ past protocol words (take (length bytes - 2) (drop 2 bytes)) → None ≡ upper (length bytes) protocol bytes
upper_none protocol words (a ∷ b ∷ tail) e h is_words is =
    let is' : past protocol words tail ≡ None = sym (is ∙ ap (past protocol words) (take_rest (a ∷ b ∷ tail) 2)) in
    rw (upper_next (suc (length tail)) protocol a b tail e, ← is_words, is') refl
upper_none protocol words (a ∷ []) e h is_words is = absurd (omega arith)
upper_none protocol words [] e h is_words is = absurd (omega arith)
