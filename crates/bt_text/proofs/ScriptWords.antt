-- The words of a line: its front up to a space, and the numbers that words say.
use Rattle.std.proofs.Common.{◌≡◌, ℕ, suc, ◌+◌, ◌-◌, ◌*◌, ◌<◌, ◌≤◌, ◌^◌, ◌==◌, Bool, true, false, ◌&&◌, not, List, [], ◌∷◌, ◌++◌, length, take, drop}
use Rattle.std.proofs.Common.{get_or, Option, Some, None, refl, sym, ap, ◌∙◌, arith, inl, inr, cond, zero}
use Rattle.std.proofs.lemmas.Bool.{cases_Bool, cases_lt, and_parts, not-true, eqb-true, ltb-true, ltb-false, lt-ltb}
use Rattle.std.proofs.lemmas.Fmt.{digits_decimal, digits_value-decimal, decimal-digits_value, length-decimal-le, decimal_nonempty, first_decimal, decimal_digit}
use Rattle.std.proofs.lemmas.List.{length-append, length-take, get_or-take, get_or_append_left, get_or-append_right, take-append-drop, take-take, take_at, drop_at}
use Rattle.std.proofs.lemmas.List.{append-nil, nil_from_length}
use Rattle.std.proofs.lemmas.Option.{same_Some}
use Rattle.std.proofs.lemmas.List.Sums.{prefix_len-le-length}
use Rattle.std.proofs.lemmas.Slice.Eq.{bytes_eq-Decides}
use Rattle.std.proofs.lemmas.Str.Parse.{IsNumeralModel, numerals_by_value, tells_by_index, digits_value_short}
use Rattle.std.proofs.lemmas.Int.Digits.{digits_value_more}
use Rattle.std.specs.Char.{digit_value, is_ascii_digit}
use Rattle.std.specs.Fmt.{decimal}
use Rattle.std.specs.Int.{IsInRange}
use Rattle.std.specs.List.{position_or_len}
use Rattle.std.specs.Prelude.{nat_lt, position, unwrap_or, ⊤}
use Rattle.std.specs.Str.{bytes_eq}
use Rattle.std.specs.Str.Parse.{digits_value}
use Rattle.bt_text.specs.Script.{has_no_space}
use Rattle.bt_text.specs.ScriptReading.{word_of, after_word, ends, goes_on, number_in_word, first_number, IsLed, IsLeading}

abbrev pub is_space : ℕ → Bool
is_space c = c == 32

pub take-word : (t : List ℕ) → take (position_or_len is_space t) t ≡ word_of t
take-word [] = refl
take-word (c ∷ cs) =
    elim (cases_Bool (c == 32)) [
      | inl e ↦ rw e refl
      | inr e ↦
          let n = position_or_len is_space cs in
          let more : 1 + n ≡ suc n = omega arith in
          rw e (ap (λ (k : ℕ). take k (c ∷ cs)) more ∙ ap (λ (x : List ℕ). c ∷ x) (take-word cs))
    ]

pub drop-word : (t : List ℕ) → drop (position_or_len is_space t) t ≡ after_word t
drop-word [] = refl
drop-word (c ∷ cs) =
    elim (cases_Bool (c == 32)) [
      | inl e ↦ rw e refl
      | inr e ↦
          let n = position_or_len is_space cs in
          let more : 1 + n ≡ suc n = omega arith in
          rw e (ap (λ (k : ℕ). drop k (c ∷ cs)) more ∙ drop-word cs)
    ]

end_by : (b : Bool) (n k : ℕ) → (b ≡ false → n ≡ k) → unwrap_or (cond b (Some n) None) k ≡ n
end_by true n k h = refl
end_by false n k h = sym (h refl)

pub word_end : (t : List ℕ) → unwrap_or (position is_space t) (length t) ≡ position_or_len is_space t
word_end t =
    let n = position_or_len is_space t in
    end_by (nat_lt n (length t)) n (length t) (λ e. omega (arith, ltb-false n (length t) e, prefix_len-le-length (λ c. not (is_space c)) t))

pub word-parts : (t : List ℕ) → word_of t ++ after_word t ≡ t
word-parts [] = refl
word-parts (c ∷ cs) =
    elim (cases_Bool (c == 32)) [
      | inl e ↦ rw e refl
      | inr e ↦ rw e (ap (λ (x : List ℕ). c ∷ x) (word-parts cs))
    ]

-- ---- a word and what follows it

-- nothing follows, or a space does
abbrev pub Stops : List ℕ → Type 0
Stops [] = ⊤
Stops (c ∷ cs) = c ≡ 32

pub word_of-append : (w t : List ℕ) → has_no_space w ≡ true → Stops t → word_of (w ++ t) ≡ w
word_of-append [] [] h stops = refl
word_of-append [] (c ∷ cs) h stops = rw stops refl
word_of-append (c ∷ cs) t h stops =
    let p = and_parts (not (c == 32)) (has_no_space cs) h in
    let e : (c == 32) ≡ false = not-true (c == 32) p.0 in
    rw e (ap (λ (x : List ℕ). c ∷ x) (word_of-append cs t p.1 stops))

pub after_word-append : (w t : List ℕ) → has_no_space w ≡ true → Stops t → after_word (w ++ t) ≡ t
after_word-append [] [] h stops = refl
after_word-append [] (c ∷ cs) h stops = rw stops refl
after_word-append (c ∷ cs) t h stops =
    let p = and_parts (not (c == 32)) (has_no_space cs) h in
    let e : (c == 32) ≡ false = not-true (c == 32) p.0 in
    rw e (after_word-append cs t p.1 stops)

-- ---- numbers

-- digits by their index
abbrev pub AreDigits : List ℕ → Type 0
AreDigits ds = (i : ℕ) → i < length ds → IsInRange 48 57 (get_or ds i 0)

pub own : IsNumeralModel AreDigits (digits_value 10)
own = numerals_by_value _ tells_by_index

digits_have_no_space : (w : List ℕ) → AreDigits w → has_no_space w ≡ true
digits_have_no_space [] h = refl
digits_have_no_space (c ∷ cs) h =
    let first : IsInRange 48 57 c = h 0 (omega arith) in
    let e : (c == 32) ≡ false = grind arith in
    rw e (digits_have_no_space cs (λ i lt. h (suc i) (omega arith)))

pub decimal_has_no_space : (n : ℕ) → n < 2 ^ 64 → has_no_space (decimal n) ≡ true
decimal_has_no_space n lt = digits_have_no_space (decimal n) (digits_decimal own n lt)

-- the test that the word is the number's digits, and the number is below 2 ^ 32
test : List ℕ → Bool
test w = nat_lt (digits_value 10 w) (2 ^ 32) && bytes_eq (decimal (digits_value 10 w)) w

pub number_in_word-decimal : (n : ℕ) → n < 2 ^ 32 → number_in_word (decimal n) ≡ Some n
unfolding number_in_word
number_in_word-decimal n lt =
    let e : digits_value 10 (decimal n) ≡ n = digits_value-decimal own n (omega arith) in
    let small : nat_lt n (2 ^ 32) ≡ true = lt-ltb n (2 ^ 32) lt in
    let same : bytes_eq (decimal n) (decimal n) ≡ true = (bytes_eq-Decides (decimal n) (decimal n)).1 refl in
    rw (e, small, same) refl

-- it is the number's digits
pub record IsDecimal (w : List ℕ) (n : ℕ) : Type 0 where
  pub digits : w ≡ decimal n
  pub small : n < 2 ^ 32

tested : (w : List ℕ) → test w ≡ true → IsDecimal w (digits_value 10 w)
unfolding test
tested w e =
    let p = and_parts (nat_lt (digits_value 10 w) (2 ^ 32)) (bytes_eq (decimal (digits_value 10 w)) w) e in
    record {
      digits = sym ((bytes_eq-Decides (decimal (digits_value 10 w)) w).0 p.1);
      small = ltb-true (digits_value 10 w) (2 ^ 32) p.0;
    }

pub number_in_word-Some : (w : List ℕ) (n : ℕ) → number_in_word w ≡ Some n → IsDecimal w n
unfolding number_in_word test
number_in_word-Some w n h =
    elim (cases_Bool (test w)) [
      | inl e ↦
          let same : digits_value 10 w ≡ n = let k = rw e at h in cc k in
          rw (← same) (tested w e)
      | inr e ↦ absurd (let k = rw e at h in cc k)
    ]

pub number_in_word-None : (w : List ℕ) → ((n : ℕ) → IsDecimal w n → ⊥) → number_in_word w ≡ None
unfolding number_in_word test
number_in_word-None w none =
    elim (cases_Bool (test w)) [
      | inl e ↦ absurd (none (digits_value 10 w) (tested w e))
      | inr e ↦ rw e refl
    ]

-- ---- what digits say

-- one digit more
pub number_step : (w : List ℕ) (i n : ℕ) → i < length w → IsInRange 48 57 (get_or w i 0) → n ≡ digits_value 10 (take i w) → n * 10 + (get_or w i 0 - 48)
    ≡ digits_value 10 (take (i + 1) w)
number_step w i n lt digit is =
    let value : digit_value (get_or w i 0) ≡ get_or w i 0 - 48 = digit_is (get_or w i 0) digit in
    sym (digits_value_more 10 w i lt ∙ rw (value, ← is) refl)
  where
    digit_is : (c : ℕ) → IsInRange 48 57 c → digit_value c ≡ c - 48
    digit_is c digit = grind arith

pub is_digit : (c : ℕ) → is_ascii_digit c ≡ true → IsInRange 48 57 c
is_digit c e = grind arith

is_none : (c : ℕ) → is_ascii_digit c ≡ false → IsInRange 48 57 c → ⊥
is_none c e digit = grind arith

pub value_short : (w : List ℕ) (i n : ℕ) → i ≤ 10 → i ≤ length w → n ≡ digits_value 10 (take i w)
    → ((k : ℕ) → k < i → IsInRange 48 57 (get_or w k 0)) → n < 10000000000
value_short w i n short le is digits =
    let len : length (take i w) ≡ i = omega (arith, length-take i w) in
    let all : AreDigits (take i w) = λ k lt. rw (get_or-take i w k 0 (omega (arith, len))) (digits k (omega (arith, len))) in
    omega (arith, is, digits_value_short own (take i w) 10 all (omega (arith, len)))

-- ---- the number in front of a text

no_digit : (r : List ℕ) → goes_on r ≡ false → is_ascii_digit (get_or r 0 0) ≡ false
no_digit [] h = refl
no_digit (c ∷ cs) h = h

-- the digits of m and what follows them are the text, whose digits in front are `k` of value n
pub record IsNumeral (t rest : List ℕ) (n k m : ℕ) : Type 0 where
  pub word : take k t ≡ decimal m
  pub after : drop k t ≡ rest
  pub value : n ≡ m
  pub some : 0 < k
  pub short : k ≤ 10

pub led_is : (t : List ℕ) (n k : ℕ) → IsLed (take 11 t) n k → (m : ℕ) (rest : List ℕ) → m < 2 ^ 32 → goes_on rest ≡ false → t ≡ decimal m ++ rest
    → IsNumeral t rest n k m
led_is t n k led m rest lt stop parts =
    let d = decimal m in
    let short = length-decimal-le 10 m (omega arith) (omega arith) (omega arith) in
    let size = ap length parts ∙ length-append d rest in
    let front = length-take 11 t in
    let digits = digits_decimal own m (omega arith) in
    let same : k ≡ length d =
    elim (cases_lt k (length d)) [
      | inl less ↦
          let here : get_or (take 11 t) k 0 ≡ get_or d k 0 =
          get_or-take 11 t k 0 (omega arith) ∙ ap (λ (l : List ℕ). get_or l k 0) parts ∙ get_or_append_left d rest 0 k less in
          absurd (is_none (get_or (take 11 t) k 0) (led.ended (omega (arith, front, size))) (rw here (digits k less)))
      | inr le ↦
          elim (cases_lt (length d) k) [
            | inl more ↦
                let here : get_or (take 11 t) (length d) 0 ≡ get_or rest (length d - length d) 0 =
                get_or-take 11 t (length d) 0 (omega arith) ∙ ap (λ (l : List ℕ). get_or l (length d) 0) parts
                ∙ get_or-append_right d rest (length d) (length d) 0 refl (omega arith) in
                let none : length d - length d ≡ 0 = omega arith in
                absurd (is_none (get_or rest 0 0) (no_digit rest stop) (rw (here, none) at (led.digits (length d) more)))
            | inr ge ↦ omega arith
          ]
    ] in
    let word : take k t ≡ d = ap (take k) parts ∙ take_at d rest k (sym same) in
    record {
      word = word;
      after = ap (drop k) parts ∙ drop_at d rest k (sym same);
      value = led.value ∙ ap (digits_value 10) (take-take k 11 t (omega arith) ∙ word) ∙ digits_value-decimal own m (omega arith);
      some = omega (arith, same, decimal_nonempty m (omega arith));
      short = omega (arith, same, short);
    }

first_zero : (n : ℕ) → n < 2 ^ 32 → get_or (decimal n) 0 0 ≡ 48 → length (decimal n) ≤ 1
first_zero zero lt e = omega (arith, ap length (decimal_digit 0 (omega arith)))
first_zero (suc n) lt e = absurd (omega (arith, first_decimal (suc n) (omega arith) (omega arith)))

pub no_zero : {t rest : List ℕ} {n k m : ℕ} → IsNumeral t rest n k m → m < 2 ^ 32 → get_or (take k t) 0 0 ≡ 48 → 1 < length (take k t) → ⊥
no_zero {m = m} is lt e more = omega (arith, first_zero m lt (rw is.word at e), rw is.word at more)

-- the digits in front, of which no zero comes before another, are those of their value
pub led_number : (t : List ℕ) (n k : ℕ) → IsLed (take 11 t) n k → 0 < k → k ≤ 10 → (get_or (take k t) 0 0 ≡ 48 → 1 < length (take k t) → ⊥) → n < 2 ^ 32
    → t ≡ decimal n ++ drop k t
led_number t n k led some short nought lt =
    let w = take k t in
    let len : length w ≡ k = omega (arith, led.within, length-take 11 t, length-take k t) in
    let value : n ≡ digits_value 10 w = led.value ∙ ap (digits_value 10) (take-take k 11 t (omega arith)) in
    let digits : AreDigits w = λ i below.
    rw (get_or-take k t i 0 (omega (arith, len)) ∙ sym (get_or-take 11 t i 0 (omega (arith, len)))) (led.digits i (omega (arith, len))) in
    let first : get_or w 0 0 ≡ 48 → length w ≡ 1 = λ e. elim (cases_lt 1 (length w)) [ inl more ↦ absurd (nought e more) | inr one ↦ omega (arith, len) ] in
    sym (take-append-drop k t)
    ∙ ap (λ (l : List ℕ). l ++ drop k t) (sym (ap decimal value ∙ decimal-digits_value own w digits (omega (arith, len)) first (omega (arith, value))))

-- ---- a word that is a number

stop_by : (t : List ℕ) → ends t ≡ true → goes_on t ≡ false
stop_by [] h = refl
stop_by (c ∷ cs) h = rw (eqb-true c 32 h) refl

stops_by : (t : List ℕ) → ends t ≡ true → Stops t
stops_by [] h = tt
stops_by (c ∷ cs) h = eqb-true c 32 h

pub ends_after : (t : List ℕ) → ends (after_word t) ≡ true
ends_after [] = refl
ends_after (c ∷ cs) =
    elim (cases_Bool (c == 32)) [
      | inl e ↦ rw e e
      | inr e ↦ rw e (ends_after cs)
    ]

-- up to a space or the end
pub first_led : (t rest : List ℕ) (n : ℕ) → IsLeading t (Some (n, rest)) → ends rest ≡ true → first_number t ≡ Some (n, rest)
first_led t rest n h e =
    let free = decimal_has_no_space n (omega (arith, h.found.0)) in
    let word : word_of t ≡ decimal n = ap word_of h.found.1 ∙ word_of-append (decimal n) rest free (stops_by rest e) in
    let after : after_word t ≡ rest = ap after_word h.found.1 ∙ after_word-append (decimal n) rest free (stops_by rest e) in
    rw (word, after, number_in_word-decimal n h.found.0) refl

no_first : (t : List ℕ) (r : Option (ℕ × List ℕ)) → IsLeading t r → ((n : ℕ) (rest : List ℕ) → r ≡ Some (n, rest) → ends rest ≡ true → ⊥)
    → first_number t ≡ None
no_first t r h other =
    let none : number_in_word (word_of t) ≡ None =
    number_in_word-None (word_of t) (λ n is.
    let parts : t ≡ decimal n ++ after_word t = sym (word-parts t) ∙ ap (λ (w : List ℕ). w ++ after_word t) is.digits in
    other n (after_word t) (h.all n (after_word t) is.small (stop_by (after_word t) (ends_after t)) parts) (ends_after t)) in
    rw none refl

pub first_none : (t : List ℕ) → IsLeading t None → first_number t ≡ None
first_none t h = no_first t None h (λ n rest e. absurd cc)

pub first_more : (t rest : List ℕ) (n : ℕ) → IsLeading t (Some (n, rest)) → ends rest ≡ false → first_number t ≡ None
first_more t rest n h more = no_first t (Some (n, rest)) h (λ m tail e end. let same : rest ≡ tail = ap (λ (p : ℕ × List ℕ). p.1) (same_Some _ _ e) in grind arith)

-- and nothing more
pub whole_number : (w rest : List ℕ) (n : ℕ) → IsLeading w (Some (n, rest)) → length rest ≡ 0 → number_in_word w ≡ Some n
whole_number w rest n h nothing =
    let same : w ≡ decimal n = h.found.1 ∙ ap (λ (l : List ℕ). decimal n ++ l) (nil_from_length rest nothing) ∙ append-nil (decimal n) in
    rw same (number_in_word-decimal n h.found.0)

whole_as : (w : List ℕ) (r : Option (ℕ × List ℕ)) → IsLeading w r → ((n : ℕ) → r ≡ Some (n, []) → ⊥) → number_in_word w ≡ None
whole_as w r h other = number_in_word-None w (λ n is. other n (h.all n [] is.small refl (is.digits ∙ sym (append-nil (decimal n)))))

pub whole_none : (w : List ℕ) → IsLeading w None → number_in_word w ≡ None
whole_none w h = whole_as w None h (λ n e. absurd cc)

pub whole_more : (w rest : List ℕ) (n : ℕ) → IsLeading w (Some (n, rest)) → (length rest ≡ 0 → ⊥) → number_in_word w ≡ None
whole_more w rest n h more = whole_as w (Some (n, rest)) h (λ m e. more (ap (λ (p : ℕ × List ℕ). length p.1) (same_Some _ _ e)))
