-- Where the pass that compares keys stops, part by part: whatever value is in front, its first key out of order is there.
use Rattle.std.proofs.Common.{◌≡◌, ◌≢◌, ◌⊎◌, ℕ, suc, ◌+◌, ◌-◌, ◌<◌, ◌≤◌, List, [], ◌∷◌, ◌++◌, length, get_or, drop, Option, Some, None, false, refl, ap, sym, ◌∙◌, arith}
use Rattle.std.proofs.Common.{inl, inr, pos, negsuc, ◌*◌, ◌^◌, subst, append_assoc, length-append, length-drop}
use Rattle.bt_bencode.specs.Trees.{Tree, integer, string, list, dictionary, no_trees, tree, Pairs, no_pairs, pair}
use Rattle.bt_bencode.specs.Bencoding.{ben, ben_all, ben_pairs, ben_string, longest_string, BeginsWith}
use Rattle.bt_bencode.specs.Keys.{IsAbove, unsorted, unsorted_pairs, is_above, first_of_two}
use Rattle.std.specs.Fmt.{decimal}
use Rattle.bt_bencode.specs.Readable.{HasInteger, HasString, IsNumber}
use Rattle.bt_bencode.specs.Scanner.{IsDigit, NumberThen, DigitsThen}
use Rattle.bt_bencode.proofs.Numbers.{number_forth}
use Rattle.bt_bencode.specs.Room.{FitsIn}
use Rattle.bt_bencode.specs.OnePass.{PassesValue, StopsAt, StopsValue, StopsItems, StopsPairs}
use Rattle.bt_bencode.specs.Unique.{same_number, same_tree, same_string, regroup}
use Rattle.bt_bencode.proofs.Heads.{nonempty, head_of, integer_there, negative_there}
use Rattle.bt_bencode.proofs.Nesting.{in_range, fits}
use Rattle.bt_bencode.proofs.Payloads.{split_at}
use Rattle.bt_bencode.proofs.Rising.{none_of}
use Rattle.bt_bencode.proofs.Walk.{list_at, dictionary_at}

-- a number that is in front goes on after its first digit
number_forward : (high stop m : ℕ) (more bytes tail : List ℕ) → tail ≡ drop 1 bytes → DigitsThen high stop (IsNumber m more) bytes
    → IsDigit (get_or bytes 0 0) × NumberThen high stop (IsNumber m more) (get_or bytes 0 0 - 48) tail
number_forward high stop m more [] tail e h = absurd h
number_forward high stop m more (c ∷ bytes) tail e h = (h.0, rw e h.1)

pub number_goes : (high stop : ℕ) (bytes tail : List ℕ) → 9 ≤ high → high < 2 ^ 64 → tail ≡ drop 1 bytes → (m : ℕ) (more : List ℕ) → m ≤ high
    → bytes ≡ decimal m ++ stop ∷ more → IsDigit (get_or bytes 0 0) × NumberThen high stop (IsNumber m more) (get_or bytes 0 0 - 48) tail
number_goes high stop bytes tail large small e m more le is = number_forward high stop m more bytes tail e
    (number_forth high stop (IsNumber m more) (omega arith) (omega arith) bytes (m, more, le, is, (refl, refl)))

pub no_number : (high stop : ℕ) (bytes : List ℕ) → 9 ≤ high → high < 2 ^ 64 → length bytes ≡ 0 → (m : ℕ) (more : List ℕ) → m ≤ high
    → bytes ≡ decimal m ++ stop ∷ more → ⊥
no_number high stop bytes large small empty m more le is = omega (arith, ap length is ∙ length-append (decimal m) (stop ∷ more))

-- and with one digit more
pub digit_goes_on : (high stop n m : ℕ) (more rest tail : List ℕ) → get_or rest 0 0 ≢ stop → tail ≡ drop 1 rest
    → NumberThen high stop (IsNumber m more) n rest
    → IsDigit (get_or rest 0 0) × (0 < n) × (n * 10 + (get_or rest 0 0 - 48) ≤ high)
    × NumberThen high stop (IsNumber m more) (n * 10 + (get_or rest 0 0 - 48)) tail
digit_goes_on high stop n m more [] tail other e h = absurd h
digit_goes_on high stop n m more (c ∷ rest) tail other e (inl h) = absurd (other h.0)
digit_goes_on high stop n m more (c ∷ rest) tail other e (inr h) = (h.0, h.1, h.2, rw e h.3)

pub number_is_there : (high stop n m : ℕ) (more rest : List ℕ) → length rest ≡ 0 → NumberThen high stop (IsNumber m more) n rest → ⊥
number_is_there high stop n m more [] e h = h
number_is_there high stop n m more (c ∷ rest) e h = omega arith

-- a byte string is as long as the number in front says
pub no_text : (bytes rest : List ℕ) (n : ℕ) → n ≤ longest_string → length rest < n → bytes ≡ decimal n ++ 58 ∷ rest → HasString bytes → ⊥
no_text bytes rest n le short is (s, more, h, all) =
    let same = same_number 58 n (length s) rest (s ++ more) (λ d. omega (arith, d.0, d.1)) (omega arith) (omega arith)
    (sym is ∙ all ∙ append_assoc (decimal (length s)) (58 ∷ s) more) in
    let long = ap length same.1 ∙ length-append s more in
    omega (arith, same.0, long)

-- an integer's magnitude
pub no_head : (bytes : List ℕ) (c : ℕ) → length bytes ≡ 0 → 0 < c → get_or bytes 0 0 ≢ c
no_head [] c empty some e = omega (arith, e)
no_head (b ∷ bytes) c empty some e = omega (arith, empty)

pub no_plus : (bytes : List ℕ) → get_or bytes 0 0 ≢ 45 → ((m : ℕ) (more : List ℕ) → m ≤ 2 ^ 63 - 1 → bytes ≡ decimal m ++ 101 ∷ more → ⊥) → HasInteger bytes → ⊥
no_plus bytes other none (pos n, rest, fits, is) = none n rest (omega arith) is
no_plus bytes other none (negsuc n, rest, fits, is) = other (ap (λ (x : List ℕ). get_or x 0 0) is)

pub no_minus : (bytes tail : List ℕ) → get_or bytes 0 0 ≡ 45 → tail ≡ drop 1 bytes
    → ((m : ℕ) (more : List ℕ) → m ≤ 2 ^ 63 → tail ≡ decimal m ++ 101 ∷ more → ⊥) → HasInteger bytes → ⊥
no_minus bytes tail e t none h = let k = negative_there bytes h e in none (suc k.0) k.1 (omega (arith, k.2)) (t ∙ k.3)

pub no_negative_zero : (bytes tail rest : List ℕ) (n : ℕ) → get_or bytes 0 0 ≡ 45 → tail ≡ drop 1 bytes → n ≡ 0 → tail ≡ decimal n ++ 101 ∷ rest
    → HasInteger bytes → ⊥
no_negative_zero bytes tail rest n e t zero is h =
    let k = negative_there bytes h e in
    let same = same_number 101 n (suc k.0) rest k.1 (λ d. omega (arith, d.0, d.1)) (omega arith) (omega (arith, k.2)) (sym is ∙ t ∙ k.3) in
    omega (arith, same.0)

-- a value that was passed is the only one there
pub passed_over : (room : ℕ) (bytes next : List ℕ) → PassesValue room bytes next
    → (u : Tree) (more : List ℕ) → FitsIn room u → bytes ≡ ben u ++ more → (unsorted u ≡ None) × (next ≡ more)
passed_over room bytes next (t, fit, sorted, is) u more h all =
    let same = same_tree t u next more (in_range room t fit) (in_range room u h) (sym is ∙ all) in
    (subst (λ (x : Tree). unsorted x ≡ None) same.0 (none_of t sorted), same.1)

nested : (n : ℕ) (o : Option ℕ) → o ≡ Some n → first_of_two None 1 o ≡ Some (1 + n)
nested n o e = ap (λ (x : Option ℕ). first_of_two None 1 x) e

-- ---- a value, by its first byte

pub nothing_stops : (room left : ℕ) (bytes : List ℕ) → length bytes ≡ 0 → StopsValue room bytes left
nothing_stops room left bytes empty t more h is = absurd (omega (arith, nonempty bytes (t, more, in_range room t h, is)))

pub integer_stops : (room left : ℕ) (bytes tail : List ℕ) → get_or bytes 0 0 ≡ 105 → tail ≡ drop 1 bytes → (HasInteger tail → ⊥) → StopsValue room bytes left
integer_stops room left bytes tail e t none u more h is = absurd (none (rw t (integer_there bytes (u, more, in_range room u h, is) e)))

pub list_stops : (room left : ℕ) (bytes tail : List ℕ) → 0 < room → get_or bytes 0 0 ≡ 108 → tail ≡ drop 1 bytes → StopsItems (room - 1) tail left
    → StopsValue room bytes left
list_stops room left bytes tail some e t stops u more h is =
    let w = list_at bytes u more e (in_range room u h) is in
    let one : room ≡ suc (room - 1) = omega arith in
    let whole : FitsIn room (list w.0) = subst (λ (x : Tree). FitsIn room x) w.1 h in
    let inner : FitsIn (suc (room - 1)) (list w.0) = subst (λ (r : ℕ). FitsIn r (list w.0)) one whole in
    let s = stops w.0 more inner (t ∙ w.3) in
    let there = nonempty bytes (u, more, in_range room u h, is) in
    let shorter = ap length t ∙ length-drop 1 bytes in
    (1 + s.0, ap (λ (x : Tree). unsorted x) w.1 ∙ nested s.0 _ s.1, omega (arith, s.2, there, shorter), s.3)

pub dictionary_stops : (room left : ℕ) (bytes tail : List ℕ) → 0 < room → get_or bytes 0 0 ≡ 100 → tail ≡ drop 1 bytes
    → StopsPairs (room - 1) None tail left → StopsValue room bytes left
dictionary_stops room left bytes tail some e t stops u more h is =
    let w = dictionary_at bytes u more e (in_range room u h) is in
    let one : room ≡ suc (room - 1) = omega arith in
    let whole : FitsIn room (dictionary w.0) = subst (λ (x : Tree). FitsIn room x) w.1 h in
    let inner : FitsIn (suc (room - 1)) (dictionary w.0) = subst (λ (r : ℕ). FitsIn r (dictionary w.0)) one whole in
    let s = stops w.0 more inner (t ∙ w.3) in
    let there = nonempty bytes (u, more, in_range room u h, is) in
    let shorter = ap length t ∙ length-drop 1 bytes in
    (1 + s.0, ap (λ (x : Tree). unsorted x) w.1 ∙ nested s.0 _ s.1, omega (arith, s.2, there, shorter), s.3)

pub text_stops : (room left : ℕ) (bytes : List ℕ) → get_or bytes 0 0 ≢ 105 → (get_or bytes 0 0 ≡ 108 → room ≡ 0) → (get_or bytes 0 0 ≡ 100 → room ≡ 0)
    → (HasString bytes → ⊥) → StopsValue room bytes left
text_stops room left bytes i l d none (integer z) more h is = absurd (i (ap (λ (x : List ℕ). get_or x 0 0) is))
text_stops room left bytes i l d none (string s) more h is = absurd (none (s, more, h, is))
text_stops room left bytes i l d none (list ts) more h is =
    absurd (subst (λ (r : ℕ). FitsIn r (list ts)) (l (ap (λ (x : List ℕ). get_or x 0 0) is)) h)
text_stops room left bytes i l d none (dictionary ps) more h is =
    absurd (subst (λ (r : ℕ). FitsIn r (dictionary ps)) (d (ap (λ (x : List ℕ). get_or x 0 0) is)) h)

-- ---- a list

pub no_item_stops : (room left : ℕ) (bytes : List ℕ) → length bytes ≡ 0 → StopsItems room bytes left
no_item_stops room left bytes empty ts more h is = absurd (omega (arith, ap length is ∙ length-append (ben_all ts) (101 ∷ more)))

pub item_stops : (room left : ℕ) (bytes : List ℕ) → get_or bytes 0 0 ≢ 101 → StopsValue room bytes left → StopsItems room bytes left
item_stops room left bytes other stops no_trees more h is = absurd (other (head_of bytes 101 more is))
item_stops room left bytes other stops (tree u us) more h is =
    let s = stops u (ben_all us ++ 101 ∷ more) h.0 (is ∙ append_assoc (ben u) (ben_all us) (101 ∷ more)) in
    (s.0, rw s.1 refl, s.2, s.3)

pub items_stop : (room left : ℕ) (bytes next : List ℕ) → get_or bytes 0 0 ≢ 101 → PassesValue room bytes next → StopsItems room next left
    → StopsItems room bytes left
items_stop room left bytes next other passes stops no_trees more h is = absurd (other (head_of bytes 101 more is))
items_stop room left bytes next other passes stops (tree u us) more h is =
    let tail : List ℕ = ben_all us ++ 101 ∷ more in
    let split : bytes ≡ ben u ++ tail = is ∙ append_assoc (ben u) (ben_all us) (101 ∷ more) in
    let w = passed_over room bytes next passes u tail h.0 split in
    let s = stops us more h.1 w.1 in
    let long = ap length split ∙ length-append (ben u) tail in
    let last = ap length w.1 in
    (length (ben u) + s.0, rw (w.0, s.1) refl, omega (arith, s.2, long, last), s.3)

-- ---- a dictionary

pub no_pair_stops : (room left : ℕ) (last : Option (List ℕ)) (bytes : List ℕ) → length bytes ≡ 0 → StopsPairs room last bytes left
no_pair_stops room left last bytes empty ps more h is = absurd (omega (arith, ap length is ∙ length-append (ben_pairs ps) (101 ∷ more)))

pub no_key_stops : (room left : ℕ) (last : Option (List ℕ)) (bytes : List ℕ) → get_or bytes 0 0 ≢ 101 → (HasString bytes → ⊥) → StopsPairs room last bytes left
no_key_stops room left last bytes other none no_pairs more h is = absurd (other (head_of bytes 101 more is))
no_key_stops room left last bytes other none (pair k u us) more h is =
    absurd (none (k, ben u ++ (ben_pairs us ++ 101 ∷ more), h.0, is ∙ regroup (ben_string k) (ben u) (ben_pairs us) (101 ∷ more)))

-- a key in front, and the bytes from its value on
module _ (room left : ℕ) (last : Option (List ℕ)) (bytes key value : List ℕ) (other : get_or bytes 0 0 ≢ 101) (short : length key ≤ longest_string)
    (split : bytes ≡ ben_string key ++ value) where
  -- it is the key of any pair that is there
  front : (k : List ℕ) (u : Tree) (us : Pairs) (more : List ℕ) → length k ≤ longest_string → bytes ≡ ben_pairs (pair k u us) ++ 101 ∷ more
      → (key ≡ k) × (value ≡ ben u ++ (ben_pairs us ++ 101 ∷ more))
  front k u us more h is = same_string key k value (ben u ++ (ben_pairs us ++ 101 ∷ more)) short h
      (sym split ∙ is ∙ regroup (ben_string k) (ben u) (ben_pairs us) (101 ∷ more))

  long : length bytes ≡ length (ben_string key) + length value
  long = ap length split ∙ length-append (ben_string key) value

  above_of : (k : List ℕ) → key ≡ k → IsAbove last key → IsAbove last k
  above_of k e h = subst (λ (x : List ℕ). IsAbove last x) e h

  pub key_stops : 0 < length bytes → is_above last key ≡ false → left ≡ length bytes → StopsPairs room last bytes left
  key_stops some below all no_pairs more h is = absurd (other (head_of bytes 101 more is))
  key_stops some below all (pair k u us) more h is =
      let bad : is_above last k ≡ false = subst (λ (x : List ℕ). is_above last x ≡ false) (front k u us more h.0 is).0 below in
      (0, rw bad refl, omega arith, omega arith)

  pub value_stops : IsAbove last key → StopsValue room value left → StopsPairs room last bytes left
  value_stops above stops no_pairs more h is = absurd (other (head_of bytes 101 more is))
  value_stops above stops (pair k u us) more h is =
      let same = front k u us more h.0 is in
      let good : IsAbove last k = above_of k same.0 above in
      let s = stops u (ben_pairs us ++ 101 ∷ more) h.1 same.1 in
      let keys : length (ben_string key) ≡ length (ben_string k) = ap (λ (x : List ℕ). length (ben_string x)) same.0 in
      (length (ben_string k) + s.0, rw (good, s.1) refl, omega (arith, s.2, long, keys), s.3)

  pub pairs_stop : (next : List ℕ) → IsAbove last key → PassesValue room value next → StopsPairs room (Some key) next left → StopsPairs room last bytes left
  pairs_stop next above passes stops no_pairs more h is = absurd (other (head_of bytes 101 more is))
  pairs_stop next above passes stops (pair k u us) more h is =
      let tail : List ℕ = ben_pairs us ++ 101 ∷ more in
      let same = front k u us more h.0 is in
      let good : IsAbove last k = above_of k same.0 above in
      let w = passed_over room value next passes u tail h.1 same.1 in
      let s = stops us more h.2 w.1 in
      let keys : length (ben_string key) ≡ length (ben_string k) = ap (λ (x : List ℕ). length (ben_string x)) same.0 in
      let mid = ap length same.1 ∙ length-append (ben u) tail in
      let end = ap length w.1 in
      let offset : unsorted_pairs (Some k) us ≡ Some s.0 = subst (λ (x : List ℕ). unsorted_pairs (Some x) us ≡ Some s.0) same.0 s.1 in
      (length (ben_string k) + (length (ben u) + s.0), rw (good, w.0, offset) refl, omega (arith, s.2, long, keys, mid, end), s.3)

-- ---- the whole payload

-- a dictionary in front, as the pass meets it
pub begun_stops : (payload : List ℕ) (ps : Pairs) (n left : ℕ) → BeginsWith payload ps n → StopsValue 32 payload left
    → StopsAt (unsorted (dictionary ps)) payload left
begun_stops payload ps n left b stops = stops (dictionary ps) (drop n payload) (fits 32 (dictionary ps) b.spells.fits.in_range b.spells.fits.nested)
    (sym (split_at payload ps n b))

pub none_unsorted : (payload next : List ℕ) (ps : Pairs) (n : ℕ) → BeginsWith payload ps n → PassesValue 32 payload next → None ≡ unsorted (dictionary ps)
none_unsorted payload next ps n b passes = sym (passed_over 32 payload next passes (dictionary ps) (drop n payload)
    (fits 32 (dictionary ps) b.spells.fits.in_range b.spells.fits.nested) (sym (split_at payload ps n b))).0

pub one_order : (payload : List ℕ) (left at : ℕ) → StopsValue 32 payload left → at ≡ length payload - left → (ps : Pairs) (n : ℕ) → BeginsWith payload ps n
    → unsorted (dictionary ps) ≡ Some at
one_order payload left at stops e ps n b =
    let s = begun_stops payload ps n left b stops in
    s.1 ∙ ap (λ (k : ℕ). Some k) (omega (arith, s.2))
