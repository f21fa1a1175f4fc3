-- The pass that validates and compares keys at once, part by part.
use Rattle.std.proofs.Common.{◌≡◌, ℕ, suc, ◌+◌, ◌-◌, ◌*◌, ◌^◌, ◌<◌, ◌≤◌, List, [], ◌∷◌, ◌++◌, length, get_or, drop, Option, Some, None, refl, ap, sym, ◌∙◌}
use Rattle.std.proofs.Common.{arith, append_assoc, length-append, pos, negsuc, zero, Bor, IfSome, subst}
use Rattle.std.specs.Fmt.{decimal, signed_decimal}
use Rattle.bt_bencode.specs.Trees.{integer, string, list, dictionary, no_trees, tree, Pairs, no_pairs, pair}
use Rattle.bt_bencode.specs.Bencoding.{ben, ben_all, ben_pairs, ben_string, longest_string, Spells}
use Rattle.bt_bencode.specs.Keys.{IsAbove, PairsAreSorted, unsorted}
use Rattle.bt_bencode.specs.Scanner.{IsDigit}
use Rattle.bt_bencode.specs.Unique.{regroup}
use Rattle.bt_bencode.specs.OnePass.{PassesInteger, PassesValue, PassesItems, PassesPairs}
use Rattle.bt_bencode.proofs.Numbers.{decimal_first, decimal_push}
use Rattle.bt_bencode.proofs.Heads.{headed}
use Rattle.bt_bencode.proofs.Nesting.{in_range, deep}
use Rattle.bt_bencode.proofs.Rising.{none_of}
use Rattle.bt_bencode.specs.Room.{FitsIn, PairsFitIn}
use Rattle.std.proofs.Common.{take}
use Rattle.std.proofs.Math.Seq.{take-append_seam}

-- a number's first digit, one digit more, and its end
pub number_begins : (bytes tail : List ℕ) → 0 < length bytes → IsDigit (get_or bytes 0 0) → tail ≡ drop 1 bytes → bytes
    ≡ decimal (get_or bytes 0 0 - 48) ++ tail
number_begins [] tail h d e = absurd (omega arith)
number_begins (c ∷ bytes) tail h d e = rw (decimal_first c d, e) refl

pub number_grows : (bytes rest tail : List ℕ) (n : ℕ) → 0 < length rest → IsDigit (get_or rest 0 0) → 0 < n → n * 10 + (get_or rest 0 0 - 48) < 2 ^ 64
    → tail ≡ drop 1 rest → bytes ≡ decimal n ++ rest → bytes ≡ decimal (n * 10 + (get_or rest 0 0 - 48)) ++ tail
number_grows bytes [] tail n h d low high e is = absurd (omega arith)
number_grows bytes (c ∷ rest) tail n h d low high e is = is ∙ rw (decimal_push n c low d high, e) (sym (append_assoc (decimal n) (c ∷ []) rest))

pub number_ends : (bytes rest tail : List ℕ) (n stop : ℕ) → 0 < length rest → get_or rest 0 0 ≡ stop → tail ≡ drop 1 rest → bytes ≡ decimal n ++ rest → bytes
    ≡ decimal n ++ stop ∷ tail
number_ends bytes [] tail n stop h s e is = absurd (omega arith)
number_ends bytes (c ∷ rest) tail n stop h s e is = is ∙ rw (e, ← s) refl

-- a value that is passed, by its first byte
pub plus_passes : (bytes rest : List ℕ) (n : ℕ) → n < 2 ^ 63 → bytes ≡ decimal n ++ 101 ∷ rest → PassesInteger bytes rest
plus_passes bytes rest n h is = (pos n, omega arith, is)

pub minus_passes : (bytes tail rest : List ℕ) (n : ℕ) → get_or bytes 0 0 ≡ 45 → tail ≡ drop 1 bytes → 0 < n → n ≤ 2 ^ 63 → tail ≡ decimal n ++ 101 ∷ rest
    → PassesInteger bytes rest
minus_passes bytes tail rest zero e t low h is = absurd (omega arith)
minus_passes bytes tail rest (suc n) e t low h is = (negsuc n, omega arith, headed bytes 45 e (omega arith) ∙ ap (λ (x : List ℕ). 45 ∷ x) (sym t ∙ is))

pub text_passes : (room : ℕ) (bytes s rest : List ℕ) → length s ≤ longest_string → bytes ≡ ben_string s ++ rest → PassesValue room bytes rest
text_passes room bytes s rest short split = (string s, short, tt, split)

pub integer_passes : (room : ℕ) (bytes tail : List ℕ) (o : Option (Bor (List ℕ))) → get_or bytes 0 0 ≡ 105 → tail ≡ drop 1 bytes
    → IfSome o (λ rest. PassesInteger tail rest.now) → IfSome o (λ rest. PassesValue room bytes rest.now)
integer_passes room bytes tail None e t h = tt
integer_passes room bytes tail (Some rest) e t (z, fits, is) = (
  integer z,
  fits,
  tt,
  headed bytes 105 e (omega arith) ∙ ap (λ (x : List ℕ). 105 ∷ x) (sym t ∙ is ∙ sym (append_assoc (signed_decimal z) (101 ∷ []) rest.now)),
)

pub items_pass : (room : ℕ) (bytes tail : List ℕ) (o : Option (Bor (List ℕ))) → 0 < room → get_or bytes 0 0 ≡ 108 → tail ≡ drop 1 bytes
    → IfSome o (λ rest. PassesItems (room - 1) tail rest.now) → IfSome o (λ rest. PassesValue room bytes rest.now)
items_pass room bytes tail None some e t h = tt
items_pass room bytes tail (Some rest) some e t (ts, fits, sorted, is) =
    let one : suc (room - 1) ≡ room = omega arith in
    let whole : PassesValue (suc (room - 1)) bytes rest.now = (
      list ts,
      fits,
      sorted,
      headed bytes 108 e (omega arith) ∙ ap (λ (x : List ℕ). 108 ∷ x) (sym t ∙ is ∙ sym (append_assoc (ben_all ts) (101 ∷ []) rest.now)),
    ) in
    subst (λ (r : ℕ). PassesValue r bytes rest.now) one whole

pub pairs_pass : (room : ℕ) (bytes tail : List ℕ) (o : Option (Bor (List ℕ))) → 0 < room → get_or bytes 0 0 ≡ 100 → tail ≡ drop 1 bytes
    → IfSome o (λ rest. PassesPairs (room - 1) None tail rest.now) → IfSome o (λ rest. PassesValue room bytes rest.now)
pairs_pass room bytes tail None some e t h = tt
pairs_pass room bytes tail (Some rest) some e t (ps, fits, sorted, is) =
    let one : suc (room - 1) ≡ room = omega arith in
    let whole : PassesValue (suc (room - 1)) bytes rest.now = (
      dictionary ps,
      fits,
      sorted,
      headed bytes 100 e (omega arith) ∙ ap (λ (x : List ℕ). 100 ∷ x) (sym t ∙ is ∙ sym (append_assoc (ben_pairs ps) (101 ∷ []) rest.now)),
    ) in
    subst (λ (r : ℕ). PassesValue r bytes rest.now) one whole

-- a list's end, and a value in front of what passes
pub no_items_pass : (room : ℕ) (bytes rest : List ℕ) → get_or bytes 0 0 ≡ 101 → rest ≡ drop 1 bytes → PassesItems room bytes rest
no_items_pass room bytes rest e r = (no_trees, tt, tt, headed bytes 101 e (omega arith) ∙ ap (λ (x : List ℕ). 101 ∷ x) (sym r))

pub item_passes : (room : ℕ) (bytes next more : List ℕ) → PassesValue room bytes next → PassesItems room next more → PassesItems room bytes more
item_passes room bytes next more (t, fits, sorted, is) (ts, all_fit, all_sorted, all) = (
  tree t ts,
  (fits, all_fit),
  (sorted, all_sorted),
  is ∙ ap (λ (x : List ℕ). ben t ++ x) all ∙ sym (append_assoc (ben t) (ben_all ts) (101 ∷ more)),
)

-- a dictionary's end, and a pair in front of what passes
pub no_pairs_pass : (room : ℕ) (last : Option (List ℕ)) (bytes rest : List ℕ) → get_or bytes 0 0 ≡ 101 → rest ≡ drop 1 bytes → PassesPairs room last bytes rest
no_pairs_pass room last bytes rest e r = (no_pairs, tt, tt, headed bytes 101 e (omega arith) ∙ ap (λ (x : List ℕ). 101 ∷ x) (sym r))

pub pair_passes : (room : ℕ) (last : Option (List ℕ)) (bytes key value next more : List ℕ) → length key ≤ longest_string → bytes ≡ ben_string key ++ value
    → IsAbove last key → PassesValue room value next → PassesPairs room (Some key) next more → PassesPairs room last bytes more
pair_passes room last bytes key value next more short split above (t, fits, sorted, is) (ps, all_fit, all_sorted, all) = (
  pair key t ps,
  (short, fits, all_fit),
  (above, sorted, all_sorted),
  split ∙ ap (λ (x : List ℕ). ben_string key ++ x) (is ∙ ap (λ (x : List ℕ). ben t ++ x) all)
      ∙ sym (regroup (ben_string key) (ben t) (ben_pairs ps) (101 ∷ more)),
)

-- the whole dictionary
pub record Passed (pairs : Pairs) (payload rest : List ℕ) : Type 0 where
  pub spells : Spells pairs (take (length payload - length rest) payload)
  pub rises : unsorted (dictionary pairs) ≡ None

pub dictionary_passed : (payload tail rest : List ℕ) (ps : Pairs) → get_or payload 0 0 ≡ 100 → tail ≡ drop 1 payload → PairsFitIn 31 ps
    → PairsAreSorted None ps → tail ≡ ben_pairs ps ++ 101 ∷ rest → Passed ps payload rest
dictionary_passed payload tail rest ps e t fit sorted is =
    let front : List ℕ = ben (dictionary ps) in
    let whole : payload ≡ front ++ rest = headed payload 100 e (omega arith)
    ∙ ap (λ (x : List ℕ). 100 ∷ x) (sym t ∙ is ∙ sym (append_assoc (ben_pairs ps) (101 ∷ []) rest)) in
    let long = ap length whole ∙ length-append front rest in
    let n : length payload - length rest ≡ length front = omega (arith, long) in
    let fits : FitsIn 32 (dictionary ps) = fit in
    record {
      spells = record {
        fits = record { in_range = in_range 32 (dictionary ps) fits; nested = deep 32 (dictionary ps) fits };
        spelled = rw n (ap (λ (x : List ℕ). take (length front) x) whole ∙ take-append_seam front rest);
      };
      rises = none_of (dictionary ps) sorted;
    }
