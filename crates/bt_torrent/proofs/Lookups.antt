-- What is found at a key of a file's dictionary.
use Rattle.std.proofs.Common.{◌≡◌, ◌≢◌, ℕ, ◌-◌, ◌<◌, ◌≤◌, ◌^◌, List, [], ◌∷◌, ◌++◌, length, get_or, take, Option, Some, None, refl, ap, sym}
use Rattle.std.proofs.Common.{◌∙◌, arith, append-nil, length-append, subst, Bool, true, false, if◌then◌else◌, is_some}
use Rattle.std.proofs.Math.Seq.{take-append_seam}
use Rattle.std.specs.Prelude.{option_and_then}
use Rattle.std.specs.Str.{bytes_eq}
use Rattle.bt_bencode.specs.Trees.{Tree, integer, string, list, dictionary, Pairs, no_pairs, pair, nesting}
use Rattle.bt_bencode.specs.Bencoding.{ben, ben_pairs, ben_string}
use Rattle.bt_bencode.specs.Keys.{value_at}
use Rattle.bt_bencode.specs.LookUps.{dictionary_of, integer_of, string_of}
use Rattle.bt_bencode.specs.Unique.{regroup}
use Rattle.bt_bencode.proofs.Heads.{head_of}
use Rattle.bt_torrent.specs.Files.{InFile, IsFileOf}
use Rattle.bt_torrent.specs.Bencoded.{ArePairs, PassesPairs, PassesText, PassesValue}
use Rattle.bt_torrent.proofs.Passing.{front, same_value, string_at}
use Rattle.bt_torrent.proofs.Unique.{same_tree}

-- the first pair with the key is among those that the rest begins with
abbrev pub LeftFor : List ℕ → Pairs → List ℕ → List ℕ → Type 0
LeftFor key ps more rest = (qs : Pairs) × ArePairs 31 rest qs more × (value_at key ps ≡ value_at key qs)

pub none_left : (key rest more : List ℕ) (ps : Pairs) → get_or rest 0 0 ≡ 101 → LeftFor key ps more rest → value_at key ps ≡ None
none_left key rest more ps e (no_pairs, h, same) = same
none_left key rest more ps e (pair k t qs, (h, n, is), same) =
    absurd (omega (arith, string_at rest k (ben t ++ (ben_pairs qs ++ 101 ∷ more)) 101 h.0 (is ∙ regroup (ben_string k) (ben t) (ben_pairs qs) (101 ∷ more)) e))

pub passes_left : (key rest more : List ℕ) (ps : Pairs) → LeftFor key ps more rest → PassesPairs 31 rest more
passes_left key rest more ps (qs, are, same) = (qs, are)

module _ (rest name value next : List ℕ) (other : get_or rest 0 0 ≢ 101) (short : length name < 2 ^ 63) (split : rest ≡ ben_string name ++ value)
    (passes : PassesValue 31 value next) (key more : List ℕ) (ps : Pairs) where
  pub found_left : bytes_eq name key ≡ true → LeftFor key ps more rest
      → (t : Tree) × (value_at key ps ≡ Some t) × InFile t × (nesting t ≤ 31) × (take (length value - length next) value ≡ ben t)
  found_left hit (no_pairs, (h, n, is), same) = absurd (other (head_of rest 101 more is))
  found_left hit (pair k t qs, (h, n, is), same) =
      let f = front 31 rest name value other short split k t qs more h.0 is in
      let v = same_value 31 value next (ben_pairs qs ++ 101 ∷ more) t passes h.1 f.1 in
      let whole : value ≡ ben t ++ next = f.1 ∙ ap (λ (x : List ℕ). ben t ++ x) (sym v.1) in
      let n : length value - length next ≡ length (ben t) = omega (arith, ap length whole ∙ length-append (ben t) next) in
      let hit' : bytes_eq k key ≡ true = subst (λ (x : List ℕ). bytes_eq x key ≡ true) f.0 hit in (
        t,
        same ∙ ap (λ (b : Bool). if b then Some t else value_at key qs) hit',
        h.1,
        v.0,
        rw n (ap (λ (x : List ℕ). take (length (ben t)) x) whole ∙ take-append_seam (ben t) next),
      )

  pub left_after : bytes_eq name key ≡ false → LeftFor key ps more rest → LeftFor key ps more next
  left_after miss (no_pairs, (h, n, is), same) = absurd (other (head_of rest 101 more is))
  left_after miss (pair k t qs, (h, n, is), same) =
      let f = front 31 rest name value other short split k t qs more h.0 is in
      let v = same_value 31 value next (ben_pairs qs ++ 101 ∷ more) t passes h.1 f.1 in
      let miss' : bytes_eq k key ≡ false = subst (λ (x : List ℕ). bytes_eq x key ≡ false) f.0 miss in
      (qs, (h.2, omega (arith, n), v.1), same ∙ ap (λ (b : Bool). if b then Some t else value_at key qs) miss')

-- ---- a value of a kind, by its first byte

no_string_head : (bytes s : List ℕ) → length s < 2 ^ 63 → bytes ≡ ben (string s) → get_or bytes 0 0 ≤ 58
no_string_head bytes s h is = string_at bytes s [] (get_or bytes 0 0) h (is ∙ sym (append-nil (ben_string s))) refl

pub as_dictionary : (bytes : List ℕ) (o : Option Tree) → get_or bytes 0 0 ≡ 100
    → ((t : Tree) × (o ≡ Some t) × InFile t × (nesting t ≤ 31) × (bytes ≡ ben t))
    → (ps : Pairs) × (option_and_then dictionary_of o ≡ Some ps) × IsFileOf ps bytes
as_dictionary bytes o e (integer z, is, h, n, all) = absurd (omega (arith, e, ap (λ (x : List ℕ). get_or x 0 0) all))
as_dictionary bytes o e (string s, is, h, n, all) = absurd (omega (arith, e, no_string_head bytes s h all))
as_dictionary bytes o e (list ts, is, h, n, all) = absurd (omega (arith, e, ap (λ (x : List ℕ). get_or x 0 0) all))
as_dictionary bytes o e (dictionary ps, is, h, n, all) =
    (ps, ap (option_and_then dictionary_of) is, record { in_file = h; nested = omega (arith, n); spelled = all })

pub no_dictionary_of : (bytes : List ℕ) (o : Option Tree) → get_or bytes 0 0 ≢ 100
    → ((t : Tree) × (o ≡ Some t) × InFile t × (nesting t ≤ 31) × (bytes ≡ ben t)) → option_and_then dictionary_of o ≡ None
no_dictionary_of bytes o other (integer z, is, h, n, all) = ap (option_and_then dictionary_of) is
no_dictionary_of bytes o other (string s, is, h, n, all) = ap (option_and_then dictionary_of) is
no_dictionary_of bytes o other (list ts, is, h, n, all) = ap (option_and_then dictionary_of) is
no_dictionary_of bytes o other (dictionary ps, is, h, n, all) = absurd (other (ap (λ (x : List ℕ). get_or x 0 0) all))

pub integer_said : (bytes : List ℕ) (o : Option Tree) (b : Bool) → (b ≡ true → get_or bytes 0 0 ≡ 105) → (get_or bytes 0 0 ≡ 105 → b ≡ true)
    → ((t : Tree) × (o ≡ Some t) × InFile t × (nesting t ≤ 31) × (bytes ≡ ben t)) → b ≡ is_some (option_and_then integer_of o)
integer_said bytes o b there back (integer z, is, h, n, all) =
    back (ap (λ (x : List ℕ). get_or x 0 0) all) ∙ sym (ap (λ x. is_some (option_and_then integer_of x)) is)
integer_said bytes o false there back (string s, is, h, n, all) = sym (ap (λ x. is_some (option_and_then integer_of x)) is)
integer_said bytes o true there back (string s, is, h, n, all) = absurd (omega (arith, there refl, no_string_head bytes s h all))
integer_said bytes o false there back (list ts, is, h, n, all) = sym (ap (λ x. is_some (option_and_then integer_of x)) is)
integer_said bytes o true there back (list ts, is, h, n, all) = absurd (omega (arith, there refl, ap (λ (x : List ℕ). get_or x 0 0) all))
integer_said bytes o false there back (dictionary ps, is, h, n, all) = sym (ap (λ x. is_some (option_and_then integer_of x)) is)
integer_said bytes o true there back (dictionary ps, is, h, n, all) = absurd (omega (arith, there refl, ap (λ (x : List ℕ). get_or x 0 0) all))

pub as_text : (bytes s rest : List ℕ) (o : Option Tree) → length s < 2 ^ 63 → bytes ≡ ben_string s ++ rest
    → ((t : Tree) × (o ≡ Some t) × InFile t × (nesting t ≤ 31) × (bytes ≡ ben t)) → Some s ≡ option_and_then string_of o
as_text bytes s rest o short split (t, is, h, n, all) =
    let same = same_tree t (string s) [] rest h short (append-nil (ben t) ∙ sym all ∙ split) in
    sym (ap (option_and_then string_of) (is ∙ ap (λ (x : Tree). Some x) same.0))

pub no_text_of : (bytes : List ℕ) (o : Option Tree) → ((rest : List ℕ) → PassesText bytes rest → ⊥)
    → ((t : Tree) × (o ≡ Some t) × InFile t × (nesting t ≤ 31) × (bytes ≡ ben t)) → None ≡ option_and_then string_of o
no_text_of bytes o none (integer z, is, h, n, all) = sym (ap (option_and_then string_of) is)
no_text_of bytes o none (string s, is, h, n, all) = absurd (none [] (s, h, all ∙ sym (append-nil (ben_string s))))
no_text_of bytes o none (list ts, is, h, n, all) = sym (ap (option_and_then string_of) is)
no_text_of bytes o none (dictionary ps, is, h, n, all) = sym (ap (option_and_then string_of) is)
