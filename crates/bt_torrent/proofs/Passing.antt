-- The pass over a file's bencoding, part by part: what it passes, and that there is nothing to pass where it stops.
use Rattle.std.proofs.Common.{◌≡◌, ◌≢◌, ℕ, ◌-◌, ◌<◌, ◌≤◌, ◌^◌, List, [], ◌∷◌, ◌++◌, length, get_or, drop, Option, Some, None, refl, ap, sym}
use Rattle.std.proofs.Common.{◌∙◌, arith, append_assoc, length-append, Bor, IfSome}
use Rattle.std.specs.Fmt.{decimal, signed_decimal}
use Rattle.bt_bencode.specs.Trees.{Tree, integer, string, list, dictionary, no_trees, tree, Pairs, no_pairs, pair, nesting}
use Rattle.bt_bencode.specs.Bencoding.{ben, ben_all, ben_pairs, ben_string}
use Rattle.bt_bencode.specs.OnePass.{PassesInteger}
use Rattle.bt_bencode.specs.Readable.{HasInteger}
use Rattle.bt_bencode.specs.Unique.{regroup, same_number}
use Rattle.bt_bencode.proofs.Heads.{headed, head_of}
use Rattle.bt_torrent.specs.Files.{InFile, IsFileOf}
use Rattle.bt_torrent.specs.Bencoded.{ArePairs, PassesItems, PassesPairs, PassesText, PassesValue}
use Rattle.bt_torrent.proofs.Unique.{no_string, same_pairs, same_string, same_tree}

-- ---- a byte string

-- it is as long as the number in front says
pub no_text : (bytes rest : List ℕ) (n : ℕ) → n < 2 ^ 63 → length rest < n → bytes ≡ decimal n ++ 58 ∷ rest → (more : List ℕ) → PassesText bytes more → ⊥
no_text bytes rest n le short is more (s, h, all) =
    let same = same_number 58 n (length s) rest (s ++ more) (λ d. omega (arith, d.0, d.1)) (omega arith) (omega arith)
    (sym is ∙ all ∙ append_assoc (decimal (length s)) (58 ∷ s) more) in
    let long = ap length same.1 ∙ length-append s more in
    omega (arith, same.0, long)

-- its length is a number
pub no_length : (bytes : List ℕ) → ((m : ℕ) (more : List ℕ) → m ≤ 2 ^ 63 - 1 → bytes ≡ decimal m ++ 58 ∷ more → ⊥) → (rest : List ℕ) → PassesText bytes rest → ⊥
no_length bytes none rest (s, h, all) = none (length s) (s ++ rest) (omega arith) (all ∙ append_assoc (decimal (length s)) (58 ∷ s) rest)

-- ---- a value, by its first byte

-- a string's first byte is a digit
string_head : (s rest : List ℕ) → length s < 2 ^ 63 → get_or (ben_string s ++ rest) 0 0 ≤ 58
string_head s rest le = go (ben_string s ++ rest) refl
  where
    go : (b : List ℕ) → ben_string s ++ rest ≡ b → get_or b 0 0 ≤ 58
    go [] e = omega arith
    go (c ∷ b) e = no_string s rest b c le e

pub string_at : (bytes s rest : List ℕ) (c : ℕ) → length s < 2 ^ 63 → bytes ≡ ben_string s ++ rest → get_or bytes 0 0 ≡ c → c ≤ 58
string_at bytes s rest c le is e = omega (arith, string_head s rest le, ap (λ (x : List ℕ). get_or x 0 0) is)

pub integer_passes : (room : ℕ) (bytes tail : List ℕ) (o : Option (Bor (List ℕ))) → get_or bytes 0 0 ≡ 105 → tail ≡ drop 1 bytes
    → IfSome o (λ rest. PassesInteger tail rest.now) → IfSome o (λ rest. PassesValue room bytes rest.now)
integer_passes room bytes tail None e t h = tt
integer_passes room bytes tail (Some rest) e t (z, fits, is) = (
  integer z,
  fits,
  omega arith,
  headed bytes 105 e (omega arith) ∙ ap (λ (x : List ℕ). 105 ∷ x) (sym t ∙ is ∙ sym (append_assoc (signed_decimal z) (101 ∷ []) rest.now)),
)

pub items_pass : (room : ℕ) (bytes tail : List ℕ) (o : Option (Bor (List ℕ))) → 0 < room → get_or bytes 0 0 ≡ 108 → tail ≡ drop 1 bytes
    → IfSome o (λ rest. PassesItems (room - 1) tail rest.now) → IfSome o (λ rest. PassesValue room bytes rest.now)
items_pass room bytes tail None some e t h = tt
items_pass room bytes tail (Some rest) some e t (ts, fits, nested, is) = (
  list ts,
  fits,
  omega (arith, nested),
  headed bytes 108 e (omega arith) ∙ ap (λ (x : List ℕ). 108 ∷ x) (sym t ∙ is ∙ sym (append_assoc (ben_all ts) (101 ∷ []) rest.now)),
)

pub pairs_pass : (room : ℕ) (bytes tail : List ℕ) (o : Option (Bor (List ℕ))) → 0 < room → get_or bytes 0 0 ≡ 100 → tail ≡ drop 1 bytes
    → IfSome o (λ rest. PassesPairs (room - 1) tail rest.now) → IfSome o (λ rest. PassesValue room bytes rest.now)
pairs_pass room bytes tail None some e t h = tt
pairs_pass room bytes tail (Some rest) some e t (ps, (fits, nested, is)) = (
  dictionary ps,
  fits,
  omega (arith, nested),
  headed bytes 100 e (omega arith) ∙ ap (λ (x : List ℕ). 100 ∷ x) (sym t ∙ is ∙ sym (append_assoc (ben_pairs ps) (101 ∷ []) rest.now)),
)

pub text_passes : (room : ℕ) (bytes s rest : List ℕ) → length s < 2 ^ 63 → bytes ≡ ben_string s ++ rest → PassesValue room bytes rest
text_passes room bytes s rest short split = (string s, short, omega arith, split)

-- there is no value
pub nothing_there : (room : ℕ) (bytes : List ℕ) → length bytes ≡ 0 → (more : List ℕ) → PassesValue room bytes more → ⊥
nothing_there room (c ∷ bytes) empty more h = omega arith
nothing_there room [] empty more (integer z, h, n, is) = cc
nothing_there room [] empty more (string s, h, n, is) = let long = ap length is in omega (arith, simp length-append at long)
nothing_there room [] empty more (list ts, h, n, is) = cc
nothing_there room [] empty more (dictionary ps, h, n, is) = cc

pub no_integer : (room : ℕ) (bytes tail : List ℕ) → get_or bytes 0 0 ≡ 105 → tail ≡ drop 1 bytes → (HasInteger tail → ⊥)
    → (more : List ℕ) → PassesValue room bytes more → ⊥
no_integer room bytes tail e t none more (integer z, h, n, is) =
    none (z, more, h, t ∙ ap (λ (x : List ℕ). drop 1 x) is ∙ append_assoc (signed_decimal z) (101 ∷ []) more)
no_integer room bytes tail e t none more (string s, h, n, is) = omega (arith, string_at bytes s more 105 h is e)
no_integer room bytes tail e t none more (list ts, h, n, is) = omega (arith, ap (λ (x : List ℕ). get_or x 0 0) is)
no_integer room bytes tail e t none more (dictionary ps, h, n, is) = omega (arith, ap (λ (x : List ℕ). get_or x 0 0) is)

pub no_list : (room : ℕ) (bytes tail : List ℕ) → get_or bytes 0 0 ≡ 108 → tail ≡ drop 1 bytes
    → ((more : List ℕ) → PassesItems (room - 1) tail more → ⊥) → (more : List ℕ) → PassesValue room bytes more → ⊥
no_list room bytes tail e t none more (integer z, h, n, is) = omega (arith, ap (λ (x : List ℕ). get_or x 0 0) is)
no_list room bytes tail e t none more (string s, h, n, is) = omega (arith, string_at bytes s more 108 h is e)
no_list room bytes tail e t none more (list ts, h, n, is) =
    none more (ts, h, omega (arith, n), t ∙ ap (λ (x : List ℕ). drop 1 x) is ∙ append_assoc (ben_all ts) (101 ∷ []) more)
no_list room bytes tail e t none more (dictionary ps, h, n, is) = omega (arith, ap (λ (x : List ℕ). get_or x 0 0) is)

pub no_dictionary : (room : ℕ) (bytes tail : List ℕ) → get_or bytes 0 0 ≡ 100 → tail ≡ drop 1 bytes
    → ((more : List ℕ) → PassesPairs (room - 1) tail more → ⊥) → (more : List ℕ) → PassesValue room bytes more → ⊥
no_dictionary room bytes tail e t none more (integer z, h, n, is) = omega (arith, ap (λ (x : List ℕ). get_or x 0 0) is)
no_dictionary room bytes tail e t none more (string s, h, n, is) = omega (arith, string_at bytes s more 100 h is e)
no_dictionary room bytes tail e t none more (list ts, h, n, is) = omega (arith, ap (λ (x : List ℕ). get_or x 0 0) is)
no_dictionary room bytes tail e t none more (dictionary ps, h, n, is) =
    none more (ps, (h, omega (arith, n), t ∙ ap (λ (x : List ℕ). drop 1 x) is ∙ append_assoc (ben_pairs ps) (101 ∷ []) more))

pub no_other : (room : ℕ) (bytes : List ℕ) → get_or bytes 0 0 ≢ 105 → (get_or bytes 0 0 ≡ 108 → room ≡ 0) → (get_or bytes 0 0 ≡ 100 → room ≡ 0)
    → ((more : List ℕ) → PassesText bytes more → ⊥) → (more : List ℕ) → PassesValue room bytes more → ⊥
no_other room bytes i l d none more (integer z, h, n, is) = i (ap (λ (x : List ℕ). get_or x 0 0) is)
no_other room bytes i l d none more (string s, h, n, is) = none more (s, h, is)
no_other room bytes i l d none more (list ts, h, n, is) = omega (arith, l (ap (λ (x : List ℕ). get_or x 0 0) is), n)
no_other room bytes i l d none more (dictionary ps, h, n, is) = omega (arith, d (ap (λ (x : List ℕ). get_or x 0 0) is), n)

-- what follows a value that was passed follows each value there
pub same_value : (room : ℕ) (bytes next more : List ℕ) (t : Tree) → PassesValue room bytes next → InFile t → bytes ≡ ben t ++ more
    → (nesting t ≤ room) × (next ≡ more)
same_value room bytes next more t (u, h, n, is) k all =
    let same = same_tree u t next more h k (sym is ∙ all) in
    (omega (arith, n, ap nesting same.0), same.1)

-- ---- a list

pub no_items_pass : (room : ℕ) (bytes rest : List ℕ) → get_or bytes 0 0 ≡ 101 → rest ≡ drop 1 bytes → PassesItems room bytes rest
no_items_pass room bytes rest e r = (no_trees, tt, omega arith, headed bytes 101 e (omega arith) ∙ ap (λ (x : List ℕ). 101 ∷ x) (sym r))

pub item_passes : (room : ℕ) (bytes next more : List ℕ) → PassesValue room bytes next → PassesItems room next more → PassesItems room bytes more
item_passes room bytes next more (t, fits, nested, is) (ts, all_fit, all_nested, all) = (
  tree t ts,
  (fits, all_fit),
  omega (arith, nested, all_nested),
  is ∙ ap (λ (x : List ℕ). ben t ++ x) all ∙ sym (append_assoc (ben t) (ben_all ts) (101 ∷ more)),
)

pub no_list_end : (room : ℕ) (bytes : List ℕ) → length bytes ≡ 0 → (more : List ℕ) → PassesItems room bytes more → ⊥
no_list_end room bytes empty more (ts, h, n, is) = omega (arith, ap length is ∙ length-append (ben_all ts) (101 ∷ more))

pub no_item : (room : ℕ) (bytes : List ℕ) → get_or bytes 0 0 ≢ 101 → ((more : List ℕ) → PassesValue room bytes more → ⊥)
    → (more : List ℕ) → PassesItems room bytes more → ⊥
no_item room bytes other none more (no_trees, h, n, is) = other (head_of bytes 101 more is)
no_item room bytes other none more (tree t ts, h, n, is) =
    none (ben_all ts ++ 101 ∷ more) (t, h.0, omega (arith, n), is ∙ append_assoc (ben t) (ben_all ts) (101 ∷ more))

pub items_after : (room : ℕ) (bytes next more : List ℕ) → get_or bytes 0 0 ≢ 101 → PassesValue room bytes next → PassesItems room bytes more
    → PassesItems room next more
items_after room bytes next more other passes (no_trees, h, n, is) = absurd (other (head_of bytes 101 more is))
items_after room bytes next more other passes (tree t ts, h, n, is) =
    let same = same_value room bytes next (ben_all ts ++ 101 ∷ more) t passes h.0 (is ∙ append_assoc (ben t) (ben_all ts) (101 ∷ more)) in
    (ts, h.1, omega (arith, n), same.1)

-- ---- a dictionary

pub no_pairs_pass : (room : ℕ) (bytes rest : List ℕ) → get_or bytes 0 0 ≡ 101 → rest ≡ drop 1 bytes → PassesPairs room bytes rest
no_pairs_pass room bytes rest e r = (no_pairs, (tt, omega arith, headed bytes 101 e (omega arith) ∙ ap (λ (x : List ℕ). 101 ∷ x) (sym r)))

pub pair_passes : (room : ℕ) (bytes key value next more : List ℕ) → length key < 2 ^ 63 → bytes ≡ ben_string key ++ value
    → PassesValue room value next → PassesPairs room next more → PassesPairs room bytes more
pair_passes room bytes key value next more short split (t, fits, nested, is) (ps, (all_fit, all_nested, all)) = (
  pair key t ps,
  (
    (short, fits, all_fit),
    omega (arith, nested, all_nested),
    split ∙ ap (λ (x : List ℕ). ben_string key ++ x) (is ∙ ap (λ (x : List ℕ). ben t ++ x) all)
        ∙ sym (regroup (ben_string key) (ben t) (ben_pairs ps) (101 ∷ more)),
  ),
)

pub no_dictionary_end : (room : ℕ) (bytes : List ℕ) → length bytes ≡ 0 → (more : List ℕ) → PassesPairs room bytes more → ⊥
no_dictionary_end room bytes empty more (ps, (h, n, is)) = omega (arith, ap length is ∙ length-append (ben_pairs ps) (101 ∷ more))

pub no_key : (room : ℕ) (bytes : List ℕ) → get_or bytes 0 0 ≢ 101 → ((more : List ℕ) → PassesText bytes more → ⊥)
    → (more : List ℕ) → PassesPairs room bytes more → ⊥
no_key room bytes other none more (no_pairs, (h, n, is)) = other (head_of bytes 101 more is)
no_key room bytes other none more (pair k t ps, (h, n, is)) =
    none (ben t ++ (ben_pairs ps ++ 101 ∷ more)) (k, h.0, is ∙ regroup (ben_string k) (ben t) (ben_pairs ps) (101 ∷ more))

-- a key in front, and the bytes from its value on
module _ (room : ℕ) (bytes key value : List ℕ) (other : get_or bytes 0 0 ≢ 101) (short : length key < 2 ^ 63) (split : bytes ≡ ben_string key ++ value) where
  -- it is the key of any pair that is there
  pub front : (k : List ℕ) (t : Tree) (ps : Pairs) (more : List ℕ) → length k < 2 ^ 63 → bytes ≡ ben_pairs (pair k t ps) ++ 101 ∷ more
      → (key ≡ k) × (value ≡ ben t ++ (ben_pairs ps ++ 101 ∷ more))
  front k t ps more h is = same_string key k value (ben t ++ (ben_pairs ps ++ 101 ∷ more)) short h
      (sym split ∙ is ∙ regroup (ben_string k) (ben t) (ben_pairs ps) (101 ∷ more))

  pub no_value : ((more : List ℕ) → PassesValue room value more → ⊥) → (more : List ℕ) → PassesPairs room bytes more → ⊥
  no_value none more (no_pairs, (h, n, is)) = other (head_of bytes 101 more is)
  no_value none more (pair k t ps, (h, n, is)) =
      none (ben_pairs ps ++ 101 ∷ more) (t, h.1, omega (arith, n), (front k t ps more h.0 is).1)

  pub pairs_after : (next more : List ℕ) → PassesValue room value next → PassesPairs room bytes more → PassesPairs room next more
  pairs_after next more passes (no_pairs, (h, n, is)) = absurd (other (head_of bytes 101 more is))
  pairs_after next more passes (pair k t ps, (h, n, is)) =
      let same = same_value room value next (ben_pairs ps ++ 101 ∷ more) t passes h.1 (front k t ps more h.0 is).1 in
      (ps, (h.2, omega (arith, n), same.1))

-- ---- the file

-- what its dictionary's pairs are
pub file_pairs : (file pairs : List ℕ) → pairs ≡ drop 1 file → (ps : Pairs) → IsFileOf ps file → ArePairs 31 pairs ps []
file_pairs file pairs e ps f =
    (f.in_file, omega (arith, f.nested), e ∙ ap (λ (x : List ℕ). drop 1 x) f.spelled)

pub no_file : (file : List ℕ) → get_or file 0 0 ≢ 100 → (ps : Pairs) → IsFileOf ps file → ⊥
no_file file other ps f = other (ap (λ (x : List ℕ). get_or x 0 0) f.spelled)

pub file_of : (file pairs rest : List ℕ) → get_or file 0 0 ≡ 100 → pairs ≡ drop 1 file → length rest ≡ 0 → PassesPairs 31 pairs rest
    → (ps : Pairs) × IsFileOf ps file
file_of file pairs (c ∷ rest) e t end passes = absurd (omega arith)
file_of file pairs [] e t end (ps, (h, n, is)) = (
  ps,
  record {
    in_file = h;
    nested = omega (arith, n);
    spelled = headed file 100 e (omega arith) ∙ ap (λ (x : List ℕ). 100 ∷ x) (sym t ∙ is);
  },
)

-- more follows its dictionary
pub not_all : (file pairs rest : List ℕ) → pairs ≡ drop 1 file → 0 < length rest → PassesPairs 31 pairs rest → (ps : Pairs) → IsFileOf ps file → ⊥
not_all file pairs rest t some (qs, (h, n, is)) ps f =
    let same = same_pairs qs ps rest [] h f.in_file (sym is ∙ t ∙ ap (λ (x : List ℕ). drop 1 x) f.spelled) in
    omega (arith, some, ap length same.1)

-- its dictionary doesn't end
pub no_file_end : (file pairs : List ℕ) → pairs ≡ drop 1 file → ((rest : List ℕ) → PassesPairs 31 pairs rest → ⊥) → (ps : Pairs) → IsFileOf ps file → ⊥
no_file_end file pairs e none ps f = none [] (ps, file_pairs file pairs e ps f)
