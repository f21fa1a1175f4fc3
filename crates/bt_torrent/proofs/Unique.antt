-- One spelling has one value, also with strings as long as a file.
use Rattle.std.proofs.Common.{◌≡◌, ℕ, ◌<◌, ◌≤◌, ◌^◌, ℤ, List, [], ◌∷◌, ◌++◌, length, refl, ap, ◌∙◌, sym, arith, append_assoc}
use Rattle.std.specs.Fmt.{decimal, signed_decimal}
use Rattle.bt_bencode.specs.Trees.{Tree, integer, string, list, dictionary, Trees, no_trees, tree, Pairs, no_pairs, pair}
use Rattle.bt_bencode.specs.Bencoding.{ben, ben_all, ben_pairs, ben_string}
use Rattle.bt_bencode.specs.Unique.{AreDigits, decimal_digits, regroup, same_integer, same_number}
use Rattle.bt_torrent.specs.Files.{InFile, AllInFile, PairsInFile}

-- two strings of one length, and what follows them
same_front : (a b x y : List ℕ) → length a ≡ length b → a ++ x ≡ b ++ y → (a ≡ b) × (x ≡ y)
same_front [] [] x y l e = (refl, e)
same_front [] (d ∷ b) x y l e = absurd (omega arith)
same_front (c ∷ a) [] x y l e = absurd (omega arith)
same_front (c ∷ a) (d ∷ b) x y l e =
    let head : c ≡ d = cc in
    let tail : a ++ x ≡ b ++ y = cc in
    let rest = same_front a b x y (omega arith) tail in
    let front = rest.0 in
    (cc, rest.1)

pub same_string : (a b x y : List ℕ) → length a < 2 ^ 63 → length b < 2 ^ 63 → ben_string a ++ x ≡ ben_string b ++ y → (a ≡ b) × (x ≡ y)
same_string a b x y ha hb e =
    let regrouped = sym (append_assoc (decimal (length a)) (58 ∷ a) x) ∙ e ∙ append_assoc (decimal (length b)) (58 ∷ b) y in
    let n = same_number 58 (length a) (length b) (a ++ x) (b ++ y) (λ d. omega arith) (omega arith) (omega arith) regrouped in
    same_front a b x y n.0 n.1

-- the first byte of a string's spelling
low_first : (ds x y : List ℕ) (c : ℕ) → AreDigits ds → ds ++ 58 ∷ x ≡ c ∷ y → c ≤ 58
low_first [] x y c d e = let same : 58 ≡ c = cc in omega arith
low_first (b ∷ ds) x y c d e = let same : b ≡ c = cc in omega arith

pub no_string : (s x y : List ℕ) (c : ℕ) → length s < 2 ^ 63 → ben_string s ++ x ≡ c ∷ y → c ≤ 58
no_string s x y c h e = low_first (decimal (length s)) (s ++ x) y c (decimal_digits (length s) (omega arith))
    (sym (append_assoc (decimal (length s)) (58 ∷ s) x) ∙ e)

-- the first byte of a value is no `e`
pub no_end : (t : Tree) (x y : List ℕ) → InFile t → ben t ++ x ≡ 101 ∷ y → ⊥
no_end (integer z) x y h e = let same : ◌≡◌ {A = ℕ} 105 101 = cc in omega arith
no_end (string s) x y h e = omega (arith, no_string s x y 101 h e)
no_end (list ts) x y h e = let same : ◌≡◌ {A = ℕ} 108 101 = cc in omega arith
no_end (dictionary ps) x y h e = let same : ◌≡◌ {A = ℕ} 100 101 = cc in omega arith

enclosed : (c : ℕ) (a b x y : List ℕ) → (c ∷ (a ++ 101 ∷ [])) ++ x ≡ (c ∷ (b ++ 101 ∷ [])) ++ y → a ++ 101 ∷ x ≡ b ++ 101 ∷ y
enclosed c a b x y e =
    let tail : (a ++ 101 ∷ []) ++ x ≡ (b ++ 101 ∷ []) ++ y = cc in
    sym (append_assoc a (101 ∷ []) x) ∙ tail ∙ append_assoc b (101 ∷ []) y

mutual
  pub same_tree : (t u : Tree) (x y : List ℕ) → InFile t → InFile u → ben t ++ x ≡ ben u ++ y → (t ≡ u) × (x ≡ y)
  same_tree (integer v) (integer w) x y ht hu e = let s = same_integer v w x y ht hu (enclosed 105 (signed_decimal v) (signed_decimal w) x y e) in
      (ap (λ (z : ℤ). integer z) s.0, s.1)
  same_tree (integer v) (string b) x y ht hu e = absurd (omega (arith, no_string b y _ 105 hu (sym e)))
  same_tree (integer v) (list us) x y ht hu e = let same : ◌≡◌ {A = ℕ} 105 108 = cc in absurd (omega arith)
  same_tree (integer v) (dictionary qs) x y ht hu e = let same : ◌≡◌ {A = ℕ} 105 100 = cc in absurd (omega arith)
  same_tree (string a) (integer w) x y ht hu e = absurd (omega (arith, no_string a x _ 105 ht e))
  same_tree (string a) (string b) x y ht hu e = let s = same_string a b x y ht hu e in (ap (λ (z : List ℕ). string z) s.0, s.1)
  same_tree (string a) (list us) x y ht hu e = absurd (omega (arith, no_string a x _ 108 ht e))
  same_tree (string a) (dictionary qs) x y ht hu e = absurd (omega (arith, no_string a x _ 100 ht e))
  same_tree (list ts) (integer w) x y ht hu e = let same : ◌≡◌ {A = ℕ} 108 105 = cc in absurd (omega arith)
  same_tree (list ts) (string b) x y ht hu e = absurd (omega (arith, no_string b y _ 108 hu (sym e)))
  same_tree (list ts) (list us) x y ht hu e = let s = same_trees ts us x y ht hu (enclosed 108 (ben_all ts) (ben_all us) x y e) in
      (ap (λ (z : Trees). list z) s.0, s.1)
  same_tree (list ts) (dictionary qs) x y ht hu e = let same : ◌≡◌ {A = ℕ} 108 100 = cc in absurd (omega arith)
  same_tree (dictionary ps) (integer w) x y ht hu e = let same : ◌≡◌ {A = ℕ} 100 105 = cc in absurd (omega arith)
  same_tree (dictionary ps) (string b) x y ht hu e = absurd (omega (arith, no_string b y _ 100 hu (sym e)))
  same_tree (dictionary ps) (list us) x y ht hu e = let same : ◌≡◌ {A = ℕ} 100 108 = cc in absurd (omega arith)
  same_tree (dictionary ps) (dictionary qs) x y ht hu e = let s = same_pairs ps qs x y ht hu (enclosed 100 (ben_pairs ps) (ben_pairs qs) x y e) in
      (ap (λ (z : Pairs). dictionary z) s.0, s.1)

  pub same_trees : (ts us : Trees) (x y : List ℕ) → AllInFile ts → AllInFile us → ben_all ts ++ 101 ∷ x ≡ ben_all us ++ 101 ∷ y → (ts ≡ us) × (x ≡ y)
  same_trees no_trees no_trees x y ht hu e = (refl, cc)
  same_trees no_trees (tree u us) x y ht hu e = absurd (no_end u (ben_all us ++ 101 ∷ y) x hu.0 (sym (append_assoc (ben u) (ben_all us) (101 ∷ y)) ∙ sym e))
  same_trees (tree t ts) no_trees x y ht hu e = absurd (no_end t (ben_all ts ++ 101 ∷ x) y ht.0 (sym (append_assoc (ben t) (ben_all ts) (101 ∷ x)) ∙ e))
  same_trees (tree t ts) (tree u us) x y ht hu e =
      let first = same_tree t u (ben_all ts ++ 101 ∷ x) (ben_all us ++ 101 ∷ y) ht.0 hu.0 (sym (append_assoc (ben t) (ben_all ts) (101 ∷ x)) ∙ e
      ∙ append_assoc (ben u) (ben_all us) (101 ∷ y)) in
      let more = same_trees ts us x y ht.1 hu.1 first.1 in
      let front = first.0 in
      let back = more.0 in
      (cc, more.1)

  pub same_pairs : (ps qs : Pairs) (x y : List ℕ) → PairsInFile ps → PairsInFile qs → ben_pairs ps ++ 101 ∷ x ≡ ben_pairs qs ++ 101 ∷ y → (ps ≡ qs) × (x ≡ y)
  same_pairs no_pairs no_pairs x y hp hq e = (refl, cc)
  same_pairs no_pairs (pair l u qs) x y hp hq e = absurd (omega (
    arith,
    no_string l (ben u ++ (ben_pairs qs ++ 101 ∷ y)) x 101 hq.0
        (sym (regroup (ben_string l) (ben u) (ben_pairs qs) (101 ∷ y)) ∙ sym e),
  ))
  same_pairs (pair k t ps) no_pairs x y hp hq e = absurd (omega (
    arith,
    no_string k (ben t ++ (ben_pairs ps ++ 101 ∷ x)) y 101 hp.0
        (sym (regroup (ben_string k) (ben t) (ben_pairs ps) (101 ∷ x)) ∙ e),
  ))
  same_pairs (pair k t ps) (pair l u qs) x y hp hq e =
      let key = same_string k l (ben t ++ (ben_pairs ps ++ 101 ∷ x)) (ben u ++ (ben_pairs qs ++ 101 ∷ y)) hp.0 hq.0
      (sym (regroup (ben_string k) (ben t) (ben_pairs ps) (101 ∷ x)) ∙ e ∙ regroup (ben_string l) (ben u) (ben_pairs qs) (101 ∷ y)) in
      let value = same_tree t u (ben_pairs ps ++ 101 ∷ x) (ben_pairs qs ++ 101 ∷ y) hp.1 hq.1 key.1 in
      let more = same_pairs ps qs x y hp.2 hq.2 value.1 in
      let first = key.0 in
      let second = value.0 in
      let third = more.0 in
      (cc, more.1)
