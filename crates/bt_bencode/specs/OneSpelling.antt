-- A checked slice has one tree.
use Rattle.std.specs.Prelude.{◌≡◌, ℕ, List, [], ◌∷◌, ◌++◌, ◌≤◌}
use Rattle.std.specs.Coded.{×_prop, Unit-prop, le_prop, Coded-set, coded_list, coded_ℕ}
use Rattle.std.proofs.Common.{ap, subst, sym, ◌∙◌}
use Rattle.std.proofs.Props.{props}
use Rattle.bt_bencode.specs.Trees.{Tree, integer, string, list, dictionary, Trees, no_trees, tree, Pairs, no_pairs, pair, nesting}
use Rattle.bt_bencode.specs.Bencoding.{ben, ben_pairs, Fits, Spells, InRange, AllInRange, PairsInRange, IsSpelling, deepest_nesting}
use Rattle.bt_bencode.specs.Unique.{same_tree, same_pairs}
use Rattle.bt_bencode.specs.Readable.{SpellsPairs, LeaveAs, AreLeft}
use Rattle.bt_bencode.specs.Codes.{pairs_code}
use Rattle.bt_bencode.specs.Views.{pairs_of}
use Rattle.bt_bencode.specs.declared.pairs.Left.{Left}
use Rattle.bt_bencode.specs.declared.pairs.Left.TheVariants as left

mutual
  InRange-prop : (t : Tree) → IsProp (InRange t)
  InRange-prop (integer z) = hlevel props
  InRange-prop (string s) = le_prop
  InRange-prop (list ts) = AllInRange-prop ts
  InRange-prop (dictionary ps) = PairsInRange-prop ps

  AllInRange-prop : (ts : Trees) → IsProp (AllInRange ts)
  AllInRange-prop no_trees = Unit-prop
  AllInRange-prop (tree t ts) = ×_prop (InRange-prop t) (AllInRange-prop ts)

  PairsInRange-prop : (ps : Pairs) → IsProp (PairsInRange ps)
  PairsInRange-prop no_pairs = Unit-prop
  PairsInRange-prop (pair k t ps) = let here = InRange-prop t in let there = PairsInRange-prop ps in hlevel (props, here, there)

Fits-prop : (t : Tree) → IsProp (Fits t)
Fits-prop t = λ a b.
    ap (λ (h : InRange t). let r : Fits t = record { in_range = h; nested = a.nested } in r) (InRange-prop t a.in_range b.in_range)
    ∙ ap (λ (n : nesting t ≤ deepest_nesting). let r : Fits t = record { in_range = b.in_range; nested = n } in r) (le_prop a.nested b.nested)

pub Spells-prop : (ps : Pairs) (bytes : List ℕ) → IsProp (Spells ps bytes)
Spells-prop ps bytes = λ s t.
    ap (λ (f : Fits (dictionary ps)). let r : Spells ps bytes = record { fits = f; spelled = s.spelled } in r) (Fits-prop (dictionary ps) s.fits t.fits)
    ∙ ap (λ (e : bytes ≡ ben (dictionary ps)). let r : Spells ps bytes = record { fits = t.fits; spelled = e } in r)
    (Coded-set (coded_list coded_ℕ) bytes (ben (dictionary ps)) s.spelled t.spelled)

dictionary-inj : (ps qs : Pairs) → dictionary ps ≡ dictionary qs → ps ≡ qs
dictionary-inj ps qs e = cc

pub one_spelled : (bytes : List ℕ) (ps qs : Pairs) → Spells ps bytes → Spells qs bytes → ps ≡ qs
one_spelled bytes ps qs s t =
    dictionary-inj ps qs (same_tree (dictionary ps) (dictionary qs) [] [] s.fits.in_range t.fits.in_range
    (ap (λ (b : List ℕ). b ++ []) (sym s.spelled ∙ t.spelled))).0

pub IsSpelling-prop : (bytes : List ℕ) → IsProp (IsSpelling bytes)
IsSpelling-prop bytes = λ a b.
    let P : Pairs → Type 0 = λ qs. (t : Spells qs bytes) → ◌≡◌ {A = IsSpelling bytes} a (qs, t) in
    subst P (one_spelled bytes a.0 b.0 a.1 b.1) (λ t. ap (λ (s : Spells a.0 bytes). let r : IsSpelling bytes = (a.0, s) in r) (Spells-prop a.0 bytes a.1 t)) b.1

Followed-prop : (ps : Pairs) (bytes : List ℕ) → PairsInRange ps → IsProp ((more : List ℕ) × (bytes ≡ ben_pairs ps ++ 101 ∷ more))
Followed-prop ps bytes h = λ a b.
    let S : Type 0 = (more : List ℕ) × (bytes ≡ ben_pairs ps ++ 101 ∷ more) in
    let P : List ℕ → Type 0 = λ m. (e : bytes ≡ ben_pairs ps ++ 101 ∷ m) → ◌≡◌ {A = S} a (m, e) in
    subst P (same_pairs ps ps a.0 b.0 h h (sym a.1 ∙ b.1)).1
    (λ e. ap (λ (q : bytes ≡ ben_pairs ps ++ 101 ∷ a.0). let r : S = (a.0, q) in r)
    (Coded-set (coded_list coded_ℕ) bytes (ben_pairs ps ++ 101 ∷ a.0) a.1 e)) b.1

SpellsPairs-prop : (ps : Pairs) (bytes : List ℕ) → IsProp (SpellsPairs ps bytes)
SpellsPairs-prop ps bytes = λ s t.
    ap (λ (f : PairsInRange ps). let r : SpellsPairs ps bytes = record { range = f; spelled = s.spelled } in r) (PairsInRange-prop ps s.range t.range)
    ∙ ap (λ (e : (more : List ℕ) × (bytes ≡ ben_pairs ps ++ 101 ∷ more)). let r : SpellsPairs ps bytes = record { range = t.range; spelled = e } in r)
    (Followed-prop ps bytes t.range s.spelled t.spelled)

LeaveAs-prop : (ps : Pairs) (l : Left) → IsProp (LeaveAs ps l)
LeaveAs-prop ps (left.Encoded bytes) = SpellsPairs-prop ps bytes.now
LeaveAs-prop ps (left.Values values) = Coded-set pairs_code ps (pairs_of values.now)

one_left : (l : Left) (ps qs : Pairs) → LeaveAs ps l → LeaveAs qs l → ps ≡ qs
one_left (left.Encoded bytes) ps qs s t = (same_pairs ps qs s.spelled.0 t.spelled.0 s.range t.range (sym s.spelled.1 ∙ t.spelled.1)).0
one_left (left.Values values) ps qs s t = s ∙ sym t

pub AreLeft-prop : (l : Left) → IsProp (AreLeft l)
AreLeft-prop l = λ a b.
    let P : Pairs → Type 0 = λ qs. (t : LeaveAs qs l) → ◌≡◌ {A = AreLeft l} a (qs, t) in
    subst P (one_left l a.0 b.0 a.1 b.1) (λ t. ap (λ (s : LeaveAs a.0 l). let r : AreLeft l = (a.0, s) in r) (LeaveAs-prop a.0 l a.1 t)) b.1
