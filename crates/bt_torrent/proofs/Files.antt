-- Why a file has no info dictionary.
use Rattle.std.proofs.Common.{◌≡◌, ℕ, ℤ, true, false, List, [], Option, Some, None, is_some, refl, sym, ◌∙◌, subst}
use Rattle.std.specs.Prelude.{option_map, option_and_then, codes}
use Rattle.std.specs.Borrow.{Bor}
use Rattle.bt_bencode.specs.Trees.{Pairs}
use Rattle.bt_bencode.specs.Keys.{value_at}
use Rattle.bt_bencode.specs.LookUps.{dictionary_of, integer_of, string_of}
use Rattle.bt_torrent.specs.Bencoded.{ArePairs}
use Rattle.bt_torrent.specs.Files.{IsCounted, IsFileOf, IsFoundBy, IsFoundIn, IsInfo, IsInfoIn, IsPieceCount, pieces_in}

-- ---- by the two keys

pub found_inner : (file info : List ℕ) (d : Option Pairs) (l : Option ℤ) → ((ps : Pairs) × (d ≡ Some ps) × IsFileOf ps info) → IsFoundBy file d l (Some info)
found_inner file info d l (ps, e, is) = subst (λ (x : Option Pairs). IsFoundBy file x l (Some info)) (sym e) is

pub found_itself : (file : List ℕ) (d : Option Pairs) (l : Option ℤ) → d ≡ None → true ≡ is_some l → IsFoundBy file d l (Some file)
found_itself file (Some ps) l e n = absurd cc
found_itself file None (Some z) e n = refl
found_itself file None None e n = absurd cc

pub found_nothing : (file : List ℕ) (d : Option Pairs) (l : Option ℤ) → d ≡ None → false ≡ is_some l → IsFoundBy file d l None
found_nothing file (Some ps) l e n = absurd cc
found_nothing file None (Some z) e n = absurd cc
found_nothing file None None e n = tt

not_both : (file : List ℕ) (d : Option Pairs) (l : Option ℤ) → IsFoundBy file d l None → (info : List ℕ) → IsFoundBy file d l (Some info) → ⊥
not_both file (Some inner) l n info s = n
not_both file None (Some z) n info s = n
not_both file None None n info s = s

-- ---- a file and its pairs

abbrev pub AreThePairs : List ℕ → List ℕ → Type 0
AreThePairs file pairs = (ps : Pairs) → IsFileOf ps file → ArePairs 31 pairs ps []

pub no_info : (file : List ℕ) → ((ps : Pairs) → IsFileOf ps file → ⊥) → (info : List ℕ) → IsInfo file info → ⊥
no_info file none info i = none i.pairs i.whole

pub found_or_none : (file pairs : List ℕ) → ((ps : Pairs) × IsFileOf ps file) → AreThePairs file pairs → (o : Option (Bor (List ℕ)))
    → ((ps : Pairs) (more : List ℕ) → ArePairs 31 pairs ps more → IsFoundIn file ps (option_map (λ (b : Bor (List ℕ)). b.now) o)) → IsInfoIn file o
found_or_none file pairs w are None f = λ info i.
    not_both file (option_and_then dictionary_of (value_at (codes "info") i.pairs)) (option_and_then integer_of (value_at (codes "piece length") i.pairs))
    (f i.pairs [] (are i.pairs i.whole)) info i.found
found_or_none file pairs w are (Some info) f = record { pairs = w.0; whole = w.1; found = f w.0 [] (are w.0 w.1) }

-- ---- pieces

pub no_count : (info : List ℕ) → ((ps : Pairs) → IsFileOf ps info → ⊥) → (count : ℕ) → IsCounted info count → ⊥
no_count info none count i = none i.pairs i.whole

-- what the string `pieces` gives of each dictionary that the bytes spell
pub counted_or_none : (info pairs : List ℕ) → ((ps : Pairs) × IsFileOf ps info) → AreThePairs info pairs → (o : Option ℕ)
    → ((ps : Pairs) (more : List ℕ) → ArePairs 31 pairs ps more → option_and_then pieces_in (option_and_then string_of (value_at (codes "pieces") ps)) ≡ o)
    → IsPieceCount info o
counted_or_none info pairs w are (Some count) f = record { pairs = w.0; whole = w.1; hashes = f w.0 [] (are w.0 w.1) }
counted_or_none info pairs w are None f = λ count i.
    let both : None ≡ Some count = sym (f i.pairs [] (are i.pairs i.whole)) ∙ i.hashes in absurd cc
