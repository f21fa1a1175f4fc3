-- What look-ups in a dictionary find (BEP 3, "bencoding").
use Rattle.std.specs.Prelude.{◌≡◌, ℕ, ◌+◌, ℤ, List, Option, Some, None, option_and_then}
use Rattle.std.specs.Borrow.{Bor}
use Rattle.bt_bencode.specs.Trees.{Tree, integer, string, list, dictionary, Pairs, no_pairs, pair}
use Rattle.bt_bencode.specs.Keys.{value_at}

-- the value as an integer, if it is one
abbrev pub integer_of : Tree → Option ℤ
integer_of (integer z) = Some z
integer_of (string s) = None
integer_of (list ts) = None
integer_of (dictionary ps) = None

-- the value as a byte string, if it is one
abbrev pub string_of : Tree → Option (List ℕ)
string_of (integer z) = None
string_of (string s) = Some s
string_of (list ts) = None
string_of (dictionary ps) = None

-- the value as a dictionary's pairs, if it is one
abbrev pub dictionary_of : Tree → Option Pairs
dictionary_of (integer z) = None
dictionary_of (string s) = None
dictionary_of (list ts) = None
dictionary_of (dictionary ps) = Some ps

-- the integer at the key in the value, if that is a dictionary
abbrev pub inner_integer : List ℕ → Tree → Option ℤ
inner_integer key t = option_and_then (λ ps. option_and_then integer_of (value_at key ps)) (dictionary_of t)

-- What a step over the pairs gives: the key and its integer, or none at the end; and the pairs that are left.
abbrev pub GivesPair : Pairs → Option (Bor (List ℕ) × Option ℤ) → Pairs → Type 0
GivesPair no_pairs None left = left ≡ no_pairs
GivesPair no_pairs (Some x) left = ⊥
GivesPair (pair k t ps) None left = ⊥
GivesPair (pair k t ps) (Some x) left = (x.0.now ≡ k) × (x.1 ≡ integer_of t) × (left ≡ ps)

-- how many pairs there are
abbrev pub pairs_count : Pairs → ℕ
pairs_count no_pairs = 0
pairs_count (pair k t ps) = pairs_count ps + 1
