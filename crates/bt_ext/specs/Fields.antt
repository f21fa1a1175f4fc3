-- The fields of an extended handshake (BEP 10, "handshake message"; BEP 9, "metadata_size").
use Rattle.std.specs.Prelude.{ℕ, ℤ, pos, negsuc, List, Bool, true, false, ◌||◌, Option, Some, None, option_and_then, is_none, nat_le, if◌then◌else◌, codes}
use Rattle.bt_bencode.specs.Trees.{Tree, integer, string, list, dictionary, Pairs, no_pairs, pair}
use Rattle.bt_bencode.specs.Keys.{lookup_of}
use Rattle.bt_bencode.specs.LookUps.{integer_of, dictionary_of}

-- the integer of the first pair with the key
abbrev pub int_at : List ℕ → Tree → Option ℤ
int_at key t = option_and_then integer_of (lookup_of key t)

-- an integer as a number of at most `limit`
abbrev pub up_to : ℕ → ℤ → Option ℕ
up_to limit (pos n) = if nat_le n limit then Some n else None
up_to limit (negsuc n) = None

-- an integer as a number of at least 0
abbrev pub natural : ℤ → Option ℕ
natural (pos n) = Some n
natural (negsuc n) = None

-- what an id in `m` may be: "one byte"
abbrev pub byte_of : Option ℤ → Option ℕ
byte_of o = option_and_then (up_to 255) o

-- the id that a value of `m` is
abbrev pub id_value : Tree → Option ℕ
id_value t = byte_of (integer_of t)

-- some value of `m` is no id
abbrev pub has_bad_id : Pairs → Bool
has_bad_id no_pairs = false
has_bad_id (pair k t ps) = is_none (id_value t) || has_bad_id ps

-- an `m` that is no dictionary, or has a value that is no id
abbrev pub is_bad_m : Option Tree → Bool
is_bad_m None = false
is_bad_m (Some (integer z)) = true
is_bad_m (Some (string s)) = true
is_bad_m (Some (list ts)) = true
is_bad_m (Some (dictionary ps)) = has_bad_id ps

-- the size of the metadata, where it is told as an integer of at least 0
abbrev pub size_of : Tree → Option ℕ
size_of t = option_and_then natural (int_at (codes "metadata_size") t)

-- the id that the first `m` gives a name, where it is an integer from 0 to 255
abbrev pub told_as : List ℕ → Tree → Option ℕ
told_as name t = option_and_then (λ m. byte_of (int_at name (dictionary m))) (option_and_then dictionary_of (lookup_of (codes "m") t))

-- that of `ut_metadata`; with 0 a peer switches it off
abbrev pub told_id : Tree → Option ℕ
told_id t = told_as (codes "ut_metadata") t

-- a `metadata_size` that is no integer of at least 0
abbrev pub is_bad_size : Option Tree → Bool
is_bad_size None = false
is_bad_size (Some t) = is_none (option_and_then natural (integer_of t))

-- an extended handshake's dictionary has a field of the wrong kind
abbrev pub has_bad_field : Tree → Bool
has_bad_field t = is_bad_m (lookup_of (codes "m") t) || is_bad_size (lookup_of (codes "metadata_size") t)
