-- A magnet link (BEP 9): `magnet:?`, and then keys and values, percent-encoded, with `&` between them.
use Rattle.std.specs.Prelude.{◌≡◌, ℕ, ◌||◌, not, Bool, List, [], ◌∷◌, map, filter, length, take, drop, codes, Option, Some, None, option_and_then}
use Rattle.std.specs.Prelude.{if◌then◌else◌, string_bytes, All, Any, MatchOption, IsUtf8, ⊤}
use Rattle.std.specs.Char.{to_ascii_lowercase}
use Rattle.std.specs.List.{list_any}
use Rattle.std.specs.Str.{bytes_eq}
use Rattle.std.specs.Str.Lossy.{utf8_lossy}
use Rattle.percent_encoding.specs.Percent.{percent_decode}
use Rattle.form_urlencoded.specs.Form.{raw_pairs}
use Rattle.bt_magnet.specs.Hashes.{hash_of}
use Rattle.bt_magnet.specs.Peers.{IsPeer}
use Rattle.bt_magnet.specs.declared.pairs.Pair.{Pair}
use Rattle.bt_magnet.specs.declared.link.Magnet.{Magnet}
use Rattle.bt_magnet.specs.declared.link.MagnetError.{MagnetError}
use Rattle.bt_magnet.specs.declared.link.MagnetError.TheVariants as errors

-- what follows a word, whose letters may be of either case
abbrev pub after_word : List ℕ → List ℕ → Option (List ℕ)
after_word word t = if bytes_eq (map to_ascii_lowercase (take (length word) t)) word then Some (drop (length word) t) else None

-- what follows `magnet:?`
abbrev pub query_of : List ℕ → Option (List ℕ)
query_of t = after_word (codes "magnet:?") t

abbrev pub decoded : List ℕ × List ℕ → List ℕ × List ℕ
decoded p = (percent_decode p.0, percent_decode p.1)

-- the keys of a query with their values, in order
abbrev pub pairs_of : List ℕ → List (List ℕ × List ℕ)
pairs_of query = map decoded (raw_pairs query)

abbrev pub has_key : List ℕ → List ℕ × List ℕ → Bool
has_key key p = bytes_eq p.0 key

-- the values of a key, in order
abbrev pub values_of : List ℕ → List (List ℕ × List ℕ) → List (List ℕ)
values_of key pairs = map (λ p. p.1) (filter (has_key key) pairs)

-- the digits of an exact topic that is the info hash of a torrent
abbrev pub topic_of : List ℕ × List ℕ → Option (List ℕ)
topic_of p = if has_key (codes "xt") p then after_word (codes "urn:btih:") p.1 else None

abbrev pub or_else : Option (List ℕ) → Option (List ℕ) → Option (List ℕ)
or_else (Some t) other = Some t
or_else None other = other

-- the digits of the first such topic
abbrev pub first_topic : List (List ℕ × List ℕ) → Option (List ℕ)
first_topic [] = None
first_topic (p ∷ ps) = or_else (topic_of p) (first_topic ps)

-- the info hash of a link
abbrev pub hash_in : List (List ℕ × List ℕ) → Option (List ℕ)
hash_in pairs = option_and_then hash_of (first_topic pairs)

-- a key that is neither a topic, a peer, a tracker nor the name that a link displays
abbrev pub is_other : List ℕ × List ℕ → Bool
is_other p = not (has_key (codes "xt") p || (has_key (codes "x.pe") p || (has_key (codes "tr") p || has_key (codes "dn") p)))

-- the trackers of a link, in order: the values of `tr` as text, in which U+FFFD stands for what isn't UTF-8
abbrev pub trackers_in : List (List ℕ × List ℕ) → List (List ℕ)
trackers_in pairs = map utf8_lossy (values_of (codes "tr") pairs)

-- what the pairs of a link say
pub record IsSaid (pairs : List (List ℕ × List ℕ)) (m : Magnet) : Type 0 where
  pub hash : hash_in pairs ≡ Some m.info_hash
  pub peers : map string_bytes m.peers.items ≡ values_of (codes "x.pe") pairs
  pub are_peers : All IsPeer (values_of (codes "x.pe") pairs)
  pub trackers : map string_bytes m.trackers.items ≡ trackers_in pairs
  pub others : m.passed.others ≡ list_any is_other pairs

-- a link has an info hash, peers and trackers; a text that is no link is an info hash alone
abbrev pub IsMagnet : List ℕ → Magnet → Type 0
IsMagnet t m =
    MatchOption (query_of t) ((hash_of t ≡ Some m.info_hash) × (m.peers.items ≡ []) × (m.trackers.items ≡ [])) (λ query. IsSaid (pairs_of query) m)

-- ---- errors

abbrev pub IsNoPeer : List ℕ → Type 0
IsNoPeer v = ¬ (IsUtf8 v × IsPeer v)

-- one of the values is no peer; or memory was refused
abbrev pub IsPeerError : List (List ℕ) → MagnetError → Type 0
IsPeerError values (errors.Peer place) = Any IsNoPeer values
IsPeerError values errors.Memory = ⊤
IsPeerError values e = ⊥

-- the pairs of a link say no info hash, or a peer that is none
abbrev pub IsUnsaid : List (List ℕ × List ℕ) → MagnetError → Type 0
IsUnsaid pairs errors.NoDigits = ⊥
IsUnsaid pairs errors.NoHash = first_topic pairs ≡ None
IsUnsaid pairs (errors.Hash place) = hash_in pairs ≡ None
IsUnsaid pairs (errors.Peer place) = Any IsNoPeer (values_of (codes "x.pe") pairs)
IsUnsaid pairs errors.Memory = ⊤

abbrev pub IsNone : List ℕ → MagnetError → Type 0
IsNone t e = MatchOption (query_of t) ((e ≡ errors.NoDigits) × (hash_of t ≡ None)) (λ query. IsUnsaid (pairs_of query) e)

-- ---- for private contracts

abbrev pub pair_of : Pair → List ℕ × List ℕ
pair_of p = (p.key.items, p.value.items)
