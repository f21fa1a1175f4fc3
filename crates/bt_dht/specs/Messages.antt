-- What a message of the DHT says (BEP 5, "KRPC Protocol", "get_peers"; BEP 32, "nodes6"). Of equal keys the first counts.
use Rattle.std.specs.Prelude.{◌≡◌, ℕ, ◌%◌, ◌==◌, ◌||◌, Bool, false, ℤ, List, [], ◌∷◌, ◌++◌, length, codes, Option, Some, None, option_and_then, option_map}
use Rattle.std.specs.Prelude.{if◌then◌else◌, unwrap_or}
use Rattle.std.specs.Option.{option_map_or}
use Rattle.std.specs.Str.{bytes_eq}
use Rattle.bt_bencode.specs.Trees.{Tree, integer, string, list, dictionary, Trees, no_trees, tree}
use Rattle.bt_bencode.specs.Keys.{lookup_of}
use Rattle.bt_bencode.specs.LookUps.{integer_of, string_of}
use Rattle.bt_bencode.specs.Views.{trees_of}
use Rattle.bt_dht.specs.declared.answer.Answer.{Answer}
use Rattle.bt_dht.specs.declared.answer.Failure.{Failure}
use Rattle.bt_dht.specs.declared.answer.Body.{Body}
use Rattle.bt_dht.specs.declared.answer.Body.TheVariants as body

-- the byte string at a key
abbrev pub string_at : List ℕ → Tree → Option (List ℕ)
string_at key t = option_and_then string_of (lookup_of key t)

-- a value as the elements of a list, if it is one
abbrev pub list_of : Tree → Option Trees
list_of (integer z) = None
list_of (string s) = None
list_of (list ts) = Some ts
list_of (dictionary ps) = None

abbrev pub list_at : List ℕ → Tree → Option Trees
list_at key t = option_and_then list_of (lookup_of key t)

-- BEP 5: `t` has "a string value representing a transaction ID", which the response echoes.
abbrev pub transaction_of : Tree → Option (List ℕ)
transaction_of message = string_at (codes "t") message

-- BEP 5: `y` has "a single character value describing the type of message": `q`, `r` or `e`.
abbrev pub has_kind : List ℕ → Tree → Bool
has_kind kind message = option_map_or (λ s. bytes_eq s kind) (string_at (codes "y") message) false

-- ---- answers: `y` is "r"

abbrev pub if_id : List ℕ → Option (List ℕ)
if_id s = if length s == 20 then Some s else None

-- the id of the node that answers, which has 20 bytes
abbrev pub id_in : Tree → Option (List ℕ)
id_in r = option_and_then if_id (string_at (codes "id") r)

abbrev pub if_whole : ℕ → List ℕ → List ℕ
if_whole size s = if length s % size == 0 then s else []

-- the compact node info at a key, each of this size; none if the string's length is no multiple of it
abbrev pub nodes_at : List ℕ → ℕ → Tree → List ℕ
nodes_at key size r = if_whole size (unwrap_or (string_at key r) [])

-- the elements of the list `values`
abbrev pub values_in : Tree → Trees
values_in r = unwrap_or (list_at (codes "values") r) no_trees

-- what an answer to get_peers tells
pub record Told : Type 0 where
  pub id : List ℕ
  pub nodes : List ℕ
  pub nodes6 : List ℕ
  pub values : Trees

-- BEP 5: a node's info has 26 bytes: "the 20-byte Node ID in network byte order has the compact IP-address/port info concatenated to the end".
-- BEP 32: of `nodes6` each has 38.
abbrev pub told_by : Tree → List ℕ → Told
told_by r id = record { id = id; nodes = nodes_at (codes "nodes") 26 r; nodes6 = nodes_at (codes "nodes6") 38 r; values = values_in r }

abbrev pub told_in : Tree → Option Told
told_in r = option_map (told_by r) (id_in r)

-- what a message tells if it is an answer: the dictionary under `r`, which has an id
abbrev pub answer_in : Tree → Option Told
answer_in message = if has_kind (codes "r") message then option_and_then told_in (lookup_of (codes "r") message) else None

-- ---- errors: `y` is "e"

-- a number and a text
pub record Failed : Type 0 where
  pub code : ℤ
  pub text : List ℕ

abbrev pub first_text : Trees → Option (List ℕ)
first_text no_trees = None
first_text (tree t ts) = string_of t

-- BEP 5: "The first element is an integer representing the error code. The second element is a string containing the error message."
abbrev pub failed_by : Trees → Option Failed
failed_by no_trees = None
failed_by (tree t ts) = option_and_then (λ z. option_map (λ s. record { code = z; text = s }) (first_text ts)) (integer_of t)

-- what a message tells if it is an error: the list under `e`
abbrev pub failure_in : Tree → Option Failed
failure_in message = if has_kind (codes "e") message then option_and_then failed_by (list_at (codes "e") message) else None

-- ---- peers

-- BEP 5: `values` has "a list of strings. Each string containing 'compact' format peer information for a single peer". An address has 6
-- bytes, or 18 (BEP 32). What has another length, or is no string, is passed over.
abbrev pub if_address : List ℕ → List (List ℕ)
if_address s = if (length s == 6) || (length s == 18) then s ∷ [] else []

abbrev pub peer_in : Tree → List (List ℕ)
peer_in (integer z) = []
peer_in (string s) = if_address s
peer_in (list ts) = []
peer_in (dictionary ps) = []

abbrev pub peers_in : Trees → List (List ℕ)
peers_in no_trees = []
peers_in (tree t ts) = peer_in t ++ peers_in ts

-- ---- the program's types

abbrev pub told : Answer → Told
told a = record { id = a.id; nodes = a.nodes.now; nodes6 = a.nodes6.now; values = trees_of a.values.now }

abbrev pub told_failure : Failure → Failed
told_failure f = record { code = f.code; text = f.text.now }

-- this is what a message is: an answer, an error, or neither of them
abbrev pub IsBody : Tree → Body → Type 0
IsBody message (body.Answer a) = answer_in message ≡ Some (told a)
IsBody message (body.Error f) = failure_in message ≡ Some (told_failure f)
IsBody message body.Other = (answer_in message ≡ None) × (failure_in message ≡ None)
