-- What a datagram and a page's answer say.
use Rattle.std.specs.Prelude.{◌≡◌, ℕ, ◌+◌, ◌-◌, ◌<◌, ◌≤◌, ◌⊎◌, true, false, List, [], ◌++◌, length, map, drop, All, Option, Some, None}
use Rattle.std.specs.List.{flat_map}
use Rattle.std.specs.declared.net.socket_addr.SocketAddr.{SocketAddr}
use Rattle.std.specs.declared.net.socket_addr.SocketAddr.TheVariants.{V4, V6}
use Rattle.bt_address.specs.Compact.{compact_of, size_of, IsPlainOf}
use Rattle.bt_address.specs.declared.compact.Family.{Family}
use Rattle.bt_address.specs.declared.compact.Family.TheVariants as family
use Rattle.bt_bencode.specs.Trees.{Tree, Pairs, dictionary}
use Rattle.bt_bencode.specs.Bencoding.{Spells}
use Rattle.bt_tracker.specs.Udp.{field, number_at, has_form}
use Rattle.bt_tracker.specs.HttpAnswers.{IsHttpAnswer, IsNoHttpAnswer}
use Rattle.bt_tracker.specs.declared.answer.HttpAnswer.{HttpAnswer}
use Rattle.bt_tracker.specs.declared.answer.HttpAnswer.TheVariants as http
use Rattle.bt_tracker.specs.declared.answer.HttpError.{HttpError}
use Rattle.bt_dht.specs.Messages.{transaction_of, answer_in, failure_in, peers_in, Told, Failed}
use Rattle.bt_dht.specs.Nodes.{IsPlain}
use Rattle.bt_dht.specs.declared.node.Node.{Node}
use Rattle.bt_seek.specs.Courses.{Course, Saying, Connection, Peers, Refusal, Values, Failure, heard}

-- a transaction id, and what is said
pub record Reply : Type 0 where
  pub id : List ℕ
  pub saying : Saying

abbrev pub heard_by : SocketAddr → Option Reply → Course → Course
heard_by from None c = c
heard_by from (Some reply) c = heard from reply.id reply.saying c

-- the addresses that bytes begin with, as many as there are
abbrev pub AreIn : Family → List ℕ → List SocketAddr → Type 0
AreIn f bytes told = (rest : List ℕ) × (flat_map compact_of told ++ rest ≡ bytes) × All (IsPlainOf f) told × (length rest < size_of f)

-- BEP 15: an announce response has addresses of the family by which the tracker was asked.
abbrev pub family_of : SocketAddr → Family
family_of (V4 a) = family.V4
family_of (V6 a) = family.V6

-- BEP 15: by its action a response gives a connection id, tells addresses from 20 on, or is an error
abbrev pub IsTrackers : SocketAddr → List ℕ → Saying → Type 0
IsTrackers from bytes (Connection c) = (number_at 0 bytes ≡ 0) × (c ≡ field 8 8 bytes)
IsTrackers from bytes (Peers told) = (number_at 0 bytes ≡ 1) × AreIn (family_of from) (drop 20 bytes) told
IsTrackers from bytes Refusal = number_at 0 bytes ≡ 3
IsTrackers from bytes (Values nodes told) = ⊥
IsTrackers from bytes Failure = ⊥

-- the addresses of these compact forms
abbrev pub AreOf : List (List ℕ) → List SocketAddr → Type 0
AreOf compacts told = (map compact_of told ≡ compacts) × All IsPlain told

-- BEP 5, "Contact Encoding"; BEP 32: a node's info is its id of 20 bytes, and its address in compact form
abbrev pub info_of : Node → List ℕ
info_of n = n.id ++ compact_of n.address

abbrev pub IsNodeOf : Family → Node → Type 0
IsNodeOf f n = (length n.id ≡ 20) × IsPlainOf f n.address

-- the nodes that infos begin with, at most so many
abbrev pub AreInfos : Family → ℕ → List ℕ → List Node → Type 0
AreInfos f most infos nodes = (rest : List ℕ) × (flat_map info_of nodes ++ rest ≡ infos) × All (IsNodeOf f) nodes
    × (length nodes ≤ most) × (length nodes < most → length rest < 20 + size_of f)

-- the first 16 nodes of an answer: those of IPv4, and then those of IPv6
abbrev pub AreNodes : (infos infos6 : List ℕ) → List Node → Type 0
AreNodes infos infos6 nodes = (a : List Node) × (b : List Node)
    × AreInfos family.V4 16 infos a × AreInfos family.V6 (16 - length a) infos6 b × (nodes ≡ a ++ b)

-- BEP 5: a node answers with nodes and with the peers of `values`, or with an error
abbrev pub IsNodes : Tree → Saying → Type 0
IsNodes message (Values nodes told) = (answer : Told) × (answer_in message ≡ Some answer)
    × AreNodes answer.nodes answer.nodes6 nodes × AreOf (peers_in answer.values) told
IsNodes message Failure = (failure : Failed) × (failure_in message ≡ Some failure)
IsNodes message (Connection c) = ⊥
IsNodes message (Peers told) = ⊥
IsNodes message Refusal = ⊥

-- the reply that a node's message is: its transaction id has four bytes, as each question has
abbrev pub IsMessage : Tree → Option Reply → Type 0
IsMessage message (Some reply) = (transaction_of message ≡ Some reply.id) × (length reply.id ≡ 4) × IsNodes message reply.saying
IsMessage message None = (id : List ℕ) → transaction_of message ≡ Some id → length id ≡ 4 → (answer_in message ≡ None) × (failure_in message ≡ None)

-- the reply that a datagram is as a node's message, which is one dictionary
abbrev pub IsNodeRead : List ℕ → Option Reply → Type 0
IsNodeRead bytes (Some reply) = (ps : Pairs) × Spells ps bytes × IsMessage (dictionary ps) (Some reply)
IsNodeRead bytes None = (ps : Pairs) → Spells ps bytes → IsMessage (dictionary ps) None

-- a datagram of a tracker's form is its response; any other is a node's message, or nothing
abbrev pub IsRead : SocketAddr → List ℕ → Option Reply → Type 0
IsRead from bytes (Some reply) =
    ((has_form bytes ≡ true) × (reply.id ≡ field 4 4 bytes) × IsTrackers from bytes reply.saying)
    ⊎ ((has_form bytes ≡ false) × IsNodeRead bytes (Some reply))
IsRead from bytes None = (has_form bytes ≡ false) × IsNodeRead bytes None

-- the peers of a page's answer: those of IPv4, and then those of IPv6; none if it is no answer, or a failure
abbrev pub AreToldBy : HttpAnswer → List SocketAddr → Type 0
AreToldBy (http.Peers v4 v6) told = (a : List SocketAddr) × (b : List SocketAddr)
    × AreIn family.V4 v4.now a × AreIn family.V6 v6.now b × (told ≡ a ++ b)
AreToldBy (http.Failure words) told = told ≡ []

abbrev pub ArePagePeers : List ℕ → List SocketAddr → Type 0
ArePagePeers answer told = ((it : HttpAnswer) × IsHttpAnswer answer it × AreToldBy it told)
    ⊎ ((error : HttpError) × IsNoHttpAnswer answer error × (told ≡ []))
