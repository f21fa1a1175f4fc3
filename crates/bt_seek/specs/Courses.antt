-- The course of a search: what each mail changes.
use Rattle.std.specs.Prelude.{ℕ, ◌+◌, ◌-◌, ◌==◌, ◌&&◌, nat_le, nat_lt, not, Bool, true, false, List, [], ◌∷◌, ◌++◌, length, count_by, filter, fold, if◌then◌else◌}
use Rattle.std.specs.List.{list_any}
use Rattle.std.specs.Str.{bytes_eq}
use Rattle.std.specs.declared.net.socket_addr.SocketAddr.{SocketAddr}
use Rattle.bt_seek.specs.declared.question.Kind.{Kind}
use Rattle.bt_seek.specs.declared.question.Kind.TheVariants as kind
use Rattle.bt_seek.specs.declared.question.Question.{Question}
use Rattle.bt_seek.specs.declared.question.Given.{Given}
use Rattle.bt_seek.specs.declared.question.Open.{Open}
use Rattle.bt_seek.specs.declared.question.OpenPage.{OpenPage}
use Rattle.bt_address.specs.Takeable.{is_takeable}
use Rattle.bt_dht.specs.declared.node.Node.{Node}
use Rattle.bt_seek.specs.Addresses.{is_same, found_in}

-- the time, the open questions, how many pages were asked, the addresses that were sent to, the connections that trackers gave, the nodes
-- that answers told, and the peers, each in order
pub record Course : Type 0 where
  pub is_local : Bool
  pub time : ℕ
  pub asked : List Open
  pub pages : List OpenPage
  pub begun : ℕ
  pub sent : List SocketAddr
  pub given : List Given
  pub nodes : List SocketAddr
  pub peers : List SocketAddr

abbrev pub start : Bool → Course
start is_local = record {
  is_local = is_local;
  time = 0;
  asked = [];
  pages = [];
  begun = 0;
  sent = [];
  given = [];
  nodes = [];
  peers = [];
}

-- ---- the clock

-- so many milliseconds have passed
abbrev pub is_past : (since patience now : ℕ) → Bool
is_past since patience now = nat_le patience (now - since)

-- A question is open for 3 seconds, one to a page for 10.
abbrev pub at_time : ℕ → Course → Course
at_time now c = record {
  is_local = c.is_local;
  time = now;
  asked = filter (λ o. not (is_past o.since 3000 now)) c.asked;
  pages = filter (λ o. not (is_past o.since 10000 now)) c.pages;
  begun = c.begun;
  sent = c.sent;
  given = c.given;
  nodes = c.nodes;
  peers = c.peers;
}

-- ---- questions

-- how many datagrams go to an address at most
abbrev pub most_to : Kind → ℕ
most_to kind.Connect = 5
most_to kind.Announce = 5
most_to kind.Stop = 5
most_to kind.Nodes = 2

abbrev pub may_send : SocketAddr → Kind → Course → Bool
may_send to k c = nat_lt (length c.sent) 256 && nat_lt (count_by (λ a. is_same to a) c.sent) (most_to k)

abbrev pub opened : SocketAddr → Question → ℕ → Open
opened to question now = record { to = to; question = question; since = now }

abbrev pub with_sent : SocketAddr → Question → Course → Course
with_sent to question c = record {
  is_local = c.is_local;
  time = c.time;
  asked = c.asked ++ opened to question c.time ∷ [];
  pages = c.pages;
  begun = c.begun;
  sent = c.sent ++ to ∷ [];
  given = c.given;
  nodes = c.nodes;
  peers = c.peers;
}

abbrev pub opened_page : (page now : ℕ) → OpenPage
opened_page page now = record { page = page; since = now }

abbrev pub with_asked : ℕ → Course → Course
with_asked page c = record {
  is_local = c.is_local;
  time = c.time;
  asked = c.asked;
  pages = c.pages ++ opened_page page c.time ∷ [];
  begun = c.begun + 1;
  sent = c.sent;
  given = c.given;
  nodes = c.nodes;
  peers = c.peers;
}

-- ---- answers

-- what an answer says
pub data Saying : Type 0 where
  -- a tracker gives a connection, tells peers, or refuses
  Connection : List ℕ → Saying
  Peers : List SocketAddr → Saying
  Refusal : Saying
  -- a node tells nodes and peers, or refuses
  Values : List Node → List SocketAddr → Saying
  Failure : Saying

-- BEP 15: a response has the action of its request, or that of an error. BEP 5: a node's message answers a query.
abbrev pub fits : Kind → Saying → Bool
fits kind.Connect (Connection c) = true
fits kind.Connect Refusal = true
fits kind.Announce (Peers ps) = true
fits kind.Announce Refusal = true
fits kind.Stop Refusal = true
fits kind.Nodes (Values ns ps) = true
fits kind.Nodes Failure = true
fits k other = false

abbrev pub peers_told : Saying → List SocketAddr
peers_told (Connection c) = []
peers_told (Peers ps) = ps
peers_told Refusal = []
peers_told (Values ns ps) = ps
peers_told Failure = []

abbrev pub nodes_told : Saying → List Node
nodes_told (Connection c) = []
nodes_told (Peers ps) = []
nodes_told Refusal = []
nodes_told (Values ns ps) = ns
nodes_told Failure = []

-- a question to this address, with this transaction id, of a kind that is answered so
abbrev pub is_asked : SocketAddr → List ℕ → Saying → Open → Bool
is_asked from id saying o = is_same o.to from && (bytes_eq o.question.id id && fits o.question.kind saying)

-- An answer counts if it is one to an open question. It closes all questions to the address that it came from.
abbrev pub counts : SocketAddr → List ℕ → Saying → Course → Bool
counts from id saying c = list_any (is_asked from id saying) c.asked

-- a connection that a tracker gave
abbrev pub given_by : SocketAddr → List ℕ → Given
given_by to connection = record { to = to; connection = connection }

abbrev pub with_given : SocketAddr → List Given → Saying → List Given
with_given from given (Connection c) = given ++ given_by from c ∷ []
with_given from given (Peers ps) = given
with_given from given Refusal = given
with_given from given (Values ns ps) = given
with_given from given Failure = given

abbrev pub is_given : List Given → SocketAddr → List ℕ → Bool
is_given given to connection = list_any (λ g. is_same to g.to && bytes_eq g.connection connection) given

-- A told node may be asked if a stranger may name its address.
abbrev pub with_node : Bool → List SocketAddr → Node → List SocketAddr
with_node is_local nodes n = if is_takeable is_local n.address then nodes ++ n.address ∷ [] else nodes

abbrev pub with_nodes : Bool → List SocketAddr → List Node → List SocketAddr
with_nodes is_local nodes told = fold (with_node is_local) nodes told

abbrev pub closed : SocketAddr → Saying → Course → Course
closed from saying c = record {
  is_local = c.is_local;
  time = c.time;
  asked = filter (λ o. not (is_same o.to from)) c.asked;
  pages = c.pages;
  begun = c.begun;
  sent = c.sent;
  given = with_given from c.given saying;
  nodes = with_nodes c.is_local c.nodes (nodes_told saying);
  peers = found_in c.is_local c.peers (peers_told saying);
}

abbrev pub heard : SocketAddr → List ℕ → Saying → Course → Course
heard from id saying c = if counts from id saying c then closed from saying c else c

-- ---- pages

abbrev pub is_page_open : ℕ → Course → Bool
is_page_open page c = list_any (λ o. o.page == page) c.pages

abbrev pub page_closed : ℕ → List SocketAddr → Course → Course
page_closed page told c = record {
  is_local = c.is_local;
  time = c.time;
  asked = c.asked;
  pages = filter (λ o. not (o.page == page)) c.pages;
  begun = c.begun;
  sent = c.sent;
  given = c.given;
  nodes = c.nodes;
  peers = found_in c.is_local c.peers told;
}

-- the answer of a page counts if it was asked and its answer is awaited
abbrev pub answered : ℕ → List SocketAddr → Course → Course
answered page told c = if is_page_open page c then page_closed page told c else c
