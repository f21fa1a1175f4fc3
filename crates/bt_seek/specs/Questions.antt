-- What is asked, and of whom (BEP 15, "Connect" and "Announce"; BEP 3, "trackers"; BEP 5, "get_peers").
use Rattle.std.specs.Prelude.{◌≡◌, ℕ, ◌||◌, Bool, true, List, Some, None, slice_get}
use Rattle.std.specs.declared.net.socket_addr.SocketAddr.{SocketAddr}
use Rattle.bt_bencode.specs.Trees.{dictionary}
use Rattle.bt_bencode.specs.Bencoding.{ben}
use Rattle.bt_tracker.specs.Udp.{connect_of, announce_of}
use Rattle.bt_tracker.specs.Questions.{question_of}
use Rattle.bt_tracker.specs.declared.announce.Announce.{Announce}
use Rattle.bt_tracker.specs.declared.announce.Event.{Event}
use Rattle.bt_tracker.specs.declared.announce.Event.TheVariants as event
use Rattle.bt_dht.specs.Questions.{get_peers_of}
use Rattle.bt_seek.specs.declared.question.Kind.{Kind}
use Rattle.bt_seek.specs.declared.question.Kind.TheVariants as kind
use Rattle.bt_seek.specs.declared.search.Ask.{Ask}
use Rattle.bt_seek.specs.declared.search.Ask.TheVariants as ask
use Rattle.bt_seek.specs.declared.search.Ids.{Ids}
use Rattle.bt_seek.specs.Addresses.{has}
use Rattle.bt_seek.specs.Courses.{Course, is_given}
use Rattle.bt_seek.specs.Names.{Names, Site}

-- a byte is left, and port 1 is told, at which nobody listens
abbrev pub announce_by : Ids → Event → ℕ → Announce
announce_by ids e wanted = record { info_hash = ids.info_hash; peer_id = ids.peer_id; left = 1; event = e; wanted = wanted; port = 1 }

-- 50 peers are wanted, and none at the end
abbrev pub wanted_by : Event → ℕ
wanted_by event.None = 50
wanted_by event.Completed = 50
wanted_by event.Started = 50
wanted_by event.Stopped = 0

-- an announce of this event over a connection that the tracker gave
abbrev pub IsAnnounce : Names → Course → Event → SocketAddr → List ℕ → List ℕ → Type 0
IsAnnounce names c e to id bytes = (connection : List ℕ) × (is_given c.given to connection ≡ true)
    × (bytes ≡ announce_of connection id names.ids.key (announce_by names.ids e (wanted_by e)))

-- A question of this kind to this address, with this transaction id, has these bytes. A connection is asked of a tracker that was named, and
-- peers of a tracker that gave one. Asked too is a node that was named, or that an answer told which counted.
abbrev pub IsAsking : Names → Course → SocketAddr → Kind → List ℕ → List ℕ → Type 0
IsAsking names c to kind.Connect id bytes = (has names.trackers to ≡ true) × (bytes ≡ connect_of id)
IsAsking names c to kind.Announce id bytes = IsAnnounce names c event.Started to id bytes
IsAsking names c to kind.Stop id bytes = IsAnnounce names c event.Stopped to id bytes
IsAsking names c to kind.Nodes id bytes = ((has names.nodes to || has c.nodes to) ≡ true)
    × (bytes ≡ ben (dictionary (get_peers_of id names.ids.node_id names.ids.info_hash None)))

-- the question to a tracker over HTTP, with an event
abbrev pub site_question : Ids → Site → Event → List ℕ
site_question ids s e = question_of s.host s.port s.target (announce_by ids e (wanted_by e))

-- the question to the page of this number
abbrev pub IsPageAsked : Names → Event → ℕ → List ℕ → Type 0
IsPageAsked names e page bytes = (s : Site) × (slice_get names.pages page ≡ Some s) × (bytes ≡ site_question names.ids s e)

-- ---- for private contracts

abbrev pub kind_by : Ask → Kind
kind_by ask.Connect = kind.Connect
kind_by (ask.Announce c) = kind.Announce
kind_by (ask.Stop c) = kind.Stop
kind_by ask.Nodes = kind.Nodes

abbrev pub datagram_by : Ids → Ask → List ℕ → List ℕ
datagram_by ids ask.Connect id = connect_of id
datagram_by ids (ask.Announce c) id = announce_of c id ids.key (announce_by ids event.Started 50)
datagram_by ids (ask.Stop c) id = announce_of c id ids.key (announce_by ids event.Stopped 0)
datagram_by ids ask.Nodes id = ben (dictionary (get_peers_of id ids.node_id ids.info_hash None))

-- whether who is asked so is known
abbrev pub is_known : Names → Course → SocketAddr → Ask → Bool
is_known names c to ask.Connect = has names.trackers to
is_known names c to (ask.Announce x) = is_given c.given to x
is_known names c to (ask.Stop x) = is_given c.given to x
is_known names c to ask.Nodes = has names.nodes to || has c.nodes to
