-- What the program makes of a datagram, as the words of courses.
use Rattle.std.specs.Prelude.{◌≡◌, List, Option, Some, None}
use Rattle.std.specs.Prelude.{length}
use Rattle.std.specs.declared.net.socket_addr.SocketAddr.{SocketAddr}
use Rattle.bt_bencode.specs.Views.{trees_of}
use Rattle.bt_tracker.specs.declared.udp.UdpAnswer.{UdpAnswer}
use Rattle.bt_tracker.specs.declared.udp.UdpAnswer.TheVariants as udp
use Rattle.bt_dht.specs.Messages.{peers_in}
use Rattle.bt_dht.specs.declared.node.Node.{Node}
use Rattle.bt_dht.specs.declared.answer.Body.{Body}
use Rattle.bt_dht.specs.declared.answer.Body.TheVariants as body
use Rattle.bt_dht.specs.declared.answer.Message.{Message}
use Rattle.bt_seek.specs.declared.said.Answer.{Answer}
use Rattle.bt_seek.specs.declared.said.Said.{Said}
use Rattle.bt_seek.specs.declared.said.Said.TheVariants as said
use Rattle.bt_seek.specs.Answers.{AreIn, AreNodes, AreOf, Reply, family_of}
use Rattle.bt_seek.specs.Courses.{Saying, Connection, Peers, Refusal, Values, Failure}

abbrev pub saying_of : Said → Saying
saying_of (said.Connected c) = Connection c
saying_of (said.Announced ps) = Peers ps.items
saying_of said.Refused = Refusal
saying_of (said.Told t) = Values t.nodes.items t.peers.items
saying_of said.Failed = Failure

abbrev pub reply_of : Answer → Reply
reply_of a = record { id = a.id; saying = saying_of a.said }

abbrev pub IsSaidBy : SocketAddr → UdpAnswer → Saying → Type 0
IsSaidBy from (udp.Connected c) saying = saying ≡ Connection c
IsSaidBy from (udp.Announced interval leechers seeders peers) saying =
    (told : List SocketAddr) × AreIn (family_of from) peers.now told × (saying ≡ Peers told)
IsSaidBy from (udp.Error text) saying = saying ≡ Refusal

abbrev pub IsBodySaid : Body → Option Saying → Type 0
IsBodySaid (body.Answer a) saying = (nodes : List Node) × (told : List SocketAddr)
    × AreNodes a.nodes.now a.nodes6.now nodes × AreOf (peers_in (trees_of a.values.now)) told × (saying ≡ Some (Values nodes told))
IsBodySaid (body.Error f) saying = saying ≡ Some Failure
IsBodySaid body.Other saying = saying ≡ None

abbrev pub IsMessageOf : Message → Option Reply → Type 0
IsMessageOf m (Some reply) = (reply.id ≡ m.transaction.now) × (length reply.id ≡ 4) × IsBodySaid m.body (Some reply.saying)
IsMessageOf m None = length m.transaction.now ≡ 4 → IsBodySaid m.body None
