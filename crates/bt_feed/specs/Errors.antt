-- The one error that an embedding sees, for the error of each call.
use Rattle.std.specs.declared.io.ErrorKind.{ErrorKind}
use Rattle.std.specs.declared.io.ErrorKind.TheVariants as kind
use Rattle.bt_wire.specs.declared.fault.EncodeError.{EncodeError}
use Rattle.bt_wire.specs.declared.fault.EncodeError.TheVariants as encode
use Rattle.bt_feed.specs.declared.feed.FeedError.{FeedError}
use Rattle.bt_feed.specs.declared.feed.FeedError.TheVariants as feed
use Rattle.bt_feed.specs.declared.items.ItemError.{ItemError}
use Rattle.bt_feed.specs.declared.items.ItemError.TheVariants as item
use Rattle.bt_feed.specs.declared.pumping.PumpError.{PumpError}
use Rattle.bt_feed.specs.declared.pumping.PumpError.TheVariants as pump
use Rattle.bt_feed.specs.declared.sink.SinkFault.{SinkFault}
use Rattle.bt_feed.specs.declared.sink.SinkFault.TheVariants as sink
use Rattle.bt_feed.specs.declared.view.Finish.{Finish}
use Rattle.bt_feed.specs.declared.view.Finish.TheVariants as finish
use Rattle.bt_feed.specs.declared.view.TakeError.{TakeError}
use Rattle.bt_feed.specs.declared.view.TakeError.TheVariants as take
use Rattle.bt_feed.specs.declared.peer_error.PeerError.{PeerError}
use Rattle.bt_feed.specs.declared.peer_error.PeerError.TheVariants.{Memory, Refused, Illegal, BadLimit, BadBase, Read, Write, Device, Turns, Untaken}

abbrev pub of_feed : FeedError → PeerError
of_feed feed.BadLimit = BadLimit
of_feed feed.BadBase = BadBase
of_feed feed.Memory = Memory

abbrev pub of_item : ItemError → PeerError
of_item (item.Refused r) = Refused r
of_item item.Memory = Memory

abbrev pub of_take : TakeError → PeerError
of_take (take.Refused r) = Refused r

abbrev pub of_finish : Finish → PeerError
of_finish (finish.Refused r) = Refused r
of_finish finish.Untaken = Untaken

abbrev pub of_sink : SinkFault → PeerError
of_sink sink.Write = Write
of_sink sink.Memory = Memory

abbrev pub of_pump : PumpError → PeerError
of_pump pump.ReadFault = Read
of_pump pump.Turns = Turns
of_pump (pump.Refused r) = Refused r
of_pump (pump.Sink fault) = of_sink fault

abbrev pub of_encode : EncodeError → PeerError
of_encode (encode.Illegal fault) = Illegal fault
of_encode encode.Memory = Memory

-- of an input or output error: out of memory, or the device failed
abbrev pub of_kind : ErrorKind → PeerError
of_kind kind.OutOfMemory = Memory
of_kind k = Device
