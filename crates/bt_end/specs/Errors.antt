-- The one error of an embedding, for each error of an end.
use Rattle.bt_feed.specs.declared.peer_error.PeerError.{PeerError}
use Rattle.bt_feed.specs.declared.peer_error.PeerError.TheVariants.{Memory, Refused, Illegal, BadLimit, Busy, NotOpen, NotSaid, BadConfig}
use Rattle.bt_end.specs.declared.config.EndError.{EndError}
use Rattle.bt_end.specs.declared.config.EndError.TheVariants as end
use Rattle.bt_end.specs.declared.end.SayError.{SayError}
use Rattle.bt_end.specs.declared.end.SayError.TheVariants as say
use Rattle.bt_end.specs.declared.end.TurnError.{TurnError}
use Rattle.bt_end.specs.declared.end.TurnError.TheVariants as turn

abbrev pub of_turn : TurnError → PeerError
of_turn (turn.Refused r) = Refused r
of_turn turn.Busy = Busy
of_turn turn.Memory = Memory

abbrev pub of_say : SayError → PeerError
of_say say.NotOpen = NotOpen
of_say say.Busy = Busy
of_say say.Extended = NotSaid
of_say say.PiecesUnknown = NotSaid
of_say (say.Illegal fault) = Illegal fault
of_say say.Memory = Memory

abbrev pub of_end : EndError → PeerError
of_end end.BadLimit = BadLimit
of_end end.BadConfig = BadConfig
of_end end.BadSize = BadConfig
of_end end.Memory = Memory
