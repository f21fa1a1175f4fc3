-- What the sides of a connection say (BEP 3, "peer messages"; BEP 6; BEP 9). Of a list of events the newest stands first.
use Rattle.std.specs.Prelude.{ℕ, Bool, true, false, List, Option, Some, None, if◌then◌else◌}
use Rattle.bt_remarks.specs.declared.events.Side.{Side}
use Rattle.bt_remarks.specs.declared.events.Side.TheVariants.{A, B}
use Rattle.bt_remarks.specs.declared.events.Block.{Block}
use Rattle.bt_remarks.specs.declared.events.Event.{Event}
use Rattle.bt_remarks.specs.declared.events.Event.TheVariants as event
use Rattle.bt_remarks.specs.declared.events.Heard.{Heard}

-- A message, as far as remarks need it.
pub data Message : Type 0 where
  Handshake : (fast : Bool) → Message
  Choke : Message
  Unchoke : Message
  AllowedFast : (piece : ℕ) → Message
  HaveAll : Message
  Bitfield : (field : List ℕ) → Message
  Have : (piece : ℕ) → Message
  Request : (block : Block) → Message
  Cancel : (block : Block) → Message
  Piece : (block : Block) → Message
  Reject : (block : Block) → Message
  MetadataRequest : (piece : ℕ) → Message
  MetadataAnswer : (piece : ℕ) → Message
  Other : Message

abbrev pub message_of : Event → Message
message_of (event.Handshake fast) = Handshake fast
message_of event.Choke = Choke
message_of event.Unchoke = Unchoke
message_of (event.AllowedFast piece) = AllowedFast piece
message_of event.HaveAll = HaveAll
message_of (event.Bitfield field) = Bitfield field.now
message_of (event.Have piece) = Have piece
message_of (event.Request block) = Request block
message_of (event.Cancel block) = Cancel block
message_of (event.Piece block) = Piece block
message_of (event.Reject block) = Reject block
message_of (event.MetadataRequest piece) = MetadataRequest piece
message_of (event.MetadataAnswer piece) = MetadataAnswer piece
message_of event.Other = Other

-- A message with its sender. It is known if what the other side said up to here is known.
pub record Told : Type 0 where
  pub side : Side
  pub message : Message
  pub known : Bool
  pub mark : ℕ

abbrev pub told : Heard → Told
told heard = record { side = heard.side; message = message_of heard.event; known = heard.known; mark = heard.mark }

abbrev pub other : Side → Side
other A = B
other B = A

abbrev pub is_same : Side → Side → Bool
is_same A A = true
is_same B B = true
is_same A B = false
is_same B A = false

-- what a side says with an event: nothing that matters, if it is the other side's
abbrev pub said : Side → Told → Message
said side e = if is_same e.side side then e.message else Other

-- Requests are of blocks (BEP 3), or of pieces of the metadata (BEP 9).
pub data Kind : Type 0 where
  Blocks : Kind
  Metadata : Kind

-- a piece of the metadata, as a block
abbrev pub metadata_piece : ℕ → Block
metadata_piece piece = record { index = piece; begin = 0; length = 0 }

-- the block that a message asks for
abbrev pub asked_block : Message → Option Block
asked_block (Request block) = Some block
asked_block _ = None

abbrev pub asked_metadata : Message → Option Block
asked_metadata (MetadataRequest piece) = Some (metadata_piece piece)
asked_metadata _ = None

-- what a message asks for
abbrev pub asked : Kind → Message → Option Block
asked Blocks message = asked_block message
asked Metadata message = asked_metadata message

-- what a message cancels: a block (BEP 3, "cancel"); no message cancels a piece of the metadata
abbrev pub cancelled_block : Message → Option Block
cancelled_block (Cancel block) = Some block
cancelled_block _ = None

abbrev pub cancelled : Kind → Message → Option Block
cancelled Blocks message = cancelled_block message
cancelled Metadata message = None

-- the block that a message sends or rejects (BEP 6, "Reject Request")
abbrev pub answered_block : Message → Option Block
answered_block (Piece block) = Some block
answered_block (Reject block) = Some block
answered_block _ = None

abbrev pub answered_metadata : Message → Option Block
answered_metadata (MetadataAnswer piece) = Some (metadata_piece piece)
answered_metadata _ = None

-- what a message answers
abbrev pub answered : Kind → Message → Option Block
answered Blocks message = answered_block message
answered Metadata message = answered_metadata message
