-- Bytes that were judged before.
use Rattle.std.specs.Prelude.{◌≡◌, ℕ, List}
use Rattle.bt_ext.specs.Judged as ext
use Rattle.bt_wire.specs.declared.context.Context.{Context}
use Rattle.bt_wire.specs.declared.context.Order.{Order}
use Rattle.bt_wire.specs.declared.handshake.Handshake.{Handshake}
use Rattle.bt_wire.specs.Handshakes.{hand, IsHandshake}
use Rattle.bt_wire.specs.Headers.{IsRead}
use Rattle.bt_wire.specs.Messages.{Message}
use Rattle.bt_wire.specs.declared.message.Message.TheVariants as m

-- how many bytes the dictionary of a message has; 0 if it has none
abbrev pub dict_length : Message → ℕ
dict_length (m.Extended e) = ext.dict_length e
dict_length msg = 0

-- the window is the spelling of a message that may be sent, whose dictionary has n bytes
abbrev pub WasJudged : Context → List ℕ → ℕ → Type 0
WasJudged c w n = (o : Order) × (msg : Message) × IsRead c o w msg × (n ≡ dict_length msg)

-- it is the spelling of this message
abbrev pub IsMessageOf : Context → List ℕ → Message → Type 0
IsMessageOf c w msg = (o : Order) (other : Message) → IsRead c o w other → msg ≡ other

-- the bytes are a handshake
abbrev pub AreHandshake : List ℕ → Type 0
AreHandshake b = (h : Handshake) × IsHandshake h × (b ≡ hand h)

-- they are this one
abbrev pub IsHandshakeIn : List ℕ → Handshake → Type 0
IsHandshakeIn b h = (other : Handshake) → IsHandshake other → b ≡ hand other → h ≡ other
