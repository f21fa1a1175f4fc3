-- What C has an end say.
use Rattle.std.specs.Prelude.{◌≡◌, ◌==◌, ◌⊎◌, ℕ, List, Option, Some, None, Result, Ok, Err, if◌then◌else◌}
use Rattle.bt_ext.specs.declared.ext.Ext.TheVariants as ext
use Rattle.bt_wire.specs.Messages.{Message}
use Rattle.bt_wire.specs.declared.message.Message.TheVariants as m
use Rattle.bt_end.specs.Halves.{HalfState, IsSaid}
use Rattle.bt_end.specs.declared.end.SayError.{SayError}
use Rattle.bt_end.specs.declared.end.SayError.TheVariants as say_error
use Rattle.bt_c.specs.declared.extended.BtExtended.{BtExtended}
use Rattle.bt_c.specs.declared.item.BtItem.{BtItem}

-- an extended message: the one that takes a piece back (`lt_donthave`); the end makes the others itself
abbrev pub said_extended : BtExtended → Option Message
said_extended x = if x.kind == 8 then Some (m.Extended (ext.DontHave x.piece)) else None

-- the message of this id, by the item's numbers and a body; none for an id without a meaning
abbrev pub said_by : BtItem → List ℕ → Option Message
said_by i b =
    if i.id == 0 then Some m.Choke else
    (if i.id == 1 then Some m.Unchoke else
    (if i.id == 2 then Some m.Interested else
    (if i.id == 3 then Some m.NotInterested else
    (if i.id == 4 then Some (m.Have i.index) else
    (if i.id == 5 then Some (m.Bitfield b) else
    (if i.id == 6 then Some (m.Request i.index i.begin i.length) else
    (if i.id == 7 then Some (m.Piece i.index i.begin b) else
    (if i.id == 8 then Some (m.Cancel i.index i.begin i.length) else
    (if i.id == 9 then Some (m.Port i.port) else
    (if i.id == 13 then Some (m.Suggest i.index) else
    (if i.id == 14 then Some m.HaveAll else
    (if i.id == 15 then Some m.HaveNone else
    (if i.id == 16 then Some (m.Reject i.index i.begin i.length) else
    (if i.id == 17 then Some (m.AllowedFast i.index) else
    (if i.id == 20 then said_extended i.extended else
    (if i.id == 256 then Some m.KeepAlive else None))))))))))))))))

abbrev pub say_status : Result Unit SayError → ℕ
say_status (Ok x) = 0
say_status (Err say_error.NotOpen) = 11
say_status (Err say_error.Busy) = 5
say_status (Err say_error.Extended) = 4
say_status (Err say_error.PiecesUnknown) = 12
say_status (Err (say_error.Illegal f)) = 13
say_status (Err say_error.Memory) = 6

-- the end's answer; or there was no memory for the body's copy
abbrev pub IsSaidBy : HalfState → Option Message → HalfState → ℕ → Type 0
IsSaidBy a None b n = ((n ≡ 4) ⊎ (n ≡ 6)) × (b ≡ a)
IsSaidBy a (Some msg) b n = ((n ≡ 6) × (b ≡ a)) ⊎ ((answer : Result Unit SayError) × (n ≡ say_status answer) × IsSaid a msg answer b)

abbrev pub IsSaidTo : Option HalfState → Option Message → Option HalfState → ℕ → Type 0
IsSaidTo None msg b n = (n ≡ 7) × (b ≡ None)
IsSaidTo (Some a) msg b n = (end : HalfState) × (b ≡ Some end) × IsSaidBy a msg end n
