use Rattle.std.proofs.Common.{◌≡◌, IfOk, sym, ap, subst}
use Rattle.bt_wire.specs.Messages.{Message, MessageView, message_of}
use Rattle.bt_wire.proofs.decode.copy_message.Goals as goal

-- the message of a view is that of an equal one
same : {v w : MessageView} → v ≡ w → message_of w ≡ message_of v
same e = sym (ap (λ (v : MessageView). message_of v) e)

pub returns-in-KeepAlive : goal.returns-in-KeepAlive
returns-in-KeepAlive c = record { ok = same c.in-KeepAlive.is; err = tt }

pub returns-in-Choke : goal.returns-in-Choke
returns-in-Choke c = record { ok = same c.in-Choke.is; err = tt }

pub returns-in-Unchoke : goal.returns-in-Unchoke
returns-in-Unchoke c = record { ok = same c.in-Unchoke.is; err = tt }

pub returns-in-Interested : goal.returns-in-Interested
returns-in-Interested c = record { ok = same c.in-Interested.is; err = tt }

pub returns-in-NotInterested : goal.returns-in-NotInterested
returns-in-NotInterested c = record { ok = same c.in-NotInterested.is; err = tt }

pub returns-in-Have : goal.returns-in-Have
returns-in-Have c = record { ok = same c.in-Have.is; err = tt }

pub returns-in-Request : goal.returns-in-Request
returns-in-Request c = record { ok = same c.in-Request.is; err = tt }

pub returns-in-Cancel : goal.returns-in-Cancel
returns-in-Cancel c = record { ok = same c.in-Cancel.is; err = tt }

pub returns-in-Port : goal.returns-in-Port
returns-in-Port c = record { ok = same c.in-Port.is; err = tt }

pub returns-in-Suggest : goal.returns-in-Suggest
returns-in-Suggest c = record { ok = same c.in-Suggest.is; err = tt }

pub returns-in-HaveAll : goal.returns-in-HaveAll
returns-in-HaveAll c = record { ok = same c.in-HaveAll.is; err = tt }

pub returns-in-HaveNone : goal.returns-in-HaveNone
returns-in-HaveNone c = record { ok = same c.in-HaveNone.is; err = tt }

pub returns-in-Reject : goal.returns-in-Reject
returns-in-Reject c = record { ok = same c.in-Reject.is; err = tt }

pub returns-in-AllowedFast : goal.returns-in-AllowedFast
returns-in-AllowedFast c = record { ok = same c.in-AllowedFast.is; err = tt }

pub returns-in-Bitfield-clause-ok : goal.returns-in-Bitfield-clause-ok
returns-in-Bitfield-clause-ok c =
    subst (λ (v : MessageView). IfOk c.copy_bitfield.result (λ (m : Message). m ≡ message_of v)) (sym c.in-Bitfield.is) c.copy_bitfield.ensures

pub returns-in-Piece-clause-ok : goal.returns-in-Piece-clause-ok
returns-in-Piece-clause-ok c =
    subst (λ (v : MessageView). IfOk c.copy_piece.result (λ (m : Message). m ≡ message_of v)) (sym c.in-Piece.is) c.copy_piece.ensures

pub returns-in-Extended-clause-ok : goal.returns-in-Extended-clause-ok
returns-in-Extended-clause-ok c =
    subst (λ (v : MessageView). IfOk c.copy_extended.result (λ (m : Message). m ≡ message_of v)) (sym c.in-Extended.is) c.copy_extended.ensures

pub returns-in-Unknown-clause-ok : goal.returns-in-Unknown-clause-ok
returns-in-Unknown-clause-ok c =
    subst (λ (v : MessageView). IfOk c.copy_unknown.result (λ (m : Message). m ≡ message_of v)) (sym c.in-Unknown.is) c.copy_unknown.ensures
