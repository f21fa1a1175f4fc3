use Rattle.std.proofs.Common.{◌≡◌, false, List, Option, Some, None, refl, sym, ◌∙◌, ap}
use Rattle.std.specs.Option.{IfSome}
use Rattle.bt_packet.specs.Utp.{UtpPacket, utp_packet}
use Rattle.bt_utp.specs.declared.connection.Connection.{Connection}
use Rattle.bt_utp.specs.declared.connection.Told.{Told}
use Rattle.bt_utp.specs.declared.links.Links.{Links}
use Rattle.bt_utp.specs.Channels.{Table, begins, found}
use Rattle.bt_utp.specs.Entries.{entry_at, room_in, HasTurned}
use Rattle.bt_utp.specs.Taken.{Taken}
use Rattle.bt_utp.specs.Turnings.{AreLinked, IsToldOr}
use Rattle.bt_utp.proofs.Entering.{on_err}
use Rattle.bt_utp.proofs.Linking.{turned_linked, stays_linked, is_there}
use Rattle.bt_utp.proofs.links.Links.go_on.Goals as goal

pub returns-in_err-told-clause-err : goal.returns-in_err-told-clause-err
returns-in_err-told-clause-err c =
    on_err c.from_residual.result _ (λ t xs are. stays_linked t xs c.args.self.now _ c.args.connection.now are c.in_err-told.ensures.err refl)

told_or : (t : Table) (xs : List Taken) (s s' : Links) (d : UtpPacket) (k : Connection) (o : Option Told) → AreLinked t xs s
    → begins t d ≡ false → found t d ≡ Some k → (o ≡ None → entry_at s.entries k.initiator k.acceptor k.id ≡ None)
    → IfSome o (λ told. HasTurned k d s'.bytes.items told s.entries s'.entries) → s'.begun ≡ s.begun
    → IsToldOr t xs d (room_in s.entries) o s'
told_or t xs s s' d k None are other is none some begun = absurd (is_there t xs s d k are is (none refl))
told_or t xs s s' d k (Some told) are other is none some begun = turned_linked t xs s s' d k told are other is some begun

pub returns-clause-ok : goal.returns-clause-ok
returns-clause-ok c t xs are =
    let d = utp_packet c.args.datagram.now in
    told_or t xs c.args.self.now _ d c.args.connection.now c.in_ok-told.told are (ap (λ u. begins u d) (sym are.table) ∙ c.requires.none)
    (ap (λ u. found u d) (sym are.table) ∙ c.requires.found) c.in_ok-told.ensures.none c.in_ok-told.ensures.some refl
