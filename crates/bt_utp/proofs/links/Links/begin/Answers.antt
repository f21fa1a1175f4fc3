use Rattle.std.proofs.Common.{refl, sym, ap, ◌∙◌, subst}
use Rattle.bt_packet.specs.Utp.{utp_packet}
use Rattle.bt_utp.specs.declared.entries.Entry.{Entry}
use Rattle.bt_utp.specs.Channels.{begins, begun_by}
use Rattle.bt_utp.specs.Taken.{TurnsEntry}
use Rattle.bt_utp.specs.Turnings.{IsNewLink}
use Rattle.bt_utp.proofs.Entering.{on_err}
use Rattle.bt_utp.proofs.Linking.{begun_told, same_linked}
use Rattle.bt_utp.proofs.links.Links.begin.Goals as goal

pub returns-in_err-put-clause-err : goal.returns-in_err-put-clause-err
returns-in_err-put-clause-err c =
    on_err c.from_residual-in_err-put.result _ (λ t xs are. same_linked t xs c.args.self.now _ are c.in_err-put.ensures.err refl)

pub returns-clause-ok : goal.returns-clause-ok
returns-clause-ok c t xs are =
    let d = utp_packet c.args.datagram.now in
    let e = c.new.ensures in
    let new : IsNewLink d.number c.new.result = record {
      initiator = e.initiator;
      acceptor = e.acceptor;
      has_syn = e.syn;
      known = e.known;
      sent = e.sent;
      answered = e.answered;
      reset = e.reset;
    } in
    let first : Entry = record { connection = begun_by c.args.self.now.begun d; link = c.new.result } in
    let turns = subst (λ r. TurnsEntry d r c.turn.new.bytes.items c.in_ok-told.told first c.turn.new.self) c.room-room.ensures c.in_ok-told.ensures.ok in
    begun_told t xs c.args.self.now _ d c.in_ok-told.told c.new.result c.turn.new.self are new turns c.in_ok-put.ensures.ok c.in_ok-put.ensures.live refl
    (ap (λ u. begins u d) (sym are.table) ∙ c.requires)
