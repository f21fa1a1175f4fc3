use Rattle.std.proofs.Common.{sym, subst}
use Rattle.std.proofs.lemmas.Result.{err_from_is_err_and}
use Rattle.std.specs.declared.alloc.AllocError.{AllocError}
use Rattle.bt_packet.specs.Utp.{utp_packet}
use Rattle.bt_utp.specs.Entries.{room_in}
use Rattle.bt_utp.specs.Turnings.{AreLinked, IsToldOr}
use Rattle.bt_capture.specs.Arrivals.{with_packet}
use Rattle.bt_capture.specs.declared.run.Run.{Run}
use Rattle.bt_capture.specs.Following.{Follows, since}
use Rattle.bt_capture.specs.Runs.{TakesSeen}
use Rattle.bt_capture.specs.Sights.{SawUtp}
use Rattle.bt_capture.proofs.Arriving.{saw_failed, saw_none, saw_turned}
use Rattle.bt_capture.proofs.run.Run.take_utp.Goals as goal

pub returns-in-Some-clause-goes : goal.returns-in-Some-clause-goes
returns-in-Some-clause-goes c start now clock t xs came new packet within linked i =
    let d = utp_packet c.args.datagram.now in
    let w = c.args.when in
    let from = since start c.args.from in
    let F : Run → Type 0 = λ r. AreLinked t xs r.links × Follows from now clock came r.connections.table r.connections in
    let was = subst F (sym c.skip.ensures) (linked, i) in
    let all = c.take_turned.new.self.connections in
    let run : Run = record c.skip.new.self { utp = c.take.new.self; links = c.take-2.new.self; connections = all } in
    let room = room_in c.skip.new.self.links.entries in
    let P : Run → Type 0 = λ r. TakesSeen from now (with_packet w clock) t xs came (SawUtp d) w r c.take_turned.result in
    subst P (sym c.take_turned.ensures.rest)
    (saw_turned from now (with_packet w clock) t xs came d w room c.in-Some.told run c.take_turned.result
    (subst (λ o. IsToldOr t xs d room o run.links) c.in-Some.is (c.in_ok-turned.ensures.ok t xs was.0))
    (c.take_turned.ensures.goes start now clock came new packet within was.1))

pub returns-in-None-clause-goes : goal.returns-in-None-clause-goes
returns-in-None-clause-goes c start now clock t xs came new packet within linked i =
    let d = utp_packet c.args.datagram.now in
    let w = c.args.when in
    let from = since start c.args.from in
    let F : Run → Type 0 = λ r. AreLinked t xs r.links × Follows from now clock came r.connections.table r.connections in
    let was = subst F (sym c.skip.ensures) (linked, i) in
    let run : Run = record c.skip.new.self { utp = c.take.new.self; links = c.take-2.new.self } in
    let room = room_in c.skip.new.self.links.entries in
    saw_none AllocError from now clock t xs came d w run
    (subst (λ o. IsToldOr t xs d room o run.links) c.in-None.is (c.in_ok-turned.ensures.ok t xs was.0)) was.1

pub returns-in_err-turned-clause-goes : goal.returns-in_err-turned-clause-goes
returns-in_err-turned-clause-goes c start now clock t xs came new packet within linked i =
    let from = since start c.args.from in
    let F : Run → Type 0 = λ r. AreLinked t xs r.links × Follows from now clock came r.connections.table r.connections in
    let was = subst F (sym c.skip.ensures) (linked, i) in
    let run : Run = record c.skip.new.self { utp = c.take.new.self; links = c.take-2.new.self } in
    let stop = err_from_is_err_and c.from_residual-in_err-turned.result c.from_residual-in_err-turned.ensures.1 in
    rw stop.1 (saw_failed {E = AllocError} from now clock t xs came (SawUtp (utp_packet c.args.datagram.now)) c.args.when run _ was.1)

pub returns-in_err-take-clause-goes : goal.returns-in_err-take-clause-goes
returns-in_err-take-clause-goes c start now clock t xs came new packet within linked i =
    let from = since start c.args.from in
    let F : Run → Type 0 = λ r. AreLinked t xs r.links × Follows from now clock came r.connections.table r.connections in
    let was = subst F (sym c.skip.ensures) (linked, i) in
    let run : Run = record c.skip.new.self { utp = c.take.new.self } in
    let stop = err_from_is_err_and c.from_residual.result c.from_residual.ensures.1 in
    rw stop.1 (saw_failed {E = AllocError} from now clock t xs came (SawUtp (utp_packet c.args.datagram.now)) c.args.when run _ was.1)
