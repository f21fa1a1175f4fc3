use Rattle.std.proofs.Common.{◌+◌, ◌<◌, ℕ, ap, sym, refl, subst, if◌then◌else◌}
use Rattle.bt_packet.specs.Utp.{utp_packet}
use Rattle.bt_utp.specs.Flows.{firsts, kept, same_ends}
use Rattle.bt_utp.proofs.Taking.{within, goes_on_at, stays}
use Rattle.bt_utp.proofs.flows.UtpFlows.go_on.Goals as goal

pub returns-in_default-clause-ok : goal.returns-in_default-clause-ok
returns-in_default-clause-ok c ds are there =
    let h = within ds (firsts same_ends (kept ds)) c.args.self.now.flows.items c.args.place there.0 are.flows there.1 in
    let P : ℕ → Type 0 = λ n. c.args.place < n in
    let e = c.in_default.ensures.variant.1 (subst P (sym c.args.self.now.flows.ok.0) h) in
    cc

pub returns-in-Ok-true-clause-ok : goal.returns-in-Ok-true-clause-ok
returns-in-Ok-true-clause-ok c ds are there =
    let n = c.args.self.now.ids in
    goes_on_at ds (utp_packet c.args.datagram.now) c.args.place c.args.self.now _ c.in-Some.flow.now c.take.new.self c.in-Ok-true.field-0 are there
    c.in-Some.ensures.item.3.0 c.in-Some.ensures.item.3.1 c.in-Ok-true.ensures.ok refl refl (ap (λ t. if t then n + 1 else n) (sym c.in-Ok-true.field-0-test))

pub returns-in-Ok-false-clause-ok : goal.returns-in-Ok-false-clause-ok
returns-in-Ok-false-clause-ok c ds are there =
    let n = c.args.self.now.ids in
    goes_on_at ds (utp_packet c.args.datagram.now) c.args.place c.args.self.now _ c.in-Some.flow.now c.take.new.self c.in-Ok-false.field-0 are there
    c.in-Some.ensures.item.3.0 c.in-Some.ensures.item.3.1 c.in-Ok-false.ensures.ok refl refl (ap (λ t. if t then n + 1 else n) (sym c.in-Ok-false.field-0-test))

pub returns-in-Err-clause-err : goal.returns-in-Err-clause-err
returns-in-Err-clause-err c ds are =
    stays ds c.args.place c.args.self.now _ c.in-Some.flow.now c.take.new.self are c.in-Some.ensures.item.3.0 c.in-Some.ensures.item.3.1
    c.in-Err.ensures.err c.in-Err.ensures.same refl refl refl
