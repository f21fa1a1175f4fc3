use Rattle.std.proofs.Common.{Ok, inl, sym, subst}
use Rattle.bt_capture.specs.declared.ending.Stop.{Stop}
use Rattle.bt_capture.specs.declared.ending.Ending.{Ending}
use Rattle.bt_capture.specs.Ends.{HasEndedSo, IsWhy}
use Rattle.bt_capture.specs.Runs.{AfterStop}
use Rattle.bt_capture.proofs.Seeing.{ended_so, to_end_on, why_on}
use Rattle.bt_capture.proofs.run.tell_all.Goals as goal

pub returns-in-Ok : goal.returns-in-Ok
returns-in-Ok g c o i gone =
    let r = c.read_all.new.packets in
    let old = g.R.Source.seen c.args.reader.now in
    let seen = g.R.Source.seen c.read_all.new.reader in
    let ended = ended_so c.in-Ok.end r o.source seen (to_end_on (Ok c.in-Ok.end) r o.source old seen gone c.in-Ok.ensures.all) in
    c.end_read.ensures o seen (c.in-Ok.ensures.after o i) (subst (λ (e : Ending). HasEndedSo e r o.source seen) (sym c.ending_of.ensures) ended)

pub returns-in-Err-File : goal.returns-in-Err-File
returns-in-Err-File g c o i gone =
    let r = c.read_all.new.packets in
    let run = c.read_all.new.run in
    let old = g.R.Source.seen c.args.reader.now in
    let seen = g.R.Source.seen c.read_all.new.reader in
    let P : Stop → Type 0 = λ s. AfterStop s o seen.left (g.W.Target.seen c.read_all.new.writer) run.connections.table run r in
    let Q : Stop → Type 0 = λ s. IsWhy s r o.source seen in
    c.end_read-in-Err-File.ensures o seen (subst P c.in-Err-File.field-0-is (c.in-Err-File.ensures.after o i))
    (subst Q c.in-Err-File.field-0-is (why_on c.in-Err-File.field-0 r o.source old seen gone c.in-Err-File.ensures.all))

pub returns-in-Err-Read : goal.returns-in-Err-Read
returns-in-Err-Read g c o i gone =
    let r = c.read_all.new.packets in
    let run = c.read_all.new.run in
    let old = g.R.Source.seen c.args.reader.now in
    let seen = g.R.Source.seen c.read_all.new.reader in
    let P : Stop → Type 0 = λ s. AfterStop s o seen.left (g.W.Target.seen c.read_all.new.writer) run.connections.table run r in
    let Q : Stop → Type 0 = λ s. IsWhy s r o.source seen in
    c.end_read-in-Err-Read.ensures o seen (subst P c.in-Err-Read.field-0-is (c.in-Err-Read.ensures.after o i))
    (subst Q c.in-Err-Read.field-0-is (why_on c.in-Err-Read.field-0 r o.source old seen gone c.in-Err-Read.ensures.all))

pub returns-in-Err-Fault : goal.returns-in-Err-Fault
returns-in-Err-Fault g c o i gone =
    let run = c.read_all.new.run in
    let left = (g.R.Source.seen c.read_all.new.reader).left in
    let P : Stop → Type 0 = λ s. AfterStop s o left (g.W.Target.seen c.read_all.new.writer) run.connections.table run c.read_all.new.packets in
    inl (c.read_all.new.packets, subst P c.in-Err-Fault.field-0-is (c.in-Err-Fault.ensures.after o i))
