use Rattle.std.proofs.Common.{◌≡◌, ◌∙◌, ℕ, List, Ok, Err, ap, sym, subst, arith}
use Rattle.bt_io.specs.Counts.{counted, is_end}
use Rattle.bt_capture.specs.Following.{During}
use Rattle.bt_capture.specs.Readings.{Waits}
use Rattle.bt_capture.specs.Reads.{has_failed}
use Rattle.bt_capture.specs.Runs.{IsTelling}
use Rattle.bt_capture.specs.Tables.{Held}
use Rattle.bt_capture.specs.declared.fault.ReadFault.{ReadFault}
use Rattle.bt_capture.specs.declared.pair.Pair.{Pair}
use Rattle.bt_capture.proofs.Outcomes.{advances_bytes, read_bytes, read_kept, told_read, partly, waits_on}
use Rattle.bt_capture.proofs.run.read_more.Goals as goal

pub returns-in-Ok-read-clause-after : goal.returns-in-Ok-read-clause-after
returns-in-Ok-read-clause-after g c o i =
    let before = (g.R.Source.seen c.args.reader.now).left in
    let left = (g.R.Source.seen c.read.new.reader).left in
    let now = g.W.Target.seen c.write.new.writer in
    let run = c.write.new.run in
    let r = c.args.packets.now in
    let P : List (Pair × Held) → Type 0 = λ l. IsTelling o before now l run r in
    let e = c.in-Ok-read.ensures.read in
    told_read o before left now run.connections.table run r c.read.new.self (λ packets h. read_bytes o before left packets r c.read.new.self e.0 e.3 e.4 h)
    (subst P (sym c.write.ensures.table) (c.in-Ok.ensures.after During o before c.args.run.now.connections.table r i))

pub returns-in-Ok-eq0-clause-after : goal.returns-in-Ok-eq0-clause-after
returns-in-Ok-eq0-clause-after g c o i =
    let before = (g.R.Source.seen c.args.reader.now).left in
    let left = (g.R.Source.seen c.read.new.reader).left in
    let now = g.W.Target.seen c.write.new.writer in
    let run = c.write.new.run in
    let r = c.args.packets.now in
    let P : List (Pair × Held) → Type 0 = λ l. IsTelling o before now l run r in
    let e = c.in-Ok-eq0.ensures.read in
    told_read o before left now run.connections.table run r c.read.new.self (λ packets h. read_bytes o before left packets r c.read.new.self e.0 e.3 e.4 h)
    (subst P (sym c.write.ensures.table) (c.in-Ok.ensures.after During o before c.args.run.now.connections.table r i))

pub returns-in-Err-Memory-clause-after : goal.returns-in-Err-Memory-clause-after
returns-in-Err-Memory-clause-after g c o i =
    let before = (g.R.Source.seen c.args.reader.now).left in
    let left = (g.R.Source.seen c.read.new.reader).left in
    let now = g.W.Target.seen c.write.new.writer in
    let run = c.write.new.run in
    let r = c.args.packets.now in
    let e = c.in-Err-Memory.ensures.err in
    partly o left now c.args.run.now.connections.table run c.read.new.self (told_read o before left now c.args.run.now.connections.table run r c.read.new.self
    (λ packets h. read_kept o before left packets r c.read.new.self e.0 e.1 h) (c.in-Ok.ensures.after During o before c.args.run.now.connections.table r i))

pub returns-in-Ok-eq0-clause-more : goal.returns-in-Ok-eq0-clause-more
returns-in-Ok-eq0-clause-more g c w =
    let before = g.R.Source.seen c.args.reader.now in
    let seen = g.R.Source.seen c.read.new.reader in
    let e = c.in-Ok-eq0.ensures.read in
    let P : ℕ → Type 0 = λ n. seen.ends ≡ counted (is_end {E = ReadFault} (Ok n) 1) before.ends in (
      waits_on c.args.packets.now c.read.new.self e.0 (e.1 ∙ c.in-Ok-eq0.field-0-test) e.2 w,
      record {
        ends = subst P c.in-Ok-eq0.field-0-test c.in-Ok-eq0.ensures.ends;
        failed = c.in-Ok-eq0.ensures.failed;
        none_left = c.in-Ok-eq0.ensures.none_left (ap (λ (n : ℕ). Ok n) c.in-Ok-eq0.field-0-test);
      },
    )

pub returns-in-Err-Failed-clause-more : goal.returns-in-Err-Failed-clause-more
returns-in-Err-Failed-clause-more g c w =
    let before = g.R.Source.seen c.args.reader.now in
    let seen = g.R.Source.seen c.read.new.reader in
    let P : ReadFault → Type 0 = λ f. seen.failed ≡ counted (has_failed (Err f)) before.failed in (
      subst (λ r. Waits r) (sym c.in-Err-Failed.ensures.err.0) w,
      (c.in-Err-Failed.ensures.ends, subst P c.in-Err-Failed.field-0-is c.in-Err-Failed.ensures.failed),
    )

pub returns-in-Err-clause-after : goal.returns-in-Err-clause-after
returns-in-Err-clause-after g c o i =
    c.in-Err.ensures.after During o (g.R.Source.seen c.args.reader.now).left c.args.run.now.connections.table c.args.packets.now i

pub returns-in-Ok-read-clause-advances : goal.returns-in-Ok-read-clause-advances
returns-in-Ok-read-clause-advances g c e =
    let r = c.in-Ok-read.ensures.read in
    advances_bytes c.args.packets.now c.read.new.self r.0 (omega (arith, r.1, c.in-Ok-read.field-0-test)) r.3
