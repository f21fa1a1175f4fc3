use Rattle.std.proofs.Common.{◌++◌, take}
use Rattle.std.proofs.KnownBytes.{Consumes-trans}
use Rattle.bt_link.proofs.run.read_input.Goals as goal

pub returns-in-Err-extend_from_slice : goal.returns-in-Err-extend_from_slice
returns-in-Err-extend_from_slice g c =
    let old = c.reads.text.items in
    let more = take c.in-Ok.count c.read.new.into in (
      old ++ more,
      Consumes-trans (g.R.Source.seen c.args.reader.now).left (g.R.Source.seen c.reads.reader).left (g.R.Source.seen c.read.new.self).left old more
          c.reads.invariant.read c.in-Ok.ensures.bytes.0,
    )
