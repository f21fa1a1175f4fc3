use Rattle.std.proofs.Common.{◌++◌, take, length-append, length-take-le, rules}
use Rattle.std.proofs.KnownBytes.{Consumes-trans}
use Rattle.bt_loop.proofs.looped.read_metadata.Goals as goal

pub returns-in-Err-extend_from_slice-clause-input : goal.returns-in-Err-extend_from_slice-clause-input
returns-in-Err-extend_from_slice-clause-input g c =
    let old = c.reads.metadata.items in
    let more = take c.in-Ok.count c.read.new.into in (
      old ++ more,
      Consumes-trans (g.R.Source.seen c.args.reader.now).left (g.R.Source.seen c.reads.reader).left (g.R.Source.seen c.read.new.self).left old more
          c.reads.invariant.read c.in-Ok.ensures.bytes.0,
      search (rules, length-append old more, length-take-le c.in-Ok.count c.read.new.into, c.reads.invariant.short, c.in-Ok.ensures.bytes),
    )
