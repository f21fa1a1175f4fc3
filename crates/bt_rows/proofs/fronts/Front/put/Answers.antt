use Rattle.std.proofs.Common.{append_assoc}
use Rattle.bt_rows.proofs.FrontBytes.{digits_of}
use Rattle.bt_rows.proofs.fronts.Front.put.Goals as goal

pub returns-clause-text : goal.returns-clause-text
returns-clause-text c =
    let o = c.turn_to-low.ensures in
    rw (
      c.put_low.ensures.text,
      c.put_same-place.ensures.text,
      o.stamp,
      append_assoc,
      append_assoc,
      digits_of c.turn_to-low.new.self.base c.turn_to-low.result c.turn_to-low.new.self.whole o.low (rw o.offset c.ranges.offset.fits),
      o.offset,
    )
