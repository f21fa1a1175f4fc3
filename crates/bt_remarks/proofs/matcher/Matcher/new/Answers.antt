use Rattle.std.proofs.Common.{refl}
use Rattle.bt_remarks.specs.declared.events.Side.TheVariants.{A, B}
use Rattle.bt_remarks.proofs.matcher.Matcher.new.Goals as goal

pub returns : goal.returns
returns c = record {
  count = refl;
  a = c.new.ensures A;
  b = c.new-2.ensures B;
  tally_a = c.new-3.ensures A;
  tally_b = c.new-4.ensures B;
}
