use Rattle.std.proofs.Common.{sym, ◌∙◌}
use Rattle.bt_capture.proofs.Pairing.{pair_both, pair_then, pair_else}
use Rattle.bt_capture.proofs.pair.Pair.of.Goals as goal

pub returns-then-comes_first-clause-key : goal.returns-then-comes_first-clause-key
returns-then-comes_first-clause-key c = pair_then c.args.a c.args.b (sym c.comes_first.ensures ∙ c.if-comes_first.true)

pub returns-then-comes_first-clause-both : goal.returns-then-comes_first-clause-both
returns-then-comes_first-clause-both c = pair_then c.args.a c.args.b (sym c.comes_first.ensures ∙ c.if-comes_first.true) ∙ pair_both c.args.a c.args.b

pub returns-else-comes_first-clause-key : goal.returns-else-comes_first-clause-key
returns-else-comes_first-clause-key c = pair_else c.args.a c.args.b (sym c.comes_first.ensures ∙ c.if-comes_first.false)

pub returns-else-comes_first-clause-both : goal.returns-else-comes_first-clause-both
returns-else-comes_first-clause-both c = pair_else c.args.a c.args.b (sym c.comes_first.ensures ∙ c.if-comes_first.false) ∙ pair_both c.args.a c.args.b
