use Rattle.std.proofs.Common.{sym, ◌∙◌}
use Rattle.bt_loop.proofs.Looping.{printed_unfetched, printed_fetched}
use Rattle.bt_loop.proofs.looped.print.Goals as goal

pub returns-in_default-clause-printed : goal.returns-in_default-clause-printed
returns-in_default-clause-printed g c =
    printed_unfetched c.args.handled c.args.right.now _ _ c.write_lines.result (sym c.in_default.ensures.value) c.write_lines.ensures.written

pub returns-in-Ok-clause-printed : goal.returns-in-Ok-clause-printed
returns-in-Ok-clause-printed g c = printed_fetched c.args.handled c.args.right.now c.in-Some.metadata.now c.as_slice.result.now _ _ c.write_lines-in-Ok.result
    (sym c.in-Some.ensures.value) (c.as_slice.ensures.value ∙ c.in-Ok.ensures) c.write_lines-in-Ok.ensures.written
