use Rattle.std.proofs.Common.{sym, subst}
use Rattle.bt_wire.specs.Messages.{Message}
use Rattle.bt_wire.specs.Parts.{IsJudged}
use Rattle.bt_wire.proofs.encoding.judge_extended.Goals as goal

pub returns-in-Extended : goal.returns-in-Extended
returns-in-Extended c =
    let P : Message → Type 0 = λ m. IsJudged c.args.context.now m c.judge_ext.result in
    subst P (sym c.in-Extended.is) c.judge_ext.ensures
