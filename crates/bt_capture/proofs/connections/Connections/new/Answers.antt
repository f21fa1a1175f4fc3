use Rattle.std.proofs.Common.{rules, refl, ap}
use Rattle.bt_capture.specs.Following.{Asked}
use Rattle.bt_capture.specs.declared.ending.Form.{Form}
use Rattle.bt_capture.proofs.Steps.{follows_nothing}
use Rattle.bt_capture.proofs.connections.Connections.new.Goals as goal

pub returns-clause-follows : goal.returns-clause-follows
returns-clause-follows c start = follows_nothing start _ (c.new-3.ensures.tells start.target) c.new-3.ensures.empty refl refl (search rules)

pub returns-clause-asked : goal.returns-clause-asked
returns-clause-asked c =
    let asked : Form → Asked = λ f. record { terms = c.args.terms; form = f } in
    ap asked c.new-3.ensures.form
