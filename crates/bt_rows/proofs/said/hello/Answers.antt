use Rattle.std.proofs.Common.{rules}
use Rattle.bt_rows.proofs.Shown.{hand_shown}
use Rattle.bt_rows.proofs.said.hello.Goals as goal

pub returns-clause-fields : goal.returns-clause-fields
returns-clause-fields c =
    hand_shown c.args.handshake (λ i. search rules) (λ i. search rules)
