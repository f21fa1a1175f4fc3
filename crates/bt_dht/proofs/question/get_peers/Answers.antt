use Rattle.std.proofs.Common.{◌≡◌, ℕ, List, subst, rules}
use Rattle.std.specs.Prelude.{IfOk}
use Rattle.bt_dht.proofs.Questions.{encoded}
use Rattle.bt_dht.proofs.question.get_peers.Goals as goal

pub returns-clause-bytes : goal.returns-clause-bytes
returns-clause-bytes c =
    let e = encoded c.args.transaction c.args.own c.args.info_hash c.args.want (search rules) (search rules) (search rules) in
    subst (λ (b : List ℕ). IfOk c.joined.result (λ q. q.items ≡ b)) e c.joined.ensures
