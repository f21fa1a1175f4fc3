use Rattle.std.proofs.Common.{ℕ, List, drop, ap, ◌∙◌}
use Rattle.std.proofs.lemmas.List.{drop-drop}
use Rattle.bt_address.specs.Compact.{size_of}
use Rattle.bt_dht.proofs.node.split_node.Goals as goal

pub returns-clause-rest : goal.returns-clause-rest
returns-clause-rest c =
    c.in_ok-address.ensures.rest ∙ ap (λ (x : List ℕ). drop (size_of c.args.family) x) c.in_ok-id.ensures.cases.1
    ∙ drop-drop (size_of c.args.family) 20 c.args.infos.now
