use Rattle.std.proofs.Common.{◌≡◌, ◌+◌, List, [], ◌∷◌, ◌++◌, All, length, rules, subst, sym}
use Rattle.std.proofs.lemmas.List.Elements.{All-push}
use Rattle.std.specs.List.{flat_map}
use Rattle.bt_address.specs.Compact.{size_of}
use Rattle.bt_dht.specs.declared.node.Node.{Node}
use Rattle.bt_seek.specs.Answers.{IsNodeOf, info_of}
use Rattle.bt_seek.proofs.Reading.{id_whole, infos_more}
use Rattle.bt_seek.proofs.said.nodes_in.Goals as goal

pub loop-preserved : goal.loop-preserved
loop-preserved c =
    let id = id_whole (size_of c.args.family) c.in-Some.node.id c.loop.rest.now c.in-Some.ensures.id c.in-Some.ensures.whole in
    let told = infos_more (size_of c.args.family) c.loop.nodes.items c.in-Some.node c.loop.rest.now c.in-Some.more.now c.args.infos.now
    c.loop.invariant.0 c.in-Some.ensures.id c.in-Some.ensures.address c.in-Some.ensures.rest in
    let plain = All-push (IsNodeOf c.args.family) c.loop.nodes.items c.in-Some.node c.loop.invariant.1 (id, c.in-Some.ensures.plain) in (
      subst (λ (xs : List Node). flat_map info_of xs ++ c.in-Some.more.now ≡ c.args.infos.now) (sym c.in_ok-push.ensures.items) told,
      subst (λ (xs : List Node). All (IsNodeOf c.args.family) xs) (sym c.in_ok-push.ensures.items) plain,
      search rules,
    )
