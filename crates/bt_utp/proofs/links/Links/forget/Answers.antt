use Rattle.std.proofs.Common.{ap, sym, ◌∙◌, refl}
use Rattle.bt_utp.specs.Channels.{is_live}
use Rattle.bt_utp.proofs.Linking.{forgotten}
use Rattle.bt_utp.proofs.links.Links.forget.Goals as goal

pub returns-then-is_live : goal.returns-then-is_live
returns-then-is_live c t xs are =
    let k = c.args.connection.now in
    let there = ap (λ u. is_live u k) (sym are.table) ∙ sym c.is_live.ensures ∙ c.if-is_live.true in
    forgotten t xs c.args.self.now _ k are there c.remove.ensures.gone c.remove.ensures.live refl
