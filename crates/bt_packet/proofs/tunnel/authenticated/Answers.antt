use Rattle.std.proofs.Common.{◌∙◌, ap, option_map}
use Rattle.bt_packet.specs.Ip.{contents}
use Rattle.bt_packet.proofs.Tunnels.{authenticated_none, authenticated_whole}
use Rattle.bt_packet.proofs.tunnel.authenticated.Goals as goal

pub returns-in_err-payload : goal.returns-in_err-payload
returns-in_err-payload c =
    ap (option_map contents) c.from_residual.ensures
    ∙ authenticated_none (contents c.args.carried.now) c.args.carried.now.payload.now c.from.result c.in-len2-up.len_at_least c.from.ensures
    c.in_err-payload.ensures

pub returns : goal.returns
returns c =
    authenticated_whole (contents c.args.carried.now) c.args.carried.now.payload.now c.in_ok-payload.payload.now c.from.result c.from-2.result
    c.saturating_sub.result c.in-len2-up.len_at_least c.from.ensures c.from-2.ensures c.in_ok-payload.ensures c.saturating_sub.ensures
