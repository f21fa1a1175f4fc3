use Rattle.std.proofs.Common.{ap, option_map, refl, sym, ◌∙◌}
use Rattle.std.proofs.lemmas.Bool.{ne_eqb}
use Rattle.bt_packet.specs.Utp.{reason_pair}
use Rattle.bt_packet.proofs.Chains.{chain_none, chain_step}
use Rattle.bt_packet.proofs.utp.after_chain.Goals as goal

pub returns-in_err-bytes : goal.returns-in_err-bytes
returns-in_err-bytes c =
    ap (option_map reason_pair) c.from_residual.ensures
    ∙ chain_none c.loop-kind.reason c.loop-kind.kind c.from.result c.loop-kind.bytes.now _ (ne_eqb c.loop-kind.kind 0 c.loop-kind-test.true)
    c.in-len2-up.len_at_least c.from.ensures refl c.in_err-bytes.ensures
    ∙ sym c.loop-kind.invariant

pub loop-kind-preserved : goal.loop-kind-preserved
loop-kind-preserved c =
    c.loop-kind.invariant
    ∙ chain_step c.loop-kind.reason c.later-reason.result c.loop-kind.kind _ c.from.result c.from-in-loop-kind.result c.loop-kind.bytes.now _
    c.in_ok-bytes.bytes.now c.front.result.now
    (ne_eqb c.loop-kind.kind 0 c.loop-kind-test.true) c.in-len2-up.len_at_least refl c.from.ensures c.from-in-loop-kind.ensures refl c.in_ok-bytes.ensures
    c.front.ensures c.later-reason.ensures
