use Rattle.std.proofs.Common.{sym, ◌∙◌, eq-eqb}
use Rattle.bt_packet.proofs.DataFrames.{sequenced_whole}
use Rattle.bt_packet.proofs.wireless.sequenced.Goals as goal

pub returns-in_ok-rest : goal.returns-in_ok-rest
returns-in_ok-rest c =
    c.snap.ensures
    ∙ sym (sequenced_whole c.args.fields c.args.bytes.now c.in_ok-rest.rest.now c.in-len2-up.len_at_least (eq-eqb _ 0 c.if-number-eq0.true) c.in_ok-rest.ensures)
