use Rattle.std.proofs.Common.{sym}
use Rattle.bt_wire.proofs.HandLaws.{hand_parts}
use Rattle.bt_wire.proofs.handshake.read_opening.Goals as goal

pub returns : goal.returns
returns c = (
  sym c.in_default.ensures,
  hand_parts c.args.own.now c.args.bytes.now c.fields_in.result (sym c.in_default.ensures) c.if-bytes-lt68.false c.fields_in.ensures.small
      c.fields_in.ensures.reserved c.fields_in.ensures.info_hash c.fields_in.ensures.peer_id,
)
