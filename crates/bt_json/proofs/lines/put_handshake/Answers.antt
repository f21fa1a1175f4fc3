use Rattle.std.proofs.Common.{◌∙◌, ◌++◌, append_assoc, take}
use Rattle.std.specs.Prelude.{Some, codes, decimal}
use Rattle.hex.specs.Hex.{encode_lower}
use Rattle.bt_wire.specs.Numbers.{be64}
use Rattle.bt_json.specs.Objects.{handshake_fields, text_or_null}
use Rattle.bt_json.proofs.EscapeLaws.{ends_text_or_null}
use Rattle.bt_json.proofs.MemberLaws.{hand_line, offset_line}
use Rattle.bt_json.proofs.lines.put_handshake.Goals as goal

pub returns-clause-text : goal.returns-clause-text
returns-clause-text c =
    let h = c.args.handshake.now in
    let old = take c.args.place c.args.text.now in
    rw c.put_word.ensures.text (rw c.put_digits-place-3.ensures.text (rw c.put_word-place-4.ensures.text
    (rw c.put_digits-place-2.ensures.text (rw c.put_word-place-3.ensures.text (rw c.put_digits-place.ensures.text (rw c.put_word-place-2.ensures.text
    (rw c.to_be_bytes.ensures (rw c.put_number-place.ensures.text (rw c.put_word-place.ensures.text
    (rw (append_assoc old (codes "{\"offset\":") (decimal c.args.at))
    (hand_line (old ++ (codes "{\"offset\":" ++ decimal c.args.at)) (encode_lower (be64 h.reserved.0)) (encode_lower h.info_hash) (encode_lower h.peer_id)
    (text_or_null (Some h.peer_id)) (ends_text_or_null (Some h.peer_id)) ∙ offset_line old c.args.at (handshake_fields h))))))))))))
