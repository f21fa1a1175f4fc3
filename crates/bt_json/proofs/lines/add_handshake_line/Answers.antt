use Rattle.std.proofs.Common.{◌∙◌, arith}
use Rattle.bt_json.proofs.MemberLaws.{kept_front}
use Rattle.bt_json.proofs.lines.add_handshake_line.Goals as goal

pub returns-clause-kept : goal.returns-clause-kept
returns-clause-kept c =
    let size = c.put_handshake-end.ensures.size ∙ c.as_mut_slice.ensures.len in
    let room = c.put_handshake-end.ensures.room in
    let free = c.requires in
    let same = c.as_mut_slice.ensures.value in
    rw (← same) (kept_front c.args.place c.put_handshake-end.result _ c.put_handshake-end.new.text _ _ _ _ _ room.0 (omega (arith, size, room.1, free))
    (omega (arith, c.as_mut_slice.ensures.len, free)) size c.put_handshake-end.ensures.text c.add_last.ensures.kept)
