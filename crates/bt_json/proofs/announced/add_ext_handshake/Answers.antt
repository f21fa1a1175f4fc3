use Rattle.std.proofs.Common.{◌∙◌, arith}
use Rattle.bt_json.proofs.MemberLaws.{kept_front}
use Rattle.bt_json.proofs.announced.add_ext_handshake.Goals as goal

pub returns-clause-kept : goal.returns-clause-kept
returns-clause-kept c =
    let size = c.put_front-end.ensures.size ∙ c.as_mut_slice.ensures.len in
    let room = c.put_front-end.ensures.room in
    let free = c.requires in
    let same = c.as_mut_slice.ensures.value in
    rw (← same) (kept_front c.args.place c.put_front-end.result _ c.put_front-end.new.text _ _ _ _ _ room.0 (omega (arith, size, room.1, free))
    (omega (arith, c.as_mut_slice.ensures.len, free)) size c.put_front-end.ensures.text c.add_last.ensures.kept)
