use Rattle.std.proofs.Common.{◌≡◌, ◌≤◌, ◌+◌, ◌-◌, ℕ, length, take, drop, ap, sym, ◌∙◌, arith}
use Rattle.std.proofs.lemmas.List.{length-take-le, length-drop}
use Rattle.bt_feed.proofs.buffer.copy_few.Goals as goal

pub copy_from_slice-requires : goal.copy_from_slice-requires
copy_from_slice-requires c =
    let at = c.args.at in
    let from = drop at c.args.into.now in
    let span : at + 32 - at ≡ 32 = omega arith in
    let room : 32 ≤ length from = omega (arith, length-drop at c.args.into.now, c.requires.room) in
    ap (λ (n : ℕ). length (take n from)) span ∙ length-take-le 32 from room ∙ sym (length-take-le 32 c.args.chunk.now c.requires.there)
