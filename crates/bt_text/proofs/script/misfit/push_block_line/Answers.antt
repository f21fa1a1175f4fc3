use Rattle.std.proofs.Common.{append_assoc}
use Rattle.bt_text.proofs.script.misfit.push_block_line.Goals as goal

pub returns : goal.returns
returns c =
    rw c.in_ok-extend_from_slice-5.ensures.items (rw c.in_ok-extend_from_slice-4.ensures.items (rw c.block_size.ensures
    (rw c.in_ok-extend_from_slice-3.ensures.items (rw c.in_ok-extend_from_slice-2.ensures.items
    (rw c.in_ok-extend_from_slice.ensures.items (rw c.in_ok-push_numbered.ensures (simp append_assoc)))))))
