use Rattle.std.proofs.Common.{append_assoc}
use Rattle.bt_text.proofs.script.misfit.push_misfit_line.Goals as goal

pub returns : goal.returns
returns c =
    rw c.in_ok-push.ensures.items (rw c.in_ok-extend_from_slice-2.ensures.items (rw c.expected_words.ensures
    (rw c.in_ok-extend_from_slice.ensures.items (rw c.in_ok-push_numbered-2.ensures (rw c.in_ok-push_numbered.ensures (simp append_assoc))))))
