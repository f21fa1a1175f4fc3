-- What is known is what the log tells, if it was before.
use Rattle.std.proofs.Common.{◌≡◌}
use Rattle.bt_seek.specs.Names.{names_of}
use Rattle.bt_seek.specs.Runs.{IsTold}
use Rattle.bt_seek.specs.Tables.{course_of}
use Rattle.bt_seek.proofs.sending.stop_pages.Given as goal

abbrev pub invariant-loop-page : goal.invariant-loop-page
invariant-loop-page g l =
    IsTold (g.P.Post.log l.fn.post) (names_of l.fn.named) (course_of l.fn.search.table)
    → IsTold (g.P.Post.log l.post) (names_of l.fn.named) (course_of l.fn.search.table)
