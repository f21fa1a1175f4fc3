-- What is known is what the log tells, if it was before.
use Rattle.bt_seek.specs.Names.{names_of}
use Rattle.bt_seek.specs.Runs.{IsTold}
use Rattle.bt_seek.specs.Tables.{course_of}
use Rattle.bt_seek.proofs.sending.send_stops.Given as goal

abbrev pub invariant-loop-tracker : goal.invariant-loop-tracker
invariant-loop-tracker g l =
    IsTold (g.P.Post.log l.fn.post) (names_of l.fn.named) (course_of l.fn.search.table)
    → IsTold (g.P.Post.log l.post) (names_of l.fn.named) (course_of l.search.table)
