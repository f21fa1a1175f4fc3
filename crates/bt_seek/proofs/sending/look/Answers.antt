use Rattle.bt_seek.specs.Mails.{Clock}
use Rattle.bt_seek.specs.Tables.{course_of}
use Rattle.bt_seek.proofs.Runs.{told_step}
use Rattle.bt_seek.proofs.sending.look.Goals as goal

pub returns : goal.returns
returns g c = λ names.
    told_step (g.P.Post.log c.args.post.now) (g.P.Post.log c.time-now.new.self) names (course_of c.args.search.now.table)
    (course_of c.tick.new.self) (Clock c.time-now.result) c.time-now.ensures c.tick.ensures
