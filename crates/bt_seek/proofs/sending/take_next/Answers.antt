use Rattle.bt_seek.specs.Mails.{mail_of}
use Rattle.bt_seek.specs.Tables.{course_of}
use Rattle.bt_seek.proofs.Runs.{taken_step, told_step}
use Rattle.bt_seek.proofs.sending.take_next.Goals as goal

pub returns : goal.returns
returns g c = λ names.
    let mail = mail_of c.in-Some.came c.receive.new.buffer in
    told_step (g.P.Post.log c.args.post.now) (g.P.Post.log c.receive.new.self) names (course_of c.args.search.now.table)
    (course_of c.take.new.self.table) mail c.in-Some.ensures.log
    (taken_step names mail (course_of c.args.search.now.table) (course_of c.take.new.self.table) c.in_ok-take.ensures)
