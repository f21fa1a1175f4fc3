use Rattle.std.proofs.Common.{◌≡◌}
use Rattle.std.proofs.lemmas.Result.{IfOk-weaker}
use Rattle.bt_seek.specs.Courses.{with_sent}
use Rattle.bt_seek.specs.Mails.{Sent}
use Rattle.bt_seek.specs.Names.{names_of}
use Rattle.bt_seek.specs.Runs.{IsTold}
use Rattle.bt_seek.specs.Tables.{course_of}
use Rattle.bt_seek.proofs.Runs.{told_step}
use Rattle.bt_seek.proofs.sending.put.Goals as goal

pub returns : goal.returns
returns g c =
    IfOk-weaker c.sent.result (λ _. course_of c.sent.new.self ≡ with_sent c.args.to c.args.question (course_of c.args.table.now))
    (λ _. IsTold (g.P.Post.log c.args.post.now) (names_of c.args.named.now) (course_of c.args.table.now) → IsTold (g.P.Post.log c.send.new.self) (names_of c.args.named.now) (course_of c.sent.new.self))
    (λ _ e. told_step (g.P.Post.log c.args.post.now) (g.P.Post.log c.send.new.self) (names_of c.args.named.now) (course_of c.args.table.now)
    (course_of c.sent.new.self)
    (Sent c.args.to c.args.question c.args.datagram.now) c.send.ensures (c.requires.asks, c.requires.few, e)) c.sent.ensures
