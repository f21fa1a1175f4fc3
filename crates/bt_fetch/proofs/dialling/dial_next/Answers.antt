use Rattle.bt_fetch.specs.Logs.{Going}
use Rattle.bt_fetch.specs.Queues.{dials_of}
use Rattle.bt_fetch.proofs.Courses.{course_dialled, course_same, dials_same}
use Rattle.bt_fetch.proofs.dialling.dial_next.Goals as goal

pub returns-in_err-put_back-in-None-clause-log : goal.returns-in_err-put_back-in-None-clause-log
returns-in_err-put_back-in-None-clause-log g c = λ start h.
    course_same Going start (g.D.Device.log c.dial.new.self) (dials_of c.take.new.self.next c.take.new.self.again.items)
    (dials_of c.put_back.new.self.next c.put_back.new.self.again.items)
    (course_dialled start _ _ c.in-Some.address (dials_of c.args.queue.now.next c.args.queue.now.again.items)
    (dials_of c.take.new.self.next c.take.new.self.again.items) h c.dial.ensures.log c.in-Some.ensures.dials)
    (λ k. dials_same _ _ _ _ k c.put_back.ensures.next c.put_back.ensures.again)

pub returns-in-Some-dial-clause-log : goal.returns-in-Some-dial-clause-log
returns-in-Some-dial-clause-log g c = λ start h.
    course_dialled start _ _ c.in-Some.address (dials_of c.args.queue.now.next c.args.queue.now.again.items)
    (dials_of c.take.new.self.next c.take.new.self.again.items) h c.dial.ensures.log c.in-Some.ensures.dials

pub returns-in_ok-put_back-in-None-clause-log : goal.returns-in_ok-put_back-in-None-clause-log
returns-in_ok-put_back-in-None-clause-log g c = λ start h.
    course_same Going start (g.D.Device.log c.dial.new.self) (dials_of c.take.new.self.next c.take.new.self.again.items)
    (dials_of c.put_back.new.self.next c.put_back.new.self.again.items)
    (course_dialled start _ _ c.in-Some.address (dials_of c.args.queue.now.next c.args.queue.now.again.items)
    (dials_of c.take.new.self.next c.take.new.self.again.items) h c.dial.ensures.log c.in-Some.ensures.dials)
    (λ k. dials_same _ _ _ _ k c.put_back.ensures.next c.put_back.ensures.again)
