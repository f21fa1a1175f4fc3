use Rattle.bt_fetch.proofs.Courses.{course_left}
use Rattle.bt_fetch.proofs.dialling.leave_slot.Goals as goal

pub returns-in-Some-clause-log : goal.returns-in-Some-clause-log
returns-in-Some-clause-log g c = λ s start dials h.
    course_left s start (g.D.Device.log c.args.device.now) (g.D.Device.log c.ended.new.self) c.in-Some.dial.address dials h c.ended.ensures.log
