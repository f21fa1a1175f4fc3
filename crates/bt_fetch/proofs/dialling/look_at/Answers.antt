use Rattle.std.proofs.Common.{refl}
use Rattle.bt_fetch.specs.Logs.{Going}
use Rattle.bt_fetch.specs.declared.device.Ending.TheVariants.{By}
use Rattle.bt_fetch.specs.declared.device.Outcome.TheVariants.{Unreachable}
use Rattle.bt_fetch.proofs.Courses.{course_ended, course_left}
use Rattle.bt_fetch.proofs.dialling.look_at.Goals as goal

pub returns-in-Late-clause-log : goal.returns-in-Late-clause-log
returns-in-Late-clause-log g c = λ start dials h.
    course_left Going start (g.D.Device.log c.args.device.now) (g.D.Device.log c.give_up.new.device) c.fate.new.self.address dials h c.give_up.ensures.told

pub returns-in-Dead-clause-log : goal.returns-in-Dead-clause-log
returns-in-Dead-clause-log g c = λ start dials h.
    course_ended Going Going start (g.D.Device.log c.args.device.now) (g.D.Device.log c.give_up-in-Dead.new.device) c.fate.new.self.address (By Unreachable) dials
    refl h c.give_up-in-Dead.ensures.told
