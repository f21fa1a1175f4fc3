use Rattle.std.proofs.Common.{◌∙◌, refl, sym}
use Rattle.bt_fetch.specs.Logs.{Going, Won}
use Rattle.bt_fetch.specs.Swarms.{stage_by}
use Rattle.bt_fetch.specs.declared.device.Ending.TheVariants.{By, Left}
use Rattle.bt_fetch.proofs.Courses.{course_told, fetched_wins, other_goes_on}
use Rattle.bt_fetch.proofs.fetching.tend.Goals as goal

pub returns-then-is_fetched-clause-log : goal.returns-then-is_fetched-clause-log
returns-then-is_fetched-clause-log g c = λ start dials h.
    course_told Won Won start (g.D.Device.log c.args.device.now) (g.D.Device.log c.tell.new.device) (g.D.Device.log c.ended.new.self)
    c.go_on-pace.new.self.address (By c.in-Ok-Ended.outcome) dials c.tell.ensures.log
    (fetched_wins c.go_on-pace.new.self.address c.in-Ok-Ended.outcome (sym c.is_fetched.ensures ∙ c.if-is_fetched.true)) refl h c.ended.ensures.log

pub returns-else-is_fetched-clause-log : goal.returns-else-is_fetched-clause-log
returns-else-is_fetched-clause-log g c = λ start dials h.
    course_told Going (stage_by c.free-in-Ok-Ended.result) start (g.D.Device.log c.args.device.now) (g.D.Device.log c.tell.new.device)
    (g.D.Device.log c.free-in-Ok-Ended.new.device) c.go_on-pace.new.self.address (By c.in-Ok-Ended.outcome) dials c.tell.ensures.log
    (other_goes_on c.go_on-pace.new.self.address c.in-Ok-Ended.outcome (sym c.is_fetched.ensures ∙ c.if-is_fetched.false)) c.free-in-Ok-Ended.ensures.unwon h c.free-in-Ok-Ended.ensures.told

pub returns-in-Ok-GoesOn-clause-log : goal.returns-in-Ok-GoesOn-clause-log
returns-in-Ok-GoesOn-clause-log g c = λ start dials h.
    course_told Going (stage_by c.free.result) start (g.D.Device.log c.args.device.now) (g.D.Device.log c.tell.new.device)
    (g.D.Device.log c.free.new.device) c.go_on-pace.new.self.address Left dials c.tell.ensures.log refl
    c.free.ensures.unwon h c.free.ensures.told

pub returns-in-Ok-Waits-clause-log : goal.returns-in-Ok-Waits-clause-log
returns-in-Ok-Waits-clause-log g c = λ start dials h.
    course_told Going (stage_by c.free-in-Ok-Waits.result) start (g.D.Device.log c.args.device.now) (g.D.Device.log c.tell.new.device)
    (g.D.Device.log c.free-in-Ok-Waits.new.device) c.go_on-pace.new.self.address Left dials c.tell.ensures.log refl
    c.free-in-Ok-Waits.ensures.unwon h c.free-in-Ok-Waits.ensures.told

pub returns-in-Err-clause-log : goal.returns-in-Err-clause-log
returns-in-Err-clause-log g c = λ start dials h.
    course_told Going Going start (g.D.Device.log c.args.device.now) (g.D.Device.log c.tell.new.device)
    (g.D.Device.log c.ended-in-Err.new.self) c.go_on-pace.new.self.address Left dials c.tell.ensures.log refl refl h c.ended-in-Err.ensures.log
