use Rattle.bt_seek.proofs.Courses.{one_course}
use Rattle.bt_seek.proofs.laws.one_course.Goals as goal

pub returns : goal.returns
returns c = one_course
