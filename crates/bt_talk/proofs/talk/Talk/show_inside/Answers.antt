use Rattle.bt_talk.specs.Courses.{end_of}
use Rattle.bt_talk.proofs.Shown.{inside_shown, inside_unshown}
use Rattle.bt_talk.proofs.talk.Talk.show_inside.Goals as goal

pub returns-in_default-clause-inside : goal.returns-in_default-clause-inside
returns-in_default-clause-inside c = record {
  refusal = c.end_inside.result;
  is = c.end_inside.ensures;
  appends = inside_unshown c.args.room.now.rows (end_of c.args.side c.args.self.now.courses) c.args.side c.end_inside.result c.in_default.is;
}

pub returns-clause-inside : goal.returns-clause-inside
returns-clause-inside c = record {
  refusal = c.end_inside.result;
  is = c.end_inside.ensures;
  appends = inside_shown c.args.room.now.rows c.show_end.new.room.rows (end_of c.args.side c.args.self.now.courses) c.args.side c.end_inside.result
      c.in-Some.refusal c.in-Some.is c.in_ok-show_end.ensures.row;
}
