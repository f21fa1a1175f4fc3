use Rattle.std.proofs.Common.{◌∙◌, ◌-◌, ℕ, unwrap_or, ap}
use Rattle.bt_talk.specs.Courses.{end_of}
use Rattle.bt_talk.proofs.Shown.{gap_shown, gap_unshown}
use Rattle.bt_talk.proofs.talk.Talk.show_gap.Goals as goal

pub returns-in_default-clause-gap : goal.returns-in_default-clause-gap
returns-in_default-clause-gap c =
    let end = end_of c.args.side c.args.self.now.courses in
    record {
      gaps = c.gaps.result;
      start = c.start-start.result;
      are = λ a b t. (c.gaps.ensures a b t, c.start-start.ensures a b t);
      appends = gap_unshown c.args.room.now.rows end c.args.side (unwrap_or c.start-start.result 0) c.gaps.result.first c.in_default.is;
    }

pub returns-clause-gap : goal.returns-clause-gap
returns-clause-gap c =
    let end = end_of c.args.side c.args.self.now.courses in
    record {
      gaps = c.gaps.result;
      start = c.start-start.result;
      are = λ a b t. (c.gaps.ensures a b t, c.start-start.ensures a b t);
      appends = gap_shown c.args.room.now.rows c.show_end.new.room.rows end c.args.side (unwrap_or c.start-start.result 0) c.gaps.result.first
          c.in-Some.gap c.saturating_sub-offset.result c.in-Some.is
          (c.saturating_sub-offset.ensures ∙ ap (λ (n : ℕ). c.in-Some.gap.place - n) c.unwrap_or-start.ensures) c.in_ok-show_end.ensures.row;
    }
