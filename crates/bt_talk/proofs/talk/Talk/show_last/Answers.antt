use Rattle.std.proofs.Common.{◌++◌, [], unwrap_or, ap}
use Rattle.bt_talk.specs.declared.rows.Heading.{Heading}
use Rattle.bt_talk.specs.Courses.{end_of, gap_rows}
use Rattle.bt_talk.specs.Inside.{inside_rows}
use Rattle.bt_talk.proofs.Shown.{appends_more, rows_before}
use Rattle.bt_talk.proofs.talk.Talk.show_last.Goals as goal

pub returns-clause-last : goal.returns-clause-last
returns-clause-last c =
    let end = end_of c.args.side c.args.self.now.courses in
    let x = c.in_ok-show_inside.ensures.inside in
    let y = c.in_ok-show_gap.ensures.gap in
    let r = c.args.room.now.rows in
    let m = c.show_inside.new.room.rows in
    let xs = inside_rows r.heading end c.args.side x.refusal in
    let ys = gap_rows m.heading end c.args.side (unwrap_or y.start 0) y.gaps.first in (
      xs ++ ys,
      appends_more xs ys r m c.show_gap.new.room.rows x.appends y.appends,
      λ a b t. record {
        refusal = x.refusal;
        inside = x.is a b t;
        gaps = y.gaps;
        gaps_are = (y.are a b t).0;
        start = y.start;
        start_is = (y.are a b t).1;
        is = ap (λ (h : Heading). xs ++ gap_rows h end c.args.side (unwrap_or y.start 0) y.gaps.first) x.appends.heading;
      },
    )

pub returns-in_err-show_inside-clause-err : goal.returns-in_err-show_inside-clause-err
returns-in_err-show_inside-clause-err c =
    rows_before c.from_residual.result [] c.args.room.now.rows c.show_inside.new.room.rows c.in_err-show_inside.ensures.err

pub returns-in_err-show_gap-clause-err : goal.returns-in_err-show_gap-clause-err
returns-in_err-show_gap-clause-err c =
    let end = end_of c.args.side c.args.self.now.courses in
    let x = c.in_ok-show_inside.ensures.inside in
    let r = c.args.room.now.rows in
    let m = c.show_inside.new.room.rows in
    let xs = inside_rows r.heading end c.args.side x.refusal in
    rows_before c.from_residual-in_err-show_gap.result (xs ++ []) r c.show_gap.new.room.rows
    (appends_more xs [] r m c.show_gap.new.room.rows x.appends c.in_err-show_gap.ensures.err)
