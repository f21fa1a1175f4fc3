use Rattle.std.proofs.Common.{◌++◌, [], Bool, refl, sym, subst}
use Rattle.bt_remarks.specs.declared.events.Side.TheVariants.{B}
use Rattle.bt_talk.specs.declared.rows.Heading.{Heading}
use Rattle.bt_talk.specs.Inside.{AreEndRowsBy, AreLastRows}
use Rattle.bt_talk.proofs.Shown.{appends_more, appends_none, rows_before}
use Rattle.bt_talk.proofs.talk.Talk.show_gaps.Goals as goal

pub returns-then-not-is_torrent-clause-ends : goal.returns-then-not-is_torrent-clause-ends
returns-then-not-is_torrent-clause-ends c =
    let r = c.args.room.now.rows in (
      [],
      appends_none r,
      λ a b t. (
        c.is_torrent.result,
        c.is_torrent.ensures a b t,
        subst (λ (x : Bool). AreEndRowsBy x r.heading a b c.args.self.now []) (sym c.if-not-is_torrent.true) refl,
      ),
    )

pub returns-clause-ends : goal.returns-clause-ends
returns-clause-ends c =
    let self = c.args.self.now in
    let r = c.args.room.now.rows in
    let x = c.in_ok-show_last.ensures.last in
    let y = c.in_ok-show_last-2.ensures.last in (
      x.0 ++ y.0,
      appends_more x.0 y.0 r c.show_last.new.room.rows c.show_last-2.new.room.rows x.1 y.1,
      λ a b t.
          let last = subst (λ (h : Heading). AreLastRows h B a b self y.0) x.1.heading (y.2 a b t) in (
            c.is_torrent.result,
            c.is_torrent.ensures a b t,
            subst (λ (o : Bool). AreEndRowsBy o r.heading a b self (x.0 ++ y.0)) (sym c.if-not-is_torrent.false) (x.0, y.0, x.2 a b t, last, refl),
          ),
    )

pub returns-in_err-show_last-2-clause-err : goal.returns-in_err-show_last-2-clause-err
returns-in_err-show_last-2-clause-err c =
    let x = c.in_ok-show_last.ensures.last in
    let y = c.in_err-show_last-2.ensures.err in
    rows_before c.from_residual-in_err-show_last-2.result (x.0 ++ y.0) c.args.room.now.rows c.show_last-2.new.room.rows
    (appends_more x.0 y.0 c.args.room.now.rows c.show_last.new.room.rows c.show_last-2.new.room.rows x.1 y.1)
