use Rattle.std.proofs.Common.{◌≡◌, ◌∙◌, ℕ, ◌+◌, ◌-◌, ◌^◌, false, ◌++◌, [], min, List, length, Option, sym, ap, subst, refl}
use Rattle.bt_remarks.specs.declared.events.Side.{Side}
use Rattle.bt_remarks.specs.declared.events.Side.TheVariants.{A, B}
use Rattle.bt_remarks.specs.Said.{other}
use Rattle.bt_flow.specs.declared.flow.Flow.{Flow}
use Rattle.bt_talk.specs.declared.closing.Closing.{Closing}
use Rattle.bt_talk.specs.declared.closing.When.{When}
use Rattle.bt_talk.specs.declared.course.Courses.{Courses}
use Rattle.bt_talk.specs.declared.direction.Direction.{Direction}
use Rattle.bt_talk.specs.declared.replay.Mark.{Mark}
use Rattle.bt_talk.specs.declared.rows.Heading.{Heading}
use Rattle.bt_talk.specs.declared.room.Room.{Room}
use Rattle.bt_talk.specs.declared.sides.Sides.{Sides}
use Rattle.bt_talk.specs.declared.talk.Talk.{Talk}
use Rattle.bt_talk.specs.declared.watch.Watch.{Watch}
use Rattle.bt_packet.specs.declared.tcp.Flags.{Flags}
use Rattle.bt_talk.specs.Closing.{Closes}
use Rattle.bt_talk.specs.Cuts.{cut_after}
use Rattle.bt_talk.specs.Strays.{heeded}
use Rattle.bt_talk.specs.Courses.{closes_by}
use Rattle.bt_talk.specs.Replays.{HasOpened}
use Rattle.bt_talk.specs.Stages.{IsRefusedIn}
use Rattle.bt_talk.specs.Talks.{IsTalk, closed_after, are_in_opening, cut_in, cut_of, flow_in, flow_of, grown_after, has_closed, is_in_opening, marks_of, of_side}
use Rattle.bt_talk.specs.Shown.{AreItemRows, deed_rows}
use Rattle.bt_talk.specs.Shows.{Appends}
use Rattle.bt_talk.specs.Sent.{IsReady, is_wanted}
use Rattle.bt_talk.proofs.Closes.{closes_same}
use Rattle.bt_talk.proofs.Lent.{Alike, talk_alike, opening_alike, opened_after, after_steps}
use Rattle.bt_talk.proofs.Deeds.{deeds_same}
use Rattle.bt_talk.proofs.Saying.{says_same, stages_same}
use Rattle.bt_talk.proofs.Shown.{appends_more, appends_same}
use Rattle.bt_talk.proofs.Sent.{ready_kept, fronts_kept, sends_on, parts_of}
use Rattle.bt_talk.proofs.Marked.{by_same, closed_same, grown_same, strays_same}
use Rattle.bt_talk.proofs.Talks.{acked_same, end_same, flow_same, found, sent_same, both_same}
use Rattle.bt_talk.proofs.Watching.{watched_same}
use Rattle.bt_talk.proofs.talk.Talk.take_next.Goals as goal

pub returns-clause-taken : goal.returns-clause-taken
returns-clause-taken c = λ a b at t.
    let self = c.args.self.now in
    let s = c.args.segment.now in
    let stray = c.is_stray-stray.result in
    let flags : Flags = heeded stray s.flags in
    let flags_are : c.heeded-flags.result ≡ flags = c.heeded-flags.ensures in
    let by = c.sender-side.result in
    let given : Talk = record self { sides = c.exchange.new.self } in
    let gone = c.go_on-closed.new.self in
    let keep = c.keep_mark.new.self in
    let shown = c.show.new.self in
    let left : Talk = record shown { sides = c.cut.new.self } in
    let noted = c.note.new.self in
    let settled : Talk = record noted { sides = c.settle.new.self } in
    let y = c.in_ok-exchange.ensures.taken self.terms a b t in
    let x = y.0 in
    let al : Alike given shown = after_steps given gone keep shown c.go_on-closed.ensures.rest c.keep_mark.ensures.rest c.show.ensures.rest in
    let begun : Alike given gone = after_steps given gone gone gone c.go_on-closed.ensures.rest refl refl in
    let kept_by : Alike given keep = after_steps given gone keep keep c.go_on-closed.ensures.rest c.keep_mark.ensures.rest refl in
    let km = c.in_ok-keep_mark.ensures.marked x.a' x.b' (talk_alike x.a' x.b' given gone begun x.is) in
    let marked = talk_alike x.a' x.b' given shown al x.is in
    let cut = c.cut.ensures.kept shown.terms x.a' x.b' marked in
    let n = subst (λ (f : Flags). Closes f c.args.when by x.a' x.b' (flow_of A left) (flow_of B left) left.closing c.note.new.self.closing) flags_are
    (c.note.ensures.closes x.a' x.b' cut) in
    let noted_is = subst (λ (k : Talk). IsTalk x.a' x.b' k) (sym c.note.ensures.rest) cut in
    let sides : noted.sides ≡ left.sides = ap (λ (k : Talk). k.sides) c.note.ensures.rest in
    let se = c.in_ok-settle.ensures.settles x.a' x.b' noted_is in
    let was = ap are_in_opening sides ∙ c.cut.ensures.opening ∙ opening_alike given shown al ∙ c.in_ok-exchange.ensures.opening in
    let segments = ap (λ (k : Sides). k.segments) sides ∙ c.cut.ensures.segments ∙ al.segments ∙ c.in_ok-exchange.ensures.segments in
    let flows : (side : Side) → flow_of side left ≡ flow_of side settled =
    λ side. sym (c.in_ok-settle.ensures.flows side ∙ ap (flow_in side) sides) in
    let kept : (side : Side) → flow_of side given ≡ flow_of side left =
    λ side. sym (c.cut.ensures.flows side ∙ flow_same side given.sides shown.sides al.a al.b) in
    let cuts : (side : Side) → cut_of side shown ≡ cut_of side self =
    λ side. both_same side given.sides shown.sides al.a al.b ∙ c.in_ok-exchange.ensures.cuts side in
    let flows_kept : (side : Side) → flow_of side settled ≡ flow_of side given = λ side. sym (kept side ∙ flows side) in
    let a_stage : is_in_opening self ≡ false → settled.sides.a.stage ≡ given.sides.a.stage =
    λ o. (c.in_ok-settle.ensures.stages (was ∙ o)).0 ∙ ap (λ (k : Sides). k.a.stage) sides ∙ c.cut.ensures.stages.0
    ∙ ap (λ (d : Direction). d.stage) al.a in
    let b_stage : is_in_opening self ≡ false → settled.sides.b.stage ≡ given.sides.b.stage =
    λ o. (c.in_ok-settle.ensures.stages (was ∙ o)).1 ∙ ap (λ (k : Sides). k.b.stage) sides ∙ c.cut.ensures.stages.1
    ∙ ap (λ (d : Direction). d.stage) al.b in
    let watch : is_in_opening self ≡ false → settled.sides.watch ≡ shown.sides.watch =
    λ o. c.in_ok-settle.ensures.watch (was ∙ o) ∙ ap (λ (k : Sides). k.watch) sides ∙ c.cut.ensures.watch in
    let closed = c.go_on-closed.result in
    let closes : closed ≡ closes_by flags (has_closed by self) =
    c.go_on-closed.ensures.closes ∙ ap (λ (f : Flags). closes_by f (has_closed by self)) flags_are in
    let gone_flows : (k : Side) → flow_of k settled ≡ flow_of k gone = λ k. flows_kept k ∙ sym (flow_same k given.sides gone.sides begun.a begun.b) in
    let packet : gone.sides.watch.when ≡ c.args.when =
    ap (λ (k : Talk). k.sides.watch.when) c.go_on-closed.ensures.rest ∙ (x.shown t.said.events t.said.items t.said.watched).3 ∙ at in
    let before : given.sides.watch ≡ keep.sides.watch =
    sym (ap (λ (k : Talk). k.sides.watch) c.keep_mark.ensures.rest ∙ ap (λ (k : Talk). k.sides.watch) c.go_on-closed.ensures.rest) in
    let sh = λ (o : is_in_opening self ≡ false).
    c.in_ok-show.ensures.deeds (opening_alike given keep kept_by ∙ c.in_ok-exchange.ensures.opening ∙ o) in
    let noted_marks : marks_of noted ≡ marks_of self ++ km.0 =
    ap marks_of c.note.ensures.rest ∙ ap (λ (l : _). l.items) c.cut.ensures.marks ∙ ap marks_of c.show.ensures.rest ∙ km.2
    ∙ ap (λ (k : Talk). marks_of k ++ km.0) c.go_on-closed.ensures.rest ∙ ap (λ (l : _). l.items ++ km.0) c.in_ok-exchange.ensures.marks in
    let now_courses : settled.courses ≡ gone.courses =
    ap (λ (k : Talk). k.courses) c.note.ensures.rest ∙ ap (λ (k : Talk). k.courses) c.show.ensures.rest ∙ ap (λ (k : Talk). k.courses) c.keep_mark.ensures.rest in (
      record {
        side = by;
        is_side = c.sender-side.ensures;
        a' = x.a';
        b' = x.b';
        is = se.is;
        ends = ap (λ (k : Talk). k.ends) c.note.ensures.rest ∙ al.ends;
        terms = ap (λ (k : Talk). k.terms) c.note.ensures.rest ∙ al.terms;
        stray = stray;
        is_stray = c.is_stray-stray.ensures a b t;
        sent = sent_same s (is_in_opening self) (of_side by a b) _ _ (of_side by x.a' x.b') _ _ refl (kept by ∙ flows by) x.sent;
        acked = x.acked;
        opening = λ o. end_same x.a' x.b' _ _ _ _ (ap (λ (n : ℕ). min (n + 1) (2 ^ 32 - 1)) segments) refl (se.opening (was ∙ o));
        counted = λ o. se.counted (was ∙ o) ∙ ap (λ (n : ℕ). min (n + 1) (2 ^ 32 - 1)) segments;
        after = λ o. c.in_ok-settle.ensures.after (was ∙ o);
        closes = closes_same flags c.args.when by x.a' x.b' _ _ _ _ _ _ _ _ (flows A) (flows B) al.closing refl n;
        cut = λ side.
            c.in_ok-settle.ensures.cuts x.a' x.b' side noted_is ∙ ap (cut_in side) sides ∙ c.cut.ensures.cuts shown.terms x.a' x.b' side marked
            ∙ ap (λ (f : Flags). cut_after f shown.closing.closed (length (of_side side x.a' x.b').out) (cut_of side shown)) flags_are
            ∙ ap (λ (k : Closing). cut_after flags k.closed (length (of_side side x.a' x.b').out) (cut_of side shown)) al.closing
            ∙ ap (λ (o : Option ℕ). cut_after flags self.closing.closed (length (of_side side x.a' x.b').out) o) (cuts side);
        stream = ap (λ (f : Flow). f.stream) (flows_kept (other by)) ∙ x.stream;
        noted = ap (λ (f : Flow). f.noted) (flows_kept (other by)) ∙ x.noted;
        said = λ o. says_same s by a b x.a' x.b' self.sides given.sides self.sides settled.sides (λ _. refl)
            (λ k. stages_same k given.sides settled.sides (a_stage o) (b_stage o)) flows_kept (λ _ _ w. w)
            (λ events items w. watched_same events items given.sides.watch settled.sides.watch (ap (λ (w : Watch). w.matcher) (watch o) ∙ al.matcher)
            (ap (λ (w : Watch). w.a) (watch o) ∙ al.a_notes) (ap (λ (w : Watch). w.b) (watch o) ∙ al.b_notes) w) x.said;
        did = λ o. record {
          deeds = (sh o).0;
          before = c.refusal-before.result;
          before_is = subst (λ (d : Direction). IsRefusedIn d.stage (of_side by a b) c.refusal-before.result) c.direction.ensures
              (c.refusal-before.ensures self.terms (of_side by a b) (of_side (other by) a b)
              (found self.terms by a b self.sides c.direction.result.now c.direction.ensures t));
          are = deeds_same by c.refusal-before.result closed (closes_by flags (has_closed by self)) x.a' x.b' keep settled (sh o).0 closes
              (λ k. stages_same k keep.sides settled.sides (a_stage o ∙ sym (ap (λ (d : Direction). d.stage) kept_by.a))
              (b_stage o ∙ sym (ap (λ (d : Direction). d.stage) kept_by.b)))
              (λ k. flows_kept k ∙ sym (flow_same k given.sides keep.sides kept_by.a kept_by.b))
              ((sh o).2 x.a' x.b' (talk_alike x.a' x.b' given keep kept_by x.is));
        };
        marks = km.0;
        marked = λ o. by_same s.payload.now _ c.args.when by closed _ x.a' x.b' gone settled km.0 packet closes gone_flows
            (km.1 (opening_alike given gone begun ∙ c.in_ok-exchange.ensures.opening ∙ o));
        kept = λ o. ap (λ (l : _). l.items) (c.in_ok-settle.ensures.marks o) ∙ noted_marks;
        shut = λ k. closed_same gone settled k now_courses ∙ c.go_on-closed.ensures.shut k
            ∙ ap (λ (f : Flags). closed_after f by self k) flags_are;
        began = ap (λ (k : Courses). k.first) now_courses ∙ c.go_on-closed.ensures.first;
        grown = λ k. grown_same gone settled k now_courses ∙ c.go_on-closed.ensures.grown x.a' x.b' x.is k
            ∙ ap (λ (m : ℕ). grown_after s c.args.when by m (length (of_side by x.a' x.b').out) self k) (c.length-length.ensures a b t);
        strays = λ k. strays_same gone settled k now_courses ∙ c.go_on-closed.ensures.strays k;
      },
      λ o.
          let silent = c.in_ok-exchange.ensures.silent self.terms a b t o in
          let in_opening = ap is_in_opening c.keep_mark.ensures.rest ∙ ap is_in_opening c.go_on-closed.ensures.rest ∙ c.in_ok-exchange.ensures.opening ∙ o in
          let watch : noted.sides.watch ≡ given.sides.watch =
          ap (λ (k : Sides). k.watch) sides ∙ c.cut.ensures.watch ∙ ap (λ (k : Talk). k.sides.watch) (c.show.ensures.opening in_opening) ∙ sym before in
          let rows = ap (λ (w : Watch). w.rows) watch in
          let op = c.in_ok-settle.ensures.opened x.a' x.b' noted_is (was ∙ o) in
          record {
            quiet = λ q. appends_more [] [] self.sides.watch.rows given.sides.watch.rows settled.sides.watch.rows silent
                (appends_same [] noted.sides.watch.rows settled.sides.watch.rows given.sides.watch.rows settled.sides.watch.rows (sym rows) refl
                (op.quiet q));
            opened = λ n. opened_after (marks_of self ++ km.0) x.a' x.b' settled.sides.a.stage settled.sides.b.stage settled.sides.watch self.sides.watch.rows
                given.sides.watch.rows noted.sides.watch.rows settled.sides.watch.rows silent rows
                (subst (λ (l : List Mark). HasOpened l x.a' x.b' settled.sides.a.stage settled.sides.b.stage settled.sides.watch noted.sides.watch.rows
                settled.sides.watch.rows) noted_marks (op.opened n));
          },
      λ none side w.
          let parts = parts_of self.terms side a b self.sides t in
          let is = ap (λ (r : Room). r.wanted) c.exchange.ensures.room ∙ w in
          let out = c.exchange.new.room.out.items in
          let sent = subst (λ (o : Option Side). IsReady (is_in_opening self) (is_wanted by o) (of_side by a b) (of_side by x.a' x.b') out) w (y.1 none) in
          let ready = ready_kept (is_in_opening self) by side a b x.a' x.b' out sent
          (acked_same s (of_side (other by) a b) (of_side (other by) x.a' x.b') x.acked).1 in
          sends_on (is_in_opening self) (is_in_opening settled) (of_side side a b) (of_side side x.a' x.b') parts.0 out
          c.settle.new.room.out.items parts.1 ready
          (λ o. fronts_kept s (is_in_opening self) by side a b x.a' x.b' (flow_of by self) (flow_of by given) x.sent x.acked o)
          (λ o. c.in_ok-settle.ensures.after (was ∙ o))
          (λ o. ap (λ (r : Room). r.out.items) (c.in_ok-settle.ensures.room_already (was ∙ o)))
          (λ o nil. c.in_ok-settle.ensures.sent x.a' x.b' side noted_is (was ∙ o) is nil),
      λ o.
          let told = (sh o).1 in
          record {
            shown = λ events items i.
                let g = x.shown events items i in
                let deeds = deed_rows self.sides.watch.rows.heading c.args.when by (sh o).0 in
                let mine = subst (λ (p : When). AreItemRows self.sides.watch.rows.heading p by x.said.known x.said.items events g.0) at g.1.shown in
                let same = subst (λ (p : When). Appends (deed_rows self.sides.watch.rows.heading p by (sh o).0) given.sides.watch.rows settled.sides.watch.rows)
                (ap (λ (w : Watch). w.when) (sym before) ∙ g.3 ∙ at)
                (subst (λ (h : Heading). Appends (deed_rows h keep.sides.watch.when by (sh o).0) given.sides.watch.rows settled.sides.watch.rows)
                (ap (λ (w : Watch). w.rows.heading) (sym before) ∙ g.2.heading)
                (appends_same (deed_rows keep.sides.watch.rows.heading keep.sides.watch.when by (sh o).0) keep.sides.watch.rows shown.sides.watch.rows
                given.sides.watch.rows settled.sides.watch.rows (ap (λ (w : Watch). w.rows) before) (ap (λ (w : Watch). w.rows) (watch o)) told)) in (
                  g.0 ++ deeds,
                  (g.0, refl, mine),
                  appends_more g.0 deeds self.sides.watch.rows given.sides.watch.rows settled.sides.watch.rows g.2 same,
                );
          },
    )
