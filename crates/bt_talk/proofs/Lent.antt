-- What rows need doesn't change what is known of a connection.
use Rattle.std.proofs.Common.{◌≡◌, ◌∙◌, ◌-◌, ◌^◌, min, ◌+◌, ℕ, not, Bool, List, [], ◌++◌, length, Option, Some, refl, sym, ap, subst, inl, inr}
use Rattle.std.specs.Prelude.{◌↔◌}
use Rattle.std.specs.Option.{option_or}
use Rattle.std.proofs.lemmas.Bool.{cases_Bool}
use Rattle.bt_remarks.specs.declared.events.Side.{Side}
use Rattle.bt_remarks.specs.declared.events.Side.TheVariants.{A, B}
use Rattle.bt_packet.specs.declared.tcp.Segment.{Segment}
use Rattle.bt_wire.specs.declared.item.Item.{Item}
use Rattle.bt_remarks.specs.Said.{Told, other}
use Rattle.bt_flow.specs.declared.flow.Flow.{Flow}
use Rattle.bt_talk.specs.declared.closing.When.{When}
use Rattle.bt_talk.specs.declared.closing.Closing.{Closing}
use Rattle.bt_talk.specs.declared.course.Courses.{Courses}
use Rattle.bt_talk.specs.declared.direction.Direction.{Direction}
use Rattle.bt_talk.specs.declared.ends.Ends.{Ends}
use Rattle.bt_talk.specs.declared.replay.Mark.{Mark}
use Rattle.bt_talk.specs.declared.rows.Heading.{Heading}
use Rattle.bt_talk.specs.declared.rows.Rows.{Rows}
use Rattle.bt_talk.specs.declared.stage.Stage.{Stage}
use Rattle.bt_talk.specs.declared.talk.Talk.{Talk}
use Rattle.bt_talk.specs.declared.terms.Terms.{Terms}
use Rattle.bt_talk.specs.declared.watch.Watch.{Watch}
use Rattle.bt_talk.specs.Cuts.{cut_after}
use Rattle.bt_talk.specs.Strays.{heeded}
use Rattle.bt_packet.specs.declared.tcp.Flags.{Flags}
use Rattle.bt_talk.specs.Pasts.{Past, HasSent}
use Rattle.bt_talk.specs.Replays.{HasOpened}
use Rattle.bt_talk.specs.Rows.{Shown}
use Rattle.bt_talk.specs.Shown.{AreRowsOfTurn, AreTurnRows, Turn}
use Rattle.bt_talk.specs.Shows.{Appends}
use Rattle.bt_talk.specs.Stages.{IsDirection, IsHeard, is_opening}
use Rattle.bt_talk.specs.Talks.{IsTalk, Takes, TakesAll, IsSender, Says, ShowsTurn, HasSettled, direction_of, is_in_opening, flow_of, cut_of, marks_of, of_side}
use Rattle.bt_talk.specs.Watching.{IsWatched}
use Rattle.bt_talk.proofs.Closes.{closes_same}
use Rattle.bt_talk.proofs.Deeds.{did_same}
use Rattle.bt_talk.proofs.Marked.{after_same, closed_same, grown_as, grown_same, marked_same, strays_as, strays_same}
use Rattle.bt_talk.proofs.Saying.{says_same, stages_same}
use Rattle.bt_talk.proofs.Shown.{appends_more, appends_same}
use Rattle.bt_talk.proofs.Talks.{end_same, flow_same, sent_same, both_same}
use Rattle.bt_talk.proofs.Watching.{watched_same}

-- They differ at most in what rows need.
pub record Alike (t u : Talk) : Type 0 where
  pub terms : u.terms ≡ t.terms
  pub ends : u.ends ≡ t.ends
  pub a : u.sides.a ≡ t.sides.a
  pub b : u.sides.b ≡ t.sides.b
  pub segments : u.sides.segments ≡ t.sides.segments
  pub closing : u.closing ≡ t.closing
  pub matcher : u.sides.watch.matcher ≡ t.sides.watch.matcher
  pub a_notes : u.sides.watch.a ≡ t.sides.watch.a
  pub b_notes : u.sides.watch.b ≡ t.sides.watch.b

pub alike_back : (t u : Talk) → Alike t u → Alike u t
alike_back t u i = record {
  terms = sym i.terms;
  ends = sym i.ends;
  a = sym i.a;
  b = sym i.b;
  segments = sym i.segments;
  closing = sym i.closing;
  matcher = sym i.matcher;
  a_notes = sym i.a_notes;
  b_notes = sym i.b_notes;
}

-- They have the same marks, and the same sides have closed.
pub record AreMarked (t u : Talk) : Type 0 where
  pub marks : marks_of u ≡ marks_of t
  pub courses : u.courses ≡ t.courses

-- What rows need was noted, and rows were appended.
pub after_steps : (t u v x : Talk) → u ≡ record t { courses = u.courses } → v ≡ record u { sides = record u.sides { marks = v.sides.marks } }
    → x ≡ record v { sides = record v.sides { watch = record v.sides.watch { rows = x.sides.watch.rows } } } → Alike t x
after_steps t u v x e f g = record {
  terms = ap (λ (k : Talk). k.terms) g ∙ ap (λ (k : Talk). k.terms) f ∙ ap (λ (k : Talk). k.terms) e;
  ends = ap (λ (k : Talk). k.ends) g ∙ ap (λ (k : Talk). k.ends) f ∙ ap (λ (k : Talk). k.ends) e;
  a = ap (λ (k : Talk). k.sides.a) g ∙ ap (λ (k : Talk). k.sides.a) f ∙ ap (λ (k : Talk). k.sides.a) e;
  b = ap (λ (k : Talk). k.sides.b) g ∙ ap (λ (k : Talk). k.sides.b) f ∙ ap (λ (k : Talk). k.sides.b) e;
  segments = ap (λ (k : Talk). k.sides.segments) g ∙ ap (λ (k : Talk). k.sides.segments) f ∙ ap (λ (k : Talk). k.sides.segments) e;
  closing = ap (λ (k : Talk). k.closing) g ∙ ap (λ (k : Talk). k.closing) f ∙ ap (λ (k : Talk). k.closing) e;
  matcher = ap (λ (k : Talk). k.sides.watch.matcher) g ∙ ap (λ (k : Talk). k.sides.watch.matcher) f ∙ ap (λ (k : Talk). k.sides.watch.matcher) e;
  a_notes = ap (λ (k : Talk). k.sides.watch.a) g ∙ ap (λ (k : Talk). k.sides.watch.a) f ∙ ap (λ (k : Talk). k.sides.watch.a) e;
  b_notes = ap (λ (k : Talk). k.sides.watch.b) g ∙ ap (λ (k : Talk). k.sides.watch.b) f ∙ ap (λ (k : Talk). k.sides.watch.b) e;
}

pub watched_alike : (events : List Told) (items : Side → List (ℕ × Item)) (t u : Talk) → Alike t u → IsWatched events items t.sides.watch
    → IsWatched events items u.sides.watch
watched_alike events items t u i w = watched_same events items t.sides.watch u.sides.watch i.matcher i.a_notes i.b_notes w

pub talk_alike : (a b : Past) (t u : Talk) → Alike t u → IsTalk a b t → IsTalk a b u
talk_alike a b t u i k =
    let said : IsHeard a b t.sides.a.stage t.sides.b.stage u.sides.watch = record {
      events = k.said.events;
      items = k.said.items;
      a_items = k.said.a_items;
      b_items = k.said.b_items;
      watched = watched_alike k.said.events k.said.items t u i k.said.watched;
    } in
    record {
      a_is = subst (λ (d : Direction). IsDirection u.terms a b d) (sym i.a) (subst (λ (n : Terms). IsDirection n a b t.sides.a) (sym i.terms) k.a_is);
      b_is = subst (λ (d : Direction). IsDirection u.terms b a d) (sym i.b) (subst (λ (n : Terms). IsDirection n b a t.sides.b) (sym i.terms) k.b_is);
      stages = ap (λ (d : Direction). is_opening d.stage) i.a ∙ k.stages ∙ sym (ap (λ (d : Direction). is_opening d.stage) i.b);
      said = subst (λ (d : Direction). IsHeard a b d.stage u.sides.b.stage u.sides.watch) (sym i.a)
          (subst (λ (d : Direction). IsHeard a b t.sides.a.stage d.stage u.sides.watch) (sym i.b) said);
    }

pub opening_alike : (t u : Talk) → Alike t u → is_in_opening u ≡ is_in_opening t
opening_alike t u i = ap (λ (d : Direction). is_opening d.stage) i.a

pub sender_alike : (s : Segment) (t u : Talk) (side : Side) → Alike t u → IsSender s t side → IsSender s u side
sender_alike s t u side i k = subst (λ (e : Ends). (side ≡ A) ↔ (s.source ≡ e.a)) (sym i.ends) k

pub stages_alike : (t u : Talk) → Alike t u → (side : Side) → (direction_of side u).stage ≡ (direction_of side t).stage
stages_alike t u i side = stages_same side t.sides u.sides (ap (λ (d : Direction). d.stage) i.a) (ap (λ (d : Direction). d.stage) i.b)

abbrev pub says_alike : (s : Segment) (side : Side) (a b a' b' : Past) (t t' u u' : Talk) → Alike t u → Alike t' u' → Says s side a b a' b' t.sides t'.sides
    → Says s side a b a' b' u.sides u'.sides
says_alike s side a b a' b' t t' u u' i k x =
    says_same s side a b a' b' t.sides t'.sides u.sides u'.sides (stages_alike t u i) (stages_alike t' u' k) (λ j. flow_same j t'.sides u'.sides k.a k.b)
    (λ events items w. watched_alike events items u t (alike_back t u i) w) (λ events items w. watched_alike events items t' u' k w) x

-- A segment was taken.
abbrev pub takes_alike : (s : Segment) (when : When) (a b : Past) (t t' u u' : Talk) → Alike t u → Alike t' u' → AreMarked t u → AreMarked t' u'
    → Takes s when a b t t' → Takes s when a b u u'
takes_alike s when a b t t' u u' i k m n x =
    let flow = λ (side : Side). flow_same side t.sides u.sides i.a i.b in
    let flow' = λ (side : Side). flow_same side t'.sides u'.sides k.a k.b in
    let flags : Flags = heeded x.stray s.flags in
    record {
      side = x.side;
      is_side = sender_alike s t u x.side i x.is_side;
      stray = x.stray;
      is_stray = x.is_stray;
      a' = x.a';
      b' = x.b';
      is = talk_alike x.a' x.b' t' u' k x.is;
      ends = k.ends ∙ x.ends ∙ sym i.ends;
      terms = k.terms ∙ x.terms ∙ sym i.terms;
      sent = subst (λ (o : Bool). HasSent s o (of_side x.side a b) (flow_of x.side u) (of_side x.side x.a' x.b') (flow_of x.side u'))
          (sym (opening_alike t u i))
          (sent_same s (is_in_opening t) (of_side x.side a b) _ _ (of_side x.side x.a' x.b') _ _ (sym (flow x.side)) (sym (flow' x.side)) x.sent);
      acked = x.acked;
      opening = λ o. end_same x.a' x.b' _ _ _ _ (ap (λ (n : ℕ). min (n + 1) (2 ^ 32 - 1)) (sym i.segments)) (ap not (sym (opening_alike t' u' k)))
          (x.opening (sym (opening_alike t u i) ∙ o));
      counted = λ o. k.segments ∙ x.counted (sym (opening_alike t u i) ∙ o) ∙ ap (λ (n : ℕ). min (n + 1) (2 ^ 32 - 1)) (sym i.segments);
      after = λ o. opening_alike t' u' k ∙ x.after (sym (opening_alike t u i) ∙ o);
      closes = closes_same flags when x.side x.a' x.b' _ _ _ _ _ _ _ _ (sym (flow' A)) (sym (flow' B)) (sym i.closing) (sym k.closing) x.closes;
      cut = λ side.
          both_same side t'.sides u'.sides k.a k.b ∙ x.cut side
          ∙ ap (λ (c : Closing). cut_after flags c.closed (length (of_side side x.a' x.b').out) (cut_of side t)) (sym i.closing)
          ∙ ap (λ (n : _). cut_after flags u.closing.closed (length (of_side side x.a' x.b').out) n) (sym (both_same side t.sides u.sides i.a i.b));
      stream = ap (λ (f : Flow). f.stream) (flow' (other x.side)) ∙ x.stream ∙ ap (λ (f : Flow). f.stream) (sym (flow (other x.side)));
      noted = ap (λ (f : Flow). f.noted) (flow' (other x.side)) ∙ x.noted ∙ ap (λ (f : Flow). f.noted) (sym (flow (other x.side)));
      said = λ o. says_alike s x.side a b x.a' x.b' t t' u u' i k (x.said (sym (opening_alike t u i) ∙ o));
      did = λ o. did_same flags x.side a b x.a' x.b' t t' u u' (stages_alike t u i) (stages_alike t' u' k) flow' (closed_same t u x.side m.courses)
          (x.did (sym (opening_alike t u i) ∙ o));
      marks = x.marks;
      marked = λ o. marked_same s flags when x.side x.a' x.b' t t' u u' x.marks m.courses flow' (x.marked (sym (opening_alike t u i) ∙ o));
      kept = λ o. n.marks ∙ x.kept (sym (opening_alike t' u' k) ∙ o) ∙ ap (λ (l : List Mark). l ++ x.marks) (sym m.marks);
      shut = λ side. closed_same t' u' side n.courses ∙ x.shut side ∙ after_same flags x.side t u side (sym m.courses);
      began = ap (λ (c : Courses). c.first) n.courses ∙ x.began ∙ ap (λ (c : Courses). option_or c.first (Some when)) (sym m.courses);
      grown = λ side. grown_same t' u' side n.courses ∙ x.grown side ∙ grown_as s when x.side _ _ t u side (sym m.courses);
      strays = λ side. strays_same t' u' side n.courses ∙ x.strays side ∙ strays_as x.stray x.side t u side (sym m.courses);
    }

-- ---- rows

-- The rows of a turn are appended.
pub shows_alike : (turn : Turn) (t u : Talk) (r r' q q' : Rows) → Alike t u → q ≡ r → q' ≡ r' → ShowsTurn turn u q q' → ShowsTurn turn t r r'
shows_alike turn t u r r' q q' i e f x = record {
  shown = λ events before w.
      let y = x.shown events before (watched_alike events before t u i w) in (
        y.0,
        subst (λ (z : Rows). AreRowsOfTurn z.heading turn events y.0) e y.1,
        appends_same y.0 q q' r r' (sym e) (sym f) y.2,
      );
}

-- Rows show the items of the opening.
pub opened_alike : (marks : List Mark) (p q : Past) (s s' : Stage) (w v : Watch) (r r' l l' : Rows) → v.matcher ≡ w.matcher → v.a ≡ w.a → v.b ≡ w.b
    → l ≡ r → l' ≡ r' → HasOpened marks p q s s' w l l' → HasOpened marks p q s s' v r r'
opened_alike marks p q s s' w v r r' l l' e f g m n h = record {
  heard = record {
    events = h.heard.events;
    items = h.heard.items;
    a_items = h.heard.a_items;
    b_items = h.heard.b_items;
    watched = watched_same h.heard.events h.heard.items w v e f g h.heard.watched;
  };
  turns = h.turns;
  told = h.told;
  items_are = h.items_are;
  rows = h.rows;
  appends = appends_same h.rows l l' r r' (sym m) (sym n) h.appends;
  shown = subst (λ (z : Rows). AreTurnRows z.heading h.turns h.rows) m h.shown;
  opened_by = h.opened_by;
}

-- No row was appended before.
pub opened_after : (marks : List Mark) (p q : Past) (s s' : Stage) (w : Watch) (r m m' r' : Rows) → Appends [] r m → m' ≡ m
    → HasOpened marks p q s s' w m' r' → HasOpened marks p q s s' w r r'
opened_after marks p q s s' w r m m' r' i e h = record {
  heard = h.heard;
  turns = h.turns;
  told = h.told;
  items_are = h.items_are;
  rows = h.rows;
  appends = appends_more [] h.rows r m r' i (appends_same h.rows m' r' m r' (sym e) refl h.appends);
  shown = subst (λ (z : Heading). AreTurnRows z h.turns h.rows) (ap (λ (z : Rows). z.heading) e ∙ i.heading) h.shown;
  opened_by = h.opened_by;
}

stages_opened : (marks : List Mark) (p q : Past) (s s' z z' : Stage) (w : Watch) (r r' : Rows) → z ≡ s → z' ≡ s' → HasOpened marks p q s s' w r r'
    → HasOpened marks p q z z' w r r'
stages_opened marks p q s s' z z' w r r' e f h =
    subst (λ (k : Stage). HasOpened marks p q k z' w r r') (sym e) (subst (λ (k : Stage). HasOpened marks p q s k w r r') (sym f) h)

pub settled_alike : (s : Segment) (when : When) (a b : Past) (t t' u u' : Talk) (r r' l l' : Rows) (i : Alike u t) (k : Alike u' t') (m : AreMarked u t)
    (n : AreMarked u' t') → l ≡ r → l' ≡ r' → (took : Takes s when a b u u') → HasSettled s when a b u u' took l l'
    → HasSettled s when a b t t' (takes_alike s when a b u u' t t' i k m n took) r r'
settled_alike s when a b t t' u u' r r' l l' i k m n e f took h = record {
  quiet = λ o. appends_same [] l l' r r' (sym e) (sym f) (h.quiet (sym (opening_alike u' t' k) ∙ o));
  opened = λ o. subst (λ (x : List Mark). HasOpened (x ++ took.marks) took.a' took.b' t'.sides.a.stage t'.sides.b.stage t'.sides.watch r r') (sym m.marks)
      (stages_opened (marks_of u ++ took.marks) took.a' took.b' u'.sides.a.stage u'.sides.b.stage t'.sides.a.stage t'.sides.b.stage t'.sides.watch r r'
      (ap (λ (d : Direction). d.stage) k.a) (ap (λ (d : Direction). d.stage) k.b)
      (opened_alike (marks_of u ++ took.marks) took.a' took.b' u'.sides.a.stage u'.sides.b.stage u'.sides.watch t'.sides.watch r r' l l' k.matcher k.a_notes k.b_notes e f
      (h.opened (sym (opening_alike u' t' k) ∙ o))));
}

-- The watch has other rows.
pub with_watch : (t : Talk) (lost : Bool) (w : Watch) → w.matcher ≡ t.sides.watch.matcher → w.a ≡ t.sides.watch.a → w.b ≡ t.sides.watch.b
    → Alike t (record t { is_lost = lost; sides = record t.sides { watch = w } })
with_watch t lost w e f g = record {
  terms = refl;
  ends = refl;
  a = refl;
  b = refl;
  segments = refl;
  closing = refl;
  matcher = e;
  a_notes = f;
  b_notes = g;
}

-- Some rows were appended, or none.
pub some_rows : (s : Segment) (when : When) (a b : Past) (t t' : Talk) (r r' : Rows) (wanted : Option Side) (sent : List ℕ) → IsTalk a b t
    → TakesAll s when a b t t' r r' wanted sent → (rows : List Shown) × Appends rows r r'
some_rows s when a b t t' r r' wanted sent i all =
    elim (cases_Bool (is_in_opening t)) [
      | inl e ↦
          let h = all.settled e in
          elim (cases_Bool (is_in_opening t')) [
            | inl f ↦ ([], h.quiet f)
            | inr f ↦ let o = h.opened f in (o.rows, o.appends)
          ]
      | inr e ↦ let y = (all.shows e).shown i.said.events i.said.items i.said.watched in (y.0, y.2)
    ]
