-- The turns of a connection, and their rows.
use Rattle.std.proofs.Common.{◌≡◌, ◌∙◌, ℕ, true, false, List, [], ◌∷◌, ◌++◌, append-nil, Option, refl, sym, ap, subst, inl, inr}
use Rattle.std.proofs.lemmas.Bool.{cases_Bool}
use Rattle.bt_packet.specs.declared.tcp.Segment.{Segment}
use Rattle.bt_remarks.specs.declared.events.Side.{Side}
use Rattle.bt_remarks.specs.declared.events.Side.TheVariants.{A, B}
use Rattle.bt_remarks.specs.Said.{Told}
use Rattle.bt_wire.specs.declared.item.Item.{Item}
use Rattle.bt_talk.proofs.Items.{no_items, opening_items}
use Rattle.bt_talk.proofs.Shown.{appends_none, appends_same, no_events}
use Rattle.bt_talk.specs.declared.closing.When.{When}
use Rattle.bt_talk.specs.declared.direction.Direction.{Direction}
use Rattle.bt_talk.specs.declared.rows.Heading.{Heading}
use Rattle.bt_talk.specs.declared.rows.Rows.{Rows}
use Rattle.bt_talk.specs.declared.talk.Talk.{Talk}
use Rattle.bt_talk.specs.declared.watch.Watch.{Watch}
use Rattle.bt_talk.specs.Pasts.{Past, no_past}
use Rattle.bt_talk.specs.Replays.{HasOpened}
use Rattle.bt_talk.specs.Rows.{Shown}
use Rattle.bt_talk.specs.Shown.{AreTurnRows, Turn, items_by, told_by}
use Rattle.bt_talk.specs.Shows.{Appends}
use Rattle.bt_talk.specs.Stages.{AreItemsIn}
use Rattle.bt_talk.specs.Talks.{AreItemsOf, HasHeard, HasSettled, IsTalk, ShowsTurn, Takes, TakesAll, turn_by}
use Rattle.bt_talk.specs.Talks.{AreOpened, direction_of, is_in_opening, marks_of, of_side, watch_of}
use Rattle.bt_talk.specs.declared.replay.Mark.{Mark}
use Rattle.bt_talk.specs.Watching.{AreNoted, IsWatched, messages_of, notes_of}
use Rattle.bt_remarks.specs.Matched.{IsMatched}
use Rattle.bt_capture.specs.Connections.{HasTurned}
use Rattle.bt_capture.proofs.Silent.{both_sides}

-- ---- what was heard

watched_by : (events events' : List Told) (items items' : Side → List (ℕ × Item)) (w : Watch) → events ≡ events' → ((s : Side) → items s ≡ items' s)
    → IsWatched events items w → IsWatched events' items' w
watched_by events events' items items' w e f i = record {
  matched = subst (λ l. IsMatched l w.matcher) e i.matched;
  notes = λ s. subst (λ xs. AreNoted s events' xs (notes_of s w)) (f s) (subst (λ l. AreNoted s l (items s) (notes_of s w)) e (i.notes s));
}

-- in the opening
nothing_heard : (a b : Past) (t : Talk) → IsTalk a b t → is_in_opening t ≡ true → HasHeard [] a b t
nothing_heard a b t i o =
    let of_b = sym i.stages ∙ o in
    let none_a = opening_items t.sides.a.stage a (i.said.items A) o i.said.a_items in
    let none_b = opening_items t.sides.b.stage b (i.said.items B) of_b i.said.b_items in
    let none = no_events i.said.events ((i.said.watched.notes A).said ∙ ap messages_of none_a) ((i.said.watched.notes B).said ∙ ap messages_of none_b) in
    record {
      items = both_sides (λ s. AreItemsOf s a b t.sides []) (no_items t.sides.a.stage a o) (no_items t.sides.b.stage b of_b);
      watched = watched_by i.said.events [] i.said.items (λ s. []) t.sides.watch none (both_sides (λ s. i.said.items s ≡ []) none_a none_b) i.said.watched;
      quiet = λ _. refl;
    }

-- before the first segment
pub first_heard : (t : Talk) → IsTalk no_past no_past t → is_in_opening t ≡ true → HasHeard [] no_past no_past t
first_heard t i o = nothing_heard no_past no_past t i o

-- at the end of the opening
pub opened_heard : (marks : List Mark) (a b : Past) (t : Talk) (r r' : Rows) → is_in_opening t ≡ false
    → (o : HasOpened marks a b t.sides.a.stage t.sides.b.stage t.sides.watch r r') → HasHeard o.turns a b t
opened_heard marks a b t r r' q o = record {
  items = both_sides (λ s. AreItemsOf s a b t.sides (items_by s o.turns)) (subst (AreItemsIn t.sides.a.stage a) (o.items_are A) o.heard.a_items)
      (subst (AreItemsIn t.sides.b.stage b) (o.items_are B) o.heard.b_items);
  watched = watched_by o.heard.events (told_by o.turns) o.heard.items (λ s. items_by s o.turns) t.sides.watch o.told o.items_are o.heard.watched;
  quiet = λ e. absurd (let f : false ≡ true = sym q ∙ e in cc);
}

-- The turns are what was heard of the connection.
abbrev pub with_turns : (turns : List Turn) (a b : Past) (t : Talk) → HasHeard turns a b t → IsTalk a b t → IsTalk a b t
with_turns turns a b t h i = record {
  a_is = i.a_is;
  b_is = i.b_is;
  stages = i.stages;
  said = record { events = told_by turns; items = λ s. items_by s turns; a_items = h.items A; b_items = h.items B; watched = h.watched };
}

-- ---- a segment

none_before : (h : Heading) (turns : List Turn) (rows : List Shown) → turns ≡ [] → AreTurnRows h turns rows → rows ≡ []
none_before h turns rows e i = subst (λ l. AreTurnRows h l rows) e i

-- There were no rows before.
first_rows : (h : Heading) (turns now : List Turn) (before more : List Shown) → turns ≡ [] → AreTurnRows h turns before → AreTurnRows h now more
    → AreTurnRows h now (before ++ more)
first_rows h turns now before more e i j = subst (λ l. AreTurnRows h now (l ++ more)) (sym (none_before h turns before e i)) j

-- Rows are appended: after those of the turns before these are those of the turns now.
abbrev pub ShowsTurns : Rows → Rows → List Turn → List Turn → Type 0
ShowsTurns r r' turns now = (before : List Shown) → AreTurnRows r.heading turns before
    → (rows : List Shown) × Appends rows r r' × AreTurnRows r.heading now (before ++ rows)

abbrev pub GoesOn : {s : Segment} {when : When} {a b : Past} {t t' : Talk} → Takes s when a b t t' → Rows → Rows → List Turn → Type 0
GoesOn {s} {when} {a} {b} {t} {t'} took r r' turns =
    (now : List Turn) × HasTurned s when a b t t' took turns now × ShowsTurns r r' turns now

in_opening : (s : Segment) (when : When) (a b : Past) (t t' : Talk) (r r' : Rows) (turns : List Turn) (took : Takes s when a b t t')
    → HasHeard turns a b t → is_in_opening t ≡ true → HasSettled s when a b t t' took r r' → GoesOn took r r' turns
in_opening s when a b t t' r r' turns took h o settled =
    let after : (e : is_in_opening t ≡ false) → (now : List Turn)
    → (p : is_in_opening t ≡ false) × (now ≡ turn_by when (took.said p) (took.did p) ∷ turns) =
    λ e now. absurd (let f : true ≡ false = sym o ∙ e in cc) in
    let empty = h.quiet o in
    elim (cases_Bool (is_in_opening t')) [
      | inl q ↦ (
        [],
        record {
          heard = nothing_heard took.a' took.b' t' took.is q;
          opened = λ _ e. absurd (let f : true ≡ false = sym q ∙ e in cc);
          after = λ e. after e [];
        },
        λ before i. ([], settled.quiet q, first_rows r.heading turns [] before [] empty i refl),
      )
      | inr q ↦
          let op = settled.opened q in (
            op.turns,
            record {
              heard = opened_heard (marks_of t ++ took.marks) took.a' took.b' t' r r' q op;
              opened = λ _ _. op.opened_by;
              after = λ e. after e op.turns;
            },
            λ before i. (op.rows, op.appends, first_rows r.heading turns op.turns before op.rows empty i op.shown),
          )
    ]

after_opening : (s : Segment) (when : When) (a b : Past) (t t' : Talk) (r r' : Rows) (turns : List Turn) (took : Takes s when a b t t')
    → HasHeard turns a b t → (o : is_in_opening t ≡ false) → ShowsTurn (turn_by when (took.said o) (took.did o)) t r r' → GoesOn took r r' turns
after_opening s when a b t t' r r' turns took h o shows =
    let said = took.said o in
    let turn : Turn = turn_by when said (took.did o) in
    let events = told_by turns in
    let w = shows.shown events (λ k. items_by k turns) h.watched in (
      turn ∷ turns,
      record {
        heard = record {
          items = said.are (λ k. items_by k turns) h.items;
          watched = said.follow events (λ k. items_by k turns) h.watched;
          quiet = λ e. absurd (let f : false ≡ true = sym (took.after o) ∙ e in cc);
        };
        opened = λ e _. absurd (let f : false ≡ true = sym o ∙ e in cc);
        after = λ _. (o, refl);
      },
      λ before i. (w.0, w.2, (before, w.0, refl, i, w.1)),
    )

-- The turns and the rows of a segment.
pub goes_on : (s : Segment) (when : When) (a b : Past) (t t' : Talk) (r r' : Rows) (wanted : Option Side) (sent : List ℕ) (turns : List Turn)
    (all : TakesAll s when a b t t' r r' wanted sent) → HasHeard turns a b t → GoesOn all.took r r' turns
goes_on s when a b t t' r r' wanted sent turns all h =
    elim (cases_Bool (is_in_opening t)) [
      | inl o ↦ in_opening s when a b t t' r r' turns all.took h o (all.settled o)
      | inr o ↦ after_opening s when a b t t' r r' turns all.took h o (all.shows o)
    ]

-- ---- the end

still_heard : (a b : Past) (t t' : Talk) (turns : List Turn) → is_in_opening t' ≡ false → ((side : Side) → direction_of side t' ≡ direction_of side t)
    → watch_of t' ≡ watch_of t → HasHeard turns a b t → HasHeard turns a b t'
still_heard a b t t' turns over directions watch h = record {
  items = λ s. subst (λ (d : Direction). AreItemsIn d.stage (of_side s a b) (items_by s turns)) (sym (directions s)) (h.items s);
  watched = subst (IsWatched (told_by turns) (λ s. items_by s turns)) (sym watch) h.watched;
  quiet = λ e. absurd (let f : false ≡ true = sym over ∙ e in cc);
}

-- The opening was ended, if it wasn't over.
pub ends_on : (a b : Past) (t t' : Talk) (r r' : Rows) (turns : List Turn) → is_in_opening t' ≡ false
    → (is_in_opening t ≡ true → HasOpened (marks_of t) a b t'.sides.a.stage t'.sides.b.stage t'.sides.watch r r') → (is_in_opening t ≡ false → r' ≡ r)
    → (is_in_opening t ≡ false → watch_of t' ≡ watch_of t) → (is_in_opening t ≡ false → (side : Side) → direction_of side t' ≡ direction_of side t)
    → HasHeard turns a b t → (now : List Turn) × HasHeard now a b t' × (is_in_opening t ≡ true → AreOpened (marks_of t) a b t' now)
    × (is_in_opening t ≡ false → now ≡ turns)
    × ShowsTurns r r' turns now
ends_on a b t t' r r' turns over opened rows watch directions h =
    elim (cases_Bool (is_in_opening t)) [
      | inl o ↦
          let op = opened o in (
            op.turns,
            opened_heard (marks_of t) a b t' r r' over op,
            λ _. op.opened_by,
            λ e. absurd (let f : true ≡ false = sym o ∙ e in cc),
            λ before i. (op.rows, op.appends, first_rows r.heading turns op.turns before op.rows (h.quiet o) i op.shown),
          )
      | inr o ↦ (
        turns,
        still_heard a b t t' turns over (directions o) (watch o) h,
        λ e. absurd (let f : false ≡ true = sym o ∙ e in cc),
        λ _. refl,
        λ before i. (
          [],
          appends_same [] r r r r' refl (rows o) (appends_none r),
          subst (λ l. AreTurnRows r.heading turns l) (sym (append-nil before)) i,
        ),
      )
    ]
