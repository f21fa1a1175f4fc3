-- Rows show further items.
use Rattle.std.proofs.Common.{◌≡◌, ◌∙◌, ℕ, Bool, true, false, List, [], ◌∷◌, ◌++◌, append-nil, append_assoc, Option, Some, None}
use Rattle.std.proofs.Common.{◌-◌, Result, Ok, Err, OnErr, refl, sym, ap, subst, if◌then◌else◌}
use Rattle.std.specs.Prelude.{option_map}
use Rattle.std.proofs.lemmas.Grind.{flat_map-append}
use Rattle.bt_feed.specs.Pumps.{Took}
use Rattle.bt_remarks.specs.declared.events.Remarks.{Remarks}
use Rattle.bt_remarks.specs.declared.events.Side.{Side}
use Rattle.bt_remarks.specs.declared.events.Side.TheVariants.{A, B}
use Rattle.bt_remarks.specs.Matched.{IsMatched}
use Rattle.bt_remarks.specs.Said.{Told, Message, is_same}
use Rattle.bt_tcp.specs.declared.covered.Gap.{Gap}
use Rattle.bt_rows.specs.declared.parts.Means.{Means}
use Rattle.bt_rows.specs.declared.rows.Deed.TheVariants as deed
use Rattle.bt_wire.specs.declared.item.Item.{Item}
use Rattle.bt_wire.specs.declared.item.Refusal.{Refusal}
use Rattle.bt_talk.specs.declared.closing.When.{When}
use Rattle.bt_talk.specs.declared.rows.Heading.{Heading}
use Rattle.bt_talk.specs.declared.rows.Rows.{Rows}
use Rattle.bt_talk.specs.declared.watch.Watch.{Watch}
use Rattle.bt_talk.specs.Courses.{refusal_rows, close_rows, gap_rows, rows_at, no_remarks}
use Rattle.bt_talk.specs.Inside.{inside_rows}
use Rattle.bt_talk.specs.Rows.{Shown, row_at, shown_text, shown_texts}
use Rattle.bt_talk.specs.Shows.{Appends}
use Rattle.bt_talk.specs.Replays.{IsTurn, with_more}
use Rattle.bt_talk.specs.Shown.{AreItemRows, Deeds, GoesShown, IsSeen, Turn, told_by, items_by, closing_rows, deed_rows, newly, no_deeds}
use Rattle.bt_talk.specs.Watching.{AreNoted, IsWatched, Watches, notes_of, told_of, tell, said_by, with_items}
use Rattle.bt_talk.proofs.Watching.{watched_more, watched_same, turned, nothing_watched}

-- ---- rows are appended

pub appends_none : (r : Rows) → Appends [] r r
appends_none r = record { text = sym (append-nil r.text.items); heading = refl }

pub appends_more : (xs ys : List Shown) (a b c : Rows) → Appends xs a b → Appends ys b c → Appends (xs ++ ys) a c
appends_more xs ys a b c f g = record {
  text = g.text ∙ ap (λ (h : Heading). b.text.items ++ shown_texts h.showing ys) f.heading
      ∙ ap (λ (l : List ℕ). l ++ shown_texts a.heading.showing ys) f.text
      ∙ append_assoc a.text.items (shown_texts a.heading.showing xs) (shown_texts a.heading.showing ys)
      ∙ ap (λ (l : List ℕ). a.text.items ++ l) (sym (flat_map-append (shown_text a.heading.showing) xs ys));
  heading = g.heading ∙ f.heading;
}

pub appends_same : (xs : List Shown) (a b a' b' : Rows) → a' ≡ a → b' ≡ b → Appends xs a b → Appends xs a' b'
appends_same xs a b a' b' e f i = subst (λ (r : Rows). Appends xs r b') (sym e) (subst (λ (r : Rows). Appends xs a r) (sym f) i)

-- ---- items

pub rows_same : (h h' : Heading) (when when' : When) (side side' : Side) (known known' : Bool) (xs : List (ℕ × Item)) (events : List Told) (rows : List Shown)
    → h' ≡ h → when' ≡ when → side' ≡ side → known' ≡ known → AreItemRows h' when' side' known' xs events rows → AreItemRows h when side known xs events rows
rows_same h h' when when' side side' known known' xs events rows e f g k i =
    subst (λ (x : Heading). AreItemRows x when side known xs events rows) e
    (subst (λ (x : When). AreItemRows h' x side known xs events rows) f
    (subst (λ (x : Side). AreItemRows h' when' x known xs events rows) g
    (subst (λ (x : Bool). AreItemRows h' when' side' x xs events rows) k i)))

-- Each item has its row.
pub rows_more : (more : List (ℕ × Item)) (events : List Told) (w w' : Watch) → Took Watches w more w' → IsMatched events w.matcher
    → (rows : List Shown) × AreItemRows w.rows.heading w.when w.side w.known more events rows × Appends rows w.rows w'.rows × (w'.when ≡ w.when)
rows_more [] events w w' took i =
    ([], refl, subst (λ (k : Watch). Appends [] w.rows k.rows) (sym took) (appends_none w.rows), ap (λ (k : Watch). k.when) took)
rows_more (x ∷ xs) events w w' took i =
    let next = took.0 in
    let s = took.1 in
    let e = told_of w.side w.known x in
    let m = s.matched events i in
    let r = row_at w.rows.heading w.when w.side s.said.offset (deed.Item s.said.words) s.remarks in
    let rest = rows_more xs (e ∷ events) next w' took.2 m.1 in (
      r ∷ rest.0,
      (
        record {
          said = s.said;
          is_said = s.is;
          is = ap (λ (k : Remarks). row_at w.rows.heading w.when w.side s.said.offset (deed.Item s.said.words) k) m.0;
        },
        rows_same w.rows.heading next.rows.heading w.when next.when w.side next.side w.known next.known xs (e ∷ events) rest.0 s.rows.heading s.when s.side
            s.known rest.1,
      ),
      appends_more (r ∷ []) rest.0 w.rows next.rows w'.rows s.rows rest.2,
      rest.3 ∙ s.when,
    )

-- A side's turn came, and then its items.
pub shown_by : (side : Side) (known : Bool) (more : List (ℕ × Item)) (w v w' : Watch) → v ≡ record w { side = side; known = known } → Took Watches v more w'
    → GoesShown side known more w w'
shown_by side known more w v w' e took = λ events items i.
    let to : Watch = record w { side = side; known = known } in
    let t = subst (λ (k : Watch). Took Watches k more w') e took in
    let rs = rows_more more events to w' t i.matched in (
      rs.0,
      record { watched = watched_more more events items to w' t (turned side known events items w i); shown = rs.1 },
      rs.2,
      rs.3,
    )

pub shown_nowhere : (side : Side) (known : Bool) (w : Watch) → GoesShown side known [] w w
shown_nowhere side known w = λ events items i. (
  [],
  record { watched = nothing_watched side events items w i; shown = refl },
  appends_none w.rows,
  refl,
)

pub no_rows : (h : Heading) (when : When) (side : Side) (known : Bool) (xs : List (ℕ × Item)) (events : List Told) (rows : List Shown) → xs ≡ []
    → AreItemRows h when side known xs events rows → rows ≡ []
no_rows h when side known xs events rows e i = subst (λ (l : List (ℕ × Item)). AreItemRows h when side known l events rows) e i

pub nil_right : {X : Type 0} (xs ys : List X) → xs ++ ys ≡ [] → ys ≡ []
nil_right [] ys e = e
nil_right (x ∷ xs) ys e = absurd (cc)

-- ---- the opening

-- Items follow others.
tell_more : (side : Side) (known : Bool) (xs ys : List (ℕ × Item)) (events : List Told)
    → tell side known (xs ++ ys) events ≡ tell side known ys (tell side known xs events)
tell_more side known [] ys events = refl
tell_more side known (x ∷ xs) ys events = tell_more side known xs ys (told_of side known x ∷ events)

item_rows_more : (h : Heading) (when : When) (side : Side) (known : Bool) (xs ys : List (ℕ × Item)) (events : List Told) (rows mine : List Shown)
    → AreItemRows h when side known xs events rows → AreItemRows h when side known ys (tell side known xs events) mine
    → AreItemRows h when side known (xs ++ ys) events (rows ++ mine)
item_rows_more h when side known [] ys events rows mine i k =
    subst (λ (l : List Shown). AreItemRows h when side known ys events (l ++ mine)) (sym i) k
item_rows_more h when side known (x ∷ xs) ys events [] mine i k = absurd i
item_rows_more h when side known (x ∷ xs) ys events (r ∷ rs) mine i k =
    (i.0, item_rows_more h when side known xs ys (told_of side known x ∷ events) rs mine i.1 k)

watched_by : (events events' : List Told) (items items' : Side → List (ℕ × Item)) (w : Watch) → events' ≡ events → ((s : Side) → items' s ≡ items s)
    → IsWatched events items w → IsWatched events' items' w
watched_by events events' items items' w e f i = record {
  matched = subst (λ (l : List Told). IsMatched l w.matcher) (sym e) i.matched;
  notes = λ s. subst (λ (l : List Told). AreNoted s l (items' s) (notes_of s w)) (sym e)
      (subst (λ (l : List (ℕ × Item)). AreNoted s events l (notes_of s w)) (sym (f s)) (i.notes s));
}

none_more : (b : Bool) (xs : List (ℕ × Item)) → (if b then xs ++ [] else xs) ≡ xs
none_more true xs = append-nil xs
none_more false xs = refl

some_more : (b : Bool) (xs ys zs : List (ℕ × Item))
    → (if b then xs ++ (ys ++ zs) else xs) ≡ (if b then (if b then xs ++ ys else xs) ++ zs else (if b then xs ++ ys else xs))
some_more true xs ys zs = sym (append_assoc xs ys zs)
some_more false xs ys zs = refl

-- A turn begins, in which nothing was judged.
pub seen_begin : (since : Rows) (side : Side) (known : Bool) (when : When) (turns : List Turn) (w : Watch) → IsSeen since turns w
    → IsSeen since (record { side = side; known = known; when = when; items = []; deeds = no_deeds } ∷ turns) w
seen_begin since side known when turns w i = record {
  watched = watched_by (told_by turns) (told_by turns) (λ s. items_by s turns) _ w refl (λ s. none_more (is_same side s) (items_by s turns)) i.watched;
  rows = i.rows;
  appends = i.appends;
  shown = (i.rows, [], sym (append-nil i.rows), i.shown, ([], refl, refl));
}

-- Further items were judged in a turn.
pub seen_more : (since : Rows) (before : List Turn) (t : Turn) (more : List (ℕ × Item)) (w w' : Watch) → IsTurn t w → Took Watches w more w'
    → IsSeen since (t ∷ before) w → IsSeen since (with_more t more ∷ before) w'
seen_more since before t more w w' turn took i =
    let events = told_by (t ∷ before) in
    let rs = rows_more more events w w' took i.watched.matched in
    let mine = rows_same since.heading w.rows.heading t.when w.when t.side w.side t.known w.known more events rs.0 i.appends.heading turn.when turn.side
    turn.known rs.1 in
    let watched = watched_more more events (λ s. items_by s (t ∷ before)) w w' took i.watched in
    let mine_watched = subst (λ (b : Bool). IsWatched (tell t.side b more events) (with_items t.side more (λ s. items_by s (t ∷ before))) w') turn.known
    (subst (λ (s : Side). IsWatched (tell s w.known more events) (with_items s more (λ s. items_by s (t ∷ before))) w') turn.side watched) in
    let old = i.shown.4.0 in
    let none : deed_rows since.heading t.when t.side t.deeds ≡ [] = ap (deed_rows since.heading t.when t.side) turn.deeds in
    let was : i.shown.1 ≡ old = i.shown.4.1 ∙ ap (λ (l : List Shown). old ++ l) none ∙ append-nil old in
    record {
      watched = watched_by _ _ _ _ w' (tell_more t.side t.known t.items more (told_by before))
          (λ s. some_more (is_same t.side s) (items_by s before) t.items more) mine_watched;
      rows = i.rows ++ rs.0;
      appends = appends_more i.rows rs.0 since w.rows w'.rows i.appends rs.2;
      shown = (
        i.shown.0,
        i.shown.1 ++ rs.0,
        ap (λ (l : List Shown). l ++ rs.0) i.shown.2 ∙ append_assoc i.shown.0 i.shown.1 rs.0,
        i.shown.3,
        (
          old ++ rs.0,
          ap (λ (l : List Shown). l ++ rs.0) was ∙ sym (append-nil (old ++ rs.0)) ∙ ap (λ (l : List Shown). (old ++ rs.0) ++ l) (sym none),
          item_rows_more since.heading t.when t.side t.known t.items more (told_by before) old rs.0 i.shown.4.2 mine,
        ),
      );
    }

-- What its side did besides was told at a turn's end.
pub seen_deeds : (since : Rows) (before : List Turn) (t : Turn) (deeds : Deeds) (w v : Watch) → v ≡ record w { rows = v.rows } → IsTurn t w
    → Appends (deed_rows w.rows.heading w.when t.side deeds) w.rows v.rows → IsSeen since (t ∷ before) w
    → IsSeen since (record t { deeds = deeds } ∷ before) v
seen_deeds since before t deeds w v e turn appends i =
    let told = deed_rows since.heading t.when t.side deeds in
    let same = subst (λ (x : When). Appends (deed_rows since.heading x t.side deeds) w.rows v.rows) turn.when
    (subst (λ (x : Heading). Appends (deed_rows x w.when t.side deeds) w.rows v.rows) i.appends.heading appends) in
    let old = i.shown.4.0 in
    let none : deed_rows since.heading t.when t.side t.deeds ≡ [] = ap (deed_rows since.heading t.when t.side) turn.deeds in
    let was : i.shown.1 ≡ old = i.shown.4.1 ∙ ap (λ (l : List Shown). old ++ l) none ∙ append-nil old in
    record {
      watched = watched_same (told_by (t ∷ before)) (λ s. items_by s (t ∷ before)) w v (ap (λ (k : Watch). k.matcher) e) (ap (λ (k : Watch). k.a) e)
          (ap (λ (k : Watch). k.b) e) i.watched;
      rows = i.rows ++ told;
      appends = appends_more i.rows told since w.rows v.rows i.appends same;
      shown = (
        i.shown.0,
        i.shown.1 ++ told,
        ap (λ (l : List Shown). l ++ told) i.shown.2 ∙ append_assoc i.shown.0 i.shown.1 told,
        i.shown.3,
        (old, ap (λ (l : List Shown). l ++ told) was, i.shown.4.2),
      );
    }

pub seen_turned : (since : Rows) (side : Side) (known : Bool) (when : When) (turns : List Turn) (w v : Watch)
    → v ≡ record w { side = side; known = known; when = when } → IsSeen since turns w → IsSeen since turns v
seen_turned since side known when turns w v e i =
    let to : Watch = record w { side = side; known = known; when = when } in
    subst (λ (k : Watch). IsSeen since turns k) (sym e)
    (record {
      watched = watched_same (told_by turns) (λ s. items_by s turns) w to refl refl refl i.watched;
      rows = i.rows;
      appends = i.appends;
      shown = i.shown;
    })

both_none : (items : Side → List (ℕ × Item)) → items A ≡ [] → items B ≡ [] → (s : Side) → [] ≡ items s
both_none items e f A = sym e
both_none items e f B = sym f

pub seen_none : (events : List Told) (items : Side → List (ℕ × Item)) (w : Watch) → events ≡ [] → items A ≡ [] → items B ≡ [] → IsWatched events items w
    → IsSeen w.rows [] w
seen_none events items w e f g i = record {
  watched = watched_by events [] items (λ _. []) w (sym e) (both_none items f g) i;
  rows = [];
  appends = appends_none w.rows;
  shown = refl;
}

not_nil : {X : Type 0} (xs : List X) (x : X) → xs ++ x ∷ [] ≡ [] → ⊥
not_nil [] x e = absurd (cc)
not_nil (y ∷ ys) x e = absurd (cc)

one_said : (xs ys : List (ℕ × Message)) (x : ℕ × Message) (side : Side) → (if is_same side A then xs ++ x ∷ [] else xs) ≡ []
    → (if is_same side B then ys ++ x ∷ [] else ys) ≡ [] → ⊥
one_said xs ys x A e f = not_nil xs x e
one_said xs ys x B e f = not_nil ys x f

-- Without an item there is no event.
pub no_events : (events : List Told) → said_by A events ≡ [] → said_by B events ≡ [] → events ≡ []
no_events [] e f = refl
no_events (x ∷ xs) e f = absurd (one_said (said_by A xs) (said_by B xs) (x.mark, x.message) x.side e f)

-- ---- rows of other things

newly_refused : (h : Heading) (when : When) (side : Side) (before now : Option Refusal)
    → refusal_rows h when side before now ≡ refusal_rows h when side None (newly before now)
newly_refused h when side None None = refl
newly_refused h when side None (Some r) = refl
newly_refused h when side (Some r) now = refl

closed_at : (h : Heading) (when : When) (side : Side) (offset : ℕ) (closed : Option Means)
    → close_rows h when side offset closed ≡ closing_rows h when side (option_map (λ by. (offset, by)) closed)
closed_at h when side offset None = refl
closed_at h when side offset (Some by) = refl

-- a refusal that stands now, if none stood before, and a close after so many bytes, if there is one
abbrev pub deeds_by : Option Refusal → Option Refusal → ℕ → Option Means → Deeds
deeds_by before now offset closed = record { refused = newly before now; closed = option_map (λ by. (offset, by)) closed }

pub deeds_shown : (r r' : Rows) (h : Heading) (when : When) (side : Side) (before now : Option Refusal) (offset : ℕ) (closed : Option Means)
    → Appends (refusal_rows h when side before now ++ close_rows h when side offset closed) r r'
    → Appends (deed_rows h when side (deeds_by before now offset closed)) r r'
deeds_shown r r' h when side before now offset closed i =
    subst (λ (l : List Shown). Appends (refusal_rows h when side None (newly before now) ++ l) r r') (closed_at h when side offset closed)
    (subst (λ (l : List Shown). Appends (l ++ close_rows h when side offset closed) r r') (newly_refused h when side before now) i)

pub gap_shown : (r r' : Rows) (end : Option When) (side : Side) (start : ℕ) (first : Option Gap) (gap : Gap) (offset : ℕ)
    → first ≡ Some gap → offset ≡ gap.place - start
    → Appends (rows_at end (λ when. row_at r.heading when side offset (deed.Gap gap.length) no_remarks)) r r'
    → Appends (gap_rows r.heading end side start first) r r'
gap_shown r r' end side start first gap offset e g i =
    subst (λ (o : Option Gap). Appends (gap_rows r.heading end side start o) r r') (sym e)
    (subst (λ (n : ℕ). Appends (rows_at end (λ when. row_at r.heading when side n (deed.Gap gap.length) no_remarks)) r r') g i)

pub gap_unshown : (r : Rows) (end : Option When) (side : Side) (start : ℕ) (first : Option Gap) → first ≡ None
    → Appends (gap_rows r.heading end side start first) r r
gap_unshown r end side start first e = subst (λ (o : Option Gap). Appends (gap_rows r.heading end side start o) r r) (sym e) (appends_none r)

pub inside_shown : (r r' : Rows) (end : Option When) (side : Side) (o : Option Refusal) (f : Refusal) → o ≡ Some f
    → Appends (rows_at end (λ when. row_at r.heading when side f.at (deed.Refused f) no_remarks)) r r' → Appends (inside_rows r.heading end side o) r r'
inside_shown r r' end side o f e i = subst (λ (x : Option Refusal). Appends (inside_rows r.heading end side x) r r') (sym e) i

pub inside_unshown : (r : Rows) (end : Option When) (side : Side) (o : Option Refusal) → o ≡ None → Appends (inside_rows r.heading end side o) r r
inside_unshown r end side o e = subst (λ (x : Option Refusal). Appends (inside_rows r.heading end side x) r r) (sym e) (appends_none r)

-- Rows were appended before an error.
pub rows_before : {A E : Type 0} (r : Result A E) (rows : List Shown) (old new : Rows) → Appends rows old new → OnErr r ((xs : List Shown) × Appends xs old new)
rows_before (Ok x) rows old new i = tt
rows_before (Err e) rows old new i = (rows, i)
