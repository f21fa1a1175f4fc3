-- What is kept of further items.
use Rattle.std.proofs.Common.{◌≡◌, ◌∙◌, ℕ, Bool, true, false, List, [], ◌∷◌, ◌++◌}
use Rattle.std.proofs.Common.{append-nil, append_assoc, Option, Some, None, refl, sym, ap, subst, if◌then◌else◌}
use Rattle.bt_feed.specs.Pumps.{Took}
use Rattle.bt_remarks.specs.declared.events.Remarks.{Remarks}
use Rattle.bt_remarks.specs.declared.events.Side.{Side}
use Rattle.bt_remarks.specs.declared.events.Side.TheVariants.{A, B}
use Rattle.bt_remarks.specs.declared.tallies.Found.{Found}
use Rattle.bt_remarks.specs.declared.tallies.Tally.{Tally}
use Rattle.bt_remarks.specs.declared.matcher.Matcher.{Matcher}
use Rattle.bt_remarks.specs.Matched.{IsMatched}
use Rattle.bt_remarks.specs.Remarked.{remarks_on, tally_of, tally_after, found_after, first_of}
use Rattle.bt_remarks.specs.Said.{Told, Message, is_same}
use Rattle.bt_rows.specs.declared.said.Said.{Said}
use Rattle.bt_wire.specs.declared.item.Item.{Item}
use Rattle.bt_talk.specs.declared.watch.Watch.{Watch}
use Rattle.bt_talk.specs.Events.{event_of}
use Rattle.bt_talk.specs.Watching.{IsSaid, told_of, tell, said_by, messages_of, IsAmong, IsItemAt, AreNoted, notes_of, IsWatched, with_items, Watches}
use Rattle.bt_talk.specs.Kept.{Kept, first_said, noted}

-- ---- the first item with a remark

among_more : (xs : List (ℕ × Item)) (x : ℕ × Item) (offset : ℕ) (said : Said) → IsAmong xs offset said → IsAmong (xs ++ x ∷ []) offset said
among_more xs x offset said i = record {
  before = i.before;
  item = i.item;
  after = i.after ++ x ∷ [];
  parts = ap (λ (l : List (ℕ × Item)). l ++ x ∷ []) i.parts ∙ append_assoc i.before (i.item ∷ i.after) (x ∷ []);
  place = i.place;
  is = i.is;
}

item_more : (xs : List (ℕ × Item)) (x : ℕ × Item) (offset : Option ℕ) (o : Option Said) → IsItemAt xs offset o → IsItemAt (xs ++ x ∷ []) offset o
item_more xs x None None i = tt
item_more xs x None (Some said) i = absurd i
item_more xs x (Some offset) None i = absurd i
item_more xs x (Some offset) (Some said) i = among_more xs x offset said i

item_found : (xs : List (ℕ × Item)) (x : ℕ × Item) (offset : Option ℕ) (o : Option Said) (said : Said) → IsSaid x said → IsItemAt xs offset o
    → IsItemAt (xs ++ x ∷ []) (first_of offset x.0) (first_said true said o)
item_found xs x None None said is i = record { before = xs; item = x; after = []; parts = refl; place = refl; is = is }
item_found xs x None (Some first) said is i = absurd i
item_found xs x (Some offset) None said is i = absurd i
item_found xs x (Some offset) (Some first) said is i = among_more xs x offset first i

item_kept : (xs : List (ℕ × Item)) (x : ℕ × Item) (offset : Option ℕ) (o : Option Said) (said : Said) → IsItemAt xs offset o
    → IsItemAt (xs ++ x ∷ []) offset (first_said false said o)
item_kept xs x offset None said i = item_more xs x offset None i
item_kept xs x offset (Some first) said i = item_more xs x offset (Some first) i

first_more : (xs : List (ℕ × Item)) (x : ℕ × Item) (has : Bool) (found : Found) (o : Option Said) (said : Said) → IsSaid x said → IsItemAt xs found.first o
    → IsItemAt (xs ++ x ∷ []) (found_after has x.0 found).first (first_said has said o)
first_more xs x true found o said is i = item_found xs x found.first o said is i
first_more xs x false found o said is i = item_kept xs x found.first o said i

-- ---- one item

messages_more : (xs : List (ℕ × Item)) (x : ℕ × Item) → messages_of (xs ++ x ∷ []) ≡ messages_of xs ++ (x.0, event_of x.1) ∷ []
messages_more [] x = refl
messages_more (y ∷ ys) x = ap (λ (l : List (ℕ × Message)). (y.0, event_of y.1) ∷ l) (messages_more ys x)

said_next : (side : Side) (e : Told) (events : List Told) (b : Bool) → is_same e.side side ≡ b
    → said_by side (e ∷ events) ≡ (if b then said_by side events ++ (e.mark, e.message) ∷ [] else said_by side events)
said_next side e events b is = ap (λ (k : Bool). if k then said_by side events ++ (e.mark, e.message) ∷ [] else said_by side events) is

tally_next : (side : Side) (e : Told) (events : List Told) (b : Bool) → is_same e.side side ≡ b
    → tally_of side (e ∷ events) ≡ (if b then tally_after (remarks_on e events) e.mark (tally_of side events) else tally_of side events)
tally_next side e events b is =
    ap (λ (k : Bool). if k then tally_after (remarks_on e events) e.mark (tally_of side events) else tally_of side events) is

noted_mine : (s : Side) (e : Told) (events : List Told) (xs : List (ℕ × Item)) (x : ℕ × Item) (n : Kept) (said : Said) → is_same e.side s ≡ true
    → e.mark ≡ x.0 → e.message ≡ event_of x.1 → IsSaid x said → AreNoted s events xs n
    → AreNoted s (e ∷ events) (xs ++ x ∷ []) (noted (remarks_on e events) said n)
noted_mine s e events xs x n said same mark message is i =
    let r = remarks_on e events in
    let old = tally_of s events in
    let tally : tally_of s (e ∷ events) ≡ tally_after r x.0 old =
    tally_next s e events true same ∙ ap (λ (k : ℕ). tally_after r k old) mark in
    record {
      said = said_next s e events true same ∙ ap (λ (l : List (ℕ × Message)). l ++ (e.mark, e.message) ∷ []) i.said
          ∙ ap (λ (k : ℕ). messages_of xs ++ (k, e.message) ∷ []) mark ∙ ap (λ (m : Message). messages_of xs ++ (x.0, m) ∷ []) message
          ∙ sym (messages_more xs x);
      last = (xs, x, refl, is);
      unasked = subst (λ (t : Tally). IsItemAt (xs ++ x ∷ []) t.unasked.first (first_said r.unasked said n.firsts.unasked)) (sym tally)
          (first_more xs x r.unasked old.unasked n.firsts.unasked said is i.unasked);
      choked = subst (λ (t : Tally). IsItemAt (xs ++ x ∷ []) t.choked.first (first_said r.choked said n.firsts.choked)) (sym tally)
          (first_more xs x r.choked old.choked n.firsts.choked said is i.choked);
      again = subst (λ (t : Tally). IsItemAt (xs ++ x ∷ []) t.again.first (first_said r.again said n.firsts.again)) (sym tally)
          (first_more xs x r.again old.again n.firsts.again said is i.again);
      elsewhere = subst (λ (t : Tally). IsItemAt (xs ++ x ∷ []) t.elsewhere.first (first_said r.elsewhere said n.firsts.elsewhere)) (sym tally)
          (first_more xs x r.elsewhere old.elsewhere n.firsts.elsewhere said is i.elsewhere);
    }

noted_theirs : (s : Side) (e : Told) (events : List Told) (xs : List (ℕ × Item)) (n : Kept) → is_same e.side s ≡ false → AreNoted s events xs n
    → AreNoted s (e ∷ events) xs n
noted_theirs s e events xs n same i =
    let tally = tally_next s e events false same in
    record {
      said = said_next s e events false same ∙ i.said;
      last = i.last;
      unasked = subst (λ (t : Tally). IsItemAt xs t.unasked.first n.firsts.unasked) (sym tally) i.unasked;
      choked = subst (λ (t : Tally). IsItemAt xs t.choked.first n.firsts.choked) (sym tally) i.choked;
      again = subst (λ (t : Tally). IsItemAt xs t.again.first n.firsts.again) (sym tally) i.again;
      elsewhere = subst (λ (t : Tally). IsItemAt xs t.elsewhere.first n.firsts.elsewhere) (sym tally) i.elsewhere;
    }

noted_step : (s side : Side) (known : Bool) (events : List Told) (xs : List (ℕ × Item)) (x : ℕ × Item) (n n' : Kept) (said : Said) (r : Remarks) (b : Bool)
    → is_same side s ≡ b → IsSaid x said → r ≡ remarks_on (told_of side known x) events → n' ≡ (if b then noted r said n else n) → AreNoted s events xs n
    → AreNoted s (told_of side known x ∷ events) (if b then xs ++ x ∷ [] else xs) n'
noted_step s side known events xs x n n' said r true same is remarks e i =
    let now : n' ≡ noted (remarks_on (told_of side known x) events) said n = e ∙ ap (λ (k : Remarks). noted k said n) remarks in
    subst (λ (m : Kept). AreNoted s (told_of side known x ∷ events) (xs ++ x ∷ []) m) (sym now)
    (noted_mine s (told_of side known x) events xs x n said same refl refl is i)
noted_step s side known events xs x n n' said r false same is remarks e i =
    subst (λ (m : Kept). AreNoted s (told_of side known x ∷ events) xs m) (sym e) (noted_theirs s (told_of side known x) events xs n same i)

watched_one : (events : List Told) (items : Side → List (ℕ × Item)) (w : Watch) (x : ℕ × Item) (w' : Watch) → IsWatched events items w → Watches w x w'
    → IsWatched (told_of w.side w.known x ∷ events) (with_items w.side (x ∷ []) items) w'
watched_one events items w x w' i h =
    let m = h.matched events i.matched in
    record {
      matched = m.1;
      notes = λ s. noted_step s w.side w.known events (items s) x (notes_of s w) (notes_of s w') h.said h.remarks (is_same w.side s) refl h.is m.0 (h.notes s)
          (i.notes s);
    }

-- ---- more items

items_same : (events : List Told) (items items' : Side → List (ℕ × Item)) (w : Watch) → ((s : Side) → items s ≡ items' s) → IsWatched events items w
    → IsWatched events items' w
items_same events items items' w e i = record {
  matched = i.matched;
  notes = λ s. subst (λ (l : List (ℕ × Item)). AreNoted s events l (notes_of s w)) (e s) (i.notes s);
}

none_more : (b : Bool) (xs : List (ℕ × Item)) → xs ≡ (if b then xs ++ [] else xs)
none_more true xs = sym (append-nil xs)
none_more false xs = refl

one_more : (b : Bool) (xs : List (ℕ × Item)) (x : ℕ × Item) (ys : List (ℕ × Item))
    → (if b then (if b then xs ++ x ∷ [] else xs) ++ ys else (if b then xs ++ x ∷ [] else xs)) ≡ (if b then xs ++ x ∷ ys else xs)
one_more true xs x ys = append_assoc xs (x ∷ []) ys
one_more false xs x ys = refl

pub watched_more : (more : List (ℕ × Item)) (events : List Told) (items : Side → List (ℕ × Item)) (w w' : Watch) → Took Watches w more w'
    → IsWatched events items w → IsWatched (tell w.side w.known more events) (with_items w.side more items) w'
watched_more [] events items w w' took i =
    subst (λ (v : Watch). IsWatched events (with_items w.side [] items) v) (sym took)
    (items_same events items (with_items w.side [] items) w (λ s. none_more (is_same w.side s) (items s)) i)
watched_more (x ∷ xs) events items w w' took i =
    let next = took.0 in
    let e = told_of w.side w.known x in
    let now = with_items w.side (x ∷ []) items in
    let rest = watched_more xs (e ∷ events) now next w' took.2 (watched_one events items w x next i took.1) in
    let sides = subst (λ (s : Side). IsWatched (tell s next.known xs (e ∷ events)) (with_items s xs now) w') took.1.side rest in
    let knows = subst (λ (k : Bool). IsWatched (tell w.side k xs (e ∷ events)) (with_items w.side xs now) w') took.1.known sides in
    items_same (tell w.side w.known xs (e ∷ events)) (with_items w.side xs now) (with_items w.side (x ∷ xs) items) w'
    (λ s. one_more (is_same w.side s) (items s) x xs) knows

notes_like : (s : Side) (w v : Watch) → v.a ≡ w.a → v.b ≡ w.b → notes_of s v ≡ notes_of s w
notes_like A w v e f = e
notes_like B w v e f = f

notes_same : (s side : Side) (known : Bool) (w : Watch) → notes_of s w ≡ notes_of s (record w { side = side; known = known })
notes_same A side known w = refl
notes_same B side known w = refl

pub turned : (side : Side) (known : Bool) (events : List Told) (items : Side → List (ℕ × Item)) (w : Watch) → IsWatched events items w
    → IsWatched events items (record w { side = side; known = known })
turned side known events items w i = record {
  matched = i.matched;
  notes = λ s. subst (λ (n : Kept). AreNoted s events (items s) n) (notes_same s side known w) (i.notes s);
}

-- What else a watch has doesn't matter.
pub watched_same : (events : List Told) (items : Side → List (ℕ × Item)) (w v : Watch) → v.matcher ≡ w.matcher → v.a ≡ w.a → v.b ≡ w.b
    → IsWatched events items w → IsWatched events items v
watched_same events items w v e f g i = record {
  matched = subst (λ (m : Matcher). IsMatched events m) (sym e) i.matched;
  notes = λ s. subst (λ (n : Kept). AreNoted s events (items s) n) (sym (notes_like s w v f g)) (i.notes s);
}

pub nothing_watched : (side : Side) (events : List Told) (items : Side → List (ℕ × Item)) (w : Watch) → IsWatched events items w
    → IsWatched events (with_items side [] items) w
nothing_watched side events items w i = items_same events items (with_items side [] items) w (λ s. none_more (is_same side s) (items s)) i

-- An item of one side is noted.
pub noted_both : (w w' : Watch) (r : Remarks) (said : Said) (side s : Side) → w'.a ≡ (if is_same side A then noted r said w.a else w.a)
    → w'.b ≡ (if is_same side B then noted r said w.b else w.b) → notes_of s w' ≡ (if is_same side s then noted r said (notes_of s w) else notes_of s w)
noted_both w w' r said side A e f = e
noted_both w w' r said side B e f = f

-- The matcher took the item as an event.
pub matched_by : (side : Side) (known : Bool) (x : ℕ × Item) (message : Message) (r : Remarks) (m m' : Matcher) → message ≡ event_of x.1
    → (let e : Told = record { side = side; message = message; known = known; mark = x.0 } in (events : List Told) → IsMatched events m
    → (r ≡ remarks_on e events) × IsMatched (e ∷ events) m') → (events : List Told) → IsMatched events m
    → (r ≡ remarks_on (told_of side known x) events) × IsMatched (told_of side known x ∷ events) m'
matched_by side known x message r m m' e h events i =
    subst (λ (k : Message). let e : Told = record { side = side; message = k; known = known; mark = x.0 } in
    (r ≡ remarks_on e events) × IsMatched (e ∷ events) m') e (h events i)
