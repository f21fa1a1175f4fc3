-- What an end that serves and its connection do, put together from their steps.
use Rattle.std.proofs.Common.{◌≡◌, ℕ, ◌+◌, ◌≤◌, Bool, true, false, ◌||◌, List, [], ◌∷◌, ◌++◌, length, flat_map, Option, Some, None, refl, sym, ap, subst, ◌∙◌}
use Rattle.std.proofs.Common.{arith, length-append}
use Rattle.std.proofs.lemmas.List.{append-nil, append_assoc}
use Rattle.std.proofs.lemmas.Grind.{flat_map-append}
use Rattle.std.proofs.KnownBytes.{Consumes-nil, Consumes-trans, Appends-nil, Appends-trans}
use Rattle.bt_wire.specs.declared.item.Item.{Item}
use Rattle.bt_wire.specs.Messages.{Message, spell}
use Rattle.bt_feed.specs.Feeds.{FeedState}
use Rattle.bt_feed.specs.Pumps.{IsFed}
use Rattle.bt_feed.proofs.Moving.{fed_none, fed_both}
use Rattle.bt_end.specs.Ends.{EndState, Reaction, react, belief, spelled}
use Rattle.bt_end.specs.Events.{event_of}
use Rattle.bt_end.specs.Halves.{HalfState}
use Rattle.bt_end.specs.declared.event.Event.{Event}
use Rattle.bt_exchange.specs.Connections.{Seen}
use Rattle.bt_exchange.specs.Courses.{Course, Moment, IsMoved, end_after, events, replies}
use Rattle.bt_exchange.specs.Stops.{is_piece}
use Rattle.bt_exchange.proofs.Courses.{both_bytes}
use Rattle.bt_serve.specs.Services.{IsServing, Service, answer_to, answers, end_served, has_piece, queued_at, said, saying, served_at}

abbrev pub moment : Seen → List ℕ → HalfState → Moment
moment s p a = record { seen = s; pending = p; half = a }

-- ---- one after the other

pub end_both : (e : EndState) (xs ys : List (ℕ × Item)) → end_served e (xs ++ ys) ≡ end_served (end_served e xs) ys
end_both e [] ys = refl
end_both e (x ∷ xs) ys = end_both (served_at e x.1).end xs ys

pub answers_both : (e : EndState) (xs ys : List (ℕ × Item)) → answers e (xs ++ ys) ≡ answers e xs ++ answers (end_served e xs) ys
answers_both e [] ys = refl
answers_both e (x ∷ xs) ys =
    let r = served_at e x.1 in
    let q : List ℕ = spelled r.end r.queued in
    ap (λ (l : List ℕ). q ++ l) (answers_both r.end xs ys) ∙ sym (append_assoc q (answers r.end xs) (answers (end_served r.end xs) ys))

pub queued_both : (e : EndState) (xs ys : List (ℕ × Item)) → queued_at e (xs ++ ys) ≡ queued_at e xs + queued_at (end_served e xs) ys
queued_both e [] ys = omega arith
queued_both e (x ∷ xs) ys =
    let r = served_at e x.1 in
    let rest : queued_at r.end (xs ++ ys) ≡ queued_at r.end xs + queued_at (end_served r.end xs) ys = queued_both r.end xs ys in
    omega (arith, rest)

or_assoc : (a b c : Bool) → (a || (b || c)) ≡ ((a || b) || c)
or_assoc true b c = refl
or_assoc false b c = refl

pub piece_both : (e : EndState) (xs ys : List (ℕ × Item)) → has_piece e (xs ++ ys) ≡ (has_piece e xs || has_piece (end_served e xs) ys)
piece_both e [] ys = refl
piece_both e (x ∷ xs) ys =
    let r = served_at e x.1 in
    ap (λ (b : Bool). is_piece (event_of e x.1) || b) (piece_both r.end xs ys)
    ∙ or_assoc (is_piece (event_of e x.1)) (has_piece r.end xs) (has_piece (end_served r.end xs) ys)

abbrev pub service_none : (a : HalfState) → Service a a [] []
service_none a = record { items = []; fed = fed_none a.feed; end = refl; bytes = append-nil a.outbox }

abbrev pub service_both : (a b c : HalfState) (h i s t : List ℕ) → Service a b h s → Service b c i t → Service a c (h ++ i) (s ++ t)
service_both a b c h i s t p q =
    let next : answers b.end q.items ≡ answers (end_served a.end p.items) q.items = ap (λ (e : EndState). answers e q.items) p.end in
    let second : b.outbox ++ answers (end_served a.end p.items) q.items ≡ t ++ c.outbox = ap (λ (l : List ℕ). b.outbox ++ l) (sym next) ∙ q.bytes in
    record {
      items = p.items ++ q.items;
      fed = fed_both a.feed b.feed c.feed h i p.items q.items p.fed q.fed;
      end = q.end ∙ ap (λ (e : EndState). end_served e q.items) p.end ∙ sym (end_both a.end p.items q.items);
      bytes = ap (λ (l : List ℕ). a.outbox ++ l) (answers_both a.end p.items q.items)
          ∙ both_bytes a.outbox (answers a.end p.items) (answers (end_served a.end p.items) q.items) s b.outbox t c.outbox p.bytes second;
    }

abbrev pub serving_none : (m : Moment) → IsServing m m
serving_none m = record {
  got = [];
  heard = [];
  sent = [];
  course = service_none m.half;
  pending = append-nil m.pending;
  reads = Consumes-nil m.seen.coming;
  writes = Appends-nil m.seen.gone;
}

abbrev pub serving_both : (a b c : Moment) → IsServing a b → IsServing b c → IsServing a c
serving_both a b c p q = record {
  got = p.got ++ q.got;
  heard = p.heard ++ q.heard;
  sent = p.sent ++ q.sent;
  course = service_both a.half b.half c.half p.heard q.heard p.sent q.sent p.course q.course;
  pending = sym (append_assoc a.pending p.got q.got) ∙ ap (λ (l : List ℕ). l ++ q.got) p.pending ∙ append_assoc p.heard b.pending q.got
      ∙ ap (λ (l : List ℕ). p.heard ++ l) q.pending ∙ sym (append_assoc p.heard q.heard c.pending);
  reads = Consumes-trans _ _ _ p.got q.got p.reads q.reads;
  writes = Appends-trans _ _ _ p.sent q.sent p.writes q.writes;
}

-- ---- a step that handled nothing

still_of : (a b : HalfState) (h s : List ℕ) (xs : List (ℕ × Item)) → IsFed a.feed h xs b.feed → b.end ≡ end_after a.end xs
    → a.outbox ++ replies a.end xs ≡ s ++ b.outbox → length xs ≡ 0 → (c : Service a b h s) × (c.items ≡ [])
still_of a b h s [] fed end bytes z = (record { items = []; fed = fed; end = end; bytes = bytes }, refl)
still_of a b h s (x ∷ xs) fed end bytes z = absurd (omega (arith, z))

-- what a step did that handled nothing
pub record IsStill (old new : Moment) (m : IsMoved old new) : Type 0 where
  pub serving : IsServing old new
  pub items : serving.course.items ≡ []
  pub got : serving.got ≡ m.got
  pub sent : serving.sent ≡ m.sent

pub serving_still : (old new : Moment) (m : IsMoved old new) → length m.course.items ≡ 0 → IsStill old new m
serving_still old new m z =
    let c = still_of old.half new.half m.heard m.sent m.course.items m.course.fed m.course.end m.course.bytes z in
    record {
      serving = record {
        got = m.got;
        heard = m.heard;
        sent = m.sent;
        course = c.0;
        pending = m.pending;
        reads = m.reads;
        writes = m.writes;
      };
      items = c.1;
      got = refl;
      sent = refl;
    }

-- ---- a step that handled an item, and the answer

-- the reaction to an item, and a message after it
answered : (a b c : HalfState) (s : List ℕ) (r : Reaction) (o : Option Message) → b.end ≡ r.end → a.outbox ++ (spelled r.end r.queued ++ []) ≡ s ++ b.outbox
    → c ≡ said o b → (c.end ≡ (saying o r).end) × (a.outbox ++ (spelled (saying o r).end (saying o r).queued ++ []) ≡ s ++ c.outbox)
answered a b c s r None end bytes is = (ap (λ (x : HalfState). x.end) is ∙ end, bytes ∙ ap (λ (x : HalfState). s ++ x.outbox) (sym is))
answered a b c s r (Some msg) end bytes is =
    let f : Message → List ℕ = spell (belief r.end) in
    let q : List ℕ = flat_map f (msg ∷ []) in
    let box : c.outbox ≡ b.outbox ++ q = ap (λ (x : HalfState). x.outbox) is
    ∙ ap (λ (e : EndState). b.outbox ++ flat_map (spell (belief e)) (msg ∷ [])) end in
    let both : flat_map f (r.queued ++ (msg ∷ [])) ≡ flat_map f r.queued ++ q = flat_map-append f r.queued (msg ∷ []) in (
      ap (λ (x : HalfState). x.end) is ∙ ap (λ (e : EndState). (saying (Some msg) (record { end = e; queued = r.queued })).end) end,
      ap (λ (l : List ℕ). a.outbox ++ (l ++ [])) both
          ∙ ap (λ (l : List ℕ). a.outbox ++ l) (append-nil (flat_map f r.queued ++ q))
          ∙ sym (append_assoc a.outbox (flat_map f r.queued) q)
          ∙ ap (λ (l : List ℕ). (a.outbox ++ l) ++ q) (sym (append-nil (flat_map f r.queued)))
          ∙ ap (λ (l : List ℕ). l ++ q) bytes
          ∙ append_assoc s b.outbox q
          ∙ ap (λ (l : List ℕ). s ++ l) (sym box),
    )

one_of : (a b c : HalfState) (h s : List ℕ) (xs : List (ℕ × Item)) (e : Event) → IsFed a.feed h xs b.feed → b.end ≡ end_after a.end xs
    → a.outbox ++ replies a.end xs ≡ s ++ b.outbox → c.feed ≡ b.feed → events a.end xs ≡ e ∷ [] → c ≡ said (answer_to (belief b.end) e) b
    → (k : Service a c h s) × ((x : ℕ × Item) × (k.items ≡ x ∷ []) × (e ≡ event_of a.end x.1))
one_of a b c h s [] e fed end bytes same told is = absurd cc
one_of a b c h s (x ∷ []) e fed end bytes same told is =
    let r = react a.end x.1 in
    let ev = event_of a.end x.1 in
    let told' : ev ≡ e = cc in
    let o : answer_to (belief b.end) e ≡ answer_to (belief r.end) ev =
    ap (λ (y : EndState). answer_to (belief y) e) end ∙ ap (λ (y : Event). answer_to (belief r.end) y) (sym told') in
    let is' : c ≡ said (answer_to (belief r.end) ev) b = is ∙ ap (λ (y : Option Message). said y b) o in
    let both = answered a b c s r (answer_to (belief r.end) ev) end bytes is' in (
      record {
        items = x ∷ [];
        fed = subst (λ (f : FeedState). IsFed a.feed h (x ∷ []) f) (sym same) fed;
        end = both.0;
        bytes = both.1;
      },
      (x, refl, sym told'),
    )
one_of a b c h s (x ∷ y ∷ xs) e fed end bytes same told is = absurd cc

said_feed : (o : Option Message) (b : HalfState) → (said o b).feed ≡ b.feed
said_feed None b = refl
said_feed (Some msg) b = refl

-- a step that handled an item, whose answer is queued then
pub record IsHeard (old new : Moment) (m : IsMoved old new) (h : HalfState) (e : Event) : Type 0 where
  pub serving : IsServing old (moment new.seen new.pending h)
  pub item : ℕ × Item
  pub items : serving.course.items ≡ item ∷ []
  pub event : e ≡ event_of old.half.end item.1
  pub got : serving.got ≡ m.got
  pub sent : serving.sent ≡ m.sent

pub serving_heard : (old new : Moment) (m : IsMoved old new) (h : HalfState) (e : Event) → events old.half.end m.course.items ≡ e ∷ []
    → h ≡ said (answer_to (belief new.half.end) e) new.half → IsHeard old new m h e
serving_heard old new m h e told is =
    let feed : h.feed ≡ new.half.feed = ap (λ (x : HalfState). x.feed) is ∙ said_feed (answer_to (belief new.half.end) e) new.half in
    let c = one_of old.half new.half h m.heard m.sent m.course.items e m.course.fed m.course.end m.course.bytes feed told is in
    record {
      serving = record {
        got = m.got;
        heard = m.heard;
        sent = m.sent;
        course = c.0;
        pending = m.pending;
        reads = m.reads;
        writes = m.writes;
      };
      item = c.1.0;
      items = c.1.1;
      event = c.1.2;
      got = refl;
      sent = refl;
    }

-- the one item that made this of an end
pub one_item : (e : EndState) (xs : List (ℕ × Item)) (v : Event) → events e xs ≡ v ∷ [] → (x : ℕ × Item) × (xs ≡ x ∷ []) × (v ≡ event_of e x.1)
one_item e [] v told = absurd cc
one_item e (x ∷ []) v told = let same : event_of e x.1 ≡ v = cc in (x, refl, sym same)
one_item e (x ∷ y ∷ xs) v told = absurd cc
