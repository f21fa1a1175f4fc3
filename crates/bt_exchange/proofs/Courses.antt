-- What an end does, put together from its calls.
use Rattle.std.proofs.Common.{◌≡◌, ℕ, List, [], ◌∷◌, ◌++◌, length, take, Option, Some, None, Result, Ok, Err, refl, sym, ap, subst, ◌∙◌, ◌≤◌, arith}
use Rattle.std.proofs.lemmas.List.{append-nil, append_assoc, take-append-drop}
use Rattle.bt_wire.specs.declared.item.Item.{Item}
use Rattle.bt_wire.specs.declared.item.Refusal.{Refusal}
use Rattle.bt_feed.specs.Answers.{after}
use Rattle.bt_feed.specs.Feeds.{taken, pushed}
use Rattle.bt_feed.specs.Stages.{start_of, limit_of, IsItem}
use Rattle.bt_feed.proofs.Moving.{fed_none, fed_both, fed_push, fed_take}
use Rattle.bt_end.specs.Ends.{EndState, react, spelled}
use Rattle.bt_end.specs.Events.{event_of}
use Rattle.bt_end.specs.Halves.{HalfState, with_feed, reacted, received, without_sent}
use Rattle.bt_end.specs.declared.end.TurnError.{TurnError}
use Rattle.bt_end.specs.declared.end.TurnError.TheVariants as turn_error
use Rattle.bt_end.specs.declared.event.Event.{Event}
use Rattle.bt_exchange.specs.Courses.{end_after, events, replies, Course}
use Rattle.bt_exchange.specs.Steps.{IsNext}

pub end_both : (e : EndState) (xs ys : List (ℕ × Item)) → end_after e (xs ++ ys) ≡ end_after (end_after e xs) ys
end_both e [] ys = refl
end_both e (x ∷ xs) ys = end_both (react e x.1).end xs ys

pub replies_both : (e : EndState) (xs ys : List (ℕ × Item)) → replies e (xs ++ ys) ≡ replies e xs ++ replies (end_after e xs) ys
replies_both e [] ys = refl
replies_both e (x ∷ xs) ys =
    let r = react e x.1 in
    let q : List ℕ = spelled r.end r.queued in
    ap (λ (l : List ℕ). q ++ l) (replies_both r.end xs ys) ∙ sym (append_assoc q (replies r.end xs) (replies (end_after r.end xs) ys))

pub events_both : (e : EndState) (xs ys : List (ℕ × Item)) → events e (xs ++ ys) ≡ events e xs ++ events (end_after e xs) ys
events_both e [] ys = refl
events_both e (x ∷ xs) ys = ap (λ (l : List Event). event_of e x.1 ∷ l) (events_both (react e x.1).end xs ys)

pub length_events : (e : EndState) (xs : List (ℕ × Item)) → length (events e xs) ≡ length xs
length_events e [] = refl
length_events e (x ∷ xs) = let rest = length_events (react e x.1).end xs in omega (arith, rest)

-- ---- one after the other

pub both_bytes : (a p q s b t c : List ℕ) → a ++ p ≡ s ++ b → b ++ q ≡ t ++ c → a ++ (p ++ q) ≡ (s ++ t) ++ c
both_bytes a p q s b t c e f =
    sym (append_assoc a p q) ∙ ap (λ (l : List ℕ). l ++ q) e ∙ append_assoc s b q ∙ ap (λ (l : List ℕ). s ++ l) f ∙ sym (append_assoc s t c)

abbrev pub course_none : (a : HalfState) → Course a a [] []
course_none a = record { items = []; fed = fed_none a.feed; end = refl; bytes = append-nil a.outbox }

abbrev pub course_both : (a b c : HalfState) (h i s t : List ℕ) → Course a b h s → Course b c i t → Course a c (h ++ i) (s ++ t)
course_both a b c h i s t p q =
    let next : replies b.end q.items ≡ replies (end_after a.end p.items) q.items = ap (λ (e : EndState). replies e q.items) p.end in
    let second : b.outbox ++ replies (end_after a.end p.items) q.items ≡ t ++ c.outbox = ap (λ (l : List ℕ). b.outbox ++ l) (sym next) ∙ q.bytes in
    record {
      items = p.items ++ q.items;
      fed = fed_both a.feed b.feed c.feed h i p.items q.items p.fed q.fed;
      end = q.end ∙ ap (λ (e : EndState). end_after e q.items) p.end ∙ sym (end_both a.end p.items q.items);
      bytes = ap (λ (l : List ℕ). a.outbox ++ l) (replies_both a.end p.items q.items)
          ∙ both_bytes a.outbox (replies a.end p.items) (replies (end_after a.end p.items) q.items) s b.outbox t c.outbox p.bytes second;
    }

-- ---- the calls

-- a course whose items make these of the end
abbrev pub CourseOf : HalfState → HalfState → List ℕ → List ℕ → List Event → Type 0
CourseOf a b h s es = (p : Course a b h s) × (events a.end p.items ≡ es)

pub course_heard : (a : HalfState) (piece : List ℕ) (n : ℕ) → n ≡ taken a.feed piece → CourseOf a (received a piece) (take n piece) [] []
course_heard a piece n e =
    let P : ℕ → Type 0 = λ k. CourseOf a (received a piece) (take k piece) [] [] in
    subst P (sym e) (
      record {
        items = [];
        fed = fed_push a.feed (pushed a.feed piece) piece (taken a.feed piece) refl refl;
        end = refl;
        bytes = append-nil a.outbox;
      },
      refl,
    )

abbrev pub course_sent : (a : HalfState) (n : ℕ) → Course a (without_sent n a) [] (take n a.outbox)
course_sent a n = record {
  items = [];
  fed = fed_none a.feed;
  end = refl;
  bytes = append-nil a.outbox ∙ sym (take-append-drop n a.outbox);
}

abbrev course_item : (a : HalfState) (item : Item) → limit_of a.feed.stage ≤ 1048576 → IsItem a.feed.stage a.feed.held item
    → Course a (reacted (with_feed a (after a.feed (Ok (Some item)))) (react a.end item)) [] []
course_item a item l is =
    let r = react a.end item in
    record {
      items = (start_of a.feed.stage, item) ∷ [];
      fed = fed_take a.feed (after a.feed (Ok (Some item))) item l is refl;
      end = refl;
      bytes = ap (λ (l : List ℕ). a.outbox ++ l) (append-nil (spelled r.end r.queued));
    }

abbrev course_refused : (a : HalfState) (r : Refusal) → Course a (with_feed a (after a.feed (Err r))) [] []
course_refused a r = record {
  items = [];
  fed = record { comes = λ later v k. k; spells = (refl, append-nil a.feed.held) };
  end = refl;
  bytes = append-nil a.outbox;
}

to : (a b c : HalfState) (es : List Event) → b ≡ c → CourseOf a c [] [] es → CourseOf a b [] [] es
to a b c es e p = let P : HalfState → Type 0 = λ x. CourseOf a x [] [] es in subst P (sym e) p

-- what the item of a turn makes of the end
abbrev pub turned_events : Result (Option Event) TurnError → List Event
turned_events (Ok (Some e)) = e ∷ []
turned_events other = []

pub course_turned : (a b : HalfState) (r : Result (Option Event) TurnError) → limit_of a.feed.stage ≤ 1048576 → IsNext a r b
    → CourseOf a b [] [] (turned_events r)
course_turned a b (Ok (Some e)) l h =
    let t = h.0 in
    to a b (reacted (with_feed a (after a.feed (Ok (Some t.0)))) (react a.end t.0)) (e ∷ []) t.2
    (course_item a t.0 l t.1.1, ap (λ (x : Event). x ∷ []) (sym h.1))
course_turned a b (Ok None) l h = to a b a [] h.1 (course_none a, refl)
course_turned a b (Err (turn_error.Refused r)) l h = to a b (with_feed a (after a.feed (Err r))) [] h.1 (course_refused a r, refl)
course_turned a b (Err turn_error.Busy) l h = to a b a [] h.1 (course_none a, refl)
course_turned a b (Err turn_error.Memory) l h = to a b a [] h.3 (course_none a, refl)

-- bytes were given, and a turn followed
pub course_round : (a b c : HalfState) (piece : List ℕ) (n : ℕ) (r : Result (Option Event) TurnError) → limit_of a.feed.stage ≤ 1048576
    → n ≡ taken a.feed piece → b ≡ received a piece → IsNext b r c → CourseOf a c (take n piece) [] (turned_events r)
course_round a b c piece n r l e f t =
    let m = received a piece in
    let turned : IsNext m r c = let P : HalfState → Type 0 = λ x. IsNext x r c in subst P f t in
    let first = course_heard a piece n e in
    let next = course_turned m c r l turned in
    let xs = first.0.items in
    let ys = next.0.items in
    let P : List ℕ → Type 0 = λ h. CourseOf a c h [] (turned_events r) in
    subst P (append-nil (take n piece)) (
      course_both a m c (take n piece) [] [] [] first.0 next.0,
      events_both a.end xs ys ∙ ap (λ (l : List Event). l ++ events (end_after a.end xs) ys) first.1
          ∙ ap (λ (x : EndState). events x ys) (sym first.0.end) ∙ next.1,
    )
