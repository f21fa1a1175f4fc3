-- What a direction hands out, after one more packet.
use Rattle.std.proofs.Common.{◌≡◌, ℕ, ◌+◌, ◌<◌, ◌≤◌, ◌%◌, ◌^◌, Bool, true, false, List, [], ◌∷◌, ◌++◌, length, length-append}
use Rattle.std.proofs.Common.{Option, Some, None, refl, sym, subst, ap, ◌∙◌, arith, append_assoc, append-nil, inl, inr}
use Rattle.std.proofs.lemmas.Bool.{cases_eq}
use Rattle.std.proofs.lemmas.Grind.{common_steps}
use Rattle.bt_order.specs.declared.direction.Course.{Course}
use Rattle.bt_order.specs.declared.direction.Course.TheVariants.{Open, Finished, Cut, Lost}
use Rattle.bt_order.specs.declared.direction.Direction.{Direction}
use Rattle.bt_order.specs.declared.held.Held.{Held}
use Rattle.bt_order.specs.declared.held.Payload.{Payload}
use Rattle.bt_order.specs.Numbers.{IsNearestNumber}
use Rattle.bt_order.specs.Streams.{Packet, packet_at, utp_stream}
use Rattle.bt_order.specs.Held.{held_at, packet_with, or_packet, only, Holds, HasNoRoom, SameHeld}
use Rattle.bt_order.specs.Directions.{IsReached, HoldsFrom, IsPassed, Has, is_open, is_finished, is_lost}
use Rattle.bt_order.specs.Directions.{IsDirectionOf, SameStart, Passes, Settles, Takes, Stays, TakesNumber}
use Rattle.bt_order.proofs.Payloads.{Extends, packet_at-push, extends_push, stream_grows}
use Rattle.bt_order.proofs.Passing.{reached_more, ended_more, is_exact, tells_fin}

-- ---- courses

pub open_state : (at : ℕ → Option Packet) (out : List ℕ) (course : Course) (next : ℕ) (held : ℕ → Option Packet)
    → is_open course ≡ true → IsPassed at out course next held → IsReached at out next × HoldsFrom next at held
open_state at out Open next held o s = s
open_state at out Finished next held o s = cc
open_state at out Cut next held o s = cc
open_state at out Lost next held o s = cc

is_opened : (at : ℕ → Option Packet) (out : List ℕ) (course : Course) (next : ℕ) (held : ℕ → Option Packet)
    → is_open course ≡ true → IsReached at out next → HoldsFrom next at held → IsPassed at out course next held
is_opened at out Open next held o r h = (r, h)
is_opened at out Finished next held o r h = cc
is_opened at out Cut next held o r h = cc
is_opened at out Lost next held o r h = cc

ended_state : (at at' : ℕ → Option Packet) (out : List ℕ) (course : Course) (next : ℕ) (held : ℕ → Option Packet)
    → is_open course ≡ false → Extends at at' → IsPassed at out course next held → IsPassed at' out course next held
ended_state at at' out Open next held o ext s = cc
ended_state at at' out Finished next held o ext s = ended_more at at' out next false ext s
ended_state at at' out Cut next held o ext s = ended_more at at' out next true ext s
ended_state at at' out Lost next held o ext s = tt

open_found : (course : Course) → is_open course ≡ true → is_lost course ≡ false
open_found Open o = refl
open_found Finished o = cc
open_found Cut o = cc
open_found Lost o = cc

-- If more is taken, what is held is the same.
pub held_else : (at : ℕ → Option Packet) (out : List ℕ) (course : Course) (next : ℕ) (held held' : ℕ → Option Packet)
    → (is_open course ≡ true → (i : ℕ) → held' i ≡ held i) → IsPassed at out course next held → IsPassed at out course next held'
held_else at out Open next held held' same s =
    (s.0, record { later = λ i le. same refl i ∙ s.1.later i le; none = λ i lt. same refl i ∙ s.1.none i lt })
held_else at out Finished next held held' same s = s
held_else at out Cut next held held' same s = s
held_else at out Lost next held held' same s = s

-- ---- packets that follow each other

pub passes_none : (d : Direction) (given : List ℕ) → Passes d given d given
passes_none d given = record {
  more = [];
  is = sym (append-nil given);
  start = record { first = refl; base = refl };
  place = λ start h. omega (arith, h);
  counted = omega arith;
  found = λ l. l;
  passed = λ at before h. subst (λ out. Has at out d) (sym (append-nil before)) h;
}

-- A held packet is passed too.
pub passes_more : (d0 : Direction) (g0 : List ℕ) (d1 : Direction) (g1 : List ℕ) (held : Held) (payload : Payload) (d3 : Direction) (g3 : List ℕ)
    → Passes d0 g0 d1 g1 → is_open d1.course ≡ true → held_at d1.held d1.next ≡ Some (packet_with d1.next payload)
    → held_at held d1.next ≡ None → ((i : ℕ) → (i ≡ d1.next → ⊥) → held_at held i ≡ held_at d1.held i) → held.counted ≤ d1.held.counted
    → g3 ≡ g1 ++ payload.bytes.now → d3.held ≡ held → d3.first ≡ d1.first → d3.base ≡ d1.base → is_lost d3.course ≡ false
    → d3.place ≡ (d1.place + length payload.bytes.now) % 2 ^ 32
    → ((at : ℕ → Option Packet) (before : List ℕ) → IsReached at before d1.next → at d1.next ≡ Some (packet_with d1.next payload)
    → HoldsFrom (d1.next + 1) at (held_at held) → Has at (before ++ payload.bytes.now) d3)
    → Passes d0 g0 d3 g3
passes_more d0 g0 d1 g1 held payload d3 g3 p opened is gone same lighter eg eh ef eb found ep put =
    let bytes = payload.bytes.now in
    let less : d3.held.counted ≡ held.counted = ap (λ h. h.counted) eh in
    record {
      more = p.more ++ bytes;
      is = eg ∙ ap (λ l. l ++ bytes) p.is ∙ append_assoc g0 p.more bytes;
      start = record { first = ef ∙ p.start.first; base = eb ∙ p.start.base };
      place = λ start h. omega (arith, p.place start h, ep, length-append p.more bytes);
      counted = omega (arith, less, lighter, p.counted);
      found = λ l. found;
      passed = λ at before h.
          let s = open_state at (before ++ p.more) d1.course d1.next (held_at d1.held) opened (p.passed at before h) in
          subst (λ l. Has at l d3) (append_assoc before p.more bytes)
          (put at (before ++ p.more) s.0 (sym (s.1.later d1.next (omega arith)) ∙ is) (record {
            later = λ i le. same i (λ e. omega (arith, le, e)) ∙ s.1.later i (omega (arith, le));
            none = λ i lt. elim (cases_eq i d1.next) [
              | inl e ↦ ap (held_at held) e ∙ gone
              | inr apart ↦ same i apart ∙ s.1.none i (omega (arith, lt, apart))
            ];
          }));
    }

settled : (at : ℕ → Option Packet) (out : List ℕ) (d d' : Direction) → Settles d d' → Has at out d → Has at out d'
settled at out d d' t s =
    let kept = held_else at out d.course d.next (held_at d.held) (held_at d'.held) (λ o i. ap (λ h. held_at h i) (t.kept o)) s in
    subst (λ c. IsPassed at out c d'.next (held_at d'.held)) (sym t.course) (subst (λ n. IsPassed at out d.course n (held_at d'.held)) (sym t.next) kept)

-- ---- one more packet

pub direction_of : (ps : List Packet) (out : List ℕ) (d : Direction) → Has (packet_at ps) out d
    → (is_open d.course ≡ true → held_at d.held d.next ≡ None) → is_lost d.course ≡ false → d.place ≡ (d.base + length out) % 2 ^ 32
    → (is_open d.course ≡ false → d.held.counted ≡ 0) → IsDirectionOf ps out d
direction_of ps out d s none found place free =
    let at = packet_at ps in
    let held = held_at d.held in
    let awaited : is_open d.course ≡ true → at d.next ≡ None
    = (λ o. sym ((open_state at out d.course d.next held o s).1.later d.next (omega arith)) ∙ none o) in
    let exact = is_exact ps out d.course d.next held s awaited found in
    record {
      state = s;
      awaited = awaited;
      front = ([], exact ∙ sym (append-nil out));
      exact = λ l. exact;
      ends = tells_fin ps out d.course d.next held s awaited;
      place = place;
      free = free;
    }

fresh : (o : Option Packet) (p : Packet) (i : ℕ) → o ≡ None → p.index ≡ i → or_packet o (only p i) ≡ Some p
fresh o p i e is = grind (arith, common_steps)

only_not : (p : Packet) (i : ℕ) → (p.index ≡ i → ⊥) → only p i ≡ None
only_not p i apart = grind (arith, common_steps)

or_none : (o : Option Packet) → or_packet o None ≡ o
or_none None = refl
or_none (Some p) = refl

other : (ps : List Packet) (p : Packet) (i : ℕ) → (p.index ≡ i → ⊥) → packet_at (ps ++ p ∷ []) i ≡ packet_at ps i
other ps p i apart = packet_at-push ps p i ∙ ap (or_packet (packet_at ps i)) (only_not p i apart) ∙ or_none (packet_at ps i)

-- The awaited packet came, and then what was held after it.
pub takes_next : (payload : Payload) (d0 : Direction) (g0 : List ℕ) (d1 : Direction) (g1 : List ℕ) (d2 : Direction) (g2 : List ℕ) (d3 : Direction)
    → is_open d0.course ≡ true → g1 ≡ g0 ++ payload.bytes.now → SameStart d0 d1 → is_lost d1.course ≡ false
    → d1.place ≡ (d0.place + length payload.bytes.now) % 2 ^ 32
    → ((at : ℕ → Option Packet) (before : List ℕ) → IsReached at before d0.next → at d0.next ≡ Some (packet_with d0.next payload)
    → HoldsFrom (d0.next + 1) at (held_at d0.held) → Has at (before ++ payload.bytes.now) d1)
    → Passes d1 g1 d2 g2 → (is_open d2.course ≡ true → held_at d2.held d2.next ≡ None) → Settles d2 d3
    → Takes (packet_with d0.next payload) d0 g0 d3 g2
takes_next payload d0 g0 d1 g1 d2 g2 d3 opened eg start found ep put more none rest =
    let bytes = payload.bytes.now in
    let p = packet_with d0.next payload in
    record {
      more = bytes ++ more.more;
      is = more.is ∙ ap (λ l. l ++ more.more) eg ∙ append_assoc g0 bytes more.more;
      start = record { first = rest.start.first ∙ more.start.first ∙ start.first; base = rest.start.base ∙ more.start.base ∙ start.base };
      taken = λ ps out h.
          let at = packet_at ps in
          let at' = packet_at (ps ++ p ∷ []) in
          let s0 = open_state at out d0.course d0.next (held_at d0.held) opened h.state in
          let here = packet_at-push ps p d0.next ∙ fresh (at d0.next) p d0.next (h.awaited opened) refl in
          let later : HoldsFrom (d0.next + 1) at' (held_at d0.held)
          = record {
            later = λ i le. s0.1.later i (omega (arith, le)) ∙ sym (other ps p i (λ (e : d0.next ≡ i). omega (arith, le, e)));
            none = λ i lt. elim (cases_eq i d0.next) [
              | inl e ↦ ap (held_at d0.held) e ∙ s0.1.later d0.next (omega arith) ∙ h.awaited opened
              | inr apart ↦ s0.1.none i (omega (arith, lt, apart))
            ];
          } in
          let s1 = put at' out (reached_more at at' out d0.next (extends_push ps p) s0.0) here later in
          let s2 = subst (λ l. Has at' l d2) (append_assoc out bytes more.more) (more.passed at' (out ++ bytes) s1) in
          let p1 : d1.place ≡ (d0.base + length out + length bytes) % 2 ^ 32 = omega (arith, h.place, ep) in
          direction_of (ps ++ p ∷ []) (out ++ (bytes ++ more.more)) d3 (settled at' (out ++ (bytes ++ more.more)) d2 d3 rest s2)
          (λ o. let o' = ap is_open (sym rest.course) ∙ o in ap (λ h. held_at h d3.next) (rest.kept o') ∙ ap (held_at d2.held) rest.next ∙ none o')
          (ap is_lost rest.course ∙ more.found found)
          (omega (
            arith,
            more.place (d0.base + length out + length bytes) p1,
            rest.place,
            rest.start.base,
            more.start.base,
            start.base,
            length-append out (bytes ++ more.more),
            length-append bytes more.more,
          ))
          (λ f. rest.free (ap is_open (sym rest.course) ∙ f));
    }

grown : (ps : List Packet) (p : Packet) (out : List ℕ) → (f : List ℕ) × (utp_stream ps ≡ out ++ f) → (f : List ℕ) × (utp_stream (ps ++ p ∷ []) ≡ out ++ f)
grown ps p out f = let g = stream_grows ps p in (f.0 ++ g.0, g.1 ∙ ap (λ l. l ++ g.0) f.1 ∙ append_assoc out f.0 g.0)

-- Nothing follows the end.
pub takes_ended : (p : Packet) (d : Direction) (given : List ℕ) → is_open d.course ≡ false → Takes p d given d given
takes_ended p d given closed = record {
  more = [];
  is = sym (append-nil given);
  start = record { first = refl; base = refl };
  taken = λ ps out h.
      let now = ps ++ p ∷ [] in
      let s = ended_state (packet_at ps) (packet_at now) out d.course d.next (held_at d.held) closed (extends_push ps p) h.state in
      let awaited : is_open d.course ≡ true → packet_at now d.next ≡ None = (λ o. cc) in
      let all : IsDirectionOf now out d = record {
        state = s;
        awaited = awaited;
        front = grown ps p out h.front;
        exact = is_exact now out d.course d.next (held_at d.held) s awaited;
        ends = tells_fin now out d.course d.next (held_at d.held) s awaited;
        place = h.place;
        free = h.free;
      } in
      subst (λ l. IsDirectionOf now l d) (sym (append-nil out)) all;
}

-- A packet that isn't awaited was there already, or is held now.
pub takes_else : (p : Packet) (d d' : Direction) (given : List ℕ) → is_open d.course ≡ true → (p.index ≡ d.next → ⊥)
    → ((i : ℕ) → d.next ≤ i → held_at d'.held i ≡ or_packet (held_at d.held i) (only p i))
    → ((i : ℕ) → i < d.next → held_at d.held i ≡ None → held_at d'.held i ≡ None)
    → d'.course ≡ d.course → d'.next ≡ d.next → d'.place ≡ d.place → SameStart d d' → Takes p d given d' given
takes_else p d d' given opened apart held before ec en ep start = record {
  more = [];
  is = sym (append-nil given);
  start = start;
  taken = λ ps out h.
      let at = packet_at ps in
      let now = ps ++ p ∷ [] in
      let opened' : is_open d'.course ≡ true = ap is_open ec ∙ opened in
      let s = open_state at out d.course d.next (held_at d.held) opened h.state in
      let r = reached_more at (packet_at now) out d.next (extends_push ps p) s.0 in
      let holds : HoldsFrom d.next (packet_at now) (held_at d'.held)
      = record {
        later = λ i le. held i le ∙ ap (λ o. or_packet o (only p i)) (s.1.later i le) ∙ sym (packet_at-push ps p i);
        none = λ i lt. before i lt (s.1.none i lt);
      } in
      let none : packet_at now d.next ≡ None = other ps p d.next apart ∙ h.awaited opened in
      let state = is_opened (packet_at now) out d'.course d'.next (held_at d'.held) opened' (subst (IsReached (packet_at now) out) (sym en) r)
      (subst (λ n. HoldsFrom n (packet_at now) (held_at d'.held)) (sym en) holds) in
      let all = direction_of now out d' state (λ o. ap (held_at d'.held) en ∙ holds.later d.next (omega arith) ∙ none) (open_found d'.course opened')
      (omega (arith, ep, h.place, start.base)) (λ f. cc) in
      subst (λ l. IsDirectionOf now l d') (sym (append-nil out)) all;
}

-- A gap became final.
pub takes_lost : (p : Packet) (d d' : Direction) (given : List ℕ) → d'.course ≡ Lost → d'.place ≡ d.place → SameStart d d'
    → d'.held.counted ≡ 0 → Takes p d given d' given
takes_lost p d d' given ec ep start free = record {
  more = [];
  is = sym (append-nil given);
  start = start;
  taken = λ ps out h.
      let now = ps ++ p ∷ [] in
      let lost : is_lost d'.course ≡ true = ap is_lost ec in
      let closed : is_open d'.course ≡ false = ap is_open ec in
      let all : IsDirectionOf now out d' = record {
        state = subst (λ c. IsPassed (packet_at now) out c d'.next (held_at d'.held)) (sym ec) tt;
        awaited = λ o. cc;
        front = grown ps p out h.front;
        exact = λ l. cc;
        ends = λ l. cc;
        place = omega (arith, ep, h.place, start.base);
        free = λ f. free;
      } in
      subst (λ l. IsDirectionOf now l d') (sym (append-nil out)) all;
}

-- There was no room, or no memory.
pub stays_as : (d d' : Direction) (given : List ℕ) → SameHeld d.held d'.held
    → d'.course ≡ d.course → d'.next ≡ d.next → d'.place ≡ d.place → SameStart d d' → Stays d given d' given
stays_as d d' given same ec en ep start = record {
  is = refl;
  start = start;
  counted = same.1;
  kept = λ ps out h.
      let kept = held_else (packet_at ps) out d.course d.next (held_at d.held) (held_at d'.held) (λ o i. same.0 i) h.state in
      record {
        state = subst (λ c. IsPassed (packet_at ps) out c d'.next (held_at d'.held)) (sym ec)
            (subst (λ n. IsPassed (packet_at ps) out d.course n (held_at d'.held)) (sym en) kept);
        awaited = λ o. ap (packet_at ps) en ∙ h.awaited (ap is_open (sym ec) ∙ o);
        front = h.front;
        exact = λ l. h.exact (ap is_lost (sym ec) ∙ l);
        ends = λ l. h.ends (ap is_lost (sym ec) ∙ l) ∙ ap is_finished (sym ec);
        place = omega (arith, ep, h.place, start.base);
        free = λ f. same.1 ∙ h.free (ap is_open (sym ec) ∙ f);
      };
}

-- ---- numbers

pub nearest_unique : (first next number i j : ℕ) → IsNearestNumber first next number i → IsNearestNumber first next number j → i ≡ j
nearest_unique first next number i j a b = omega (arith, a.has, a.above, a.below, b.has, b.above, b.below)

pub takes_repeat : (p : Packet) (d : Direction) (given : List ℕ) → is_open d.course ≡ true → p.index < d.next → Takes p d given d given
takes_repeat p d given o before =
    takes_else p d d given o (λ e. omega (arith, before, e))
    (λ i le. sym (ap (or_packet (held_at d.held i)) (only_not p i (λ e. omega (arith, before, le, e))) ∙ or_none (held_at d.held i)))
    (λ i lt e. e) refl refl refl (record { first = refl; base = refl })

pub takes_held : (number room : ℕ) (payload : Payload) (index : ℕ) (has_room : Bool) (d d' : Direction) (given : List ℕ) → is_open d.course ≡ true
    → IsNearestNumber d.first d.next number index → d.next < index
    → (has_room ≡ true → Holds (packet_with index payload) (held_at d.held) (held_at d'.held))
    → (has_room ≡ false → HasNoRoom d.held.counted room (length payload.bytes.now)) → (has_room ≡ false → SameHeld d.held d'.held)
    → d'.course ≡ d.course → d'.next ≡ d.next → d'.place ≡ d.place → SameStart d d' → TakesNumber number payload room has_room d given d' given
takes_held number room payload index true d d' given o near after holds full same ec en ep start = λ i at_i.
    subst (λ k. Takes (packet_with k payload) d given d' given) (nearest_unique d.first d.next number index i near at_i)
    (takes_else (packet_with index payload) d d' given o (λ (e : index ≡ d.next). omega (arith, after, e)) (λ i le. holds refl i)
    (λ i lt e. holds refl i ∙ ap (λ o. or_packet o (only (packet_with index payload) i)) e
    ∙ only_not (packet_with index payload) i (λ (is : index ≡ i). omega (arith, after, lt, is))) ec en ep start)
takes_held number room payload index false d d' given o near after holds full same ec en ep start =
    record { full = full refl; stays = stays_as d d' given (same refl) ec en ep start }
