-- A direction, after one more packet.
use Rattle.std.proofs.Common.{◌≡◌, ℕ, suc, ◌+◌, ◌-◌, ◌<◌, ◌≤◌, ◌==◌, Bool, true, false, not, List, ◌++◌}
use Rattle.std.proofs.Common.{Option, Some, None, refl, sym, subst, ap, ◌∙◌, arith, append-nil, inl, inr}
use Rattle.std.proofs.lemmas.Bool.{cases_Bool}
use Rattle.bt_order.specs.declared.direction.Course.{Course}
use Rattle.bt_order.specs.declared.direction.Course.TheVariants.{Open, Finished, Cut, Lost}
use Rattle.bt_order.specs.Streams.{Packet, packet_at, is_cut, is_last, IsGoing, payloads, end_of, utp_stream, utp_last, is_whole_fin, has_fin}
use Rattle.bt_order.specs.Directions.{IsReached, IsEnded, HoldsFrom, IsPassed, is_open, is_finished, is_lost}
use Rattle.bt_order.proofs.Payloads.{Extends, AreGoing, going_more, payloads_split, last_split, payloads_same, payloads_none, last_none}
use Rattle.bt_order.proofs.Payloads.{payloads_last, last_last, payloads_one, below_end}

-- ---- one packet is passed

pub reached_more : (at at' : ℕ → Option Packet) (out : List ℕ) (next : ℕ) → Extends at at' → IsReached at out next → IsReached at' out next
reached_more at at' out next ext r = record {
  first = r.first;
  there = going_more at at' 65536 next ext r.there;
  is = r.is ∙ sym (payloads_same at at' (next - 65536) 65536 next (omega (arith, r.first)) ext r.there);
}

pub ended_more : (at at' : ℕ → Option Packet) (out : List ℕ) (next : ℕ) (cut : Bool) → Extends at at' → IsEnded at out next cut → IsEnded at' out next cut
ended_more at at' out next cut ext r = record {
  place = r.place;
  first = r.first;
  after = r.after;
  there = going_more at at' 65536 r.place ext r.there;
  last = r.last;
  ended = ext r.place r.last r.ended;
  ends = r.ends;
  tells = r.tells;
  is = r.is ∙ ap (λ l. l ++ r.last.bytes) (sym (payloads_same at at' (r.place - 65536) 65536 r.place (omega (arith, r.first)) ext r.there));
}

one_more : (at : ℕ → Option Packet) (out : List ℕ) (next : ℕ) (q : Packet) → IsReached at out next → at next ≡ Some q
    → payloads at (next + 1 - 65536) 65536 ≡ out ++ q.bytes
one_more at out next q r e =
    payloads_split at (next - 65536) 1 (next + 1 - 65536) 65536 next (omega (arith, r.first)) (omega (arith, r.first)) r.there
    ∙ ap (λ l. l ++ payloads at 1 next) (sym r.is) ∙ ap (λ l. out ++ l) (payloads_one at next q e)

is_going : (o : Option Packet) (q : Packet) → o ≡ Some q → is_last q ≡ false → IsGoing o
is_going o q e f = subst IsGoing (sym e) f

going_on : (at : ℕ → Option Packet) (next : ℕ) (q : Packet) → AreGoing at 65536 next → at next ≡ Some q → is_last q ≡ false → AreGoing at 65536 (next + 1)
going_on at next q h e f i le lt = elim (cases_Bool (i == next)) [
  | inl t ↦ let is : i ≡ next = grind arith in subst (λ k. IsGoing (at k)) (sym is) (is_going (at next) q e f)
  | inr n ↦ let less : i < next = grind arith in h i le less
]

pub passed_on : (at : ℕ → Option Packet) (out : List ℕ) (next : ℕ) (held : ℕ → Option Packet) (q : Packet) → IsReached at out next
    → at next ≡ Some q → is_last q ≡ false → HoldsFrom (next + 1) at held → IsPassed at (out ++ q.bytes) Open (next + 1) held
passed_on at out next held q r e f h = (
  record {
    first = omega (arith, r.first);
    there = going_on at next q r.there e f;
    is = sym (one_more at out next q r e);
  },
  h,
)

pub ends_by : (at : ℕ → Option Packet) (out : List ℕ) (next : ℕ) (q : Packet) (cut : Bool) → IsReached at out next
    → at next ≡ Some q → is_last q ≡ true → is_cut q ≡ cut → IsEnded at (out ++ q.bytes) (next + 1) cut
ends_by at out next q cut r e l is = record {
  place = next;
  first = r.first;
  after = refl;
  there = r.there;
  last = q;
  ended = e;
  ends = l;
  tells = is;
  is = ap (λ l. l ++ q.bytes) r.is;
}

-- ---- what the stream is

there_below : (o : Option Packet) → IsGoing o → (p : Packet) × (o ≡ Some p)
there_below None g = absurd g
there_below (Some p) g = (p, refl)

reaches : (ps : List Packet) (next : ℕ) → 65536 ≤ next → AreGoing (packet_at ps) 65536 next → next - 65536 ≤ end_of ps
reaches ps next le h = elim (cases_Bool (next == 65536)) [
  | inl t ↦ let is : next ≡ 65536 = grind arith in omega (arith, is)
  | inr f ↦
      let more : 65536 < next = grind arith in
      let p = there_below (packet_at ps (next - 1)) (h (next - 1) (omega (arith, more)) (omega (arith, more))) in
      let below = below_end ps (next - 1) p.0 p.1 in
      omega (arith, below, more)
]

pub open_stream : (ps : List Packet) (out : List ℕ) (next : ℕ) → IsReached (packet_at ps) out next → packet_at ps next ≡ None → utp_stream ps ≡ out
open_stream ps out next r e =
    let le = reaches ps next r.first r.there in
    payloads_split (packet_at ps) (next - 65536) (end_of ps - (next - 65536)) (end_of ps) 65536 next (omega (arith, le)) (omega (arith, r.first)) r.there
    ∙ ap (λ l. payloads (packet_at ps) (next - 65536) 65536 ++ l) (payloads_none (packet_at ps) (end_of ps - (next - 65536)) next e)
    ∙ append-nil (payloads (packet_at ps) (next - 65536) 65536) ∙ sym r.is

pub open_last : (ps : List Packet) (out : List ℕ) (next : ℕ) → IsReached (packet_at ps) out next → packet_at ps next ≡ None → utp_last ps ≡ None
open_last ps out next r e =
    let le = reaches ps next r.first r.there in
    last_split (packet_at ps) (next - 65536) (end_of ps - (next - 65536)) (end_of ps) 65536 next (omega (arith, le)) (omega (arith, r.first)) r.there
    ∙ last_none (packet_at ps) (end_of ps - (next - 65536)) next e

-- how many more there may be after the place
past : (ps : List Packet) (out : List ℕ) (next : ℕ) (cut : Bool) → IsEnded (packet_at ps) out next cut → (m : ℕ) × (end_of ps ≡ (next - 65536 - 1) + suc m)
past ps out next cut r = let below = below_end ps r.place r.last r.ended in (end_of ps - (r.place - 65536) - 1, omega (arith, below, r.first, r.after))

pub ended_stream : (ps : List Packet) (out : List ℕ) (next : ℕ) (cut : Bool) → IsEnded (packet_at ps) out next cut → utp_stream ps ≡ out
ended_stream ps out next cut r =
    let m = past ps out next cut r in
    payloads_split (packet_at ps) (r.place - 65536) (suc m.0) (end_of ps) 65536 r.place (omega (arith, m.1, r.after)) (omega (arith, r.first)) r.there
    ∙ ap (λ l. payloads (packet_at ps) (r.place - 65536) 65536 ++ l) (payloads_last (packet_at ps) m.0 r.place r.last r.ended r.ends) ∙ sym r.is

pub ended_last : (ps : List Packet) (out : List ℕ) (next : ℕ) (cut : Bool) (r : IsEnded (packet_at ps) out next cut) → utp_last ps ≡ Some r.last
ended_last ps out next cut r =
    let m = past ps out next cut r in
    last_split (packet_at ps) (r.place - 65536) (suc m.0) (end_of ps) 65536 r.place (omega (arith, m.1, r.after)) (omega (arith, r.first)) r.there
    ∙ last_last (packet_at ps) m.0 r.place r.last r.ended r.ends

ended_fin : (ps : List Packet) (out : List ℕ) (next : ℕ) (cut : Bool) → IsEnded (packet_at ps) out next cut → has_fin ps ≡ not cut
ended_fin ps out next cut r = ap is_whole_fin (ended_last ps out next cut r) ∙ ap not r.tells

-- The stream is what was handed out, if nothing is held that comes next.
pub is_exact : (ps : List Packet) (out : List ℕ) (course : Course) (next : ℕ) (held : ℕ → Option Packet) → IsPassed (packet_at ps) out course next held
    → (is_open course ≡ true → packet_at ps next ≡ None) → is_lost course ≡ false → utp_stream ps ≡ out
is_exact ps out Open next held s none l = open_stream ps out next s.0 (none refl)
is_exact ps out Finished next held s none l = ended_stream ps out next false s
is_exact ps out Cut next held s none l = ended_stream ps out next true s
is_exact ps out Lost next held s none l = cc

pub tells_fin : (ps : List Packet) (out : List ℕ) (course : Course) (next : ℕ) (held : ℕ → Option Packet) → IsPassed (packet_at ps) out course next held
    → (is_open course ≡ true → packet_at ps next ≡ None) → is_lost course ≡ false → has_fin ps ≡ is_finished course
tells_fin ps out Open next held s none l = ap is_whole_fin (open_last ps out next s.0 (none refl))
tells_fin ps out Finished next held s none l = ended_fin ps out next false s
tells_fin ps out Cut next held s none l = ended_fin ps out next true s
tells_fin ps out Lost next held s none l = cc
