-- What a direction tells of a hole, and how it passes it.
use Rattle.std.proofs.Common.{◌≡◌, ℕ, ◌+◌, ◌<◌, ◌≤◌, min, Bool, true, false, List, [], ◌∷◌, ◌++◌, length, length-append, append-nil, refl, sym, ap, subst, ◌∙◌, arith}
use Rattle.std.specs.Prelude.{Option, Some, None, is_some, not, ◌||◌, nat_lt, if◌then◌else◌}
use Rattle.bt_tcp.specs.Heard.{Heard, high_of, acked_of, has_ack, sent_of}
use Rattle.bt_tcp.specs.Halves.{IsHalf}
use Rattle.bt_tcp.specs.Acceptable.{is_past_filling}
use Rattle.bt_tcp.specs.Segments.{Segment, byte_at, or_else}
use Rattle.bt_tcp.proofs.Bytes.{byte_at-push, byte_in-past, or_else-None}
use Rattle.bt_flow.specs.declared.stream.Stream.{Stream}
use Rattle.bt_flow.specs.declared.flow.Flow.{Flow}
use Rattle.bt_flow.specs.declared.noted.Noted.{Noted}
use Rattle.bt_flow.specs.Wide.{next_of}
use Rattle.bt_flow.specs.Notes.{AreNoted, spans_noted}
use Rattle.bt_flow.specs.Streams.{IsStreamOf}
use Rattle.bt_flow.specs.Flows.{AreNotedFor, FlowPasses, HasResumed, IsBaseOf, IsFlow, IsHoleIn, IsStreamFor, IsWithin, MaySkip, Skips, conflicts_in, is_captured, is_lost_stream, next_in, past_filling, sent_within}
use Rattle.bt_tcp.specs.Covered.{is_covered}
use Rattle.bt_flow.proofs.Told.{not_noted}

either_false : (b c : Bool) → (not b || c) ≡ false → b ≡ true
either_false true c e = refl
either_false false c e = absurd (cc)

-- An acknowledgement was captured.
pub acked_hole : (heard : List Heard) (segs : List Segment) (out : List ℕ) (o : Option Stream) (acked hole : ℕ) (past : Bool) → acked ≡ acked_of heard
    → past ≡ is_past_filling heard acked → past ≡ false → IsHoleIn (sent_within (Some acked) heard) segs out o hole
    → IsHoleIn (past_filling heard) segs out o hole
acked_hole heard segs out o acked hole past e is f i =
    let has : has_ack heard ≡ true = either_false (has_ack heard) (nat_lt acked (acked_of heard)) (sym is ∙ f) in
    let same : past_filling heard ≡ sent_within (Some (acked_of heard)) heard
    = ap {B = ℕ → ℕ} (λ (b : Bool) (next : ℕ). if b then min (acked_of heard) (sent_of heard next) else 0) has in
    subst (λ (g : ℕ → ℕ). IsHoleIn g segs out o hole) (sym same) (subst (λ n. IsHoleIn (sent_within (Some n) heard) segs out o hole) e i)

-- ---- a hole is passed

-- A later place has a byte as before.
captured_past : (segs : List Segment) (next : ℕ) (fill : List ℕ) (i : ℕ) → next + length fill ≤ i
    → is_captured (segs ++ record { place = next; bytes = fill } ∷ []) i ≡ is_captured segs i
captured_past segs next fill i h =
    let s : Segment = record { place = next; bytes = fill } in
    ap is_some (byte_at-push segs s i ∙ ap (or_else (byte_at segs i)) (byte_in-past s i h) ∙ or_else-None (byte_at segs i))

noted_past : (segs segs' : List Segment) (lost lost' : Bool) (base base' next next' : ℕ) (n : Option Noted) → lost ≡ false → base' ≡ base → next ≤ next'
    → ((i : ℕ) → next' ≤ i → is_captured segs' i ≡ is_captured segs i) → is_captured segs' next' ≡ false
    → AreNoted lost segs base next n → AreNoted lost' segs' base' next' n
noted_past segs segs' lost lost' base base' next next' n l b m same here a = record {
  only = λ i h c. same i h ∙ a.only i (omega (arith, m, h)) c;
  all = λ _ full i h. a.all l full i (omega (arith, m, h)) ∙ sym (same i h);
  past = λ full i j h g c. a.past full i j (omega (arith, m, h)) g c ∙ sym (same i (omega (arith, h, g)));
  here = not_noted (is_covered (spans_noted n) next') (is_captured segs' next') (λ c. same next' (omega arith) ∙ a.only next' (omega (arith, m)) c) here;
  reach = λ i h. a.reach i (omega (arith, h, b));
}

-- What a stream is after a hole was passed.
record SkipsIn (count : ℕ) (o : Option Stream) (given : List ℕ) (o' : Option Stream) (given' : List ℕ) (n : Option Noted) : Type 0 where
  more : List ℕ
  is : given' ≡ given ++ more
  resumed : HasResumed o count o'
  lost : is_lost_stream o' ≡ is_lost_stream o
  conflicts : conflicts_in o' ≡ conflicts_in o
  stream : (heard : List Heard) (segs : List Segment) (out fill : List ℕ) → length fill ≡ count → IsStreamFor heard segs out o
      → IsStreamFor heard (segs ++ record { place = next_in o; bytes = fill } ∷ []) (out ++ (fill ++ more)) o'
  noted : (heard : List Heard) (segs : List Segment) (out fill : List ℕ) → length fill ≡ count → IsStreamFor heard segs out o
      → AreNotedFor segs o n → AreNotedFor (segs ++ record { place = next_in o; bytes = fill } ∷ []) o' n
  within : (heard : List Heard) (segs : List Segment) (out fill : List ℕ) → length fill ≡ count → IsStreamFor heard segs out o
      → IsWithin segs (next_in o) (high_of heard) → IsWithin (segs ++ record { place = next_in o; bytes = fill } ∷ []) (next_in o') (high_of heard)

-- The next place is past the hole.
goes_past : (segs segs' : List Segment) (out fill more : List ℕ) (s s' : Stream) → s'.base ≡ s.base → IsStreamOf segs out s
    → IsStreamOf segs' (out ++ (fill ++ more)) s' → next_of s.window + length fill ≤ next_of s'.window
goes_past segs segs' out fill more s s' b i j =
    omega (arith, i.next_is, j.next_is, b, length-append out (fill ++ more), length-append fill more)

skips_in : (count : ℕ) (o : Option Stream) (given : List ℕ) (o' : Option Stream) (given' : List ℕ) (n : Option Noted) → MaySkip count o
    → Skips count o given o' given' → SkipsIn count o given o' given' n
skips_in count None given o' given' n m t = absurd t
skips_in count (Some s) given None given' n m t = absurd t
skips_in count (Some s) given (Some s') given' n m t = record {
  more = t.more;
  is = t.is;
  resumed = (t.base, t.resumed);
  lost = t.not_lost ∙ sym m.0;
  conflicts = t.conflicts;
  stream = λ heard segs out fill e f. (subst (λ b. IsBaseOf heard b) (sym t.base) f.0, t.taken segs out fill e f.1);
  noted = λ heard segs out fill e f a. (
      let segs' : List Segment = segs ++ record { place = next_of s.window; bytes = fill } ∷ [] in
      let j = t.taken segs out fill e f.1 in
      let past = goes_past segs segs' out fill t.more s s' t.base f.1 j in
      noted_past segs segs' s.is_lost s'.is_lost s.base s'.base (next_of s.window) (next_of s'.window) n m.0 t.base (omega (arith, past))
      (λ i h. captured_past segs (next_of s.window) fill i (omega (arith, past, h)))
      (ap (is_captured segs') j.next_is ∙ ap is_some (j.stream t.not_lost).ends) a);
  within = λ heard segs out fill e f w. (
      let segs' : List Segment = segs ++ record { place = next_of s.window; bytes = fill } ∷ [] in
      let past = goes_past segs segs' out fill t.more s s' t.base f.1 (t.taken segs out fill e f.1) in
      λ i h c. w i (omega (arith, past, h)) (sym (captured_past segs (next_of s.window) fill i (omega (arith, past, h))) ∙ c));
}

pub may_less : (count hole : ℕ) (o : Option Stream) → count ≤ hole → MaySkip hole o → MaySkip count o
may_less count hole None l m = absurd m
may_less count hole (Some s) l m = (m.0, λ k h. m.1 k (omega (arith, h, l)), omega (arith, m.2, l))

pub flow_passes : (n : ℕ) (flow : Flow) (given : List ℕ) (count hole : ℕ) (flow' : Flow) (given' : List ℕ) → flow'.half ≡ flow.half
    → flow'.noted ≡ flow.noted → MaySkip count flow.stream → Skips count flow.stream given flow'.stream given'
    → ((heard : List Heard) (segs : List Segment) (out : List ℕ) → IsFlow heard segs out flow → IsHoleIn (sent_of heard) segs out flow.stream hole)
    → count ≡ min n hole → 0 < count → FlowPasses n flow given count flow' given'
flow_passes n flow given count hole flow' given' h m may t is e some =
    let p : SkipsIn count flow.stream given flow'.stream given' flow.noted = skips_in count flow.stream given flow'.stream given' flow.noted may t in
    record {
      more = p.more;
      is = p.is;
      counts = λ heard segs out f. (hole, is heard segs out f, e);
      passed = λ heard segs out fill _ l f. record {
        half = subst (λ x. IsHalf heard x) (sym h) f.half;
        stream = p.stream heard segs out fill l f.stream;
        noted = subst (λ x. AreNotedFor (segs ++ record { place = next_in flow.stream; bytes = fill } ∷ []) flow'.stream x) (sym m)
            (p.noted heard segs out fill l f.stream f.noted);
        within = p.within heard segs out fill l f.stream f.within;
      };
      resumed = λ _. p.resumed;
      none = λ z. absurd (omega (arith, z, some));
      lost = p.lost;
      noted = m;
      conflicts = p.conflicts;
    }

pub passes_none : (n : ℕ) (flow : Flow) (given : List ℕ) (hole : ℕ)
    → ((heard : List Heard) (segs : List Segment) (out : List ℕ) → IsFlow heard segs out flow → IsHoleIn (sent_of heard) segs out flow.stream hole)
    → 0 ≡ min n hole → FlowPasses n flow given 0 flow given
passes_none n flow given hole is e = record {
  more = [];
  is = sym (append-nil given);
  counts = λ heard segs out f. (hole, is heard segs out f, e);
  passed = λ heard segs out fill some l f. absurd (omega (arith, some));
  resumed = λ some. absurd (omega (arith, some));
  none = λ _. (refl, refl);
  lost = refl;
  noted = refl;
  conflicts = refl;
}
