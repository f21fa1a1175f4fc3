-- The segments that packets are turned into make the packets' stream.
use Rattle.std.proofs.Common.{◌≡◌, ℕ, ◌+◌, ◌-◌, ◌≤◌, List, [], ◌∷◌, ◌++◌, length, drop, slice_get}
use Rattle.std.proofs.Common.{None, refl, sym, subst, ap, ◌∙◌, arith, append_assoc, append-nil, inl, inr}
use Rattle.std.proofs.lemmas.List.{length-append}
use Rattle.std.proofs.lemmas.Option.{slice_get_past}
use Rattle.std.proofs.lemmas.Bool.{cases_lt}
use Rattle.std.proofs.Math.Seq.{drop-append_seam}
use Rattle.bt_tcp.specs.Segments.{Segment, or_else, byte_in, byte_at, IsFront}
use Rattle.bt_tcp.proofs.Bytes.{byte_at-push, byte_in-at, byte_in-before, or_else-None}
use Rattle.bt_tcp.proofs.Gets.{slice_get-append_left, slice_get-append-add}
use Rattle.bt_order.specs.Streams.{Packet, utp_stream, turned}
use Rattle.bt_order.specs.Laws.{TurnedIsTheStream}
use Rattle.bt_order.proofs.Payloads.{stream_grows}

-- ---- segments that follow each other

-- These bytes are all that the segments have.
record AreAll (segs : List Segment) (base : ℕ) (out : List ℕ) : Type 0 where
  front : IsFront segs base out
  none : (i : ℕ) → base + length out ≤ i → byte_at segs i ≡ None

front_on : (segs : List Segment) (base : ℕ) (out more : List ℕ) → AreAll segs base out
    → IsFront (segs ++ record { place = base + length out; bytes = more } ∷ []) base (out ++ more)
front_on segs base out more all k within =
    let s : Segment = record { place = base + length out; bytes = more } in
    elim (cases_lt k (length out)) [
      | inl less ↦ byte_at-push segs s (base + k) ∙ ap (or_else (byte_at segs (base + k))) (byte_in-before s (base + k) (omega (arith, less)))
          ∙ or_else-None (byte_at segs (base + k)) ∙ all.front k less ∙ sym (slice_get-append_left out more k less)
      | inr least ↦
          let j = k - length out in
          let is : base + k ≡ s.place + j = omega (arith, least) in
          let is' : length out + j ≡ k = omega (arith, least) in
          byte_at-push segs s (base + k) ∙ ap (λ x. or_else x (byte_in s (base + k))) (all.none (base + k) (omega (arith, least)))
          ∙ ap (byte_in s) is ∙ byte_in-at s j ∙ sym (slice_get-append-add out more j) ∙ ap (slice_get (out ++ more)) is'
    ]

none_on : (segs : List Segment) (base : ℕ) (out more : List ℕ) → AreAll segs base out
    → (i : ℕ) → base + length (out ++ more) ≤ i → byte_at (segs ++ record { place = base + length out; bytes = more } ∷ []) i ≡ None
none_on segs base out more all i past =
    let s : Segment = record { place = base + length out; bytes = more } in
    let n = length-append out more in
    let j = i - (base + length out) in
    let is : i ≡ s.place + j = omega (arith, past, n) in
    byte_at-push segs s i ∙ ap (λ x. or_else x (byte_in s i)) (all.none i (omega (arith, past, n)))
    ∙ ap (byte_in s) is ∙ byte_in-at s j ∙ slice_get_past more j (omega (arith, past, n))

all_on : (segs : List Segment) (base : ℕ) (out more : List ℕ) → AreAll segs base out
    → AreAll (segs ++ record { place = base + length out; bytes = more } ∷ []) base (out ++ more)
all_on segs base out more all = record { front = front_on segs base out more all; none = none_on segs base out more all }

-- ---- all packets

turns : (base : ℕ) (before ps : List Packet) (segs : List Segment) → AreAll segs base (utp_stream before)
    → AreAll (segs ++ turned base before ps) base (utp_stream (before ++ ps))
turns base before [] segs all =
    subst (λ l. AreAll l base (utp_stream (before ++ []))) (sym (append-nil segs))
    (subst (λ l. AreAll segs base (utp_stream l)) (sym (append-nil before)) all)
turns base before (p ∷ ps) segs all =
    let out = utp_stream before in
    let now = before ++ p ∷ [] in
    let out' = utp_stream now in
    let grown = stream_grows before p in
    let more : drop (length out) out' ≡ grown.0 = ap (drop (length out)) grown.1 ∙ drop-append_seam out grown.0 in
    let s : Segment = record { place = base + length out; bytes = drop (length out) out' } in
    let rest = turned base now ps in
    let whole : out ++ drop (length out) out' ≡ out' = ap (λ l. out ++ l) more ∙ sym grown.1 in
    let one : AreAll (segs ++ s ∷ []) base out' = subst (AreAll (segs ++ s ∷ []) base) whole (all_on segs base out (drop (length out) out') all) in
    subst (λ l. AreAll l base (utp_stream (before ++ p ∷ ps))) (append_assoc segs (s ∷ []) rest)
    (subst (λ l. AreAll ((segs ++ s ∷ []) ++ rest) base (utp_stream l)) (append_assoc before (p ∷ []) ps)
    (turns base now ps (segs ++ s ∷ []) one))

nothing : (base : ℕ) → AreAll [] base (utp_stream [])
nothing base = record { front = λ k within. absurd (omega (arith, within)); none = λ i past. refl }

pub turned_is_the_stream : TurnedIsTheStream
turned_is_the_stream base ps =
    let all = turns base [] ps [] (nothing base) in
    record { front = all.front; ends = all.none (base + length (utp_stream ps)) (omega arith) }
