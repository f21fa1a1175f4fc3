-- The verdict of a stream, if it ends here.
use Rattle.std.proofs.Common.{◌≡◌, ℕ, ◌-◌, ◌+◌, ◌≤◌, if◌then◌else◌, List, [], ◌++◌, length, Option, Some, None, Result, Ok, Err}
use Rattle.std.proofs.Common.{refl, sym, ap, subst, ◌∙◌, arith, inl, inr}
use Rattle.std.proofs.lemmas.Bool.{cases_lt}
use Rattle.std.proofs.lemmas.List.{append-nil, length-append}
use Rattle.bt_wire.specs.declared.context.Own.{Own}
use Rattle.bt_wire.specs.declared.fault.Refused.{Refused as Fault}
use Rattle.bt_wire.specs.declared.item.Item.{Item}
use Rattle.bt_wire.specs.declared.item.Refusal.{Refusal}
use Rattle.bt_wire.specs.Handshakes.{hand, hand_fault}
use Rattle.bt_wire.specs.Streams.{Outcome, IsVerdict, IsVerdictBy, is_complete, end_inside, refusal_at_end}
use Rattle.bt_wire.proofs.HandLaws.{hand-length}
use Rattle.bt_text.specs.declared.ended.Ended.TheVariants.{Accepted, Refused}
use Rattle.bt_text.specs.Lines.{ended_by}
use Rattle.bt_feed.specs.declared.pumping.PumpError.{PumpError}
use Rattle.bt_feed.specs.declared.pumping.PumpError.TheVariants as error
use Rattle.bt_feed.specs.declared.view.Finish.TheVariants as finish
use Rattle.bt_feed.specs.Answers.{unless_refused, finish_of}
use Rattle.bt_feed.specs.Feeds.{FeedState}
use Rattle.bt_feed.specs.Progress.{IsFeed}
use Rattle.bt_feed.specs.Pumps.{IsEndOf}
use Rattle.bt_feed.specs.Stages.{number_of, Comes}
use Rattle.bt_feed.specs.Transcripts.{with_items}
use Rattle.bt_feed.proofs.Moving.{end_of_open}
use Rattle.bt_judge.specs.Readings.{ReadingState, IsHeld, IsJudged, IsTold}
use Rattle.bt_judge.proofs.Judging.{read_verdict}

-- ---- how long a stream is

length_by : (o : Option Fault) (own : Own) (b : List ℕ) (v : Outcome) → IsVerdictBy o own b v → v.start + length v.tail ≡ length b
length_by (Some f) own b v h = omega (arith, ap (λ (w : Outcome). w.start + length w.tail) h)
length_by None own b v h =
    elim (cases_lt (length b) 68) [
      | inl lt ↦ omega (arith, ap (λ (w : Outcome). w.start + length w.tail) (h.0 lt))
      | inr le ↦
          let o = h.1 le in
          omega (
            arith,
            ap (λ (w : Outcome). w.start + length w.tail) o.whole,
            o.messages.start_after,
            ap length o.parts,
            length-append (hand o.handshake) o.rest,
            hand-length o.handshake o.fits,
          )
    ]

verdict_length : (own : Own) (b : List ℕ) (v : Outcome) → IsVerdict own b v → v.start + length v.tail ≡ length b
verdict_length own b v h = length_by (hand_fault own b) own b v h

-- ---- a refusal that is kept

pub told_refused : (own : Own) (b : List ℕ) (xs : List (ℕ × Item)) (s : ReadingState) (r : Refusal) → s.refused ≡ Some r → IsJudged own b xs s
    → IsTold own b xs (Refused r)
told_refused own b xs s r e j =
    let v = j.now in (
      v,
      j.is,
      j.items,
      sym (ap (λ (o : Option Refusal). ended_by (elim o [ Some q ↦ Some q | None ↦ if is_complete v then None else Some (end_inside v) ]) v.number (length b))
          (j.refusal ∙ e)),
    )

-- ---- where nothing is refused

end_verdict : (own : Own) (b : List ℕ) (xs : List (ℕ × Item)) (f : FeedState) (r : Result ℕ PumpError) → own.limit ≤ 1048576 → IsHeld own b xs f → (e : IsEndOf f r)
    → IsVerdict own b (with_items xs e.last)
end_verdict own b xs f r le h e =
    let P : List ℕ → Type 0 = λ l. Comes f.stage l e.last in
    let Q : List ℕ → Type 0 = λ l. IsVerdict own l (with_items xs e.last) in
    subst Q (append-nil b) (read_verdict own b xs f le h.read [] e.last (subst P (sym (append-nil f.held)) e.comes))

accepted_by : (o : Option Refusal) (m n : ℕ) → unless_refused o (Ok m) ≡ Ok n → (o ≡ None) × (n ≡ m)
accepted_by (Some r) m n e = absurd cc
accepted_by None m n e = (refl, cc)

refused_by : (o : Option Refusal) (m : ℕ) (r : Refusal) → unless_refused o (Ok m) ≡ Err (finish.Refused r) → o ≡ Some r
refused_by (Some s) m r e = cc
refused_by None m r e = absurd cc

pub told_accepted : (own : Own) (b : List ℕ) (xs : List (ℕ × Item)) (f : FeedState) (number n : ℕ) → own.limit ≤ 1048576 → IsHeld own b xs f → IsFeed f
    → number ≡ number_of f.stage → finish_of f ≡ Ok n → IsTold own b xs (Accepted (number - 1) n)
told_accepted own b xs f number n le h feed count fin =
    let e : IsEndOf f (Ok n) = end_of_open f (Ok n) feed h.waits (λ v k. sym k ∙ fin) in
    let is = end_verdict own b xs f (Ok n) le h e in
    let a = accepted_by (refusal_at_end e.last) (e.last.start + length e.last.tail) n e.verdict in
    let size : n ≡ length b = a.1 ∙ verdict_length own b (with_items xs e.last) is in
    let messages : number - 1 ≡ e.last.number - 1 = ap (λ (k : ℕ). k - 1) (count ∙ sym e.number) in (
      with_items xs e.last,
      is,
      ap (λ (l : List (ℕ × Item)). xs ++ l) e.no_items ∙ append-nil xs,
      ap (λ (k : ℕ). Accepted k n) messages ∙ ap (λ (k : ℕ). Accepted (e.last.number - 1) k) size
          ∙ ap (λ (o : Option Refusal). ended_by o e.last.number (length b)) (sym a.0),
    )

pub told_inside : (own : Own) (b : List ℕ) (xs : List (ℕ × Item)) (f : FeedState) (r : Refusal) → own.limit ≤ 1048576 → IsHeld own b xs f → IsFeed f
    → finish_of f ≡ Err (finish.Refused r) → IsTold own b xs (Refused r)
told_inside own b xs f r le h feed fin =
    let e : IsEndOf f (Err (error.Refused r)) = end_of_open f (Err (error.Refused r)) feed h.waits (λ v k. sym k ∙ fin) in (
      with_items xs e.last,
      end_verdict own b xs f (Err (error.Refused r)) le h e,
      ap (λ (l : List (ℕ × Item)). xs ++ l) e.no_items ∙ append-nil xs,
      ap (λ (o : Option Refusal). ended_by o e.last.number (length b))
          (sym (refused_by (refusal_at_end e.last) (e.last.start + length e.last.tail) r e.verdict)),
    )
