-- What is there of the message with which a stream is refused.
use Rattle.std.proofs.Common.{◌≡◌, ◌∙◌, ℕ, ◌^◌, ◌<◌, if◌then◌else◌, List, ◌++◌, length, Option, Some, None, refl, sym, ap, subst}
use Rattle.std.proofs.lemmas.List.{append-nil}
use Rattle.std.specs.Prelude.{IsSome}
use Rattle.bt_judge.specs.Readings.{IsTold, IsUnread}
use Rattle.bt_text.specs.declared.ended.Ended.TheVariants.{Refused}
use Rattle.bt_text.specs.Lines.{ended_by}
use Rattle.bt_rows.specs.declared.refused.RefusedMessage.{RefusedMessage}
use Rattle.bt_rows.specs.Refused.{message_in}
use Rattle.bt_wire.specs.declared.context.Own.{Own}
use Rattle.bt_wire.specs.declared.item.Item.{Item}
use Rattle.bt_wire.specs.declared.item.Refusal.{Refusal}
use Rattle.bt_wire.specs.Streams.{Outcome, IsVerdict, is_complete, end_inside, refusal_at_end}
use Rattle.bt_wire.proofs.VerdictLaws.{verdict_only, verdict_stays}
use Rattle.bt_talk.specs.Refusals.{IsRefusedBy}

refused_as : (o : Option Refusal) (number n : ℕ) (r : Refusal) → Refused r ≡ ended_by o number n → o ≡ Some r
refused_as (Some s) number n r e = cc
refused_as None number n r e = absurd (cc)

stands : (v : Outcome) (r : Refusal) → v.refusal ≡ Some r → refusal_at_end v ≡ Some r
stands v r e = ap (λ (z : Option Refusal). elim z [ Some q ↦ Some q | None ↦ if is_complete v then None else Some (end_inside v) ]) e

-- what follows a refusal doesn't change it
front_end : (own : Own) (b : List ℕ) (xs : List (ℕ × Item)) (refused : Option Refusal) (start : ℕ) (bytes : List ℕ) → own.limit < 2 ^ 32
    → (u : IsUnread own b xs refused start bytes) → (v : Outcome) → IsVerdict own b v → refusal_at_end u.verdict ≡ refusal_at_end v
front_end own b xs None start bytes lt u v is =
    let whole : b ≡ u.front = u.parts ∙ ap (λ (l : List ℕ). u.front ++ l) (u.rest refl) ∙ append-nil u.front in
    ap refusal_at_end (verdict_only own u.front u.verdict v lt u.is (subst (λ (l : List ℕ). IsVerdict own l v) whole is))
front_end own b xs (Some r) start bytes lt u v is =
    let w : Outcome = record u.verdict { tail = u.verdict.tail ++ u.later } in
    let some = subst (λ (o : Option Refusal). IsSome o) (sym u.refusal) refl in
    let stays = verdict_stays own u.front u.later u.verdict lt u.is some in
    let same = verdict_only own b v w lt is (subst (λ (l : List ℕ). IsVerdict own l w) (sym u.parts) stays) in
    stands u.verdict r u.refusal ∙ sym (stands w r u.refusal) ∙ ap refusal_at_end (sym same)

pub message_is : (own : Own) (b : List ℕ) (xs : List (ℕ × Item)) (refused : Option Refusal) (start : ℕ) (bytes : List ℕ) (r : Refusal) (m : RefusedMessage)
    → own.limit < 2 ^ 32 → IsUnread own b xs refused start bytes → IsTold own b xs (Refused r) → m ≡ message_in start bytes r.at → IsRefusedBy own b r m
message_is own b xs refused start bytes r m lt u t e = record {
  front = u.front;
  later = u.later;
  parts = u.parts;
  verdict = u.verdict;
  is = u.is;
  refusal = front_end own b xs refused start bytes lt u t.0 t.1 ∙ refused_as (refusal_at_end t.0) t.0.number (length b) r t.3;
  message = e ∙ ap (λ (n : ℕ). message_in n bytes r.at) (sym u.start) ∙ ap (λ (l : List ℕ). message_in u.verdict.start l r.at) (sym u.tail);
}
