-- A stream has one verdict, and keeps its items and its refusal whatever follows.
use Rattle.std.proofs.Common.{◌≡◌, ℕ, ◌^◌, ◌<◌, List, [], ◌∷◌, ◌++◌, length, Option, Some, None, refl, sym, ap, subst, ◌∙◌, arith, inl, inr}
use Rattle.std.specs.Prelude.{IsSome}
use Rattle.std.proofs.lemmas.Bool.{cases_lt}
use Rattle.std.proofs.lemmas.List.{append_assoc, length-append}
use Rattle.bt_wire.specs.declared.context.Own.{Own}
use Rattle.bt_wire.specs.declared.context.Order.TheVariants.{Fresh}
use Rattle.bt_wire.specs.declared.fault.Refused.{Refused}
use Rattle.bt_wire.specs.declared.handshake.Handshake.{Handshake}
use Rattle.bt_wire.specs.declared.item.Item.{Item}
use Rattle.bt_wire.specs.declared.item.Item.TheVariants as items
use Rattle.bt_wire.specs.declared.item.Refusal.{Refusal}
use Rattle.bt_wire.specs.Handshakes.{hand, hand_fault, IsHandshake, negotiated}
use Rattle.bt_wire.specs.Streams.{Outcome, IsOutcome, IsOpened, IsVerdictBy, IsVerdict, with_item}
use Rattle.bt_wire.proofs.HandLaws.{hand_same, hand_stays, one_handshake}
use Rattle.bt_wire.proofs.StreamLaws.{outcome_only, refusal_stays, items_stay}

-- the outcomes of an opened stream and of one that goes on
record IsSameStream (own : Own) (v : Outcome) (h : Handshake) (rest : List ℕ) : Type 0 where
  after : Outcome
  messages : IsOutcome (negotiated own h.reserved) Fresh 68 1 rest after
  whole : v ≡ with_item 0 (items.Handshake h) after

opened_with : (own : Own) (b : List ℕ) (v : Outcome) (h : Handshake) (rest : List ℕ) → IsHandshake h → b ≡ hand h ++ rest → IsOpened own b v
    → IsSameStream own v h rest
opened_with own b v h rest fits parts p =
    let same = one_handshake p.handshake h p.rest rest p.fits fits (sym p.parts ∙ parts) in
    let P : Handshake → Type 0 = λ k. IsOutcome (negotiated own k.reserved) Fresh 68 1 rest p.after in
    let Q : List ℕ → Type 0 = λ t. IsOutcome (negotiated own p.handshake.reserved) Fresh 68 1 t p.after in
    record {
      after = p.after;
      messages = subst P same.0 (subst Q same.1 p.messages);
      whole = p.whole
          ∙ ap (λ (k : Handshake). with_item 0 (items.Handshake k) p.after) same.0;
    }

only_by : (f : Option Refused) (own : Own) (b : List ℕ) (v w : Outcome) → own.limit < 2 ^ 32 → IsVerdictBy f own b v → IsVerdictBy f own b w → v ≡ w
only_by (Some f) own b v w lt p q = p ∙ sym q
only_by None own b v w lt p q =
    elim (cases_lt (length b) 68) [
      | inl short ↦ p.0 short ∙ sym (q.0 short)
      | inr long ↦
          let first = p.1 long in
          let other = opened_with own b w first.handshake first.rest first.fits first.parts (q.1 long) in
          let after = outcome_only (negotiated own first.handshake.reserved) Fresh 68 1 first.rest first.after other.after lt first.messages other.messages in
          first.whole ∙ ap (with_item 0 (items.Handshake first.handshake)) after ∙ sym other.whole
    ]

pub verdict_only : (own : Own) (b : List ℕ) (v w : Outcome) → own.limit < 2 ^ 32 → IsVerdict own b v → IsVerdict own b w → v ≡ w
verdict_only own b v w lt p q = only_by (hand_fault own b) own b v w lt p q

-- ---- whatever follows

no_refusal : (v : Outcome) → v.refusal ≡ None → IsSome v.refusal → ⊥
no_refusal v e some = let P : Option Refusal → Type 0 = λ r. IsSome r in absurd (let bad = subst P e some in cc)

the_refusal : (o : Option Refusal) → IsSome o → (r : Refusal) × (o ≡ Some r)
the_refusal None some = absurd cc
the_refusal (Some r) some = (r, refl)

pub by_fault : (own : Own) (b : List ℕ) (v : Outcome) (f : Option Refused) → hand_fault own b ≡ f → IsVerdictBy f own b v → IsVerdict own b v
by_fault own b v f e h = let P : Option Refused → Type 0 = λ g. IsVerdictBy g own b v in subst P (sym e) h

refused_by : (f : Option Refused) (own : Own) (b x : List ℕ) (v : Outcome) → own.limit < 2 ^ 32 → hand_fault own b ≡ f → IsVerdictBy f own b v
    → IsSome v.refusal → IsVerdict own (b ++ x) (record v { tail = v.tail ++ x })
refused_by (Some f) own b x v lt e p some =
    by_fault own (b ++ x) _ (Some f) (hand_stays own b x f e) (ap (λ (o : Outcome). record o { tail = o.tail ++ x }) p)
refused_by None own b x v lt e p some =
    elim (cases_lt (length b) 68) [
      | inl short ↦ absurd (no_refusal v (ap (λ (o : Outcome). o.refusal) (p.0 short)) some)
      | inr long ↦
          let first = p.1 long in
          let found = the_refusal v.refusal some in
          let here : first.after.refusal ≡ Some found.0 = sym (ap (λ (o : Outcome). o.refusal) first.whole) ∙ found.1 in
          by_fault own (b ++ x) _ None (hand_same own b x (omega arith) ∙ e) (
            (λ short. absurd (omega (arith, short, long, length-append b x))),
            (λ _. record {
              handshake = first.handshake;
              fits = first.fits;
              rest = first.rest ++ x;
              parts = ap (λ (z : List ℕ). z ++ x) first.parts ∙ append_assoc (hand first.handshake) first.rest x;
              after = record first.after { tail = first.after.tail ++ x };
              messages = refusal_stays (negotiated own first.handshake.reserved) Fresh 68 1 first.rest x first.after found.0 lt first.messages here;
              whole = ap (λ (o : Outcome). record o { tail = o.tail ++ x }) first.whole;
            }),
          )
    ]

pub verdict_stays : (own : Own) (b x : List ℕ) (v : Outcome) → own.limit < 2 ^ 32 → IsVerdict own b v → IsSome v.refusal
    → IsVerdict own (b ++ x) (record v { tail = v.tail ++ x })
verdict_stays own b x v lt p some = refused_by (hand_fault own b) own b x v lt refl p some

none_before : (v w : Outcome) → v.items ≡ [] → (more : List (ℕ × Item)) × (w.items ≡ v.items ++ more)
none_before v w e = (w.items, ap (λ (xs : List (ℕ × Item)). xs ++ w.items) (sym e))

items_by : (f : Option Refused) (own : Own) (b x : List ℕ) (v w : Outcome) → own.limit < 2 ^ 32 → hand_fault own b ≡ f → IsVerdictBy f own b v
    → IsVerdict own (b ++ x) w → (more : List (ℕ × Item)) × (w.items ≡ v.items ++ more)
items_by (Some f) own b x v w lt e p q = none_before v w (ap (λ (o : Outcome). o.items) p)
items_by None own b x v w lt e p q =
    elim (cases_lt (length b) 68) [
      | inl short ↦ none_before v w (ap (λ (o : Outcome). o.items) (p.0 short))
      | inr long ↦
          let first = p.1 long in
          let P : Option Refused → Type 0 = λ g. IsVerdictBy g own (b ++ x) w in
          let second = (subst P (hand_same own b x (omega arith) ∙ e) q).1 (omega (arith, length-append b x, long)) in
          let parts : b ++ x ≡ hand first.handshake ++ (first.rest ++ x) = ap (λ (z : List ℕ). z ++ x) first.parts
          ∙ append_assoc (hand first.handshake) first.rest x in
          let other = opened_with own (b ++ x) w first.handshake (first.rest ++ x) first.fits parts second in
          let more = items_stay (negotiated own first.handshake.reserved) Fresh 68 1 first.rest x first.after other.after lt first.messages other.messages in (
            more.0,
            ap (λ (o : Outcome). o.items) other.whole ∙ ap (λ (xs : List (ℕ × Item)). (0, items.Handshake first.handshake) ∷ xs) more.1
                ∙ ap (λ (xs : List (ℕ × Item)). xs ++ more.0) (sym (ap (λ (o : Outcome). o.items) first.whole)),
          )
    ]

pub verdict_items : (own : Own) (b x : List ℕ) (v w : Outcome) → own.limit < 2 ^ 32 → IsVerdict own b v → IsVerdict own (b ++ x) w
    → (more : List (ℕ × Item)) × (w.items ≡ v.items ++ more)
verdict_items own b x v w lt p q = items_by (hand_fault own b) own b x v w lt refl p q
