use Rattle.std.proofs.Common.{◌≡◌, ◌∙◌, ◌⊎◌, false, true, Option, Some, None, inl, inr, refl, sym, subst}
use Rattle.std.specs.Prelude.{◌&&◌, is_some}
use Rattle.bt_intro.specs.declared.settling.Receiver.{Receiver}
use Rattle.bt_remarks.specs.declared.events.Side.TheVariants.{A, B}
use Rattle.bt_capture.specs.Reportings.{IsReceiverOf}
use Rattle.bt_capture.proofs.Titles.{receiver_there}
use Rattle.bt_capture.proofs.Turns.{with_turns}
use Rattle.bt_capture.proofs.reporting.remarks_of.Goals as goal

one_none : (x y : Option Receiver) → (is_some x && is_some y) ≡ false → (x ≡ None) ⊎ (y ≡ None)
one_none None y e = inl refl
one_none (Some r) None e = inr refl
one_none (Some r) (Some s) e = absurd (cc)

both_some : (x y : Option Receiver) → (is_some x && is_some y) ≡ true → (is_some x ≡ true) × (is_some y ≡ true)
both_some None y e = absurd (let f : false ≡ true = e in cc)
both_some (Some r) None e = absurd (let f : false ≡ true = e in cc)
both_some (Some r) (Some s) e = (refl, refl)

pub returns : goal.returns
returns c = λ a b turns i heard.
    let talk = c.args.talk.now in
    let on = with_turns turns a b talk heard i in
    let both = both_some c.receiver.result c.receiver-2.result (sym c.are_both_judged.ensures ∙ c.if-not-are_both_judged.false) in
    inl (
      receiver_there c.receiver.result (IsReceiverOf A a b talk) both.0 (c.receiver.ensures a b i),
      receiver_there c.receiver-2.result (IsReceiverOf B a b talk) both.1 (c.receiver-2.ensures a b i),
      (c.remarked.ensures.remarked a b on, c.remarked.ensures.unanswered a b on),
      (c.remarked-2.ensures.remarked a b on, c.remarked-2.ensures.unanswered a b on),
    )

pub returns-then-not-are_both_judged : goal.returns-then-not-are_both_judged
returns-then-not-are_both_judged c = λ a b turns i heard.
    let talk = c.args.talk.now in
    inr (
      refl,
      refl,
      elim (one_none c.receiver.result c.receiver-2.result (sym c.are_both_judged.ensures ∙ c.if-not-are_both_judged.true)) [
        | inl e ↦ inl (subst (λ (o : Option Receiver). IsReceiverOf A a b talk o) e (c.receiver.ensures a b i))
        | inr e ↦ inr (subst (λ (o : Option Receiver). IsReceiverOf B a b talk o) e (c.receiver-2.ensures a b i))
      ],
    )
