-- What a direction's stage says of its past.
use Rattle.bt_talk.specs.declared.terms.Terms.{Terms}
use Rattle.std.proofs.Common.{◌≡◌, ◌∙◌, ℕ, Bool, true, false, inl, inr, List, [], ◌∷◌, ◌++◌, append-nil, append_assoc, Option, Some, None, refl, sym, ap, subst}
use Rattle.bt_tcp.specs.Heard.{Acked}
use Rattle.bt_flow.specs.declared.flow.Given.{Given}
use Rattle.bt_flow.specs.Flows.{HasHeard}
use Rattle.bt_intro.specs.declared.introduction.Introduction.{Introduction}
use Rattle.bt_intro.specs.Hearing.{IsHeardOf}
use Rattle.bt_talk.specs.declared.stage.Stage.{Stage}
use Rattle.bt_talk.specs.declared.stage.Stage.TheVariants.{Opening, Open, Stranger}
use Rattle.bt_talk.specs.declared.direction.Direction.{Direction}
use Rattle.bt_talk.specs.declared.stage.Cut.{Cut}
use Rattle.bt_talk.specs.Cuts.{IsCutNow, IsWithin, cut_length}
use Rattle.bt_talk.specs.Pasts.{Past, IsFlowOf, Adds}
use Rattle.bt_talk.specs.Stages.{HearsOf, is_opening, receiver_in, IsStage, IsDirection}
use Rattle.bt_talk.proofs.Cuts.{cut_more, cut_none, within_more}
use Rattle.bt_talk.proofs.Receivers.{receiver_same, judged_same}

pub stage_same : (terms : Terms) (p q p' q' : Past) (s : Stage) → p'.out ≡ p.out → p'.front ≡ p.front → q'.front ≡ q.front → IsStage terms p q s
    → IsStage terms p' q' s
stage_same terms p q p' q' (Opening front) o e f i = (i.0 ∙ sym o, e ∙ i.1 ∙ sym o)
stage_same terms p q p' q' (Open j) o e f i = (
  receiver_same terms p q p' q' (Some j.value.receiver) e f i.0,
  judged_same j.value.receiver.own p p' j.value.judge e o i.1,
)
stage_same terms p q p' q' Stranger o e f i = receiver_same terms p q p' q' None e f i

-- The direction has another flow now.
with_flow : (terms : Terms) (p q other : Past) (d d' : Direction) → q.out ≡ p.out → q.front ≡ p.front → d'.intro ≡ d.intro → d'.stage ≡ d.stage → d'.cut ≡ d.cut
    → IsDirection terms p other d → IsFlowOf q d'.flow → IsDirection terms q other d'
with_flow terms p q other d d' o e i s c old f = record {
  flow = f;
  intro = subst (λ (x : Introduction). IsHeardOf q.front x) (sym i) (subst (λ (l : List ℕ). IsHeardOf l d.intro) (sym e) old.intro);
  later = old.later;
  front = o ∙ old.front ∙ ap (λ (l : List ℕ). l ++ old.later) (sym e);
  stage = subst (λ (x : Stage). IsStage terms q other x) (sym s) (stage_same terms p other q other d.stage o e refl old.stage);
  within = subst (λ (l : List ℕ). IsWithin (cut_length d'.cut) l) (sym o) (subst (λ (x : Option Cut). IsWithin (cut_length x) p.out) (sym c) old.within);
  cut = subst (λ (x : Stage). IsCutNow (receiver_in x) q.front q.out d'.cut) (sym s) (subst (λ (x : Option Cut). IsCutNow (receiver_in d.stage) q.front q.out x) (sym c)
      (subst (λ (l : List ℕ). IsCutNow (receiver_in d.stage) l q.out d.cut) (sym e)
      (subst (λ (l : List ℕ). IsCutNow (receiver_in d.stage) p.front l d.cut) (sym o) old.cut)));
}

pub hears_of : (number : ℕ) (opens : Bool) (terms : Terms) (p other : Past) (d d' : Direction) → d'.intro ≡ d.intro → d'.stage ≡ d.stage → d'.cut ≡ d.cut
    → IsDirection terms p other d → HasHeard number opens p.heard p.segs p.out d'.flow → HearsOf number opens terms p other d'
hears_of number opens terms p other d d' i s c old (inl h) =
    let q : Past = record p { heard = p.heard ++ Acked (record { number = number; opens = opens; place = h.0 }) ∷ [] } in
    inl (h.0, with_flow terms p q other d d' refl refl i s c old h.1, h.2)
hears_of number opens terms p other d d' i s c old (inr h) = inr (with_flow terms p p other d d' refl refl i s c old h.1, h.0)

-- The other side's front matters only after the opening.
pub stage_beside : (terms : Terms) (p q q' : Past) (s : Stage) → (is_opening s ≡ false → q'.front ≡ q.front) → IsStage terms p q s
    → IsStage terms p q' s
stage_beside terms p q q' (Opening front) f i = i
stage_beside terms p q q' (Open j) f i = (receiver_same terms p q p q' (Some j.value.receiver) refl (f refl) i.0, i.1)
stage_beside terms p q q' Stranger f i = receiver_same terms p q p q' None refl (f refl) i

pub beside : (terms : Terms) (p q q' : Past) (d : Direction) → (is_opening d.stage ≡ false → q'.front ≡ q.front) → IsDirection terms p q d
    → IsDirection terms p q' d
beside terms p q q' d f i = record {
  flow = i.flow;
  intro = i.intro;
  later = i.later;
  front = i.front;
  stage = stage_beside terms p q q' d.stage f i.stage;
  within = i.within;
  cut = i.cut;
}

-- In the opening all bytes belong to it.
pub opening_front : (terms : Terms) (p q : Past) (s : Stage) → is_opening s ≡ true → IsStage terms p q s → p.front ≡ p.out
opening_front terms p q (Opening front) e i = i.1
opening_front terms p q (Open j) e i = absurd (cc)
opening_front terms p q Stranger e i = absurd (cc)

-- After the opening a segment adds to what follows it.
pub goes_on : (g : Given) (terms : Terms) (p other q : Past) (d d' : Direction) → d'.intro ≡ d.intro → receiver_in d'.stage ≡ receiver_in d.stage
    → d'.cut ≡ d.cut → IsDirection terms p other d → IsFlowOf q d'.flow → Adds g false p d.flow q d'.flow → IsStage terms q other d'.stage
    → IsDirection terms q other d'
goes_on g terms p other q d d' e r k i f a s = record {
  flow = f;
  intro = subst (λ (x : Introduction). IsHeardOf q.front x) (sym e) (subst (λ (l : List ℕ). IsHeardOf l d.intro) (sym a.front) i.intro);
  later = i.later ++ a.more;
  front = a.out ∙ ap (λ (l : List ℕ). l ++ a.more) i.front ∙ append_assoc p.front i.later a.more
      ∙ ap (λ (l : List ℕ). l ++ (i.later ++ a.more)) (sym a.front);
  stage = s;
  within = subst (λ (c : Option Cut). IsWithin (cut_length c) q.out) (sym k) (within_more (cut_length d.cut) p.out a.more q.out a.out i.within);
  cut = subst (λ (c : Option Cut). IsCutNow (receiver_in d'.stage) q.front q.out c) (sym k)
      (cut_more (receiver_in d.stage) (receiver_in d'.stage) p.front q.front p.out a.more q.out d.cut r a.front a.out i.within i.cut);
}

pub in_opening : (terms : Terms) (p other : Past) (d : Direction) → IsFlowOf p d.flow → IsHeardOf p.front d.intro → p.front ≡ p.out
    → receiver_in d.stage ≡ None → IsWithin (cut_length d.cut) p.out → IsStage terms p other d.stage → IsDirection terms p other d
in_opening terms p other d f h all r le s = record {
  flow = f;
  intro = h;
  later = [];
  front = sym all ∙ sym (append-nil p.front);
  stage = s;
  within = le;
  cut = cut_none (receiver_in d.stage) p.front p.out d.cut r;
}
