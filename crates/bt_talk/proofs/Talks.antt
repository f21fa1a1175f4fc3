-- What is known of a side of a connection, and of both after a segment.
use Rattle.bt_talk.specs.declared.terms.Terms.{Terms}
use Rattle.std.proofs.Common.{◌≡◌, ◌∙◌, ℕ, true, false, Bool, ◌∷◌, [], ◌++◌, Option, length, Some, None, refl, sym, ap, subst, arith, inl, inr, min, ◌-◌, ◌^◌}
use Rattle.std.specs.Prelude.{nat_le, if◌then◌else◌, ◌||◌}
use Rattle.std.proofs.lemmas.Bool.Decides.{nat_tests}
use Rattle.bt_tcp.specs.Heard.{Acked}
use Rattle.bt_remarks.specs.declared.events.Side.{Side}
use Rattle.bt_remarks.specs.declared.events.Side.TheVariants.{A, B}
use Rattle.bt_remarks.specs.Said.{other}
use Rattle.bt_packet.specs.declared.tcp.Segment.{Segment}
use Rattle.bt_flow.specs.declared.flow.Flow.{Flow}
use Rattle.bt_flow.specs.declared.flow.Given.{Given}
use Rattle.bt_talk.specs.declared.direction.Direction.{Direction}
use Rattle.bt_talk.specs.declared.replay.Opened.{Opened}
use Rattle.bt_talk.specs.Cuts.{IsCutNow, IsWithin, cut_length, closes_first, cut_after}
use Rattle.bt_talk.specs.Replays.{IsOpened, IsOpenedBy}
use Rattle.bt_talk.specs.declared.stage.Cut.{Cut}
use Rattle.bt_packet.specs.declared.tcp.Flags.{Flags}
use Rattle.bt_talk.specs.declared.stage.Stage.{Stage}
use Rattle.bt_talk.specs.declared.watch.Watch.{Watch}
use Rattle.bt_talk.specs.declared.sides.Sides.{Sides}
use Rattle.bt_talk.specs.declared.closing.Closed.{Closed}
use Rattle.bt_talk.specs.Pasts.{Past, Adds, IsAcked, IsAckedBy, IsFlowOf, HasSent, HasSentBy, given_of}
use Rattle.bt_talk.specs.Stages.{HearsOf, IsDirection, IsHeard, IsStage, is_opening, receiver_in}
use Rattle.bt_talk.specs.Talks.{AreSides, IsEnd, are_in_opening, cut_in, direction_in, flow_in, of_side, is_over}

direction_is : (terms : Terms) (side : Side) (a b : Past) (t : Sides) → AreSides terms a b t
    → IsDirection terms (of_side side a b) (of_side (other side) a b) (direction_in side t)
direction_is terms A a b t i = i.a_is
direction_is terms B a b t i = i.b_is

-- the direction of a side
pub found : (terms : Terms) (side : Side) (a b : Past) (t : Sides) (d : Direction) → d ≡ direction_in side t → AreSides terms a b t
    → IsDirection terms (of_side side a b) (of_side (other side) a b) d
found terms side a b t d e i =
    subst (λ (x : Direction). IsDirection terms (of_side side a b) (of_side (other side) a b) x) (sym e) (direction_is terms side a b t i)

stage_of : (terms : Terms) (side : Side) (a b : Past) (t : Sides) → AreSides terms a b t → is_opening (direction_in side t).stage ≡ are_in_opening t
stage_of terms A a b t i = refl
stage_of terms B a b t i = sym i.stages

pub opening_of : (terms : Terms) (side : Side) (a b : Past) (t : Sides) (d : Direction) → d ≡ direction_in side t → AreSides terms a b t
    → is_opening d.stage ≡ are_in_opening t
opening_of terms side a b t d e i = ap (λ (x : Direction). is_opening x.stage) e ∙ stage_of terms side a b t i

-- ---- a segment

acked_of : (s : Segment) (p q : Past) (n : ℕ) → s.flags.rst ≡ false → s.acked ≡ Some n → IsAckedBy false (Some n) s.flags.syn p q → IsAcked s p q
acked_of s p q n r e i =
    subst (λ (b : Bool). IsAckedBy b s.acked s.flags.syn p q) (sym r) (subst (λ (o : Option ℕ). IsAckedBy false o s.flags.syn p q) (sym e) i)

-- This side was heard with the acknowledgement, if it isn't passed over.
pub acked_some : (terms : Terms) (s : Segment) (p other : Past) (d : Direction) (n : ℕ) → s.flags.rst ≡ false → s.acked ≡ Some n
    → HearsOf n s.flags.syn terms p other d → (q : Past) × IsDirection terms q other d × IsAcked s p q × (q.front ≡ p.front)
acked_some terms s p other d n r e (inl h) =
    let q : Past = record p { heard = p.heard ++ Acked (record { number = n; opens = s.flags.syn; place = h.0 }) ∷ [] } in
    (q, h.1, acked_of s p q n r e (inl (h.0, refl, h.2)), refl)
acked_some terms s p other d n r e (inr h) = (p, h.0, acked_of s p p n r e (inr (refl, h.1)), refl)

pub acked_none : (s : Segment) (p : Past) → s.flags.rst ≡ false → s.acked ≡ None → IsAcked s p p
acked_none s p r e =
    subst (λ (b : Bool). IsAckedBy b s.acked s.flags.syn p p) (sym r) (subst (λ (o : Option ℕ). IsAckedBy false o s.flags.syn p p) (sym e) refl)

pub acked_reset : (s : Segment) (p : Past) → s.flags.rst ≡ true → IsAcked s p p
acked_reset s p r = subst (λ (b : Bool). IsAckedBy b s.acked s.flags.syn p p) (sym r) refl

pub sent_reset : (s : Segment) (opening : Bool) (p : Past) (flow : Flow) → s.flags.rst ≡ true → HasSent s opening p flow p flow
sent_reset s opening p flow r = subst (λ (b : Bool). HasSentBy b s opening p flow p flow) (sym r) (refl, refl)

pub sent_by : (s : Segment) (opening : Bool) (p : Past) (flow : Flow) (q : Past) (flow' : Flow) → s.flags.rst ≡ false
    → Adds (given_of s) opening p flow q flow' → HasSent s opening p flow q flow'
sent_by s opening p flow q flow' r a = subst (λ (b : Bool). HasSentBy b s opening p flow q flow') (sym r) a

-- After the opening its bytes stay.
pub front_kept : (g : Given) (opening : Bool) (p : Past) (flow : Flow) (q : Past) (flow' : Flow) → Adds g opening p flow q flow' → opening ≡ false
    → q.front ≡ p.front
front_kept g opening p flow q flow' a e = a.front ∙ ap (λ (b : Bool). if b then q.out else p.front) e

-- a sum that stays at its greatest value
pub bytes_over : (n m : ℕ) → n ≡ min m (2 ^ 64 - 1) → nat_le 1048576 n ≡ nat_le 1048576 m
bytes_over n m e = grind (arith, nat_tests)

pub over_same : (settled : Bool) (n m segments : ℕ) → n ≡ min m (2 ^ 64 - 1) → is_over settled n segments ≡ is_over settled m segments
over_same settled n m segments e = ap (λ (b : Bool). settled || (b || nat_le 4096 segments)) (bytes_over n m e)

pub end_same : (a b : Past) (n n' : ℕ) (over over' : Bool) → n ≡ n' → over ≡ over' → IsEnd a b n over → IsEnd a b n' over'
end_same a b n n' over over' e f i =
    subst (λ (k : ℕ). IsEnd a b k over') e (subst (λ (o : Bool). IsEnd a b n o) f i)

pub sides_same : (side : Side) (t t' : Sides) → t'.a ≡ t.a → t'.b ≡ t.b → direction_in side t' ≡ direction_in side t
sides_same A t t' e f = e
sides_same B t t' e f = f

pub flow_same : (side : Side) (t t' : Sides) → t'.a ≡ t.a → t'.b ≡ t.b → flow_in side t' ≡ flow_in side t
flow_same A t t' e f = ap (λ (d : Direction). d.flow) e
flow_same B t t' e f = ap (λ (d : Direction). d.flow) f

pub sent_same : (s : Segment) (opening : Bool) (p : Past) (flow flow' : Flow) (q : Past) (after after' : Flow) → flow ≡ flow' → after ≡ after'
    → HasSent s opening p flow q after → HasSent s opening p flow' q after'
sent_same s opening p flow flow' q after after' e f h =
    subst (λ (x : Flow). HasSent s opening p x q after') e (subst (λ (y : Flow). HasSent s opening p flow q y) f h)

acked_by : (reset : Bool) (o : Option ℕ) (opens : Bool) (q q' : Past) → IsAckedBy reset o opens q q' → (q'.front ≡ q.front) × (q'.out ≡ q.out)
acked_by true o opens q q' e = (ap (λ (p : Past). p.front) e, ap (λ (p : Past). p.out) e)
acked_by false None opens q q' e = (ap (λ (p : Past). p.front) e, ap (λ (p : Past). p.out) e)
acked_by false (Some n) opens q q' (inl e) = (ap (λ (p : Past). p.front) e.1, ap (λ (p : Past). p.out) e.1)
acked_by false (Some n) opens q q' (inr e) = (ap (λ (p : Past). p.front) e.0, ap (λ (p : Past). p.out) e.0)

-- An acknowledgement adds no byte.
pub acked_same : (s : Segment) (q q' : Past) → IsAcked s q q' → (q'.front ≡ q.front) × (q'.out ≡ q.out)
acked_same s q q' i = acked_by s.flags.rst s.acked s.flags.syn q q' i

after_opening : (terms : Terms) (p q : Past) (d d' : Direction) (o : Opened) → IsOpenedBy d o d' → IsDirection terms p q d
    → IsOpened terms p q (cut_length d.cut) o → IsDirection terms p q d'
after_opening terms p q d d' o e i k = record {
  flow = subst (λ (f : Flow). IsFlowOf p f) (sym e.flow) i.flow;
  intro = e.intro p.front i.intro;
  later = i.later;
  front = i.front;
  stage = subst (λ (s : Stage). IsStage terms p q s) (sym e.stage) k.stage;
  within = subst (λ (n : Option ℕ). IsWithin n p.out) (sym (ap cut_length e.cut ∙ k.length)) i.within;
  cut = subst (λ (s : Stage). IsCutNow (receiver_in s) p.front p.out d'.cut) (sym e.stage)
      (subst (λ (c : Option Cut). IsCutNow (receiver_in o.stage) p.front p.out c) (sym e.cut) k.last);
}

-- The opening ended: both sides have another stage.
pub ended : (terms : Terms) (a b : Past) (t u : Sides) (o o' : Opened) → IsOpenedBy t.a o u.a → IsOpenedBy t.b o' u.b
    → is_opening o.stage ≡ false → is_opening o'.stage ≡ false
    → IsOpened terms a b (cut_in A t) o → IsOpened terms b a (cut_in B t) o' → IsHeard a b o.stage o'.stage u.watch → AreSides terms a b t → AreSides terms a b u
ended terms a b t u o o' ea eb x y i j said k = record {
  a_is = after_opening terms a b t.a u.a o ea k.a_is i;
  b_is = after_opening terms b a t.b u.b o' eb k.b_is j;
  stages = ap is_opening ea.stage ∙ x ∙ sym y ∙ sym (ap is_opening eb.stage);
  said = subst (λ (s : Stage). IsHeard a b s u.b.stage u.watch) (sym ea.stage)
      (subst (λ (s : Stage). IsHeard a b o.stage s u.watch) (sym eb.stage) said);
}

pub cuts_same : (side : Side) (t u : Sides) → cut_length u.a.cut ≡ cut_length t.a.cut → cut_length u.b.cut ≡ cut_length t.b.cut → cut_in side u ≡ cut_in side t
cuts_same A t u e f = e
cuts_same B t u e f = f

pub both_same : (side : Side) (t u : Sides) → u.a ≡ t.a → u.b ≡ t.b → cut_in side u ≡ cut_in side t
both_same A t u e f = ap (λ (d : Direction). cut_length d.cut) e
both_same B t u e f = ap (λ (d : Direction). cut_length d.cut) f

-- The first FIN or RST notes how many bytes there are.
pub cut_noted : (side : Side) (a b : Past) (t u : Sides) (flags : Flags) (closed : Option Closed) → closes_first flags closed ≡ true
    → cut_length u.a.cut ≡ Some (length a.out) → cut_length u.b.cut ≡ Some (length b.out)
    → cut_in side u ≡ cut_after flags closed (length (of_side side a b).out) (cut_in side t)
cut_noted A a b t u flags closed is e f = e ∙ sym (ap (λ (k : Bool). if k then Some (length a.out) else cut_in A t) is)
cut_noted B a b t u flags closed is e f = f ∙ sym (ap (λ (k : Bool). if k then Some (length b.out) else cut_in B t) is)

pub cut_kept : (side : Side) (n : ℕ) (t : Sides) (flags : Flags) (closed : Option Closed) → closes_first flags closed ≡ false
    → cut_in side t ≡ cut_after flags closed n (cut_in side t)
cut_kept side n t flags closed is = sym (ap (λ (k : Bool). if k then Some n else cut_in side t) is)

pub flows_same : (side : Side) (t u : Sides) → u.a.flow ≡ t.a.flow → u.b.flow ≡ t.b.flow → flow_in side u ≡ flow_in side t
flows_same A t u e f = e
flows_same B t u e f = f

-- Both sides have noted the close.
pub closed_both : (terms : Terms) (a b : Past) (t u : Sides) → u.watch ≡ t.watch → u.a.stage ≡ t.a.stage → u.b.stage ≡ t.b.stage
    → IsDirection terms a b u.a → IsDirection terms b a u.b → AreSides terms a b t → AreSides terms a b u
closed_both terms a b t u ew ea eb i j k = record {
  a_is = i;
  b_is = j;
  stages = ap is_opening ea ∙ k.stages ∙ sym (ap is_opening eb);
  said = subst (λ (w : Watch). IsHeard a b u.a.stage u.b.stage w) (sym ew)
      (subst (λ (s : Stage). IsHeard a b s u.b.stage t.watch) (sym ea) (subst (λ (s : Stage). IsHeard a b t.a.stage s t.watch) (sym eb) k.said));
}
