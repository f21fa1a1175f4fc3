-- What a side did besides items.
use Rattle.std.proofs.Common.{◌≡◌, ◌∙◌, ◌-◌, Bool, true, false, Option, sym, ap, subst}
use Rattle.std.specs.Prelude.{unwrap_or}
use Rattle.bt_flow.specs.declared.flow.Flow.{Flow}
use Rattle.bt_flow.specs.Flows.{high_in}
use Rattle.bt_packet.specs.declared.tcp.Flags.{Flags}
use Rattle.bt_remarks.specs.declared.events.Side.{Side}
use Rattle.bt_rows.specs.declared.parts.Means.{Means}
use Rattle.bt_wire.specs.declared.item.Refusal.{Refusal}
use Rattle.bt_talk.specs.declared.stage.Stage.{Stage}
use Rattle.bt_talk.specs.declared.talk.Talk.{Talk}
use Rattle.bt_talk.specs.Courses.{closes_by}
use Rattle.bt_talk.specs.Pasts.{Past}
use Rattle.bt_talk.specs.Shown.{Deeds}
use Rattle.bt_talk.specs.Stages.{IsRefusedIn}
use Rattle.bt_talk.specs.Talks.{AreDeeds, AreDeedsBy, Did, direction_of, flow_of, has_closed, of_side}

deeds_by : (begun : Bool) (side : Side) (before : Option Refusal) (closed : Option Means) (a b : Past) (t u : Talk) (d : Deeds)
    → ((k : Side) → (direction_of k u).stage ≡ (direction_of k t).stage) → ((k : Side) → flow_of k u ≡ flow_of k t)
    → AreDeedsBy begun side before closed a b t d → AreDeedsBy begun side before closed a b u d
deeds_by false side before closed a b t u d e f i = i
deeds_by true side before closed a b t u d e f i = (
  i.0,
  i.1,
  subst (λ (s : Stage). IsRefusedIn s (of_side side a b) i.0) (sym (e side)) i.2,
  (
    i.3.0,
    i.3.1,
    i.3.2 ∙ ap (λ (x : Flow). high_in (of_side side a b).heard x.stream - unwrap_or i.3.0 0) (sym (f side)),
  ),
  i.4,
)

-- What they stand on is as it was.
pub deeds_same : (side : Side) (before : Option Refusal) (closed closed' : Option Means) (a b : Past) (t u : Talk) (d : Deeds) → closed ≡ closed'
    → ((k : Side) → (direction_of k u).stage ≡ (direction_of k t).stage) → ((k : Side) → flow_of k u ≡ flow_of k t)
    → AreDeeds side before closed a b t d → AreDeeds side before closed' a b u d
deeds_same side before closed closed' a b t u d e stages flows i =
    subst (λ (x : Option Means). AreDeeds side before x a b u d) e (i.0, i.1, deeds_by i.0 side before closed a b t u d stages flows i.2)

abbrev pub did_same : (flags : Flags) (side : Side) (a b a' b' : Past) (t t' u u' : Talk) → ((k : Side) → (direction_of k u).stage ≡ (direction_of k t).stage)
    → ((k : Side) → (direction_of k u').stage ≡ (direction_of k t').stage) → ((k : Side) → flow_of k u' ≡ flow_of k t')
    → has_closed side u ≡ has_closed side t → Did flags side a b a' b' t t' → Did flags side a b a' b' u u'
did_same flags side a b a' b' t t' u u' e f g h d = record {
  deeds = d.deeds;
  before = d.before;
  before_is = subst (λ (x : Stage). IsRefusedIn x (of_side side a b) d.before) (sym (e side)) d.before_is;
  are = deeds_same side d.before _ _ a' b' t' u' d.deeds (ap (closes_by flags) (sym h)) f g d.are;
}
