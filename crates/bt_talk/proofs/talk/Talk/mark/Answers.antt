use Rattle.std.proofs.Common.{refl, subst}
use Rattle.bt_remarks.specs.declared.events.Side.{Side}
use Rattle.bt_flow.specs.Flows.{HasHole}
use Rattle.bt_talk.specs.Talks.{flow_of, of_side}
use Rattle.bt_talk.proofs.talk.Talk.mark.Goals as goal

pub returns : goal.returns
returns c = λ a b t. record {
  side_is = refl;
  when_is = refl;
  length_is = c.length.ensures a b t;
  hole = c.has_hole.result;
  hole_is = subst (λ (s : Side). HasHole (of_side s a b).heard (of_side s a b).out (flow_of s c.args.self.now).stream c.has_hole.result) c.other.ensures
      (c.has_hole.ensures a b t);
  whole = refl;
  high = c.high.ensures a b t;
  closed_is = refl;
}
