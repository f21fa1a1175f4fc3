use Rattle.std.proofs.Common.{◌∙◌, Bool, ap}
use Rattle.bt_talk.specs.Inside.{inside_by}
use Rattle.bt_talk.proofs.talk.Talk.end_inside.Goals as goal

pub returns : goal.returns
returns c = λ a b t. record {
  judgement = c.verdicts.result;
  are = c.verdicts.ensures a b t;
  gaps = c.gaps-gaps.result;
  gaps_are = c.gaps-gaps.ensures a b t;
  is = c.ended_inside.ensures ∙ ap (λ (k : Bool). inside_by k c.gaps-gaps.result.first c.verdicts.result) c.has_closed-closed.ensures;
}
