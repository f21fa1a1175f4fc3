use Rattle.std.proofs.Common.{◌∙◌, arith}
use Rattle.bt_feed.proofs.Filled.{steps_more}
use Rattle.bt_feed.proofs.progress.Progress.fill_by_steps.Goals as goal

pub returns-then-more-eq0-clause-fills : goal.returns-then-more-eq0-clause-fills
returns-then-more-eq0-clause-fills g c = steps_more c.steps.invariant.same.place c.suffix.ensures c.steps.invariant.fills c.step-more.ensures.fills

pub steps-preserved : goal.steps-preserved
steps-preserved g c = record {
  fills = steps_more c.steps.invariant.same.place c.suffix.ensures c.steps.invariant.fills c.step-more.ensures.fills;
  sound = c.step-more.ensures.sound;
  room = omega (arith, c.step-more.ensures.room, c.steps.invariant.room);
  same = record {
    place = c.step-more.ensures.same.place ∙ c.steps.invariant.same.place;
    refused = c.step-more.ensures.same.refused ∙ c.steps.invariant.same.refused;
    fresh = c.step-more.ensures.same.fresh;
  };
  unjudged = omega arith;
}
