use Rattle.std.proofs.Common.{◌≡◌, ◌∙◌, ◌||◌, not, Bool, false, sym, ap}
use Rattle.bt_talk.proofs.talk.Talk.ending.Goals as goal

stops : (s t hole : Bool) → s ≡ false → s ≡ t → not s ≡ (not t || hole)
stops s t hole is e = ap (λ (b : Bool). not b) is ∙ ap (λ (b : Bool). not b || hole) (sym is ∙ e)

pub returns-then-not-is_accepted : goal.returns-then-not-is_accepted
returns-then-not-is_accepted c = λ a b i. record {
  verdicts = c.verdicts-verdicts.result;
  verdicts_are = c.verdicts-verdicts.ensures a b i;
  hole = c.has_hole-has_hole.result;
  hole_is = c.has_hole-has_hole.ensures a b i;
  closed_first = c.has_closed.ensures;
  stopped = stops c.is_accepted.result _ c.has_hole-has_hole.result c.if-not-is_accepted.true c.is_accepted.ensures;
}

pub returns-else-not-is_accepted : goal.returns-else-not-is_accepted
returns-else-not-is_accepted c = λ a b i. record {
  verdicts = c.verdicts-verdicts.result;
  verdicts_are = c.verdicts-verdicts.ensures a b i;
  hole = c.has_hole-has_hole.result;
  hole_is = c.has_hole-has_hole.ensures a b i;
  closed_first = c.has_closed.ensures;
  stopped = ap (λ (accepted : Bool). not accepted || c.has_hole-has_hole.result) (sym c.if-not-is_accepted.false ∙ c.is_accepted.ensures);
}
