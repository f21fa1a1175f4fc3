use Rattle.std.proofs.Common.{◌∙◌, rules, sym, true}
use Rattle.std.proofs.lemmas.Result.{err_from_is_err_and}
use Rattle.bt_serve.proofs.Doors.{more_twice, within_next, within_unserved}
use Rattle.bt_serve.proofs.LastTold.{up_to_admitted, up_to_same, up_to_served, up_to_unserved}
use Rattle.bt_serve.proofs.serving.serve_all.Goals as goal

pub returns-in_err-came-clause-told : goal.returns-in_err-came-clause-told
returns-in_err-came-clause-told g c =
    let p = err_from_is_err_and c.from_residual.result c.from_residual.ensures.1 in
    rw p.1 (up_to_unserved _ _ _ _ _ c.in_err-came.ensures.left.2 c.loop-round.invariant.told c.in_err-came.ensures.unserved)

pub loop-round-preserved : goal.loop-round-preserved
loop-round-preserved g c = record {
  inside = search rules;
  told = up_to_same _ _ _ _ true c.rest.ensures.told (up_to_served _ _ _ _ _ _ c.tend_all-ended.ensures.ended
      (up_to_admitted _ _ _ _ _ _ _ c.in_ok-came.ensures.guests c.loop-round.invariant.told c.in_ok-came.ensures.told)
      c.tend_all-ended.ensures.told c.tend_all-ended.ensures.more);
  more = more_twice _ _ _ _ _ _ _ _ _ (search rules) c.loop-round.invariant.more c.in_ok-came.ensures.more c.tend_all-ended.ensures.more c.rest.ensures.told;
  held = search rules;
  within = within_next _ _ _ _ _ (search rules) c.in_ok-came.ensures.may c.may_enter-may_enter.ensures.more c.loop-round.invariant.within;
  entered = search rules;
  rounds = search rules;
}

pub returns-in_err-came-clause-within : goal.returns-in_err-came-clause-within
returns-in_err-came-clause-within g c =
    within_unserved _ _ _ _ _ _ _ _ _ c.loop-round.invariant.held (c.in_err-came.ensures.left.2 ∙ sym c.in_err-came.ensures.left.1) c.in_err-came.ensures.left.0
    c.may_enter-may_enter.ensures.more c.loop-round.invariant.more c.in_err-came.ensures.left.3
