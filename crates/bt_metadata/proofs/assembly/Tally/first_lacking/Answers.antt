use Rattle.std.proofs.Common.{◌+◌, position, option_map, ap, sym, ◌∙◌, arith}
use Rattle.std.proofs.lemmas.List.{take_rest}
use Rattle.bt_metadata.specs.Sound.{lacks}
use Rattle.bt_metadata.proofs.Firsts.{first-le-length, position-drop}
use Rattle.bt_metadata.proofs.assembly.Tally.first_lacking.Goals as goal

pub slice_bounds-first_lacking-count : goal.slice_bounds-first_lacking-count
slice_bounds-first_lacking-count c = omega (arith, first-le-length c.args.states.now)

pub slice_bounds-first_lacking-start : goal.slice_bounds-first_lacking-start
slice_bounds-first_lacking-start c = omega (arith, first-le-length c.args.states.now)

pub returns-in_err-k-clause-first : goal.returns-in_err-k-clause-first
returns-in_err-k-clause-first c =
    let n = c.args.self.now.lowest in
    c.from_residual.ensures ∙ ap (option_map (λ k. n + k)) (c.in_err-k.ensures.first ∙ ap (λ xs. position lacks xs) (take_rest c.args.states.now n)) ∙ sym (position-drop c.args.states.now n c.requires.lowest)

pub returns-clause-first : goal.returns-clause-first
returns-clause-first c =
    let n = c.args.self.now.lowest in
    ap (option_map (λ k. n + k)) (c.in_ok-k.ensures.first ∙ ap (λ xs. position lacks xs) (take_rest c.args.states.now n)) ∙ sym (position-drop c.args.states.now n c.requires.lowest)
