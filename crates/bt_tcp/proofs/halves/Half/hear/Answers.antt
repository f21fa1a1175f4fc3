use Rattle.std.proofs.Common.{refl, ap, ◌∙◌, arith}
use Rattle.std.specs.Option.{option_or}
use Rattle.std.proofs.lemmas.Grind.{common_steps}
use Rattle.bt_tcp.proofs.HeardProofs.{hears-more}
use Rattle.bt_tcp.proofs.halves.Half.hear.Goals as goal

pub returns-clause-heard : goal.returns-clause-heard
returns-clause-heard c = hears-more _ _ _ record {
  zero = c.or-self.ensures;
  opening = c.or-self-2.ensures ∙ ap (option_or c.args.self.now.opening) c.then_some.ensures;
  «end» = refl;
  acked = omega arith;
  is_acked = grind (arith, common_steps);
  fin = refl;
  high = refl;
  nearest = c.place_of-at.ensures.is;
}
