use Rattle.std.proofs.Common.{◌∙◌, ap, sym, refl, arith}
use Rattle.std.specs.Option.{option_or}
use Rattle.std.specs.Bool.{then_some}
use Rattle.std.proofs.lemmas.Grind.{common_steps}
use Rattle.bt_tcp.proofs.HeardProofs.{hears-more, or-none}
use Rattle.bt_tcp.proofs.halves.Half.take.Goals as goal

pub returns-clause-taken : goal.returns-clause-taken
returns-clause-taken c = hears-more _ _ _ record {
  zero = cc;
  opening = c.or-2.ensures ∙ ap (λ o. option_or o c.args.self.now.opening) c.then_some.ensures
      ∙ ap (option_or (then_some c.args.syn c.args.sequence)) (sym (or-none c.args.self.now.opening));
  «end» = omega arith;
  acked = refl;
  is_acked = grind (arith, common_steps);
  fin = c.or-3.ensures ∙ ap (λ o. option_or o c.args.self.now.fin) c.then_some-2.ensures;
  high = grind (arith, common_steps);
  nearest = rw (← c.data_number-number.ensures) c.place_of-at.ensures.is;
}
