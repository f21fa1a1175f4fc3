use Rattle.std.proofs.Common.{sym, ◌∙◌}
use Rattle.bt_tcp.proofs.HeardProofs.{no-base}
use Rattle.bt_tcp.proofs.halves.Half.base.Goals as goal

pub returns-in_default : goal.returns-in_default
returns-in_default c heard h = no-base heard (sym h.zero ∙ c.in_default.is)

pub returns : goal.returns
returns c = λ heard h. record {
  zero_number = _;
  syn = _;
  zero = sym h.zero ∙ c.in-Some.is;
  opening = sym h.opening ∙ c.in-Some-opening.is;
  nearest = c.place.ensures;
}
