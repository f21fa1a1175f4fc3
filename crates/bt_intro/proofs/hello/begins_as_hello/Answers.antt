use Rattle.std.proofs.Common.{drop}
use Rattle.std.proofs.lemmas.Bool.Decides.{Decides-eqb}
use Rattle.std.proofs.lemmas.Slice.Eq.{starts_is}
use Rattle.bt_wire.specs.Handshakes.{protocol}
use Rattle.bt_intro.proofs.hello.begins_as_hello.Goals as goal

pub returns-clause-yes : goal.returns-clause-yes
returns-clause-yes c = λ e. record {
  after = drop 20 c.args.bytes.now;
  parts = (starts_is Decides-eqb c.args.bytes.now protocol c.starts_with.result c.starts_with.ensures.value).0 e;
}

pub returns-clause-no : goal.returns-clause-no
returns-clause-no c = (starts_is Decides-eqb c.args.bytes.now protocol c.starts_with.result c.starts_with.ensures.value).1
