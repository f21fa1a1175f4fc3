use Rattle.std.proofs.Common.{ap, ◌∙◌, arith}
use Rattle.bt_tcp.specs.Segments.{or_else, byte_in}
use Rattle.bt_tcp.proofs.Bytes.{byte_in-past}
use Rattle.bt_flow.proofs.far.Far.keep.Goals as goal

pub invariant_of-self : goal.invariant_of-self
invariant_of-self c = record {
  over = λ i h. c.in-Ok.ensures i ∙ ap (λ o. or_else o (byte_in (record { place = c.args.at; bytes = c.args.part.now }) i))
      (c.args.self.now.over i (omega arith)) ∙ byte_in-past (record { place = c.args.at; bytes = c.args.part.now }) i (omega arith);
}
