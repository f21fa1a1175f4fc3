use Rattle.std.proofs.Common.{refl}
use Rattle.bt_tcp.proofs.BitProofs.{filled_byte}
use Rattle.bt_tcp.proofs.bits.fill_byte.Goals as goal

pub returns : goal.returns
returns c = filled_byte c.args.bits.now _ c.args.at c.args.from c.args.to c.args.value c.with_bits.result c.requires.at c.requires.within refl
    c.with_bits.ensures.inside c.with_bits.ensures.outside
