use Rattle.std.proofs.Common.{arith}
use Rattle.std.proofs.Math.Nat.{one-le-pow}
use Rattle.bt_pcap.proofs.options.divided.Goals as goal

pub nonzero_div-result : goal.nonzero_div-result
nonzero_div-result c = omega (arith, c.in-Some.ensures, one-le-pow c.from.result c.args.base c.requires)
