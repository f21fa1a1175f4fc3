use Rattle.std.proofs.Common.{◌≡◌, ◌≢◌, false, length, drop, arith, refl}
use Rattle.bt_pcap.specs.Numbers.{number16}
use Rattle.bt_pcap.specs.Options.{value_of, is_option}
use Rattle.bt_pcap.proofs.OptionProofs.{goes_on}
use Rattle.bt_pcap.proofs.options.value.Goals as goal

pub loop-rest-init : goal.loop-rest-init
unfolding value_of
loop-rest-init c = (length c.args.options.now, omega arith, refl)

pub loop-rest-preserved : goal.loop-rest-preserved
loop-rest-preserved c =
    let rest = c.loop-rest.rest.now in
    let value : c.u16_at-size.result.1.now ≡ drop 2 (drop 2 rest) = cc in
    let size : c.u16_at-size.result.0 ≡ number16 c.args.order (drop 2 rest) = cc in
    let counts : number16 c.args.order rest ≢ 0 = λ z. absurd (omega (arith, c.u16_at-code.ensures.number, z)) in
    let is : is_option c.args.wanted c.args.long (number16 c.args.order rest) (number16 c.args.order (drop 2 rest)) ≡ false = cc in
    goes_on c.loop-rest.invariant.0 c.args.order c.args.wanted c.args.long rest c.u16_at-size.result.1.now c.u16_at-size.result.0
    (value_of c.args.order c.args.wanted c.args.long c.args.options.now)
    c.loop-rest.invariant.1 (omega arith) value size counts is (omega arith) c.loop-rest.invariant.2
