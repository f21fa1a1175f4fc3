use Rattle.std.proofs.Common.{◌≡◌, ℕ, ◌≤◌, length}
use Rattle.bt_pcap.specs.Options.{value_in, value_of}
use Rattle.bt_pcap.proofs.options.value.Given as goal

abbrev pub invariant-loop-rest : goal.invariant-loop-rest
invariant-loop-rest l = (fuel : ℕ) × (length l.rest ≤ fuel) × (value_in fuel l.order l.wanted l.long l.rest ≡ value_of l.order l.wanted l.long l.options)

abbrev pub decreases-loop-rest : goal.decreases-loop-rest
decreases-loop-rest l = length l.rest
