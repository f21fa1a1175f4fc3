use Rattle.std.proofs.Common.{◌∙◌, ap, Some, ℤ}
use Rattle.std.specs.Int.{w64}
use Rattle.std.proofs.lemmas.Int.{to_z-of_z}
use Rattle.bt_bencode.proofs.Heads.{nonempty, integer_there}
use Rattle.bt_bencode.proofs.Lookups.{integer_in}
use Rattle.bt_bencode.proofs.skip.int_in.Goals as goal

pub bounds-value-0 : goal.bounds-value-0
bounds-value-0 c = nonempty c.args.value.now c.requires

pub read_int-requires : goal.read_int-requires
read_int-requires c = rw c.following.ensures (integer_there c.args.value.now c.requires c.if-value-eq105.true)

pub returns-then-value-eq105 : goal.returns-then-value-eq105
returns-then-value-eq105 c = λ t more h is.
    ap (λ (z : ℤ). Some z) (to_z-of_z w64 c.read_int.result.0 c.read_int.ensures.fits) ∙ integer_in
    c.read_int.result.1.now c.read_int.result.0 t more c.if-value-eq105.true c.following.ensures c.read_int.ensures.fits c.read_int.ensures.value h is
