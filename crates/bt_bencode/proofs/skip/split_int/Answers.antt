use Rattle.std.proofs.Common.{◌∙◌, ap, Some, ℤ}
use Rattle.std.specs.Int.{w64}
use Rattle.std.proofs.lemmas.Int.{to_z-of_z}
use Rattle.bt_bencode.proofs.Heads.{nonempty, integer_there}
use Rattle.bt_bencode.proofs.Lookups.{integer_in}
use Rattle.bt_bencode.proofs.Walk.{over_integer}
use Rattle.bt_bencode.proofs.skip.split_int.Goals as goal

pub bounds-value-0 : goal.bounds-value-0
bounds-value-0 c = nonempty c.args.value.now c.requires

pub read_int-number-requires : goal.read_int-number-requires
read_int-number-requires c = rw c.following.ensures (integer_there c.args.value.now c.requires c.if-value-eq105.true)

pub returns-then-value-eq105 : goal.returns-then-value-eq105
returns-then-value-eq105 c = record {
  number = λ t more h is.
      ap (λ (z : ℤ). Some z) (to_z-of_z w64 c.read_int-number.result.0 c.read_int-number.ensures.fits) ∙ integer_in
      c.read_int-number.result.1.now c.read_int-number.result.0 t more c.if-value-eq105.true c.following.ensures c.read_int-number.ensures.fits
      c.read_int-number.ensures.value h is;
  following = λ t more h is. (over_integer c.read_int-number.result.1.now c.read_int-number.result.0
      c.if-value-eq105.true c.following.ensures c.read_int-number.ensures.fits c.read_int-number.ensures.value t more h is).1;
}
