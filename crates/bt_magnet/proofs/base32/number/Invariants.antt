use Rattle.std.proofs.Common.{◌≡◌, ◌^◌, ◌<◌, fold, drop, Some}
use Rattle.bt_magnet.specs.Base32.{extended, number_of}
use Rattle.bt_magnet.proofs.base32.number.Given as goal

abbrev pub invariant-loop-digit : goal.invariant-loop-digit
invariant-loop-digit l = (number_of l.digits ≡ fold extended (Some l.number) (drop l.digit-index l.digits)) × (l.number < 32 ^ l.digit-index)
