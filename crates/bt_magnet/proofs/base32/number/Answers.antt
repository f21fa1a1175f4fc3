use Rattle.std.proofs.Common.{◌^◌, ◌<◌, ◌≤◌, suc, Some, drop, fold, length, ap, sym, ◌∙◌, arith, drop-cons}
use Rattle.std.proofs.Math.Nat.{pow-le-pow_right}
use Rattle.bt_magnet.specs.Base32.{extended}
use Rattle.bt_magnet.proofs.Digits.{fold_none}
use Rattle.bt_magnet.proofs.base32.number.Goals as goal

pub extended-requires : goal.extended-requires
extended-requires c =
    let within : c.loop-digit.digit-index ≤ 7 = omega arith in
    let most : 32 ^ c.loop-digit.digit-index ≤ 32 ^ 7 = pow-le-pow_right (omega arith) within in
    omega arith

pub returns-in_err-number : goal.returns-in_err-number
returns-in_err-number c =
    let digits = c.args.digits.now in
    let i = c.loop-digit.digit-index in
    let within : i < length digits = omega arith in
    c.from_residual.ensures
    ∙ sym (c.loop-digit.invariant.0 ∙ ap (fold extended (Some c.loop-digit.number)) (drop-cons digits i 0 within)
    ∙ ap (λ o. fold extended o (drop (suc i) digits)) (sym c.extended.ensures.value ∙ c.in_err-number.was) ∙ fold_none (drop (suc i) digits))
