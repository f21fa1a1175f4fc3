use Rattle.std.proofs.Common.{◌≡◌, ◌++◌, rules, subst}
use Rattle.std.specs.Prelude.{codes}
use Rattle.bt_text.specs.Misfits.{IsShortNumber}
use Rattle.bt_text.proofs.Misfits.{block_parts, block_read}
use Rattle.bt_text.proofs.script.misfit.decimal_block.Goals as goal

pub returns-in_err-rest-2 : goal.returns-in_err-rest-2
returns-in_err-rest-2 c =
    let parts : c.args.text.now ≡ codes "piece " ++ c.in_ok-rest.rest.now = search rules in
    rw (parts, c.from_residual-in_err-rest-2.ensures) (λ hex h. let r = block_read _ hex h in let none = c.in_err-rest-2.ensures in let p = r.1 in cc)

pub returns-in_err-block : goal.returns-in_err-block
returns-in_err-block c =
    let parts : c.args.text.now ≡ codes "piece " ++ c.in_ok-rest.rest.now = search rules in
    let on = c.in_ok-rest-2.ensures in
    let none = c.in_err-block.ensures in
    rw (parts, c.from_residual-in_err-block.ensures) (λ hex h. let r = block_read _ hex h in let p = r.1 in let q = r.2 in cc)

pub returns-then-is_short_number : goal.returns-then-is_short_number
returns-then-is_short_number c =
    let parts : c.args.text.now ≡ codes "piece " ++ c.in_ok-rest.rest.now = search rules in
    rw parts (block_parts _ _ _ c.in_ok-rest-2.ensures c.in_ok-block.ensures (c.is_short_number.ensures.0 c.if-is_short_number.true))

pub returns-else-is_short_number : goal.returns-else-is_short_number
returns-else-is_short_number c =
    let parts : c.args.text.now ≡ codes "piece " ++ c.in_ok-rest.rest.now = search rules in
    let on = c.in_ok-rest-2.ensures in
    let block = c.in_ok-block.ensures in
    rw parts (λ hex h. let r = block_read _ hex h in let p = r.1 in let q = r.2 in let same : hex ≡ c.in_ok-block.block.now = cc in
    let short = c.is_short_number.ensures.1 (subst IsShortNumber same h.number) in cc)
