use Rattle.std.proofs.Common.{◌∙◌, get_or, sym, arith, below_more}
use Rattle.bt_text.proofs.ScriptWords.{value_short, is_digit, number_step}
use Rattle.bt_text.proofs.script.numbers.digits_in.Goals as goal

pub overflow_mul-n : goal.overflow_mul-n
overflow_mul-n c =
    omega (
      arith,
      value_short c.args.text.now c.loop-count.count c.loop-count.n (omega arith) (omega arith) c.loop-count.invariant.value c.loop-count.invariant.digits,
    )

pub overflow_add-n : goal.overflow_add-n
overflow_add-n c =
    let short = value_short c.args.text.now c.loop-count.count c.loop-count.n (omega arith) (omega arith) c.loop-count.invariant.value
    c.loop-count.invariant.digits in
    let digit = is_digit (get_or c.args.text.now c.loop-count.count 0) (sym c.is_ascii_digit.ensures.value ∙ c.if-not-is_ascii_digit.false) in
    omega (arith, short, digit, c.from.ensures)

pub loop-count-preserved : goal.loop-count-preserved
loop-count-preserved c =
    let t = c.args.text.now in
    let i = c.loop-count.count in
    let digit = is_digit (get_or t i 0) (sym c.is_ascii_digit.ensures.value ∙ c.if-not-is_ascii_digit.false) in
    record {
      value = rw c.from.ensures (number_step t i c.loop-count.n c.loop-count-test.true digit c.loop-count.invariant.value);
      digits = below_more _ _ c.loop-count.invariant.digits digit;
    }
