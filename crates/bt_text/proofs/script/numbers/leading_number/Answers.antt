use Rattle.std.proofs.Common.{◌≡◌, ◌<◌, length, take, get_or, true, false, sym, ◌∙◌, arith}
use Rattle.bt_text.proofs.ScriptWords.{led_is, led_number, no_zero}
use Rattle.bt_text.proofs.script.numbers.leading_number.Goals as goal

pub returns-then-count-eq0-clause-value : goal.returns-then-count-eq0-clause-value
returns-then-count-eq0-clause-value c = record {
  found = tt;
  all = λ m rest lt stop parts.
      let is = led_is c.args.text.now _ _ c.leading_digits-n.ensures m rest lt stop parts in
      absurd (omega (arith, is.some, is.short, c.then-count-eq0.either));
}

pub returns-then-has_leading_zero-clause-value : goal.returns-then-has_leading_zero-clause-value
returns-then-has_leading_zero-clause-value c =
    let led = c.has_leading_zero.ensures.0 c.if-has_leading_zero.true in
    record {
      found = tt;
      all = λ m rest lt stop parts.
          let is = led_is c.args.text.now _ _ c.leading_digits-n.ensures m rest lt stop parts in
          absurd (no_zero is lt (rw c.split_at.ensures.front at led.0) (rw c.split_at.ensures.front at led.1));
    }

pub returns-in-Ok-clause-value : goal.returns-in-Ok-clause-value
returns-in-Ok-clause-value c =
    let t = c.args.text.now in
    let r = c.leading_digits-n.result in
    let led : get_or (take r.1 t) 0 0 ≡ 48 → 1 < length (take r.1 t) → ⊥ = λ e more.
    let k : true ≡ false = sym (c.has_leading_zero.ensures.1 (rw c.split_at.ensures.front e, rw c.split_at.ensures.front more)) ∙ c.if-has_leading_zero.false in
    cc k in
    rw (c.split_at.ensures.back, c.in-Ok.ensures.1) (record {
      found = (c.in-Ok.ensures.0, led_number t r.0 r.1 c.leading_digits-n.ensures (omega arith) (omega arith) led c.in-Ok.ensures.0);
      all = λ m rest lt stop parts.
          let is = led_is t _ _ c.leading_digits-n.ensures m rest lt stop parts in
          rw (is.value, is.after);
    })

pub returns-in-Err-clause-value : goal.returns-in-Err-clause-value
returns-in-Err-clause-value c = record {
  found = tt;
  all = λ m rest lt stop parts.
      let is = led_is c.args.text.now _ _ c.leading_digits-n.ensures m rest lt stop parts in
      absurd (c.in-Err.ensures (omega (arith, is.value, lt)));
}
