use Rattle.std.proofs.Common.{◌≡◌, ◌+◌, ◌/◌, ◌%◌, ◌≤◌, length, arith, rules, append_assoc}
use Rattle.std.proofs.lemmas.List.{places}
use Rattle.itoa.proofs.Decimal.{decimal_four}
use Rattle.bt_text.proofs.Digits.{take_front}
use Rattle.bt_text.proofs.putting.Offset.put_near.Goals as goal

pub returns-clause-text : goal.returns-clause-text
returns-clause-text c =
    let o = c.args.self.now in
    let whole = o.whole in
    let n = o.base + c.args.low in
    let short : o.count ≤ length c.copy_from_slice.new.self = search (rules, places) in
    let high : n / 10000 ≡ o.base / 10000 = omega arith in
    let low : n % 10000 ≡ c.args.low = omega arith in
    rw (
      c.put_four.ensures.text,
      take_front c.args.place _ o.count c.args.text.now c.copy_from_slice.new.self (omega arith) short,
      c.copy_from_slice.ensures.after,
      o.written,
      decimal_four n (omega arith) (omega arith),
      high,
      low,
      append_assoc,
    )
