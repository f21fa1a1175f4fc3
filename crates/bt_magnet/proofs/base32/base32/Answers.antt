use Rattle.std.proofs.Common.{sym, ◌∙◌, rules}
use Rattle.bt_magnet.proofs.Digits.{base32_by, twenty_items}
use Rattle.bt_magnet.proofs.base32.base32.Goals as goal

pub returns : goal.returns
returns c =
    let whole = base32_by c.args.digits.now _ _ _ _ (search rules) (sym c.five.ensures.value ∙ c.in_ok-a.was) (sym c.five-2.ensures.value ∙ c.in_ok-f.was)
    (sym c.five-3.ensures.value ∙ c.in_ok-k.was) (sym c.five-4.ensures.value ∙ c.in_ok-p.was) in
    twenty_items _ _ _ _ c.in_ok-a.ensures.len c.in_ok-f.ensures.len c.in_ok-k.ensures.len c.in_ok-p.ensures.len ∙ sym whole
