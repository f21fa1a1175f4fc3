use Rattle.std.proofs.Common.{rules}
use Rattle.std.proofs.lemmas.Fmt.{length-decimal-le}
use Rattle.bt_link.proofs.text.push_number.Goals as goal

pub write_digits-place-requires : goal.write_digits-place-requires
write_digits-place-requires c = search (rules, length-decimal-le 20)
