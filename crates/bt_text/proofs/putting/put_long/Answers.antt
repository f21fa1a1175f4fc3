use Rattle.std.proofs.Common.{rules}
use Rattle.std.proofs.lemmas.Fmt.{length-decimal-le}
use Rattle.bt_text.proofs.putting.put_long.Goals as goal

pub write_digits-from-requires : goal.write_digits-from-requires
write_digits-from-requires c = search (rules, length-decimal-le 20)
