use Rattle.std.proofs.Common.{ap, sym, is_some}
use Rattle.std.specs.Prelude.{option_and_then}
use Rattle.bt_bencode.specs.LookUps.{integer_of}
use Rattle.bt_bencode.specs.Keys.{value_at}
use Rattle.bt_torrent.proofs.Lookups.{integer_said}
use Rattle.bt_torrent.proofs.bencoded.has_integer.Goals as goal

pub returns-in-None : goal.returns-in-None
returns-in-None c = λ ps more h. sym (ap (λ x. is_some (option_and_then integer_of x)) (c.in-None.ensures ps more h))

pub returns-in-Some : goal.returns-in-Some
returns-in-Some c = λ ps more h. integer_said c.in-Some.value.now (value_at c.args.key.now ps) c.begins_with.result c.begins_with.ensures.0
    c.begins_with.ensures.1 (c.in-Some.ensures ps more h)
