use Rattle.std.proofs.Common.{ap, refl}
use Rattle.std.specs.Prelude.{option_and_then}
use Rattle.bt_bencode.specs.LookUps.{dictionary_of}
use Rattle.bt_bencode.specs.Keys.{value_at}
use Rattle.bt_torrent.proofs.Lookups.{as_dictionary, no_dictionary_of}
use Rattle.bt_torrent.proofs.bencoded.dictionary_at.Goals as goal

pub returns-in_err-value : goal.returns-in_err-value
returns-in_err-value c = λ ps more h. rw c.from_residual.ensures (ap (option_and_then dictionary_of) (c.in_err-value.ensures ps more h))

pub returns-then-begins_with : goal.returns-then-begins_with
returns-then-begins_with c = λ ps more h. as_dictionary c.in_ok-value.value.now (value_at c.args.key.now ps) (c.if-begins_with.ensures.0 refl)
    (c.in_ok-value.ensures ps more h)

pub returns : goal.returns
returns c = λ ps more h. no_dictionary_of c.in_ok-value.value.now (value_at c.args.key.now ps)
    (λ e. let no = c.if-begins_with.ensures.1 e in cc) (c.in_ok-value.ensures ps more h)
