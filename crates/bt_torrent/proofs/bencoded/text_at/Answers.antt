use Rattle.std.proofs.Common.{ap, sym, refl}
use Rattle.std.specs.Prelude.{option_and_then}
use Rattle.bt_bencode.specs.LookUps.{string_of}
use Rattle.bt_bencode.specs.Keys.{value_at}
use Rattle.bt_torrent.proofs.Lookups.{as_text, no_text_of}
use Rattle.bt_torrent.proofs.bencoded.text_at.Goals as goal

pub returns-in_err-value : goal.returns-in_err-value
returns-in_err-value c = λ ps more h. rw c.from_residual.ensures (sym (ap (option_and_then string_of) (c.in_err-value.ensures ps more h)))

pub returns-in_err-text : goal.returns-in_err-text
returns-in_err-text c = λ ps more h. rw c.from_residual-in_err-text.ensures
    (no_text_of c.in_ok-value.value.now (value_at c.args.key.now ps) (c.in_err-text.ensures.none refl) (c.in_ok-value.ensures ps more h))

pub returns : goal.returns
returns c = λ ps more h. as_text c.in_ok-value.value.now c.in_ok-text.text.now c.in_ok-text.field-0-1.now (value_at c.args.key.now ps)
    c.in_ok-text.ensures.short c.in_ok-text.ensures.split (c.in_ok-value.ensures ps more h)
