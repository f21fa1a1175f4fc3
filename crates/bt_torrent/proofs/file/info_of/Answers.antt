use Rattle.std.proofs.Common.{◌∙◌, sym}
use Rattle.std.specs.Prelude.{option_and_then, codes}
use Rattle.bt_bencode.specs.Keys.{value_at}
use Rattle.bt_bencode.specs.LookUps.{dictionary_of, integer_of}
use Rattle.bt_torrent.proofs.Files.{found_inner, found_itself, found_nothing}
use Rattle.bt_torrent.proofs.file.info_of.Goals as goal

pub returns-in-Some : goal.returns-in-Some
returns-in-Some c = λ ps more h. found_inner c.args.file.now c.in-Some.info.now (option_and_then dictionary_of (value_at (codes "info") ps))
    (option_and_then integer_of (value_at (codes "piece length") ps)) (c.in-Some.ensures ps more h)

pub returns-then-has_integer : goal.returns-then-has_integer
returns-then-has_integer c = λ ps more h. found_itself c.args.file.now (option_and_then dictionary_of (value_at (codes "info") ps))
    (option_and_then integer_of (value_at (codes "piece length") ps)) (c.in_default.ensures ps more h)
    (sym c.if-has_integer.true ∙ c.has_integer.ensures ps more h)

pub returns : goal.returns
returns c = λ ps more h. found_nothing c.args.file.now (option_and_then dictionary_of (value_at (codes "info") ps))
    (option_and_then integer_of (value_at (codes "piece length") ps)) (c.in_default.ensures ps more h)
    (sym c.if-has_integer.false ∙ c.has_integer.ensures ps more h)
