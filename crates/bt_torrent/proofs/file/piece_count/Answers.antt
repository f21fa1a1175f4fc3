use Rattle.std.proofs.Common.{None, ap, sym, ◌∙◌, refl}
use Rattle.std.specs.Prelude.{option_and_then}
use Rattle.bt_torrent.specs.Files.{pieces_in}
use Rattle.bt_torrent.proofs.Files.{counted_or_none, no_count}
use Rattle.bt_torrent.proofs.file.piece_count.Goals as goal

pub returns-in_err-pairs : goal.returns-in_err-pairs
returns-in_err-pairs c = rw c.from_residual.ensures (no_count c.args.info.now (c.in_err-pairs.ensures.none refl))

pub returns-in_err-hashes : goal.returns-in_err-hashes
returns-in_err-hashes c = rw c.from_residual-in_err-hashes.ensures (counted_or_none c.args.info.now c.in_ok-pairs.pairs.now c.in_ok-pairs.ensures.whole
    c.in_ok-pairs.ensures.pairs None (λ ps more h. ap (option_and_then pieces_in) (sym (c.in_err-hashes.ensures ps more h))))

pub returns : goal.returns
returns c = counted_or_none c.args.info.now c.in_ok-pairs.pairs.now c.in_ok-pairs.ensures.whole c.in_ok-pairs.ensures.pairs c.count_of.result
    (λ ps more h. ap (option_and_then pieces_in) (sym (c.in_ok-hashes.ensures ps more h)) ∙ sym c.count_of.ensures)
