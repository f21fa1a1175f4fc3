use Rattle.std.proofs.Common.{◌∙◌, sym}
use Rattle.bt_capture.specs.Tables.{same_pair}
use Rattle.bt_capture.proofs.Parts.{found_back, found_front}
use Rattle.bt_capture.proofs.table.find_either.Goals as goal

pub returns-in-Some : goal.returns-in-Some
returns-in-Some c =
    found_front (same_pair c.args.pair) c.args.others.now.entries c.args.silent.now.entries c.in-Some.connection.now c.in-Some.ensures

pub returns-in-None : goal.returns-in-None
returns-in-None c =
    c.peek-in-None.ensures ∙ sym (found_back (same_pair c.args.pair) c.args.others.now.entries c.args.silent.now.entries (sym c.in-None.ensures))
