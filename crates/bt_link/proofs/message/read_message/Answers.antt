use Rattle.std.proofs.Common.{ℕ, List, subst}
use Rattle.std.specs.Prelude.{IfOk}
use Rattle.bt_link.specs.Entries.{IsSpelledBy}
use Rattle.bt_link.proofs.Sayings.{no_line, a_line, read_so}
use Rattle.bt_link.proofs.message.read_message.Goals as goal

pub returns-then-not-branch : goal.returns-then-not-branch
returns-then-not-branch c = no_line c.args.words.now c.read_line.new.bytes.items c.in_ok-read_line.field-0 c.if-not-branch.true c.in_ok-read_line.ensures

pub returns : goal.returns
returns c =
    let bytes = c.read_line.new.bytes.items in
    let P : List ℕ → Type 0 = λ b. IfOk c.spelled.result (IsSpelledBy b) in
    read_so c.args.words.now bytes c.spelled.result c.one_reading.ensures (a_line c.args.words.now bytes c.in_ok-read_line.field-0 c.if-not-branch.false
    c.in_ok-read_line.ensures) (subst P c.as_slice.ensures.value c.spelled.ensures)
