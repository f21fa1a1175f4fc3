use Rattle.bt_bencode.proofs.Moves.{goes_text}
use Rattle.bt_bencode.proofs.scan.text.Goals as goal

pub returns-then-passed-left : goal.returns-then-passed-left
returns-then-passed-left c = λ stack bytes long. goes_text stack c.args.role c.args.left c.args.passed bytes c.if-passed-left.true long
