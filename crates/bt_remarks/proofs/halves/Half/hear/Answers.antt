use Rattle.std.proofs.Common.{rules}
use Rattle.bt_remarks.proofs.halves.Half.hear.Goals as goal

pub returns-in_ok-insert-in-Piece-clause-ok : goal.returns-in_ok-insert-in-Piece-clause-ok
returns-in_ok-insert-in-Piece-clause-ok c = λ known number mark. search (rules, c.answer.ensures number mark)

pub returns-in-Reject-clause-ok : goal.returns-in-Reject-clause-ok
returns-in-Reject-clause-ok c = λ known number mark. search (rules, c.answer-in-Reject.ensures number mark)

pub returns-in-MetadataAnswer-clause-ok : goal.returns-in-MetadataAnswer-clause-ok
returns-in-MetadataAnswer-clause-ok c = λ known number mark. search (rules, c.answer-in-MetadataAnswer.ensures number mark)
