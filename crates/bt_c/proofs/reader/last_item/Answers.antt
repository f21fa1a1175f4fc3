use Rattle.bt_c.proofs.StepLaws.{stopped, further}
use Rattle.bt_c.proofs.reader.last_item.Goals as goal

pub returns-then-answer-eq-MORE : goal.returns-then-answer-eq-MORE
returns-then-answer-eq-MORE c = stopped c.next_item-answer.ensures c.if-answer-eq-MORE.true c.stop.ensures.either c.stop.ensures.end
    c.stop.ensures.inside

pub returns-else-answer-eq-MORE : goal.returns-else-answer-eq-MORE
returns-else-answer-eq-MORE c = further c.next_item-answer.ensures c.if-answer-eq-MORE.false
