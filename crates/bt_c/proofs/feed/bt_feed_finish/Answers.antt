use Rattle.bt_c.proofs.Slides.{slide_below}
use Rattle.bt_c.proofs.feed.bt_feed_finish.Goals as goal

pub returns-then-answer-eq-ITEM-clause-moved : goal.returns-then-answer-eq-ITEM-clause-moved
returns-then-answer-eq-ITEM-clause-moved c one =
    let f = c.args.feed.now in
    slide_below f.from f.to c.last_item-answer.new.item.size c.saturating_add-feed.result c.args.buffer.now c.unread_of-bytes.ensures.low
    c.saturating_add-feed.ensures
