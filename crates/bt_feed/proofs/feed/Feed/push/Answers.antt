use Rattle.std.proofs.Common.{◌∙◌, ap, rules}
use Rattle.bt_feed.specs.Feeds.{FeedState, taken, pushed}
use Rattle.bt_feed.proofs.Filled.{taken_is, pushed_is}
use Rattle.bt_feed.proofs.feed.Feed.push.Goals as goal

pub returns-clause-taken : goal.returns-clause-taken
returns-clause-taken g c =
    taken_is c.self.inside.progress c.self.inside.buffer.items c.args.piece.now _ _ c.fill.ensures.fills c.fill.ensures.stops
    ∙ ap (λ (f : FeedState). taken f c.args.piece.now) c.self.view_is

pub returns-clause-held : goal.returns-clause-held
returns-clause-held g c =
    pushed_is c.self.inside.progress c.fill.new.self c.self.inside.buffer.items c.args.piece.now _ _ c.fill.ensures.fills c.fill.ensures.stops
    c.fill.ensures.same
    ∙ ap (λ (f : FeedState). pushed f c.args.piece.now) c.self.view_is

pub returns-clause-bound : goal.returns-clause-bound
returns-clause-bound g c = search rules

pub returns-clause-partial : goal.returns-clause-partial
returns-clause-partial g c = search rules
