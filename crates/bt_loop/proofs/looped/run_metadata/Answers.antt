use Rattle.std.proofs.Common.{◌≡◌, ap, ◌∙◌}
use Rattle.sha1.specs.Sha1.{sha1}
use Rattle.bt_loop.specs.Loops.{right_end}
use Rattle.bt_loop.proofs.LoopPair.{serving_end, fetching_end, loop_pair}
use Rattle.bt_loop.proofs.Looping.{looped_so, never_read}
use Rattle.bt_loop.proofs.looped.run_metadata.Goals as goal

pub returns-in-Ok-fetching-clause-looped : goal.returns-in-Ok-fetching-clause-looped
returns-in-Ok-fetching-clause-looped g c =
    looped_so _ _ c.args.rules c.args.limit c.args.metadata.items _ _ c.link.result c.in-Ok.ensures.end
    (c.digest-hash.ensures ∙ ap sha1 c.as_slice.ensures.value) c.in-Ok-fetching.ensures c.in-Ok.ensures.size
    c.link.ensures.linked

pub returns-in-Ok-fetching-clause-unread : goal.returns-in-Ok-fetching-clause-unread
returns-in-Ok-fetching-clause-unread g c = never_read _ _ _ _ _ _ _ c.link.ensures.linked

pub returns-in-Ok-fetching-clause-fetches : goal.returns-in-Ok-fetching-clause-fetches
returns-in-Ok-fetching-clause-fetches g c clear =
    let text = c.args.metadata.items in
    let same : c.digest-hash.result ≡ sha1 text = c.digest-hash.ensures ∙ ap sha1 c.as_slice.ensures.value in
    let pair = loop_pair c.args.rules c.args.limit text c.requires.0 c.requires.1 c.in-Ok.ensures.size in
    c.link.ensures.fetches clear text (serving_end c.args.rules c.args.limit text) (fetching_end c.args.rules c.args.limit (sha1 text)) pair
    c.in-Ok.ensures.end (c.in-Ok-fetching.ensures ∙ ap (right_end c.args.rules c.args.limit) same)
