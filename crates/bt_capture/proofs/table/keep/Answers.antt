use Rattle.std.proofs.Common.{ap, ◌∙◌, arith, ◌<◌, ◌^◌, length}
use Rattle.lru.specs.LruCache.{lru_cache}
use Rattle.bt_capture.proofs.Entries.{pushed}
use Rattle.bt_capture.proofs.table.keep.Goals as goal

pub returns-in-Ok-clause-kept : goal.returns-in-Ok-clause-kept
returns-in-Ok-clause-kept c =
    let old = c.args.others.now in
    let few : length old.entries < 2 ^ 63 = omega (arith, c.len-few.ensures.len, c.len-few.ensures.fits) in
    c.in-Ok.ensures.entries ∙ ap (λ es. lru_cache es old.cap) (pushed old c.args.pair c.args.connection c.requires.room c.requires.absent few)
