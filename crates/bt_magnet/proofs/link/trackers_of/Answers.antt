use Rattle.std.proofs.Common.{◌++◌, ◌∷◌, [], ◌+◌, drop, map, sym, ap, ◌∙◌, append_assoc, arith, string_bytes}
use Rattle.bt_magnet.specs.Links.{pair_of, trackers_in}
use Rattle.bt_magnet.proofs.Values.{trackers_at}
use Rattle.bt_magnet.proofs.link.trackers_of.Goals as goal

pub loop-pair-preserved : goal.loop-pair-preserved
loop-pair-preserved c =
    let step = trackers_at c.args.pairs.now c.loop-pair.pair-index c.pair-item.result (map string_bytes c.loop-pair.trackers.items) (omega arith)
    c.pair-item.is c.loop-pair.invariant in
    let here = trackers_in (pair_of c.pair-item.result ∷ []) in
    let rest = trackers_in (map pair_of (drop (c.loop-pair.pair-index + 1) c.args.pairs.now)) in
    step ∙ sym (append_assoc (map string_bytes c.loop-pair.trackers.items) here rest) ∙ ap (λ x. x ++ rest) (sym c.in_ok-add_tracker_of.ensures)
