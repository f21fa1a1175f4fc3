use Rattle.std.proofs.Common.{◌++◌, ◌∷◌, [], ◌+◌, All, codes, drop, map, subst, sym, ap, ◌∙◌, append_assoc, arith, string_bytes}
use Rattle.std.proofs.lemmas.List.Elements.{All-append}
use Rattle.bt_magnet.specs.Links.{IsPeerError, pair_of, values_of}
use Rattle.bt_magnet.specs.Peers.{IsPeer}
use Rattle.bt_magnet.proofs.Values.{peer_error_within, values_at}
use Rattle.bt_magnet.proofs.link.peers_of.Goals as goal

pub returns-in-Err-clause-error : goal.returns-in-Err-clause-error
returns-in-Err-clause-error c =
    let step = values_at (codes "x.pe") c.args.pairs.now c.loop-pair.pair-index c.pair-item.result (map string_bytes c.loop-pair.peers.items) (omega arith)
    c.pair-item.is c.loop-pair.invariant.0 in
    subst (λ v. IsPeerError v c.in-Err.error) (sym step) (peer_error_within _ _ _ _ c.in-Err.ensures.error)

pub loop-pair-preserved : goal.loop-pair-preserved
loop-pair-preserved c =
    let step = values_at (codes "x.pe") c.args.pairs.now c.loop-pair.pair-index c.pair-item.result (map string_bytes c.loop-pair.peers.items) (omega arith)
    c.pair-item.is c.loop-pair.invariant.0 in
    let here = values_of (codes "x.pe") (pair_of c.pair-item.result ∷ []) in
    let rest = values_of (codes "x.pe") (map pair_of (drop (c.loop-pair.pair-index + 1) c.args.pairs.now)) in
    let added = c.in-Ok.ensures.added in (
      step ∙ sym (append_assoc (map string_bytes c.loop-pair.peers.items) here rest) ∙ ap (λ x. x ++ rest) (sym added),
      subst (All IsPeer) (sym added) (All-append IsPeer _ _ c.loop-pair.invariant.1 c.in-Ok.ensures.peers),
    )
