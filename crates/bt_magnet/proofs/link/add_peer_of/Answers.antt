use Rattle.std.proofs.Common.{◌≡◌, codes, true, subst, sym, ◌∙◌, arith}
use Rattle.std.proofs.lemmas.Grind.{common_steps}
use Rattle.bt_magnet.specs.Links.{has_key, pair_of}
use Rattle.bt_magnet.specs.Peers.{IsPeer}
use Rattle.bt_magnet.proofs.Values.{no_peer}
use Rattle.bt_magnet.proofs.link.add_peer_of.Goals as goal

pub returns-in_default-clause-error : goal.returns-in_default-clause-error
returns-in_default-clause-error c =
    let key : has_key (codes "x.pe") (pair_of c.args.pair.now) ≡ true = grind (arith, common_steps) in
    no_peer (pair_of c.args.pair.now) key (λ h. c.in_default.ensures.cases.0 (rw c.as_slice.ensures.value h.0))

pub returns-then-not-is_peer-clause-error : goal.returns-then-not-is_peer-clause-error
returns-then-not-is_peer-clause-error c =
    let key : has_key (codes "x.pe") (pair_of c.args.pair.now) ≡ true = grind (arith, common_steps) in
    let same : c.in-Ok.text.now ≡ c.args.pair.now.value.items = c.in-Ok.ensures.cases.0 ∙ c.as_slice.ensures.value in
    no_peer (pair_of c.args.pair.now) key
    (λ h. let yes = c.is_peer.ensures.1 (subst IsPeer (sym same) h.1) in
    grind (arith, c.if-not-is_peer.true))
