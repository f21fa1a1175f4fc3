-- The other calls of an end.
use Rattle.std.proofs.Common.{◌≡◌, length, sym, ap, subst, arith}
use Rattle.bt_wire.specs.declared.context.Own.{Own}
use Rattle.bt_feed.specs.Feeds.{FeedState}
use Rattle.bt_end.specs.Ends.{EndState, renewed}
use Rattle.bt_end.specs.Reactors.{end_of}
use Rattle.bt_end.specs.Sturdy.{IsEnd, IsPartOf}
use Rattle.bt_end.specs.Wholes.{half_of}
use Rattle.bt_end.proofs.Reactions.{kept_part}
use Rattle.bt_end.specs.declared.end.End.TheInside.{Inside}
use Rattle.bt_end.specs.declared.reactor.Reactor.{Reactor}

-- ---- a new connection

pub reset_sturdy : {A : Type 0} → (old : Inside A) (f : FeedState) (new : Reactor A) → IsEnd (half_of old) → end_of new ≡ renewed (end_of old.reactor)
    → length new.outbox.bytes ≡ 68 → IsEnd (half_of (record { feed = f; reactor = new }))
reset_sturdy old f new h e l =
    let own : new.own ≡ old.reactor.own = ap (λ (x : EndState). x.own) e in
    let limit : new.own.limit ≡ old.reactor.own.limit = ap (λ (x : Own). x.limit) own in
    let r = renewed (end_of old.reactor) in
    let part : IsPartOf r.handshake.info_hash r.part = kept_part old.reactor.handshake.info_hash (end_of old.reactor).part h.part in
    record {
      least = omega (arith, limit, h.least);
      most = omega (arith, limit, h.most);
      bound = omega (arith, limit, h.least, l);
      part = subst (λ (x : EndState). IsPartOf x.handshake.info_hash x.part) (sym e) part;
    }
