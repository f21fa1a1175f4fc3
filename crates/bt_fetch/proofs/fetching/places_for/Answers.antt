use Rattle.std.proofs.Common.{◌≡◌, ◌∙◌, is_some, ap, arith}
use Rattle.std.proofs.lemmas.List.Elements.{All-push, All-same}
use Rattle.bt_fetch.specs.Wishes.{handshake_of}
use Rattle.bt_fetch.specs.declared.place.Place.{Place}
use Rattle.bt_fetch.proofs.Counts.{count_pushed_free}
use Rattle.bt_fetch.proofs.fetching.places_for.Goals as goal

pub loop-place-preserved : goal.loop-place-preserved
loop-place-preserved g c =
    let P : Place g.row.D-Link.Denot g.D.Link.Connection → Type 0 = λ p. p.end.end.handshake ≡ handshake_of c.args.wish.now in
    let i = c.loop-place.invariant in
    record {
      kept = All-same P c.push.new.self.items _ c.in-Ok.ensures.items (All-push P c.loop-place.places.items c.in_ok-made.made i.kept c.in_ok-made.ensures.handshake);
      none = count_pushed_free {X = Place g.row.D-Link.Denot g.D.Link.Connection} (λ p. is_some p.visit) c.push.new.self.items c.loop-place.places.items c.in_ok-made.made
          c.in-Ok.ensures.items (ap is_some c.in_ok-made.ensures.visit)
          ∙ i.none;
      len = omega (arith, c.in-Ok.ensures.len, i.len);
    }
