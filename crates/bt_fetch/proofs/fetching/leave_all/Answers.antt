use Rattle.std.proofs.Common.{◌∙◌, is_some, arith}
use Rattle.bt_fetch.specs.declared.place.Place.{Place}
use Rattle.bt_fetch.proofs.Counts.{count_pushed}
use Rattle.bt_fetch.proofs.fetching.leave_all.Goals as goal

pub leave-requires : goal.leave-requires
leave-requires g c =
    let n = count_pushed {X = Place g.row.D-Link.Denot g.D.Link.Connection} (λ p. is_some p.visit) c.loop-place.places.items c.pop.new.self.items c.in-Some.place c.in-Some.ensures.items in
    omega (arith, n, c.loop-place.invariant.inside, c.requires)

pub loop-place-preserved : goal.loop-place-preserved
loop-place-preserved g c =
    let n = count_pushed {X = Place g.row.D-Link.Denot g.D.Link.Connection} (λ p. is_some p.visit) c.loop-place.places.items c.pop.new.self.items c.in-Some.place c.in-Some.ensures.items in
    record {
      inside = omega (arith, n, c.loop-place.invariant.inside, c.leave.ensures.inside);
      list = c.leave.ensures.list ∙ c.loop-place.invariant.list;
      log = λ s start dials h. c.leave.ensures.log s start dials (c.loop-place.invariant.log s start dials h);
    }
