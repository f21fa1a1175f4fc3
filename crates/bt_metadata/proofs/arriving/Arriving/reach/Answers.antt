use Rattle.std.proofs.Common.{◌-◌, ◌≤◌, ◌++◌, length, replicate, ap, ◌∙◌, arith}
use Rattle.bt_metadata.specs.Arrivals.{Arrival, padded}
use Rattle.bt_metadata.proofs.Padded.{length-padded, padded-longer}
use Rattle.bt_metadata.proofs.arriving.Arriving.reach.Goals as goal

pub returns-clause-whole : goal.returns-clause-whole
returns-clause-whole g c =
    let d = c.self.inside.bytes.items in
    let size = c.self.inside.size in
    let len = c.self.inside.bytes.ok.0 in
    let v = ap (λ (a : Arrival). a.whole) c.self.view_is in
    let h : length d ≤ size = omega (arith, len, c.self.invariant.0) in
    let f : c.args.end ≤ size = omega (arith, c.requires, ap length v, length-padded size d h) in
    ap (padded size) (c.lengthen.ensures.items ∙ ap (λ k. d ++ replicate (c.args.end - k) 0) len) ∙ padded-longer size c.args.end d h f ∙ v
