use Rattle.std.proofs.Common.{refl}
use Rattle.bt_talk.proofs.Stages.{hears_of}
use Rattle.bt_talk.proofs.direction.Direction.hear.Goals as goal

pub returns-clause-heard : goal.returns-clause-heard
returns-clause-heard c = λ terms p other d.
    hears_of c.args.acked c.args.opens terms p other c.args.self.now _ refl refl refl d (c.hear.ensures.heard p.heard p.segs p.out d.flow)
