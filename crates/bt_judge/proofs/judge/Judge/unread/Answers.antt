use Rattle.std.proofs.Common.{Option, subst}
use Rattle.bt_ext.specs.declared.ids.Rules.TheVariants.{Free, Bep}
use Rattle.bt_judge.specs.Judges.{under, IsFree}
use Rattle.bt_judge.specs.Readings.{ReadingState}
use Rattle.bt_judge.proofs.Both.{unread_free}
use Rattle.bt_judge.proofs.judge.Judge.unread.Goals as goal

pub returns-in-Some : goal.returns-in-Some
returns-in-Some c = λ own b xs ys j.
    let bep = c.args.self.now.bep in
    let both = subst (λ (o : Option ReadingState). IsFree own b xs ys bep o) c.in-Some.is j.free in
    record {
      refused = c.in-Some.free.refused;
      free = c.unread-free.ensures (under Free own) b xs both.1;
      strict = bep.refused;
      bep = c.unread-bep.ensures (under Bep own) b ys j.bep;
    }

pub returns-in-None : goal.returns-in-None
returns-in-None c = λ own b xs ys j.
    let bep = c.args.self.now.bep in
    let both = subst (λ (o : Option ReadingState). IsFree own b xs ys bep o) c.in-None.is j.free in
    let u = c.unread-bep in
    let strict = u.ensures (under Bep own) b ys j.bep in
    record {
      refused = bep.refused;
      free = unread_free own b xs ys bep.refused u.result.start u.result.bytes.now j.bep.limit both.1 both.0 strict;
      strict = bep.refused;
      bep = strict;
    }
