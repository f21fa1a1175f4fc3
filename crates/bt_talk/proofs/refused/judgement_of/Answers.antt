use Rattle.bt_ext.specs.declared.ids.Rules.TheVariants.{Free, Bep}
use Rattle.bt_judge.specs.Judges.{under}
use Rattle.bt_talk.proofs.refused.judgement_of.Goals as goal

pub returns : goal.returns
returns c = λ own b xs ys j.
    let told = c.ended-verdicts.ensures own b xs ys j in
    let left = c.unread-unread.ensures own b xs ys j in
    record {
      told = told;
      free = c.message_of.ensures (under Free own) b xs left.refused j.bep.limit left.free told.free;
      bep = c.message_of-2.ensures (under Bep own) b ys left.strict j.bep.limit left.bep told.bep;
    }
