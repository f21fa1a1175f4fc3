use Rattle.std.proofs.Common.{Some, sym, subst, arith}
use Rattle.bt_text.specs.declared.ended.Ended.{Ended}
use Rattle.bt_judge.specs.Readings.{IsTold}
use Rattle.bt_talk.specs.Refusals.{IsMessageOf}
use Rattle.bt_talk.proofs.Refusals.{message_is}
use Rattle.bt_talk.proofs.refused.message_of.Goals as goal

pub returns-in-Refused : goal.returns-in-Refused
returns-in-Refused c = λ own b xs refused limit u t.
    let told = subst (λ (e : Ended). IsTold own b xs e) c.in-Refused.is t in
    subst (λ (e : Ended). IsMessageOf own b e (Some c.of.result)) (sym c.in-Refused.is)
    (message_is own b xs refused c.args.unread.now.start c.args.unread.now.bytes.now c.in-Refused.refusal c.of.result (omega (arith, limit)) u told
    c.of.ensures)
