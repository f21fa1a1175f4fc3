use Rattle.std.proofs.Common.{Option, subst}
use Rattle.bt_rows.specs.declared.said.Said.{Said}
use Rattle.bt_talk.specs.Watching.{IsLast}
use Rattle.bt_talk.proofs.Cuts.{last_refused, last_item, last_nothing}
use Rattle.bt_talk.proofs.stage.Judged.last.Goals as goal

pub returns-in-Some : goal.returns-in-Some
returns-in-Some c = λ own b xs ys j i.
    last_refused own b xs ys c.args.self.now.judge c.refusal.result c.in-Some.refusal j (c.refusal.ensures own b xs ys j) c.in-Some.is

pub returns-in-Some-item : goal.returns-in-Some-item
returns-in-Some-item c = λ own b xs ys j i.
    last_item own b xs ys c.args.self.now.judge c.refusal.result c.in-Some-item.said j (c.refusal.ensures own b xs ys j) c.in_default.is
    (subst (λ (o : Option Said). IsLast xs o) c.in-Some-item.is i)

pub returns-in-None : goal.returns-in-None
returns-in-None c = λ own b xs ys j i.
    last_nothing own b xs ys c.args.self.now.judge c.refusal.result j (c.refusal.ensures own b xs ys j) c.in_default.is
    (subst (λ (o : Option Said). IsLast xs o) c.in-None.is i)
