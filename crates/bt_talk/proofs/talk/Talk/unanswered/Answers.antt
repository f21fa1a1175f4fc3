use Rattle.std.proofs.Common.{Bool, sym, subst}
use Rattle.bt_remarks.specs.declared.events.Side.{Side}
use Rattle.bt_talk.specs.Unanswered.{IsEnding, AreLeftIf}
use Rattle.bt_talk.proofs.talk.Talk.unanswered.Goals as goal

pub returns : goal.returns
returns c = λ a b i.
    let side = c.args.side in
    let self = c.args.self.now in
    let xs = i.said.items side in
    record {
      fast = c.have_fast.result;
      have_fast = c.have_fast.ensures a b i;
      are = subst (λ (fast : Bool). AreLeftIf fast side a b self i.said.events xs c.unanswered_of.result) (sym c.if-not-have_fast.false) (record {
        ending = c.ending.result;
        is_ending = subst (λ (s : Side). IsEnding s a b self c.ending.result) c.other.ensures (c.ending.ensures a b i);
        are = c.unanswered_of.ensures i.said.events xs i.said.watched.matched (i.said.watched.notes side).said;
      });
    }
