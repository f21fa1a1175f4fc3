use Rattle.bt_talk.proofs.Marks.{stepped_a, stepped_b}
use Rattle.bt_talk.proofs.replay.step.Goals as goal

pub returns-in_ok-go_to-in-A : goal.returns-in_ok-go_to-in-A
returns-in_ok-go_to-in-A c =
    stepped_a c.args.mark.now c.args.a.now c.args.b.now c.go_to.new.mine c.args.watch.now c.go_to.new.watch c.in-A.is c.in_ok-go_to-in-A.ensures

pub returns-in_ok-go_to-in-B : goal.returns-in_ok-go_to-in-B
returns-in_ok-go_to-in-B c =
    stepped_b c.args.mark.now c.args.a.now c.args.b.now c.go_to-in-B.new.mine c.args.watch.now c.go_to-in-B.new.watch c.in-B.is
    c.in_ok-go_to-in-B.ensures
