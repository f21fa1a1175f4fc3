use Rattle.std.proofs.Common.{◌≡◌, ◌∙◌, ℕ, ◌≤◌, List, take, length, sym, ap, subst, arith}
use Rattle.std.proofs.lemmas.List.{take_all}
use Rattle.bt_talk.specs.Cuts.{IsCutBy}
use Rattle.bt_talk.specs.Stages.{receiver_in}
use Rattle.bt_talk.proofs.direction.Direction.close.Goals as goal

pub returns-clause-cut : goal.returns-clause-cut
returns-clause-cut c = λ terms p other xs d i l.
    let n = c.next.ensures p.heard p.segs p.out d.flow in
    let fits : c.next.result ≤ length p.out = omega (arith, n) in
    let all : take c.next.result p.out ≡ p.out = ap (λ (k : ℕ). take k p.out) n ∙ take_all (length p.out) p.out (omega arith) in
    let last = c.last_in.ensures terms p other xs d.stage i l in
    record {
      flow = d.flow;
      intro = d.intro;
      later = d.later;
      front = d.front;
      stage = d.stage;
      within = fits;
      cut = subst (λ (b : List ℕ). IsCutBy (receiver_in c.args.self.now.stage) p.front b c.last_in.result) (sym all) last;
    }
