use Rattle.std.proofs.Common.{map, ap, ◌∙◌, sym, subst}
use Rattle.bt_session.specs.ByteLinks as B
use Rattle.bt_end.specs.Configs.{end_for}
use Rattle.bt_end.specs.Ends.{EndState}
use Rattle.bt_session.specs.LinkLaws.{AreMatched}
use Rattle.std.specs.Global.{Vec}
use Rattle.bt_session.specs.Reports.{AreConnectionsOf, blocks_of}
use Rattle.bt_session.specs.Runs.{AreNew}
use Rattle.bt_session.specs.declared.link.Outcome.{Outcome}
use Rattle.bt_session.specs.declared.run.Connection.{Connection}
use Rattle.bt_session.proofs.NewEnds.{matched_ends}
use Rattle.bt_session.proofs.report.run_link.Goals as goal

pub returns-in-Ok-finish-clause-report : goal.returns-in-Ok-finish-clause-report
returns-in-Ok-finish-clause-report c =
    let matched : AreMatched (end_for c.args.left) (end_for c.args.right) =
    matched_ends c.args.left c.args.right (c.is_mismatch.ensures.same c.if-is_mismatch.false) in
    let a : EndState = end_for c.args.left in
    let b : EndState = end_for c.args.right in
    let news : AreNew a b = record {
      left = c.is_new.ensures c.in-Ok.ensures.made.0;
      right = c.is_new-2.ensures c.in-Ok.ensures.made.1;
      matched = matched;
    } in
    let t = c.in-Ok-finish.ensures.done a b news c.in-Ok.ensures.link in
    record {
      few = c.in-Ok-finish.ensures.few;
      matched = matched;
      link = t.0;
      outcomes = subst (λ (v : Vec Outcome). B.AreSteps (B.link_of a b) c.args.steps.now v.items t.0) (sym c.report.ensures.outcomes) t.1;
      rest = record {
        connections = subst (λ (v : Vec Connection). AreConnectionsOf v.items (B.connections_of t.0)) (sym c.report.ensures.connections) t.2.connections;
        blocks = ap (map blocks_of) c.report.ensures.blocks ∙ t.2.blocks;
        ends = c.report.ensures.ends ∙ t.2.ends;
      };
    }
