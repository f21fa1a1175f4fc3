use Rattle.std.proofs.Common.{take}
use Rattle.bt_end.specs.Ends.{EndState}
use Rattle.bt_session.specs.LinkLaws.{AreWritten}
use Rattle.bt_session.specs.ByteLinks as B
use Rattle.bt_session.specs.Runs.{IsLinkOf, AreNew}
use Rattle.bt_session.proofs.run.run.Given as goal

-- what is done so far
abbrev pub invariant-steps : goal.invariant-steps
invariant-steps l = record {
  written : AreWritten (take l.step-index l.steps);
  done : (a b : EndState) → AreNew a b → IsLinkOf l.fn.link (B.link_of a b) → (k : B.Link) × B.AreSteps (B.link_of a b) (take l.step-index l.steps)
      l.outcomes.items k × IsLinkOf l.link k;
}
