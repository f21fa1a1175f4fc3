use Rattle.std.proofs.Common.{take, sym, subst, ◌∙◌}
use Rattle.bt_tcp.specs.Covered.{is_covered, AreGaps, sent_end}
use Rattle.bt_tcp.proofs.GapProofs.{are-gaps, step-below, step-counted, step-found, step-end}
use Rattle.bt_tcp.proofs.covered.Spans.gaps.Goals as goal

pub loop-span-preserved : goal.loop-span-preserved
loop-span-preserved c =
    let spans = take c.args.self.now.count c.args.table.now in
    record {
      below = step-below c.loop-span.found _ c.loop-span.at _ spans c.loop-span.span-index _ c.requires.apart c.loop-span-test.true c.note.ensures
          c.max-at.ensures c.loop-span.invariant.below;
      counted = step-counted c.loop-span.found _ c.loop-span.at _ c.note.ensures c.loop-span.invariant.counted;
      found = step-found c.loop-span.found _ c.loop-span.at _ spans c.loop-span.span-index _ c.args.sent c.loop-span-test.true c.note.ensures
          c.max-at.ensures ∙ c.loop-span.invariant.found;
    }

pub returns : goal.returns
returns c =
    let spans = take c.args.self.now.count c.args.table.now in
    subst (λ g. AreGaps (is_covered spans) c.args.next (sent_end spans c.args.sent) g)
    (sym c.loop-span.invariant.found ∙ step-end c.loop-span.found _ c.loop-span.at spans c.loop-span.span-index c.args.sent c.loop-span-test.false
    c.note-2.ensures)
    (are-gaps spans c.args.next c.args.sent c.requires.apart)
