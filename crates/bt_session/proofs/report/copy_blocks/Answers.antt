use Rattle.std.proofs.Common.{◌≡◌, ℕ, ◌++◌, List, ap, sym, ◌∙◌, arith}
use Rattle.bt_session.specs.Reports.{numbered}
use Rattle.bt_end.specs.Ends.{Part, fetched_block}
use Rattle.bt_session.proofs.Blocks.{blocks_below, block_more, all_below}
use Rattle.bt_session.proofs.report.copy_blocks.Goals as goal

pub pieces-preserved : goal.pieces-preserved
pieces-preserved c =
    let part : Part = c.args.end.now.end.part in
    record {
      found = c.in_ok-copy_block.ensures.copied ∙ ap (λ (xs : List (ℕ × List ℕ)). xs ++ numbered c.pieces.piece (fetched_block part c.pieces.piece))
          c.pieces.invariant.found ∙ sym (block_more c.pieces.piece part);
      fetched = λ later. c.in_ok-copy_block.ensures.assembly;
    }

pub returns : goal.returns
returns c =
    let last : c.pieces.piece ≡ 4096 = omega (arith, c.pieces-test.false, c.pieces.auto.piece-end) in
    c.pieces.invariant.found ∙ ap (λ (n : ℕ). blocks_below n c.args.end.now.end.part) last
    ∙ all_below c.args.end.now.end.part (c.pieces.invariant.fetched (omega (arith, last)))
