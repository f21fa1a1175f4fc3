use Rattle.std.proofs.Common.{ℕ, ◌-◌, take, drop, ◌≡◌, ◌+◌, ◌≤◌, length, arith, sym, ap, ◌∙◌}
use Rattle.bt_tcp.specs.Segments.{or_else, byte_in}
use Rattle.bt_tcp.proofs.Bytes.{byte_in-nil, or_else-None}
use Rattle.bt_flow.specs.Pages.{byte_of}
use Rattle.bt_flow.proofs.PageProofs.{kept_more}
use Rattle.bt_flow.proofs.pages.Pages.keep.Goals as goal

pub loop-done-init : goal.loop-done-init
loop-done-init c = record {
  bound = omega arith;
  kept = λ i. sym (ap (or_else (byte_of c.args.self.now i)) (byte_in-nil c.args.at i) ∙ or_else-None (byte_of c.args.self.now i));
}

pub loop-done-preserved : goal.loop-done-preserved
loop-done-preserved c =
    let d : ℕ = c.loop-done.done in
    let n : ℕ = c.min-count.result in
    let b : d + n ≤ length c.args.part.now = omega arith in
    let e : d + n - d ≡ n = omega arith in
    record {
      bound = b;
      kept = kept_more (byte_of c.loop-done.self) (byte_of c.keep_in_page.new.self) (byte_of c.args.self.now) c.args.at c.loop-done.done c.min-count.result
          c.args.part.now b c.loop-done.invariant.kept
          (λ i. c.in_ok-keep_in_page.ensures i ∙ ap (λ m. or_else (byte_of c.loop-done.self i)
          (byte_in (record { place = c.args.at + d; bytes = take m (drop d c.args.part.now) }) i)) e);
    }
