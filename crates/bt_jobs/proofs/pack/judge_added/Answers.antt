use Rattle.std.proofs.Common.{◌≡◌, ◌∙◌, ◌++◌, ◌-◌, Bool, true, false, List, ℕ, Result, Ok, Err, length, drop, take, ap, arith}
use Rattle.std.proofs.lemmas.List.{length-drop, take_all}
use Rattle.std.proofs.Math.Seq.{drop-append_seam, take-append_seam}
use Rattle.bt_wire.specs.declared.fault.Reason.{Reason as WireReason}
use Rattle.bt_wire.specs.declared.context.Own.{Own}
use Rattle.bt_jobs.specs.Packs.{is_none}
use Rattle.bt_jobs.specs.PackSteps.{packing, IsPackedTo, IsNamedAfter}
use Rattle.bt_jobs.proofs.Packing.{IsLineJudged, closes, line_taken, line_refused}
use Rattle.bt_jobs.proofs.pack.judge_added.Goals.{After-take_item}
use Rattle.bt_jobs.proofs.pack.judge_added.Goals as goal

-- the line's bytes are judged where they stand
line_judged : (c : After-take_item) (own : Own) (lines : List (List ℕ)) (b text old : List ℕ) → IsPackedTo own lines b c.args.judge.now → c.args.start
    ≡ length old → (w : IsNamedAfter own.limit (is_none lines) text old c.args.out.now.items) → (r : Result Bool WireReason) → c.take_item.result ≡ r
    → (j : IsLineJudged own (packing lines b old) text c.args.judge.now c.take_item.new.self r) × (c.args.out.now.items ≡ old ++ j.bytes)
line_judged c own lines b text old h at w r is =
    let start = c.args.start in
    let whole = c.as_slice-whole.result.now in
    let tail : take (length whole - start) (drop start whole) ≡ drop start whole =
    take_all (length whole - start) (drop start whole) (omega (arith, length-drop start whole)) in
    let joined : drop start whole ≡ w.bytes =
    ap (λ (l : List ℕ). drop start l) (c.as_slice-whole.ensures.value ∙ w.joined)
    ∙ ap (λ (n : ℕ). drop n (old ++ w.bytes)) at ∙ drop-append_seam old w.bytes in (
      record {
        bytes = w.bytes;
        named = w.named;
        packed = h;
        judged = rw is at (rw (tail ∙ joined) at c.take_item.ensures);
      },
      w.joined,
    )

pub returns-in-Ok-true : goal.returns-in-Ok-true
returns-in-Ok-true c = λ own lines b text old h at w.
    let j = line_judged (goal.at.returns-in-Ok-true c).After-take_item own lines b text old h at w (Ok true) (c.in-Ok-true.is ∙ ap Ok c.in-Ok-true.field-0-test) in
    line_taken own (packing lines b old) text c.args.out.now.items c.args.judge.now c.take_item.new.self j.0 j.1

pub returns-in-Ok-false : goal.returns-in-Ok-false
returns-in-Ok-false c = λ own lines b text old h at w.
    let j = line_judged (goal.at.returns-in-Ok-false c).After-take_item own lines b text old h at w (Ok false) (c.in-Ok-false.is ∙ ap Ok c.in-Ok-false.field-0-test) in
    absurd (closes c.args.judge.now.stage text j.0.bytes (is_none lines) (omega (arith, h.limit, h.bound))
    (omega (arith, w.named.short, h.bound)) h.first j.0.named.line j.0.judged.1)

pub returns-in-Err : goal.returns-in-Err
returns-in-Err c = λ own lines b text old h at w.
    let j = line_judged (goal.at.returns-in-Err c).After-take_item own lines b text old h at w (Err c.in-Err.reason) c.in-Err.is in
    let cut : c.truncate.new.self.items ≡ old =
    c.truncate.ensures.items ∙ ap (λ (l : List ℕ). take c.args.start l) j.1 ∙ ap (λ (n : ℕ). take n (old ++ j.0.bytes)) at
    ∙ take-append_seam old j.0.bytes in
    rw cut (line_refused own (packing lines b old) text c.args.judge.now c.take_item.new.self c.in-Err.reason j.0)
