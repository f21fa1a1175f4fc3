use Rattle.std.proofs.Common.{◌≡◌, ◌+◌, ◌<◌, ℕ, List, [], ◌++◌, IfOk, OnErr, String, Result, Ok, Err, string_bytes, append_assoc, inl, inr, sym, ap, subst, refl, ◌∙◌, if◌then◌else◌}
use Rattle.std.specs.declared.alloc.AllocError.{AllocError}
use Rattle.bt_text.specs.Lines.{fault_line}
use Rattle.bt_text.specs.declared.ended.ToolFault.TheVariants as fault
use Rattle.bt_run.specs.Runs.{IsSaid}
use Rattle.bt_capture.specs.declared.ending.CaptureEnd.{CaptureEnd}
use Rattle.bt_cli.specs.declared.capture.Outcome.{Outcome}
use Rattle.bt_cli.specs.Captures.{AreCrowdLines, IsLastLine, crowd_words, ending_line_words, is_stopped, outcome_in, words_or_fault}
use Rattle.bt_cli.proofs.capture.say_end.Goals as goal

crowd_said : {A : Type 0} (e : CaptureEnd) (r : Result (String A) AllocError) → IfOk r (λ lines. string_bytes lines ≡ crowd_words e.unread e.early)
    → OnErr r (0 < e.unread + e.early) → AreCrowdLines e (words_or_fault r)
crowd_said e (Ok lines) are some = inl are
crowd_said e (Err error) are some = inr (some, refl)

line_said : {A : Type 0} (o : Outcome) (e : CaptureEnd) (r : Result (String A) AllocError) → IfOk r (λ line. IsLastLine o e (string_bytes line))
    → OnErr r (IsLastLine o e (fault_line fault.Memory)) → IsLastLine o e (words_or_fault r)
line_said o e (Ok line) is memory = is
line_said o e (Err error) is memory = memory

pub returns : goal.returns
returns g c =
    let e = c.args.end.now in
    let crowd : List ℕ = c.text_or_fault.result.now in
    let line : List ℕ = c.text_or_fault-2.result.now in
    let prefix : List ℕ = if is_stopped e.ending then c.args.prefix.now else [] in
    let P : List ℕ → Type 0 = λ l. IsSaid l (g.E.Target.seen c.args.errors.now) (g.E.Target.seen c.say_four.new.errors) in (
      crowd,
      line,
      subst (AreCrowdLines e) (sym c.text_or_fault.ensures) (crowd_said e c.crowd_lines-crowd.result c.crowd_lines-crowd.ensures.lines c.crowd_lines-crowd.ensures.some),
      subst (IsLastLine (outcome_in e) e) (sym c.text_or_fault-2.ensures) (line_said (outcome_in e) e c.last_line-line.result c.last_line-line.ensures.line
          c.last_line-line.ensures.memory),
      subst P (ap (λ (p : List ℕ). p ++ (c.ending_line.result.now ++ (crowd ++ line))) c.prefix_for.ensures
          ∙ ap (λ (w : List ℕ). prefix ++ (w ++ (crowd ++ line))) c.ending_line.ensures
          ∙ sym (append_assoc prefix (ending_line_words e.ending) (crowd ++ line))) c.say_four.ensures,
    )
