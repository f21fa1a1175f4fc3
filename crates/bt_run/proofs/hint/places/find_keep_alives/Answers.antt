use Rattle.std.proofs.Common.{◌≡◌, ◌+◌, ℕ, drop, sym, subst, ◌∙◌, arith}
use Rattle.std.specs.Int.{w32, from_be_bytes}
use Rattle.bt_run.specs.Hints.{IsReached, AreZero}
use Rattle.bt_run.proofs.Runs.{first_reached, next_reached, more_zero, none_zero}
use Rattle.bt_run.proofs.hint.places.find_keep_alives.Goals as goal
use Rattle.bt_run.proofs.hint.places.find_keep_alives.Goals.{then-size-ne4+else-place-start-ge-MANY, else-size-ne4}

pub messages-init : goal.messages-init
messages-init c =
    let b = c.args.bytes.now in
    record { before = omega arith; within = λ lt. absurd (omega (arith, lt)); from = first_reached b; to = first_reached b; zero_bytes = none_zero b 68 }

pub messages-preserved : goal.messages-preserved
messages-preserved c =
    let b = c.args.bytes.now in
    let i = c.messages.invariant in
    let on = next_reached b c.messages.place c.in-Some.size i.to c.in-Some.ensures.1 in
    elim c.if-size-ne4.branch [
      | then-size-ne4+else-place-start-ge-MANY w ↦
          let is : c.messages.place + c.in-Some.size ≡ c.if-size-ne4.start = sym w.start-is in
          record {
            before = omega (arith, is);
            within = λ lt. absurd (omega (arith, is, lt));
            from = subst (IsReached b) is on;
            to = on;
            zero_bytes = subst (λ (n : ℕ). AreZero b n (c.messages.place + c.in-Some.size)) is (none_zero b (c.messages.place + c.in-Some.size));
          }
      | else-size-ne4 w ↦
          let is : c.messages.start ≡ c.if-size-ne4.start = sym w.start-is in
          let four : c.in-Some.size ≡ 4 = w.if-size-ne4.false in
          let e : 4 ≡ 4 + from_be_bytes w32 (drop c.messages.place b) = sym four ∙ c.in-Some.ensures.1 in
          record {
            before = omega (arith, is, i.before);
            within = λ lt. c.in-Some.ensures.0;
            from = subst (IsReached b) is i.from;
            to = on;
            zero_bytes = subst (λ (n : ℕ). AreZero b n (c.messages.place + c.in-Some.size)) is
                (subst (λ (n : ℕ). AreZero b c.messages.start (c.messages.place + n)) (sym four) (more_zero b c.messages.start c.messages.place i.zero_bytes
                e));
          }
    ]
