use Rattle.std.proofs.Common.{◌≡◌, ◌∙◌, ℕ, ◌+◌, ◌≤◌, true, false, length, arith, inl, inr, subst}
use Rattle.std.proofs.lemmas.Bool.{cases_lt}
use Rattle.bt_intro.specs.Hellos.{IsHelloAt, BeginsAsHello}
use Rattle.bt_intro.proofs.Searching.{whole, hello_by_drop, hello_drops, hello_fits}
use Rattle.bt_intro.proofs.hello.find_hello.Goals as goal

pub returns-then-begins_as_hello : goal.returns-then-begins_as_hello
returns-then-begins_as_hello c =
    let within : c.loop-place.place ≤ length c.args.front.now = omega arith in (
      omega arith,
      omega arith,
      hello_by_drop c.args.front.now c.loop-place.place within
          (subst BeginsAsHello (whole c.args.front.now c.loop-place.place within) (c.begins_as_hello.ensures.yes c.if-begins_as_hello.true)),
      c.loop-place.invariant,
    )

pub loop-place-preserved : goal.loop-place-preserved
loop-place-preserved c = λ j low lt at.
    elim (cases_lt j c.loop-place.place) [
      | inl less ↦ c.loop-place.invariant j low less at
      | inr ge ↦
          let within : c.loop-place.place ≤ length c.args.front.now = omega arith in
          let same : j ≡ c.loop-place.place = omega arith in
          let here : IsHelloAt c.args.front.now c.loop-place.place = subst (λ (k : ℕ). IsHelloAt c.args.front.now k) same at in
          let yes : c.begins_as_hello.result ≡ true =
          c.begins_as_hello.ensures.no here.after (whole c.args.front.now c.loop-place.place within ∙ hello_drops c.args.front.now c.loop-place.place here) in
          let no : c.begins_as_hello.result ≡ false = c.if-begins_as_hello.false in
          absurd cc
    ]

pub returns : goal.returns
returns c = λ j low near at.
    let fits : j + 20 ≤ length c.args.front.now = hello_fits c.args.front.now j at in
    c.loop-place.invariant j low (omega arith) at
