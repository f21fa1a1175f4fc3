use Rattle.std.proofs.Common.{rules, ◌≡◌, List, ℕ, length, take, ap, subst, arith}
use Rattle.bt_bencode.specs.Scanner.{HasRead}
use Rattle.bt_bencode.specs.declared.scan.Expect.{Expect}
use Rattle.bt_bencode.proofs.Reading.{goes_on, passed, stops, cut, whole}
use Rattle.bt_bencode.proofs.Places.{impossible, is_cut}
use Rattle.bt_bencode.proofs.scan.item_bytewise.Goals as goal
use Rattle.bt_bencode.proofs.scan.item_bytewise.Goals.{in-Text, in_default+in-Some}

pub returns-in-None-clause-err : goal.returns-in-None-clause-err
returns-in-None-clause-err c = impossible c.args.payload.now c.loop-at.at (stops c.args.payload.now c.loop-at.at c.loop-at.expect c.loop-at.stack
    c.loop-at-test.true c.loop-at.invariant.read c.loop-at.invariant.goes_on c.in-None.ensures)

pub returns-then-is_between-clause-within : goal.returns-then-is_between-clause-within
returns-then-is_between-clause-within c = elim c.match-expect.branch [
  | in-Text w ↦ let p = passed c.args.payload.now c.loop-at.at
      w.in-Text.is w.min-passed.ensures c.loop-at-test.true c.loop-at.invariant.read w.text-expect.ensures in
      (search rules, omega (arith, p.0, w.at-is))
  | in_default+in-Some w ↦ (omega (arith, c.loop-at.invariant.after, w.at-is), omega (arith, c.loop-at-test.true, w.at-is))
]

pub returns-then-is_between-clause-read : goal.returns-then-is_between-clause-read
returns-then-is_between-clause-read c =
    let P : Expect → Type 0 = λ e. HasRead (take c.match-expect.at c.args.payload.now) e c.match-expect.stack in
    subst P (c.is_between.ensures.0 c.if-is_between.true) (elim c.match-expect.branch [
      | in-Text w ↦ let p = passed c.args.payload.now c.loop-at.at
          w.in-Text.is w.min-passed.ensures c.loop-at-test.true c.loop-at.invariant.read w.text-expect.ensures in
          rw (w.at-is, w.expect-is, w.stack-is) p.1
      | in_default+in-Some w ↦ rw (w.at-is, w.expect-is, w.stack-is) (goes_on c.args.payload.now c.loop-at.at c.loop-at.expect w.in-Some.next c.loop-at.stack
          w.step.new.stack c.loop-at-test.true c.loop-at.invariant.read w.in-Some.ensures)
    ])

pub loop-at-init : goal.loop-at-init
loop-at-init c = record {
  after = omega arith;
  within = c.requires.within;
  read = c.requires.read;
  goes_on = λ done. absurd (omega (arith, ap length done.1, c.requires.goes_on));
}

pub loop-at-preserved : goal.loop-at-preserved
loop-at-preserved c = elim c.match-expect.branch [
  | in-Text w ↦ let p = passed c.args.payload.now c.loop-at.at
      w.in-Text.is w.min-passed.ensures c.loop-at-test.true c.loop-at.invariant.read w.text-expect.ensures in
      record {
        after = omega (arith, c.loop-at.invariant.after, w.at-is);
        within = omega (arith, p.0, w.at-is);
        read = rw (w.at-is, w.expect-is, w.stack-is) p.1;
        goes_on = search rules;
      }
  | in_default+in-Some w ↦
      record {
        after = omega (arith, c.loop-at.invariant.after, w.at-is);
        within = omega (arith, c.loop-at-test.true, w.at-is);
        read = rw (w.at-is, w.expect-is, w.stack-is)
            (goes_on c.args.payload.now c.loop-at.at c.loop-at.expect w.in-Some.next c.loop-at.stack w.step.new.stack c.loop-at-test.true
            c.loop-at.invariant.read w.in-Some.ensures);
        goes_on = search rules;
      }
]

pub returns-clause-err : goal.returns-clause-err
returns-clause-err c =
    let all : take c.loop-at.at c.args.payload.now ≡ c.args.payload.now = whole c.args.payload.now c.loop-at.at c.loop-at-test.false
    c.loop-at.invariant.within in
    is_cut c.args.payload.now (cut c.args.payload.now c.loop-at.expect c.loop-at.stack (subst (λ (b : List ℕ). HasRead b c.loop-at.expect c.loop-at.stack)
    all c.loop-at.invariant.read) c.loop-at.invariant.goes_on)
