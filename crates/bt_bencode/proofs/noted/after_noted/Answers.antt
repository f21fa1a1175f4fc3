use Rattle.std.proofs.Common.{List, length, subst, ◌∙◌, sym, arith, refl}
use Rattle.std.specs.Option.{option_copied}
use Rattle.bt_bencode.proofs.Noting.{Notes, end_noted, pair_noted}
use Rattle.bt_bencode.proofs.Stopping.{no_pair_stops, no_key_stops, key_stops, value_stops, pairs_stop}
use Rattle.bt_bencode.proofs.Halting.{halts_here, halts_after_pair, halts_in_pair}
use Rattle.bt_bencode.specs.OnePass.{PassesValue, StopsValue, Halts, HaltsValue}
use Rattle.bt_bencode.specs.Scanner.{room_in}
use Rattle.bt_bencode.specs.declared.scan.Container.{Container}
use Rattle.bt_bencode.proofs.noted.after_noted.Goals as goal

pub returns-then-rest-eq101-clause-passes : goal.returns-then-rest-eq101-clause-passes
returns-then-rest-eq101-clause-passes c = end_noted c.args.one.now c.args.two.now c.args.three.now c.args.bytes.now c.loop-rest.rest.now (option_copied c.loop-rest.last)
    (record { rest = c.following-rest.result; first = c.loop-rest.first; second = c.loop-rest.second; third = c.loop-rest.third })
    c.if-rest-eq101.true c.following-rest.ensures c.loop-rest.invariant.passed

pub loop-rest-preserved : goal.loop-rest-preserved
loop-rest-preserved c =
    let key = c.in_ok-key.key.now in
    let value = c.in_ok-key.value in
    let one : Notes c.args.one.now key value c.loop-rest.first c.note-first.result = record {
      same = c.eq.result;
      tested = c.eq.ensures;
      noted = c.note-first.ensures;
    } in
    let two : Notes c.args.two.now key value c.loop-rest.second c.note-second.result = record {
      same = c.eq-in-loop-rest.result;
      tested = c.eq-in-loop-rest.ensures;
      noted = c.note-second.ensures;
    } in
    let three : Notes c.args.three.now key value c.loop-rest.third c.note-third.result = record {
      same = c.eq-in-loop-rest-2.result;
      tested = c.eq-in-loop-rest-2.ensures;
      noted = c.note-third.ensures;
    } in
    let above = sym c.is_above.ensures ∙ c.if-not-is_above.false in
    let stack = c.loop-rest.invariant.same ∙ c.requires in
    let passes = subst (λ (s : List Container). PassesValue (room_in s) value.now c.in_ok-rest.rest.now) stack c.in_ok-rest.ensures.passes in
    let inner = subst (λ (s : List Container). PassesValue (room_in s) value.now c.in_ok-rest.rest.now) c.loop-rest.invariant.same c.in_ok-rest.ensures.passes in
    record {
      passed = pair_noted c.args.one.now c.args.two.now c.args.three.now c.args.bytes.now value c.in_ok-rest.rest.now c.in_ok-key.ensures.short
          c.in_ok-key.ensures.split passes (option_copied c.loop-rest.last) c.loop-rest.first c.loop-rest.second c.loop-rest.third
          c.note-first.result c.note-second.result c.note-third.result above one two three c.loop-rest.invariant.passed;
      stops = λ left h. c.loop-rest.invariant.stops left (pairs_stop 31 left (option_copied c.loop-rest.last) c.loop-rest.rest.now key value.now
          c.if-rest-eq101.false c.in_ok-key.ensures.short c.in_ok-key.ensures.split c.in_ok-rest.rest.now above passes h);
      same = c.in_ok-rest.ensures.closes ∙ c.loop-rest.invariant.same;
      halts = λ left o h. c.loop-rest.invariant.halts left o (halts_after_pair c.args.stack.now c.loop-rest.rest.now key value.now c.in_ok-rest.rest.now
          (rw c.requires refl) c.in_ok-key.ensures.short c.in_ok-key.ensures.split inner left o h);
    }

pub returns-in_err-key-clause-stops : goal.returns-in_err-key-clause-stops
returns-in_err-key-clause-stops c = λ e. c.loop-rest.invariant.stops _
    (no_key_stops 31 _ (option_copied c.loop-rest.last) c.loop-rest.rest.now c.if-rest-eq101.false (c.in_err-key.ensures.none refl))

pub returns-in_err-key-clause-halts : goal.returns-in_err-key-clause-halts
returns-in_err-key-clause-halts c = λ e.
    let stack = c.args.stack.now in
    let rest = c.loop-rest.rest.now in
    let here = subst (λ (o : List Container). Halts stack rest (length rest) o) (sym c.loop-rest.invariant.same) (halts_here stack rest (length rest) refl) in
    c.loop-rest.invariant.halts (length rest) c.loop-rest.stack here

pub returns-then-not-is_above-clause-stops : goal.returns-then-not-is_above-clause-stops
returns-then-not-is_above-clause-stops c = λ e. c.loop-rest.invariant.stops _
    (key_stops 31 _ (option_copied c.loop-rest.last) c.loop-rest.rest.now c.in_ok-key.key.now c.in_ok-key.value.now c.if-rest-eq101.false
    c.in_ok-key.ensures.short c.in_ok-key.ensures.split (omega arith) (sym c.is_above.ensures ∙ c.if-not-is_above.true) refl)

pub returns-in_err-rest-clause-stops : goal.returns-in_err-rest-clause-stops
returns-in_err-rest-clause-stops c = λ e. c.loop-rest.invariant.stops _
    (value_stops 31 _ (option_copied c.loop-rest.last) c.loop-rest.rest.now c.in_ok-key.key.now c.in_ok-key.value.now c.if-rest-eq101.false
    c.in_ok-key.ensures.short c.in_ok-key.ensures.split (sym c.is_above.ensures ∙ c.if-not-is_above.false)
    (subst (λ (s : List Container). StopsValue (room_in s) c.in_ok-key.value.now c.after_value.new.left) (c.loop-rest.invariant.same ∙ c.requires)
    (c.in_err-rest.ensures.stops refl)))

pub returns-in_err-rest-clause-halts : goal.returns-in_err-rest-clause-halts
returns-in_err-rest-clause-halts c = λ e.
    let left = c.after_value.new.left in
    let o = c.after_value.new.stack in
    let rest = c.loop-rest.rest.now in
    let value = c.in_ok-key.value.now in
    let h = subst (λ (s : List Container). HaltsValue s (length rest) value left o) c.loop-rest.invariant.same (c.in_err-rest.ensures.halts refl) in
    c.loop-rest.invariant.halts left o (halts_in_pair c.args.stack.now rest c.in_ok-key.key.now value (length rest) left o (rw c.requires refl)
    c.in_ok-key.ensures.short c.in_ok-key.ensures.split refl h)

pub returns-clause-stops : goal.returns-clause-stops
returns-clause-stops c = λ e. c.loop-rest.invariant.stops _
    (no_pair_stops 31 _ (option_copied c.loop-rest.last) c.loop-rest.rest.now (omega arith))
