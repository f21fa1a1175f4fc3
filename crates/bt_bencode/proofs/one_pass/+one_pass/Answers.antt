use Rattle.std.proofs.Common.{◌≡◌, ◌-◌, ℕ, List, None, subst, ◌∙◌, sym, arith, refl, ap, length, length-append, Some}
use Rattle.bt_bencode.specs.Bencoding.{ben_string}
use Rattle.std.specs.Option.{option_copied}
use Rattle.bt_bencode.proofs.Passing.{text_passes, integer_passes, items_pass, pairs_pass, no_items_pass, item_passes, no_pairs_pass, pair_passes}
use Rattle.bt_bencode.proofs.Stopping.{nothing_stops, integer_stops, list_stops, dictionary_stops, text_stops}
use Rattle.bt_bencode.proofs.Stopping.{no_item_stops, item_stops, items_stop, no_pair_stops, no_key_stops, key_stops, value_stops, pairs_stop}
use Rattle.bt_bencode.proofs.Halting.{halts_after_item, halts_in_item, halts_after_pair, halts_in_pair, halts_inside_list, halts_inside_dictionary}
use Rattle.bt_bencode.specs.OnePass.{PassesValue, PassesItems, PassesPairs, StopsValue, StopsItems, StopsPairs, Halts, HaltsValue}
use Rattle.bt_bencode.specs.Scanner.{room_in}
use Rattle.bt_bencode.specs.declared.scan.Container.{Container}
use Rattle.bt_bencode.proofs.one_pass.+one_pass.Goals as goal
use Rattle.bt_bencode.proofs.one_pass.+one_pass.Goals.{after_value-in_default-via-in-108+else-depth-lt-MAX_NESTING, after_value-in_default-via-in-100+else-depth-lt-MAX_NESTING-2}
use Rattle.bt_bencode.proofs.one_pass.+one_pass.Goals.{after_value-in_default-via-in_default-1}

pub after_items-returns-then-rest-eq101-clause-passes : goal.after_items-returns-then-rest-eq101-clause-passes
after_items-returns-then-rest-eq101-clause-passes t c = c.loop-rest.invariant.passes c.following.result.now
    (no_items_pass (room_in c.args.stack.now) c.loop-rest.rest.now c.following.result.now c.if-rest-eq101.true c.following.ensures)

pub after_items-loop-rest-preserved : goal.after_items-loop-rest-preserved
after_items-loop-rest-preserved t c =
    let same = c.loop-rest.invariant.same in
    let rest = c.loop-rest.rest.now in
    let next = c.in_ok-rest.rest.now in
    let passes = subst (λ (s : List Container). PassesValue (room_in s) rest next) same c.in_ok-rest.ensures.passes in
    record {
      within = omega (arith, c.loop-rest.invariant.within, c.in_ok-rest.ensures.shorter);
      same = c.in_ok-rest.ensures.closes ∙ same;
      passes = λ more h. c.loop-rest.invariant.passes more (item_passes (room_in c.args.stack.now) rest next more passes h);
      stops = λ left h. c.loop-rest.invariant.stops left (items_stop (room_in c.args.stack.now) left rest next c.if-rest-eq101.false passes h);
      halts = λ left o h. c.loop-rest.invariant.halts left o (halts_after_item c.args.stack.now rest next c.requires passes left o h);
    }

pub after_items-returns-in_err-rest-clause-halts : goal.after_items-returns-in_err-rest-clause-halts
after_items-returns-in_err-rest-clause-halts t c = λ e.
    let left = c.after_value.new.left in
    let o = c.after_value.new.stack in
    let rest = c.loop-rest.rest.now in
    let h = subst (λ (s : List Container). HaltsValue s (length rest) rest left o) c.loop-rest.invariant.same (c.in_err-rest.ensures.halts refl) in
    c.loop-rest.invariant.halts left o (halts_in_item c.args.stack.now rest (length rest) left o c.requires refl h)

pub after_items-returns-in_err-rest-clause-stops : goal.after_items-returns-in_err-rest-clause-stops
after_items-returns-in_err-rest-clause-stops t c = λ e. c.loop-rest.invariant.stops _
    (item_stops (room_in c.args.stack.now) _ c.loop-rest.rest.now c.if-rest-eq101.false
    (subst (λ (s : List Container). StopsValue (room_in s) c.loop-rest.rest.now c.after_value.new.left) c.loop-rest.invariant.same
    (c.in_err-rest.ensures.stops refl)))

pub after_items-returns-clause-stops : goal.after_items-returns-clause-stops
after_items-returns-clause-stops t c = λ e. c.loop-rest.invariant.stops _ (no_item_stops (room_in c.args.stack.now) _ c.loop-rest.rest.now (omega arith))

pub after_pairs-returns-then-rest-eq101-clause-passes : goal.after_pairs-returns-then-rest-eq101-clause-passes
after_pairs-returns-then-rest-eq101-clause-passes t c = c.loop-rest.invariant.passes c.following.result.now
    (no_pairs_pass (room_in c.args.stack.now) (option_copied c.loop-rest.last) c.loop-rest.rest.now c.following.result.now c.if-rest-eq101.true c.following.ensures)

pub after_pairs-loop-rest-preserved : goal.after_pairs-loop-rest-preserved
after_pairs-loop-rest-preserved t c =
    let same = c.loop-rest.invariant.same in
    let rest = c.loop-rest.rest.now in
    let key = c.in_ok-key.key.now in
    let value = c.in_ok-key.value.now in
    let next = c.in_ok-rest.rest.now in
    let passes = subst (λ (s : List Container). PassesValue (room_in s) value next) same c.in_ok-rest.ensures.passes in
    let above = sym c.is_above.ensures ∙ c.if-not-is_above.false in
    let parts = ap length c.in_ok-key.ensures.split ∙ length-append (ben_string key) value in
    record {
      within = omega (arith, c.loop-rest.invariant.within, c.in_ok-rest.ensures.shorter, parts);
      same = c.in_ok-rest.ensures.closes ∙ same;
      passes = λ more h. c.loop-rest.invariant.passes more (pair_passes (room_in c.args.stack.now) (option_copied c.loop-rest.last) rest key value next more
          c.in_ok-key.ensures.short c.in_ok-key.ensures.split above passes h);
      stops = λ left h. c.loop-rest.invariant.stops left (pairs_stop (room_in c.args.stack.now) left (option_copied c.loop-rest.last) rest key value
          c.if-rest-eq101.false c.in_ok-key.ensures.short c.in_ok-key.ensures.split next above passes h);
      halts = λ left o h. c.loop-rest.invariant.halts left o (halts_after_pair c.args.stack.now rest key value next c.requires c.in_ok-key.ensures.short
          c.in_ok-key.ensures.split passes left o h);
    }

pub after_pairs-returns-in_err-rest-clause-halts : goal.after_pairs-returns-in_err-rest-clause-halts
after_pairs-returns-in_err-rest-clause-halts t c = λ e.
    let left = c.after_value.new.left in
    let o = c.after_value.new.stack in
    let rest = c.loop-rest.rest.now in
    let value = c.in_ok-key.value.now in
    let h = subst (λ (s : List Container). HaltsValue s (length rest) value left o) c.loop-rest.invariant.same (c.in_err-rest.ensures.halts refl) in
    c.loop-rest.invariant.halts left o (halts_in_pair c.args.stack.now rest c.in_ok-key.key.now value (length rest) left o c.requires
    c.in_ok-key.ensures.short c.in_ok-key.ensures.split refl h)

pub after_pairs-returns-in_err-key-clause-stops : goal.after_pairs-returns-in_err-key-clause-stops
after_pairs-returns-in_err-key-clause-stops t c = λ e. c.loop-rest.invariant.stops _
    (no_key_stops (room_in c.args.stack.now) _ (option_copied c.loop-rest.last) c.loop-rest.rest.now c.if-rest-eq101.false (c.in_err-key.ensures.none refl))

pub after_pairs-returns-then-not-is_above-clause-stops : goal.after_pairs-returns-then-not-is_above-clause-stops
after_pairs-returns-then-not-is_above-clause-stops t c = λ e. c.loop-rest.invariant.stops _
    (key_stops (room_in c.args.stack.now) _ (option_copied c.loop-rest.last) c.loop-rest.rest.now c.in_ok-key.key.now c.in_ok-key.value.now c.if-rest-eq101.false
    c.in_ok-key.ensures.short c.in_ok-key.ensures.split (omega arith) (sym c.is_above.ensures ∙ c.if-not-is_above.true) refl)

pub after_pairs-returns-in_err-rest-clause-stops : goal.after_pairs-returns-in_err-rest-clause-stops
after_pairs-returns-in_err-rest-clause-stops t c = λ e. c.loop-rest.invariant.stops _
    (value_stops (room_in c.args.stack.now) _ (option_copied c.loop-rest.last) c.loop-rest.rest.now c.in_ok-key.key.now c.in_ok-key.value.now c.if-rest-eq101.false
    c.in_ok-key.ensures.short c.in_ok-key.ensures.split (sym c.is_above.ensures ∙ c.if-not-is_above.false)
    (subst (λ (s : List Container). StopsValue (room_in s) c.in_ok-key.value.now c.after_value.new.left) c.loop-rest.invariant.same
    (c.in_err-rest.ensures.stops refl)))

pub after_pairs-returns-clause-stops : goal.after_pairs-returns-clause-stops
after_pairs-returns-clause-stops t c = λ e. c.loop-rest.invariant.stops _
    (no_pair_stops (room_in c.args.stack.now) _ (option_copied c.loop-rest.last) c.loop-rest.rest.now (omega arith))

pub after_value-returns-then-bytes-eq0-clause-stops : goal.after_value-returns-then-bytes-eq0-clause-stops
after_value-returns-then-bytes-eq0-clause-stops t c = λ e. nothing_stops (room_in c.args.stack.now) _ c.args.bytes.now (omega arith)

pub after_value-returns-in-105-clause-stops : goal.after_value-returns-in-105-clause-stops
after_value-returns-in-105-clause-stops t c = λ e. integer_stops (room_in c.args.stack.now) _ c.args.bytes.now c.following.result.now c.in-105.is c.following.ensures
    (c.after_integer.ensures.none e)

pub after_value-returns-in_err-rest-in-108-clause-stops : goal.after_value-returns-in_err-rest-in-108-clause-stops
after_value-returns-in_err-rest-in-108-clause-stops t c = λ e.
    let tail = c.following-in-108.result.now in
    let room : room_in c.push.new.self ≡ room_in c.args.stack.now - 1 = omega (arith, ap length c.push.ensures) in
    let stops = subst (λ (n : ℕ). StopsItems n tail c.after_items.new.left) room (c.in_err-rest-in-108.ensures.stops refl) in
    list_stops (room_in c.args.stack.now) _ c.args.bytes.now tail (omega arith) c.in-108.is c.following-in-108.ensures stops

pub after_value-returns-in_err-rest-in-108-clause-halts : goal.after_value-returns-in_err-rest-in-108-clause-halts
after_value-returns-in_err-rest-in-108-clause-halts t c = λ e.
    let left = c.after_items.new.left in
    let o = c.after_items.new.stack in
    let tail = c.following-in-108.result.now in
    let h = subst (λ (s : List Container). Halts s tail left o) c.push.ensures (c.in_err-rest-in-108.ensures.halts refl) in
    halts_inside_list c.args.stack.now c.args.left.now left c.args.bytes.now tail o (omega arith) c.in-108.is c.following-in-108.ensures h

pub after_value-returns-in_err-rest-in-100-clause-stops : goal.after_value-returns-in_err-rest-in-100-clause-stops
after_value-returns-in_err-rest-in-100-clause-stops t c = λ e.
    let tail = c.following-in-100.result.now in
    let room : room_in c.push-in-100.new.self ≡ room_in c.args.stack.now - 1 = omega (arith, ap length c.push-in-100.ensures) in
    let stops = subst (λ (n : ℕ). StopsPairs n None tail c.after_pairs.new.left) room (c.in_err-rest-in-100.ensures.stops refl) in
    dictionary_stops (room_in c.args.stack.now) _ c.args.bytes.now tail (omega arith) c.in-100.is c.following-in-100.ensures stops

pub after_value-returns-in_err-rest-in-100-clause-halts : goal.after_value-returns-in_err-rest-in-100-clause-halts
after_value-returns-in_err-rest-in-100-clause-halts t c = λ e.
    let left = c.after_pairs.new.left in
    let o = c.after_pairs.new.stack in
    let tail = c.following-in-100.result.now in
    let h = subst (λ (s : List Container). Halts s tail left o) c.push-in-100.ensures (c.in_err-rest-in-100.ensures.halts refl) in
    halts_inside_dictionary c.args.stack.now c.args.left.now left c.args.bytes.now tail o (omega arith) c.in-100.is c.following-in-100.ensures h

pub after_value-returns-in_err-rest-in_default-clause-stops : goal.after_value-returns-in_err-rest-in_default-clause-stops
after_value-returns-in_err-rest-in_default-clause-stops t c = λ e.
    let none = c.in_err-rest-in_default.ensures.none refl in
    elim c.in_default.branch [
      | after_value-in_default-via-in-108+else-depth-lt-MAX_NESTING w ↦ text_stops (room_in c.args.stack.now) _ c.args.bytes.now (λ x. omega (arith, w.in-108.is, x))
          (λ x. omega arith) (λ x. omega (arith, w.in-108.is, x)) none
      | after_value-in_default-via-in-100+else-depth-lt-MAX_NESTING-2 w ↦ text_stops (room_in c.args.stack.now) _ c.args.bytes.now (λ x. omega (arith, w.in-100.is, x))
          (λ x. omega (arith, w.in-100.is, x)) (λ x. omega arith) none
      | after_value-in_default-via-in_default-1 w ↦ text_stops (room_in c.args.stack.now) _ c.args.bytes.now (λ x. omega arith) (λ x. omega arith) (λ x. omega arith) none
    ]

pub after_value-returns-in-105-clause-passes : goal.after_value-returns-in-105-clause-passes
after_value-returns-in-105-clause-passes t c = integer_passes (room_in c.args.stack.now) c.args.bytes.now c.following.result.now c.after_integer.result c.in-105.is
    c.following.ensures c.after_integer.ensures.passes

pub after_value-returns-in_ok-rest-in-108-clause-passes : goal.after_value-returns-in_ok-rest-in-108-clause-passes
after_value-returns-in_ok-rest-in-108-clause-passes t c =
    let tail = c.following-in-108.result.now in
    let rest = c.in_ok-rest-in-108.rest in
    let room : room_in c.push.new.self ≡ room_in c.args.stack.now - 1 = omega (arith, ap length c.push.ensures) in
    let passes = subst (λ (n : ℕ). PassesItems n tail rest.now) room c.in_ok-rest-in-108.ensures.passes in
    items_pass (room_in c.args.stack.now) c.args.bytes.now tail (Some rest) (omega arith) c.in-108.is c.following-in-108.ensures passes

pub after_value-returns-in_ok-rest-in-100-clause-passes : goal.after_value-returns-in_ok-rest-in-100-clause-passes
after_value-returns-in_ok-rest-in-100-clause-passes t c =
    let tail = c.following-in-100.result.now in
    let rest = c.in_ok-rest-in-100.rest in
    let room : room_in c.push-in-100.new.self ≡ room_in c.args.stack.now - 1 = omega (arith, ap length c.push-in-100.ensures) in
    let passes = subst (λ (n : ℕ). PassesPairs n None tail rest.now) room c.in_ok-rest-in-100.ensures.passes in
    pairs_pass (room_in c.args.stack.now) c.args.bytes.now tail (Some rest) (omega arith) c.in-100.is c.following-in-100.ensures passes

pub after_value-returns-in_ok-rest-in_default-clause-passes : goal.after_value-returns-in_ok-rest-in_default-clause-passes
after_value-returns-in_ok-rest-in_default-clause-passes t c = text_passes (room_in c.args.stack.now) c.args.bytes.now c.in_ok-rest-in_default.field-0-0.now
    c.in_ok-rest-in_default.rest.now c.in_ok-rest-in_default.ensures.short c.in_ok-rest-in_default.ensures.split
