use Rattle.std.proofs.Common.{◌∙◌, arith, refl, ap, length, length-append}
use Rattle.bt_bencode.specs.Bencoding.{ben_string}
use Rattle.bt_torrent.proofs.Passing.{text_passes, integer_passes, items_pass, pairs_pass, no_items_pass, item_passes, no_pairs_pass, pair_passes}
use Rattle.bt_torrent.proofs.Passing.{nothing_there, no_integer, no_list, no_dictionary, no_other, no_list_end, no_item, items_after}
use Rattle.bt_torrent.proofs.Passing.{no_dictionary_end, no_key, no_value, pairs_after}
use Rattle.bt_torrent.proofs.bencoded.+values.Goals as goal
use Rattle.bt_torrent.proofs.bencoded.+values.Goals.{after_value-in_default-via-in-108+else-room-gt0, after_value-in_default-via-in-100+else-room-gt0-2}
use Rattle.bt_torrent.proofs.bencoded.+values.Goals.{after_value-in_default-via-in_default-1}

pub after_items-returns-then-rest-eq101-clause-passes : goal.after_items-returns-then-rest-eq101-clause-passes
after_items-returns-then-rest-eq101-clause-passes t c = c.loop-rest.invariant.passes c.following.result.now
    (no_items_pass c.args.room c.loop-rest.rest.now c.following.result.now c.if-rest-eq101.true c.following.ensures)

pub after_items-loop-rest-preserved : goal.after_items-loop-rest-preserved
after_items-loop-rest-preserved t c = record {
  within = omega (arith, c.loop-rest.invariant.within, c.in_ok-rest.ensures.shorter);
  passes = λ more h. c.loop-rest.invariant.passes more (item_passes c.args.room c.loop-rest.rest.now c.in_ok-rest.rest.now more c.in_ok-rest.ensures.passes h);
  back = λ more h. items_after c.args.room c.loop-rest.rest.now c.in_ok-rest.rest.now more c.if-rest-eq101.false c.in_ok-rest.ensures.passes
      (c.loop-rest.invariant.back more h);
}

pub after_items-returns-in_err-rest-clause-none : goal.after_items-returns-in_err-rest-clause-none
after_items-returns-in_err-rest-clause-none t c = λ e more h. no_item c.args.room c.loop-rest.rest.now c.if-rest-eq101.false (c.in_err-rest.ensures.none refl)
    more (c.loop-rest.invariant.back more h)

pub after_items-returns-clause-none : goal.after_items-returns-clause-none
after_items-returns-clause-none t c = λ e more h. no_list_end c.args.room c.loop-rest.rest.now (omega arith) more (c.loop-rest.invariant.back more h)

pub after_pairs-returns-then-rest-eq101-clause-passes : goal.after_pairs-returns-then-rest-eq101-clause-passes
after_pairs-returns-then-rest-eq101-clause-passes t c = c.loop-rest.invariant.passes c.following.result.now
    (no_pairs_pass c.args.room c.loop-rest.rest.now c.following.result.now c.if-rest-eq101.true c.following.ensures)

pub after_pairs-loop-rest-preserved : goal.after_pairs-loop-rest-preserved
after_pairs-loop-rest-preserved t c =
    let key = c.in_ok-value.field-0-0.now in
    let parts = ap length c.in_ok-value.ensures.split ∙ length-append (ben_string key) c.in_ok-value.value.now in
    record {
      within = omega (arith, c.loop-rest.invariant.within, c.in_ok-rest.ensures.shorter, parts);
      passes = λ more h. c.loop-rest.invariant.passes more (pair_passes c.args.room c.loop-rest.rest.now key c.in_ok-value.value.now c.in_ok-rest.rest.now more
          c.in_ok-value.ensures.short c.in_ok-value.ensures.split c.in_ok-rest.ensures.passes h);
      back = λ more h. pairs_after c.args.room c.loop-rest.rest.now key c.in_ok-value.value.now c.if-rest-eq101.false c.in_ok-value.ensures.short
          c.in_ok-value.ensures.split c.in_ok-rest.rest.now more c.in_ok-rest.ensures.passes (c.loop-rest.invariant.back more h);
    }

pub after_pairs-returns-in_err-value-clause-none : goal.after_pairs-returns-in_err-value-clause-none
after_pairs-returns-in_err-value-clause-none t c = λ e more h. no_key c.args.room c.loop-rest.rest.now c.if-rest-eq101.false (c.in_err-value.ensures.none refl)
    more (c.loop-rest.invariant.back more h)

pub after_pairs-returns-in_err-rest-clause-none : goal.after_pairs-returns-in_err-rest-clause-none
after_pairs-returns-in_err-rest-clause-none t c = λ e more h. no_value c.args.room c.loop-rest.rest.now c.in_ok-value.field-0-0.now c.in_ok-value.value.now
    c.if-rest-eq101.false c.in_ok-value.ensures.short c.in_ok-value.ensures.split (c.in_err-rest.ensures.none refl) more (c.loop-rest.invariant.back more h)

pub after_pairs-returns-clause-none : goal.after_pairs-returns-clause-none
after_pairs-returns-clause-none t c = λ e more h. no_dictionary_end c.args.room c.loop-rest.rest.now (omega arith) more (c.loop-rest.invariant.back more h)

pub after_value-returns-then-bytes-eq0-clause-none : goal.after_value-returns-then-bytes-eq0-clause-none
after_value-returns-then-bytes-eq0-clause-none t c = λ e. nothing_there c.args.room c.args.bytes.now (omega arith)

pub after_value-returns-in-105-clause-passes : goal.after_value-returns-in-105-clause-passes
after_value-returns-in-105-clause-passes t c = integer_passes c.args.room c.args.bytes.now c.following.result.now c.after_integer.result c.in-105.is
    c.following.ensures c.after_integer.ensures.passes

pub after_value-returns-in-105-clause-none : goal.after_value-returns-in-105-clause-none
after_value-returns-in-105-clause-none t c = λ e. no_integer c.args.room c.args.bytes.now c.following.result.now c.in-105.is c.following.ensures
    (c.after_integer.ensures.none e)

pub after_value-returns-in-108-clause-passes : goal.after_value-returns-in-108-clause-passes
after_value-returns-in-108-clause-passes t c = items_pass c.args.room c.args.bytes.now c.following-in-108.result.now c.after_items.result c.if-room-gt0.true
    c.in-108.is c.following-in-108.ensures c.after_items.ensures.passes

pub after_value-returns-in-108-clause-none : goal.after_value-returns-in-108-clause-none
after_value-returns-in-108-clause-none t c = λ e. no_list c.args.room c.args.bytes.now c.following-in-108.result.now c.in-108.is
    c.following-in-108.ensures (c.after_items.ensures.none e)

pub after_value-returns-in-100-clause-passes : goal.after_value-returns-in-100-clause-passes
after_value-returns-in-100-clause-passes t c = pairs_pass c.args.room c.args.bytes.now c.following-in-100.result.now c.after_pairs.result c.if-room-gt0-2.true
    c.in-100.is c.following-in-100.ensures c.after_pairs.ensures.passes

pub after_value-returns-in-100-clause-none : goal.after_value-returns-in-100-clause-none
after_value-returns-in-100-clause-none t c = λ e. no_dictionary c.args.room c.args.bytes.now c.following-in-100.result.now c.in-100.is
    c.following-in-100.ensures (c.after_pairs.ensures.none e)

pub after_value-returns-in_ok-rest-in_default-clause-passes : goal.after_value-returns-in_ok-rest-in_default-clause-passes
after_value-returns-in_ok-rest-in_default-clause-passes t c = text_passes c.args.room c.args.bytes.now c.in_ok-rest-in_default.field-0-0.now
    c.in_ok-rest-in_default.rest.now c.in_ok-rest-in_default.ensures.short c.in_ok-rest-in_default.ensures.split

pub after_value-returns-in_err-rest-in_default-clause-none : goal.after_value-returns-in_err-rest-in_default-clause-none
after_value-returns-in_err-rest-in_default-clause-none t c = λ e.
    let none = c.in_err-rest-in_default.ensures.none refl in
    elim c.in_default.branch [
      | after_value-in_default-via-in-108+else-room-gt0 w ↦ no_other c.args.room c.args.bytes.now (λ x. omega (arith, w.in-108.is, x))
          (λ x. omega arith) (λ x. omega (arith, w.in-108.is, x)) none
      | after_value-in_default-via-in-100+else-room-gt0-2 w ↦ no_other c.args.room c.args.bytes.now (λ x. omega (arith, w.in-100.is, x))
          (λ x. omega (arith, w.in-100.is, x)) (λ x. omega arith) none
      | after_value-in_default-via-in_default-1 w ↦ no_other c.args.room c.args.bytes.now (λ x. omega arith) (λ x. omega arith) (λ x. omega arith) none
    ]
