use Rattle.std.proofs.Common.{◌≤◌, ◌<◌, ◌∙◌, arith, length, ap, length-append, length-drop}
use Rattle.bt_bencode.specs.Bencoding.{ben_string}
use Rattle.bt_bencode.specs.Readable.{HasItems, HasPairs}
use Rattle.bt_bencode.proofs.Heads.{item_there, key_there, value_after, nonempty, integer_there, items_there, pairs_there, string_there}
use Rattle.bt_bencode.proofs.Walk.{over_integer, over_text}
use Rattle.bt_bencode.proofs.Skips.{list_skipped, dictionary_skipped, left_step, left_over, pairs_left_step, pairs_left_over}
use Rattle.bt_bencode.proofs.skip.+skip.Goals as goal

pub skip_items-pass_value-rest-requires : goal.skip_items-pass_value-rest-requires
skip_items-pass_value-rest-requires t c =
    let within : length c.loop-rest.rest.now ≤ length c.args.bytes.now = c.loop-rest.invariant.within in
    let left = c.loop-rest.invariant.left c.requires.0 c.requires.1 c.requires.2 c.requires.3 in
    let items : HasItems c.loop-rest.rest.now = (left.0, c.requires.1, left.1, left.2) in
    (omega arith, item_there c.loop-rest.rest.now items c.loop-rest-test.true)

pub skip_items-loop-rest-preserved : goal.skip_items-loop-rest-preserved
skip_items-loop-rest-preserved t c =
    let within : length c.loop-rest.rest.now ≤ length c.args.bytes.now = c.loop-rest.invariant.within in
    let shorter : length c.pass_value-rest.result.now < length c.loop-rest.rest.now = c.pass_value-rest.ensures.shorter in
    record {
      within = omega arith;
      left = λ ts more h is. left_step more c.loop-rest.rest.now c.pass_value-rest.result.now c.loop-rest-test.true c.pass_value-rest.ensures.following
          (c.loop-rest.invariant.left ts more h is);
    }

pub skip_items-returns-clause-following : goal.skip_items-returns-clause-following
skip_items-returns-clause-following t c = λ ts more h is. c.following.ensures ∙ left_over more c.loop-rest.rest.now c.loop-rest-test.false
    (c.loop-rest.invariant.left ts more h is)

pub skip_pairs-split_string-requires : goal.skip_pairs-split_string-requires
skip_pairs-split_string-requires t c =
    let left = c.loop-rest.invariant.left c.requires.0 c.requires.1 c.requires.2 c.requires.3 in
    let pairs : HasPairs c.loop-rest.rest.now = (left.0, c.requires.1, left.1, left.2) in
    key_there c.loop-rest.rest.now pairs c.loop-rest-test.true

pub skip_pairs-pass_value-rest-requires : goal.skip_pairs-pass_value-rest-requires
skip_pairs-pass_value-rest-requires t c =
    let within : length c.loop-rest.rest.now ≤ length c.args.bytes.now = c.loop-rest.invariant.within in
    let parts = ap length c.split_string.ensures.split ∙ length-append (ben_string c.split_string.result.0.now) c.split_string.result.1.now in
    let left = c.loop-rest.invariant.left c.requires.0 c.requires.1 c.requires.2 c.requires.3 in
    let pairs : HasPairs c.loop-rest.rest.now = (left.0, c.requires.1, left.1, left.2) in (
      omega arith,
      value_after c.loop-rest.rest.now c.split_string.result.0.now c.split_string.result.1.now pairs c.loop-rest-test.true
          c.split_string.ensures.short c.split_string.ensures.split,
    )

pub skip_pairs-loop-rest-preserved : goal.skip_pairs-loop-rest-preserved
skip_pairs-loop-rest-preserved t c =
    let within : length c.loop-rest.rest.now ≤ length c.args.bytes.now = c.loop-rest.invariant.within in
    let parts = ap length c.split_string.ensures.split ∙ length-append (ben_string c.split_string.result.0.now) c.split_string.result.1.now in
    let shorter : length c.pass_value-rest.result.now < length c.split_string.result.1.now = c.pass_value-rest.ensures.shorter in
    record {
      within = omega arith;
      left = λ ps more h is. pairs_left_step c.loop-rest.rest.now c.split_string.result.0.now c.split_string.result.1.now c.split_string.ensures.short
          c.split_string.ensures.split more c.pass_value-rest.result.now c.loop-rest-test.true c.pass_value-rest.ensures.following
          (c.loop-rest.invariant.left ps more h is);
    }

pub skip_pairs-returns-clause-following : goal.skip_pairs-returns-clause-following
skip_pairs-returns-clause-following t c = λ ps more h is. c.following.ensures ∙ pairs_left_over more c.loop-rest.rest.now c.loop-rest-test.false
    (c.loop-rest.invariant.left ps more h is)

pub skip_value-bounds-bytes-0 : goal.skip_value-bounds-bytes-0
skip_value-bounds-bytes-0 t c = nonempty c.args.bytes.now c.requires

pub skip_value-read_int-requires : goal.skip_value-read_int-requires
skip_value-read_int-requires t c = rw c.following.ensures (integer_there c.args.bytes.now c.requires c.in-105.is)

pub skip_value-skip_items-requires : goal.skip_value-skip_items-requires
skip_value-skip_items-requires t c =
    let some = nonempty c.args.bytes.now c.requires in
    let shorter = ap length c.following-in-108.ensures ∙ length-drop 1 c.args.bytes.now in
    (omega arith, rw c.following-in-108.ensures (items_there c.args.bytes.now c.requires c.in-108.is))

pub skip_value-skip_pairs-requires : goal.skip_value-skip_pairs-requires
skip_value-skip_pairs-requires t c =
    let some = nonempty c.args.bytes.now c.requires in
    let shorter = ap length c.following-in-100.ensures ∙ length-drop 1 c.args.bytes.now in
    (omega arith, rw c.following-in-100.ensures (pairs_there c.args.bytes.now c.requires c.in-100.is))

pub skip_value-split_string-requires : goal.skip_value-split_string-requires
skip_value-split_string-requires t c = string_there c.args.bytes.now c.requires (λ e. omega arith) (λ e. omega arith) (λ e. omega arith)

pub skip_value-returns-in-105-clause-following : goal.skip_value-returns-in-105-clause-following
skip_value-returns-in-105-clause-following t c = λ u more h is. (over_integer c.read_int.result.1.now c.read_int.result.0 c.in-105.is c.following.ensures
    c.read_int.ensures.fits c.read_int.ensures.value u more h is).1

pub skip_value-returns-in-108-clause-following : goal.skip_value-returns-in-108-clause-following
skip_value-returns-in-108-clause-following t c = list_skipped c.args.bytes.now c.following-in-108.result.now c.skip_items.result.now c.in-108.is
    c.following-in-108.ensures c.skip_items.ensures.following

pub skip_value-returns-in-100-clause-following : goal.skip_value-returns-in-100-clause-following
skip_value-returns-in-100-clause-following t c = dictionary_skipped c.args.bytes.now c.following-in-100.result.now c.skip_pairs.result.now c.in-100.is
    c.following-in-100.ensures c.skip_pairs.ensures.following

pub skip_value-returns-in_default-clause-following : goal.skip_value-returns-in_default-clause-following
skip_value-returns-in_default-clause-following t c = λ u more h is. (over_text c.args.bytes.now c.split_string.result.0.now
    (λ e. omega arith) (λ e. omega arith) (λ e. omega arith) c.split_string.ensures.short c.split_string.ensures.split u more h is).1

pub pass_value-bounds-bytes-0 : goal.pass_value-bounds-bytes-0
pass_value-bounds-bytes-0 t c = nonempty c.args.bytes.now c.requires

pub pass_value-read_int-requires : goal.pass_value-read_int-requires
pass_value-read_int-requires t c = rw c.following.ensures (integer_there c.args.bytes.now c.requires c.in-105.is)

pub pass_value-split_string-requires : goal.pass_value-split_string-requires
pass_value-split_string-requires t c = string_there c.args.bytes.now c.requires (λ e. omega arith) (λ e. omega arith) (λ e. omega arith)

pub pass_value-returns-in-105-clause-following : goal.pass_value-returns-in-105-clause-following
pass_value-returns-in-105-clause-following t c = λ u more h is. (over_integer c.read_int.result.1.now c.read_int.result.0 c.in-105.is c.following.ensures
    c.read_int.ensures.fits c.read_int.ensures.value u more h is).1

pub pass_value-returns-in_default-clause-following : goal.pass_value-returns-in_default-clause-following
pass_value-returns-in_default-clause-following t c = λ u more h is. (over_text c.args.bytes.now c.split_string.result.0.now
    (λ e. omega arith) (λ e. omega arith) (λ e. omega arith) c.split_string.ensures.short c.split_string.ensures.split u more h is).1

pub pass_value-skip_value-requires : goal.pass_value-skip_value-requires
pass_value-skip_value-requires t c = (omega arith, c.requires)

pub pass_value-skip_value-requires-in-100 : goal.pass_value-skip_value-requires-in-100
pass_value-skip_value-requires-in-100 t c = (omega arith, c.requires)
