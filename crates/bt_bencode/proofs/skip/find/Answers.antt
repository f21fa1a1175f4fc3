use Rattle.std.proofs.Common.{◌≡◌, ◌∙◌, sym, true, false}
use Rattle.std.specs.Str.{bytes_eq}
use Rattle.bt_bencode.specs.Readable.{HasPairs}
use Rattle.bt_bencode.proofs.Heads.{key_there, value_after}
use Rattle.bt_bencode.proofs.Walk.{KeyInFront}
use Rattle.bt_bencode.proofs.Skips.{for_step, for_found, for_none}
use Rattle.bt_bencode.proofs.skip.find.Goals as goal

pub split_string-requires : goal.split_string-requires
split_string-requires c =
    let left = c.loop-rest.invariant c.requires.0 c.requires.1 c.requires.2 c.requires.3 in
    let pairs : HasPairs c.loop-rest.rest.now = (left.0, c.requires.1, left.1, left.2) in
    key_there c.loop-rest.rest.now pairs c.loop-rest-test.true

pub returns-then-eq : goal.returns-then-eq
returns-then-eq c = λ ps more h is.
    let front : KeyInFront c.loop-rest.rest.now c.split_string.result.0.now c.split_string.result.1.now = record {
      other = c.loop-rest-test.true;
      short = c.split_string.ensures.short;
      split = c.split_string.ensures.split;
    } in
    let same : bytes_eq c.split_string.result.0.now c.args.key.now ≡ true = sym c.eq.ensures ∙ c.if-eq.true in
    let f = for_found c.args.key.now ps more front same (c.loop-rest.invariant ps more h is) in
    (f.0, f.1, f.2, f.3, f.4)

pub pass_value-rest-requires : goal.pass_value-rest-requires
pass_value-rest-requires c =
    let left = c.loop-rest.invariant c.requires.0 c.requires.1 c.requires.2 c.requires.3 in
    let pairs : HasPairs c.loop-rest.rest.now = (left.0, c.requires.1, left.1, left.2) in
    value_after c.loop-rest.rest.now c.split_string.result.0.now c.split_string.result.1.now pairs c.loop-rest-test.true c.split_string.ensures.short
    c.split_string.ensures.split

pub loop-rest-preserved : goal.loop-rest-preserved
loop-rest-preserved c = λ ps more h is.
    let front : KeyInFront c.loop-rest.rest.now c.split_string.result.0.now c.split_string.result.1.now = record {
      other = c.loop-rest-test.true;
      short = c.split_string.ensures.short;
      split = c.split_string.ensures.split;
    } in
    let differs : bytes_eq c.split_string.result.0.now c.args.key.now ≡ false = sym c.eq.ensures ∙ c.if-eq.false in
    for_step c.args.key.now ps more front c.pass_value-rest.result.now differs c.pass_value-rest.ensures.following
    (c.loop-rest.invariant ps more h is)

pub returns : goal.returns
returns c = λ ps more h is. for_none c.args.key.now ps more c.loop-rest.rest.now c.loop-rest-test.false (c.loop-rest.invariant ps more h is)
