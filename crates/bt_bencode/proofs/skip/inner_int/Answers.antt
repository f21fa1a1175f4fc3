use Rattle.std.proofs.Common.{◌∙◌}
use Rattle.bt_bencode.specs.Readable.{HasPairs}
use Rattle.bt_bencode.proofs.Heads.{nonempty, pairs_there}
use Rattle.bt_bencode.proofs.Walk.{dictionary_at}
use Rattle.bt_bencode.proofs.skip.inner_int.Goals as goal

pub bounds-value-0 : goal.bounds-value-0
bounds-value-0 c = nonempty c.args.value.now c.requires

pub find-requires : goal.find-requires
find-requires c = rw c.following.ensures (pairs_there c.args.value.now c.requires c.if-value-ne100.false)

pub int_in-requires : goal.int_in-requires
int_in-requires c =
    let p : HasPairs c.following.result.now = rw c.following.ensures (pairs_there c.args.value.now c.requires c.if-value-ne100.false) in
    let f = c.in-Some.ensures p.0 p.1 p.2 p.3 in
    (f.0, f.1, f.3, f.4)

pub returns-in-Some : goal.returns-in-Some
returns-in-Some c = λ t more h is.
    let w = dictionary_at c.args.value.now t more c.if-value-ne100.false h is in
    let f = c.in-Some.ensures w.0 more w.2 (c.following.ensures ∙ w.3) in
    rw (w.1, f.2) (c.int_in.ensures f.0 f.1 f.3 f.4)
