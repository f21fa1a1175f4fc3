use Rattle.bt_bencode.proofs.Heads.{nonempty}
use Rattle.bt_bencode.proofs.Lookups.{pairs_at, pairs_found}
use Rattle.bt_bencode.proofs.pairs.pairs_in.Goals as goal

pub bounds-value-0 : goal.bounds-value-0
bounds-value-0 c = nonempty c.args.value.now c.requires

pub invariant_of-result : goal.invariant_of-result
invariant_of-result c =
    let r = c.requires in
    let p = pairs_at c.args.value.now c.following.result.now r.0 r.1 c.if-value-ne100.false c.following.ensures r.2 r.3 in
    ((p.0, p.2), tt)

pub returns : goal.returns
returns c = λ t more h is. pairs_found c.args.value.now c.following.result.now _ t more c.if-value-ne100.false c.following.ensures c.result-1.given.0.1 h is
