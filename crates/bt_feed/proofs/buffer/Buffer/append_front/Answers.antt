use Rattle.std.proofs.Common.{rules, ◌≡◌, ◌≤◌, ◌+◌, ◌++◌, ℕ, List, length, take, drop, ap, ◌∙◌, arith}
use Rattle.std.proofs.lemmas.List.{length-take-le, take-take}
use Rattle.bt_feed.specs.Buffers.{Room}
use Rattle.bt_feed.proofs.Lent.{lent}
use Rattle.bt_feed.proofs.buffer.Buffer.append_front.Goals as goal

pub returns-then-len-self-ge-FEW-clause-items : goal.returns-then-len-self-ge-FEW-clause-items
returns-then-len-self-ge-FEW-clause-items g c =
    let size = c.self.inside.size in
    let n = c.args.count in
    let len = c.self.inside.bytes.len in
    let from = c.as_mut_slice.result.now in
    let chunk = c.args.chunk.now in
    let few = take 32 chunk in
    let tail = drop (length c.copy_few.new.into) c.self.inside.bytes.items in
    let there : size ≤ length from = omega (arith, c.self.invariant, c.as_mut_slice.ensures.len) in
    let short : n ≤ 32 = c.if-count-le-FEW.true in
    let long : 32 ≤ length chunk = c.if-chunk-ge-FEW.true in
    let within : size + n ≤ len = search rules in
    let front : n ≤ length few = omega (arith, short, length-take-le 32 chunk long) in
    ap (λ (x : List ℕ). take (size + n) (take len (x ++ tail))) c.copy_few.ensures
    ∙ lent size n len (take size from) few (drop (size + 32) from) tail (length-take-le size from there) front within
    ∙ ap (λ (x : List ℕ). take size from ++ x) (take-take n 32 chunk short)
    ∙ ap (λ (x : List ℕ). x ++ take n chunk) (ap (take size) c.as_mut_slice.ensures.value ∙ ap (λ (r : Room). r.items) c.self.view_is)
