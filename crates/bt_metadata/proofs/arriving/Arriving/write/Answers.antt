use Rattle.std.proofs.Common.{◌≡◌, ℕ, ◌+◌, ◌-◌, ◌≤◌, ◌++◌, List, length, replicate, ap, ◌∙◌, arith, length-append}
use Rattle.std.proofs.lemmas.List.{length-replicate}
use Rattle.bt_metadata.specs.Arrivals.{Arrival, padded}
use Rattle.bt_metadata.proofs.Slots.{paste}
use Rattle.bt_metadata.proofs.Padded.{length-padded, padded-longer, padded-paste}
use Rattle.bt_metadata.proofs.arriving.Arriving.write.Goals as goal

-- first lengthened, then written
written : (size at : ℕ) (d l new b : List ℕ) → length d ≤ size → at + length b ≤ size → l ≡ d ++ replicate (at - length d) 0 → new ≡ paste l at b
    → padded size new ≡ paste (padded size d) at b
written size at d l new b h f e s =
    let n : length l ≡ length d + (at - length d) = ap length e ∙ length-append d (replicate (at - length d) 0)
    ∙ ap (λ k. length d + k) (length-replicate {A = ℕ} (at - length d) 0) in
    ap (padded size) s ∙ padded-paste size at l b (omega (arith, n)) f
    ∙ ap (λ x. paste x at b) (ap (padded size) e ∙ padded-longer size at d h (omega arith))

pub returns-clause-whole : goal.returns-clause-whole
returns-clause-whole g c =
    let d = c.self.inside.bytes.items in
    let size = c.self.inside.size in
    let at = c.args.at in
    let b = c.args.block.now in
    let len = c.self.inside.bytes.ok.0 in
    let v = ap (λ (a : Arrival). a.whole) c.self.view_is in
    let h : length d ≤ size = omega (arith, len, c.self.invariant.0) in
    let f : at + length b ≤ size = omega (arith, c.requires, ap length v, length-padded size d h) in
    written size at d c.lengthen.new.bytes.items c.store.new.bytes.items b h f (c.lengthen.ensures.items ∙ ap (λ k. d ++ replicate (at - k) 0) len)
    c.store.ensures.items ∙ ap (λ x. paste x at b) v
