use Rattle.std.proofs.Common.{◌-◌, List, ℕ, subst, arith}
use Rattle.bt_bencode.specs.Words.{IsWord}
use Rattle.bt_bencode.proofs.Wording.{same_front, ends_decide, ends_same}
use Rattle.bt_bencode.proofs.sorted.is_above_by_halves.Goals as goal

pub returns-then-c-d : goal.returns-then-c-d
returns-then-c-d c =
    let last = c.args.last.now in
    let key = c.args.key.now in
    let front = same_front 4 last key _ _ c.half-a.ensures c.half-b.ensures (omega (arith, c.requires.low)) (omega (arith, c.requires.low)) c.if-a-b.false in
    ends_decide 4 last key c.requires.high c.requires.low front (c.shared_len-end.result - 4) (omega (arith, c.shared_len-end.ensures)) _ _
    (subst (λ (z : List ℕ). IsWord 4 z c.half-c.result) c.suffix.ensures c.half-c.ensures)
    (subst (λ (z : List ℕ). IsWord 4 z c.half-d.result) c.suffix-2.ensures c.half-d.ensures) c.if-c-d.true

pub returns : goal.returns
returns c =
    let last = c.args.last.now in
    let key = c.args.key.now in
    let front = same_front 4 last key _ _ c.half-a.ensures c.half-b.ensures (omega (arith, c.requires.low)) (omega (arith, c.requires.low)) c.if-a-b.false in
    ends_same 4 last key c.requires.high c.requires.low front (c.shared_len-end.result - 4) (omega (arith, c.shared_len-end.ensures)) _ _
    (subst (λ (z : List ℕ). IsWord 4 z c.half-c.result) c.suffix.ensures c.half-c.ensures)
    (subst (λ (z : List ℕ). IsWord 4 z c.half-d.result) c.suffix-2.ensures c.half-d.ensures) c.if-c-d.false
