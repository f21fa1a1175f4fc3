use Rattle.std.proofs.Common.{◌-◌, List, ℕ, subst, arith}
use Rattle.bt_bencode.specs.Words.{IsWord}
use Rattle.bt_bencode.proofs.Wording.{same_front, ends_decide, ends_same}
use Rattle.bt_bencode.proofs.sorted.is_above_by_words.Goals as goal

pub returns-then-c-d : goal.returns-then-c-d
returns-then-c-d c =
    let last = c.args.last.now in
    let key = c.args.key.now in
    let front = same_front 8 last key _ _ c.word-a.ensures c.word-b.ensures (omega (arith, c.requires.low)) (omega (arith, c.requires.low)) c.if-a-b.false in
    ends_decide 8 last key c.requires.high c.requires.low front (c.shared_len-end.result - 8) (omega (arith, c.shared_len-end.ensures)) _ _
    (subst (λ (z : List ℕ). IsWord 8 z c.word-c.result) c.suffix.ensures c.word-c.ensures)
    (subst (λ (z : List ℕ). IsWord 8 z c.word-d.result) c.suffix-2.ensures c.word-d.ensures) c.if-c-d.true

pub returns : goal.returns
returns c =
    let last = c.args.last.now in
    let key = c.args.key.now in
    let front = same_front 8 last key _ _ c.word-a.ensures c.word-b.ensures (omega (arith, c.requires.low)) (omega (arith, c.requires.low)) c.if-a-b.false in
    ends_same 8 last key c.requires.high c.requires.low front (c.shared_len-end.result - 8) (omega (arith, c.shared_len-end.ensures)) _ _
    (subst (λ (z : List ℕ). IsWord 8 z c.word-c.result) c.suffix.ensures c.word-c.ensures)
    (subst (λ (z : List ℕ). IsWord 8 z c.word-d.result) c.suffix-2.ensures c.word-d.ensures) c.if-c-d.false
