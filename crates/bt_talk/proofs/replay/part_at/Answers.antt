use Rattle.std.proofs.Common.{◌≡◌, ◌∙◌, ◌++◌, ◌-◌, ℕ, List, min, drop, take, length, sym, ap, arith}
use Rattle.std.proofs.lemmas.List.{take-append-drop}
use Rattle.bt_talk.proofs.Cuts.{drop_first, take_most}
use Rattle.bt_talk.proofs.replay.part_at.Goals as goal

pub returns-in-Some-clause-parted : goal.returns-in-Some-clause-parted
returns-in-Some-clause-parted c = λ out e.
    let n = c.in-Some.cut.length in
    let start = c.args.start in
    let bytes = c.args.bytes.now in
    let before = c.split_at.result.0.now in
    let count : c.min-count.result ≡ min (n - start) (length bytes) = omega (arith, c.min-count.ensures, c.saturating_sub.ensures) in
    let parts : bytes ≡ before ++ c.split_at.result.1.now =
    sym (take-append-drop c.min-count.result bytes) ∙ ap (λ (l : List ℕ). l ++ drop c.min-count.result bytes) (sym c.split_at.ensures.front)
    ∙ ap (λ (l : List ℕ). before ++ l) (sym c.split_at.ensures.back) in (
      c.split_at.ensures.front ∙ ap (λ (k : ℕ). take k bytes) count ∙ take_most (n - start) bytes ∙ ap (λ (l : List ℕ). take (n - start) l) e
          ∙ sym (drop_first start n out),
      sym e ∙ parts,
    )
