use Rattle.std.proofs.Common.{◌≡◌, ◌-◌, ℕ, List, length, take, drop, sym, ap, ◌∙◌, arith, length-drop}
use Rattle.std.proofs.lemmas.List.{take_all}
use Rattle.std.specs.Cmp.Lexicographic.{same_text}
use Rattle.bt_torrent.proofs.file.place_of.Goals as goal

pub returns-then-eq-clause-found : goal.returns-then-eq-clause-found
returns-then-eq-clause-found c =
    let rest = drop c.loop-at.at c.args.bytes.now in
    let n = length c.args.bytes.now - c.loop-at.at in
    let all : take n rest ≡ rest = take_all n rest (omega (arith, length-drop c.loop-at.at c.args.bytes.now)) in
    sym (ap (λ (l : List ℕ). take (length c.args.part.now) l) all)
    ∙ same_text (take (length c.args.part.now) (take n rest)) c.args.part.now (sym c.if-eq.true ∙ c.eq.ensures)
