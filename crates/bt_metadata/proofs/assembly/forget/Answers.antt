use Rattle.std.proofs.Common.{◌≡◌, ℕ, zero, suc, ◌+◌, ◌<◌, ◌++◌, List, [], ◌∷◌, length, map, take, drop, set, get_or, refl, ap, ◌∙◌, arith}
use Rattle.bt_metadata.specs.declared.assembly.Status.{Status}
use Rattle.bt_metadata.specs.declared.assembly.Status.TheVariants.{Lacking}
use Rattle.bt_metadata.specs.Sound.{kept_status}
use Rattle.bt_metadata.proofs.assembly.forget.Goals as goal

-- what a turn makes of a list whose front is done
turned : (f : Status → Status) (xs : List Status) (i : ℕ) → i < length xs →
    set (map f (take i xs) ++ drop i xs) i (f (get_or (map f (take i xs) ++ drop i xs) i Lacking)) ≡ map f (take (i + 1) xs) ++ drop (i + 1) xs
turned f [] i h = absurd (omega arith)
turned f (x ∷ xs) zero h = refl
turned f (x ∷ xs) (suc i) h = let e : suc i + 1 ≡ suc (i + 1) = omega arith in rw e (ap (λ t. f x ∷ t) (turned f xs i (omega arith)))

pub loop-state-preserved : goal.loop-state-preserved
loop-state-preserved c =
    let xs = c.args.states.now in
    let i = c.loop-state.state-index in
    let step = λ (ss : List Status). set ss i (kept_status (get_or ss i Lacking)) in
    ap (set c.loop-state.states i) c.kept.ensures ∙ ap step c.loop-state.invariant ∙ turned kept_status xs i c.loop-state-test.true
