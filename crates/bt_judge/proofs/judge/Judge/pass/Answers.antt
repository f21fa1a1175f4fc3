use Rattle.std.proofs.Common.{◌≡◌, ◌∙◌, ◌+◌, ◌-◌, ℕ, List, [], ◌∷◌, ◌++◌, MatchResult, refl, sym, ap, subst, arith}
use Rattle.std.specs.Prelude.{replicate}
use Rattle.std.proofs.lemmas.List.{append-nil, append_assoc, replicate_more}
use Rattle.bt_ext.specs.declared.ids.Rules.TheVariants.{Free}
use Rattle.bt_wire.specs.declared.item.Item.{Item}
use Rattle.bt_feed.specs.Pumps.{Took}
use Rattle.bt_judge.specs.Judges.{under, AreJudged, IsStopped}
use Rattle.bt_judge.specs.Readings.{BeginsWith}
use Rattle.bt_judge.proofs.judge.Judge.pass.Goals as goal

pub returns-then-n-eq0-clause-judged : goal.returns-then-n-eq0-clause-judged
returns-then-n-eq0-clause-judged g c = λ own b xs ys j.
    let judge = c.args.self.now in
    let bytes : b ≡ b ++ replicate c.args.n 0 = sym (append-nil b) ∙ ap (λ (n : ℕ). b ++ replicate n 0) (sym c.if-n-eq0.true) in
    let P : List ℕ → List (ℕ × Item) → List (ℕ × Item) → Type 0 = λ l zs ws. AreJudged own l zs ws judge in
    let all = subst (λ (l : List ℕ). P l xs ys) bytes j in
    let free = subst (λ (zs : List (ℕ × Item)). P (b ++ replicate c.args.n 0) zs ys) (sym (append-nil xs)) all in
    ([], (refl, ([], subst (λ (ws : List (ℕ × Item)). P (b ++ replicate c.args.n 0) (xs ++ []) ws) (sym (append-nil ys)) free)))

pub returns-clause-judged : goal.returns-clause-judged
returns-clause-judged g c = λ own b xs ys j.
    let n = c.args.n in
    let count : n - 1 + 1 ≡ n = omega arith in
    let bytes : (b ++ replicate (n - 1) 0) ++ 0 ∷ [] ≡ b ++ replicate n 0 = append_assoc b (replicate (n - 1) 0) (0 ∷ [])
    ∙ ap (λ (l : List ℕ). b ++ l) (replicate_more (n - 1) 0 ∙ ap (λ (k : ℕ). replicate k 0) count) in
    let S = g.S.Sink in
    let sink = c.args.sink.now in
    let P : List ℕ → Type 0 = λ l.
    (more : List (ℕ × Item)) × MatchResult c.take.result (λ _. Took S.takes sink more c.take.new.sink × ((strict : List (ℕ × Item))
    × AreJudged own l (xs ++ more) (ys ++ strict) c.take.new.self)) (λ e. IsStopped S.takes S.misses e sink more c.take.new.sink
    × BeginsWith (under Free own) l (xs ++ more)) in
    subst P bytes (c.take.ensures.judged own (b ++ replicate (n - 1) 0) xs ys (c.fill.ensures own b xs ys j))
