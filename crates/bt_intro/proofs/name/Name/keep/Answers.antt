use Rattle.std.proofs.Common.{◌≡◌, ◌∙◌, ℕ, List, [], ◌∷◌, length, take, ap, refl, true, false, arith}
use Rattle.std.specs.Prelude.{min, ◌==◌}
use Rattle.std.proofs.lemmas.List.{take_min}
use Rattle.bt_intro.specs.Names.{name_bytes, or_before}
use Rattle.bt_intro.proofs.name.Name.keep.Goals as goal

begun : (old name : List ℕ) → (name ≡ [] → ⊥) → take 240 name ≡ or_before old (take 240 name)
begun old [] h = absurd (h refl)
begun old (b ∷ bs) h = refl

kept : (old name bytes : List ℕ) (n : ℕ) → n ≡ min 240 (length name) → take n bytes ≡ take n name → (name ≡ [] → ⊥)
    → take n bytes ≡ or_before old (take 240 name)
kept old name bytes n e same h = same ∙ ap (λ (k : ℕ). take k name) e ∙ take_min 240 name ∙ begun old name h

pub returns : goal.returns
returns c =
    let full : (c.args.name.now ≡ [] → ⊥) = λ e.
    let yes : c.is_empty.result ≡ true = c.is_empty.ensures ∙ ap (λ (l : List ℕ). length l == 0) e in
    let no : c.is_empty.result ≡ false = c.if-is_empty.false in
    absurd cc in
    let size : c.min-length.result ≡ min 240 (length c.args.name.now) = omega (arith, c.min-length.ensures) in
    kept (name_bytes c.args.self.now) c.args.name.now c.front.result c.min-length.result size c.front.ensures full
