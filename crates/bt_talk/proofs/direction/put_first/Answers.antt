use Rattle.std.proofs.Common.{◌≡◌, ℕ, ◌+◌, ◌-◌, Bool, List, [], ◌++◌, if◌then◌else◌, length, length-append, take, drop, sym, ap, subst, ◌∙◌, arith}
use Rattle.std.proofs.lemmas.Grind.{common_steps}
use Rattle.bt_talk.proofs.direction.put_first.Goals as goal

-- After the turn the last `k` bytes come first.
turned : (later fresh xs ys : List ℕ) (n k : ℕ) → xs ≡ later ++ fresh → k ≡ length fresh → n ≡ length xs → ys ≡ drop (n - k) xs ++ take (n - k) xs
    → ys ≡ fresh ++ later
turned later fresh xs ys n k e l m t =
    let w : length xs ≡ length later + length fresh = ap length e ∙ length-append later fresh in
    let s : n - k ≡ length later = omega (arith, w, l, m) in
    let front : drop (n - k) xs ≡ fresh = grind (arith, common_steps) in
    let back : take (n - k) xs ≡ later = grind (arith, common_steps) in
    t ∙ ap (λ x. x ++ take (n - k) xs) front ∙ ap (λ x. fresh ++ x) back

pub returns : goal.returns
returns c =
    let fresh = c.args.fresh.now in
    let later = c.args.out.now.items in
    let new : c.rotate_right.new.self.items ≡ fresh ++ later = turned later fresh c.extend_from_slice.new.self.items c.rotate_right.new.self.items _
    (length fresh) c.in_ok-extend_from_slice.ensures.items (λ i. length fresh)
    (omega (arith, c.extend_from_slice.new.self.ok.0)) c.rotate_right.ensures.items in
    subst (λ (w : Bool). c.rotate_right.new.self.items ≡ (if w then fresh ++ later else [])) (sym c.if-not-is_wanted.false) new
