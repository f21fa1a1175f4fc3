-- Text that grows at its end.
use Rattle.std.proofs.Common.{◌≡◌, ℕ, ◌+◌, ◌<◌, List, ◌∷◌, ◌++◌, length, get_or, drop, sym, ap, ◌∙◌}
use Rattle.std.proofs.lemmas.List.{append_assoc, drop_more}
use Rattle.bt_session.specs.declared.run.Connection.{Connection}
use Rattle.bt_link.specs.Shown.{connection_lines, connections_lines}

-- the next element is the first of those that are left
pub next_of : {X : Type 0} (xs : List X) (i : ℕ) (x : X) → i < length xs → x ≡ get_or xs i x → drop i xs ≡ x ∷ drop (i + 1) xs
next_of xs i x lt is = drop_more xs i x lt ∙ ap (λ y. y ∷ drop (i + 1) xs) (sym is)

-- ---- several parts

pub six : (t a n b m s w : List ℕ) → (((((t ++ a) ++ n) ++ b) ++ m) ++ s) ++ w ≡ t ++ (a ++ (n ++ (b ++ (m ++ (s ++ w)))))
six t a n b m s w = simp append_assoc

-- ---- connections

pub connections_more : (xs : List Connection) (i : ℕ) (x : Connection) (all text more : List ℕ) → i < length xs → x ≡ get_or xs i x → more ≡ text
    ++ connection_lines (i + 1) x
    → text ++ connections_lines (i + 1) (drop i xs) ≡ all → more ++ connections_lines (i + 1 + 1) (drop (i + 1) xs) ≡ all
connections_more xs i x all text more lt is grown h =
    let left = connections_lines (i + 1 + 1) (drop (i + 1) xs) in
    ap (λ (t : List ℕ). t ++ left) grown ∙ append_assoc text (connection_lines (i + 1) x) left
    ∙ ap (λ (l : List Connection). text ++ connections_lines (i + 1) l) (sym (next_of xs i x lt is)) ∙ h
