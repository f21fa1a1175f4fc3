use Rattle.std.proofs.Common.{◌≡◌, ℕ, length, Option, Some, arith, List, [], ◌∷◌, refl}
use Rattle.std.specs.Option.{IsSome, option_map}
use Rattle.std.specs.Ordering.{nat_cmp}
use Rattle.std.specs.Map.{lookup}
use Rattle.std.specs.BTreeMap.{is_at}
use Rattle.std.proofs.lemmas.Grind.{common_steps}
use Rattle.bt_order.specs.declared.held.Part.{Part}
use Rattle.bt_order.specs.Held.{packet_of}
use Rattle.bt_order.proofs.held.Held.is_empty.Goals as goal

first : (es : List (ℕ × Part)) → (length es ≡ 0 → ⊥) → (k : ℕ) × (v : Part) × (lookup (is_at (nat_cmp k)) es ≡ Some v)
first [] h = absurd (h refl)
first (e ∷ es) h = (e.0, e.1, grind (arith, common_steps))

some_held : (k : ℕ) (v : Part) (o : Option Part) → o ≡ Some v → IsSome (option_map (packet_of k) o)
some_held k v o h = grind (arith, common_steps)

pub returns-clause-some : goal.returns-clause-some
returns-clause-some c f =
    let m = c.args.self.now.parts in
    let there = first m.entries (λ h. let t = c.is_empty.ensures.1 h in cc) in
    (there.0, some_held there.0 there.1 _ there.2)
