use Rattle.std.proofs.Common.{List, ◌≡◌, ℕ, ◌+◌, ap, ◌∙◌, vec_len, option_map, unwrap_or, Some, arith}
use Rattle.std.specs.Ordering.{nat_cmp}
use Rattle.std.specs.BTreeMap.{is_at}
use Rattle.std.specs.List.{sum_by}
use Rattle.std.specs.Map.{lookup, values_of, remove_entry}
use Rattle.std.proofs.lemmas.Map.Entries.{sum_by-remove_entry}
use Rattle.std.proofs.lemmas.Grind.{common_steps}
use Rattle.bt_order.specs.declared.held.Part.{Part}
use Rattle.bt_order.proofs.held.Held.remove.Goals as goal

abbrev weight : Part → ℕ
weight p = vec_len p.bytes + 64

-- what is left weighs less by what went
lighter : (m n : List (ℕ × Part)) (k : ℕ) (p : Part) → Some p ≡ lookup (is_at (nat_cmp k)) m → n ≡ remove_entry (is_at (nat_cmp k)) m
    → sum_by weight (values_of n) + weight p ≡ sum_by weight (values_of m)
lighter m n k p is gone =
    ap (λ l. sum_by weight (values_of l) + weight p) gone
    ∙ ap (λ o. sum_by weight (values_of (remove_entry (is_at (nat_cmp k)) m)) + unwrap_or (option_map weight o) 0) is
    ∙ sum_by-remove_entry weight (is_at (nat_cmp k)) m

pub overflow_sub-self : goal.overflow_sub-self
overflow_sub-self c =
    let e = c.in_ok-part.ensures in
    let l = lighter c.args.self.now.parts.entries c.remove.new.self.entries c.args.index c.in_ok-part.part e.value e.entries in
    omega (arith, l, c.len.ensures, c.args.self.now.counts)

pub invariant_of-self-2 : goal.invariant_of-self-2
invariant_of-self-2 c =
    let e = c.in_ok-part.ensures in
    let l = lighter c.args.self.now.parts.entries c.remove.new.self.entries c.args.index c.in_ok-part.part e.value e.entries in
    record {
      counts = omega (arith, l, c.len.ensures, c.args.self.now.counts);
      bound = omega arith;
      below = λ i h. grind (arith, common_steps, c.args.self.now.below i h, c.in_ok-part.ensures.updates.0 i);
    }

pub returns-clause-counted : goal.returns-clause-counted
returns-clause-counted c =
    let e = c.in_ok-part.ensures in
    let l = lighter c.args.self.now.parts.entries c.remove.new.self.entries c.args.index c.in_ok-part.part e.value e.entries in
    omega (arith, l, c.len.ensures, c.args.self.now.counts)
