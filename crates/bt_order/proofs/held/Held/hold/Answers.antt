use Rattle.std.proofs.Common.{◌≡◌, ℕ, ◌+◌, ap, sym, ◌∙◌, List, vec_len, option_map, unwrap_or, is_some, false, Option, arith}
use Rattle.std.specs.Cmp.{nat_cmp_total}
use Rattle.std.specs.BTreeMap.{is_at, insert_entry}
use Rattle.std.specs.List.{sum_by}
use Rattle.std.specs.List.Sorted.{IsStrictlySortedBy}
use Rattle.std.specs.Map.{lookup, keys_of, values_of}
use Rattle.std.specs.Ordering.{nat_cmp}
use Rattle.std.proofs.lemmas.Map.Entries.{sum_by-insert_entry}
use Rattle.std.proofs.lemmas.Grind.{common_steps}
use Rattle.bt_order.specs.declared.held.Part.{Part}
use Rattle.bt_order.proofs.held.Held.hold.Goals as goal

abbrev weight : Part → ℕ
weight p = vec_len p.bytes + 64

none_is : (o : Option Part) → is_some o ≡ false → unwrap_or (option_map weight o) 0 ≡ 0
none_is o h = grind (arith, common_steps)

-- what is there weighs more by what comes
heavier : (m n : List (ℕ × Part)) (k : ℕ) (v : Part) → IsStrictlySortedBy nat_cmp (keys_of m) → is_some (lookup (is_at (nat_cmp k)) m) ≡ false
    → n ≡ insert_entry nat_cmp m k v → sum_by weight (values_of n) ≡ sum_by weight (values_of m) + weight v
heavier m n k v sorted absent is =
    let one : sum_by weight (values_of n) ≡ sum_by weight (values_of (insert_entry nat_cmp m k v)) = ap (λ l. sum_by weight (values_of l)) is in
    let none = none_is (lookup (is_at (nat_cmp k)) m) absent in
    omega (arith, one, none, sum_by-insert_entry weight nat_cmp_total m k v sorted)

pub invariant_of-self-2 : goal.invariant_of-self-2
invariant_of-self-2 c =
    let m = c.args.self.now.parts in
    let e = c.in_ok-insert.ensures in
    let sums = heavier m.entries c.insert.new.self.entries c.args.index
    (record { is_fin = c.args.payload.now.is_fin; bytes = c.extend_from_slice.new.self; size = c.args.payload.now.size }) e.was_ordered
    (sym c.contains_key.ensures ∙ c.if-contains_key.false) e.entries in
    record {
      counts = omega (arith, sums, c.args.self.now.counts, c.in_ok-extend_from_slice.ensures.len, c.in_ok-bytes.ensures.len);
      bound = omega arith;
      below = λ i h. grind (arith, common_steps, c.args.self.now.below i h, e.updates.0 i);
    }
