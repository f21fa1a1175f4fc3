-- What is kept of the ids between two ends.
use Rattle.std.specs.Prelude.{◌≡◌, ℕ, ◌-◌, ◌^◌, ◌<◌, ◌==◌, min, Bool, List, Option, Some, None, count_by, if◌then◌else◌}
use Rattle.std.specs.List.{AllByRecursion, list_any}
use Rattle.std.specs.Ordering.{nat_cmp}
use Rattle.std.specs.BTreeMap.{get}
use Rattle.bt_utp.specs.Near.{is_near, count_near}
use Rattle.bt_utp.specs.declared.ids.Ids.{Ids}

-- whether an id came once, and none near it
unfoldable pub is_alone : List ℕ → ℕ → Option Bool
is_alone ids k = if list_any (λ j. k == j) ids then Some (count_by (is_near k) ids == 1) else None

-- These ids came.
pub record AreIds (ids : List ℕ) (s : Ids) : Type 0 where
  pub small : AllByRecursion (λ k. k < 65536) ids
  pub alone : (k : ℕ) → get nat_cmp s.alone k ≡ is_alone ids k
  pub count : s.count ≡ min (count_near ids) (2 ^ 64 - 1)
