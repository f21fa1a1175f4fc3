-- The first row that counts.
use Rattle.std.proofs.Common.{◌≡◌, Bool, true, false, cond, List, [], ◌∷◌, Option, Some, None, refl, ◌∙◌}
use Rattle.std.proofs.lemmas.Bool.{cond-false}
use Rattle.bt_wire.specs.declared.fault.Refused.{Refused}
use Rattle.bt_wire.specs.Tables.{Row, counts, first_fault}

-- no row counts
abbrev pub NoneCounts : List Row → Type 0
NoneCounts [] = Unit {0}
NoneCounts (r ∷ rs) = (counts r ≡ false) × NoneCounts rs

none_by : (b : Bool) (f : Refused) (o : Option Refused) → cond b (Some f) o ≡ None → (b ≡ false) × (o ≡ None)
none_by true f o e = absurd cc
none_by false f o e = (refl, e)

pub NoneCounts-from : (rs : List Row) → first_fault rs ≡ None → NoneCounts rs
NoneCounts-from [] e = tt
NoneCounts-from (r ∷ rs) e =
    let both = none_by (counts r) r.found (first_fault rs) e in
    (both.0, NoneCounts-from rs both.1)

pub first_fault-none : (rs : List Row) → NoneCounts rs → first_fault rs ≡ None
first_fault-none [] q = refl
first_fault-none (r ∷ rs) q = cond-false (counts r) (Some r.found) (first_fault rs) q.0 ∙ first_fault-none rs q.1
