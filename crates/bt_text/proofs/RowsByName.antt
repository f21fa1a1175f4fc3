-- An id and what is known about it are the row's.
use Rattle.std.proofs.Common.{◌≡◌, ℕ, Option, Some, None, refl, sym}
use Rattle.std.specs.Prelude.{option_map}
use Rattle.std.proofs.lemmas.Option.{same_Some, none-some}
use Rattle.bt_wire.specs.Ids.{Id}
use Rattle.bt_wire.specs.declared.ids.Kind.{Kind}
use Rattle.bt_wire.specs.declared.ids.Shape.{Shape}

pub row_by : (o : Option Id) (id : ℕ) (k : Kind) → Some id ≡ option_map (λ (i : Id). i.number) o → Some k ≡ option_map (λ (i : Id). i.kind) o
    → ◌≡◌ {A = Option (ℕ × Shape)} (Some (id, k.shape)) (option_map (λ (i : Id). (i.number, i.kind.shape)) o)
row_by None id k n h = absurd (none-some _ (sym n))
row_by (Some i) id k n h =
    let e = same_Some _ _ n in
    let f = same_Some _ _ h in
    rw (e, f) refl
