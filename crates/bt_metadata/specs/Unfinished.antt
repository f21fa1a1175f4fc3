-- Why an assembly can't be finished.
use Rattle.std.specs.Prelude.{◌≡◌, true, false}
use Rattle.bt_metadata.specs.Assemblies.{AssemblyState, is_whole, IsRight, emptied}
use Rattle.bt_metadata.specs.declared.assembly.Unfinished.{Unfinished}
use Rattle.bt_metadata.specs.declared.assembly.Unfinished.TheVariants.{Lacking, Mismatch}

-- a block isn't held, and all stays; or each is, but the SHA-1 is another, and all starts over
abbrev pub IsUnfinished : {A : Type 0} → AssemblyState → Unfinished A → Type 0
IsUnfinished a (Lacking b) = (is_whole a ≡ false) × (b ≡ a)
IsUnfinished a (Mismatch b) = (is_whole a ≡ true) × (¬ IsRight a) × (b ≡ emptied a)
