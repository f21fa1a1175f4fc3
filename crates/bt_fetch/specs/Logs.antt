-- What a fetch from many peers does with its device, in order.
use Rattle.std.specs.Prelude.{◌≡◌, ◌==◌, ℕ, ◌≤◌, ◌<◌, Bool, true, false, if◌then◌else◌, List, ◌++◌, fold, count_by, Option, Some, None, Result, Ok, Err, ⊤}
use Rattle.bt_fetch.specs.declared.device.Outcome.{Outcome}
use Rattle.bt_fetch.specs.declared.device.Outcome.TheVariants.{Fetched}
use Rattle.bt_fetch.specs.declared.file.FetchError.{FetchError}
use Rattle.bt_fetch.specs.declared.file.FetchError.TheVariants.{NotFetched, Write, Memory}
use Rattle.bt_fetch.specs.declared.device.Ending.TheVariants.{By, Left}
use Rattle.bt_fetch.specs.declared.device.Happening.{Happening}
use Rattle.bt_fetch.specs.declared.device.Happening.TheVariants.{Dialled, Ended}

-- the list is known, and these come after it; or nothing is known
abbrev pub AddsAll : {A : Type 0} → Option (List A) → Option (List A) → List A → Type 0
AddsAll None new zs = ⊤
AddsAll (Some xs) None zs = ⊥
AddsAll (Some xs) (Some ys) zs = ys ≡ xs ++ zs

-- the address of this number was dialled
abbrev pub is_dial : ℕ → Happening → Bool
is_dial k (Dialled address) = address == k
is_dial k (Ended address ending) = false

-- No peer has given the metadata yet; or one has, and each connection that ended since was left. All else is wrong: a peer gives the
-- metadata after another, or an address is dialled after that.
pub data Stage : Type 0 where
  Going : Stage
  Won : Stage
  Wrong : Stage

abbrev pub is_fetched : Outcome → Bool
is_fetched Fetched = true
is_fetched other = false

abbrev pub stage_after : Stage → Happening → Stage
stage_after Going (Ended address (By outcome)) = if is_fetched outcome then Won else Going
stage_after Going other = Going
stage_after Won (Ended address Left) = Won
stage_after Won other = Wrong
stage_after Wrong other = Wrong

abbrev pub stage_of : List Happening → Stage
stage_of zs = fold stage_after Going zs

-- what has happened so far: each address was dialled so often, and the fetch is at this stage
pub record IsCourse (s : Stage) (old new : Option (List Happening)) (dials : ℕ → ℕ) : Type 0 where
  pub happened : List Happening
  pub added : AddsAll old new happened
  pub counts : (k : ℕ) → count_by (is_dial k) happened ≡ dials k
  pub stage : stage_of happened ≡ s

-- the stage at which a fetch with this answer ends; out of memory it may be either
abbrev pub IsStage : Result ℕ FetchError → Stage → Type 0
IsStage (Ok n) s = s ≡ Won
IsStage (Err Write) s = s ≡ Won
IsStage (Err NotFetched) s = s ≡ Going
IsStage (Err Memory) s = ⊤

-- Each of these addresses was dialled twice at most, and no other. A fetch that has the metadata has dialled none since, and has left
-- all other connections. One that hasn't has dialled each.
pub record IsLogged (addresses : ℕ) (old new : Option (List Happening)) (r : Result ℕ FetchError) : Type 0 where
  pub happened : List Happening
  pub added : AddsAll old new happened
  pub twice : (k : ℕ) → count_by (is_dial k) happened ≤ 2
  pub none : (k : ℕ) → addresses ≤ k → count_by (is_dial k) happened ≡ 0
  pub each : r ≡ Err NotFetched → (k : ℕ) → k < addresses → 1 ≤ count_by (is_dial k) happened
  pub stage : IsStage r (stage_of happened)
