-- What a peer's messages make of a fetch: what is progress, and what another size does (BEP 9, BEP 10).
use Rattle.std.specs.Prelude.{◌≡◌, ◌==◌, ◌-◌, ◌||◌, nat_lt, ℕ, Bool, true, false, not, Option, Some, None}
use Rattle.bt_metadata.specs.Assemblies.{AssemblyState}
use Rattle.bt_end.specs.Ends.{anew, progress_of, restarted, spelled}
use Rattle.bt_end.specs.Halves.{HalfState}
use Rattle.bt_end.specs.declared.event.Event.{Event}
use Rattle.bt_end.specs.declared.event.Event.TheVariants as event
use Rattle.bt_end.specs.declared.part.Progress.{Progress}

-- The end fetches metadata of this size from the start, whatever it held. The requests of this fetch are all that waits to be sent: a
-- request that was queued for another size is never sent.
pub record IsAnew (old : HalfState) (size : ℕ) (new : HalfState) : Type 0 where
  pub assembly : AssemblyState
  pub begins : anew old.end.handshake.info_hash old.end.part size ≡ Some assembly
  pub end : new.end ≡ (restarted old.end assembly).end
  pub outbox : new.outbox ≡ spelled (restarted old.end assembly).end (restarted old.end assembly).queued

-- the fetch began anew with this size, or nothing changed
abbrev pub IsTried : HalfState → ℕ → Bool → HalfState → Type 0
IsTried old size true new = IsAnew old size new
IsTried old size false new = new ≡ old

-- the end fetches metadata of another size than this
abbrev pub is_of_other : Option ℕ → Option Progress → Bool
is_of_other (Some size) (Some p) = not (size == p.size)
is_of_other size p = false

-- the fetch began anew with the size that the peer announced; or nothing changed
abbrev pub IsRestarted : HalfState → Option ℕ → Bool → HalfState → Type 0
IsRestarted old (Some size) true new = IsAnew old size new × (is_of_other (Some size) (progress_of old.end.part) ≡ true)
IsRestarted old None true new = ⊥
IsRestarted old size false new = new ≡ old

-- ---- progress

-- The peer's handshake; an extended handshake with which a fetch begins, or begins anew with another size; and each requested block that
-- comes or is rejected. Nothing else is progress: a connection over which nothing else comes is one whose peer is silent.
abbrev pub is_progress : Event → (is_anew : Bool) → Bool
is_progress (event.Opened h) is_anew = true
is_progress (event.Announced id size begins) is_anew = begins || is_anew
is_progress (event.Block k) is_anew = true
is_progress (event.Rejected k) is_anew = true
is_progress event.Fetched is_anew = true
is_progress event.Mismatched is_anew = true
is_progress e is_anew = false

-- for more than half a second, by a clock of milliseconds, there was no progress
abbrev pub is_late : (heard time : ℕ) → Bool
is_late heard time = nat_lt 500 (time - heard)
