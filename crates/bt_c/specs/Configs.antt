-- What an end is made of, by a struct of C.
use Rattle.std.specs.Prelude.{◌≡◌, ◌==◌, nat_lt, nat_le, ◌&&◌, false, ℕ, Bool, List, [], length, Option, Some, None, is_none, unwrap_or, if◌then◌else◌}
use Rattle.bt_metadata.specs.Blocks.{window, max_metadata}
use Rattle.bt_end.specs.Configs.{part_for, is_bad_role, is_bad_limit, is_bad_size}
use Rattle.bt_end.specs.Ends.{EndState, Part, Watching, Serving, Awaiting, unopened}
use Rattle.bt_end.specs.declared.config.Announce.{Announce}
use Rattle.bt_end.specs.declared.config.Announce.TheVariants.{Silent, All, Nothing}
use Rattle.bt_end.specs.declared.config.Config.{Config}
use Rattle.bt_end.specs.declared.config.Role.{Role}
use Rattle.bt_c.specs.Readers.{own_of}
use Rattle.bt_c.specs.declared.config.BtEndConfig.{BtEndConfig}

abbrev pub announce_by : ℕ → Announce
announce_by n = if n == 1 then All else (if n == 2 then Nothing else Silent)

abbrev pub window_by : ℕ → ℕ
window_by n = if nat_lt 0 n && nat_le n window then n else window

-- the greatest size that it fetches
abbrev pub most_by : ℕ → ℕ
most_by most = if most == 0 then max_metadata else most

-- what it does with metadata: 1 serves it, 2 fetches it
abbrev pub part_by : ℕ → ℕ → List ℕ → Part
part_by role most metadata = if role == 1 then Serving metadata else (if role == 2 then Awaiting (most_by most) else Watching)

abbrev pub is_bad_by : ℕ → List ℕ → Bool
is_bad_by role metadata = if role == 1 then is_bad_size (length metadata) else false

abbrev pub IsRoleOf : {A : Type 0} → ℕ → ℕ → List ℕ → Role A → Type 0
IsRoleOf n most metadata r = (part_for r ≡ part_by n most metadata) × (is_bad_role r ≡ is_bad_by n metadata)

pub record IsConfigOf {A : Type 0} (c : BtEndConfig) (metadata : List ℕ) (k : Config A) : Type 0 where
  pub own : k.own ≡ own_of c.own
  pub peer_id : k.peer_id ≡ c.peer_id
  pub announce : k.announce ≡ announce_by c.announce
  pub window : k.window ≡ window_by c.window
  pub role : IsRoleOf c.role c.most metadata k.role

-- the end before its first connection
abbrev pub end_by : BtEndConfig → List ℕ → EndState
end_by c metadata =
    unopened (own_of c.own) (record { reserved = (own_of c.own).reserved; info_hash = unwrap_or (own_of c.own).info_hash []; peer_id = c.peer_id })
    (announce_by c.announce) (window_by c.window) (part_by c.role c.most metadata)

-- why none can be made, for another cause than memory
abbrev pub fault_by : BtEndConfig → List ℕ → Option ℕ
fault_by c metadata =
    if is_bad_limit c.own.limit then Some 8 else
    (if is_none (own_of c.own).info_hash then Some 9 else (if is_bad_by c.role metadata then Some 10 else None))
