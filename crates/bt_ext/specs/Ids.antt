-- Extended ids (BEP 10): 0 is the extended handshake's, and a receiver tells the others.
use Rattle.std.specs.Prelude.{ℕ, ◌<◌, Bool, false, ◌==◌, ◌||◌, List, Option, Some, None, option_and_then, nat_lt, if◌then◌else◌, codes}
use Rattle.std.specs.Option.{ForSome}
use Rattle.bt_ext.specs.declared.ids.Registered.{Registered}

-- the names of the extensions that a receiver may register (BEP 9; this project's own)
abbrev pub metadata_name : List ℕ
metadata_name = codes "ut_metadata"

abbrev pub donthave_name : List ℕ
donthave_name = codes "lt_donthave"

-- a number that names an extension, which 0 doesn't
abbrev pub extension_id : ℕ → Option ℕ
extension_id id = if id == 0 then None else Some id

-- there is an id, and it is this one
abbrev pub is_id : Option ℕ → ℕ → Bool
is_id None id = false
is_id (Some n) id = n == id

-- an id, unless it is the other one
abbrev pub apart_from : Option ℕ → ℕ → Option ℕ
apart_from other id = if is_id other id then None else Some id

-- an id of one byte, unless it is the other one
abbrev pub byte_apart : Option ℕ → ℕ → Option ℕ
byte_apart other id = if is_id other id || nat_lt 255 id then None else Some id

-- two ids are there, and they are equal
abbrev pub are_same : Option ℕ → Option ℕ → Bool
are_same metadata None = false
are_same metadata (Some donthave) = is_id metadata donthave

-- the ids of a receiver that wants `ut_metadata` and `lt_donthave` under these; the second doesn't count where they are equal
abbrev pub registered : Option ℕ → Option ℕ → Registered
registered metadata donthave = record { metadata = metadata; donthave = option_and_then (byte_apart metadata) donthave }

-- the ids of a receiver that wants `ut_metadata` alone, or nothing
abbrev pub metadata_only : Option ℕ → Registered
metadata_only metadata = record { metadata = metadata; donthave = None }

-- the id under which a receiver wants `ut_metadata` (BEP 9), if it wants it
abbrev pub metadata_id : Registered → Option ℕ
metadata_id reg = option_and_then extension_id reg.metadata

-- the id under which a receiver wants `lt_donthave`, if it wants it: none that is that of `ut_metadata`
abbrev pub donthave_id : Registered → Option ℕ
donthave_id reg = option_and_then (apart_from (metadata_id reg)) (option_and_then extension_id reg.donthave)

-- the id is the registered one of `ut_metadata`
abbrev pub is_metadata : Registered → ℕ → Bool
is_metadata reg id = is_id (metadata_id reg) id

-- the id is the registered one of `lt_donthave`
abbrev pub is_donthave : Registered → ℕ → Bool
is_donthave reg id = is_id (donthave_id reg) id

-- a payload under the id begins with a dictionary
abbrev pub needs_dict : Registered → ℕ → Bool
needs_dict reg id = id == 0 || is_metadata reg id

-- a payload under the id has a meaning for the receiver
abbrev pub is_known : Registered → ℕ → Bool
is_known reg id = needs_dict reg id || is_donthave reg id

-- each registered id is a byte
pub record HaveBytes (reg : Registered) : Type 0 where
  pub metadata : ForSome (metadata_id reg) (λ n. n < 256)
  pub donthave : ForSome (donthave_id reg) (λ n. n < 256)
