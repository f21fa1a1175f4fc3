-- What an end is made of.
use Rattle.std.specs.Prelude.{◌≡◌, ℕ, ◌==◌, nat_lt, Bool, false, ◌||◌, if◌then◌else◌, [], length, Option, Some, None, is_none, unwrap_or, Result, Ok, Err}
use Rattle.bt_wire.specs.declared.handshake.Handshake.{Handshake}
use Rattle.bt_metadata.specs.Blocks.{max_metadata}
use Rattle.bt_end.specs.Ends.{Part, Watching, Serving, Awaiting, EndState, unopened}
use Rattle.bt_end.specs.Halves.{HalfState, connected}
use Rattle.bt_end.specs.declared.config.Config.{Config}
use Rattle.bt_end.specs.declared.config.EndError.{EndError}
use Rattle.bt_end.specs.declared.config.EndError.TheVariants.{BadLimit, BadConfig, BadSize, Memory}
use Rattle.bt_end.specs.declared.config.Role.{Role}
use Rattle.bt_end.specs.declared.config.Role.TheVariants.{Watch, Serve, Share, Fetch, FetchUpTo}

-- its messages have at most 32,768 to 1,048,576 bytes
abbrev pub is_bad_limit : ℕ → Bool
is_bad_limit limit = nat_lt limit 32768 || nat_lt 1048576 limit

abbrev pub is_bad_size : ℕ → Bool
is_bad_size size = size == 0 || nat_lt max_metadata size

abbrev pub is_bad_role : {A : Type 0} → Role A → Bool
is_bad_role (Serve metadata) = is_bad_size (length metadata.items)
is_bad_role (Share metadata) = is_bad_size (length metadata.value.items)
is_bad_role r = false

-- why no end is made, for another cause than memory
abbrev pub config_error : {A : Type 0} → Config A → Option EndError
config_error c =
    if is_bad_limit c.own.limit then Some BadLimit else
    (if is_none c.own.info_hash then Some BadConfig else (if is_bad_role c.role then Some BadSize else None))

abbrev pub part_for : {A : Type 0} → Role A → Part
part_for Watch = Watching
part_for (Serve metadata) = Serving metadata.items
part_for (Share metadata) = Serving metadata.value.items
part_for Fetch = Awaiting max_metadata
part_for (FetchUpTo most) = Awaiting most

-- its own reserved bits and info hash, and its peer id
abbrev pub handshake_for : {A : Type 0} → Config A → Handshake
handshake_for c = record { reserved = c.own.reserved; info_hash = unwrap_or c.own.info_hash []; peer_id = c.peer_id }

abbrev pub end_for : {A : Type 0} → Config A → EndState
end_for c = unopened c.own (handshake_for c) c.announce c.window (part_for c.role)

abbrev pub IsMade : {A : Type 0} → Config A → Result HalfState EndError → Type 0
IsMade c (Ok a) = (config_error c ≡ None) × (a ≡ connected (end_for c))
IsMade c (Err Memory) = config_error c ≡ None
IsMade c (Err e) = config_error c ≡ Some e
