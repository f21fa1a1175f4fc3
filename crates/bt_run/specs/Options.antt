-- What the options of the command line say of the receiver.
use Rattle.std.specs.Prelude.{◌≡◌, ℕ, ◌^◌, ◌&&◌, nat_le, nat_lt, List, length}
use Rattle.std.specs.Prelude.{codes, Option, Some, None, option_map, option_and_then, is_none, if◌then◌else◌}
use Rattle.std.specs.Int.{w64, from_be_bytes}
use Rattle.std.specs.Result.{result_ok}
use Rattle.std.specs.Str.{bytes_eq}
use Rattle.std.specs.Char.{is_ascii_digit}
use Rattle.std.specs.List.{list_all}
use Rattle.std.specs.Str.Parse.{digits_value}
use Rattle.hex.specs.Hex.{decode_sized}
use Rattle.bt_ext.specs.declared.ids.Rules.{Rules}
use Rattle.bt_ext.specs.declared.ids.Rules.TheVariants.{Free, Bep}
use Rattle.bt_ext.specs.Ids.{extension_id, metadata_id, donthave_id, are_same}
use Rattle.bt_wire.specs.declared.context.Own.{Own}
use Rattle.bt_run.specs.declared.commands.Hints.{Hints}
use Rattle.bt_run.specs.declared.commands.Hints.TheVariants.{Auto, Always, Never}
use Rattle.bt_run.specs.declared.commands.Job.{Job}
use Rattle.bt_run.specs.declared.values.Setting.{Setting}
use Rattle.bt_run.specs.declared.values.Setting.TheVariants as settings
use Rattle.bt_run.specs.declared.values.Written.{Written}
use Rattle.bt_run.specs.Commands.{default_rules}

-- ---- a value's text

-- the number that decimal digits write: one digit at least, no sign, below 2 ^ 32
abbrev pub number_of : List ℕ → Option ℕ
number_of t = if list_all is_ascii_digit t && (nat_lt 0 (length t) && nat_lt (digits_value 10 t) (2 ^ 32)) then Some (digits_value 10 t) else None

abbrev pub within : ℕ → ℕ → ℕ → Option ℕ
within low high n = if nat_le low n && nat_le n high then Some n else None

-- a number from low to high
abbrev pub number_in : ℕ → ℕ → List ℕ → Option ℕ
number_in low high t = option_and_then (within low high) (number_of t)

-- 16 hex digits, the highest first
abbrev pub bits_of : List ℕ → Option ℕ
bits_of t = option_map (from_be_bytes w64) (result_ok (decode_sized t 8))

-- the bytes of 40 hex digits
abbrev pub hash_of : List ℕ → Option (List ℕ)
hash_of t = result_ok (decode_sized t 20)

abbrev pub rules_of : List ℕ → Option Rules
rules_of t = if bytes_eq t (codes "free") then Some Free else if bytes_eq t (codes "bep") then Some Bep else None

-- ---- an option: its default where it isn't given, and none where its text is no value of it

abbrev pub value_of : {A : Type 0} → A → (List ℕ → Option A) → Option (List ℕ) → Option A
value_of default read None = Some default
value_of default read (Some t) = read t

abbrev pub reserved_in : Option (List ℕ) → Option ℕ
reserved_in t = value_of 0x100005 bits_of t

abbrev pub pieces_in : Option (List ℕ) → Option (Option ℕ)
pieces_in t = value_of None (λ s. option_map (λ n. Some n) (number_of s)) t

-- 0 is none
abbrev pub metadata_id_in : Option (List ℕ) → Option (Option ℕ)
metadata_id_in t = value_of (Some 3) (λ s. option_map extension_id (number_in 0 255 s)) t

-- 0 is none
abbrev pub donthave_id_in : Option (List ℕ) → Option (Option ℕ)
donthave_id_in t = value_of None (λ s. option_map extension_id (number_in 0 255 s)) t

-- an id for `lt_donthave`, unless it is that of `ut_metadata`
abbrev pub unless_same : Option ℕ → Option ℕ → Option (Option ℕ)
unless_same metadata donthave = if are_same metadata donthave then None else Some donthave

-- by the texts of both
abbrev pub donthave_in : Option (List ℕ) → Option (List ℕ) → Option (Option ℕ)
donthave_in metadata donthave =
    option_and_then (λ m. option_and_then (unless_same m) (donthave_id_in donthave)) (metadata_id_in metadata)

abbrev pub info_hash_in : Option (List ℕ) → Option (Option (List ℕ))
info_hash_in t = value_of None (λ s. option_map (λ h. Some h) (hash_of s)) t

abbrev pub rules_in : Job → Option (List ℕ) → Option Rules
rules_in job t = value_of (default_rules job) rules_of t

abbrev pub limit_in : Option (List ℕ) → Option ℕ
limit_in t = value_of 262144 (number_in 1 1048576) t

abbrev pub hints_of : List ℕ → Option Hints
hints_of t =
    if bytes_eq t (codes "auto") then Some Auto
    else if bytes_eq t (codes "always") then Some Always
    else if bytes_eq t (codes "never") then Some Never
    else None

abbrev pub hints_in : Option (List ℕ) → Option Hints
hints_in t = value_of Auto hints_of t

-- ---- the receiver

-- it is as the options say, for this job
pub record IsReceiver (job : Job) (w : Written) (own : Own) : Type 0 where
  pub reserved : reserved_in (option_map (λ s. s.now) w.reserved) ≡ Some own.reserved.0
  pub pieces : pieces_in (option_map (λ s. s.now) w.pieces) ≡ Some own.pieces
  pub metadata : metadata_id_in (option_map (λ s. s.now) w.metadata_id) ≡ Some (metadata_id own.reg)
  pub donthave : donthave_in (option_map (λ s. s.now) w.metadata_id) (option_map (λ s. s.now) w.donthave_id) ≡ Some (donthave_id own.reg)
  pub info_hash : info_hash_in (option_map (λ s. s.now) w.info_hash) ≡ Some own.info_hash
  pub rules : rules_in job (option_map (λ s. s.now) w.rules) ≡ Some own.rules
  pub limit : limit_in (option_map (λ s. s.now) w.limit) ≡ Some own.limit

-- the option's text is no value of it; the id of `lt_donthave` is also wrong where it is that of `ut_metadata`
abbrev pub IsWrong : Job → Written → Setting → Type 0
IsWrong job w settings.Reserved = reserved_in (option_map (λ s. s.now) w.reserved) ≡ None
IsWrong job w settings.Pieces = pieces_in (option_map (λ s. s.now) w.pieces) ≡ None
IsWrong job w settings.MetadataId = metadata_id_in (option_map (λ s. s.now) w.metadata_id) ≡ None
IsWrong job w settings.DonthaveId = donthave_in (option_map (λ s. s.now) w.metadata_id) (option_map (λ s. s.now) w.donthave_id) ≡ None
IsWrong job w settings.InfoHash = info_hash_in (option_map (λ s. s.now) w.info_hash) ≡ None
IsWrong job w settings.Rules = rules_in job (option_map (λ s. s.now) w.rules) ≡ None
IsWrong job w settings.Limit = limit_in (option_map (λ s. s.now) w.limit) ≡ None

-- the first option whose text is no value of it
abbrev pub first_wrong : Job → Written → Option Setting
first_wrong job w =
    if is_none (reserved_in (option_map (λ s. s.now) w.reserved)) then Some settings.Reserved
    else if is_none (pieces_in (option_map (λ s. s.now) w.pieces)) then Some settings.Pieces
    else if is_none (metadata_id_in (option_map (λ s. s.now) w.metadata_id)) then Some settings.MetadataId
    else if is_none (donthave_in (option_map (λ s. s.now) w.metadata_id) (option_map (λ s. s.now) w.donthave_id)) then Some settings.DonthaveId
    else if is_none (info_hash_in (option_map (λ s. s.now) w.info_hash)) then Some settings.InfoHash
    else if is_none (rules_in job (option_map (λ s. s.now) w.rules)) then Some settings.Rules
    else if is_none (limit_in (option_map (λ s. s.now) w.limit)) then Some settings.Limit
    else None
