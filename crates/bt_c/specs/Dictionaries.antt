-- The dictionary that bytes begin with (BEP 3, "bencoding"), as C hears of it.
use Rattle.std.specs.Prelude.{◌≡◌, ◌⊎◌, ℕ, List, length}
use Rattle.bt_bencode.specs.Trees.{Pairs}
use Rattle.bt_bencode.specs.Bencoding.{BeginsWith, IsPlace}
use Rattle.bt_bencode.specs.Payloads.{BeginsWithNone}
use Rattle.bt_torrent.specs.Files.{IsFileOf}

-- The first n bytes spell a dictionary within the limits of messages; or all of them spell one that has longer strings.
abbrev pub IsDictionary : List ℕ → ℕ → Type 0
IsDictionary bytes n = (ps : Pairs) × (BeginsWith bytes ps n ⊎ (IsFileOf ps bytes × (n ≡ length bytes)))

-- There is neither; within the limits of messages, no dictionary goes on at n.
pub record IsNoDictionary (bytes : List ℕ) (n : ℕ) : Type 0 where
  pub begins : BeginsWithNone bytes
  pub whole : (ps : Pairs) → IsFileOf ps bytes → ⊥
  pub place : IsPlace bytes n
