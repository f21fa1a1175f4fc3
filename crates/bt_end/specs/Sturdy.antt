-- What is so of every end.
use Rattle.std.specs.Prelude.{◌≡◌, ℕ, ◌+◌, ◌≤◌, ◌<◌, List, length, take, ⊤}
use Rattle.bt_metadata.specs.Blocks.{max_metadata}
use Rattle.bt_metadata.specs.Assemblies.{AssemblyState}
use Rattle.bt_metadata.specs.Sound.{IsAssembly}
use Rattle.std.specs.Io.KnownBytes.{Appends}
use Rattle.bt_io.specs.Seen.{TargetSeen}
use Rattle.sha1.specs.Sha1.{sha1}
use Rattle.bt_metadata.specs.Sound.{IsAssembly}
use Rattle.bt_end.specs.Ends.{Part, Fetching, Fetched}
use Rattle.bt_end.specs.Halves.{HalfState, high_water, without_sent}

-- what is fetched is an assembly of this SHA-1
pub record IsFetch (hash : List ℕ) (a : AssemblyState) : Type 0 where
  pub hash_is : a.info_hash ≡ hash
  pub assembly : IsAssembly a

-- what was fetched has a size of metadata, and this SHA-1
pub record IsMetadata (hash metadata : List ℕ) : Type 0 where
  pub least : 0 < length metadata
  pub most : length metadata ≤ max_metadata
  pub right : sha1 metadata ≡ hash

abbrev pub IsPartOf : List ℕ → Part → Type 0
IsPartOf hash (Fetching a) = IsFetch hash a
IsPartOf hash (Fetched metadata) = IsMetadata hash metadata
IsPartOf hash p = ⊤

-- what an end puts together is an assembly: it has as many blocks as its size says, each of its length
abbrev pub IsFetched : Part → Type 0
IsFetched (Fetching a) = IsAssembly a
IsFetched p = ⊤

pub record IsEnd (a : HalfState) : Type 0 where
  pub least : 32768 ≤ a.end.own.limit
  pub most : a.end.own.limit ≤ 1048576
  pub bound : length a.outbox < high_water + a.end.own.limit + 4
  pub part : IsPartOf a.end.handshake.info_hash a.end.part

-- the target took the first n bytes and no others, and just these are gone
pub record Sends (old new : HalfState) (before after : TargetSeen) (n : ℕ) : Type 0 where
  pub within : n ≤ length old.outbox
  pub sent : Appends before.held after.held (take n old.outbox)
  pub left : new ≡ without_sent n old
