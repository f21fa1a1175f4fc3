-- What a fetch writes.
use Rattle.std.specs.Prelude.{◌≡◌, ℕ, ◌<◌, List, ◌++◌, length, take, Option, None, Some, Result, Ok, Err, codes}
use Rattle.std.specs.Io.KnownBytes.{Appends}
use Rattle.sha1.specs.Sha1.{sha1}
use Rattle.bt_fetch.specs.declared.file.FetchError.{FetchError}
use Rattle.bt_fetch.specs.declared.file.FetchError.TheVariants.{NotFetched, Write, Memory}

-- The file of some metadata: the metadata, or, as a .torrent, the dictionary of these pairs and of `info`, which has it (BEP 3).
abbrev pub file_of : Option (List ℕ) → List ℕ → List ℕ
file_of None metadata = metadata
file_of (Some pairs) metadata = codes "d" ++ (pairs ++ (codes "4:info" ++ (metadata ++ codes "e")))

-- The file of all of some metadata with this SHA-1 was written; or nothing; or, where a write failed, a shorter prefix of it.
abbrev pub IsWritten : Option (List ℕ) → List ℕ → Option (List ℕ) → Option (List ℕ) → Result ℕ FetchError → Type 0
IsWritten pairs hash old new (Ok n) = (metadata : List ℕ) × (sha1 metadata ≡ hash) × (length (file_of pairs metadata) ≡ n)
    × Appends old new (file_of pairs metadata)
IsWritten pairs hash old new (Err NotFetched) = new ≡ old
IsWritten pairs hash old new (Err Memory) = new ≡ old
IsWritten pairs hash old new (Err Write) =
    (metadata : List ℕ) × (n : ℕ) × (sha1 metadata ≡ hash) × (n < length (file_of pairs metadata)) × Appends old new (take n (file_of pairs metadata))
