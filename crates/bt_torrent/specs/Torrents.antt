-- What a .torrent says of its torrent (BEP 3, "metainfo files").
use Rattle.std.specs.Prelude.{◌≡◌, ℕ, List, codes, Option, Some, None, Result, Ok, Err, option_and_then}
use Rattle.sha1.specs.Sha1.{sha1}
use Rattle.bt_bencode.specs.Trees.{Pairs, dictionary}
use Rattle.bt_bencode.specs.Bencoding.{ben}
use Rattle.bt_bencode.specs.Keys.{value_at}
use Rattle.bt_bencode.specs.LookUps.{dictionary_of, string_of}
use Rattle.bt_torrent.specs.Files.{IsFileOf, pieces_in}
use Rattle.bt_torrent.specs.declared.torrent.TorrentFile.{TorrentFile}
use Rattle.bt_torrent.specs.declared.torrent.TorrentError.{TorrentError}
use Rattle.bt_torrent.specs.declared.torrent.TorrentError.TheVariants.{NoDictionary, NoInfo, NoPieces, Pieces as BadPieces}

-- BEP 3: "pieces maps to a string whose length is a multiple of 20. It is to be subdivided into strings of length 20, each of
-- which is the SHA1 hash of the piece at the corresponding index."
abbrev pub hashes_in : Pairs → Option (List ℕ)
hashes_in info = option_and_then string_of (value_at (codes "pieces") info)

abbrev pub counted : Option ℕ → Result ℕ TorrentError
counted None = Err BadPieces
counted (Some count) = Ok count

-- how many pieces these SHA-1s are for; a torrent of version 2 alone (BEP 52) has none of them
abbrev pub count_by : Option (List ℕ) → Result ℕ TorrentError
count_by None = Err NoPieces
count_by (Some hashes) = counted (pieces_in hashes)

-- BEP 3: the info hash is "the 20 byte sha1 hash of the bencoded form of the info value from the metainfo file".
abbrev pub with_count : Pairs → Result ℕ TorrentError → Result TorrentFile TorrentError
with_count info (Err e) = Err e
with_count info (Ok count) = Ok (record { info_hash = sha1 (ben (dictionary info)); pieces = count })

abbrev pub torrent_by : Option Pairs → Result TorrentFile TorrentError
torrent_by None = Err NoInfo
torrent_by (Some info) = with_count info (count_by (hashes_in info))

-- the torrent of a file that spells these pairs, or why it is none
abbrev pub torrent_of : Pairs → Result TorrentFile TorrentError
torrent_of pairs = torrent_by (option_and_then dictionary_of (value_at (codes "info") pairs))

-- All of the file spells a dictionary, and this is what it says; or the file spells none.
abbrev pub IsReadAs : List ℕ → Result TorrentFile TorrentError → Type 0
IsReadAs file (Ok t) = (pairs : Pairs) × IsFileOf pairs file × (torrent_of pairs ≡ Ok t)
IsReadAs file (Err NoDictionary) = (pairs : Pairs) → IsFileOf pairs file → ⊥
IsReadAs file (Err e) = (pairs : Pairs) × IsFileOf pairs file × (torrent_of pairs ≡ Err e)
