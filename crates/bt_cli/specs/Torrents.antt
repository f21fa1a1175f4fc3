-- What `capture` reads of a .torrent, and what it says of a file that is none.
use Rattle.std.specs.Prelude.{◌≡◌, ⊤, ℕ, List, ◌++◌, false, codes, Option, Some, Result, Ok, Err}
use Rattle.std.specs.Io.KnownBytes.{Consumes}
use Rattle.bt_capture.specs.declared.ending.CaptureJob.{CaptureJob}
use Rattle.bt_run.specs.Endings.{fault_status, fault_words}
use Rattle.bt_torrent.specs.Torrents.{IsReadAs}
use Rattle.bt_torrent.specs.declared.torrent.TorrentError.{TorrentError}
use Rattle.bt_torrent.specs.declared.torrent.TorrentError.TheVariants.{NoDictionary, NoInfo, NoPieces, Pieces}
use Rattle.bt_torrent.specs.declared.torrent.TorrentFile.{TorrentFile}
use Rattle.bt_cli.specs.declared.torrent.NoTorrent.{NoTorrent}
use Rattle.bt_cli.specs.declared.torrent.NoTorrent.TheVariants.{Refused, TooLong, Fault}

-- the job, with the piece count of connections with the torrent's info hash
abbrev pub with_torrent : CaptureJob → TorrentFile → CaptureJob
with_torrent job t = record job { terms = record job.terms { torrent = Some (record { info_hash = t.info_hash; pieces = t.pieces }) } }

-- What all bytes of the file say of its torrent; or these say why it is none.
abbrev pub IsJobRead : CaptureJob → Option (List ℕ) → Option (List ℕ) → Result CaptureJob NoTorrent → Type 0
IsJobRead job before after (Ok read) =
    (file : List ℕ) × Consumes before after file × ((t : TorrentFile) × IsReadAs file (Ok t) × (read ≡ with_torrent job t))
IsJobRead job before after (Err (Refused e)) = (file : List ℕ) × Consumes before after file × IsReadAs file (Err e)
IsJobRead job before after (Err TooLong) = ⊤
IsJobRead job before after (Err (Fault f)) = ⊤

-- ---- a file that is no .torrent

abbrev pub torrent_words : TorrentError → List ℕ
torrent_words NoDictionary = codes "fault: torrent: not one bencoded dictionary that nests at most 32 deep\n"
torrent_words NoInfo = codes "fault: torrent: no dictionary under 'info'\n"
torrent_words NoPieces = codes "fault: torrent: no string under 'pieces' in 'info': a torrent of version 2 only has none\n"
torrent_words Pieces = codes "fault: torrent: the length of 'pieces' in 'info' is no multiple of 20, or too great\n"

-- The file's name comes before what is wrong with it.
abbrev pub no_torrent_words : List ℕ → NoTorrent → List ℕ
no_torrent_words prefix (Refused e) = prefix ++ torrent_words e
no_torrent_words prefix TooLong = prefix ++ codes "fault: torrent: more than 67108864 bytes\n"
no_torrent_words prefix (Fault f) = fault_words false prefix f

abbrev pub no_torrent_status : NoTorrent → ℕ
no_torrent_status (Refused e) = 3
no_torrent_status TooLong = 3
no_torrent_status (Fault f) = fault_status false f
