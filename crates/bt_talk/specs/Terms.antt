-- What is known of a capture's connections besides their bytes.
use Rattle.std.specs.Prelude.{ℕ, min, max, Option, Some, None, if◌then◌else◌}
use Rattle.std.specs.Str.{bytes_eq}
use Rattle.bt_wire.specs.declared.handshake.Handshake.{Handshake}
use Rattle.bt_talk.specs.declared.terms.Terms.{Terms}
use Rattle.bt_talk.specs.declared.terms.Torrent.{Torrent}

-- the longest message that receivers take, which is 1 to 1,048,576
abbrev pub limit_of : Terms → ℕ
limit_of terms = min (max terms.limit 1) 1048576

abbrev pub pieces_by : Option Torrent → Option Handshake → Option ℕ → Option ℕ
pieces_by (Some torrent) (Some h) pieces = if bytes_eq torrent.info_hash h.info_hash then Some torrent.pieces else pieces
pieces_by (Some torrent) None pieces = pieces
pieces_by None sender pieces = pieces

-- The torrent gives the piece count of a connection whose sender has a handshake with its info hash (BEP 3).
abbrev pub pieces_for : Terms → Option Handshake → Option ℕ
pieces_for terms sender = pieces_by terms.torrent sender terms.pieces
