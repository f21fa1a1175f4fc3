-- What the first bytes of a stream tell where it is refused.
use Rattle.std.specs.Prelude.{◌≡◌, ℕ, ◌+◌, ◌-◌, ◌^◌, min, ◌<◌, ◌≤◌, zero, suc, List, [], ◌∷◌, ◌++◌, length, take, drop, slice_index, codes, decimal, Bool}
use Rattle.std.specs.Prelude.{◌||◌, true, Option, Some, None, if◌then◌else◌}
use Rattle.std.specs.Int.{w32, from_be_bytes}
use Rattle.std.specs.List.{starts_with}
use Rattle.std.specs.Prelude.{nat_eq}
use Rattle.bt_run.specs.declared.hint.kind.Kind.{Kind}
use Rattle.bt_run.specs.declared.hint.kind.Kind.TheVariants as kind
use Rattle.bt_run.specs.declared.hint.finding.Hint.{Hint}
use Rattle.bt_run.specs.declared.hint.finding.Hint.TheVariants as hints

-- ---- the kind of a file

abbrev pub begins : List ℕ → List ℕ → Bool
begins mark bytes = starts_with nat_eq bytes mark

-- pcap, in either order of bytes, with times in microseconds or nanoseconds
abbrev pub is_capture : List ℕ → Bool
is_capture b =
    begins (0xd4 ∷ 0xc3 ∷ 0xb2 ∷ 0xa1 ∷ []) b || (begins (0xa1 ∷ 0xb2 ∷ 0xc3 ∷ 0xd4 ∷ []) b || (begins (0x4d ∷ 0x3c ∷ 0xb2 ∷ 0xa1 ∷ []) b || begins
    (0xa1 ∷ 0xb2 ∷ 0x3c ∷ 0x4d ∷ []) b))

abbrev pub is_http : List ℕ → Bool
is_http b = begins (codes "GET ") b || (begins (codes "POST ") b || (begins (codes "HEAD ") b || begins (codes "HTTP/1.") b))

-- a record of a handshake, as TLS 1.0 or 1.2
abbrev pub is_tls : List ℕ → Bool
is_tls b = begins (22 ∷ 3 ∷ 1 ∷ []) b || begins (22 ∷ 3 ∷ 3 ∷ []) b

-- a dictionary whose first key a .torrent file may have (BEP 3, "metainfo files")
abbrev pub is_torrent : List ℕ → Bool
is_torrent b =
    begins (codes "d8:announce") b || (begins (codes "d13:announce-list") b ||
    (begins (codes "d7:comment") b || (begins (codes "d10:created by") b || (begins (codes "d13:creation date") b || begins (codes "d4:info") b))))

-- a handshake's first bytes in hex, or the first offset that `xxd` or `hexdump` prints
abbrev pub is_hex : List ℕ → Bool
is_hex b =
    begins (codes "13426974546f7272656e74") b || (begins (codes "13426974546F7272656E74") b ||
    (begins (codes "13 42 69 74") b || (begins (codes "00000000: ") b || begins (codes "00000000  ") b)))

abbrev pub is_lines : List ℕ → Bool
is_lines b = begins (codes "0 handshake ") b || begins (codes "{\"offset\":0,") b

-- the first kind whose mark the bytes begin with
abbrev pub kind_in : List ℕ → Option Kind
kind_in b =
    if is_capture b then Some kind.Pcap
    else if begins (10 ∷ 13 ∷ 13 ∷ 10 ∷ []) b then Some kind.Pcapng
    else if begins (31 ∷ 139 ∷ 8 ∷ []) b then Some kind.Gzip
    else if is_tls b then Some kind.Tls
    else if is_http b then Some kind.Http
    else if is_torrent b then Some kind.Torrent
    else if is_hex b then Some kind.Hex
    else if begins (codes "handshake ") b then Some kind.Script
    else if is_lines b then Some kind.Lines
    else None

-- ---- places in a stream

-- the bytes that each handshake begins with (BEP 3)
abbrev pub protocol : List ℕ
protocol = 19 ∷ codes "BitTorrent protocol"

-- a handshake's first bytes stand at n
abbrev pub HandshakeAt : List ℕ → ℕ → Type 0
HandshakeAt b n = begins protocol (drop n b) ≡ true

-- the place after k messages, as their lengths say: the handshake has 68 bytes, and a length four
unfoldable pub place_after : List ℕ → ℕ → ℕ
place_after b zero = 68
place_after b (suc k) = place_after b k + (4 + from_be_bytes w32 (drop (place_after b k) b))

-- a message begins or the bytes end at n
abbrev pub IsReached : List ℕ → ℕ → Type 0
IsReached b n = (k : ℕ) × (n ≡ place_after b k)

-- the bytes from start up to end are zero
abbrev pub AreZero : List ℕ → ℕ → ℕ → Type 0
AreZero b start end = (i : ℕ) → start ≤ i → i < end → slice_index b i ≡ 0

-- at `start` a message begins, and from there on `size` bytes are zero, which read as keep-alives
pub record AreKeepAlives (b : List ℕ) (start size : ℕ) : Type 0 where
  pub reached : IsReached b start
  pub zero_bytes : AreZero b start (start + size)
  pub within : start + size ≤ length b

-- ---- a hint

-- the bytes have its mark at its place; there is a long run of keep-alives where there are 256 in a row
abbrev pub HasMark : List ℕ → Hint → Type 0
HasMark b (hints.Is k) = kind_in b ≡ Some k
HasMark b (hints.Handshake n) = (0 < n) × HandshakeAt b n
HasMark b (hints.SecondHandshake n) = (0 < n) × HandshakeAt b 0 × HandshakeAt b n
HasMark b (hints.KeepAlives start size) = (1024 ≤ size) × AreKeepAlives b start size

-- ---- a hint's line

abbrev pub kind_text : Kind → List ℕ
kind_text kind.Pcap = codes "a pcap file; this may read it: bt_tool capture FILE"
kind_text kind.Pcapng = codes "a pcapng file; this may read it: bt_tool capture FILE"
kind_text kind.Gzip = codes "gzip; this may read it: gunzip -c FILE | bt_tool show"
kind_text kind.Tls = codes "TLS, which is encrypted"
kind_text kind.Http = codes "HTTP, and no connection of peers"
kind_text kind.Torrent = codes "a .torrent file, and no stream"
kind_text kind.Hex = codes "hex; this may read it: xxd -r -p FILE | bt_tool show"
kind_text kind.Script = codes "a script; this may read it: bt_tool pack < FILE | bt_tool show"
kind_text kind.Lines = codes "the output of 'show', which nothing reads; 'unpack' keeps all bytes"

abbrev pub hint_words : Hint → List ℕ
hint_words (hints.Is k) = codes "the input looks like " ++ kind_text k
hint_words (hints.Handshake n) = codes "a handshake stands at "
    ++ (decimal n ++ (codes "; this reads from there: tail -c +" ++ (decimal (min (n + 1) (2 ^ 64 - 1)) ++ codes " FILE | bt_tool show")))
hint_words (hints.SecondHandshake n) = codes "a second handshake stands at " ++ (decimal n ++ codes "; the input may be two streams, one after the other")
hint_words (hints.KeepAlives start size) = codes "from " ++ (decimal start
    ++ (codes " on " ++ (decimal size ++ codes " zero bytes read as keep-alives; a gap may have been filled with them")))

abbrev pub hint_line : Hint → List ℕ
hint_line h = codes "hint: " ++ (hint_words h ++ codes "\n")
