-- Why a client closes, as libtorrent numbers the reasons (`close_reason_t`). The number 0 says no reason.
use Rattle.std.specs.Prelude.{ℕ, ◌==◌, nat_lt, List, [], ◌∷◌, ◌++◌, Option, Some, None, codes, decimal, if◌then◌else◌}

-- a number, and its name
pub record CloseReason : Type 0 where
  pub number : ℕ
  pub name : List ℕ

abbrev pub reason : ℕ → List ℕ → CloseReason
reason number name = record { number = number; name = name }

-- the reasons that unexpected data aren't
abbrev pub causes : List CloseReason
causes =
    reason 1 (codes "duplicate peer id")
    ∷ reason 2 (codes "torrent removed")
    ∷ reason 3 (codes "no memory")
    ∷ reason 4 (codes "port blocked")
    ∷ reason 5 (codes "blocked")
    ∷ reason 6 (codes "upload to upload")
    ∷ reason 7 (codes "not interested upload only")
    ∷ reason 8 (codes "timeout")
    ∷ reason 9 (codes "timed out interest")
    ∷ reason 10 (codes "timed out activity")
    ∷ reason 11 (codes "timed out handshake")
    ∷ reason 12 (codes "timed out request")
    ∷ reason 13 (codes "protocol blocked")
    ∷ reason 14 (codes "peer churn")
    ∷ reason 15 (codes "too many connections")
    ∷ reason 16 (codes "too many files")
    ∷ []

-- what the other end sent, from 256 on
abbrev pub faults : List CloseReason
faults =
    reason 256 (codes "encryption error")
    ∷ reason 257 (codes "invalid info hash")
    ∷ reason 258 (codes "self connection")
    ∷ reason 259 (codes "invalid metadata")
    ∷ reason 260 (codes "metadata too big")
    ∷ reason 261 (codes "message too big")
    ∷ reason 262 (codes "invalid message id")
    ∷ reason 263 (codes "invalid message")
    ∷ reason 264 (codes "invalid piece message")
    ∷ reason 265 (codes "invalid have message")
    ∷ reason 266 (codes "invalid bitfield message")
    ∷ reason 267 (codes "invalid choke message")
    ∷ reason 268 (codes "invalid unchoke message")
    ∷ reason 269 (codes "invalid interested message")
    ∷ reason 270 (codes "invalid not interested message")
    ∷ reason 271 (codes "invalid request message")
    ∷ reason 272 (codes "invalid reject message")
    ∷ reason 273 (codes "invalid allow fast message")
    ∷ reason 274 (codes "invalid extended message")
    ∷ reason 275 (codes "invalid cancel message")
    ∷ reason 276 (codes "invalid dht port message")
    ∷ reason 277 (codes "invalid suggest message")
    ∷ reason 278 (codes "invalid have all message")
    ∷ reason 279 (codes "invalid dont have message")
    ∷ reason 280 (codes "invalid have none message")
    ∷ reason 281 (codes "invalid pex message")
    ∷ reason 282 (codes "invalid metadata request message")
    ∷ reason 283 (codes "invalid metadata message")
    ∷ reason 284 (codes "invalid metadata offset")
    ∷ reason 285 (codes "request when choked")
    ∷ reason 286 (codes "corrupt pieces")
    ∷ reason 287 (codes "pex message too big")
    ∷ reason 288 (codes "pex too frequent")
    ∷ []

abbrev pub name_in : ℕ → List CloseReason → Option (List ℕ)
name_in n [] = None
name_in n (r ∷ rs) = if n == r.number then Some r.name else name_in n rs

unfoldable pub name_of : ℕ → Option (List ℕ)
name_of n = if nat_lt n 256 then name_in n causes else name_in n faults

-- ---- as text, and as members of a JSON object

abbrev pub bracketed : Option (List ℕ) → List ℕ
bracketed None = []
bracketed (Some name) = codes " (" ++ (name ++ codes ")")

abbrev pub reason_text : ℕ → List ℕ
reason_text n = decimal n ++ bracketed (name_of n)

abbrev pub name_member : Option (List ℕ) → List ℕ
name_member None = []
name_member (Some name) = codes ",\"name\":\"" ++ (name ++ codes "\"")

abbrev pub reason_members : ℕ → List ℕ
reason_members n = codes "\"reason\":" ++ (decimal n ++ name_member (name_of n))
