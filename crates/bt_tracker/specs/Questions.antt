-- The question to a tracker over HTTP (BEP 3, "trackers"; `compact` of BEP 23), in HTTP/1.0, whose answer has no chunks.
use Rattle.std.specs.Prelude.{ℕ, ◌/◌, ◌%◌, ◌==◌, true, List, [], ◌∷◌, ◌++◌, slice_index_or, codes, decimal, if◌then◌else◌}
use Rattle.std.specs.List.{flat_map, list_any}
use Rattle.std.specs.Fmt.{digit_glyph}
use Rattle.bt_tracker.specs.declared.announce.Announce.{Announce}
use Rattle.bt_tracker.specs.declared.announce.Event.{Event}
use Rattle.bt_tracker.specs.declared.announce.Event.TheVariants as event

-- each byte as `%` and its two hexadecimal digits, which any byte may be escaped to (RFC 3986, section 2.1)
abbrev pub escape : ℕ → List ℕ
escape b = 37 ∷ digit_glyph true (b / 16) ∷ digit_glyph true (b % 16) ∷ []

abbrev pub escaped : List ℕ → List ℕ
escaped bytes = flat_map escape bytes

-- a path begins with `/`
abbrev pub path_of : List ℕ → List ℕ
path_of target = if slice_index_or target 0 0 == 47 then target else 47 ∷ target

-- `&` after a query, else `?`
abbrev pub separator_of : List ℕ → ℕ
separator_of target = if list_any (λ b. b == 63) target then 38 else 63

abbrev pub ids_of : Announce → List ℕ
ids_of a = codes "info_hash=" ++ (escaped a.info_hash ++ (codes "&peer_id=" ++ escaped a.peer_id))

abbrev pub own_port_of : Announce → List ℕ
own_port_of a = codes "&port=" ++ decimal a.port

-- nothing was sent or received, and so much is left
abbrev pub nothing_text : List ℕ
nothing_text = codes "&uploaded=0" ++ codes "&downloaded=0"

abbrev pub left_of : Announce → List ℕ
left_of a = codes "&left=" ++ decimal a.left

abbrev pub wanted_of : Announce → List ℕ
wanted_of a = codes "&compact=1&numwant=" ++ decimal a.wanted

abbrev pub numbers_of : Announce → List ℕ
numbers_of a = own_port_of a ++ (nothing_text ++ (left_of a ++ wanted_of a))

-- the event, if there is one
abbrev pub event_text : Event → List ℕ
event_text event.None = []
event_text event.Completed = codes "&event=completed"
event_text event.Started = codes "&event=started"
event_text event.Stopped = codes "&event=stopped"

abbrev pub query_of : Announce → List ℕ
query_of a = ids_of a ++ (numbers_of a ++ event_text a.event)

-- the host, an IPv6 address in brackets, and the port unless it is the default one (RFC 9110, section 7.2)
abbrev pub host_text : List ℕ → List ℕ
host_text host = if list_any (λ b. b == 58) host then 91 ∷ (host ++ 93 ∷ []) else host

abbrev pub port_text : ℕ → List ℕ
port_text port = if port == 80 then [] else 58 ∷ decimal port

abbrev pub host_field : List ℕ → ℕ → List ℕ
host_field host port = host_text host ++ port_text port

abbrev pub asked_of : List ℕ → Announce → List ℕ
asked_of target a = codes "GET " ++ ((path_of target ++ separator_of target ∷ []) ++ query_of a)

abbrev pub version_text : List ℕ
version_text = codes " HTTP/1.0\r\n" ++ codes "Host: "

abbrev pub head_of : List ℕ → ℕ → List ℕ
head_of host port = version_text ++ (host_field host port ++ codes "\r\n\r\n")

abbrev pub question_of : (host : List ℕ) (port : ℕ) (target : List ℕ) → Announce → List ℕ
question_of host port target a = asked_of target a ++ head_of host port
