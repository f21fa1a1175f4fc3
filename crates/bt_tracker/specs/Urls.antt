-- The URL of a tracker: a scheme, an authority and a target (RFC 3986, sections 3.1 to 3.4).
use Rattle.std.specs.Prelude.{◌≡◌, ℕ, ◌+◌, ◌^◌, ◌||◌, ◌&&◌, ◌==◌, nat_le, nat_lt, not, Bool, true, false, List, length, take, drop, slice_index_or, codes}
use Rattle.std.specs.Prelude.{Option, Some, None, is_some, option_map, if◌then◌else◌, map}
use Rattle.std.specs.Char.{is_ascii_alphanumeric, is_ascii_digit, is_ascii_hexdigit, to_ascii_lowercase}
use Rattle.std.specs.List.{list_all, before_first}
use Rattle.std.specs.Str.{bytes_eq}
use Rattle.std.specs.Str.Parse.{digits_value}
use Rattle.bt_tracker.specs.declared.url.Tracker.{Tracker}
use Rattle.bt_tracker.specs.declared.url.Tracker.TheVariants.{Udp, Http, Unasked}

-- what follows a word, whose letters may be of either case
abbrev pub after_word : List ℕ → List ℕ → Option (List ℕ)
after_word word t = if bytes_eq (map to_ascii_lowercase (take (length word) t)) word then Some (drop (length word) t) else None

abbrev pub is_unasked : List ℕ → Bool
is_unasked t = is_some (after_word (codes "https://") t) || (is_some (after_word (codes "ws://") t) || is_some (after_word (codes "wss://") t))

-- ---- what follows the scheme

-- all of it before the fragment
abbrev pub whole_of : List ℕ → List ℕ
whole_of rest = before_first (λ b. b == 35) rest

-- before the first `/` or `?`
abbrev pub authority_of : List ℕ → List ℕ
authority_of rest = before_first (λ b. b == 63) (before_first (λ b. b == 47) (whole_of rest))

-- the path and the query
abbrev pub target_of : List ℕ → List ℕ
target_of rest = drop (length (authority_of rest)) (whole_of rest)

-- visible characters of ASCII
abbrev pub is_visible : ℕ → Bool
is_visible b = nat_le 33 b && nat_le b 126

-- ---- the authority: HOST, HOST:PORT, [IPv6] or [IPv6]:PORT

abbrev pub is_bracketed : List ℕ → Bool
is_bracketed a = slice_index_or a 0 0 == 91

-- the host, without its brackets
abbrev pub host_in : List ℕ → List ℕ
host_in a = if is_bracketed a then before_first (λ b. b == 93) (drop 1 a) else before_first (λ b. b == 58) a

-- the offset after the host and its brackets
abbrev pub host_end : List ℕ → ℕ
host_end a = length (host_in a) + (if is_bracketed a then 2 else 0)

-- what follows the host
abbrev pub more_in : List ℕ → List ℕ
more_in a = drop (host_end a) a

-- a name, or an address of IPv4: letters, digits, `-`, `.` and `_`
abbrev pub is_name_byte : ℕ → Bool
is_name_byte b = is_ascii_alphanumeric b || ((b == 45) || ((b == 46) || (b == 95)))

-- an address of IPv6: hex digits, `:` and `.`
abbrev pub is_address_byte : ℕ → Bool
is_address_byte b = is_ascii_hexdigit b || ((b == 58) || (b == 46))

-- a host that isn't empty, and whose bracket is closed
abbrev pub has_host : List ℕ → Bool
has_host a = nat_lt 0 (length (host_in a)) && (nat_le (host_end a) (length a)
    && (if is_bracketed a then list_all is_address_byte (host_in a) else list_all is_name_byte (host_in a)))

-- a decimal number from 1 to 65,535
abbrev pub port_of : List ℕ → Option ℕ
port_of ds =
    if nat_lt 0 (length ds) && (list_all is_ascii_digit ds && (nat_lt 0 (digits_value 10 ds) && nat_lt (digits_value 10 ds) (2 ^ 16)))
    then Some (digits_value 10 ds) else None

-- the port that follows the host after `:`, or else the default one
abbrev pub port_in : Option ℕ → List ℕ → Option ℕ
port_in default more =
    if length more == 0 then default
    else if slice_index_or more 0 0 == 58 then port_of (drop 1 more) else None

-- a host and a port
abbrev pub IsPlace : Option ℕ → List ℕ → List ℕ → ℕ → Type 0
IsPlace default a host port = (has_host a ≡ true) × (host ≡ host_in a) × (port_in default (more_in a) ≡ Some port)

-- the offset of what is wrong in an authority
abbrev pub place_fault : Option ℕ → List ℕ → Option ℕ
place_fault default a =
    if not (has_host a) then Some 0
    else if is_some (port_in default (more_in a)) then None else Some (host_end a)

-- ---- the URL

-- after `udp://`: a port is needed, and the target isn't sent
abbrev pub IsUdp : List ℕ → Tracker → Type 0
IsUdp rest (Udp host port) = IsPlace None (authority_of rest) host.now port
IsUdp rest other = ⊥

-- after `http://`: the port is 80 if there is none
abbrev pub IsHttp : List ℕ → Tracker → Type 0
IsHttp rest (Http host port target) = IsPlace (Some 80) (authority_of rest) host.now port
    × (target.now ≡ target_of rest) × (list_all is_visible (target_of rest) ≡ true)
IsHttp rest other = ⊥

abbrev pub IsKnown : Option (List ℕ) → Option (List ℕ) → Bool → Tracker → Type 0
IsKnown (Some udp) http unasked tracker = IsUdp udp tracker
IsKnown None (Some http) unasked tracker = IsHttp http tracker
IsKnown None None unasked tracker = (unasked ≡ true) × (tracker ≡ Unasked)

abbrev pub IsTracker : List ℕ → Tracker → Type 0
IsTracker t tracker = IsKnown (after_word (codes "udp://") t) (after_word (codes "http://") t) (is_unasked t) tracker

-- the offset of what is wrong after `http://`
abbrev pub http_fault : List ℕ → Option ℕ
http_fault rest =
    if is_some (place_fault (Some 80) (authority_of rest)) then place_fault (Some 80) (authority_of rest)
    else if list_all is_visible (target_of rest) then None else Some (length (authority_of rest))

abbrev pub further : ℕ → Option ℕ → Option ℕ
further n at = option_map (λ k. k + n) at

-- the offset of what is wrong
abbrev pub known_fault : Option (List ℕ) → Option (List ℕ) → Bool → Option ℕ
known_fault (Some udp) http unasked = further 6 (place_fault None (authority_of udp))
known_fault None (Some http) unasked = further 7 (http_fault http)
known_fault None None true = None
known_fault None None false = Some 0

abbrev pub fault_of : List ℕ → Option ℕ
fault_of t = known_fault (after_word (codes "udp://") t) (after_word (codes "http://") t) (is_unasked t)
