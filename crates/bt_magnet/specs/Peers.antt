-- What names a peer.
use Rattle.std.specs.Prelude.{◌≡◌, ◌⊎◌, ℕ, ◌^◌, ◌&&◌, ◌||◌, ◌==◌, nat_lt, Bool, true, List, length}
use Rattle.std.specs.Char.{is_ascii_alphabetic, is_ascii_alphanumeric, is_ascii_digit}
use Rattle.std.specs.List.{list_all, list_any, before_first, after_first}
use Rattle.std.specs.Net.Grammar.{IsSocketText}
use Rattle.std.specs.Str.Parse.{digits_value}
use Rattle.std.specs.declared.net.socket_addr.SocketAddr.{SocketAddr}

abbrev pub is_host_byte : ℕ → Bool
is_host_byte b = is_ascii_alphanumeric b || ((b == 45) || ((b == 46) || (b == 95)))

-- A host's name: letters, digits, `-`, `.` and `_`, with a letter, so that no address is one
abbrev pub is_host : List ℕ → Bool
is_host t = list_all is_host_byte t && list_any is_ascii_alphabetic t

-- a decimal number of 16 bits
abbrev pub is_port : List ℕ → Bool
is_port t = list_all is_ascii_digit t && (nat_lt 0 (length t) && nat_lt (digits_value 10 t) (2 ^ 16))

-- HOST:PORT
abbrev pub is_named : List ℕ → Bool
is_named t = is_host (before_first (λ b. b == 58) t) && is_port (after_first (λ b. b == 58) t)

-- IP:PORT, [IPv6]:PORT or HOST:PORT
abbrev pub IsPeer : List ℕ → Type 0
IsPeer t = ((a : SocketAddr) × IsSocketText t a) ⊎ (is_named t ≡ true)
