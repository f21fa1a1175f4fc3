-- At which addresses a place is asked.
use Rattle.std.specs.Prelude.{ℕ, Bool, ◌||◌, ◌&&◌, nat_le, nat_lt, not}
use Rattle.std.specs.declared.net.socket_addr.SocketAddr.{SocketAddr}
use Rattle.bt_address.specs.Takeable.{is_takeable}

-- what the user names stands as it is; what a link names is asked only at an address that a stranger may name
abbrev pub is_allowed : Bool → Bool → SocketAddr → Bool
is_allowed is_told is_local address = not is_told || is_takeable is_local address

-- So many milliseconds after the beginning a name may be looked up: from 500 on if an address is known that is asked, and up to 15,000.
abbrev pub is_look_up_due : Bool → ℕ → Bool
is_look_up_due has_known passed = (not has_known || nat_le 500 passed) && nat_lt passed 15000
