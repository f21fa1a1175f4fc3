-- The key of a connection: its two ends, in order, and the number of a connection of uTP.
use Rattle.std.specs.Prelude.{ℕ, Bool, List, ◌∷◌, Option, None, if◌then◌else◌}
use Rattle.std.specs.Ordering.{is_le, nat_cmp}
use Rattle.std.specs.Cmp.Lexicographic.{slice_cmp}
use Rattle.bt_packet.specs.declared.address.Host.{Host}
use Rattle.bt_packet.specs.declared.address.Host.TheVariants.{V4, V6}
use Rattle.bt_packet.specs.declared.address.Address.{Address}
use Rattle.bt_capture.specs.declared.pair.Pair.{Pair}

-- as numbers, so that different addresses have different lists
abbrev pub host_key : Host → List ℕ
host_key (V4 bytes) = 4 ∷ bytes
host_key (V6 bytes) = 6 ∷ bytes

abbrev pub key_of : Address → List ℕ
key_of a = a.port ∷ host_key a.host

-- the first number that differs is less, or none differs
abbrev pub is_below : List ℕ → List ℕ → Bool
is_below x y = is_le (slice_cmp nat_cmp x y)

abbrev pub is_first : Address → Address → Bool
is_first a b = is_below (key_of a) (key_of b)

-- the key of TCP with these ends
abbrev pub ends : Address → Address → Pair
ends a b = record { low = a; high = b; link = None }

abbrev pub pair : Address → Address → Pair
pair a b = if is_first a b then ends a b else ends b a

-- the key of a connection of uTP with this number, or of TCP
abbrev pub with_link : Option ℕ → Pair → Pair
with_link link p = record p { link = link }
