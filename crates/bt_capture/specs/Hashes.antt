-- What a hash function is fed of the key of a connection: few whole words, so that it is fast.
use Rattle.std.specs.Prelude.{ℕ, ◌+◌, ◌*◌, ◌^◌, ◌++◌, List, [], Option, Some, None}
use Rattle.std.specs.Int.{from_be_bytes, w32, w128}
use Rattle.std.specs.Hash as fed
use Rattle.bt_packet.specs.declared.address.Host.{Host}
use Rattle.bt_packet.specs.declared.address.Host.TheVariants.{V4, V6}
use Rattle.bt_packet.specs.declared.address.Address.{Address}
use Rattle.bt_capture.specs.declared.pair.Pair.{Pair}

-- a port and a host of IPv4 as a word, which is below 2^48
abbrev pub word_of : ℕ → List ℕ → ℕ
word_of port bytes = from_be_bytes w32 bytes * 65536 + port

abbrev pub host_fed : ℕ → Host → List (List ℕ)
host_fed port (V4 bytes) = fed.u64 (word_of port bytes)
host_fed port (V6 bytes) = fed.u64 (2 ^ 48 + port) ++ fed.u128 (from_be_bytes w128 bytes)

abbrev pub address_fed : Address → List (List ℕ)
address_fed a = host_fed a.port a.host

-- Two addresses of IPv4 are fed at once.
abbrev pub ends_fed : Address → Address → Host → Host → List (List ℕ)
ends_fed a b (V4 low) (V4 high) = fed.u128 (word_of a.port low * 2 ^ 64 + word_of b.port high)
ends_fed a b (V4 low) (V6 high) = address_fed a ++ address_fed b
ends_fed a b (V6 low) h = address_fed a ++ address_fed b

-- TCP has no number.
abbrev pub link_fed : Option ℕ → List (List ℕ)
link_fed None = []
link_fed (Some number) = fed.u64 number

abbrev pub pair_fed : Pair → List (List ℕ)
pair_fed p = link_fed p.link ++ ends_fed p.low p.high p.low.host p.high.host
