-- What is known of a capture file between two of its items, and what it hands out.
use Rattle.std.specs.Prelude.{ℕ, List}
use Rattle.bt_pcap.specs.declared.numbers.Order.{Order}
use Rattle.bt_pcap.specs.declared.interfaces.Interface.{Interface}

-- nothing yet; of a pcap file its byte order, the nanoseconds that a fraction counts and its link type; of a pcapng section its byte order and interfaces
pub data Format : Type 0 where
  Unknown : Format
  Pcap : Order → ℕ → ℕ → Format
  Pcapng : Order → List Interface → Format

-- a packet without where it lies in memory
pub record Captured : Type 0 where
  pub link : ℕ
  pub nanos : ℕ
  pub bytes : List ℕ
  pub original : ℕ
