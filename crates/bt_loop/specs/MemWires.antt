-- What a wire in memory tells: the bytes on their way and its counts.
use Rattle.std.specs.Prelude.{Some}
use Rattle.bt_loop.specs.Wires.{WireSeen}
use Rattle.bt_loop.specs.declared.mem_wire.MemWire.{MemWire}

abbrev pub wire_seen : MemWire → WireSeen
wire_seen w = record { to_left = Some w.to_left.items; to_right = Some w.to_right.items; calls = w.calls; failed = w.failed }
