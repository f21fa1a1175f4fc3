-- A window with the memory that it owns.
use Rattle.std.specs.Prelude.{ℕ, Option}
use Rattle.bt_tcp.specs.Bits.{places}
use Rattle.bt_tcp.specs.Rings.{ahead}
use Rattle.bt_flow.specs.declared.window.Window.{Window}

abbrev pub next_of : Window → ℕ
next_of w = w.ring.next

-- the bytes from the next place on
abbrev pub seen : Window → ℕ → Option ℕ
seen w = ahead w.ring w.known.items w.ahead.items

abbrev pub capacity_of : Window → ℕ
capacity_of w = places w.known.items
