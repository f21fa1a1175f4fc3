-- What a direction tells of its state.
use Rattle.std.specs.Prelude.{ℕ, ◌+◌, ◌-◌, ◌%◌, ◌^◌, ◌==◌, nat_lt, ◌&&◌, not, Bool, true, false, Option, Some, None, if◌then◌else◌}
use Rattle.bt_order.specs.declared.direction.Course.{Course}
use Rattle.bt_order.specs.declared.direction.Course.TheVariants.{Open, Finished, Cut, Lost}
use Rattle.bt_order.specs.declared.direction.Direction.{Direction}
use Rattle.bt_order.specs.Held.{count}
use Rattle.bt_order.specs.Directions.{is_open, is_finished}

abbrev pub gap_by : Course → ℕ → Bool
gap_by Open held = not (held == 0)
gap_by Finished held = false
gap_by Cut held = true
gap_by Lost held = true

-- A packet is held past the awaited one, or the gap before it is final.
abbrev pub gap_of : Direction → Bool
gap_of d = gap_by d.course (count d.held)

-- No packet was taken, and none is held.
abbrev pub is_fresh : Direction → Bool
is_fresh d = is_open d.course && (d.next == 65536 && count d.held == 0)

-- how many numbers a number is after the awaited one, modulo 2^16
abbrev pub numbers_ahead : Direction → ℕ → ℕ
numbers_ahead d number = (number + 2 ^ 16 - (d.first + d.next) % 2 ^ 16) % 2 ^ 16

-- A number in reach after the awaited one was sent.
abbrev pub is_ahead : Direction → ℕ → Bool
is_ahead d number = not (is_finished d.course) && (nat_lt 0 (numbers_ahead d number) && nat_lt (numbers_ahead d number) 4096)

-- The place that an ack_nr stands for. Each packet that isn't here had a byte at least, and after its ST_FIN a direction has one place more.
abbrev pub acked_of : Direction → ℕ → Option ℕ
acked_of d number =
    let more = numbers_ahead d ((number + 1) % 2 ^ 16) in
    if is_finished d.course
    then (if more == 0 then Some ((d.place + 1) % 2 ^ 32) else None)
    else (if nat_lt more 4096 then Some ((d.place + more) % 2 ^ 32) else None)
