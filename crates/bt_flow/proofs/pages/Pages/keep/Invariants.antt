use Rattle.std.proofs.Common.{◌≡◌, ℕ, ◌-◌, ◌≤◌, length, take}
use Rattle.bt_tcp.specs.Segments.{or_else, byte_in}
use Rattle.bt_flow.specs.Pages.{byte_of}
use Rattle.bt_flow.proofs.pages.Pages.keep.Given as goal

abbrev pub invariant-loop-done : goal.invariant-loop-done
invariant-loop-done l = record {
  bound : l.done ≤ length l.part;
  kept : (i : ℕ) → byte_of l.self i ≡ or_else (byte_of l.fn.self i) (byte_in (record { place = l.at; bytes = take l.done l.part }) i);
}

abbrev pub decreases-loop-done : goal.decreases-loop-done
decreases-loop-done l = length l.part - l.done
