use Rattle.std.proofs.Common.{◌≡◌, ℕ, ◌+◌, true, vec_len}
use Rattle.bt_serve.specs.Doors.{AreMore, AreTold}
use Rattle.bt_serve.proofs.serving.part_all.Given as goal

-- as many went out of the door as are no longer held
abbrev pub invariant-loop-guest : goal.invariant-loop-guest
invariant-loop-guest g l = record {
  inside : g.D.Door.inside l.door + vec_len l.fn.guests ≡ g.D.Door.inside l.fn.door + vec_len l.guests;
  told : AreTold (g.D.Door.told l.fn.door) (g.D.Door.told l.door) true;
  more : (n : ℕ) × (n + vec_len l.guests ≡ vec_len l.fn.guests) × AreMore n (g.D.Door.told l.fn.door) (g.D.Door.told l.door);
  rounds : g.D.Door.rounds l.door ≡ g.D.Door.rounds l.fn.door;
}

abbrev pub decreases-loop-guest : goal.decreases-loop-guest
decreases-loop-guest g l = vec_len l.guests
