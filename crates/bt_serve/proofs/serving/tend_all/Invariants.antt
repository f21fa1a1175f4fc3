use Rattle.std.proofs.Common.{◌≡◌, ◌+◌, true, vec_len}
use Rattle.bt_serve.specs.Doors.{AreMore, AreTold}
use Rattle.bt_serve.proofs.serving.tend_all.Given as goal

-- as many went out of the door as are no longer held, and of each that ended it was told how
abbrev pub invariant-loop : goal.invariant-loop
invariant-loop g l = record {
  inside : g.D.Door.inside l.door + vec_len l.fn.guests ≡ g.D.Door.inside l.fn.door + vec_len l.guests;
  told : AreTold (g.D.Door.told l.fn.door) (g.D.Door.told l.door) true;
  ended : vec_len l.guests + l.ended ≡ vec_len l.fn.guests;
  more : AreMore l.ended (g.D.Door.told l.fn.door) (g.D.Door.told l.door);
  rounds : g.D.Door.rounds l.door ≡ g.D.Door.rounds l.fn.door;
}
