use Rattle.std.proofs.Common.{◌≡◌, ◌≤◌, ◌+◌, true, vec_len}
use Rattle.bt_serve.specs.Doors.{AreMore, AreToldUpTo, IsWithin}
use Rattle.bt_serve.proofs.serving.serve_all.Given as goal

-- As many more are inside as are held, and there was memory for the last one, of those that ended and of those that are held. Those who entered have
-- ended or are held.
abbrev pub invariant-loop-round : goal.invariant-loop-round
invariant-loop-round g l = record {
  inside : g.D.Door.inside l.door + vec_len l.fn.guests ≡ g.D.Door.inside l.fn.door + vec_len l.guests;
  told : AreToldUpTo (vec_len l.guests) (g.D.Door.told l.fn.door) (g.D.Door.told l.door) true;
  more : AreMore l.left (g.D.Door.told l.fn.door) (g.D.Door.told l.door);
  held : l.left + vec_len l.guests ≡ l.entered;
  within : IsWithin l.connections l.entered;
  entered : l.entered ≤ l._round;
  rounds : l._round ≤ g.D.Door.rounds l.door;
}
