use Rattle.std.proofs.Common.{◌≡◌, ◌+◌, ◌-◌, take, drop, refl, ◌∙◌, arith}
use Rattle.std.proofs.lemmas.List.{drop_all, length-append, length-drop, length-take}
use Rattle.bt_io.proofs.Moved.{given}
use Rattle.bt_io.proofs.memory.MemSourceSource.read.Goals as goal

pub returns-clause-bytes : goal.returns-clause-bytes
returns-clause-bytes c =
    let s = c.args.self.now in
    let n = c.min-count.result in
    let size : (s.at + n) - s.at ≡ n = omega arith in
    let new : c.copy_from_slice.new.self ≡ take n (drop s.at s.bytes.items) = c.copy_from_slice.ensures.after ∙ rw (c.deref.ensures.value, size) refl in (
      given s.bytes.items c.copy_from_slice.new.self (drop n c.args.into.now) s.at n (omega (arith, length-take n c.args.into.now)) new,
      λ none room. drop_all (s.at + n) s.bytes.items (omega (
        arith,
        s.moves,
        s.within,
        length-take n c.args.into.now,
        length-append c.copy_from_slice.new.self (drop n c.args.into.now),
        length-drop n c.args.into.now,
        s.bytes.ok.0,
      )),
    )

pub returns-clause-moved : goal.returns-clause-moved
returns-clause-moved c = let s = c.args.self.now in omega (arith, length-drop s.at s.bytes.items, s.bytes.ok.0)
