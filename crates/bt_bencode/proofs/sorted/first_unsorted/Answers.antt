use Rattle.std.proofs.Common.{List, arith, refl, subst, sym}
use Rattle.bt_bencode.specs.OnePass.{PassesValue, StopsValue}
use Rattle.bt_bencode.specs.Scanner.{room_in}
use Rattle.bt_bencode.specs.declared.scan.Container.{Container}
use Rattle.bt_bencode.proofs.Stopping.{none_unsorted, begun_stops, one_order}
use Rattle.bt_bencode.proofs.sorted.first_unsorted.Goals as goal

pub overflow_sub-result : goal.overflow_sub-result
overflow_sub-result c =
    let left = c.after_value.new.left in
    let stops = subst (λ (s : List Container). StopsValue (room_in s) c.args.payload.now left) c.new-stack.ensures (c.in-None.ensures.stops refl) in
    let s = begun_stops c.args.payload.now c.requires.0 c.requires.1 left c.requires.2 stops in
    omega (arith, s.2)

pub returns-in-Some : goal.returns-in-Some
returns-in-Some c = λ ps n b.
    let next = c.in-Some.field-0.now in
    let passes = subst (λ (s : List Container). PassesValue (room_in s) c.args.payload.now next) c.new-stack.ensures c.in-Some.ensures.passes in
    none_unsorted c.args.payload.now next ps n b passes

pub returns-in-None : goal.returns-in-None
returns-in-None c = λ ps n b.
    let left = c.after_value.new.left in
    let stops = subst (λ (s : List Container). StopsValue (room_in s) c.args.payload.now left) c.new-stack.ensures (c.in-None.ensures.stops refl) in
    sym (one_order c.args.payload.now left _ stops refl ps n b)
