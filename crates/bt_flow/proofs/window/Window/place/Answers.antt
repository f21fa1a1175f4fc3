use Rattle.std.proofs.Common.{◌∙◌, arith}
use Rattle.bt_flow.specs.Memory.{next_of, seen, capacity_of}
use Rattle.bt_flow.proofs.Windows.{kept_within, places_at_once, places_after, goes_same}
use Rattle.bt_flow.proofs.window.Window.place.Goals as goal

pub returns-in_ok-make_room-in-Full : goal.returns-in_ok-make_room-in-Full
returns-in_ok-make_room-in-Full c =
    let full = c.in-Full.ensures.put in
    let goes = goes_same (next_of c.args.self.now) (seen c.args.self.now) (next_of c.put.new.self) (seen c.put.new.self) full.1 full.2 in
    places_after c.args.at c.args.part.now (next_of c.args.self.now) (seen c.args.self.now) (next_of c.make_room.new.self)
    (seen c.make_room.new.self) c.put-in-Full.result
    (next_of c.put-in-Full.new.self) (seen c.put-in-Full.new.self) (capacity_of c.make_room.new.self) (c.in_ok-make_room-in-Full.ensures.next ∙ full.1)
    (kept_within c.put-in-Full.new.self (omega (arith, c.put-in-Full.new.self.most, c.put-in-Full.new.self.same)))
    (λ h. c.in_ok-make_room-in-Full.ensures.room (omega (arith, h, full.1)))
    (λ segs base out h. c.in_ok-make_room-in-Full.ensures.taken segs base out (goes segs base out h))
    c.put-in-Full.ensures.put c.put-in-Full.ensures.taken

pub returns-in-Taken : goal.returns-in-Taken
returns-in-Taken c = places_at_once c.args.at c.args.part.now (next_of c.args.self.now) (seen c.args.self.now)
    (capacity_of c.args.self.now) c.in-Taken.from c.in-Taken.len
    (next_of c.put.new.self) (seen c.put.new.self)
    (kept_within c.put.new.self (omega (arith, c.put.new.self.most, c.put.new.self.same))) c.in-Taken.ensures.put c.in-Taken.ensures.taken
