-- The program's table as a course.
use Rattle.std.specs.Prelude.{◌≡◌}
use Rattle.bt_seek.specs.declared.table.Table.{Table}
use Rattle.bt_seek.specs.Courses.{Course}

abbrev pub course_of : Table → Course
course_of t = record {
  is_local = t.is_local;
  time = t.time;
  asked = t.asked.items;
  pages = t.pages.items;
  begun = t.begun;
  sent = t.sent.items;
  given = t.given.items;
  nodes = t.nodes.items;
  peers = t.peers.items;
}

-- all but the peers is as before
abbrev pub SameButPeers : Table → Table → Type 0
SameButPeers old new = (new.is_local ≡ old.is_local) × (new.time ≡ old.time) × (new.asked.items ≡ old.asked.items)
    × (new.pages.items ≡ old.pages.items) × (new.begun ≡ old.begun) × (new.sent.items ≡ old.sent.items)
    × (new.given.items ≡ old.given.items) × (new.nodes.items ≡ old.nodes.items)
