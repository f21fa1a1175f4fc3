-- The rows of a connection, which the room has.
use Rattle.std.specs.Prelude.{◌≡◌, true, false, List, []}
use Rattle.bt_packet.specs.declared.tcp.Segment.{Segment}
use Rattle.bt_talk.specs.declared.closing.When.{When}
use Rattle.bt_talk.specs.declared.room.Room.{Room}
use Rattle.bt_talk.specs.declared.rows.Heading.{Heading}
use Rattle.bt_talk.specs.declared.rows.Rows.{Rows}
use Rattle.bt_talk.specs.declared.rows.Showing.{Showing}
use Rattle.bt_talk.specs.declared.talk.Talk.{Talk}
use Rattle.bt_talk.specs.Pasts.{Past}
use Rattle.bt_talk.specs.Rooms.{rows_in, showing_in}
use Rattle.bt_talk.specs.Rows.{Shown, shown_texts}
use Rattle.bt_talk.specs.Talks.{HasSettled, ShowsTurn, Takes, is_in_opening, turn_by}

-- The room has the texts of some rows, which are shown in this way.
pub record HasRows (showing : Showing) (room : Room) : Type 0 where
  pub showing_is : showing_in room ≡ showing
  pub rows : List Shown
  pub text : (rows_in room).text.items ≡ shown_texts showing rows

-- The rows of one segment, under this heading; there were none before. After the opening they are those of its turn. In the opening there are none,
-- and at its end those of all that came in it.
pub record AreOfSegment (heading : Heading) (s : Segment) (when : When) (a b : Past) (t t' : Talk) (rows : Rows) : Type 0 where
  pub before : Rows
  pub heading_is : before.heading ≡ heading
  pub empty : before.text.items ≡ []
  pub took : Takes s when a b t t'
  pub after : (o : is_in_opening t ≡ false) → ShowsTurn (turn_by when (took.said o) (took.did o)) t before rows
  pub opening : is_in_opening t ≡ true → HasSettled s when a b t t' took before rows
