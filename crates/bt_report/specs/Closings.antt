-- How a connection was closed, and what each side had sent then.
use Rattle.std.specs.Prelude.{ℕ, List, [], ◌++◌, Option, Some, None, codes, decimal}
use Rattle.bt_remarks.specs.declared.events.Side.{Side}
use Rattle.bt_remarks.specs.declared.events.Side.TheVariants.{A, B}
use Rattle.bt_remarks.specs.Said.{other}
use Rattle.bt_report.specs.declared.report.Before.{Before}
use Rattle.bt_report.specs.declared.report.Closed.{Closed}
use Rattle.bt_rows.specs.declared.noted.Last.{Last}
use Rattle.bt_rows.specs.declared.noted.Last.TheVariants.{Nothing, Item, Refused}
use Rattle.bt_report.specs.declared.report.Left.{Left}
use Rattle.bt_report.specs.declared.report.Left.TheVariants.{Open, Unread, Replaced}
use Rattle.bt_rows.specs.Numbers.{time_text}
use Rattle.bt_rows.specs.Said.{said_text}
use Rattle.bt_rows.specs.Parts.{means_text, refusal_text, side_text}
use Rattle.bt_tcp.specs.declared.covered.Gap.{Gap}

abbrev pub last_text : Last → List ℕ
last_text Nothing = codes "nothing"
last_text (Item said) = said_text said
last_text (Refused r) = refusal_text r

-- If bytes of a side are missing, it may have sent more than what was read.
abbrev pub last_name : Option Gap → List ℕ
last_name None = codes "last"
last_name (Some gap) = codes "last read"

abbrev pub before_text : Side → Option Gap → Option Before → List ℕ
before_text side gap None = []
before_text side gap (Some b) =
    codes "    " ++ (side_text side ++ (codes " had sent " ++ (decimal b.sent ++ (codes " bytes, " ++ (last_name gap ++ (codes ": "
    ++ (last_text b.last ++ codes "\n")))))))

abbrev pub before_of : Side → Closed → Option Before
before_of A c = c.a
before_of B c = c.b

-- a side's first gap, of those of A and B
abbrev pub gap_of : Side → Option Gap → Option Gap → Option Gap
gap_of A a b = a
gap_of B a b = b

-- the side that closed first comes last; a and b are the first gaps of both sides
abbrev pub closed_text : Option Gap → Option Gap → Closed → List ℕ
closed_text a b c =
    codes "  " ++ (side_text c.first ++ (codes " closed first, by " ++ (means_text c.by ++ (codes ", at " ++ (time_text c.at ++ (codes " s\n"
    ++ (before_text (other c.first) (gap_of (other c.first) a b) (before_of (other c.first) c)
    ++ before_text c.first (gap_of c.first a b) (before_of c.first c))))))))

abbrev pub left_text : Left → List ℕ
left_text Open = codes "  still open at the capture's end\n"
left_text Unread = codes "  not read further: too many connections at once\n"
left_text Replaced = codes "  not closed; a later connection has the same ports\n"

-- A connection that a side closed wasn't read further.
abbrev pub unread_text : Left → List ℕ
unread_text Open = []
unread_text Unread = left_text Unread
unread_text Replaced = []

abbrev pub closing_text : Option Gap → Option Gap → Option Closed → Left → List ℕ
closing_text a b None left = left_text left
closing_text a b (Some c) left = closed_text a b c ++ unread_text left
