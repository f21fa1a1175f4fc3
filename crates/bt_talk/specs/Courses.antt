-- What rows need to know of each side besides its items.
use Rattle.std.specs.Prelude.{ℕ, ◌+◌, ◌-◌, ◌^◌, min, Bool, true, false, ◌||◌, List, [], ◌∷◌, Option, Some, None, if◌then◌else◌}
use Rattle.std.specs.Bool.{then_some}
use Rattle.std.specs.Option.{option_or}
use Rattle.bt_packet.specs.declared.tcp.Flags.{Flags}
use Rattle.bt_remarks.specs.declared.events.Remarks.{Remarks}
use Rattle.bt_remarks.specs.declared.events.Side.{Side}
use Rattle.bt_remarks.specs.declared.events.Side.TheVariants.{A, B}
use Rattle.bt_tcp.specs.declared.covered.Gap.{Gap}
use Rattle.bt_rows.specs.declared.parts.Means.{Means}
use Rattle.bt_rows.specs.declared.parts.Means.TheVariants.{Fin, Rst}
use Rattle.bt_rows.specs.declared.rows.Deed.TheVariants as deed
use Rattle.bt_wire.specs.declared.item.Refusal.{Refusal}
use Rattle.bt_talk.specs.declared.closing.When.{When}
use Rattle.bt_talk.specs.declared.course.Course.{Course}
use Rattle.bt_talk.specs.declared.course.Courses.{Courses}
use Rattle.bt_talk.specs.declared.rows.Heading.{Heading}
use Rattle.bt_talk.specs.Rows.{Shown, row_at}

abbrev pub not_begun : Course
not_begun = record { is_closed = false; grown = None; strays = 0 }

abbrev pub course_of : Side → Courses → Course
course_of A c = c.a
course_of B c = c.b

-- the packet with which a side's stream grew last; without a byte of the side, the connection's first packet
abbrev pub end_of : Side → Courses → Option When
end_of side c = option_or (course_of side c).grown c.first

-- a RST closes, or else a FIN
abbrev pub means_of : Flags → Means
means_of flags = if flags.rst then Rst else Fin

-- how a side closes with these flags, if it hasn't closed before
abbrev pub closes_by : Flags → Bool → Option Means
closes_by flags true = None
closes_by flags false = then_some (flags.fin || flags.rst) (means_of flags)

-- one more, if it is a stray, up to 2 ^ 64 - 1
abbrev pub counted : Bool → ℕ → ℕ
counted stray n = min (2 ^ 64 - 1) (n + (if stray then 1 else 0))

abbrev pub course_after : Flags → (stray grows : Bool) → When → Course → Course
course_after flags stray grows when c = record {
  is_closed = c.is_closed || (flags.fin || flags.rst);
  grown = option_or (then_some grows when) c.grown;
  strays = counted stray c.strays;
}

-- ---- the rows

abbrev pub no_remarks : Remarks
no_remarks = record { unasked = false; choked = false; again = false; elsewhere = false }

-- the row of a refusal that stands now, if none stood before
abbrev pub refusal_rows : Heading → When → Side → Option Refusal → Option Refusal → List Shown
refusal_rows h when side None (Some r) = row_at h when side r.at (deed.Refused r) no_remarks ∷ []
refusal_rows h when side None None = []
refusal_rows h when side (Some r) after = []

-- the row of a close, if there is one, after so many bytes of the side
abbrev pub close_rows : Heading → When → Side → ℕ → Option Means → List Shown
close_rows h when side offset None = []
close_rows h when side offset (Some by) = row_at h when side offset (deed.Closed by) no_remarks ∷ []

-- a row at a packet, if one came
abbrev pub rows_at : Option When → (When → Shown) → List Shown
rows_at None row = []
rows_at (Some when) row = row when ∷ []

-- the row of a side's first gap, if it has one, at the packet with which the last byte before it came
abbrev pub gap_rows : Heading → Option When → Side → ℕ → Option Gap → List Shown
gap_rows h when side start None = []
gap_rows h when side start (Some gap) = rows_at when (λ w. row_at h w side (gap.place - start) (deed.Gap gap.length) no_remarks)
