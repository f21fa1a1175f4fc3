-- A stream that ends inside an item, though nothing cut it.
use Rattle.std.specs.Prelude.{◌≡◌, ℕ, Bool, true, false, List, [], ◌++◌, Option, Some, None, unwrap_or}
use Rattle.bt_flow.specs.Flows.{AreGapsOf}
use Rattle.bt_intro.specs.Hellos.{IsStartOf}
use Rattle.bt_remarks.specs.declared.events.Side.{Side}
use Rattle.bt_remarks.specs.declared.events.Side.TheVariants.{A, B}
use Rattle.bt_remarks.specs.Said.{other}
use Rattle.bt_tcp.specs.declared.covered.Gap.{Gap}
use Rattle.bt_tcp.specs.declared.covered.Gaps.{Gaps}
use Rattle.bt_text.specs.declared.ended.Ended.{Ended}
use Rattle.bt_text.specs.declared.ended.Ended.TheVariants.{Accepted, Refused}
use Rattle.bt_rows.specs.declared.rows.Deed.TheVariants as deed
use Rattle.bt_wire.specs.declared.fault.Reason.{Reason}
use Rattle.bt_wire.specs.declared.fault.Reason.TheVariants.{EndInside}
use Rattle.bt_wire.specs.declared.item.Refusal.{Refusal}
use Rattle.bt_talk.specs.declared.closing.When.{When}
use Rattle.bt_talk.specs.declared.refused.Judgement.{Judgement}
use Rattle.bt_talk.specs.declared.rows.Heading.{Heading}
use Rattle.bt_talk.specs.declared.rows.Rows.{Rows}
use Rattle.bt_talk.specs.declared.talk.Talk.{Talk}
use Rattle.bt_talk.specs.Courses.{end_of, gap_rows, rows_at, no_remarks}
use Rattle.bt_talk.specs.Marks.{HasBegun}
use Rattle.bt_talk.specs.Pasts.{Past}
use Rattle.bt_talk.specs.Receivers.{AreVerdicts}
use Rattle.bt_talk.specs.Rows.{Shown, row_at}
use Rattle.bt_talk.specs.Shows.{Appends}
use Rattle.bt_talk.specs.Talks.{IsTalk, of_side, flow_of, is_in_opening, terms_of, closing_of}
use Rattle.bt_talk.specs.Unanswered.{has_closed}

abbrev pub inside_for : Reason → Refusal → Option Refusal
inside_for EndInside r = Some r
inside_for reason r = None

abbrev pub inside_in : Ended → Option Refusal
inside_in (Accepted messages bytes) = None
inside_in (Refused r) = inside_for r.reason r

-- A gap cuts a stream, and so does the close of the other side.
abbrev pub inside_by : Bool → Option Gap → Option Judgement → Option Refusal
inside_by true None (Some j) = inside_in j.free
inside_by true None None = None
inside_by true (Some gap) j = None
inside_by false gap j = None

-- the refusal of a side's stream that ends inside an item
pub record EndsInside (side : Side) (a b : Past) (t : Talk) (r : Option Refusal) : Type 0 where
  pub judgement : Option Judgement
  pub are : AreVerdicts (is_in_opening t) (terms_of t) (of_side side a b) (of_side (other side) a b) judgement
  pub gaps : Gaps
  pub gaps_are : let p = of_side side a b in AreGapsOf p.heard p.segs p.out (flow_of side t) gaps
  pub is : r ≡ inside_by (has_closed side (closing_of t).closed) gaps.first judgement

-- its row, at the packet with which its last byte came
abbrev pub inside_rows : Heading → Option When → Side → Option Refusal → List Shown
inside_rows h when side None = []
inside_rows h when side (Some r) = rows_at when (λ w. row_at h w side r.at (deed.Refused r) no_remarks)

pub record ShowsInside (side : Side) (t : Talk) (r r' : Rows) : Type 0 where
  pub refusal : Option Refusal
  pub is : (a b : Past) → IsTalk a b t → EndsInside side a b t refusal
  pub appends : Appends (inside_rows r.heading (end_of side t.courses) side refusal) r r'

-- The last rows of a side: its refusal, if its stream ends inside an item though nothing cut it, and its first gap, if it has one.
pub record AreLastRows (h : Heading) (side : Side) (a b : Past) (t : Talk) (rows : List Shown) : Type 0 where
  pub refusal : Option Refusal
  pub inside : EndsInside side a b t refusal
  pub gaps : Gaps
  pub gaps_are : let p = of_side side a b in AreGapsOf p.heard p.segs p.out (flow_of side t) gaps
  pub start : Option ℕ
  pub start_is : IsStartOf (of_side side a b).front start
  pub is : rows ≡ inside_rows h (end_of side t.courses) side refusal ++ gap_rows h (end_of side t.courses) side (unwrap_or start 0) gaps.first

abbrev pub AreEndRowsBy : Bool → Heading → Past → Past → Talk → List Shown → Type 0
AreEndRowsBy false h a b t rows = rows ≡ []
AreEndRowsBy true h a b t rows = (x : List Shown) × (y : List Shown) × AreLastRows h A a b t x × AreLastRows h B a b t y × (rows ≡ x ++ y)

-- The rows at a connection's end, if one of the sides has begun a handshake: the last ones of A, and then those of B.
abbrev pub AreEndRows : Heading → Past → Past → Talk → List Shown → Type 0
AreEndRows h a b t rows = (begun : Bool) × HasBegun a b begun × AreEndRowsBy begun h a b t rows
