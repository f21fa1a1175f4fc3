-- The connections of a capture: those that are over, and those that aren't.
use Rattle.bt_talk.specs.declared.terms.Terms.{Terms}
use Rattle.std.specs.Prelude.{◌≡◌, ◌⊎◌, ◌==◌, ℕ, ◌+◌, ◌-◌, ◌^◌, ◌<◌, ◌≤◌, min, map, nat_lt, Bool, true, false, if◌then◌else◌, List, [], ◌∷◌, ◌++◌, length}
use Rattle.std.specs.Prelude.{Option, Some, None, is_some, not, ◌&&◌, Result, Ok, Err}
use Rattle.std.specs.List.{All, Contains, count_by, filter, flat_map, list_any, slice_get}
use Rattle.std.specs.List.Sorted.{IsNonDecreasing}
use Rattle.std.specs.Map.{lookup}
use Rattle.bt_io.specs.Seen.{TargetSeen}
use Rattle.bt_packet.specs.declared.tcp.Segment.{Segment}
use Rattle.bt_talk.specs.Pasts.{Past}
use Rattle.bt_remarks.specs.declared.events.Side.{Side}
use Rattle.bt_talk.specs.Sent.{IsSent}
use Rattle.bt_talk.specs.Closing.{is_quiet}
use Rattle.bt_talk.specs.Shown.{AreTurnRows, Turn}
use Rattle.bt_talk.specs.Inside.{AreEndRows}
use Rattle.bt_talk.specs.Talks.{AreOpened, HasHeard, IsTalk, closing_of, cut_of, ends_of, flow_of, marks_of, terms_of, is_in_opening, is_lost, of_side}
use Rattle.bt_talk.specs.Talks.{began_with, grown_with}
use Rattle.bt_talk.specs.declared.closing.When.{When}
use Rattle.bt_talk.specs.declared.rows.Heading.{Heading}
use Rattle.bt_talk.specs.declared.talk.Talk.{Talk}
use Rattle.bt_report.specs.declared.report.Left.{Left}
use Rattle.bt_report.specs.declared.report.Left.TheVariants.{Open, Unread, Replaced}
use Rattle.bt_report.specs.declared.report.Report.{Report}
use Rattle.bt_capture.specs.Arrivals.{Arrival, Clock, IsEarlier, is_between, has_data}
use Rattle.bt_capture.specs.Connections.{Begins, HasRunOut, IsFirst, IsMadeOf, IsOpen, is_opener}
use Rattle.bt_capture.specs.Forms.{absent_from, wanted_by}
use Rattle.bt_capture.specs.Reportings.{IsReportOf}
use Rattle.bt_capture.specs.Sending.{IsSending, WasSent}
use Rattle.bt_capture.specs.Rowed.{AreRowsAfter, AreRowsSoFar, AreToldInTime, IsShowing, heading_of}
use Rattle.bt_capture.specs.Tables.{Held, IsApart, same_pair}
use Rattle.bt_talk.specs.Rows.{Shown}
use Rattle.bt_capture.specs.Tellings.{ArePartsOf, OfReport, OfRows, Part, Tells, rows_of}
use Rattle.bt_capture.specs.declared.connection.Connection.{Connection}
use Rattle.bt_capture.specs.declared.connections.Losses.{Losses}
use Rattle.bt_capture.specs.declared.connections.Over.{Over}
use Rattle.bt_capture.specs.declared.connections.Over.TheVariants as over
use Rattle.bt_capture.specs.declared.connections.Connections.{Connections}
use Rattle.bt_capture.specs.declared.ending.Form.{Form}
use Rattle.bt_capture.specs.declared.pair.Pair.{Pair}

-- ---- connections that are over

-- It was reported; or no byte of its streams was captured; or memory ran out with it.
pub data Fate : Type 0 where
  Reported : Report → Fate
  Silent : Fate
  Lost : Fate

-- Why it is over: no segment between its ends follows; it had ended, by a RST or both FINs, which was four seconds ago at this packet; at this packet
-- there were too many at once, and it had ended less than four seconds before or it hadn't; or this segment between its ends, which follows, begins another.
pub data Cause : Type 0 where
  Final : Cause
  Ended : When → Cause
  Crowded : (ended : Bool) → When → Cause
  Before : Arrival → Cause

-- a connection that is over: its number, its ends, the segments that it took, what became of it, and why
pub record Finished : Type 0 where
  pub number : ℕ
  pub pair : Pair
  pub taken : List Arrival
  pub fate : Fate
  pub cause : Cause

-- Its opening was ended, if it wasn't over, and the turns of its marks came; else there are no more turns.
pub record IsEnded (a b : Past) (t t' : Talk) (turns turns' : List Turn) : Type 0 where
  pub is : IsTalk a b t'
  pub flows : (side : Side) → flow_of side t' ≡ flow_of side t
  pub ends : ends_of t' ≡ ends_of t
  pub terms : terms_of t' ≡ terms_of t
  pub closing : closing_of t' ≡ closing_of t
  pub cuts : (side : Side) → cut_of side t' ≡ cut_of side t
  pub began : began_with t' ≡ began_with t
  pub grown : (side : Side) → grown_with side t' ≡ grown_with side t
  pub over : is_in_opening t' ≡ false
  pub heard : HasHeard turns' a b t'
  pub opened : is_in_opening t ≡ true → AreOpened (marks_of t) a b t' turns'
  pub after : is_in_opening t ≡ false → turns' ≡ turns

-- The report on the connection with this number says what was captured of both sides by these segments. The capture starts at the time `from`.
pub record IsReported (terms : Terms) (from number : ℕ) (taken : List Arrival) (r : Report) : Type 0 where
  pub first : Segment
  pub is_first : IsFirst first taken
  pub a : Past
  pub b : Past
  pub last : Talk
  pub made : IsMadeOf terms first taken a b last
  pub talk : Talk
  pub turns : List Turn
  pub ended : IsEnded a b last talk made.turns turns
  pub left : Left
  pub is : IsReportOf number from left a b talk turns r

-- Why a connection is over that is given up at this packet. It ended at the time `over`, or it hasn't; a lost one counts as one that hadn't.
abbrev pub given_up_by : (lost : Bool) → Option ℕ → When → Cause
given_up_by true over at = Crowded false at
given_up_by false over at = if is_quiet over at.nanos then Ended at else Crowded (is_some over) at

-- how the connection is over, as it is told and counted
abbrev pub over_for : Cause → Over
over_for Final = over.Open
over_for (Ended at) = over.Open
over_for (Crowded true at) = over.Early
over_for (Crowded false at) = over.Unread
over_for (Before x) = over.Replaced

-- how one that is over so was left, if it hadn't ended
abbrev pub left_in : Over → Left
left_in over.Open = Open
left_in over.Early = Open
left_in over.Unread = Unread
left_in over.Replaced = Replaced

-- how the connection was left, if it hasn't ended
abbrev pub left_by : Cause → Left
left_by cause = left_in (over_for cause)

abbrev pub IsFate : Terms → (from number : ℕ) → List Arrival → Cause → Fate → Type 0
IsFate terms from number taken cause (Reported r) =
    (list_any has_data taken ≡ true) × (i : IsReported terms from number taken r) × (i.left ≡ left_by cause)
IsFate terms from number taken cause Silent = list_any has_data taken ≡ false
IsFate terms from number taken cause Lost = Unit {0}

-- The connection is over for this reason.
abbrev pub IsWhy : Cause → Past → Past → Talk → Type 0
IsWhy Final a b t = Unit {0}
IsWhy (Ended at) a b t = is_quiet (closing_of t).over at.nanos ≡ true
IsWhy (Crowded ended at) a b t = (is_some (closing_of t).over ≡ ended) × (is_quiet (closing_of t).over at.nanos ≡ false)
IsWhy (Before x) a b t = Begins true x a b t

-- It is over for this reason after these segments.
pub record IsOverBy (terms : Terms) (taken : List Arrival) (cause : Cause) : Type 0 where
  pub first : Segment
  pub is_first : IsFirst first taken
  pub a : Past
  pub b : Past
  pub last : Talk
  pub made : IsMadeOf terms first taken a b last
  pub why : IsWhy cause a b last

-- Memory ran out with one of its segments, and it is over for this reason. Nobody knows then whether it had ended: so it is never over since it ended
-- four seconds ago, and counts as one that hadn't ended if there were too many.
abbrev pub IsWhyLost : Cause → Type 0
IsWhyLost Final = Unit {0}
IsWhyLost (Ended at) = ⊥
IsWhyLost (Crowded true at) = ⊥
IsWhyLost (Crowded false at) = Unit {0}
IsWhyLost (Before x) = is_opener x ≡ true

-- This is why it is over. Memory ran out with a lost one when it was over, or with one of its segments.
abbrev pub IsCause : Terms → List Arrival → Cause → Fate → Type 0
IsCause terms taken cause (Reported r) = IsOverBy terms taken cause
IsCause terms taken cause Silent = IsOverBy terms taken cause
IsCause terms taken cause Lost = IsOverBy terms taken cause ⊎ (HasRunOut terms taken [] × IsWhyLost cause)

abbrev pub IsFinished : Terms → ℕ → Finished → Type 0
IsFinished terms from f = IsFate terms from f.number f.taken f.cause f.fate × IsCause terms f.taken f.cause f.fate

abbrev pub report_in : Fate → List Report
report_in (Reported r) = r ∷ []
report_in Silent = []
report_in Lost = []

-- their reports, in order
abbrev pub reports_of : List Finished → List Report
reports_of fs = flat_map (λ f. report_in f.fate) fs

abbrev pub is_lost_by : Fate → Bool
is_lost_by (Reported r) = false
is_lost_by Silent = false
is_lost_by Lost = true

-- how many were lost, at most 2 ^ 64 - 1
abbrev pub count_lost : List Finished → ℕ
count_lost fs = min (length (filter (λ f. is_lost_by f.fate) fs)) (2 ^ 64 - 1)

-- There were too many at once, and it hadn't ended.
abbrev pub is_unread : Cause → Bool
is_unread Final = false
is_unread (Ended at) = false
is_unread (Crowded ended at) = not ended
is_unread (Before x) = false

-- There were too many at once, and it had ended, less than four seconds before.
abbrev pub is_early : Cause → Bool
is_early Final = false
is_early (Ended at) = false
is_early (Crowded ended at) = ended
is_early (Before x) = false

-- It wasn't lost, and was given up for such a reason.
abbrev pub is_given_up_as : (Cause → Bool) → Finished → Bool
is_given_up_as such f = not (is_lost_by f.fate) && such f.cause

-- how many were, at most 2 ^ 64 - 1
abbrev pub count_given_up : (Cause → Bool) → List Finished → ℕ
count_given_up such fs = min (length (filter (is_given_up_as such) fs)) (2 ^ 64 - 1)

-- how many were given up that hadn't ended
abbrev pub count_unread : List Finished → ℕ
count_unread fs = count_given_up is_unread fs

-- how many were given up that had ended, less than four seconds before
abbrev pub count_early : List Finished → ℕ
count_early fs = count_given_up is_early fs

-- how many weren't read to their end, or were given up early
abbrev pub losses_of : List Finished → Losses
losses_of fs = record { memory = count_lost fs; crowd = count_unread fs; early = count_early fs }

-- one more that is told, and is over so
abbrev pub with_over : Over → Losses → Losses
with_over over.Open losses = losses
with_over over.Early losses = record losses { early = min (losses.early + 1) (2 ^ 64 - 1) }
with_over over.Unread losses = record losses { crowd = min (losses.crowd + 1) (2 ^ 64 - 1) }
with_over over.Replaced losses = losses

-- ---- their numbers

abbrev pub count_over : ℕ → List Finished → ℕ
count_over n fs = count_by (λ f. f.number == n) fs

abbrev pub count_open : ℕ → List (Pair × Held) → ℕ
count_open n es = count_by (λ e. e.1.value.number == n) es

-- Connections are numbered from 0 on: so many have begun, and of these each has a number of its own. From 2 ^ 64 - 1 on all have that one.
abbrev pub AreNumbered : ℕ → List Finished → List (Pair × Held) → Type 0
AreNumbered begun fs es = (n : ℕ) → n < 2 ^ 64 - 1 → count_over n fs + count_open n es ≡ (if nat_lt n begun then 1 else 0)

-- the numbers of those that aren't over
abbrev pub numbers : List (Pair × Held) → List ℕ
numbers es = map (λ e. e.1.value.number) es

-- The first of these segments is at this place of those that came.
abbrev pub IsFirstAt : List Arrival → ℕ → List Arrival → Type 0
IsFirstAt arrivals i [] = ⊥
IsFirstAt arrivals i (x ∷ taken) = slice_get arrivals i ≡ Some x

-- The connection with this number, which took these segments, began at the number's place. Nothing is said of the number 2 ^ 64 - 1.
abbrev pub IsBegunAt : (ℕ → ℕ) → List Arrival → (begun number : ℕ) → List Arrival → Type 0
IsBegunAt place arrivals begun number taken = number < 2 ^ 64 - 1 → (number < begun) × IsFirstAt arrivals (place number) taken

-- So many have begun, with the segments at these places, of which each is after those before. These connections are over.
pub record AreInOrder (place : ℕ → ℕ) (arrivals : List Arrival) (begun : ℕ) (fs : List Finished) : Type 0 where
  pub ascending : (m n : ℕ) → m < n → n < begun → place m < place n
  pub over : All (λ f. IsBegunAt place arrivals begun f.number f.taken) fs

abbrev pub is_final : Cause → Bool
is_final Final = true
is_final (Ended at) = false
is_final (Crowded ended at) = false
is_final (Before x) = false

abbrev pub AreNotFinal : List Finished → Type 0
AreNotFinal fs = All (λ f. is_final f.cause ≡ false) fs

-- Those that were left at the end are the last, in the order of their numbers, and the ones with these numbers come after them.
pub record AreLast (fs : List Finished) (left : List ℕ) : Type 0 where
  pub early : List Finished
  pub late : List Finished
  pub is : fs ≡ early ++ late
  pub early_are : AreNotFinal early
  pub ascending : IsNonDecreasing (map (λ f. f.number) late ++ left)

-- ---- the stream that is told

-- These are all bytes of the side's stream, from its handshake on, or from its first byte if none started in the opening: the stream of which
-- the report tells. There are none of a connection without a captured byte. Of one with which memory ran out they are those that were handed out
-- after a first part of its segments.
abbrev pub IsStreamBy : Side → List ℕ → Terms → (from number : ℕ) → List Arrival → Fate → Type 0
IsStreamBy side bytes terms from number taken (Reported r) = (i : IsReported terms from number taken r) × IsSent false (of_side side i.a i.b) bytes
IsStreamBy side bytes terms from number taken Silent = bytes ≡ []
IsStreamBy side bytes terms from number taken Lost = WasSent false side bytes terms taken []

abbrev pub IsStreamOf : Side → List ℕ → Terms → ℕ → Finished → Type 0
IsStreamOf side bytes terms from f = IsStreamBy side bytes terms from f.number f.taken f.fate

-- If it is the stream of this connection that is told, what was told is that stream.
abbrev pub IsSentBy : Form → List ℕ → Terms → ℕ → Finished → Type 0
IsSentBy form told terms from f = (side : Side) → f.number < 2 ^ 64 - 1 → wanted_by form f.number ≡ Some side → IsStreamOf side told terms from f

-- These connections are over, and these aren't; so many have begun. If a stream is told this is what was told of it.
pub record IsStreaming (form : Form) (told : List ℕ) (terms : Terms) (from begun : ℕ) (fs : List Finished) (es : List (Pair × Held)) : Type 0 where
  pub numbered : AreNumbered begun fs es
  pub sent : All (IsSentBy form told terms from) fs
  pub untold : (n : ℕ) → absent_from form begun ≡ Some n → n < 2 ^ 64 - 1 → told ≡ []

-- ---- whose segments

-- the connections between two ends, in order
abbrev pub between : Pair → List Finished → List Finished
between k fs = filter (λ f. same_pair k f.pair) fs

-- the segments that connections took
abbrev pub taken_by : List Finished → List Arrival
taken_by fs = flat_map (λ f. f.taken) fs

-- the segments that connections between two ends took, in order
abbrev pub taken_between : Pair → List Finished → List Arrival
taken_between k fs = taken_by (between k fs)

-- Of these segments, those between the two ends were taken by connections that are over, in order, except the rest.
abbrev pub IsShared : Pair → List Arrival → List Finished → List Arrival → Type 0
IsShared k arrivals fs rest = filter (is_between k) arrivals ≡ taken_between k fs ++ rest

-- The connection that isn't over took these, and if its stream is told this is what was told of it; or there is none.
abbrev pub IsLeft : Form → List ℕ → Terms → List Arrival → Option Held → Type 0
IsLeft form told terms taken (Some c) = IsOpen terms taken [] c.value × IsSending form told terms taken [] c.value
IsLeft form told terms taken None = taken ≡ []

-- Each segment between two ends was taken by a connection that is over, or by the one that isn't.
pub record IsShare (form : Form) (told : List ℕ) (terms : Terms) (arrivals : List Arrival) (fs : List Finished) (k : Pair) (left : Option Held) : Type 0 where
  pub taken : List Arrival
  pub is : IsLeft form told terms taken left
  pub share : IsShared k arrivals fs taken

-- ---- where one ends and another begins

-- These segments between its ends come after a connection that is over for this reason.
abbrev pub IsParted : Cause → List Arrival → Type 0
IsParted Final more = more ≡ []
IsParted (Ended at) more = All (λ x. IsEarlier at x.when.packet) more
IsParted (Crowded ended at) more = All (λ x. IsEarlier at x.when.packet) more
IsParted (Before x) [] = ⊥
IsParted (Before x) (y ∷ more) = y ≡ x

-- After each of these connections, all between the same ends, come the segments that the later ones took, and then these.
abbrev pub AreParted : List Finished → List Arrival → Type 0
AreParted [] rest = Unit {0}
AreParted (f ∷ fs) rest = IsParted f.cause (taken_by fs ++ rest) × AreParted fs rest

-- The capture is read; or it is, and this segment between these ends comes next; or it is read to its end.
pub data Phase : Type 0 where
  During : Phase
  Coming : Pair → Arrival → Phase
  AtEnd : Phase

-- the segment between two ends that comes next, if one is known
abbrev pub coming : Phase → Pair → List Arrival
coming During k = []
coming (Coming p x) k = if same_pair k p then x ∷ [] else []
coming AtEnd k = []

-- As long as segments may come no connection is known to be the last one between its ends.
abbrev pub MayBe : Phase → Cause → Type 0
MayBe During cause = is_final cause ≡ false
MayBe (Coming p x) cause = is_final cause ≡ false
MayBe AtEnd cause = Unit {0}

-- Connections between two ends are over, and the others took the rest of these segments.
pub record IsPart (ph : Phase) (arrivals : List Arrival) (fs : List Finished) (k : Pair) : Type 0 where
  pub rest : List Arrival
  pub share : IsShared k arrivals fs rest
  pub going : All (λ f. MayBe ph f.cause) (between k fs)
  pub parted : AreParted (between k fs) (rest ++ coming ph k)

abbrev pub AreParts : Phase → List Arrival → List Finished → Type 0
AreParts ph arrivals fs = (k : Pair) → IsPart ph arrivals fs k

-- A connection that had ended, or was given up, is over at one of these packets, and none of these segments came after that packet.
abbrev pub IsTimelyBy : Clock → List Arrival → Cause → Type 0
IsTimelyBy clock taken Final = Unit {0}
IsTimelyBy clock taken (Ended at) = Contains clock.packets at × All (λ x. x.when.packet ≤ at.packet) taken
IsTimelyBy clock taken (Crowded ended at) = Contains clock.packets at × All (λ x. x.when.packet ≤ at.packet) taken
IsTimelyBy clock taken (Before x) = Unit {0}

abbrev pub IsTimely : Clock → Finished → Type 0
IsTimely clock f = IsTimelyBy clock f.taken f.cause

-- ---- the order of all connections

abbrev pub ComeLast : Phase → List Finished → List (Pair × Held) → Type 0
ComeLast During fs es = AreNotFinal fs
ComeLast (Coming p x) fs es = AreNotFinal fs
ComeLast AtEnd fs es = AreLast fs (numbers es)

-- So many have begun, each after those of lower numbers: those that are over, and those that aren't.
pub record AreBegun (arrivals : List Arrival) (fs : List Finished) (es : List (Pair × Held)) (begun : ℕ) : Type 0 where
  pub place : ℕ → ℕ
  pub within : (n : ℕ) → n < begun → place n < length arrivals
  pub order : AreInOrder place arrivals begun fs
  pub left : (k : Pair) (c : Held) (rest : List Arrival) → lookup (same_pair k) es ≡ Some c → IsShared k arrivals fs rest
      → IsBegunAt place arrivals begun c.value.number rest

-- The connection between the ends p, with this number, takes the segment x next, and isn't among the others.
pub record AreBegunTo (arrivals : List Arrival) (fs : List Finished) (x : Arrival) (p : Pair) (number : ℕ) (taken : List Arrival)
    (es : List (Pair × Held)) (begun : ℕ) : Type 0 where
  pub place : ℕ → ℕ
  pub within : (n : ℕ) → n < begun → place n < length arrivals + 1
  pub order : AreInOrder place arrivals begun fs
  pub own : IsBegunAt place (arrivals ++ x ∷ []) begun number (taken ++ x ∷ [])
  pub left : (k : Pair) (c : Held) (rest : List Arrival) → same_pair k p ≡ false → lookup (same_pair k) es ≡ Some c → IsShared k arrivals fs rest
      → IsBegunAt place arrivals begun c.value.number rest

-- ---- the rows

-- The connection took these segments, and this is its report. Its rows that weren't told before are told right before the report, with the same packet,
-- and none comes after it.
pub record IsAfterRows (h : Heading) (terms : Terms) (packet : ℕ → ℕ) (parts : List Part) (taken : List Arrival) (r : Report) : Type 0 where
  pub before : List Part
  pub rows : List Shown
  pub after : List Part
  pub is : parts ≡ before ++ OfRows rows ∷ OfReport r ∷ after
  pub told_with : packet (length before) ≡ packet (length before + 1)
  pub had : AreRowsAfter h terms taken [] (rows_of h.connection before)
  pub none : rows_of h.connection after ≡ []

-- These are the rows of a connection that is over: those of its turns, in order, and then those of its end.
pub record AreAllRows (h : Heading) (turns : List Turn) (a b : Past) (t : Talk) (rows : List Shown) : Type 0 where
  pub shown : List Shown
  pub last : List Shown
  pub is : rows ≡ shown ++ last
  pub are_shown : AreTurnRows h turns shown
  pub are_last : AreEndRows h a b t last

abbrev pub AreRowsBy : Form → (ℕ → ℕ) → List Part → Terms → (from number : ℕ) → List Arrival → Fate → Type 0
AreRowsBy form packet parts terms from number taken (Reported r) =
    let h = heading_of form number from in
    (i : IsReported terms from number taken r) × AreAllRows h i.turns i.a i.b i.talk (rows_of number parts) × IsAfterRows h terms packet parts taken r
    × AreToldInTime h terms packet parts taken
AreRowsBy form packet parts terms from number taken Silent = rows_of number parts ≡ []
AreRowsBy form packet parts terms from number taken Lost =
    (ran_out : Bool) × AreRowsSoFar (heading_of form number from) terms packet parts taken [] ran_out

-- The rows of this connection among the parts are those of its turns, of both sides in the order in which they came, and those of its end. Those that
-- come with a segment are told with its packet, and the others with the report. If memory ran out with it, they are those of the segments before.
abbrev pub AreRowsOf : Form → (ℕ → ℕ) → List Part → Terms → ℕ → Finished → Type 0
AreRowsOf form packet parts terms from f = f.number < 2 ^ 64 - 1 → AreRowsBy form packet parts terms from f.number f.taken f.fate

-- These parts are told. Their rows are those of the connections that are over, and there is none of one that hasn't begun.
pub record AreRowed (form : Form) (packet : ℕ → ℕ) (parts : List Part) (text : List ℕ) (terms : Terms) (from begun : ℕ) (fs : List Finished) : Type 0 where
  pub parts_are : ArePartsOf form (reports_of fs) text parts
  pub over : All (AreRowsOf form packet parts terms from) fs
  pub none : (n : ℕ) → begun ≤ n → n < 2 ^ 64 - 1 → rows_of n parts ≡ []

-- The connection that isn't over took these segments, and the rows are those of its turns; or there is none.
abbrev pub IsLeftShown : Form → (ℕ → ℕ) → List Part → Terms → (from : ℕ) → List Arrival → Option Held → Type 0
IsLeftShown form packet parts terms from taken (Some c) = IsShowing form packet parts terms from taken [] c.value
IsLeftShown form packet parts terms from taken None = Unit {0}

-- The connection with this number, which began at the number's place, isn't over: it took the rest of the segments between its ends, and these are its
-- rows so far.
pub record IsGoing (form : Form) (packet : ℕ → ℕ) (parts : List Part) (terms : Terms) (from : ℕ) (place : ℕ → ℕ) (begun : ℕ) (arrivals : List Arrival)
    (fs : List Finished) (n : ℕ) : Type 0 where
  pub pair : Pair
  pub taken : List Arrival
  pub share : IsShared pair arrivals fs taken
  pub began : IsBegunAt place arrivals begun n taken
  pub ran_out : Bool
  pub rows : AreRowsSoFar (heading_of form n from) terms packet parts taken [] ran_out

-- The rows of the connection between two ends that isn't over, if there is one, are those of the segments that it took.
pub record IsRowShare (form : Form) (packet : ℕ → ℕ) (parts : List Part) (terms : Terms) (from : ℕ) (arrivals : List Arrival) (fs : List Finished)
    (k : Pair) (left : Option Held) : Type 0 where
  pub taken : List Arrival
  pub share : IsShared k arrivals fs taken
  pub is : IsLeftShown form packet parts terms from taken left

-- The rows among these parts are those of all connections, of which these aren't over.
pub record IsRowing (form : Form) (packet : ℕ → ℕ) (parts : List Part) (text : List ℕ) (terms : Terms) (from begun : ℕ) (arrivals : List Arrival)
    (fs : List Finished) (es : List (Pair × Held)) : Type 0 where
  pub rowed : AreRowed form packet parts text terms from begun fs
  pub shares : (k : Pair) → IsRowShare form packet parts terms from arrivals fs k (lookup (same_pair k) es)

-- The connection between the ends p takes the segment x next, and isn't among the others.
pub record IsRowingTo (form : Form) (packet : ℕ → ℕ) (parts : List Part) (text : List ℕ) (terms : Terms) (from begun : ℕ) (arrivals : List Arrival)
    (fs : List Finished) (x : Arrival) (p : Pair) (taken : List Arrival) (c : Connection) (es : List (Pair × Held)) : Type 0 where
  pub rowed : AreRowed form packet parts text terms from begun fs
  pub own : IsShowing form packet parts terms from taken (x ∷ []) c
  pub others : (k : Pair) → same_pair k p ≡ false → IsRowShare form packet parts terms from arrivals fs k (lookup (same_pair k) es)

-- ---- when parts are told

-- The part at each place was told with the packet of this number, and none before one of an earlier packet. So many packets came.
pub record AreTimed (packet : ℕ → ℕ) (number : ℕ) (parts : List Part) : Type 0 where
  pub ascending : (m n : ℕ) → m < n → n < length parts → packet m ≤ packet n
  pub within : (n : ℕ) → n < length parts → packet n ≤ number

-- A connection that had ended is told with the packet that shows that it is over, one that is given up with the packet with which there were too many,
-- one that another follows with the first segment of that, and one that is left at the end with the last packet, which has this number.
abbrev pub IsToldAt : (number : ℕ) → Cause → ℕ → Type 0
IsToldAt number Final packet = packet ≡ number
IsToldAt number (Ended at) packet = packet ≡ at.packet
IsToldAt number (Crowded ended at) packet = packet ≡ at.packet
IsToldAt number (Before x) packet = packet ≡ x.when.packet

abbrev pub IsReportedAt : (ℕ → ℕ) → (number : ℕ) → List Part → Cause → Fate → Type 0
IsReportedAt packet number parts cause (Reported r) =
    (before : List Part) × (after : List Part) × (parts ≡ before ++ OfReport r ∷ after) × IsToldAt number cause (packet (length before))
IsReportedAt packet number parts cause Silent = Unit {0}
IsReportedAt packet number parts cause Lost = Unit {0}

abbrev pub IsReportedWith : (ℕ → ℕ) → (number : ℕ) → List Part → Finished → Type 0
IsReportedWith packet number parts f = IsReportedAt packet number parts f.cause f.fate

-- These parts, and the reports on these connections, were told with packets of these numbers. The last packet that came has this one.
pub record AreToldWith (packet : ℕ → ℕ) (number : ℕ) (parts : List Part) (fs : List Finished) : Type 0 where
  pub timed : AreTimed packet number parts
  pub reports : All (IsReportedWith packet number parts) fs

-- The connection between the ends p may be over for this reason. These packets and segments came.
pub record MayEnd (ph : Phase) (clock : Clock) (came : List Arrival) (cause : Cause) (p : Pair) (c : Connection) : Type 0 where
  pub may_be : MayBe ph cause
  pub parted : IsParted cause (coming ph p)
  pub why : is_lost c.talk ≡ false → (a b : Past) → IsTalk a b c.talk → IsWhy cause a b c.talk
  pub why_lost : is_lost c.talk ≡ true → IsWhyLost cause
  pub timely : IsTimelyBy clock came cause
  pub told_at : IsToldAt clock.number cause clock.number

-- ---- what was handed out so far

-- The connection with this number, which began at the number's place, isn't over. Of these segments between its ends it took a first part, and its
-- opening may have been ended then: these bytes of its side's stream had been handed out.
pub record IsSentSoFar (place : ℕ → ℕ) (begun : ℕ) (terms : Terms) (arrivals : List Arrival) (fs : List Finished) (n : ℕ) (side : Side)
    (bytes : List ℕ) : Type 0 where
  pub pair : Pair
  pub taken : List Arrival
  pub share : IsShared pair arrivals fs taken
  pub began : IsBegunAt place arrivals begun n taken
  pub ended : Bool
  pub sent : WasSent ended side bytes terms taken []

-- So many connections have begun, each after those of lower numbers. If a stream is told, this is that of a connection that is over, or what was handed
-- out so far of one that isn't; or nothing.
pub record IsStreamSoFar (form : Form) (told : List ℕ) (terms : Terms) (from : ℕ) (arrivals : List Arrival) (fs : List Finished) : Type 0 where
  pub over : All (IsSentBy form told terms from) fs
  pub begun : ℕ
  pub place : ℕ → ℕ
  pub order : AreInOrder place arrivals begun fs
  pub left : (n : ℕ) (side : Side) → form.stream ≡ Some (n, side) → n < 2 ^ 64 - 1 → count_over n fs ≡ 0
      → (told ≡ []) ⊎ IsSentSoFar place begun terms arrivals fs n side told

-- ---- while a capture is read

-- what was seen of the target before, and the time of the first packet
pub record Since : Type 0 where
  pub target : TargetSeen
  pub from : ℕ

abbrev pub since : TargetSeen → ℕ → Since
since target from = record { target = target; from = from }

-- what is known of the connections besides their bytes, and how they are told
pub record Asked : Type 0 where
  pub terms : Terms
  pub form : Form

abbrev pub asked_of : Connections → Asked
asked_of run = record { terms = run.terms; form = run.teller.form }

-- what is written, and what is kept
abbrev pub told_by : List ℕ → Connections → List ℕ
told_by written run = written ++ run.teller.text.items

-- The connections that are over are told.
pub record IsKnown (start : Since) (now : TargetSeen) (fs : List Finished) (written : List ℕ) (run : Connections) : Type 0 where
  pub tells : Tells start.target now run.teller (reports_of fs) written
  pub finished : All (IsFinished run.terms start.from) fs
  pub lost : run.lost ≡ losses_of fs

-- the stream that is told, or none
abbrev pub Streams : ℕ → List ℕ → List Finished → List (Pair × Held) → Connections → Type 0
Streams from written fs es run = IsStreaming run.teller.form (told_by written run) run.terms from run.begun fs es

abbrev pub Shares : List ℕ → List Arrival → List Finished → Connections → Pair → Option Held → Type 0
Shares written arrivals fs run k left = IsShare run.teller.form (told_by written run) run.terms arrivals fs k left

-- the rows that are told
abbrev pub Rows : ℕ → (ℕ → ℕ) → List Part → List ℕ → List Arrival → List Finished → List (Pair × Held) → Connections → Type 0
Rows from packet parts written arrivals fs es run =
    IsRowing run.teller.form packet parts (told_by written run) run.terms from run.begun arrivals fs es

-- These packets came, and these segments were taken. These connections, no two of the same ends, aren't over, and the others are told. All of them
-- have begun.
pub record FollowsIn (ph : Phase) (start : Since) (now : TargetSeen) (clock : Clock) (arrivals : List Arrival) (es : List (Pair × Held)) (run : Connections)
    : Type 0 where
  pub fs : List Finished
  pub written : List ℕ
  pub known : IsKnown start now fs written run
  pub begun : run.begun ≡ min (length fs + length es) (2 ^ 64 - 1)
  pub apart : IsApart es
  pub streams : Streams start.from written fs es run
  pub shared : (k : Pair) → Shares written arrivals fs run k (lookup (same_pair k) es)
  pub parts : List Part
  pub packet : ℕ → ℕ
  pub rows : Rows start.from packet parts written arrivals fs es run
  pub parting : AreParts ph arrivals fs
  pub order : AreBegun arrivals fs es run.begun
  pub last : ComeLast ph fs es
  pub timely : All (IsTimely clock) fs
  pub times : AreToldWith packet clock.number parts fs

-- As FollowsIn, and the capture is still read.
abbrev pub Follows : Since → TargetSeen → Clock → List Arrival → List (Pair × Held) → Connections → Type 0
Follows start now clock arrivals es run = FollowsIn During start now clock arrivals es run

-- These packets and segments came. Connections are over and told, the others are given up.
pub record Stops (start : Since) (now : TargetSeen) (clock : Clock) (arrivals : List Arrival) (run : Connections) : Type 0 where
  pub fs : List Finished
  pub written : List ℕ
  pub known : IsKnown start now fs written run
  pub so_far : IsStreamSoFar run.teller.form (told_by written run) run.terms start.from arrivals fs
  pub shared : (k : Pair) → (rest : List Arrival) × IsShared k arrivals fs rest
  pub timely : All (IsTimely clock) fs

-- after a step
abbrev pub GoesIn : {T E : Type 0} → Phase → Since → TargetSeen → Clock → List Arrival → List (Pair × Held) → Connections → Result T E → Type 0
GoesIn ph start now clock arrivals es run (Ok x) = FollowsIn ph start now clock arrivals es run
GoesIn ph start now clock arrivals es run (Err e) = Stops start now clock arrivals run

abbrev pub Goes : {T E : Type 0} → Since → TargetSeen → Clock → List Arrival → List (Pair × Held) → Connections → Result T E → Type 0
Goes start now clock arrivals es run r = GoesIn During start now clock arrivals es run r

-- The next segment x is of this connection, which is not in the table.
pub record Holds (start : Since) (now : TargetSeen) (clock : Clock) (arrivals : List Arrival) (x : Arrival) (p : Pair) (c : Held) (es : List (Pair × Held))
    (run : Connections) : Type 0 where
  pub fs : List Finished
  pub written : List ℕ
  pub known : IsKnown start now fs written run
  pub begun : run.begun ≡ min (length fs + (length es + 1)) (2 ^ 64 - 1)
  pub streams : Streams start.from written fs ((p, c) ∷ es) run
  pub taken : List Arrival
  pub is : IsOpen run.terms taken (x ∷ []) c.value
  pub sends : IsSending run.teller.form (told_by written run) run.terms taken (x ∷ []) c.value
  pub share : IsShared p arrivals fs taken
  pub absent : lookup (same_pair p) es ≡ None
  pub apart : IsApart es
  pub others : (k : Pair) → same_pair k p ≡ false → Shares written arrivals fs run k (lookup (same_pair k) es)
  pub parts : List Part
  pub packet : ℕ → ℕ
  pub rows : IsRowingTo run.teller.form packet parts (told_by written run) run.terms start.from run.begun arrivals fs x p taken c.value es
  pub parting : AreParts (Coming p x) arrivals fs
  pub order : AreBegunTo arrivals fs x p c.value.number taken es run.begun
  pub last : AreNotFinal fs
  pub timely : All (IsTimely clock) fs
  pub times : AreToldWith packet clock.number parts fs

-- The connection of the next segment x was found or begun; or memory ran out.
abbrev pub Finds : {E : Type 0} → Since → TargetSeen → Clock → List Arrival → Arrival → Pair → List (Pair × Held) → Connections → Result Held E → Type 0
Finds start now clock arrivals x p es run (Ok c) = Holds start now clock arrivals x p c es run
Finds start now clock arrivals x p es run (Err e) = Stops start now clock arrivals run
