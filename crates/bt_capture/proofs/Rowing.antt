-- The rows that are told of each connection.
use Rattle.bt_talk.specs.declared.terms.Terms.{Terms}
use Rattle.std.proofs.Common.{◌≡◌, ◌∙◌, ◌⊎◌, ◌==◌, ℕ, ◌+◌, ◌-◌, ◌^◌, ◌<◌, ◌≤◌, min, length, Bool, true, false, List, [], ◌∷◌, ◌++◌, append-nil, append_assoc}
use Rattle.std.proofs.Common.{Option, Some, None, is_some, unwrap_or, if◌then◌else◌, refl, sym, ap, subst, arith, inl, inr}
use Rattle.std.specs.List.{All, filter, flat_map}
use Rattle.std.specs.Map.{lookup}
use Rattle.std.proofs.lemmas.Bool.{cases_Bool}
use Rattle.std.proofs.lemmas.Grind.{flat_map-append}
use Rattle.std.proofs.lemmas.List.{append_cancel_left, length-append}
use Rattle.std.proofs.lemmas.List.Elements.{All-append, All-cons, All-head, All-nil, All-push, All-tail, filter-append}
use Rattle.bt_remarks.specs.declared.events.Side.{Side}
use Rattle.bt_remarks.specs.declared.events.Side.TheVariants.{A, B}
use Rattle.bt_remarks.specs.Said.{Told}
use Rattle.bt_tcp.specs.declared.covered.Gap.{Gap}
use Rattle.bt_rows.specs.declared.parts.Means.{Means}
use Rattle.bt_rows.specs.declared.rows.Deed.TheVariants as deed
use Rattle.bt_wire.specs.declared.item.Item.{Item}
use Rattle.bt_wire.specs.declared.item.Refusal.{Refusal}
use Rattle.bt_talk.specs.declared.closing.When.{When}
use Rattle.bt_talk.specs.declared.rows.Heading.{Heading}
use Rattle.bt_talk.specs.Courses.{end_of, gap_rows, no_remarks, refusal_rows, rows_at}
use Rattle.bt_talk.specs.Inside.{AreEndRows, AreEndRowsBy, AreLastRows, inside_rows}
use Rattle.bt_talk.specs.Pasts.{Past}
use Rattle.bt_talk.specs.Rows.{Shown, row_at, shown_texts}
use Rattle.bt_talk.specs.Shown.{AreItemRows, AreRowsOfTurn, AreTurnRows, Turn, closing_rows, deed_rows, told_by}
use Rattle.bt_talk.specs.Talks.{is_lost}
use Rattle.bt_talk.specs.declared.talk.Talk.{Talk}
use Rattle.bt_talk.specs.Watching.{told_of}
use Rattle.bt_report.specs.declared.report.Report.{Report}
use Rattle.bt_capture.specs.Arrivals.{Arrival, is_between, pair_of}
use Rattle.bt_capture.specs.Connections.{IsFirst}
use Rattle.bt_capture.specs.Following.{AreAllRows, AreRowsBy, AreRowsOf, Fate, Finished, IsAfterRows, IsLeftShown, IsRowShare, IsRowing, IsRowingTo, IsShared}
use Rattle.bt_capture.specs.Following.{AreBegun, AreNumbered, IsBegunAt, IsGoing, Lost, Reported, Silent, count_open, count_over, reports_of, taken_between}
use Rattle.bt_capture.specs.Forms.{is_stream, showing_by, side_of, wanted_by}
use Rattle.bt_capture.specs.Rowed.{AreOf, AreGone, AreRowsAfter, AreRowsSoFar, AreToldInTime, AreToldWithSegment, HasShown, IsShowing, heading_of}
use Rattle.bt_capture.specs.Tables.{Held, IsApart, same_pair}
use Rattle.bt_capture.specs.Tellings.{ArePartsOf, OfBytes, OfReport, OfRows, Part, is_row_of, rows_of, part_text, report_by, report_of_part, rows_of_part}
use Rattle.bt_capture.specs.declared.connection.Connection.{Connection}
use Rattle.bt_capture.specs.declared.ending.Form.{Form}
use Rattle.bt_capture.specs.declared.pair.Pair.{Pair}
use Rattle.bt_capture.proofs.Entries.{same_is, same_self}
use Rattle.bt_capture.proofs.Order.{placed, placed_before, placed_now}
use Rattle.bt_capture.proofs.Numbers.{not_equal, one_if, one_if_began, same_counts, same_number, counted_cons}
use Rattle.bt_capture.proofs.Shares.{IsIts, filter_and, filter_less, made_before, made_ready, taken_and, taken_less}
use Rattle.bt_capture.proofs.Streaming.{find_open, other_open}

-- ---- rows of one connection

pub none_of : (n : ℕ) → AreOf n []
none_of n = All-nil (λ s. s.row.connection ≡ n)

all_of_item : (h : Heading) (when : When) (side : Side) (known : Bool) (xs : List (ℕ × Item)) (events : List Told) (rows : List Shown)
    → AreItemRows h when side known xs events rows → AreOf h.connection rows
all_of_item h when side known [] events rows i = subst (AreOf h.connection) (sym i) (All-nil (λ s. s.row.connection ≡ h.connection))
all_of_item h when side known (x ∷ xs) events [] i = absurd i
all_of_item h when side known (x ∷ xs) events (r ∷ rs) i =
    All-cons (λ s. s.row.connection ≡ h.connection) r rs (ap (λ (s : Shown). s.row.connection) i.0.is)
    (all_of_item h when side known xs (told_of side known x ∷ events) rs i.1)

one_of : (n : ℕ) (s : Shown) → s.row.connection ≡ n → AreOf n (s ∷ [])
one_of n s e = All-cons (λ r. r.row.connection ≡ n) s [] e (All-nil (λ r. r.row.connection ≡ n))

all_of_refusal : (h : Heading) (when : When) (side : Side) (before now : Option Refusal) → AreOf h.connection (refusal_rows h when side before now)
all_of_refusal h when side None None = none_of h.connection
all_of_refusal h when side None (Some r) = one_of h.connection (row_at h when side r.at (deed.Refused r) no_remarks) refl
all_of_refusal h when side (Some r) now = none_of h.connection

all_of_close : (h : Heading) (when : When) (side : Side) (closed : Option (ℕ × Means)) → AreOf h.connection (closing_rows h when side closed)
all_of_close h when side None = none_of h.connection
all_of_close h when side (Some c) = one_of h.connection (row_at h when side c.0 (deed.Closed c.1) no_remarks) refl

all_of_turn : (h : Heading) (t : Turn) (events : List Told) (rows : List Shown) → AreRowsOfTurn h t events rows → AreOf h.connection rows
all_of_turn h t events rows i =
    let P : Shown → Type 0 = λ s. s.row.connection ≡ h.connection in
    let refusal = refusal_rows h t.when t.side None t.deeds.refused in
    let close = closing_rows h t.when t.side t.deeds.closed in
    subst (AreOf h.connection) (sym i.1) (All-append P i.0 (deed_rows h t.when t.side t.deeds) (all_of_item h t.when t.side t.known t.items events i.0 i.2)
    (All-append P refusal close (all_of_refusal h t.when t.side None t.deeds.refused) (all_of_close h t.when t.side t.deeds.closed)))

all_of_turns : (h : Heading) (turns : List Turn) (rows : List Shown) → AreTurnRows h turns rows → AreOf h.connection rows
all_of_turns h [] rows i = subst (AreOf h.connection) (sym i) (All-nil (λ s. s.row.connection ≡ h.connection))
all_of_turns h (t ∷ earlier) rows i =
    subst (AreOf h.connection) (sym i.2) (All-append (λ s. s.row.connection ≡ h.connection) i.0 i.1 (all_of_turns h earlier i.0 i.3)
    (all_of_turn h t (told_by earlier) i.1 i.4))

all_right : (n : ℕ) (xs ys : List Shown) → AreOf n (xs ++ ys) → AreOf n ys
all_right n [] ys i = i
all_right n (x ∷ xs) ys i = all_right n xs ys (All-tail (λ s. s.row.connection ≡ n) x (xs ++ ys) i)

-- Further ones are of it too.
pub more_of : (h : Heading) (turns : List Turn) (before rows : List Shown) → AreTurnRows h turns (before ++ rows) → AreOf h.connection rows
more_of h turns before rows i = all_right h.connection before rows (all_of_turns h turns (before ++ rows) i)

all_at : (n : ℕ) (when : Option When) (row : When → Shown) → ((w : When) → (row w).row.connection ≡ n) → AreOf n (rows_at when row)
all_at n None row e = none_of n
all_at n (Some when) row e = one_of n (row when) (e when)

all_of_inside : (h : Heading) (when : Option When) (side : Side) (r : Option Refusal) → AreOf h.connection (inside_rows h when side r)
all_of_inside h when side None = none_of h.connection
all_of_inside h when side (Some r) = all_at h.connection when (λ w. row_at h w side r.at (deed.Refused r) no_remarks) (λ w. refl)

all_of_gap : (h : Heading) (when : Option When) (side : Side) (start : ℕ) (gap : Option Gap) → AreOf h.connection (gap_rows h when side start gap)
all_of_gap h when side start None = none_of h.connection
all_of_gap h when side start (Some gap) = all_at h.connection when (λ w. row_at h w side (gap.place - start) (deed.Gap gap.length) no_remarks) (λ w. refl)

all_of_last : (h : Heading) (side : Side) (a b : Past) (t : Talk) (rows : List Shown) → AreLastRows h side a b t rows → AreOf h.connection rows
all_of_last h side a b t rows i =
    let end = end_of side t.courses in
    let start = unwrap_or i.start 0 in
    subst (AreOf h.connection) (sym i.is) (All-append (λ s. s.row.connection ≡ h.connection) (inside_rows h end side i.refusal)
    (gap_rows h end side start i.gaps.first) (all_of_inside h end side i.refusal) (all_of_gap h end side start i.gaps.first))

all_of_end : (begun : Bool) (h : Heading) (a b : Past) (t : Talk) (rows : List Shown) → AreEndRowsBy begun h a b t rows → AreOf h.connection rows
all_of_end false h a b t rows i = subst (AreOf h.connection) (sym i) (none_of h.connection)
all_of_end true h a b t rows i =
    subst (AreOf h.connection) (sym i.4) (All-append (λ s. s.row.connection ≡ h.connection) i.0 i.1 (all_of_last h A a b t i.0 i.2)
    (all_of_last h B a b t i.1 i.3))

-- So are further ones, and those of the end.
pub more_and_end : (h : Heading) (turns : List Turn) (before rows : List Shown) (a b : Past) (t : Talk) (last : List Shown)
    → AreTurnRows h turns (before ++ rows) → AreEndRows h a b t last → AreOf h.connection (rows ++ last)
more_and_end h turns before rows a b t last i end =
    All-append (λ s. s.row.connection ≡ h.connection) rows last (more_of h turns before rows i) (all_of_end end.0 h a b t last end.2)

is_equal : (m n : ℕ) → m ≡ n → (m == n) ≡ true
is_equal m n e = elim (cases_Bool (m == n)) [ inl t ↦ t | inr f ↦ absurd (not_equal m n f e) ]

is_other : (m n : ℕ) → (m ≡ n → ⊥) → (m == n) ≡ false
is_other m n other = elim (cases_Bool (m == n)) [ inl t ↦ absurd (other (same_number m n t)) | inr f ↦ f ]

own_rows : (n : ℕ) (rows : List Shown) → AreOf n rows → filter (is_row_of n) rows ≡ rows
own_rows n [] i = refl
own_rows n (r ∷ rs) i =
    let P : Shown → Type 0 = λ s. s.row.connection ≡ n in
    let e : is_row_of n r ≡ true = is_equal r.row.connection n (All-head P r rs i) in
    (rw e refl) ∙ ap (λ (l : List Shown). r ∷ l) (own_rows n rs (All-tail P r rs i))

other_rows : (n m : ℕ) (rows : List Shown) → (m ≡ n → ⊥) → AreOf n rows → filter (is_row_of m) rows ≡ []
other_rows n m [] other i = refl
other_rows n m (r ∷ rs) other i =
    let P : Shown → Type 0 = λ s. s.row.connection ≡ n in
    let e : is_row_of m r ≡ false = is_other r.row.connection m (λ same. other (sym same ∙ All-head P r rs i)) in
    (rw e refl) ∙ other_rows n m rs other (All-tail P r rs i)

nothing_holds : {X : Type 0} (before : List X) (x : X) (after : List X) → [] ≡ before ++ x ∷ after → ⊥
nothing_holds [] x after e = cc
nothing_holds (b ∷ bs) x after e = cc

longer : (size k : ℕ) (p : Part) (after : List Part) → size ≡ k + length (p ∷ after) → k < size
longer size k p after e = let more : length (p ∷ after) ≡ length after + 1 = omega arith in omega (arith, e, more)

-- ---- parts are added

-- Parts follow. The connection with this number gets these rows, and no other one gets any.
pub record AddsRows (n : ℕ) (rows : List Shown) (packet packet' : ℕ → ℕ) (parts parts' : List Part) : Type 0 where
  pub own : rows_of n parts' ≡ rows_of n parts ++ rows
  pub others : (m : ℕ) → (m ≡ n → ⊥) → rows_of m parts' ≡ rows_of m parts
  pub more : List Part
  pub is : parts' ≡ parts ++ more
  pub none : (m : ℕ) → (m ≡ n → ⊥) → rows_of m more ≡ []
  pub same : (m : ℕ) → m < length parts → packet' m ≡ packet m

pub adds_nothing : (n : ℕ) (packet : ℕ → ℕ) (parts : List Part) → AddsRows n [] packet packet parts parts
adds_nothing n packet parts = record {
  own = sym (append-nil (rows_of n parts));
  others = λ m other. refl;
  more = [];
  is = sym (append-nil parts);
  none = λ m other. refl;
  same = λ m lt. refl;
}

pub rows_and : (m : ℕ) (parts more : List Part) → rows_of m (parts ++ more) ≡ rows_of m parts ++ rows_of m more
rows_and m parts more =
    ap (filter (is_row_of m)) (flat_map-append rows_of_part parts more)
    ∙ filter-append (is_row_of m) (flat_map rows_of_part parts) (flat_map rows_of_part more)

pub adds_by : (n : ℕ) (rows : List Shown) (packet : ℕ → ℕ) (number : ℕ) (parts more : List Part) → flat_map rows_of_part more ≡ rows → AreOf n rows
    → AddsRows n rows packet (placed packet (length parts) number) parts (parts ++ more)
adds_by n rows packet number parts more is all =
    let none : (m : ℕ) → (m ≡ n → ⊥) → rows_of m more ≡ [] = λ m other. ap (filter (is_row_of m)) is ∙ other_rows n m rows other all in
    record {
      own = rows_and n parts more ∙ ap (λ (l : List Shown). rows_of n parts ++ filter (is_row_of n) l) is
          ∙ ap (λ (l : List Shown). rows_of n parts ++ l) (own_rows n rows all);
      others = λ m other. rows_and m parts more ∙ ap (λ (l : List Shown). rows_of m parts ++ l) (none m other) ∙ append-nil (rows_of m parts);
      more = more;
      is = refl;
      none = none;
      same = λ m lt. placed_before packet (length parts) number m lt;
    }

no_stream_none : (n : ℕ) (s : Option (ℕ × Side)) → is_some s ≡ false → side_of n s ≡ None
no_stream_none n None e = refl
no_stream_none n (Some s) e = absurd (let f : true ≡ false = e in cc)

bytes_by : (on : Bool) (bytes : List ℕ) → (on ≡ false → bytes ≡ []) → (if on then bytes else []) ≡ bytes
bytes_by true bytes none = refl
bytes_by false bytes none = sym (none refl)

-- Bytes are told of a stream only.
pub bytes_text : (form : Form) (n : ℕ) (bytes : List ℕ) → (wanted_by form n ≡ None → bytes ≡ []) → part_text form (OfBytes bytes) ≡ bytes
bytes_text form n bytes none = bytes_by (is_stream form) bytes (λ e. none (no_stream_none n form.stream e))

-- The text of further parts follows.
pub parts_more : (form : Form) (reports more_reports : List Report) (text more_text : List ℕ) (parts more : List Part)
    → flat_map report_of_part more ≡ more_reports → flat_map (part_text form) more ≡ more_text → ArePartsOf form reports text parts
    → ArePartsOf form (reports ++ more_reports) (text ++ more_text) (parts ++ more)
parts_more form reports more_reports text more_text parts more of_reports of_text i = (
  flat_map-append report_of_part parts more ∙ ap (λ (l : List Report). l ++ flat_map report_of_part more) i.0
      ∙ ap (λ (l : List Report). reports ++ l) of_reports,
  ap (λ (l : List ℕ). l ++ more_text) i.1 ∙ ap (λ (l : List ℕ). flat_map (part_text form) parts ++ l) (sym of_text)
      ∙ sym (flat_map-append (part_text form) parts more),
)

pub parts_same : (form form' : Form) (reports reports' : List Report) (text text' : List ℕ) (parts : List Part) → form' ≡ form → reports' ≡ reports
    → text' ≡ text → ArePartsOf form reports text parts → ArePartsOf form' reports' text' parts
parts_same form form' reports reports' text text' parts a b d i =
    subst (λ x. ArePartsOf x reports' text' parts) (sym a) (subst (λ x. ArePartsOf form x text' parts) (sym b)
    (subst (λ x. ArePartsOf form reports x parts) (sym d) i))

-- the parts of a report: bytes of a stream, rows, and the report
abbrev pub parts_of_report : List ℕ → List Shown → Report → List Part
parts_of_report bytes rows r = OfBytes bytes ∷ OfRows rows ∷ OfReport r ∷ []

pub rows_of_report : (bytes : List ℕ) (rows : List Shown) (r : Report) → flat_map rows_of_part (parts_of_report bytes rows r) ≡ rows
rows_of_report bytes rows r = append-nil rows

pub text_of_report : (form : Form) (n : ℕ) (bytes : List ℕ) (rows : List Shown) (r : Report) → (wanted_by form n ≡ None → bytes ≡ [])
    → flat_map (part_text form) (parts_of_report bytes rows r) ≡ (bytes ++ shown_texts (showing_by form) rows) ++ report_by form r
text_of_report form n bytes rows r none =
    let text : List ℕ = shown_texts (showing_by form) rows in
    ap (λ (l : List ℕ). l ++ (text ++ (report_by form r ++ []))) (bytes_text form n bytes none)
    ∙ ap (λ (l : List ℕ). bytes ++ (text ++ l)) (append-nil (report_by form r)) ∙ sym (append_assoc bytes text (report_by form r))

-- the parts of a segment: rows, and bytes of a stream
abbrev pub parts_of_segment : List ℕ → List Shown → List Part
parts_of_segment bytes rows = OfRows rows ∷ OfBytes bytes ∷ []

pub rows_of_segment : (bytes : List ℕ) (rows : List Shown) → flat_map rows_of_part (parts_of_segment bytes rows) ≡ rows
rows_of_segment bytes rows = append-nil rows

pub text_of_segment : (form : Form) (n : ℕ) (bytes : List ℕ) (rows : List Shown) → (wanted_by form n ≡ None → bytes ≡ [])
    → flat_map (part_text form) (parts_of_segment bytes rows) ≡ shown_texts (showing_by form) rows ++ bytes
text_of_segment form n bytes rows none =
    ap (λ (l : List ℕ). shown_texts (showing_by form) rows ++ l) (append-nil (part_text form (OfBytes bytes)) ∙ bytes_text form n bytes none)

-- ---- other connections

-- A part is one of the first ones, or the last.
split_last : {X : Type 0} (xs : List X) (x : X) (before : List X) (y : X) (after : List X) → xs ++ x ∷ [] ≡ before ++ y ∷ after
    → ((rest : List X) × (xs ≡ before ++ y ∷ rest)) ⊎ ((before ≡ xs) × (y ≡ x))
split_last [] x [] y after e = let same : y ≡ x = cc in inr (refl, same)
split_last [] x (b ∷ bs) y after e = absurd (nothing_holds bs y after (cc))
split_last (z ∷ xs) x [] y after e = let same : z ≡ y = cc in inl (xs, ap (λ w. w ∷ xs) same)
split_last (z ∷ xs) x (b ∷ bs) y after e =
    let same : z ≡ b = cc in
    let rest : xs ++ x ∷ [] ≡ bs ++ y ∷ after = cc in
    elim (split_last xs x bs y after rest) [
      | inl i ↦ inl (i.0, ap (λ l. z ∷ l) i.1 ∙ ap (λ w. w ∷ (bs ++ y ∷ i.0)) same)
      | inr i ↦ inr (ap (λ l. b ∷ l) i.0 ∙ ap (λ w. w ∷ xs) (sym same), i.1)
    ]

-- What was told with its segments stays.
pub in_time_on : (h : Heading) (terms : Terms) (packet packet' : ℕ → ℕ) (parts more : List Part) (taken : List Arrival)
    → ((m : ℕ) → m < length parts → packet' m ≡ packet m) → AreToldInTime h terms packet parts taken → AreToldInTime h terms packet' (parts ++ more) taken
in_time_on h terms packet packet' parts more taken same i early x late e =
    let t = i early x late e in
    let size = ap (λ (l : List Part). length l) t.is ∙ length-append t.before (OfRows t.rows ∷ t.after) in
    record {
      before = t.before;
      rows = t.rows;
      after = t.after ++ more;
      is = ap (λ (l : List Part). l ++ more) t.is ∙ append_assoc t.before (OfRows t.rows ∷ t.after) more;
      told_with = same (length t.before) (longer (length parts) (length t.before) (OfRows t.rows) t.after size) ∙ t.told_with;
      had = t.had;
      has = t.has;
    }

-- Before the first segment.
pub in_time_none : (h : Heading) (terms : Terms) (packet : ℕ → ℕ) (parts : List Part) (taken : List Arrival) → taken ≡ []
    → AreToldInTime h terms packet parts taken
in_time_none h terms packet parts taken none early x late e = absurd (nothing_holds early x late (sym none ∙ e))

-- The rows of one more segment are told with it.
pub in_time_took : (h : Heading) (terms : Terms) (packet packet' : ℕ → ℕ) (parts more : List Part) (taken : List Arrival) (x : Arrival)
    → ((m : ℕ) → m < length parts → packet' m ≡ packet m) → AreToldInTime h terms packet parts taken
    → AreToldWithSegment h terms packet' (parts ++ more) taken x → AreToldInTime h terms packet' (parts ++ more) (taken ++ x ∷ [])
in_time_took h terms packet packet' parts more taken x same i now early y late e =
    elim (split_last taken x early y late e) [
      | inl s ↦ in_time_on h terms packet packet' parts more taken same i early y s.0 s.1
      | inr s ↦
          subst (λ l. AreToldWithSegment h terms packet' (parts ++ more) l y) (sym s.0)
          (subst (λ z. AreToldWithSegment h terms packet' (parts ++ more) taken z) (sym s.1) now)
    ]

-- No memory ran out.
pub in_time_of : (h : Heading) (terms : Terms) (packet : ℕ → ℕ) (parts : List Part) (taken more : List Arrival) (ran_out : Bool) → ran_out ≡ false
    → AreRowsSoFar h terms packet parts taken more ran_out → AreToldInTime h terms packet parts taken
in_time_of h terms packet parts taken more true e r = absurd (let f : true ≡ false = e in cc)
in_time_of h terms packet parts taken more false e r =
    let same : r.kept ≡ taken = sym (r.is ∙ ap (λ l. r.kept ++ l) r.are_gone ∙ append-nil r.kept) in
    subst (AreToldInTime h terms packet parts) same r.in_time

-- Parts follow that have no rows of it.
pub so_far_on : (h : Heading) (terms : Terms) (packet packet' : ℕ → ℕ) (parts parts' more_parts : List Part) (taken more : List Arrival) (ran_out : Bool)
    → parts' ≡ parts ++ more_parts → rows_of h.connection more_parts ≡ [] → ((m : ℕ) → m < length parts → packet' m ≡ packet m)
    → AreRowsSoFar h terms packet parts taken more ran_out → AreRowsSoFar h terms packet' parts' taken more ran_out
so_far_on h terms packet packet' parts parts' more_parts taken more ran_out e none same r =
    let n = h.connection in
    let rows : rows_of n parts ≡ rows_of n parts' =
    sym (ap (rows_of n) e ∙ rows_and n parts more_parts ∙ ap (λ (l : List Shown). rows_of n parts ++ l) none ∙ append-nil (rows_of n parts)) in
    record {
      kept = r.kept;
      gone = r.gone;
      is = r.is;
      are_gone = r.are_gone;
      rows = subst (AreRowsAfter h terms r.kept (r.gone ++ more)) rows r.rows;
      in_time = subst (λ l. AreToldInTime h terms packet' l r.kept) (sym e) (in_time_on h terms packet packet' parts more_parts r.kept same r.in_time);
    }

-- Memory had run out before the segment x, which is its own.
so_far_next : (h : Heading) (terms : Terms) (packet : ℕ → ℕ) (parts : List Part) (taken : List Arrival) (x : Arrival)
    → AreRowsSoFar h terms packet parts taken [] true → AreRowsSoFar h terms packet parts taken (x ∷ []) true
so_far_next h terms packet parts taken x r =
    let g = r.are_gone in
    let rows = rows_of h.connection parts in
    let was : AreRowsAfter h terms r.kept (g.0 ∷ g.1 ++ []) rows = subst (λ l. AreRowsAfter h terms r.kept (l ++ []) rows) g.2 r.rows in
    let m = made_before terms r.kept g.0 (g.1 ++ []) (g.1 ++ x ∷ []) was.0 was.1 in
    record {
      kept = r.kept;
      gone = r.gone;
      is = r.is;
      are_gone = g;
      rows = subst (λ l. AreRowsAfter h terms r.kept (l ++ x ∷ []) rows) (sym g.2) (was.0, m.0, subst (λ l. AreTurnRows h l rows) (sym m.1) was.2);
      in_time = r.in_time;
    }

-- It took the segment x then.
pub so_far_gone : (h : Heading) (terms : Terms) (packet packet' : ℕ → ℕ) (parts parts' more_parts : List Part) (taken : List Arrival) (x : Arrival)
    → parts' ≡ parts ++ more_parts → rows_of h.connection more_parts ≡ [] → ((m : ℕ) → m < length parts → packet' m ≡ packet m)
    → AreRowsSoFar h terms packet parts taken (x ∷ []) true → AreRowsSoFar h terms packet' parts' (taken ++ x ∷ []) [] true
so_far_gone h terms packet packet' parts parts' more_parts taken x e none same r =
    let on = so_far_on h terms packet packet' parts parts' more_parts taken (x ∷ []) true e none same r in
    let g = on.are_gone in
    record {
      kept = on.kept;
      gone = on.gone ++ x ∷ [];
      is = ap (λ l. l ++ x ∷ []) on.is ∙ append_assoc on.kept on.gone (x ∷ []);
      are_gone = (g.0, g.1 ++ x ∷ [], ap (λ l. l ++ x ∷ []) g.2);
      rows = subst (λ l. AreRowsAfter h terms on.kept l (rows_of h.connection parts')) (sym (append-nil (on.gone ++ x ∷ []))) on.rows;
      in_time = on.in_time;
    }

-- Memory ran out with the segment x.
pub so_far_lost : (h : Heading) (terms : Terms) (packet packet' : ℕ → ℕ) (parts parts' more_parts : List Part) (taken : List Arrival) (x : Arrival)
    → parts' ≡ parts ++ more_parts → rows_of h.connection more_parts ≡ [] → ((m : ℕ) → m < length parts → packet' m ≡ packet m)
    → AreRowsSoFar h terms packet parts taken (x ∷ []) false → AreRowsSoFar h terms packet' parts' (taken ++ x ∷ []) [] true
so_far_lost h terms packet packet' parts parts' more_parts taken x e none same r =
    let on = so_far_on h terms packet packet' parts parts' more_parts taken (x ∷ []) false e none same r in
    record {
      kept = on.kept;
      gone = x ∷ [];
      is = ap (λ l. l ++ x ∷ []) (on.is ∙ ap (λ l. on.kept ++ l) on.are_gone ∙ append-nil on.kept);
      are_gone = (x, [], refl);
      rows = subst (λ l. AreRowsAfter h terms on.kept (l ++ x ∷ []) (rows_of h.connection parts')) on.are_gone on.rows;
      in_time = on.in_time;
    }

-- Its next segment isn't known, or it is x, after which nothing was taken.
so_far_of : (form : Form) (packet : ℕ → ℕ) (parts : List Part) (terms : Terms) (from : ℕ) (taken : List Arrival) (x : Arrival) (c : Connection)
    → IsIts x c → c.number < 2 ^ 64 - 1 → (ran_out : Bool) → is_lost c.talk ≡ ran_out → IsShowing form packet parts terms from taken [] c
    → AreRowsSoFar (heading_of form c.number from) terms packet parts taken (x ∷ []) ran_out
so_far_of form packet parts terms from taken x c its small true e i =
    let h = heading_of form c.number from in
    so_far_next h terms packet parts taken x (subst (AreRowsSoFar h terms packet parts taken []) e (i.3 small))
so_far_of form packet parts terms from taken x c its small false e i =
    let h = heading_of form c.number from in
    let g = i.1 e in
    record {
      kept = taken;
      gone = [];
      is = sym (append-nil taken);
      are_gone = refl;
      rows = (c.talk, made_ready terms taken x c (its.0 e) g.0, subst (AreTurnRows h g.0.made.turns) (sym (i.2 small)) g.1);
      in_time = in_time_of h terms packet parts taken [] (is_lost c.talk) e (i.3 small);
    }

showing_on : (form : Form) (packet packet' : ℕ → ℕ) (parts parts' : List Part) (terms : Terms) (from : ℕ) (taken more : List Arrival) (c : Connection)
    (n : ℕ) (rows : List Shown) → (c.number < 2 ^ 64 - 1 → c.number ≡ n → ⊥) → AddsRows n rows packet packet' parts parts'
    → IsShowing form packet parts terms from taken more c → IsShowing form packet' parts' terms from taken more c
showing_on form packet packet' parts parts' terms from taken more c n rows other adds i =
    let h = heading_of form c.number from in (
      i.0,
      i.1,
      λ small. adds.others c.number (other small) ∙ i.2 small,
      λ small. so_far_on h terms packet packet' parts parts' adds.more taken more (is_lost c.talk) adds.is (adds.none c.number (other small)) adds.same
          (i.3 small),
    )

-- Parts follow that have no rows of the connection.
after_more : (h : Heading) (terms : Terms) (packet packet' : ℕ → ℕ) (parts more : List Part) (taken : List Arrival) (r : Report)
    → rows_of h.connection more ≡ [] → ((m : ℕ) → m < length parts → packet' m ≡ packet m) → IsAfterRows h terms packet parts taken r
    → IsAfterRows h terms packet' (parts ++ more) taken r
after_more h terms packet packet' parts more taken r none same i =
    let n = h.connection in
    let k = length i.before in
    let size = ap (λ (l : List Part). length l) i.is ∙ length-append i.before (OfRows i.rows ∷ OfReport r ∷ i.after) in
    let least : 2 ≤ length (OfRows i.rows ∷ OfReport r ∷ i.after) = omega arith in
    record {
      before = i.before;
      rows = i.rows;
      after = i.after ++ more;
      is = ap (λ (l : List Part). l ++ more) i.is ∙ append_assoc i.before (OfRows i.rows ∷ OfReport r ∷ i.after) more;
      told_with = same k (omega (arith, size, least)) ∙ i.told_with ∙ sym (same (k + 1) (omega (arith, size, least)));
      had = i.had;
      none = rows_and n i.after more ∙ ap (λ (l : List Shown). l ++ rows_of n more) i.none ∙ none;
    }

by_same : (form : Form) (packet packet' : ℕ → ℕ) (parts more : List Part) (terms : Terms) (from n : ℕ) (taken : List Arrival) (end : Fate)
    → rows_of n more ≡ [] → ((m : ℕ) → m < length parts → packet' m ≡ packet m) → AreRowsBy form packet parts terms from n taken end
    → AreRowsBy form packet' (parts ++ more) terms from n taken end
by_same form packet packet' parts more terms from n taken (Reported r) none on i =
    let h = heading_of form n from in
    let same : rows_of n parts ≡ rows_of n (parts ++ more) =
    sym (rows_and n parts more ∙ ap (λ (l : List Shown). rows_of n parts ++ l) none ∙ append-nil (rows_of n parts)) in (
      i.0,
      subst (AreAllRows h i.0.turns i.0.a i.0.b i.0.talk) same i.1,
      after_more h terms packet packet' parts more taken r none on i.2,
      in_time_on h terms packet packet' parts more taken on i.3,
    )
by_same form packet packet' parts more terms from n taken Silent none on i =
    rows_and n parts more ∙ ap (λ (l : List Shown). l ++ rows_of n more) i ∙ none
by_same form packet packet' parts more terms from n taken Lost none on i =
    (i.0, so_far_on (heading_of form n from) terms packet packet' parts (parts ++ more) more taken [] i.0 refl none on i.1)

all_on : (form : Form) (packet packet' : ℕ → ℕ) (parts parts' : List Part) (terms : Terms) (from : ℕ) (fs : List Finished) (n : ℕ) (rows : List Shown)
    → (n < 2 ^ 64 - 1 → count_over n fs ≡ 0) → AddsRows n rows packet packet' parts parts' → All (AreRowsOf form packet parts terms from) fs
    → All (AreRowsOf form packet' parts' terms from) fs
all_on form packet packet' parts parts' terms from [] n rows none adds i = All-nil (AreRowsOf form packet' parts' terms from)
all_on form packet packet' parts parts' terms from (f ∷ fs) n rows none adds i =
    let number : Finished → ℕ = λ g. g.number in
    let cons = counted_cons number n f fs in
    let other : f.number < 2 ^ 64 - 1 → f.number ≡ n → ⊥ = λ small same.
    let below : n < 2 ^ 64 - 1 = subst (λ m. m < 2 ^ 64 - 1) same small in
    let no = none below in
    let self : one_if (f.number == n) ≡ 1 = subst (λ m. one_if (f.number == m) ≡ 1) same (same_counts f.number) in
    absurd (omega (arith, cons, no, self)) in
    let head : AreRowsOf form packet' parts' terms from f = λ small.
    subst (λ l. AreRowsBy form packet' l terms from f.number f.taken f.fate) (sym adds.is)
    (by_same form packet packet' parts adds.more terms from f.number f.taken f.fate (adds.none f.number (other small)) adds.same
    (All-head (AreRowsOf form packet parts terms from) f fs i small)) in
    All-cons (AreRowsOf form packet' parts' terms from) f fs head
    (all_on form packet packet' parts parts' terms from fs n rows (λ below. let no = none below in omega (arith, cons, no)) adds
    (All-tail (AreRowsOf form packet parts terms from) f fs i))

left_on : (form : Form) (packet packet' : ℕ → ℕ) (parts parts' : List Part) (terms : Terms) (from : ℕ) (taken : List Arrival) (n : ℕ) (rows : List Shown)
    (o : Option Held)
    → ((c : Held) → o ≡ Some c → c.value.number < 2 ^ 64 - 1 → c.value.number ≡ n → ⊥) → AddsRows n rows packet packet' parts parts'
    → IsLeftShown form packet parts terms from taken o → IsLeftShown form packet' parts' terms from taken o
left_on form packet packet' parts parts' terms from taken n rows None other adds i = i
left_on form packet packet' parts parts' terms from taken n rows (Some c) other adds i =
    showing_on form packet packet' parts parts' terms from taken [] c.value n rows (other c refl) adds i

-- ---- the connections together

module _ (form : Form) (terms : Terms) (from : ℕ) where
  abbrev pub OtherRows : (ℕ → ℕ) → List Part → List Arrival → List Finished → Pair → List (Pair × Held) → Type 0
  OtherRows packet parts came fs p es = (k : Pair) → same_pair k p ≡ false → IsRowShare form packet parts terms from came fs k (lookup (same_pair k) es)

  others_on : (packet packet' : ℕ → ℕ) (parts parts' : List Part) (came : List Arrival) (fs : List Finished) (n : ℕ) (rows : List Shown) (p : Pair)
      (es : List (Pair × Held))
      → (n < 2 ^ 64 - 1 → count_open n es ≡ 0) → AddsRows n rows packet packet' parts parts' → OtherRows packet parts came fs p es
      → OtherRows packet' parts' came fs p es
  others_on packet packet' parts parts' came fs n rows p es none adds others k apart =
      let s = others k apart in
      let other : (c : Held) → lookup (same_pair k) es ≡ Some c → c.value.number < 2 ^ 64 - 1 → c.value.number ≡ n → ⊥ = λ c found small same.
      other_open (same_pair k) es c n found (none (subst (λ m. m < 2 ^ 64 - 1) same small)) same in
      record {
        taken = s.taken;
        share = s.share;
        is = left_on form packet packet' parts parts' terms from s.taken n rows (lookup (same_pair k) es) other adds s.is;
      }

  others_of : (packet : ℕ → ℕ) (parts : List Part) (came : List Arrival) (fs : List Finished) (p : Pair) (c : Held) (es : List (Pair × Held))
      → ((k : Pair) → IsRowShare form packet parts terms from came fs k (lookup (same_pair k) ((p, c) ∷ es))) → OtherRows packet parts came fs p es
  others_of packet parts came fs p c es i k e = rw e at (i k)

  own_of : (packet : ℕ → ℕ) (parts : List Part) (came : List Arrival) (fs : List Finished) (p : Pair) (c : Held) (es : List (Pair × Held))
      → ((k : Pair) → IsRowShare form packet parts terms from came fs k (lookup (same_pair k) ((p, c) ∷ es)))
      → IsRowShare form packet parts terms from came fs p (Some c)
  own_of packet parts came fs p c es i = rw (same_self p) at (i p)

  -- What the connection showed, by the segments that are known of it otherwise.
  pub own_rows_of : (packet : ℕ → ℕ) (parts : List Part) (text : List ℕ) (begun : ℕ) (came : List Arrival) (fs : List Finished) (p : Pair) (c : Held)
      (es : List (Pair × Held)) (taken : List Arrival) → IsShared p came fs taken → IsRowing form packet parts text terms from begun came fs ((p, c) ∷ es)
      → IsShowing form packet parts terms from taken [] c.value
  own_rows_of packet parts text begun came fs p c es taken share i =
      let s = own_of packet parts came fs p c es i.shares in
      let same : s.taken ≡ taken = append_cancel_left (taken_between p fs) s.taken taken (sym s.share ∙ share) in
      subst (λ l. IsShowing form packet parts terms from l [] c.value) same s.is

  -- The first one is over.
  pub rows_over : (packet packet' : ℕ → ℕ) (parts parts' : List Part) (text text' : List ℕ) (begun : ℕ) (came : List Arrival) (fs : List Finished)
      (f : Finished) (p : Pair)
      (c : Held) (es : List (Pair × Held)) (rows : List Shown) → f.pair ≡ p → lookup (same_pair p) es ≡ None → IsShared p came fs f.taken
      → (c.value.number < 2 ^ 64 - 1 → count_over c.value.number fs ≡ 0) → (c.value.number < 2 ^ 64 - 1 → count_open c.value.number es ≡ 0)
      → (c.value.number < 2 ^ 64 - 1 → c.value.number < begun) → AddsRows c.value.number rows packet packet' parts parts'
      → ArePartsOf form (reports_of (fs ++ f ∷ [])) text' parts' → AreRowsOf form packet' parts' terms from f
      → IsRowing form packet parts text terms from begun came fs ((p, c) ∷ es) → IsRowing form packet' parts' text' terms from begun came (fs ++ f ∷ []) es
  rows_over packet packet' parts parts' text text' begun came fs f p c es rows ends absent share over_once open_once has adds of is i =
      let n = c.value.number in
      let others = others_on packet packet' parts parts' came fs n rows p es open_once adds (others_of packet parts came fs p c es i.shares) in
      let P : Pair → Type 0 = λ q. IsRowShare form packet' parts' terms from came (fs ++ f ∷ []) q (lookup (same_pair q) es) in
      let own : same_pair p f.pair ≡ true = subst (λ q. same_pair p q ≡ true) (sym ends) (same_self p) in
      record {
        rowed = record {
          parts_are = of;
          over = All-push (AreRowsOf form packet' parts' terms from) fs f
              (all_on form packet packet' parts parts' terms from fs n rows over_once adds i.rowed.over) is;
          none = λ m le small.
              let other : m ≡ n → ⊥ = λ e.
              let lt = has (subst (λ k. k < 2 ^ 64 - 1) e small) in
              absurd (omega (arith, lt, le, e)) in
              adds.others m other ∙ i.rowed.none m le small;
        };
        shares = λ k. elim (cases_Bool (same_pair k p)) [
          | inl t ↦ subst P (sym (same_is k p t)) (record {
            taken = [];
            share = share ∙ sym (taken_and p fs f own) ∙ sym (append-nil (taken_between p (fs ++ f ∷ [])));
            is = rw absent tt;
          })
          | inr e ↦
              let s = others k e in
              let apart : same_pair k f.pair ≡ false = subst (λ q. same_pair k q ≡ false) (sym ends) e in
              record { taken = s.taken; share = s.share ∙ ap (λ l. l ++ s.taken) (sym (taken_less k fs f apart)); is = s.is }
        ];
      }

  -- The connection takes the segment.
  pub rows_took : (packet packet' : ℕ → ℕ) (parts parts' : List Part) (text text' : List ℕ) (begun : ℕ) (came : List Arrival) (fs : List Finished)
      (x : Arrival) (p : Pair)
      (taken : List Arrival) (c c' : Held) (es : List (Pair × Held)) (rows : List Shown) → pair_of x ≡ p → IsShared p came fs taken
      → (c.value.number < 2 ^ 64 - 1 → count_over c.value.number fs ≡ 0) → (c.value.number < 2 ^ 64 - 1 → count_open c.value.number es ≡ 0)
      → (c.value.number < 2 ^ 64 - 1 → c.value.number < begun) → AddsRows c.value.number rows packet packet' parts parts'
      → ArePartsOf form (reports_of fs) text' parts'
      → IsShowing form packet' parts' terms from (taken ++ x ∷ []) [] c'.value → IsRowingTo form packet parts text terms from begun came fs x p taken c.value es
      → IsRowing form packet' parts' text' terms from begun (came ++ x ∷ []) fs ((p, c') ∷ es)
  rows_took packet packet' parts parts' text text' begun came fs x p taken c c' es rows ends share over_once open_once has adds of is i =
      let n = c.value.number in
      let others = others_on packet packet' parts parts' came fs n rows p es open_once adds i.others in
      let P : Pair → Type 0 = λ q. IsRowShare form packet' parts' terms from (came ++ x ∷ []) fs q (lookup (same_pair q) ((p, c') ∷ es)) in
      record {
        rowed = record {
          parts_are = of;
          over = all_on form packet packet' parts parts' terms from fs n rows over_once adds i.rowed.over;
          none = λ m le small.
              let other : m ≡ n → ⊥ = λ e.
              let lt = has (subst (λ k. k < 2 ^ 64 - 1) e small) in
              absurd (omega (arith, lt, le, e)) in
              adds.others m other ∙ i.rowed.none m le small;
        };
        shares = λ k. elim (cases_Bool (same_pair k p)) [
          | inl t ↦ subst P (sym (same_is k p t)) (record {
            taken = taken ++ x ∷ [];
            share = filter_and (is_between p) came x (subst (λ q. same_pair p q ≡ true) (sym ends) (same_self p)) ∙ ap (λ l. l ++ x ∷ []) share
                ∙ append_assoc (taken_between p fs) taken (x ∷ []);
            is = rw (same_self p) is;
          })
          | inr e ↦ let s = others k e in record {
            taken = s.taken;
            share = filter_less (is_between k) came x (subst (λ q. same_pair k q ≡ false) (sym ends) e) ∙ s.share;
            is = rw e s.is;
          }
        ];
      }

  -- One more begins with the next segment.
  pub rows_begun : (packet : ℕ → ℕ) (parts : List Part) (text : List ℕ) (begun begun' : ℕ) (came : List Arrival) (fs : List Finished) (x : Arrival) (p : Pair)
      (c : Connection) (es : List (Pair × Held)) → c.number ≡ begun → begun' ≡ min (begun + 1) (2 ^ 64 - 1)
      → is_lost c.talk ≡ false → ((h : Heading) → HasShown h [] terms [] (x ∷ []) c) → IsRowing form packet parts text terms from begun came fs es
      → IsRowingTo form packet parts text terms from begun' came fs x p [] c es
  rows_begun packet parts text begun begun' came fs x p c es number count there shown i = record {
    rowed = record {
      parts_are = i.rowed.parts_are;
      over = i.rowed.over;
      none = λ m le small. i.rowed.none m (omega (arith, le, small, count)) small;
    };
    own = (
      [],
      shown (heading_of form c.number from),
      λ small. i.rowed.none c.number (omega (arith, number)) small,
      λ small.
          let h = heading_of form c.number from in
          let g = shown h there in
          let none : rows_of c.number parts ≡ [] = i.rowed.none c.number (omega (arith, number)) small in
          record {
            kept = [];
            gone = [];
            is = refl;
            are_gone = subst (λ b. AreGone b []) (sym there) refl;
            rows = (c.talk, g.0, subst (AreTurnRows h g.0.made.turns) (sym none) g.1);
            in_time = in_time_none h terms packet parts [] refl;
          },
    );
    others = λ k e. i.shares k;
  }

  -- The next segment is of this one.
  pub rows_held : (packet : ℕ → ℕ) (parts : List Part) (text : List ℕ) (begun : ℕ) (came : List Arrival) (fs : List Finished) (x : Arrival) (p : Pair)
      (c : Held)
      (es : List (Pair × Held)) (taken : List Arrival) → IsIts x c.value → IsShared p came fs taken
      → IsRowing form packet parts text terms from begun came fs ((p, c) ∷ es) → IsRowingTo form packet parts text terms from begun came fs x p taken c.value es
  rows_held packet parts text begun came fs x p c es taken its share i = record {
    rowed = i.rowed;
    own =
        let s = own_rows_of packet parts text begun came fs p c es taken share i in (
          s.0,
          λ there. let g = s.1 there in (made_ready terms taken x c.value (its.0 there) g.0, g.1),
          s.2,
          λ small. so_far_of form packet parts terms from taken x c.value its small (is_lost c.value.talk) refl s,
        );
    others = others_of packet parts came fs p c es i.shares;
  }

  -- They are in another order, or one that was taken out is put back.
  pub rows_moved : (packet : ℕ → ℕ) (parts : List Part) (text : List ℕ) (begun : ℕ) (came : List Arrival) (fs : List Finished) (es gs : List (Pair × Held))
      → ((k : Pair) → lookup (same_pair k) gs ≡ lookup (same_pair k) es) → IsRowing form packet parts text terms from begun came fs es
      → IsRowing form packet parts text terms from begun came fs gs
  rows_moved packet parts text begun came fs es gs same i = record {
    rowed = i.rowed;
    shares = λ k. subst (λ o. IsRowShare form packet parts terms from came fs k o) (sym (same k)) (i.shares k);
  }

pub rows_same : (form form' : Form) (packet : ℕ → ℕ) (parts : List Part) (text text' : List ℕ) (terms terms' : Terms) (from from' begun begun' : ℕ)
    (came : List Arrival)
    (fs : List Finished) (es : List (Pair × Held)) → form' ≡ form → text' ≡ text → terms' ≡ terms → from' ≡ from → begun' ≡ begun
    → IsRowing form packet parts text terms from begun came fs es → IsRowing form' packet parts text' terms' from' begun' came fs es
rows_same form form' packet parts text text' terms terms' from from' begun begun' came fs es a b d e f i =
    subst (λ x. IsRowing x packet parts text' terms' from' begun' came fs es) (sym a)
    (subst (λ x. IsRowing form packet parts x terms' from' begun' came fs es) (sym b)
    (subst (λ x. IsRowing form packet parts text x from' begun' came fs es) (sym d)
    (subst (λ x. IsRowing form packet parts text terms x begun' came fs es) (sym e)
    (subst (λ x. IsRowing form packet parts text terms from x came fs es) (sym f) i))))

pub rows_to_same : (form form' : Form) (packet : ℕ → ℕ) (parts : List Part) (text text' : List ℕ) (terms terms' : Terms) (from from' begun : ℕ)
    (came : List Arrival)
    (fs : List Finished) (x : Arrival) (p : Pair) (taken : List Arrival) (c : Connection) (es : List (Pair × Held)) → form' ≡ form → text' ≡ text
    → terms' ≡ terms → from' ≡ from → IsRowingTo form packet parts text terms from begun came fs x p taken c es
    → IsRowingTo form' packet parts text' terms' from' begun came fs x p taken c es
rows_to_same form form' packet parts text text' terms terms' from from' begun came fs x p taken c es a b d e i =
    subst (λ y. IsRowingTo y packet parts text' terms' from' begun came fs x p taken c es) (sym a)
    (subst (λ y. IsRowingTo form packet parts y terms' from' begun came fs x p taken c es) (sym b)
    (subst (λ y. IsRowingTo form packet parts text y from' begun came fs x p taken c es) (sym d)
    (subst (λ y. IsRowingTo form packet parts text terms y begun came fs x p taken c es) (sym e) i)))

-- A report follows the rows of its connection.
pub after_rows : (h : Heading) (terms : Terms) (packet : ℕ → ℕ) (number : ℕ) (parts : List Part) (taken : List Arrival) (bytes : List ℕ) (rows : List Shown)
    (r : Report) → AreRowsAfter h terms taken [] (rows_of h.connection parts)
    → IsAfterRows h terms (placed packet (length parts) number) (parts ++ parts_of_report bytes rows r) taken r
after_rows h terms packet number parts taken bytes rows r had =
    let n = h.connection in
    let k = length parts in
    let before = parts ++ OfBytes bytes ∷ [] in
    let size = length-append parts (OfBytes bytes ∷ []) in
    let one : length {A = Part} (OfBytes bytes ∷ []) ≡ 1 = refl in
    let same : rows_of n parts ≡ rows_of n before = sym (rows_and n parts (OfBytes bytes ∷ []) ∙ append-nil (rows_of n parts)) in
    record {
      before = before;
      rows = rows;
      after = [];
      is = sym (append_assoc parts (OfBytes bytes ∷ []) (OfRows rows ∷ OfReport r ∷ []));
      told_with = placed_now packet k number (length before) (omega (arith, size, one))
          ∙ sym (placed_now packet k number (length before + 1) (omega (arith, size, one)));
      had = subst (AreRowsAfter h terms taken []) same had;
      none = refl;
    }

-- ---- before the first segment

no_first : (s : _) (taken more : List Arrival) → taken ≡ [] → more ≡ [] → IsFirst s (taken ++ more) → ⊥
no_first s taken more e f i = subst (λ l. IsFirst s (l ++ [])) e (subst (λ l. IsFirst s (taken ++ l)) f i)

-- Its first segment is known.
none_first : (h : Heading) (terms : Terms) (packet : ℕ → ℕ) (parts : List Part) (taken : List Arrival) (ran_out : Bool) → taken ≡ []
    → AreRowsSoFar h terms packet parts taken [] ran_out → ⊥
none_first h terms packet parts taken ran_out e r =
    let m = r.rows.1 in
    let all : r.kept ++ (r.gone ++ []) ≡ [] = ap (λ l. r.kept ++ l) (append-nil r.gone) ∙ sym r.is ∙ e in
    subst (IsFirst m.first) all m.is_first

by_any : (form : Form) (packet : ℕ → ℕ) (parts : List Part) (terms : Terms) (from from' n : ℕ) (taken : List Arrival) (end : Fate) → taken ≡ []
    → AreRowsBy form packet parts terms from n taken end → AreRowsBy form packet parts terms from' n taken end
by_any form packet parts terms from from' n taken (Reported r) e i = absurd (subst (λ l. IsFirst i.0.first l) e i.0.is_first)
by_any form packet parts terms from from' n taken Silent e i = i
by_any form packet parts terms from from' n taken Lost e i = absurd (none_first (heading_of form n from) terms packet parts taken i.0 e i.1)

all_any : (form : Form) (packet : ℕ → ℕ) (parts : List Part) (terms : Terms) (from from' : ℕ) (fs : List Finished) → All (λ f. f.taken ≡ []) fs
    → All (AreRowsOf form packet parts terms from) fs → All (AreRowsOf form packet parts terms from') fs
all_any form packet parts terms from from' [] none i = All-nil (AreRowsOf form packet parts terms from')
all_any form packet parts terms from from' (f ∷ fs) none i =
    let P : Finished → Type 0 = λ g. g.taken ≡ [] in
    All-cons (AreRowsOf form packet parts terms from') f fs
    (λ small. by_any form packet parts terms from from' f.number f.taken f.fate (All-head P f fs none)
    (All-head (AreRowsOf form packet parts terms from) f fs i small))
    (all_any form packet parts terms from from' fs (All-tail P f fs none) (All-tail (AreRowsOf form packet parts terms from) f fs i))

left_any : (form : Form) (packet : ℕ → ℕ) (parts : List Part) (terms : Terms) (from from' : ℕ) (taken : List Arrival) (o : Option Held) → taken ≡ []
    → IsLeftShown form packet parts terms from taken o → IsLeftShown form packet parts terms from' taken o
left_any form packet parts terms from from' taken None e i = i
left_any form packet parts terms from from' taken (Some c) e i = (
  i.0,
  λ there. let m = (i.1 there).0 in absurd (no_first m.first taken [] e refl m.is_first),
  i.2,
  λ small. absurd (none_first (heading_of form c.value.number from) terms packet parts taken (is_lost c.value.talk) e (i.3 small)),
)

nothing_right : (xs ys : List Arrival) → xs ++ ys ≡ [] → ys ≡ []
nothing_right [] ys e = e
nothing_right (x ∷ xs) ys e = absurd (cc)

-- The time of the capture's start becomes known.
pub rows_started : (form : Form) (packet : ℕ → ℕ) (parts : List Part) (text : List ℕ) (terms : Terms) (from from' begun : ℕ) (fs : List Finished)
    (es : List (Pair × Held))
    → All (λ f. f.taken ≡ []) fs → IsRowing form packet parts text terms from begun [] fs es → IsRowing form packet parts text terms from' begun [] fs es
rows_started form packet parts text terms from from' begun fs es none i = record {
  rowed = record {
    parts_are = i.rowed.parts_are;
    over = all_any form packet parts terms from from' fs none i.rowed.over;
    none = i.rowed.none;
  };
  shares = λ k.
      let s = i.shares k in
      let empty : s.taken ≡ [] = nothing_right (taken_between k fs) s.taken (sym s.share) in
      record { taken = s.taken; share = s.share; is = left_any form packet parts terms from from' s.taken (lookup (same_pair k) es) empty s.is };
}

-- A connection with this number isn't over.
pub going_of : (form : Form) (packet : ℕ → ℕ) (parts : List Part) (text : List ℕ) (terms : Terms) (from begun : ℕ) (came : List Arrival)
    (fs : List Finished) (es : List (Pair × Held)) → IsApart es → AreNumbered begun fs es → (o : AreBegun came fs es begun)
    → IsRowing form packet parts text terms from begun came fs es
    → (n : ℕ) → n < begun → n < 2 ^ 64 - 1 → count_over n fs ≡ 0 → IsGoing form packet parts terms from o.place begun came fs n
going_of form packet parts text terms from begun came fs es apart numbered order i n lt small none =
    let all = numbered n small in
    let one = one_if_began begun n lt in
    let e = find_open es n apart (omega (arith, all, none, one)) in
    let c = e.1.value in
    let s : IsRowShare form packet parts terms from came fs e.0 (Some e.1) = subst (IsRowShare form packet parts terms from came fs e.0) e.2 (i.shares e.0) in
    let below : c.number < 2 ^ 64 - 1 = subst (λ m. m < 2 ^ 64 - 1) (sym e.3) small in
    record {
      pair = e.0;
      taken = s.taken;
      share = s.share;
      began = subst (λ m. IsBegunAt order.place came begun m s.taken) e.3 (order.left e.0 e.1 s.taken e.2 s.share);
      ran_out = is_lost c.talk;
      rows = subst (λ m. AreRowsSoFar (heading_of form m from) terms packet parts s.taken [] (is_lost c.talk)) e.3 (s.is.3 below);
    }

pub rows_nothing : (form : Form) (packet : ℕ → ℕ) (text : List ℕ) (terms : Terms) (from : ℕ) → text ≡ [] → IsRowing form packet [] text terms from 0 [] [] []
rows_nothing form packet text terms from empty = record {
  rowed = record { parts_are = (refl, empty); over = All-nil (AreRowsOf form packet [] terms from); none = λ n le small. refl };
  shares = λ k. record { taken = []; share = refl; is = tt };
}
