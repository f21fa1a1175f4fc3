-- Places whose bytes were captured after a gap that is final, as spans, and the gaps that they leave.
use Rattle.std.specs.Prelude.{◌≡◌, ℕ, zero, suc, min, max, ◌+◌, ◌-◌, ◌<◌, ◌≤◌, nat_lt, Bool, true, false, not, if◌then◌else◌}
use Rattle.std.specs.Prelude.{List, [], ◌∷◌, length, take, Option, Some, None}
use Rattle.std.specs.Option.{option_or}
use Rattle.bt_tcp.specs.declared.covered.Span.{Span}
use Rattle.bt_tcp.specs.declared.covered.Spans.{Spans}
use Rattle.bt_tcp.specs.declared.covered.Gap.{Gap}
use Rattle.bt_tcp.specs.declared.covered.Gaps.{Gaps}

abbrev pub in_span : Span → ℕ → Bool
in_span s i = if nat_lt i s.from then false else nat_lt i s.to

-- whether a place is in one of the spans
abbrev pub is_covered : List Span → ℕ → Bool
is_covered [] i = false
is_covered (s ∷ spans) i = if in_span s i then true else is_covered spans i

-- They stand in order, each has a place, and a place is between two.
abbrev pub AreApart : ℕ → List Span → Type 0
AreApart least [] = Unit {0}
AreApart least (s ∷ spans) = (least ≤ s.from) × (s.from < s.to) × AreApart (s.to + 1) spans

-- the spans of a table
abbrev pub spans_of : Spans → List Span → List Span
spans_of spans table = take spans.count table

pub record IsTable (spans : Spans) (table : List Span) : Type 0 where
  pub fits : spans.count ≤ length table
  pub apart : AreApart 0 (spans_of spans table)

-- A place is covered now if it was before, or is in the new span.
abbrev pub Adds : Span → List Span → List Span → Type 0
Adds s spans spans' = (i : ℕ) → is_covered spans' i ≡ (if in_span s i then true else is_covered spans i)

-- No place in the span, nor one beside it, is covered.
abbrev pub IsAlone : Span → List Span → Type 0
IsAlone s spans = (i : ℕ) → s.from ≤ i + 1 → i ≤ s.to → is_covered spans i ≡ false

-- the first place from one on that is covered, if there is one
abbrev pub IsFirstFrom : (ℕ → Bool) → ℕ → Option ℕ → Type 0
IsFirstFrom covered next None = (i : ℕ) → next ≤ i → covered i ≡ false
IsFirstFrom covered next (Some place) = (next ≤ place) × (covered place ≡ true) × ((i : ℕ) → next ≤ i → i < place → covered i ≡ false)

-- ---- a span more, as a list

-- the span of the places of both, and of those between
abbrev pub hull : Span → Span → Span
hull s t = record { from = min s.from t.from; to = max s.to t.to }

-- before spans, the first of which it may touch
abbrev pub join : Span → List Span → List Span
join s [] = s ∷ []
join s (t ∷ spans) = if nat_lt s.to t.from then s ∷ t ∷ spans else join (hull s t) spans

abbrev pub add : Span → List Span → List Span
add s [] = s ∷ []
add s (t ∷ spans) = if nat_lt t.to s.from then t ∷ add s spans else join s (t ∷ spans)

-- ---- gaps

-- how many of n places from i on are such
abbrev pub count_places : (ℕ → Bool) → ℕ → ℕ → ℕ
count_places p i zero = 0
count_places p i (suc n) = (if p i then 1 else 0) + count_places p (i + 1) n

abbrev pub is_missing : (ℕ → Bool) → ℕ → Bool
is_missing covered i = not (covered i)

-- A gap begins at a missing place that is the first one of all, or follows a covered one.
abbrev pub begins_gap : (ℕ → Bool) → ℕ → ℕ → Bool
begins_gap covered next i = if covered i then false else if nat_lt next i then covered (i - 1) else true

-- the places from `next` up to `end` that are covered up to a first gap, which is as long as can be
pub record IsFirstGap (covered : ℕ → Bool) (next «end» : ℕ) (gap : Gap) : Type 0 where
  pub after : next ≤ gap.place
  pub within : gap.place + gap.length ≤ «end»
  pub some : 0 < gap.length
  pub before : (i : ℕ) → next ≤ i → i < gap.place → covered i ≡ true
  pub missing : (i : ℕ) → gap.place ≤ i → i < gap.place + gap.length → covered i ≡ false
  pub ends : gap.place + gap.length < «end» → covered (gap.place + gap.length) ≡ true

abbrev pub IsFirst : (ℕ → Bool) → ℕ → ℕ → Option Gap → Type 0
IsFirst covered next «end» None = (i : ℕ) → next ≤ i → i < «end» → covered i ≡ true
IsFirst covered next «end» (Some gap) = IsFirstGap covered next «end» gap

-- the runs of places without a byte, from `next` up to `end`
pub record AreGaps (covered : ℕ → Bool) (next «end» : ℕ) (gaps : Gaps) : Type 0 where
  pub first : IsFirst covered next «end» gaps.first
  pub count : gaps.count ≡ count_places (begins_gap covered next) next («end» - next)
  pub sum : gaps.sum ≡ count_places (is_missing covered) next («end» - next)

-- What was captured was sent.
abbrev pub sent_end : List Span → ℕ → ℕ
sent_end [] sent = sent
sent_end (s ∷ spans) sent = max s.to (sent_end spans sent)

-- ---- gaps, one after the other

abbrev pub no_gaps : Gaps
no_gaps = record { first = None; count = 0; sum = 0 }

-- a gap more, if there is a place in it
abbrev pub with_gap : Gaps → ℕ → ℕ → Gaps
with_gap gaps from to =
    if nat_lt from to
    then record { first = option_or gaps.first (Some (record { place = from; length = to - from })); count = gaps.count + 1; sum = gaps.sum + (to - from) }
    else gaps

abbrev pub gaps_between : Gaps → ℕ → List Span → ℕ → Gaps
gaps_between gaps at [] sent = with_gap gaps at sent
gaps_between gaps at (s ∷ spans) sent = gaps_between (with_gap gaps at s.from) (max at s.to) spans sent
