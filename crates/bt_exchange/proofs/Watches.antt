-- What is seen in a round of an exchange, and in the rounds together.
use Rattle.std.proofs.Common.{◌≡◌, ◌+◌, ◌<◌, ◌≤◌, ◌&&◌, ℕ, Bool, true, false, not, List, [], ◌∷◌, ◌++◌, length, is_some, Some, None, Result, Ok, Err}
use Rattle.std.proofs.Common.{refl, sym, ap, subst, ◌∙◌, arith}
use Rattle.std.proofs.Math.Bool.{and-true}
use Rattle.std.proofs.lemmas.List.{append-nil, nil_from_length}
use Rattle.std.proofs.lemmas.List.Folds.{list_all-append}
use Rattle.std.proofs.KnownBytes.{Consumes-nil, Appends-nil}
use Rattle.std.specs.List.{list_all}
use Rattle.bt_io.specs.Counts.{Grew}
use Rattle.bt_end.specs.Ends.{EndState, metadata_of}
use Rattle.bt_end.specs.Halves.{HalfState}
use Rattle.bt_end.specs.declared.event.Event.{Event}
use Rattle.bt_exchange.specs.Connections.{Seen, Counts, at_time}
use Rattle.bt_exchange.specs.Courses.{Moment, IsMoved, end_after, events}
use Rattle.bt_exchange.specs.Stops.{IsCalm, IsMade, IsAdvanced, IsMark, IsQuiet, IsStep, IsStopped, IsExchanged, IsFault, IsOpen}
use Rattle.bt_exchange.specs.Stops.{has_no_news, has_no_piece, items_of, is_done, is_news, is_piece, is_unasked, no_news, no_piece}
use Rattle.bt_exchange.specs.Watches.{IsJudged, IsRounded, IsVerdict}
use Rattle.bt_exchange.specs.declared.talking.Step.{Step}
use Rattle.bt_exchange.specs.declared.talking.Step.TheVariants as step
use Rattle.bt_exchange.specs.declared.talking.Stop.{Stop}
use Rattle.bt_exchange.specs.declared.talking.Stop.TheVariants as stop
use Rattle.bt_exchange.proofs.Courses.{course_none, events_both}
use Rattle.bt_exchange.proofs.Pieces.{true_not_false, undone_after}
use Rattle.bt_exchange.proofs.Moves.{moment, moved_none, moved_both, made_none, made_both}

-- ---- the clock

-- reading the clock moves nothing
abbrev pub moved_clock : (m : Moment) (t : ℕ) → IsMoved m (moment (at_time t m.seen) m.pending m.half)
moved_clock m t = record {
  got = [];
  heard = [];
  sent = [];
  course = course_none m.half;
  pending = append-nil m.pending;
  reads = Consumes-nil m.seen.coming;
  writes = Appends-nil m.seen.gone;
}

pub made_clock : (m : Moment) (s : Seen) (t : ℕ) → s ≡ at_time t m.seen → IsMade 0 m (moment s m.pending m.half)
made_clock m s t e =
    let P : Seen → Type 0 = λ x. IsMade 0 m (moment x m.pending m.half) in
    subst P (sym e) (record { moved = moved_clock m t; items = omega arith; calls = λ l. omega arith; steps = λ l. omega arith })

-- ---- steps that handle nothing

no_items : (old new : Moment) (m : IsMoved old new) → length m.course.items ≡ 0 → new.half.end ≡ old.half.end
no_items old new m none = m.course.end ∙ ap (end_after old.half.end) (nil_from_length m.course.items none)

pub step_end : (old new : Moment) (r : Result Step Stop) → items_of r ≡ 0 → IsAdvanced old new r → new.half.end ≡ old.half.end
step_end old new r none a = no_items old new a.made.moved (a.items ∙ none)

seen_calm : (s t : Seen) → t ≡ s → IsCalm s.counts t.counts
seen_calm s t e = record { ends = ap (λ (x : Seen). x.counts.ends) e; failed = ap (λ (x : Seen). x.counts.failed) e }

pub step_calm : (old new : Moment) (st : Step) → IsStep old new (Ok st) → IsCalm old.seen.counts new.seen.counts
step_calm old new step.Moved h = h
step_calm old new step.Waited h = h.0
step_calm old new (step.Handled v) h = seen_calm old.seen new.seen h
step_calm old new step.Held h = seen_calm old.seen new.seen h

pub calm_both : (a b c : Counts) → IsCalm a b → IsCalm b c → IsCalm a c
calm_both a b c p q = record { ends = q.ends ∙ p.ends; failed = q.failed ∙ p.failed }

-- ---- a fault, after calm

pub fault_after : (a b c : Counts) (h : HalfState) (e : Stop) → IsCalm a b → IsFault b c h e → IsFault a c h e
fault_after a b c h stop.Closed k f = (subst (λ (x : ℕ). Grew x c.ends) k.ends f.0, f.1 ∙ k.failed)
fault_after a b c h stop.Failed k f = (subst (λ (x : ℕ). Grew x c.failed) k.failed f.0, f.1 ∙ k.ends)
fault_after a b c h (stop.Refused r) k f = (calm_both a b c k f.0, f.1)
fault_after a b c h stop.Memory k f = (calm_both a b c k f.0, f.1)
fault_after a b c h stop.Done k f = absurd f
fault_after a b c h stop.Hopeless k f = absurd f
fault_after a b c h stop.Mismatch k f = absurd f
fault_after a b c h stop.Silent k f = absurd f
fault_after a b c h stop.Rounds k f = absurd f
fault_after a b c h stop.Unasked k f = absurd f

fault_stops : (until : ℕ) (old new : Moment) (e : Stop) → IsFault old.seen.counts new.seen.counts new.half e → IsStopped until old new e
fault_stops until old new stop.Closed f = f
fault_stops until old new stop.Failed f = f
fault_stops until old new (stop.Refused r) f = f
fault_stops until old new stop.Memory f = f
fault_stops until old new stop.Done f = absurd f
fault_stops until old new stop.Hopeless f = absurd f
fault_stops until old new stop.Mismatch f = absurd f
fault_stops until old new stop.Silent f = absurd f
fault_stops until old new stop.Rounds f = absurd f
fault_stops until old new stop.Unasked f = absurd f

pub stopped_fault : (until : ℕ) (start old new : Moment) (e : Stop) → IsCalm start.seen.counts old.seen.counts → IsAdvanced old new (Err e)
    → IsStopped until start new e
stopped_fault until start old new e k a = fault_stops until start new e (fault_after start.seen.counts old.seen.counts new.seen.counts new.half e k a.step)

not_done : (old new : Counts) (h : HalfState) (e : Stop) → IsFault old new h e → is_done e ≡ false
not_done old new h stop.Done f = absurd f
not_done old new h stop.Hopeless f = refl
not_done old new h stop.Mismatch f = refl
not_done old new h stop.Closed f = refl
not_done old new h stop.Silent f = refl
not_done old new h stop.Failed f = refl
not_done old new h (stop.Refused r) f = refl
not_done old new h stop.Rounds f = refl
not_done old new h stop.Memory f = refl
not_done old new h stop.Unasked f = absurd f

-- the metadata wasn't there, and no item was handled
same_part : (old new : Moment) (r : Result Step Stop) → items_of r ≡ 0 → IsAdvanced old new r → is_some (metadata_of old.half.end.part) ≡ false
    → is_some (metadata_of new.half.end.part) ≡ false
same_part old new r none a e = ap (λ (x : EndState). is_some (metadata_of x.part)) (step_end old new r none a) ∙ e

pub fault_undone : (old new : Moment) (e : Stop) → IsAdvanced old new (Err e) → is_some (metadata_of old.half.end.part) ≡ false → is_done e
    ≡ is_some (metadata_of new.half.end.part)
fault_undone old new e a none = not_done old.seen.counts new.seen.counts new.half e a.step ∙ sym (same_part old new (Err e) refl a none)

-- ---- a verdict

verdict_stops : (until : ℕ) (start new : Moment) (e : Stop) → IsCalm start.seen.counts new.seen.counts → IsVerdict new.half.end (Some e)
    → IsStopped until start new e
verdict_stops until start new stop.Done k v = (k, v)
verdict_stops until start new stop.Mismatch k v = (k, v.1)
verdict_stops until start new stop.Hopeless k v = (k, v.1)
verdict_stops until start new stop.Closed k v = absurd v
verdict_stops until start new stop.Silent k v = absurd v
verdict_stops until start new stop.Failed k v = absurd v
verdict_stops until start new (stop.Refused r) k v = absurd v
verdict_stops until start new stop.Rounds k v = absurd v
verdict_stops until start new stop.Memory k v = absurd v
verdict_stops until start new stop.Unasked k v = absurd v

pub verdict_done : (e : EndState) (s : Stop) → IsVerdict e (Some s) → is_done s ≡ is_some (metadata_of e.part)
verdict_done e stop.Done v = sym v
verdict_done e stop.Mismatch v = sym v.0
verdict_done e stop.Hopeless v = sym v.0
verdict_done e stop.Closed v = absurd v
verdict_done e stop.Silent v = absurd v
verdict_done e stop.Failed v = absurd v
verdict_done e (stop.Refused r) v = absurd v
verdict_done e stop.Rounds v = absurd v
verdict_done e stop.Memory v = absurd v
verdict_done e stop.Unasked v = absurd v

pub verdict_not_rounds : (e : EndState) (s : Stop) → IsVerdict e (Some s) → s ≡ stop.Rounds → ⊥
verdict_not_rounds e stop.Done v r = absurd cc
verdict_not_rounds e stop.Mismatch v r = absurd cc
verdict_not_rounds e stop.Hopeless v r = absurd cc
verdict_not_rounds e stop.Closed v r = absurd v
verdict_not_rounds e stop.Silent v r = absurd v
verdict_not_rounds e stop.Failed v r = absurd v
verdict_not_rounds e (stop.Refused x) v r = absurd v
verdict_not_rounds e stop.Rounds v r = absurd v
verdict_not_rounds e stop.Memory v r = absurd v
verdict_not_rounds e stop.Unasked v r = absurd v

fault_not_rounds : (old new : Counts) (h : HalfState) (e : Stop) → IsFault old new h e → e ≡ stop.Rounds → ⊥
fault_not_rounds old new h stop.Done f r = absurd f
fault_not_rounds old new h stop.Hopeless f r = absurd f
fault_not_rounds old new h stop.Mismatch f r = absurd f
fault_not_rounds old new h stop.Closed f r = absurd cc
fault_not_rounds old new h stop.Silent f r = absurd f
fault_not_rounds old new h stop.Failed f r = absurd cc
fault_not_rounds old new h (stop.Refused x) f r = absurd cc
fault_not_rounds old new h stop.Rounds f r = absurd f
fault_not_rounds old new h stop.Memory f r = absurd cc
fault_not_rounds old new h stop.Unasked f r = absurd f

fault_not_silent : (old new : Counts) (h : HalfState) (e : Stop) → IsFault old new h e → e ≡ stop.Silent → ⊥
fault_not_silent old new h stop.Done f r = absurd f
fault_not_silent old new h stop.Hopeless f r = absurd f
fault_not_silent old new h stop.Mismatch f r = absurd f
fault_not_silent old new h stop.Closed f r = absurd cc
fault_not_silent old new h stop.Silent f r = absurd f
fault_not_silent old new h stop.Failed f r = absurd cc
fault_not_silent old new h (stop.Refused x) f r = absurd cc
fault_not_silent old new h stop.Rounds f r = absurd f
fault_not_silent old new h stop.Memory f r = absurd cc
fault_not_silent old new h stop.Unasked f r = absurd f

pub verdict_not_silent : (e : EndState) (s : Stop) → IsVerdict e (Some s) → s ≡ stop.Silent → ⊥
verdict_not_silent e stop.Done v r = absurd cc
verdict_not_silent e stop.Mismatch v r = absurd cc
verdict_not_silent e stop.Hopeless v r = absurd cc
verdict_not_silent e stop.Closed v r = absurd v
verdict_not_silent e stop.Silent v r = absurd v
verdict_not_silent e stop.Failed v r = absurd v
verdict_not_silent e (stop.Refused x) v r = absurd v
verdict_not_silent e stop.Rounds v r = absurd v
verdict_not_silent e stop.Memory v r = absurd v
verdict_not_silent e stop.Unasked v r = absurd v

fault_not_unasked : (old new : Counts) (h : HalfState) (e : Stop) → IsFault old new h e → not (is_unasked e) ≡ true
fault_not_unasked old new h stop.Unasked f = absurd f
fault_not_unasked old new h other f = refl

verdict_not_unasked : (e : EndState) (s : Stop) → IsVerdict e (Some s) → is_unasked s ≡ false
verdict_not_unasked e stop.Unasked v = absurd v
verdict_not_unasked e other v = refl

-- ---- what is judged of an item

pub judged_piece : (v : Event) (e : EndState) → is_piece v ≡ true → IsJudged (step.Handled v) e (Err stop.Unasked)
judged_piece v e p = (p, λ q. absurd (true_not_false (sym p ∙ q)))

pub judged_verdict : (v : Event) (e : EndState) (s : Stop) → is_piece v ≡ false → IsVerdict e (Some s) → IsJudged (step.Handled v) e (Err s)
judged_verdict v e s p w = (p ∙ sym (verdict_not_unasked e s w), λ q. w)

judged_stops : (until : ℕ) (start new : Moment) (v : Event) (e : Stop) → IsCalm start.seen.counts new.seen.counts
    → IsJudged (step.Handled v) new.half.end (Err e) → IsStopped until start new e
judged_stops until start new v stop.Unasked k j = k
judged_stops until start new v other k j = verdict_stops until start new other k (j.1 j.0)

judged_not_rounds : (v : Event) (e : EndState) (s : Stop) → IsJudged (step.Handled v) e (Err s) → s ≡ stop.Rounds → ⊥
judged_not_rounds v e stop.Unasked j r = absurd cc
judged_not_rounds v e other j r = verdict_not_rounds e other (j.1 j.0) r

judged_not_silent : (v : Event) (e : EndState) (s : Stop) → IsJudged (step.Handled v) e (Err s) → s ≡ stop.Silent → ⊥
judged_not_silent v e stop.Unasked j r = absurd cc
judged_not_silent v e other j r = verdict_not_silent e other (j.1 j.0) r

-- ---- marks: since when no byte was moved

mark_moved : (t : ℕ) (start new : Moment) → IsMark t start new → IsMoved start new
mark_moved t start new m = moved_both start m.since new m.before m.after

quiet_none : (m : Moment) → IsQuiet m m (moved_none m)
quiet_none m = (refl, refl)

nil_both : (xs ys : List ℕ) → xs ≡ [] → ys ≡ [] → xs ++ ys ≡ []
nil_both xs ys e f = ap (λ (l : List ℕ). l ++ ys) e ∙ f

quiet_both : (a b c : Moment) (p : IsMoved a b) (q : IsMoved b c) → IsQuiet a b p → IsQuiet b c q → IsQuiet a c (moved_both a b c p q)
quiet_both a b c p q e f = (nil_both p.got q.got e.0 f.0, nil_both p.sent q.sent e.1 f.1)

pub mark_here : (t : ℕ) (start new : Moment) → IsMoved start new → new.seen.counts.clock ≡ t → IsMark t start new
mark_here t start new m e = record { since = new; before = m; after = moved_none new; quiet = quiet_none new; clock = e }

pub mark_on : (t : ℕ) (start old new : Moment) (p : IsMoved old new) → IsMark t start old → IsQuiet old new p → IsMark t start new
mark_on t start old new p m q = record {
  since = m.since;
  before = m.before;
  after = moved_both m.since old new m.after p;
  quiet = quiet_both m.since old new m.after p m.quiet q;
  clock = m.clock;
}

pub quiet_clock : (m : Moment) (t : ℕ) → IsQuiet m (moment (at_time t m.seen) m.pending m.half) (moved_clock m t)
quiet_clock m t = (refl, refl)

-- a step, and then the clock

pub round_made : (old mid : Moment) (s : Seen) (st : Step) (t : ℕ) → IsAdvanced old mid (Ok st) → s ≡ at_time t mid.seen
    → IsMade 1 old (moment s mid.pending mid.half)
round_made old mid s st t a e = made_both old mid (moment s mid.pending mid.half) 1 0 a.made (made_clock mid s t e)

pub round_calm : (start old mid : Moment) (s : Seen) (st : Step) (t : ℕ) → IsCalm start.seen.counts old.seen.counts → IsAdvanced old mid (Ok st) → s
    ≡ at_time t mid.seen → IsCalm start.seen.counts s.counts
round_calm start old mid s st t k a e =
    let P : Seen → Type 0 = λ x. IsCalm start.seen.counts x.counts in
    let c = calm_both start.seen.counts old.seen.counts mid.seen.counts k (step_calm old mid st a.step) in
    subst P (sym e) (record { ends = c.ends; failed = c.failed })

pub mark_alive : (start old mid : Moment) (s : Seen) (st : Step) (t u : ℕ) → IsMark u start old → IsAdvanced old mid (Ok st) → s
    ≡ at_time t mid.seen → IsMark t start (moment s mid.pending mid.half)
mark_alive start old mid s st t u m a e =
    let new = moment s mid.pending mid.half in
    mark_here t start new (moved_both start old new (mark_moved u start old m) (round_made old mid s st t a e).moved) (ap (λ (x : Seen). x.counts.clock) e)

pub started : (start : Moment) (s : Seen) (t : ℕ) → s ≡ at_time t start.seen → IsMade 0 start (moment s start.pending start.half)
    × IsCalm start.seen.counts s.counts × IsMark t start (moment s start.pending start.half)
started start s t e =
    let P : Seen → Type 0 = λ x. IsMade 0 start (moment x start.pending start.half) × IsCalm start.seen.counts x.counts
    × IsMark t start (moment x start.pending start.half) in
    let new = moment (at_time t start.seen) start.pending start.half in
    subst P (sym e) (made_clock start (at_time t start.seen) t refl, record { ends = refl; failed = refl }, mark_here t start new (moved_clock start t) refl)

-- ---- news

one_old : (v : Event) → is_news v ≡ false → list_all no_news (v ∷ []) ≡ true
one_old v e = ap (λ (b : Bool). not b && true) e

-- the step's item was no news
quiet_of : (old new : Moment) (st : Step) (e : EndState) (a : IsAdvanced old new (Ok st)) → IsJudged st e (Ok None)
    → has_no_news old.half.end a.made.moved.course.items ≡ true
quiet_of old new (step.Handled v) e a j = ap (λ (l : List Event). list_all no_news l) a.events ∙ one_old v j.0
quiet_of old new step.Moved e a j = ap (λ (l : List Event). list_all no_news l) a.events
quiet_of old new step.Waited e a j = ap (λ (l : List Event). list_all no_news l) a.events
quiet_of old new step.Held e a j = ap (λ (l : List Event). list_all no_news l) a.events

one_piece : (v : Event) → list_all no_piece (v ∷ []) ≡ not (is_piece v)
one_piece v = and-true (not (is_piece v))

-- and no block of a piece
clear_of : (old new : Moment) (st : Step) (e : EndState) (a : IsAdvanced old new (Ok st)) → IsJudged st e (Ok None)
    → has_no_piece old.half.end a.made.moved.course.items ≡ true
clear_of old new (step.Handled v) e a j = ap (list_all no_piece) a.events ∙ one_piece v ∙ ap not j.1
clear_of old new step.Moved e a j = ap (list_all no_piece) a.events
clear_of old new step.Waited e a j = ap (list_all no_piece) a.events
clear_of old new step.Held e a j = ap (list_all no_piece) a.events

pub open_of : (old new : Moment) (st : Step) → IsAdvanced old new (Ok st) → IsOpen old.half.end → IsJudged st new.half.end (Ok None) → IsOpen new.half.end
open_of old new (step.Handled v) a o j = j.2
open_of old new step.Moved a o j = subst IsOpen (sym (step_end old new (Ok step.Moved) refl a)) o
open_of old new step.Waited a o j = subst IsOpen (sym (step_end old new (Ok step.Waited) refl a)) o
open_of old new step.Held a o j = subst IsOpen (sym (step_end old new (Ok step.Held) refl a)) o

pub open_told : (st : Step) (e : EndState) (w : Event) → IsJudged st e (Ok (Some w)) → IsOpen e
open_told (step.Handled v) e w j = j.3
open_told step.Moved e w j = absurd j
open_told step.Waited e w j = absurd j
open_told step.Held e w j = absurd j

-- a block of a piece changes nothing of a fetch
piece_undone : (old new : Moment) (v : Event) → IsAdvanced old new (Ok (step.Handled v)) → is_piece v ≡ true → IsOpen old.half.end
    → is_some (metadata_of new.half.end.part) ≡ false
piece_undone old new v a p o = undone_after old.half.end new.half.end v a.made.moved.course.items a.made.moved.course.end a.events p o.undone

pub done_over : (old new : Moment) (st : Step) (s : Stop) → IsAdvanced old new (Ok st) → IsOpen old.half.end → IsJudged st new.half.end (Err s)
    → is_done s ≡ is_some (metadata_of new.half.end.part)
done_over old new (step.Handled v) stop.Unasked a o j = sym (piece_undone old new v a j.0 o)
done_over old new (step.Handled v) other a o j = verdict_done new.half.end other (j.1 j.0)
done_over old new step.Moved s a o j = absurd j
done_over old new step.Waited s a o j = absurd j
done_over old new step.Held s a o j = absurd j

-- ---- a round

calm_here : (old new : Moment) (st : Step) → IsAdvanced old new (Ok st) → IsCalm old.seen.counts new.seen.counts
calm_here old new st a = step_calm old new st a.step

none_first : (m : Moment) → IsCalm m.seen.counts m.seen.counts
none_first m = record { ends = refl; failed = refl }

pub rounded_fault : (until : ℕ) (old new : Moment) (e : Stop) → IsAdvanced old new (Err e) → IsRounded until old new (Err e)
rounded_fault until old new e a = record {
  n = 0;
  least = omega arith;
  most = omega arith;
  made = a.made;
  once = a.once;
  unasked = ap (list_all no_piece) a.events ∙ sym (fault_not_unasked old.seen.counts new.seen.counts new.half e a.step);
  round = (
    stopped_fault until old old new e (none_first old) a,
    fault_not_rounds old.seen.counts new.seen.counts new.half e a.step,
    λ s. absurd (fault_not_silent old.seen.counts new.seen.counts new.half e a.step s),
  );
}

pub rounded_over : (until : ℕ) (old new : Moment) (st : Step) (s : Stop) → IsAdvanced old new (Ok st) → IsJudged st new.half.end (Err s)
    → IsRounded until old new (Err s)
rounded_over until old new (step.Handled v) s a j = record {
  n = 1;
  least = omega arith;
  most = omega arith;
  made = a.made;
  once = a.once;
  unasked = ap (list_all no_piece) a.events ∙ one_piece v ∙ ap not j.0;
  round = (
    judged_stops until old new v s (calm_here old new (step.Handled v) a) j,
    judged_not_rounds v new.half.end s j,
    λ e. absurd (judged_not_silent v new.half.end s j e),
  );
}
rounded_over until old new step.Moved s a j = absurd j
rounded_over until old new step.Waited s a j = absurd j
rounded_over until old new step.Held s a j = absurd j

pub rounded_told : (until : ℕ) (old new : Moment) (st : Step) (w : Event) → IsAdvanced old new (Ok st) → IsJudged st new.half.end (Ok (Some w))
    → IsRounded until old new (Ok (Some w))
rounded_told until old new (step.Handled v) w a j = record {
  n = 1;
  least = omega arith;
  most = omega arith;
  made = a.made;
  once = a.once;
  unasked = ap (list_all no_piece) a.events ∙ one_piece v ∙ ap not j.2;
  round = (
    calm_here old new (step.Handled v) a,
    j.3,
    a.events ∙ ap (λ (x : Event). x ∷ []) (sym j.0),
    ap is_news j.0 ∙ j.1,
  );
}
rounded_told until old new step.Moved w a j = absurd j
rounded_told until old new step.Waited w a j = absurd j
rounded_told until old new step.Held w a j = absurd j

-- the same, once the clock was read
abbrev clocked : (old mid : Moment) (t : ℕ) → IsMoved old mid → IsMoved old (moment (at_time t mid.seen) mid.pending mid.half)
clocked old mid t m = record {
  got = m.got;
  heard = m.heard;
  sent = m.sent;
  course = m.course;
  pending = m.pending;
  reads = m.reads;
  writes = m.writes;
}

abbrev made_at : (old mid : Moment) (st : Step) (t : ℕ) → IsAdvanced old mid (Ok st) → IsMade 1 old (moment (at_time t mid.seen) mid.pending mid.half)
made_at old mid st t a = record { moved = clocked old mid t a.made.moved; items = a.made.items; calls = a.made.calls; steps = a.made.steps }

calm_at : (old mid : Moment) (st : Step) (t : ℕ) → IsAdvanced old mid (Ok st) → IsCalm old.seen.counts (at_time t mid.seen).counts
calm_at old mid st t a = let k = calm_here old mid st a in record { ends = k.ends; failed = k.failed }

pub rounded_late : (until : ℕ) (old mid : Moment) (s : Seen) (st : Step) (t : ℕ) → IsAdvanced old mid (Ok st) → IsJudged st mid.half.end (Ok None)
    → s ≡ at_time t mid.seen → until < t → IsRounded until old (moment s mid.pending mid.half) (Err stop.Silent)
rounded_late until old mid s st t a j e late =
    let P : Seen → Type 0 = λ x. IsRounded until old (moment x mid.pending mid.half) (Err stop.Silent) in
    subst P (sym e) (
    record {
      n = 1;
      least = omega arith;
      most = omega arith;
      made = made_at old mid st t a;
      once = a.once;
      unasked = clear_of old mid st mid.half.end a j;
      round = ((calm_at old mid st t a, late), (λ r. absurd cc), λ r. quiet_of old mid st mid.half.end a j);
    }
    )

pub rounded_on : (until : ℕ) (old mid : Moment) (s : Seen) (st : Step) (t : ℕ) → IsAdvanced old mid (Ok st) → IsOpen old.half.end
    → IsJudged st mid.half.end (Ok None) → s ≡ at_time t mid.seen → t ≤ until → IsRounded until old (moment s mid.pending mid.half) (Ok None)
rounded_on until old mid s st t a o j e on =
    let P : Seen → Type 0 = λ x. IsRounded until old (moment x mid.pending mid.half) (Ok None) in
    subst P (sym e) (
    record {
      n = 1;
      least = omega arith;
      most = omega arith;
      made = made_at old mid st t a;
      once = a.once;
      unasked = clear_of old mid st mid.half.end a j;
      round = (calm_at old mid st t a, open_of old mid st a o j, on, quiet_of old mid st mid.half.end a j);
    }
    )

-- ---- rounds

-- n rounds were made with no news, and in time, of those that may be made
pub record IsGoing (until may left n : ℕ) (start now : Moment) : Type 0 where
  pub k : ℕ
  pub count : k ≡ n
  pub made : IsMade k start now
  pub rest : left + n ≡ may
  pub calls : now.seen.counts.calls ≤ start.seen.counts.calls + n
  pub calm : IsCalm start.seen.counts now.seen.counts
  pub goes : IsOpen now.half.end
  pub patient : 0 < n → now.seen.counts.clock ≤ until
  pub quiet : has_no_news start.half.end made.moved.course.items ≡ true
  pub clear : has_no_piece start.half.end made.moved.course.items ≡ true

pub going_first : (until may : ℕ) (start : Moment) → IsOpen start.half.end → IsGoing until may may 0 start start
going_first until may start o = record {
  k = 0;
  count = refl;
  made = made_none start;
  rest = omega arith;
  calls = omega arith;
  calm = none_first start;
  goes = o;
  patient = λ l. absurd (omega (arith, l));
  quiet = refl;
  clear = refl;
}

-- what the items of both make of the end
told_both : (start mid new : Moment) (p : IsMoved start mid) (q : IsMoved mid new)
    → events start.half.end (p.course.items ++ q.course.items) ≡ events start.half.end p.course.items ++ events mid.half.end q.course.items
told_both start mid new p q =
    events_both start.half.end p.course.items q.course.items
    ∙ ap (λ (x : EndState). events start.half.end p.course.items ++ events x q.course.items) (sym p.course.end)

-- all that the first items made of the end is so; and then what is said of all, by the last ones
all_both : (is_so : Event → Bool) (b : Bool) (start mid new : Moment) (p : IsMoved start mid) (q : IsMoved mid new)
    → list_all is_so (events start.half.end p.course.items) ≡ true → list_all is_so (events mid.half.end q.course.items) ≡ b
    → list_all is_so (events start.half.end (p.course.items ++ q.course.items)) ≡ b
all_both is_so b start mid new p q e f =
    let es = events start.half.end p.course.items in
    let fs = events mid.half.end q.course.items in
    ap (λ (l : List Event). list_all is_so l) (told_both start mid new p q) ∙ list_all-append is_so es fs
    ∙ ap (λ (b : Bool). b && list_all is_so fs) e ∙ f

pub going_on : (until may left left' n : ℕ) (start mid new : Moment) → IsGoing until may left n start mid → IsRounded until mid new (Ok None)
    → left' + (n + 1) ≡ may → IsGoing until may left' (n + 1) start new
going_on until may left left' n start mid new g r e = record {
  k = g.k + r.n;
  count = omega (arith, g.count, r.least, r.most);
  made = made_both start mid new g.k r.n g.made r.made;
  rest = e;
  calls = omega (arith, g.calls, r.once);
  calm = calm_both start.seen.counts mid.seen.counts new.seen.counts g.calm r.round.0;
  goes = r.round.1;
  patient = λ l. r.round.2;
  quiet = all_both no_news true start mid new g.made.moved r.made.moved g.quiet r.round.3;
  clear = all_both no_piece true start mid new g.made.moved r.made.moved g.clear r.unasked;
}

stops_after : (until : ℕ) (start mid new : Moment) (e : Stop) → IsCalm start.seen.counts mid.seen.counts → IsStopped until mid new e
    → IsStopped until start new e
stops_after until start mid new stop.Done k s = (calm_both start.seen.counts mid.seen.counts new.seen.counts k s.0, s.1)
stops_after until start mid new stop.Hopeless k s = (calm_both start.seen.counts mid.seen.counts new.seen.counts k s.0, s.1)
stops_after until start mid new stop.Mismatch k s = (calm_both start.seen.counts mid.seen.counts new.seen.counts k s.0, s.1)
stops_after until start mid new stop.Silent k s = (calm_both start.seen.counts mid.seen.counts new.seen.counts k s.0, s.1)
stops_after until start mid new stop.Rounds k s = calm_both start.seen.counts mid.seen.counts new.seen.counts k s
stops_after until start mid new stop.Closed k s = fault_after start.seen.counts mid.seen.counts new.seen.counts new.half stop.Closed k s
stops_after until start mid new stop.Failed k s = fault_after start.seen.counts mid.seen.counts new.seen.counts new.half stop.Failed k s
stops_after until start mid new (stop.Refused r) k s = fault_after start.seen.counts mid.seen.counts new.seen.counts new.half (stop.Refused r) k s
stops_after until start mid new stop.Memory k s = fault_after start.seen.counts mid.seen.counts new.seen.counts new.half stop.Memory k s
stops_after until start mid new stop.Unasked k s = calm_both start.seen.counts mid.seen.counts new.seen.counts k s

abbrev failed : Stop → Result Event Stop
failed e = Err e

abbrev stop_or : Stop → Result Event Stop → Stop
stop_or d (Err e) = e
stop_or d other = d

is_same : (x y : Stop) → failed x ≡ failed y → x ≡ y
is_same x y e = ap (stop_or x) e

pub exchanged_stop : (until may left left' n : ℕ) (start mid new : Moment) (e : Stop) → IsGoing until may left n start mid
    → IsRounded until mid new (Err e) → left' + (n + 1) ≡ may → IsExchanged until may left' start new (Err e)
exchanged_stop until may left left' n start mid new e g r l = record {
  steps = g.k + r.n;
  made = made_both start mid new g.k r.n g.made r.made;
  within = omega (arith, g.count, r.most, l);
  calls = omega (arith, g.calls, r.once, l);
  onward = omega arith;
  all = λ x. absurd (r.round.1 (is_same e stop.Rounds x));
  patient = λ x. absurd (r.round.1 (is_same e stop.Rounds x));
  silent = λ x. all_both no_news true start mid new g.made.moved r.made.moved g.quiet (r.round.2 (is_same e stop.Silent x));
  unasked = all_both no_piece (not (is_unasked e)) start mid new g.made.moved r.made.moved g.clear r.unasked;
  told = stops_after until start mid new e g.calm r.round.0;
}

pub exchanged_told : (until may left left' n : ℕ) (start mid new : Moment) (e : Event) → IsGoing until may left n start mid
    → IsRounded until mid new (Ok (Some e)) → left' + (n + 1) ≡ may → IsExchanged until may left' start new (Ok e)
exchanged_told until may left left' n start mid new e g r l = record {
  steps = g.k + r.n;
  made = made_both start mid new g.k r.n g.made r.made;
  within = omega (arith, g.count, r.most, l);
  calls = omega (arith, g.calls, r.once, l);
  onward = omega (arith, r.least);
  all = λ x. absurd cc;
  patient = λ x. absurd cc;
  silent = λ x. absurd cc;
  unasked = all_both no_piece true start mid new g.made.moved r.made.moved g.clear r.unasked;
  told = (
    calm_both start.seen.counts mid.seen.counts new.seen.counts g.calm r.round.0,
    r.round.1,
    r.round.3,
    (
      events start.half.end g.made.moved.course.items,
      g.quiet,
      told_both start mid new g.made.moved r.made.moved
          ∙ ap (λ (l : List Event). events start.half.end g.made.moved.course.items ++ l) r.round.2,
    ),
  );
}

pub exchanged_last : (until may left n : ℕ) (start now : Moment) → n ≡ may → IsGoing until may left n start now
    → IsExchanged until may left start now (Err stop.Rounds)
exchanged_last until may left n start now e g = record {
  steps = g.k;
  made = g.made;
  within = omega (arith, g.count, g.rest);
  calls = omega (arith, g.calls, g.rest);
  onward = omega arith;
  all = λ x. omega (arith, g.rest, e);
  patient = λ x l. g.patient (omega (arith, l, g.count));
  silent = λ x. absurd cc;
  unasked = g.clear;
  told = g.calm;
}

pub exchanged_first : (until may : ℕ) (start : Moment) (e : Stop) → IsVerdict start.half.end (Some e) → IsExchanged until may may start start (Err e)
exchanged_first until may start e v = record {
  steps = 0;
  made = made_none start;
  within = omega arith;
  calls = omega arith;
  onward = omega arith;
  all = λ x. absurd (verdict_not_rounds start.half.end e v (is_same e stop.Rounds x));
  patient = λ x. absurd (verdict_not_rounds start.half.end e v (is_same e stop.Rounds x));
  silent = λ x. refl;
  unasked = sym (ap not (verdict_not_unasked start.half.end e v));
  told = verdict_stops until start start e (none_first start) v;
}
