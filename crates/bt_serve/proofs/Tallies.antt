-- The counts of a connection that is served, from step to step.
use Rattle.std.proofs.Common.{◌≡◌, ◌⊎◌, ℕ, ◌+◌, ◌<◌, Bool, true, false, ◌||◌, nat_lt, List, [], ◌∷◌, ◌++◌, length, Option, None, Some, Result, Ok, Err, inl, inr, refl, sym, ap, subst, ◌∙◌}
use Rattle.std.proofs.Common.{arith, length-append}
use Rattle.std.proofs.Math.Bool.{or-false}
use Rattle.std.proofs.lemmas.Bool.{ltb-true}
use Rattle.std.proofs.lemmas.List.{append-nil, nil_from_length}
use Rattle.std.proofs.KnownBytes.{Consumes-nil, Appends-nil}
use Rattle.bt_wire.specs.declared.context.Context.{Context}
use Rattle.bt_wire.specs.declared.item.Item.{Item}
use Rattle.bt_wire.specs.Messages.{Message}
use Rattle.bt_feed.proofs.Moving.{fed_none}
use Rattle.bt_end.specs.Ends.{EndState, Reaction, belief, react}
use Rattle.bt_end.specs.Events.{event_of}
use Rattle.bt_end.specs.Halves.{HalfState, high_water}
use Rattle.bt_end.specs.declared.event.Event.{Event}
use Rattle.bt_io.specs.Counts.{Grew}
use Rattle.bt_exchange.specs.Boths.{capped}
use Rattle.bt_exchange.specs.Connections.{Seen, Counts, at_time}
use Rattle.bt_exchange.specs.Courses.{Moment, IsMoved, end_after, replies}
use Rattle.bt_exchange.specs.Stops.{HasListened, IsAdvanced, IsCalm, IsFault, IsStep, is_piece, is_still, items_of}
use Rattle.bt_exchange.specs.declared.talking.Step.{Step}
use Rattle.bt_exchange.specs.declared.talking.Step.TheVariants as step
use Rattle.bt_exchange.specs.declared.talking.Stop.{Stop}
use Rattle.bt_exchange.specs.declared.talking.Stop.TheVariants as stop
use Rattle.bt_serve.specs.Guests.{IsEnded, IsEnding, IsParting, IsQuietSince, IsServed, IsServer, IsStepped, IsTally, ended_by, is_unasked, serving_end, with_all_sent, with_item}
use Rattle.bt_serve.specs.Services.{IsServing, IsUnsaid, answer_to, end_served, has_piece, queued_at, queued_by, said, saying, served_at}
use Rattle.bt_serve.specs.declared.guest.Ending.{Ending}
use Rattle.bt_serve.specs.declared.guest.Ending.TheVariants as ending
use Rattle.bt_serve.specs.declared.guest.Hospitality.{Hospitality}
use Rattle.bt_serve.specs.declared.guest.Tally.{Tally}
use Rattle.bt_serve.proofs.Reacting.{queued_of, server_at}
use Rattle.bt_serve.proofs.Services.{moment, one_item, piece_both, queued_both, serving_both, serving_heard, serving_none, serving_still}

pub nil_both : (xs ys : List ℕ) → xs ≡ [] → ys ≡ [] → xs ++ ys ≡ []
nil_both xs ys e f = ap (λ (l : List ℕ). l ++ ys) e ∙ f

-- ---- calm

seen_calm : (s t : Seen) → t ≡ s → IsCalm s.counts t.counts
seen_calm s t e = record { ends = ap (λ (x : Seen). x.counts.ends) e; failed = ap (λ (x : Seen). x.counts.failed) e }

step_calm : (old new : Moment) (st : Step) → IsStep old new (Ok st) → IsCalm old.seen.counts new.seen.counts
step_calm old new step.Moved h = h
step_calm old new step.Waited h = h.0
step_calm old new (step.Handled e) h = seen_calm old.seen new.seen h
step_calm old new step.Held h = seen_calm old.seen new.seen h

calm_both : (a b c : Counts) → IsCalm a b → IsCalm b c → IsCalm a c
calm_both a b c p q = record { ends = q.ends ∙ p.ends; failed = q.failed ∙ p.failed }

fault_after : (a b c : Counts) (h : HalfState) (e : Stop) → IsCalm a b → IsFault b c h e → IsFault a c h e
fault_after a b c h stop.Closed k f = (subst (λ (x : ℕ). Grew x c.ends) k.ends f.0, f.1 ∙ k.failed)
fault_after a b c h stop.Failed k f = (subst (λ (x : ℕ). Grew x c.failed) k.failed f.0, f.1 ∙ k.ends)
fault_after a b c h (stop.Refused r) k f = (calm_both a b c k f.0, f.1)
fault_after a b c h stop.Memory k f = (calm_both a b c k f.0, f.1)
fault_after a b c h stop.Done k f = absurd f
fault_after a b c h stop.Hopeless k f = absurd f
fault_after a b c h stop.Mismatch k f = absurd f
fault_after a b c h stop.Silent k f = absurd f
fault_after a b c h stop.Rounds k f = absurd f
fault_after a b c h stop.Unasked k f = absurd f

-- ---- counts

abbrev pub tally_on : (start old new : Moment) (t u : Tally) → IsTally start old t → (m : IsServing old new) → u.handled
    ≡ capped (t.handled + length m.course.items) → capped (u.sent + u.queued) ≡ capped ((t.sent + t.queued) + queued_at old.half.end m.course.items)
    → (t.handled ≡ 0 → m.sent ≡ []) → IsTally start new u
tally_on start old new t u k m handled queued silent =
    let xs = k.moved.course.items in
    let ys = m.course.items in
    let both : length (xs ++ ys) ≡ length xs + length ys = length-append xs ys in
    let all : queued_at start.half.end (xs ++ ys) ≡ queued_at start.half.end xs + queued_at (end_served start.half.end xs) ys =
    queued_both start.half.end xs ys in
    let end : queued_at old.half.end ys ≡ queued_at (end_served start.half.end xs) ys = ap (λ (e : EndState). queued_at e ys) k.moved.course.end in
    record {
      moved = serving_both start old new k.moved m;
      handled = omega (arith, handled, k.handled, both);
      queued = omega (arith, queued, k.queued, all, end);
      silent = λ z. nil_both k.moved.sent m.sent (k.silent (omega (arith, both, z))) (silent (omega (arith, k.handled, both, z)));
    }

-- all that waited is sent
abbrev pub tally_sent : (start now : Moment) (t : Tally) → IsTally start now t → IsTally start now (with_all_sent t)
tally_sent start now t k = record { moved = k.moved; handled = k.handled; queued = omega (arith, k.queued); silent = k.silent }

-- no block of a piece came before, and none or one now
unasked_on : (start old new : Moment) (k : IsServing start old) (m : IsServing old new) → has_piece start.half.end k.course.items ≡ false
    → has_piece start.half.end (serving_both start old new k m).course.items ≡ has_piece old.half.end m.course.items
unasked_on start old new k m none =
    piece_both start.half.end k.course.items m.course.items
    ∙ ap (λ (b : Bool). b || has_piece (end_served start.half.end k.course.items) m.course.items) none
    ∙ ap (λ (e : EndState). has_piece e m.course.items) (sym k.course.end)

-- ---- bytes that move

quiet_on : (t : ℕ) (start old new : Moment) (m : IsServing old new) → (m.got ≡ []) × (m.sent ≡ []) → IsQuietSince t start old → IsQuietSince t start new
quiet_on t start old new m still q = record {
  since = q.since;
  before = q.before;
  after = serving_both q.since old new q.after m;
  quiet = (nil_both q.after.got m.got q.quiet.0 still.0, nil_both q.after.sent m.sent q.quiet.1 still.1);
  clock = q.clock;
}

quiet_here : (t : ℕ) (start now : Moment) → IsServing start now → now.seen.counts.clock ≡ t → IsQuietSince t start now
quiet_here t start now m e = record { since = now; before = m; after = serving_none now; quiet = (refl, refl); clock = e }

-- ---- a step that handled nothing

-- the end before a step that handled nothing
same_end : (old new : Moment) (m : IsMoved old new) → length m.course.items ≡ 0 → new.half.end ≡ old.half.end
same_end old new m none = m.course.end ∙ ap (end_after old.half.end) (nil_from_length m.course.items none)

-- a step that handled nothing, and sent nothing as long as nothing was handled
pub record IsStillStep (old new : Moment) (t : Tally) (r : Result Step Stop) : Type 0 where
  pub advanced : IsAdvanced old new r
  pub none : items_of r ≡ 0
  pub silent : t.handled ≡ 0 → advanced.made.moved.sent ≡ []

-- the counts are those of before
tally_still : (start old new : Moment) (t : Tally) (r : Result Step Stop) → IsStillStep old new t r → (k : IsTally start old t)
    → has_piece start.half.end k.moved.course.items ≡ false
    → (u : IsTally start new t) × (has_piece start.half.end u.moved.course.items ≡ false)
tally_still start old new t r s k none =
    let z : length s.advanced.made.moved.course.items ≡ 0 = s.advanced.items ∙ s.none in
    let m = serving_still old new s.advanced.made.moved z in
    let items : length m.serving.course.items ≡ 0 = ap (length {A = ℕ × Item}) m.items in
    let queued : queued_at old.half.end m.serving.course.items ≡ 0 = ap (queued_at old.half.end) m.items in (
      tally_on start old new t t k m.serving (omega (arith, k.handled, items)) (omega (arith, queued)) (λ h. m.sent ∙ s.silent h),
      unasked_on start old new k.moved m.serving none ∙ ap (has_piece old.half.end) m.items,
    )

server_still : (old new : Moment) (t : Tally) (r : Result Step Stop) → IsStillStep old new t r → IsServer old.half.end → IsServer new.half.end
server_still old new t r s k = subst IsServer (sym (same_end old new s.advanced.made.moved (s.advanced.items ∙ s.none))) k

-- nothing was moved
pub served_still : {start old new : Moment} {since : ℕ} {t : Tally} (st : Step) → is_still (Ok st) ≡ true → IsStillStep old new t (Ok st)
    → IsServed start old since t → IsServed start new since t
served_still {start} {old} {new} {since} {t} st still s k =
    let z : length s.advanced.made.moved.course.items ≡ 0 = s.advanced.items ∙ s.none in
    let m = serving_still old new s.advanced.made.moved z in
    let quiet = s.advanced.still still in
    let u = tally_still start old new t (Ok st) s k.tally k.unasked in
    record {
      calm = calm_both start.seen.counts old.seen.counts new.seen.counts k.calm (step_calm old new st s.advanced.step);
      quiet = quiet_on since start old new m.serving (m.got ∙ quiet.0, m.sent ∙ quiet.1) k.quiet;
      tally = u.0;
      unasked = u.1;
      server = server_still old new t (Ok st) s k.server;
    }

-- ---- the clock

abbrev clocked : Moment → Seen → Moment
clocked m s = moment s m.pending m.half

-- reading the clock moves nothing
abbrev serving_clock : (m : Moment) (t : ℕ) → IsServing m (clocked m (at_time t m.seen))
serving_clock m t = record {
  got = [];
  heard = [];
  sent = [];
  course = record { items = []; fed = fed_none m.half.feed; end = refl; bytes = append-nil m.half.outbox };
  pending = append-nil m.pending;
  reads = Consumes-nil m.seen.coming;
  writes = Appends-nil m.seen.gone;
}

tally_clock : (start mid : Moment) (t : ℕ) (u : Tally) (k : IsTally start mid u) → has_piece start.half.end k.moved.course.items ≡ false
    → (v : IsTally start (clocked mid (at_time t mid.seen)) u) × (has_piece start.half.end v.moved.course.items ≡ false)
tally_clock start mid t u k none =
    let new = clocked mid (at_time t mid.seen) in
    let m = serving_clock mid t in (
      tally_on start mid new u u k m (omega (arith, k.handled)) (omega arith) (λ h. refl),
      unasked_on start mid new k.moved m none,
    )

pub served_clock : {start mid : Moment} {since : ℕ} {u : Tally} (s : Seen) (t : ℕ) → s ≡ at_time t mid.seen → IsServed start mid since u
    → IsServed start (clocked mid s) since u
served_clock {start} {mid} {since} {u} s t e k =
    let new = clocked mid (at_time t mid.seen) in
    let P : Seen → Type 0 = λ x. IsServed start (clocked mid x) since u in
    let v = tally_clock start mid t u k.tally k.unasked in
    subst P (sym e) (record {
      calm = record { ends = k.calm.ends; failed = k.calm.failed };
      quiet = quiet_on since start mid new (serving_clock mid t) (refl, refl) k.quiet;
      tally = v.0;
      unasked = v.1;
      server = k.server;
    })

-- bytes were moved, and the clock was read
pub served_moved : {start old mid : Moment} {since : ℕ} {u : Tally} (s : Seen) (t : ℕ) → s ≡ at_time t mid.seen → IsStillStep old mid u (Ok step.Moved)
    → IsServed start old since u → IsServed start (clocked mid s) t u
served_moved {start} {old} {mid} {since} {u} s t e still k =
    let new = clocked mid (at_time t mid.seen) in
    let P : Seen → Type 0 = λ x. IsServed start (clocked mid x) t u in
    let w = tally_still start old mid u (Ok step.Moved) still k.tally k.unasked in
    let calm = calm_both start.seen.counts old.seen.counts mid.seen.counts k.calm (step_calm old mid step.Moved still.advanced.step) in
    let v = tally_clock start mid t u w.0 w.1 in
    subst P (sym e) (record {
      calm = record { ends = calm.ends; failed = calm.failed };
      quiet = quiet_here t start new (serving_both start mid new w.0.moved (serving_clock mid t)) refl;
      tally = v.0;
      unasked = v.1;
      server = server_still old mid u (Ok step.Moved) still k.server;
    })

-- ---- a step that handled an item

-- it was handled, and what is said at it is queued then; it sent nothing as long as nothing was handled
pub record IsHeardStep (old mid : Moment) (half : HalfState) (t : Tally) (e : Event) : Type 0 where
  pub advanced : IsAdvanced old mid (Ok (step.Handled e))
  pub answered : half ≡ said (answer_to (belief mid.half.end) e) mid.half
  pub silent : t.handled ≡ 0 → advanced.made.moved.sent ≡ []

belief_said : (o : Option Message) (r : Reaction) → belief (saying o r).end ≡ belief r.end
belief_said None r = refl
belief_said (Some msg) r = refl

-- the counts, and whether a block of a piece came
pub heard : {start old mid : Moment} {half : HalfState} {since : ℕ} {t : Tally} (e : Event) (n : ℕ) → n ≡ queued_by (belief half.end) e
    → IsHeardStep old mid half t e → IsServed start old since t
    → ((u : IsTally start (moment mid.seen mid.pending half) (with_item n t)) × (has_piece start.half.end u.moved.course.items ≡ is_piece e))
    × IsQuietSince since start (moment mid.seen mid.pending half) × IsServer half.end × IsCalm start.seen.counts mid.seen.counts
heard {start} {old} {mid} {half} {since} {t} e n is s k =
    let new = moment mid.seen mid.pending half in
    let a = s.advanced in
    let c = serving_heard old mid a.made.moved half e a.events s.answered in
    let x = c.item in
    let r = react old.half.end x.1 in
    let end : half.end ≡ (served_at old.half.end x.1).end = c.serving.course.end ∙ ap (end_served old.half.end) c.items in
    let same : belief half.end ≡ belief r.end = ap belief end ∙ belief_said (answer_to (belief r.end) (event_of old.half.end x.1)) r in
    let count : n ≡ queued_by (belief r.end) (event_of old.half.end x.1) =
    is ∙ ap (λ (b : Context). queued_by b e) same ∙ ap (queued_by (belief r.end)) c.event in
    let one : length (served_at old.half.end x.1).queued ≡ queued_by (belief r.end) (event_of old.half.end x.1) = queued_of old.half.end x.1 k.server in
    let all : queued_at old.half.end c.serving.course.items ≡ queued_at old.half.end (x ∷ []) = ap (queued_at old.half.end) c.items in
    let items : length c.serving.course.items ≡ 1 = ap (length {A = ℕ × Item}) c.items in
    let quiet = a.still refl in
    let piece : has_piece old.half.end c.serving.course.items ≡ is_piece e = ap (has_piece old.half.end) c.items
    ∙ or-false (is_piece (event_of old.half.end x.1)) ∙ ap is_piece (sym c.event) in (
      (
        tally_on start old new t (with_item n t) k.tally c.serving (omega (arith, items)) (omega (arith, all, one, count)) (λ z. c.sent ∙ s.silent z),
        unasked_on start old new k.tally.moved c.serving k.unasked ∙ piece,
      ),
      quiet_on since start old new c.serving (c.got ∙ quiet.0, c.sent ∙ quiet.1) k.quiet,
      subst IsServer (sym end) (server_at old.half.end x.1 k.server),
      calm_both start.seen.counts old.seen.counts mid.seen.counts k.calm (step_calm old mid (step.Handled e) a.step),
    )

-- it goes on
pub served_heard : {start old mid : Moment} {half : HalfState} {since : ℕ} {t : Tally} (e : Event) (n : ℕ) → n ≡ queued_by (belief half.end) e
    → is_piece e ≡ false → IsHeardStep old mid half t e → IsServed start old since t
    → IsServed start (moment mid.seen mid.pending half) since (with_item n t)
served_heard e n is piece s k =
    let h = heard e n is s k in
    record { calm = h.3; quiet = h.1; tally = h.0.0; unasked = h.0.1 ∙ piece; server = h.2 }

-- a block of a piece ended it
pub ended_unasked : {start old mid : Moment} {half : HalfState} {since : ℕ} {t : Tally} (e : Event) (n : ℕ) → n ≡ queued_by (belief half.end) e
    → is_piece e ≡ true → IsHeardStep old mid half t e → IsServed start old since t
    → (patience : ℕ) → IsEnded patience start (moment mid.seen mid.pending half) (with_item n t) ending.Unasked
ended_unasked {start} {old} {mid} {half} {since} {t} e n is piece s k patience =
    let h = heard e n is s k in
    record {
      last = moment mid.seen mid.pending half;
      answered = (with_item n t).handled;
      tally = h.0.0;
      unasked = h.0.1 ∙ piece;
      ending = ((refl, refl), h.3);
    }

-- its answer couldn't be queued
pub ended_left : {start old mid : Moment} {since : ℕ} {t : Tally} (e : Event) (half : HalfState) → half ≡ mid.half → IsAdvanced old mid (Ok (step.Handled e))
    → IsUnsaid mid.half e → IsServed start old since t
    → (patience : ℕ) → IsEnded patience start (moment mid.seen mid.pending half) (with_item 0 t) ending.Closed
ended_left {start} {old} {mid} {since} {t} e half same a u k patience =
    let one = one_item old.half.end a.made.moved.course.items e a.events in
    let unsaid : IsUnsaid mid.half (event_of old.half.end one.0.1) = subst (IsUnsaid mid.half) one.2 u in
    let P : HalfState → Type 0 = λ x. IsEnded patience start (moment mid.seen mid.pending x) (with_item 0 t) ending.Closed in
    let q = k.tally in
    subst P (sym same) (record {
      last = old;
      answered = t.handled;
      tally = record { moved = q.moved; handled = q.handled; queued = omega (arith, q.queued); silent = q.silent };
      unasked = k.unasked;
      ending = inr (
        calm_both start.seen.counts old.seen.counts mid.seen.counts k.calm (step_calm old mid (step.Handled e) a.step),
        (refl, (a.made.moved, (one.0, one.1, unsaid))),
      );
    })

-- ---- the end of a connection

-- nothing was moved for so long
pub parting_silent : (patience : ℕ) (start now : Moment) (since : ℕ) (t : Tally) → IsServed start now since t
    → (length now.half.outbox ≡ 0 → t.queued ≡ 0) → since + patience < now.seen.counts.clock
    → IsParting patience start now (record { ending = ending.Silent; sent = t.sent; handled = t.handled })
parting_silent patience start now since t k settled long = record {
  queued = t.queued;
  ended = record { last = now; answered = t.handled; tally = k.tally; unasked = k.unasked; ending = ((refl, refl), k.calm, (since, k.quiet, long)) };
  settled = settled;
}

ending_of : (patience : ℕ) (start now : Moment) (n : ℕ) (e : Stop) → IsFault start.seen.counts now.seen.counts now.half e
    → IsEnding patience start now now n n (ended_by e) × (is_unasked (ended_by e) ≡ false)
ending_of patience start now n stop.Closed f = (inl ((refl, refl), inl f), refl)
ending_of patience start now n stop.Failed f = (inl ((refl, refl), inr (inl f)), refl)
ending_of patience start now n stop.Memory f = (inl ((refl, refl), inr (inr f)), refl)
ending_of patience start now n (stop.Refused r) f = (((refl, refl), f), refl)
ending_of patience start now n stop.Done f = absurd f
ending_of patience start now n stop.Hopeless f = absurd f
ending_of patience start now n stop.Mismatch f = absurd f
ending_of patience start now n stop.Silent f = absurd f
ending_of patience start now n stop.Rounds f = absurd f
ending_of patience start now n stop.Unasked f = absurd f

-- a step failed
pub ended_failed : {start old new : Moment} {since : ℕ} {t : Tally} (e : Stop) (x : Ending) → x ≡ ended_by e → IsStillStep old new t (Err e)
    → IsServed start old since t → (patience : ℕ) → IsEnded patience start new t x
ended_failed {start} {old} {new} {since} {t} e x is s k patience =
    let u = tally_still start old new t (Err e) s k.tally k.unasked in
    let end = ending_of patience start new t.handled e
    (fault_after start.seen.counts old.seen.counts new.seen.counts new.half e k.calm s.advanced.step) in
    let P : Ending → Type 0 = λ y. IsEnded patience start new t y in
    subst P (sym is) (record { last = new; answered = t.handled; tally = u.0; unasked = u.1 ∙ sym end.1; ending = end.0 })

-- all that waited is sent
pub stepped_sent : (start now : Moment) (since : ℕ) (t : Tally) (r : Result Step Ending) → IsStepped start now since t r
    → IsStepped start now since (with_all_sent t) r
stepped_sent start now since t (Ok st) k =
    record { calm = k.calm; quiet = k.quiet; tally = tally_sent start now t k.tally; unasked = k.unasked; server = k.server }
stepped_sent start now since t (Err e) k = λ patience.
    let x = k patience in
    record {
      last = x.last;
      answered = x.answered;
      tally = tally_sent start x.last (record { queued = t.queued; sent = t.sent; handled = x.answered }) x.tally;
      unasked = x.unasked;
      ending = x.ending;
    }

-- ---- the start

pub served_first : (h : Hospitality) (pieces : Option ℕ) (metadata : List ℕ) (old s : Seen) (p : List ℕ) (a : HalfState) (t : ℕ) → s ≡ at_time t old
    → p ≡ [] → a ≡ serving_end h pieces metadata
    → IsServed (moment old [] (serving_end h pieces metadata)) (moment s p a) t (record { queued = 1; sent = 0; handled = 0 })
served_first h pieces metadata old s p a t clock empty is =
    let end = serving_end h pieces metadata in
    let start = moment old [] end in
    let new = clocked start (at_time t old) in
    let m = serving_clock start t in
    let one : Tally = record { queued = 1; sent = 0; handled = 0 } in
    let first : IsServed start new t one = record {
      calm = record { ends = refl; failed = refl };
      quiet = quiet_here t start new m refl;
      tally = record { moved = m; handled = refl; queued = refl; silent = λ z. refl };
      unasked = refl;
      server = record { part = refl; announce = refl };
    } in
    let seen : IsServed start (moment s [] end) t one = subst (λ (x : Seen). IsServed start (moment x [] end) t one) (sym clock) first in
    let pending : IsServed start (moment s p end) t one = subst (λ (x : List ℕ). IsServed start (moment s x end) t one) (sym empty) seen in
    subst (λ (x : HalfState). IsServed start (moment s p x) t one) (sym is) pending

-- ---- whether it may send

-- a step sent nothing as long as nothing was handled
pub held : (old new : Moment) (r : Result Step Stop) (t : Tally) (may : Bool) → may ≡ nat_lt 0 t.handled → IsAdvanced old new r
    → (may ≡ false → HasListened old new r) → (a : IsAdvanced old new r) × (t.handled ≡ 0 → a.made.moved.sent ≡ [])
held old new r t true is a l = (a, λ z. absurd (omega (arith, z, ltb-true 0 t.handled (sym is))))
held old new r t false is a l = let h = l refl in (h.0, λ z. h.1)

pub still_step : (old new : Moment) (r : Result Step Stop) (t : Tally) (may : Bool) → may ≡ nat_lt 0 t.handled → IsAdvanced old new r
    → (may ≡ false → HasListened old new r) → items_of r ≡ 0 → IsStillStep old new t r
still_step old new r t may is a l none = let h = held old new r t may is a l in record { advanced = h.0; none = none; silent = h.1 }

pub heard_step : (old mid : Moment) (e : Event) (t : Tally) (may : Bool) (half : HalfState) → may ≡ nat_lt 0 t.handled → IsAdvanced old mid (Ok (step.Handled e))
    → (may ≡ false → HasListened old mid (Ok (step.Handled e))) → half ≡ said (answer_to (belief mid.half.end) e) mid.half → IsHeardStep old mid half t e
heard_step old mid e t may half is a l said_is =
    let h = held old mid (Ok (step.Handled e)) t may is a l in
    record { advanced = h.0; answered = said_is; silent = h.1 }

-- as long as nothing was handled, no more waits to be sent than before
pub short_on : (old new : Moment) (r : Result Step Stop) (t : Tally) → IsStillStep old new t r → (t.handled ≡ 0 → length old.half.outbox < high_water)
    → t.handled ≡ 0 → length new.half.outbox < high_water
short_on old new r t s short z =
    let m = s.advanced.made.moved in
    let reply = replies old.half.end m.course.items in
    let none : reply ≡ [] = ap (replies old.half.end) (nil_from_length m.course.items (s.advanced.items ∙ s.none)) in
    omega (
      arith,
      short z,
      ap (length {A = ℕ}) m.course.bytes,
      length-append old.half.outbox reply,
      length-append m.sent new.half.outbox,
      ap (length {A = ℕ}) none,
      ap (length {A = ℕ}) (s.silent z),
    )

-- how it ended, with its counts
pub parting_ended : (patience : ℕ) (start now : Moment) (t : Tally) (e : Ending) → IsEnded patience start now t e
    → (length now.half.outbox ≡ 0 → t.queued ≡ 0)
    → IsParting patience start now (record { ending = e; sent = t.sent; handled = t.handled })
parting_ended patience start now t e k settled = record { queued = t.queued; ended = k; settled = settled }
