-- One more connection is over.
use Rattle.bt_talk.specs.declared.terms.Terms.{Terms}
use Rattle.std.proofs.Common.{◌≡◌, ◌∙◌, ◌⊎◌, ℕ, ◌+◌, ◌-◌, ◌^◌, ◌<◌, ◌≤◌, min, Bool, true, false, List, [], ◌∷◌, ◌++◌, length, append-nil, append_assoc}
use Rattle.std.proofs.Common.{Option, Some, None, Result, Ok, Err, OnOk, OnErr, refl, sym, ap, subst, arith, inl, inr}
use Rattle.std.specs.List.{All, filter}
use Rattle.std.specs.Map.{lookup}
use Rattle.std.proofs.lemmas.Bool.{cases_Bool}
use Rattle.std.proofs.lemmas.Grind.{flat_map-append}
use Rattle.std.proofs.lemmas.List.{length-append}
use Rattle.std.proofs.lemmas.List.Elements.{All-push, filter-append}
use Rattle.bt_io.specs.Seen.{TargetSeen}
use Rattle.bt_remarks.specs.declared.events.Side.{Side}
use Rattle.bt_talk.specs.Pasts.{Past}
use Rattle.bt_talk.specs.Sent.{IsSent}
use Rattle.bt_talk.specs.declared.rows.Heading.{Heading}
use Rattle.bt_talk.specs.Rows.{Shown, shown_texts}
use Rattle.bt_talk.specs.Shown.{AreTurnRows, Turn}
use Rattle.bt_talk.specs.Talks.{HasHeard, IsTalk, is_in_opening, is_lost, of_side}
use Rattle.bt_talk.specs.declared.talk.Talk.{Talk}
use Rattle.bt_report.specs.declared.report.Left.{Left}
use Rattle.bt_report.specs.declared.report.Report.{Report}
use Rattle.bt_capture.specs.Arrivals.{AreEarlier, Arrival, Clock, is_between, pair_of}
use Rattle.bt_capture.specs.Connections.{IsFirst, IsMade, IsOpen}
use Rattle.bt_capture.specs.Following.{AreRowsOf, AtEnd, Cause, Coming, FollowsIn, GoesIn, IsOverBy, IsParted, MayBe, MayEnd, Phase, Rows}
use Rattle.bt_capture.specs.Following.{AreToldWith, Asked, IsTimely, IsTimelyBy, Since, asked_of}
use Rattle.bt_capture.specs.Following.{Ended, Final, Before, Crowded, IsCause, coming, is_early, is_given_up_as, is_unread, left_in, losses_of, over_for, with_over}
use Rattle.bt_capture.specs.Following.{Finished, Fate, Reported, Silent, Lost, IsFinished, IsKnown, IsReported, IsSentBy, IsShared, IsEnded}
use Rattle.bt_capture.specs.Following.{IsStreamSoFar, Follows, Stops, Holds, Shares, Streams, count_early, count_lost, count_open, count_unread, is_lost_by}
use Rattle.bt_capture.specs.Following.{report_in, reports_of, taken_between, told_by}
use Rattle.bt_capture.specs.Forms.{is_stream, showing_by, wanted_by}
use Rattle.bt_capture.specs.Sending.{HasSent, IsSending}
use Rattle.bt_capture.specs.Rowed.{AreRowsSoFar, HasShown, IsShowing, ShowsOn, heading_of}
use Rattle.bt_capture.specs.Tables.{Held, same_pair}
use Rattle.bt_capture.specs.Tellings.{ArePartsOf, OfBytes, Part, SaysAfter, Tells, TellsOn, is_row_of, report_by, rows_of}
use Rattle.bt_capture.specs.declared.connection.Connection.{Connection}
use Rattle.bt_capture.specs.declared.connections.Losses.{Losses}
use Rattle.bt_capture.specs.declared.connections.Over.{Over}
use Rattle.bt_capture.specs.declared.connections.Connections.{Connections}
use Rattle.bt_capture.specs.declared.ending.Form.{Form}
use Rattle.bt_capture.specs.declared.pair.Pair.{Pair}
use Rattle.bt_capture.specs.declared.telling.Teller.{Teller}
use Rattle.bt_capture.proofs.Entries.{apart_put, apart_rest}
use Rattle.bt_capture.proofs.Rowing.{AddsRows, adds_by, adds_nothing, more_and_end, own_rows_of, parts_more, parts_of_report, rows_of_report, rows_of_segment}
use Rattle.bt_capture.proofs.Rowing.{parts_of_segment, parts_same, rows_begun, rows_held, rows_over, rows_same}
use Rattle.bt_capture.proofs.Parting.{parts_coming, parts_end, parts_over, parts_took, timely_own}
use Rattle.bt_capture.proofs.Rowing.{rows_to_same, rows_took, text_of_report, text_of_segment}
use Rattle.bt_capture.proofs.Shares.{IsIts, own_of, others_of, others_on, over, took, own_none, ready, ready_sent, share_same}
use Rattle.bt_capture.proofs.SoFar.{EndsStream, ended_so_far, open_so_far, so_far_more, so_far_same}
use Rattle.bt_capture.proofs.Streaming.{AddsFor, alone_open, alone_over, has_begun}
use Rattle.bt_capture.proofs.Streaming.{sending_begun, sending_same, streaming_begun}
use Rattle.bt_capture.proofs.Streaming.{streaming_over, streaming_same, streaming_took}
use Rattle.bt_capture.proofs.Wants.{wanted_stream}
use Rattle.std.specs.List.Sorted.{IsNonDecreasing}
use Rattle.bt_capture.specs.Following.{AreParts, ComeLast, numbers}
use Rattle.bt_capture.proofs.Order.{last_begins, last_over, order_begun, order_held, order_over, order_same, order_took, placed, placed_now}
use Rattle.bt_capture.proofs.Rowing.{after_rows, in_time_of, in_time_on, in_time_took, so_far_gone, so_far_lost}
use Rattle.bt_capture.proofs.Silent.{nothing_came, nothing_sent, nothing_shown}
use Rattle.bt_capture.proofs.Timing.{told_more, told_reported, told_unreported}

pub reports_more : (fs : List Finished) (f : Finished) → reports_of (fs ++ f ∷ []) ≡ reports_of fs ++ report_in f.fate
reports_more fs f = flat_map-append (λ g. report_in g.fate) fs (f ∷ []) ∙ ap (λ l. reports_of fs ++ l) (append-nil (report_in f.fate))

one_passes : {X : Type 0} (p : X → Bool) (x : X) → p x ≡ true → filter p (x ∷ []) ≡ x ∷ []
one_passes p x e = rw e refl

none_passes : {X : Type 0} (p : X → Bool) (x : X) → p x ≡ false → filter p (x ∷ []) ≡ []
none_passes p x e = rw e refl

count_one : (test : Finished → Bool) (fs : List Finished) (f : Finished) → test f ≡ true
    → min (min (length (filter test fs)) (2 ^ 64 - 1) + 1) (2 ^ 64 - 1) ≡ min (length (filter test (fs ++ f ∷ []))) (2 ^ 64 - 1)
count_one test fs f e =
    let more : length (filter test (fs ++ f ∷ [])) ≡ length (filter test fs) + 1 =
    ap length (filter-append test fs (f ∷ [])) ∙ length-append (filter test fs) (filter test (f ∷ []))
    ∙ ap (λ l. length (filter test fs) + length l) (one_passes test f e) in
    omega (arith, more)

count_none : (test : Finished → Bool) (fs : List Finished) (f : Finished) → test f ≡ false
    → min (length (filter test fs)) (2 ^ 64 - 1) ≡ min (length (filter test (fs ++ f ∷ []))) (2 ^ 64 - 1)
count_none test fs f e =
    ap (λ l. min (length l) (2 ^ 64 - 1))
    (sym (append-nil (filter test fs)) ∙ ap (λ l. filter test fs ++ l) (sym (none_passes test f e)) ∙ sym (filter-append test fs (f ∷ [])))

losses_by : (a b c d e f : ℕ) → a ≡ d → b ≡ e → c ≡ f
    → ◌≡◌ {A = Losses} (record { memory = a; crowd = b; early = c }) (record { memory = d; crowd = e; early = f })
losses_by a b c d e f memory crowd early = cc

-- Memory ran out with the last one.
lost_more : (fs : List Finished) (f : Finished) → is_lost_by f.fate ≡ true
    → record (losses_of fs) { memory = min (count_lost fs + 1) (2 ^ 64 - 1) } ≡ losses_of (fs ++ f ∷ [])
lost_more fs f lost =
    losses_by (min (count_lost fs + 1) (2 ^ 64 - 1)) (count_unread fs) (count_early fs) (count_lost (fs ++ f ∷ [])) (count_unread (fs ++ f ∷ []))
    (count_early (fs ++ f ∷ [])) (count_one (λ g. is_lost_by g.fate) fs f lost) (count_none (is_given_up_as is_unread) fs f (rw lost refl))
    (count_none (is_given_up_as is_early) fs f (rw lost refl))

kept_uncrowded : (fs : List Finished) (f : Finished) → is_unread f.cause ≡ false → is_early f.cause ≡ false → is_lost_by f.fate ≡ false
    → losses_of fs ≡ losses_of (fs ++ f ∷ [])
kept_uncrowded fs f read late kept =
    losses_by (count_lost fs) (count_unread fs) (count_early fs) (count_lost (fs ++ f ∷ [])) (count_unread (fs ++ f ∷ [])) (count_early (fs ++ f ∷ []))
    (count_none (λ g. is_lost_by g.fate) fs f kept) (count_none (is_given_up_as is_unread) fs f (rw kept read))
    (count_none (is_given_up_as is_early) fs f (rw kept late))

kept_for : (cause : Cause) (fs : List Finished) (f : Finished) → f.cause ≡ cause → is_lost_by f.fate ≡ false
    → with_over (over_for cause) (losses_of fs) ≡ losses_of (fs ++ f ∷ [])
kept_for Final fs f why kept = kept_uncrowded fs f (ap is_unread why) (ap is_early why) kept
kept_for (Ended at) fs f why kept = kept_uncrowded fs f (ap is_unread why) (ap is_early why) kept
kept_for (Before x) fs f why kept = kept_uncrowded fs f (ap is_unread why) (ap is_early why) kept
kept_for (Crowded true at) fs f why kept =
    losses_by (count_lost fs) (count_unread fs) (min (count_early fs + 1) (2 ^ 64 - 1)) (count_lost (fs ++ f ∷ [])) (count_unread (fs ++ f ∷ []))
    (count_early (fs ++ f ∷ [])) (count_none (λ g. is_lost_by g.fate) fs f kept) (count_none (is_given_up_as is_unread) fs f (rw kept (ap is_unread why)))
    (count_one (is_given_up_as is_early) fs f (rw kept (ap is_early why)))
kept_for (Crowded false at) fs f why kept =
    losses_by (count_lost fs) (min (count_unread fs + 1) (2 ^ 64 - 1)) (count_early fs) (count_lost (fs ++ f ∷ [])) (count_unread (fs ++ f ∷ []))
    (count_early (fs ++ f ∷ [])) (count_none (λ g. is_lost_by g.fate) fs f kept) (count_one (is_given_up_as is_unread) fs f (rw kept (ap is_unread why)))
    (count_none (is_given_up_as is_early) fs f (rw kept (ap is_early why)))

-- The last one isn't lost.
lost_same : (fs : List Finished) (f : Finished) → is_lost_by f.fate ≡ false → with_over (over_for f.cause) (losses_of fs) ≡ losses_of (fs ++ f ∷ [])
lost_same fs f kept = kept_for f.cause fs f refl kept

known_more : (start : Since) (now : TargetSeen) (fs : List Finished) (f : Finished) (written : List ℕ) (old new : Connections) → new.terms ≡ old.terms
    → Tells start.target now new.teller (reports_of fs ++ report_in f.fate) written → new.lost ≡ losses_of (fs ++ f ∷ [])
    → IsFinished old.terms start.from f → IsKnown start now fs written old → IsKnown start now (fs ++ f ∷ []) written new
known_more start now fs f written old new terms tells lost is i =
    let P : Terms → Type 0 = λ x. All (IsFinished x start.from) (fs ++ f ∷ []) in
    record {
      tells = subst (λ l. Tells start.target now new.teller l written) (sym (reports_more fs f)) tells;
      finished = subst P (sym terms) (All-push (IsFinished old.terms start.from) fs f i.finished is);
      lost = lost;
    }

-- ---- how many have begun

begun_over : (a : ℕ) (fs : List Finished) (f : Finished) (e : Pair × Held) (es : List (Pair × Held)) → a ≡ min (length fs + length (e ∷ es)) (2 ^ 64 - 1)
    → a ≡ min (length (fs ++ f ∷ []) + length es) (2 ^ 64 - 1)
begun_over a fs f e es h = omega (arith, h, length-append fs (f ∷ []))

begun_held : (a n : ℕ) (e : Pair × Held) (es : List (Pair × Held)) → a ≡ min (n + length (e ∷ es)) (2 ^ 64 - 1) → a ≡ min (n + (length es + 1)) (2 ^ 64 - 1)
begun_held a n e es h = omega (arith, h)

begun_took : (a n : ℕ) (e : Pair × Held) (es : List (Pair × Held)) → a ≡ min (n + (length es + 1)) (2 ^ 64 - 1) → a ≡ min (n + length (e ∷ es)) (2 ^ 64 - 1)
begun_took a n e es h = omega (arith, h)

begun_more : (a b n m : ℕ) → a ≡ min (b + 1) (2 ^ 64 - 1) → b ≡ min (n + m) (2 ^ 64 - 1) → a ≡ min (n + (m + 1)) (2 ^ 64 - 1)
begun_more a b n m e f = omega (arith, e, f)

-- What is asked for stays.
pub asked_by : (old new : Connections) → new.terms ≡ old.terms → new.teller.form ≡ old.teller.form → asked_of new ≡ asked_of old
asked_by old new terms form =
    let by : Terms → Form → Asked = λ t f. record { terms = t; form = f } in ap (λ (t : Terms). by t new.teller.form) terms ∙ ap (by old.terms) form

-- What is told of a stream stays.
pub told_same : (written : List ℕ) (old new : Connections) → new.teller ≡ old.teller → told_by written new ≡ told_by written old
told_same written old new teller = ap (λ (t : Teller). written ++ t.text.items) teller

streams_same : (from : ℕ) (written written' : List ℕ) (fs : List Finished) (es : List (Pair × Held)) (old new : Connections) → new.terms ≡ old.terms
    → new.teller.form ≡ old.teller.form → new.begun ≡ old.begun → told_by written' new ≡ told_by written old
    → Streams from written fs es old → Streams from written' fs es new
streams_same from written written' fs es old new terms form count told i =
    streaming_same old.teller.form new.teller.form (told_by written old) (told_by written' new) old.terms new.terms from from old.begun new.begun fs es form
    told terms refl count i

rows_as : (from : ℕ) (packet : ℕ → ℕ) (parts : List Part) (written written' : List ℕ) (came : List Arrival) (fs : List Finished) (es : List (Pair × Held))
    (old new : Connections) → new.terms ≡ old.terms → new.teller.form ≡ old.teller.form → new.begun ≡ old.begun → told_by written' new ≡ told_by written old
    → Rows from packet parts written came fs es old → Rows from packet parts written' came fs es new
rows_as from packet parts written written' came fs es old new terms form count told i =
    rows_same old.teller.form new.teller.form packet parts (told_by written old) (told_by written' new) old.terms new.terms from from old.begun new.begun came
    fs es form told terms refl count i

pub shares_same : (written written' : List ℕ) (came : List Arrival) (fs : List Finished) (old new : Connections) (k : Pair) (o : Option Held)
    → new.terms ≡ old.terms → new.teller.form ≡ old.teller.form → told_by written' new ≡ told_by written old → Shares written came fs old k o
    → Shares written' came fs new k o
shares_same written written' came fs old new k o terms form told i =
    share_same old.teller.form new.teller.form (told_by written old) (told_by written' new) old.terms new.terms came fs k o form told terms i

-- The first of these is over.
pub follows_over : {ph : Phase} {clock : Clock} (start : Since) (now : TargetSeen) (came : List Arrival) (p : Pair) (c : Held) (es : List (Pair × Held))
    (old new : Connections) → lookup (same_pair p) es ≡ None → new.terms ≡ old.terms → new.teller.form ≡ old.teller.form → new.begun ≡ old.begun
    → (i : FollowsIn ph start now clock came ((p, c) ∷ es) old) → (f : Finished) → f.number ≡ c.value.number → f.pair ≡ p → IsShared p came i.fs f.taken
    → IsParted f.cause (coming ph p) → MayBe ph f.cause → IsTimely clock f
    → AddsFor old.teller.form c.value.number (told_by i.written old) (told_by i.written new)
    → Tells start.target now new.teller (reports_of i.fs ++ report_in f.fate) i.written → new.lost ≡ losses_of (i.fs ++ f ∷ [])
    → IsFinished old.terms start.from f → IsSentBy old.teller.form (told_by i.written new) old.terms start.from f
    → (packet : ℕ → ℕ) (parts : List Part) (rows : List Shown) → AddsRows c.value.number rows i.packet packet i.parts parts
    → ArePartsOf old.teller.form (reports_of (i.fs ++ f ∷ [])) (told_by i.written new) parts
    → AreRowsOf old.teller.form packet parts old.terms start.from f
    → AreToldWith packet clock.number parts (i.fs ++ f ∷ []) → FollowsIn ph start now clock came es new
follows_over {ph} {clock} start now came p c es old new absent terms form count i f number ends share parted may timely adds tells lost is sent packet
    parts rows gets parts_are shows times =
    let n = c.value.number in
    let shown = old.teller.form in
    let told = told_by i.written old in
    let told' = told_by i.written new in
    let from = start.from in
    let alone : n < 2 ^ 64 - 1 → count_open n es ≡ 0 = alone_open old.begun i.fs p c es i.streams.numbered in
    let others = others_on shown old.terms came i.fs told told' n p es alone adds (others_of shown old.terms came i.fs told p c es i.shared) in
    record {
      fs = i.fs ++ f ∷ [];
      written = i.written;
      known = known_more start now i.fs f i.written old new terms tells lost is i.known;
      begun = begun_over new.begun i.fs f (p, c) es (count ∙ i.begun);
      apart = apart_rest (p, c) es i.apart;
      streams = streaming_same shown new.teller.form told' told' old.terms new.terms from from old.begun new.begun (i.fs ++ f ∷ []) es
          form refl terms refl count
          (streaming_over shown told told' old.terms from old.begun i.fs f p c es number adds sent i.streams);
      shared = λ k. share_same shown new.teller.form told' told' old.terms new.terms came (i.fs ++ f ∷ []) k (lookup (same_pair k) es) form refl terms
          (over shown old.terms came i.fs told' p es f ends absent share others k);
      parts = parts;
      rows = rows_same shown new.teller.form packet parts told' told' old.terms new.terms from from old.begun new.begun came
          (i.fs ++ f ∷ []) es
          form refl terms refl count
          (rows_over shown old.terms from i.packet packet i.parts parts told told' old.begun came i.fs f p c es rows ends absent share
          (alone_over old.begun i.fs p c es i.streams.numbered) alone (has_begun old.begun i.fs p c es i.streams.numbered) gets parts_are shows i.rows);
      parting = parts_over ph came i.fs p f ends share parted may i.parting;
      order = order_same came (i.fs ++ f ∷ []) es old.begun new.begun count (order_over came i.fs f p c es old.begun number ends absent share i.order);
      last = last_over ph i.fs f p c es may number i.last;
      timely = All-push (IsTimely clock) i.fs f i.timely timely;
      packet = packet;
      times = times;
    }

pub known_same : (start : Since) (now : TargetSeen) (fs : List Finished) (written written' : List ℕ) (old new : Connections) → new.terms ≡ old.terms
    → new.lost ≡ old.lost → Tells start.target now new.teller (reports_of fs) written' → IsKnown start now fs written old
    → IsKnown start now fs written' new
known_same start now fs written written' old new terms lost tells i =
    let P : Terms → Type 0 = λ x. All (IsFinished x start.from) fs in
    record { tells = tells; finished = subst P (sym terms) i.finished; lost = lost ∙ i.lost }

known_kept : (start : Since) (now : TargetSeen) (fs : List Finished) (written : List ℕ) (old new : Connections) → new.terms ≡ old.terms
    → new.lost ≡ old.lost → new.teller ≡ old.teller → IsKnown start now fs written old → IsKnown start now fs written new
known_kept start now fs written old new terms lost teller i =
    known_same start now fs written written old new terms lost
    (subst (λ t. Tells start.target now t (reports_of fs) written) (sym teller) i.tells) i

pub follows_same : {ph : Phase} {clock : Clock} (start : Since) (now : TargetSeen) (came : List Arrival) (es : List (Pair × Held)) (old new : Connections)
    → new.terms ≡ old.terms → new.lost ≡ old.lost → new.teller ≡ old.teller → new.begun ≡ old.begun
    → FollowsIn ph start now clock came es old
    → FollowsIn ph start now clock came es new
follows_same start now came es old new terms lost teller count i =
    let form = ap (λ (t : Teller). t.form) teller in
    let told = told_same i.written old new teller in
    record {
      fs = i.fs;
      written = i.written;
      begun = count ∙ i.begun;
      apart = i.apart;
      known = known_kept start now i.fs i.written old new terms lost teller i.known;
      streams = streams_same start.from i.written i.written i.fs es old new terms form count told i.streams;
      shared = λ k. shares_same i.written i.written came i.fs old new k (lookup (same_pair k) es) terms form told (i.shared k);
      parts = i.parts;
      rows = rows_as start.from i.packet i.parts i.written i.written came i.fs es old new terms form count told i.rows;
      parting = i.parting;
      order = order_same came i.fs es old.begun new.begun count i.order;
      last = i.last;
      timely = i.timely;
      packet = i.packet;
      times = i.times;
    }

pub stops_same : {clock : Clock} (start : Since) (now : TargetSeen) (came : List Arrival) (old new : Connections)
    → new.terms ≡ old.terms → new.lost ≡ old.lost → new.teller ≡ old.teller → Stops start now clock came old
    → Stops start now clock came new
stops_same start now came old new terms lost teller i = record {
  fs = i.fs;
  written = i.written;
  known = known_kept start now i.fs i.written old new terms lost teller i.known;
  so_far = so_far_same old.teller.form new.teller.form (told_by i.written old) (told_by i.written new) old.terms new.terms start.from
      start.from came i.fs (ap (λ (t : Teller). t.form) teller) (told_same i.written old new teller) terms refl
      i.so_far;
  shared = i.shared;
  timely = i.timely;
}

pub follows_so_far : {ph : Phase} {clock : Clock} (start : Since) (now : TargetSeen) (came : List Arrival) (es : List (Pair × Held)) (run : Connections)
    → (i : FollowsIn ph start now clock came es run)
    → IsStreamSoFar run.teller.form (told_by i.written run) run.terms start.from came i.fs
follows_so_far start now came es run i =
    open_so_far run.teller.form (told_by i.written run) run.terms start.from run.begun came i.fs es i.apart i.streams i.order i.shared

pub stops_of : {ph : Phase} {clock : Clock} (start : Since) (now : TargetSeen) (came : List Arrival) (es : List (Pair × Held)) (run : Connections)
    → FollowsIn ph start now clock came es run → Stops start now clock came run
stops_of start now came es run i = record {
  fs = i.fs;
  written = i.written;
  known = i.known;
  so_far = follows_so_far start now came es run i;
  shared = λ k. ((i.shared k).taken, (i.shared k).share);
  timely = i.timely;
}

-- A step changed nothing.
pub goes_any : {T E : Type 0} {ph : Phase} {clock : Clock} (r : Result T E) (start : Since) (now : TargetSeen) (came : List Arrival) (es : List (Pair × Held))
    (run : Connections) → FollowsIn ph start now clock came es run → GoesIn ph start now clock came es run r
goes_any (Ok x) start now came es run i = i
goes_any (Err e) start now came es run i = stops_of start now came es run i

-- The text that was kept is written.
pub follows_flushed : {ph : Phase} {clock : Clock} (start : Since) (now after : TargetSeen) (came : List Arrival) (es : List (Pair × Held)) (old new : Connections)
    → new.terms ≡ old.terms → new.lost ≡ old.lost → new.begun ≡ old.begun → new.teller.form ≡ old.teller.form
    → new.teller.text.items ≡ []
    → ((reports : List Report) (written : List ℕ) → Tells start.target now old.teller reports written
    → Tells start.target after new.teller reports (written ++ old.teller.text.items))
    → FollowsIn ph start now clock came es old → FollowsIn ph start after clock came es new
follows_flushed start now after came es old new terms lost count form empty tells i =
    let written = told_by i.written old in
    let told : told_by written new ≡ written = ap (λ (l : List ℕ). written ++ l) empty ∙ append-nil written in
    let P : Terms → Type 0 = λ x. All (IsFinished x start.from) i.fs in
    record {
      fs = i.fs;
      written = written;
      begun = count ∙ i.begun;
      apart = i.apart;
      known = record {
        tells = tells (reports_of i.fs) i.written i.known.tells;
        finished = subst P (sym terms) i.known.finished;
        lost = lost ∙ i.known.lost;
      };
      streams = streams_same start.from i.written written i.fs es old new terms form count told i.streams;
      shared = λ k. shares_same i.written written came i.fs old new k (lookup (same_pair k) es) terms form told (i.shared k);
      parts = i.parts;
      rows = rows_as start.from i.packet i.parts i.written written came i.fs es old new terms form count told i.rows;
      parting = i.parting;
      order = order_same came i.fs es old.begun new.begun count i.order;
      last = i.last;
      timely = i.timely;
      packet = i.packet;
      times = i.times;
    }

-- The first connection's share of the segments.
abbrev own : {ph : Phase} {clock : Clock} (start : Since) (now : TargetSeen) (came : List Arrival) (p : Pair) (c : Held) (es : List (Pair × Held)) (run : Connections)
    → (i : FollowsIn ph start now clock came ((p, c) ∷ es) run) → Shares i.written came i.fs run p (Some c)
own start now came p c es run i = own_of run.teller.form run.terms came i.fs (told_by i.written run) p c es i.shared

-- It is over without a report.
unreported : {ph : Phase} {clock : Clock} (start : Since) (now : TargetSeen) (came : List Arrival) (p : Pair) (c : Held) (es : List (Pair × Held)) (old new : Connections)
    (end : Fate) (cause : Cause) → IsParted cause (coming ph p) → MayBe ph cause → IsTimelyBy clock came cause → lookup (same_pair p) es ≡ None
    → new.terms ≡ old.terms → new.teller ≡ old.teller → new.begun ≡ old.begun
    → report_in end ≡ [] → (i : FollowsIn ph start now clock came ((p, c) ∷ es) old)
    → (f : Finished) → f ≡ record { number = c.value.number; pair = p; taken = (own start now came p c es old i).taken; fate = end; cause = cause }
    → new.lost ≡ losses_of (i.fs ++ f ∷ []) → IsFinished old.terms start.from f
    → IsSentBy old.teller.form (told_by i.written old) old.terms start.from f
    → AreRowsOf old.teller.form i.packet i.parts old.terms start.from f → FollowsIn ph start now clock came es new
unreported {ph} {clock} start now came p c es old new end cause parted may timely absent terms teller count none i f is lost finished sent shows =
    let told = told_same i.written old new teller in
    let P : List ℕ → Type 0 = λ l. IsSentBy old.teller.form l old.terms start.from f in
    let reports : reports_of i.fs ≡ reports_of i.fs ++ report_in f.fate =
    sym (append-nil (reports_of i.fs)) ∙ ap (λ (l : List Report). reports_of i.fs ++ l) (sym (ap (λ (g : Finished). report_in g.fate) is ∙ none)) in
    let tells = subst (λ t. Tells start.target now t (reports_of i.fs) i.written) (sym teller) i.known.tells in
    let why : f.cause ≡ cause = ap (λ (g : Finished). g.cause) is in
    follows_over start now came p c es old new absent terms (ap (λ (t : Teller). t.form) teller) count i f (ap (λ (g : Finished). g.number) is)
    (ap (λ (g : Finished). g.pair) is)
    (subst (λ (l : List Arrival). IsShared p came i.fs l) (sym (ap (λ (g : Finished). g.taken) is)) (own start now came p c es old i).share)
    (subst (λ (x : Cause). IsParted x (coming ph p)) (sym why) parted) (subst (λ (x : Cause). MayBe ph x) (sym why) may)
    (let s = own start now came p c es old i in subst (IsTimely clock) (sym is) (timely_own clock p came i.fs s.taken cause s.share timely))
    (λ stream w. told) (subst (λ l. Tells start.target now new.teller l i.written) reports tells) lost finished (subst P (sym told) sent)
    i.packet i.parts [] (adds_nothing c.value.number i.packet i.parts)
    (parts_same old.teller.form old.teller.form (reports_of i.fs) (reports_of (i.fs ++ f ∷ [])) (told_by i.written old) (told_by i.written new) i.parts refl
    (reports_more i.fs f ∙ sym reports) told i.rows.rowed.parts_are) shows
    (told_unreported i.packet clock.number i.parts i.fs f (ap (λ (g : Finished). report_in g.fate) is ∙ none) i.times)

over_by : (terms : Terms) (taken : List Arrival) (ph : Phase) (clock : Clock) (came : List Arrival) (p : Pair) (c : Connection) (cause : Cause)
    → MayEnd ph clock came cause p c → is_lost c.talk ≡ false → IsMade terms taken [] c.talk → IsOverBy terms taken cause
over_by terms taken ph clock came p c cause may there m = record {
  first = m.first;
  is_first = subst (IsFirst m.first) (append-nil taken) m.is_first;
  a = m.a;
  b = m.b;
  last = c.talk;
  made = m.made;
  why = may.why there m.a m.b m.made.is;
}

-- Memory ran out with one of its segments, or now.
lost_by : (terms : Terms) (taken : List Arrival) (ph : Phase) (clock : Clock) (came : List Arrival) (p : Pair) (c : Connection) (cause : Cause)
    → MayEnd ph clock came cause p c → IsOpen terms taken [] c → IsCause terms taken cause Lost
lost_by terms taken ph clock came p c cause may i = elim (cases_Bool (is_lost c.talk)) [
  | inl gone ↦ inr (i.ran_out gone, may.why_lost gone)
  | inr there ↦ inl (over_by terms taken ph clock came p c cause may there (i.made there))
]

-- No byte of it was captured.
pub silent : {ph : Phase} {clock : Clock} (start : Since) (now : TargetSeen) (came : List Arrival) (p : Pair) (c : Held) (es : List (Pair × Held)) (run new : Connections)
    (cause : Cause) → MayEnd ph clock came cause p c.value → lookup (same_pair p) es ≡ None → c.value.has_payload ≡ false → is_lost c.value.talk ≡ false
    → new.terms ≡ run.terms → new.teller ≡ run.teller → new.begun ≡ run.begun → new.lost ≡ with_over (over_for cause) run.lost
    → FollowsIn ph start now clock came ((p, c) ∷ es) run → FollowsIn ph start now clock came es new
silent {ph} {clock} start now came p c es run new cause may absent none there terms teller count lost i =
    let s = own start now came p c es run i in
    let form = run.teller.form in
    let n = c.value.number in
    let talk = c.value.talk in
    let told = told_by i.written run in
    let from = start.from in
    let no_data = sym s.is.0.has_payload ∙ none in
    let rows = own_rows_of form run.terms from i.packet i.parts told run.begun came i.fs p c es s.taken s.share i.rows in
    let g = rows.1 there in
    let out = nothing_came run.terms s.taken talk no_data g.0 in
    let no_rows = nothing_shown (heading_of form n from) g.0.a g.0.b talk g.0.made.turns rows.0 g.0.made.is g.0.made.heard out.0 out.1 out.2 g.1 in
    let f : Finished = record { number = n; pair = p; taken = s.taken; fate = Silent; cause = cause } in
    unreported start now came p c es run new Silent cause may.parted may.may_be may.timely absent terms teller count refl i f refl
    (lost ∙ ap (with_over (over_for cause)) i.known.lost ∙ lost_same i.fs f refl)
    (no_data, over_by run.terms s.taken ph clock came p c.value cause may there (s.is.0.made there))
    (λ side small w.
    let h = (s.is.1 side small w).all there in
    let none_out = nothing_came run.terms s.taken talk no_data h.0 in
    nothing_sent (is_in_opening talk) side h.0.a h.0.b told none_out.0 none_out.1 h.1) (λ small. rows.2 small ∙ no_rows)

-- Memory ran out with it.
pub lost_one : {ph : Phase} {clock : Clock} (start : Since) (now : TargetSeen) (came : List Arrival) (p : Pair) (c : Held) (es : List (Pair × Held)) (old new : Connections)
    (cause : Cause) → MayEnd ph clock came cause p c.value → lookup (same_pair p) es ≡ None → new.terms ≡ old.terms
    → new.teller ≡ old.teller → new.lost ≡ record old.lost { memory = min (old.lost.memory + 1) (2 ^ 64 - 1) } → new.begun ≡ old.begun
    → FollowsIn ph start now clock came ((p, c) ∷ es) old → FollowsIn ph start now clock came es new
lost_one {ph} {clock} start now came p c es old new cause may absent terms teller lost count i =
    let s = own start now came p c es old i in
    let from = start.from in
    let rows = own_rows_of old.teller.form old.terms from i.packet i.parts (told_by i.written old) old.begun came i.fs p c es s.taken s.share i.rows in
    let f : Finished = record { number = c.value.number; pair = p; taken = s.taken; fate = Lost; cause = cause } in
    let more : Losses → Losses = λ l. record l { memory = min (l.memory + 1) (2 ^ 64 - 1) } in
    unreported start now came p c es old new Lost cause may.parted may.may_be may.timely absent terms teller count refl i f refl
    (lost ∙ ap more i.known.lost ∙ lost_more i.fs f refl) (tt, lost_by old.terms s.taken ph clock came p c.value cause may s.is.0)
    (λ side small w. (s.is.1 side small w).early) (λ small. (is_lost c.value.talk, rows.3 small))

-- What is told after these bytes were appended, if a stream is told.
appended : (written more : List ℕ) (old new : Connections) → new.teller.text.items ≡ old.teller.text.items ++ more → told_by written new ≡ told_by written old ++ more
appended written more old new text = ap (λ (l : List ℕ). written ++ l) text ∙ sym (append_assoc written old.teller.text.items more)

adds_more : (form : Form) (n : ℕ) (told told' more : List ℕ) → (is_stream form ≡ true → told' ≡ told ++ more) → (wanted_by form n ≡ None → more ≡ [])
    → AddsFor form n told told'
adds_more form n told told' more is none stream w = is stream ∙ ap (λ (l : List ℕ). told ++ l) (none w) ∙ append-nil told

-- Its opening is ended.
abbrev pub Ends : Talk → Talk → Type 0
Ends last talk = (a b : Past) (turns : List Turn) → IsTalk a b last → HasHeard turns a b last → (now : List Turn) × IsEnded a b last talk turns now

-- Its opening is ended, and its report told: bytes of a stream come first, and rows, those of its last turns.
abbrev pub Reports : Teller → Teller → Heading → Left → Talk → Talk → List ℕ → Type 0
Reports t t' h left last talk bytes = (a b : Past) (turns : List Turn) (before : List Shown) → IsTalk a b last → HasHeard turns a b last
    → AreTurnRows h turns before → (now : List Turn) × IsEnded a b last talk turns now
    × ((rows : List Shown) × AreTurnRows h now (before ++ rows) × SaysAfter t t' h.connection h.start left talk bytes rows)

pub reported : {A E : Type 0} {ph : Phase} {clock : Clock} (r : Result A E) (start : Since) (now : TargetSeen) (came : List Arrival) (p : Pair) (c : Held)
    (es : List (Pair × Held)) (old new : Connections) (cause : Cause) (over : Over) → MayEnd ph clock came cause p c.value → over ≡ over_for cause
    → lookup (same_pair p) es ≡ None → c.value.has_payload ≡ true → new.terms ≡ old.terms
    → OnOk r (new.lost ≡ with_over over old.lost) → OnErr r (new.lost ≡ old.lost)
    → new.teller.form ≡ old.teller.form → new.begun ≡ old.begun → is_lost c.value.talk ≡ false → (talk : Talk)
    → Ends c.value.talk talk → (Q : Type 0) → ((a b : Past) → IsTalk a b c.value.talk → Q)
    → OnErr r (Q → TellsOn old.teller new.teller) → (more : List ℕ)
    → OnOk r (is_stream old.teller.form ≡ true → Q → new.teller.text.items ≡ old.teller.text.items ++ more)
    → OnErr r (is_stream old.teller.form ≡ true → Q
    → (new.teller.text.items ≡ old.teller.text.items) ⊎ (new.teller.text.items ≡ old.teller.text.items ++ more))
    → (wanted_by old.teller.form c.value.number ≡ None → more ≡ []) → EndsStream old.teller.form c.value.number c.value.talk more
    → OnOk r (Reports old.teller new.teller (heading_of old.teller.form c.value.number start.from) (left_in over) c.value.talk talk more)
    → FollowsIn ph start now clock came ((p, c) ∷ es) old → GoesIn ph start now clock came es new r
reported {A} {E} {ph} {clock} (Ok x) start now came p c es old new cause over may is_over absent some terms lost same form count there talk ended Q
    shown nothing more text part none ends reports i =
    let s = own start now came p c es old i in
    let n = c.value.number in
    let m = s.is.0.made there in
    let q = shown m.a m.b m.made.is in
    let from = start.from in
    let number = clock.number in
    let head = heading_of old.teller.form n from in
    let told = told_by i.written old in
    let own = own_rows_of old.teller.form old.terms from i.packet i.parts told old.begun came i.fs p c es s.taken s.share i.rows in
    let g = own.1 there in
    let all_of = reports g.0.a g.0.b g.0.made.turns own.0 g.0.made.is g.0.made.heard g.1 in
    let w = all_of.2 in
    let said = w.2 in
    let end = said.4 g.0.a g.0.b all_of.1.is in
    let told' = told_by i.written new in
    let f : Finished = record { number = n; pair = p; taken = s.taken; fate = Reported said.0; cause = cause } in
    let is : is_stream old.teller.form ≡ true → told' ≡ told ++ more = λ stream. appended i.written more old new (text stream q) in
    let all = w.0 ++ said.3 in
    let last : List ℕ = (more ++ shown_texts (showing_by old.teller.form) all) ++ report_by old.teller.form said.0 in
    let parts = i.parts ++ parts_of_report more all said.0 in
    let are_of = more_and_end head all_of.0 own.0 w.0 g.0.a g.0.b talk said.3 w.1 end in
    let packet = placed i.packet (length i.parts) number in
    let gets : AddsRows n all i.packet packet i.parts parts =
    adds_by n all i.packet number i.parts (parts_of_report more all said.0) (rows_of_report more all said.0) are_of in
    let parts_are : ArePartsOf old.teller.form (reports_of (i.fs ++ f ∷ [])) told' parts =
    parts_same old.teller.form old.teller.form (reports_of i.fs ++ said.0 ∷ []) (reports_of (i.fs ++ f ∷ [])) (told ++ last) told' parts refl
    (reports_more i.fs f) (appended i.written last old new said.5)
    (parts_more old.teller.form (reports_of i.fs) (said.0 ∷ []) told last i.parts (parts_of_report more all said.0) refl
    (text_of_report old.teller.form n more all said.0 none) i.rows.rowed.parts_are) in
    let report_by : (k : IsMade old.terms s.taken [] c.value.talk) (turns : List Turn) → IsEnded k.a k.b c.value.talk talk k.made.turns turns
    → IsReported old.terms from n s.taken said.0 = λ k turns e.
    record {
      first = k.first;
      is_first = subst (IsFirst k.first) (append-nil s.taken) k.is_first;
      a = k.a;
      b = k.b;
      last = c.value.talk;
      made = k.made;
      talk = talk;
      turns = turns;
      ended = e;
      left = left_in over;
      is = said.1 k.a k.b turns e.is e.heard;
    } in
    let report : (k : IsMade old.terms s.taken [] c.value.talk) → IsReported old.terms from n s.taken said.0 = λ k.
    let e = ended k.a k.b k.made.turns k.made.is k.made.heard in
    report_by k e.0 e.1 in
    follows_over start now came p c es old new absent terms form count i f refl refl s.share may.parted may.may_be
    (timely_own clock p came i.fs s.taken cause s.share may.timely)
    (adds_more old.teller.form n told told' more is none) (said.2 start.target now (reports_of i.fs) i.written i.known.tells)
    (lost ∙ ap (λ (o : Over). with_over o old.lost) is_over ∙ ap (with_over (over_for cause)) i.known.lost ∙ lost_same i.fs f refl)
    ((sym s.is.0.has_payload ∙ some, report m, ap left_in is_over), over_by old.terms s.taken ph clock came p c.value cause may there m)
    (λ side small w.
    let h = (s.is.1 side small w).all there in
    let k = h.0 in
    let R : List ℕ → Type 0 = λ l. IsSent false (of_side side k.a k.b) l in
    (report k, subst R (sym (is (wanted_stream old.teller.form n side w))) (ends k.a k.b side told k.made.is w h.1)))
    packet parts all gets parts_are (λ small. (
      report_by g.0 all_of.0 all_of.1,
      record {
        shown = own.0 ++ w.0;
        last = said.3;
        is = gets.own ∙ ap (λ (l : List Shown). l ++ all) (own.2 small) ∙ sym (append_assoc own.0 w.0 said.3);
        are_shown = w.1;
        are_last = end;
      },
      after_rows head old.terms i.packet number i.parts s.taken more all said.0
          (c.value.talk, g.0, subst (AreTurnRows head g.0.made.turns) (sym (own.2 small)) g.1),
      in_time_on head old.terms i.packet packet i.parts (parts_of_report more all said.0) s.taken gets.same
          (in_time_of head old.terms i.packet i.parts s.taken [] (is_lost c.value.talk) there (own.3 small)),
    )) (told_reported i.packet number i.parts i.fs f more all said.0 refl may.told_at i.times)
reported (Err x) start now came p c es old new cause over may is_over absent some terms more_lost lost form count there talk ended Q shown nothing more
    text part none ends reports i =
    let m = (own start now came p c es old i).is.0.made there in
    let q = shown m.a m.b m.made.is in
    let told = told_by i.written old in
    let told' = told_by i.written new in
    let from = start.from in
    let is : is_stream old.teller.form ≡ true → (told' ≡ told) ⊎ (told' ≡ told ++ more) = λ stream. elim (part stream q) [
      | inl e ↦ inl (ap (λ (l : List ℕ). i.written ++ l) e)
      | inr e ↦ inr (appended i.written more old new e)
    ] in
    record {
      fs = i.fs;
      written = i.written;
      known = known_same start now i.fs i.written i.written old new terms lost (nothing q start.target now (reports_of i.fs) i.written i.known.tells) i.known;
      so_far = so_far_same old.teller.form new.teller.form told' told' old.terms new.terms from from came i.fs form refl terms
          refl
          (ended_so_far old.teller.form told told' more old.terms from old.begun came i.fs p c es absent (apart_rest (p, c) es i.apart) i.streams i.order
          i.shared is none there ends);
      shared = λ k. ((i.shared k).taken, (i.shared k).share);
      timely = i.timely;
    }

pub not_lost : {A E : Type 0} (lost : Bool) (x : A) (e : E) → (lost ≡ true → ◌≡◌ {A = Result A E} (Ok x) (Err e)) → lost ≡ false
not_lost false x e stays = refl
not_lost true x e stays = let both = stays refl in cc

-- ---- the next segment

begun_most : (a n : ℕ) → a ≡ min n (2 ^ 64 - 1) → a ≤ 2 ^ 64 - 1
begun_most a n e = omega (arith, e)

pub begun : {clock : Clock} (start : Since) (now : TargetSeen) (came : List Arrival) (x : Arrival) (p : Pair) (c : Held) (es : List (Pair × Held)) (old new : Connections)
    → lookup (same_pair p) es ≡ None → new.terms ≡ old.terms → new.lost ≡ old.lost → new.teller ≡ old.teller
    → new.begun ≡ min (old.begun + 1) (2 ^ 64 - 1) → IsOpen old.terms [] (x ∷ []) c.value → c.value.number ≡ old.begun
    → ((side : Side) → HasSent side [] old.terms [] (x ∷ []) c.value) → is_lost c.value.talk ≡ false
    → ((h : Heading) → HasShown h [] old.terms [] (x ∷ []) c.value)
    → FollowsIn (Coming p x) start now clock came es old → Holds start now clock came x p c es new
begun start now came x p c es old new absent terms lost teller count is number sent there shown i =
    let form = ap (λ (t : Teller). t.form) teller in
    let told = told_by i.written old in
    let told' = told_by i.written new in
    let same = told_same i.written old new teller in
    let from = start.from in
    let sends = sending_begun old.teller.form told old.terms from old.begun i.fs es x c.value number sent i.streams in
    let most = begun_most old.begun (length i.fs + length es) i.begun in
    record {
      fs = i.fs;
      written = i.written;
      known = known_kept start now i.fs i.written old new terms lost teller i.known;
      begun = begun_more new.begun old.begun (length i.fs) (length es) count i.begun;
      streams = streaming_same old.teller.form new.teller.form told told' old.terms new.terms from from new.begun new.begun i.fs
          ((p, c) ∷ es) form same terms refl refl
          (streaming_begun old.teller.form told old.terms from old.begun new.begun i.fs p c es number count i.streams most);
      taken = [];
      is = subst (λ y. IsOpen y [] (x ∷ []) c.value) (sym terms) is;
      sends = sending_same old.teller.form new.teller.form told told' old.terms new.terms [] (x ∷ []) c.value form same terms sends;
      share = own_none old.teller.form old.terms came i.fs told p es absent i.shared;
      absent = absent;
      apart = i.apart;
      others = λ k e. shares_same i.written i.written came i.fs old new k (lookup (same_pair k) es) terms form same (i.shared k);
      parts = i.parts;
      rows = rows_to_same old.teller.form new.teller.form i.packet i.parts told told' old.terms new.terms from
          from new.begun came i.fs x p []
          c.value es form same terms refl
          (rows_begun old.teller.form old.terms from i.packet i.parts told old.begun new.begun came i.fs x p c.value es number count there shown i.rows);
      parting = i.parting;
      order = order_begun came i.fs x p c.value.number es old.begun new.begun number count most i.order;
      last = i.last;
      timely = i.timely;
      packet = i.packet;
      times = i.times;
    }

pub held : {clock : Clock} (start : Since) (now : TargetSeen) (came : List Arrival) (x : Arrival) (p : Pair) (c : Held) (es : List (Pair × Held)) (run : Connections)
    → IsIts x c.value → lookup (same_pair p) es ≡ None → FollowsIn (Coming p x) start now clock came ((p, c) ∷ es) run → Holds start now clock came x p c es run
held start now came x p c es run its absent i =
    let s = own start now came p c es run i in
    record {
      fs = i.fs;
      written = i.written;
      known = i.known;
      begun = begun_held run.begun (length i.fs) (p, c) es i.begun;
      streams = i.streams;
      taken = s.taken;
      is = ready run.terms s.taken x c.value its s.is.0;
      sends = ready_sent run.teller.form (told_by i.written run) run.terms s.taken x c.value its s.is.1;
      share = s.share;
      absent = absent;
      apart = apart_rest (p, c) es i.apart;
      others = others_of run.teller.form run.terms came i.fs (told_by i.written run) p c es i.shared;
      parts = i.parts;
      rows = rows_held run.teller.form run.terms start.from i.packet i.parts
          (told_by i.written run) run.begun came i.fs x p c es s.taken its s.share
          i.rows;
      parting = i.parting;
      order = order_held came i.fs x p c s.taken es run.begun s.share i.order;
      last = i.last;
      timely = i.timely;
      packet = i.packet;
      times = i.times;
    }

-- More is known of what comes.
follows_with : {ph ph' : Phase} {clock : Clock} (start : Since) (now : TargetSeen) (came : List Arrival) (es : List (Pair × Held)) (run : Connections)
    → (i : FollowsIn ph start now clock came es run) → AreParts ph' came i.fs → ComeLast ph' i.fs es → FollowsIn ph' start now clock came es run
follows_with start now came es run i parting last = record {
  fs = i.fs;
  written = i.written;
  known = i.known;
  begun = i.begun;
  apart = i.apart;
  streams = i.streams;
  shared = i.shared;
  parts = i.parts;
  rows = i.rows;
  parting = parting;
  order = i.order;
  last = last;
  timely = i.timely;
  packet = i.packet;
  times = i.times;
}

-- The next segment is known.
pub follows_coming : {clock : Clock} (start : Since) (now : TargetSeen) (came : List Arrival) (es : List (Pair × Held)) (run : Connections) (p : Pair) (x : Arrival)
    → AreEarlier clock x.when.packet → Follows start now clock came es run → FollowsIn (Coming p x) start now clock came es run
follows_coming {clock} start now came es run p x new i =
    follows_with start now came es run i (parts_coming clock came i.fs p x new i.timely i.parting) i.last

-- None comes any more. Those that are left are in the order of their numbers.
pub follows_end : {clock : Clock} (start : Since) (now : TargetSeen) (came : List Arrival) (es : List (Pair × Held)) (run : Connections) → IsNonDecreasing (numbers es)
    → Follows start now clock came es run → FollowsIn AtEnd start now clock came es run
follows_end start now came es run up i = follows_with start now came es run i (parts_end came i.fs i.parting) (last_begins i.fs es up i.last)

was_or_now : (h : Heading) (terms : Terms) (packet packet' : ℕ → ℕ) (parts parts' more_parts : List Part) (taken : List Arrival) (x : Arrival)
    → parts' ≡ parts ++ more_parts → rows_of h.connection more_parts ≡ [] → ((m : ℕ) → m < length parts → packet' m ≡ packet m) → (ran_out : Bool)
    → AreRowsSoFar h terms packet parts taken (x ∷ []) ran_out → AreRowsSoFar h terms packet' parts' (taken ++ x ∷ []) [] true
was_or_now h terms packet packet' parts parts' more_parts taken x e none same true r =
    so_far_gone h terms packet packet' parts parts' more_parts taken x e none same r
was_or_now h terms packet packet' parts parts' more_parts taken x e none same false r =
    so_far_lost h terms packet packet' parts parts' more_parts taken x e none same r

by_loss : (P : Bool → Type 0) (b : Bool) → (b ≡ true → P true) → (b ≡ false → P false) → P b
by_loss P true lost there = lost refl
by_loss P false lost there = there refl

-- The connection takes the segment.
pub follows_took : {clock : Clock} (start : Since) (now : TargetSeen) (came : List Arrival) (x : Arrival) (p : Pair) (c c' : Held) (es : List (Pair × Held))
    (old new : Connections) → pair_of x ≡ p → new.terms ≡ old.terms → new.lost ≡ old.lost → new.begun ≡ old.begun
    → new.teller.form ≡ old.teller.form → TellsOn old.teller new.teller → c'.value.number ≡ c.value.number
    → (i : Holds start now clock came x p c es old) → IsOpen old.terms (i.taken ++ x ∷ []) [] c'.value
    → (more : List ℕ) → (is_stream old.teller.form ≡ true → new.teller.text.items ≡ old.teller.text.items ++ more)
    → (wanted_by old.teller.form c.value.number ≡ None → more ≡ [])
    → ((side : Side) → wanted_by old.teller.form c.value.number ≡ Some side
    → HasSent side (told_by i.written old) old.terms i.taken (x ∷ []) c.value
    → HasSent side (told_by i.written old ++ more) old.terms (i.taken ++ x ∷ []) [] c'.value)
    → ((before : List Shown) → let h = heading_of old.teller.form c.value.number start.from in HasShown h before old.terms i.taken (x ∷ []) c.value
    → (rows : List Shown) × ShowsOn h before rows old.terms i.taken x c.value c'.value
    × (new.teller.text.items ≡ old.teller.text.items ++ (shown_texts (showing_by old.teller.form) rows ++ more)))
    → x.when.packet ≡ clock.number → Follows start now clock (came ++ x ∷ []) ((p, c') ∷ es) new
follows_took {clock} start now came x p c c' es old new ends terms lost count form tells number i is more text none sends shows packet_is =
    let n = c.value.number in
    let shown = old.teller.form in
    let told = told_by i.written old in
    let told' = told_by i.written new in
    let from = start.from in
    let same : is_stream shown ≡ true → told' ≡ told ++ more = λ stream. appended i.written more old new (text stream) in
    let adds = adds_more shown n told told' more same none in
    let alone : n < 2 ^ 64 - 1 → count_open n es ≡ 0 = alone_open old.begun i.fs p c es i.streams.numbered in
    let others = others_on shown old.terms came i.fs told told' n p es alone adds i.others in
    let sent : IsSending shown told' old.terms (i.taken ++ x ∷ []) [] c'.value = λ side small w.
    let w' : wanted_by shown n ≡ Some side = subst (λ k. wanted_by shown k ≡ Some side) number w in
    let below : n < 2 ^ 64 - 1 = subst (λ k. k < 2 ^ 64 - 1) number small in
    let R : List ℕ → Type 0 = λ l. HasSent side l old.terms (i.taken ++ x ∷ []) [] c'.value in
    subst R (sym (same (wanted_stream shown n side w'))) (sends side w' (i.sends side below w')) in
    let own = i.rows.own in
    let head = heading_of shown n from in
    let w = shows own.0 own.1 in
    let rows_text : List ℕ = shown_texts (showing_by shown) w.0 ++ more in
    let parts = i.parts ++ parts_of_segment more w.0 in
    let packet = placed i.packet (length i.parts) clock.number in
    let gets : AddsRows n w.0 i.packet packet i.parts parts =
    adds_by n w.0 i.packet clock.number i.parts (parts_of_segment more w.0) (rows_of_segment more w.0) w.1.are_of in
    let parts_are : ArePartsOf shown (reports_of i.fs) told' parts =
    parts_same shown shown (reports_of i.fs ++ []) (reports_of i.fs) (told ++ rows_text) told' parts refl (sym (append-nil (reports_of i.fs)))
    (appended i.written rows_text old new w.2)
    (parts_more shown (reports_of i.fs) [] told rows_text i.parts (parts_of_segment more w.0) refl (text_of_segment shown n more w.0 none)
    i.rows.rowed.parts_are) in
    let N : ℕ → Type 0 = λ k.
    (rows : List Shown) × HasShown (heading_of shown k from) rows old.terms (i.taken ++ x ∷ []) [] c'.value × (k < 2 ^ 64 - 1 → rows_of k parts ≡ rows)
    × (k < 2 ^ 64 - 1 → AreRowsSoFar (heading_of shown k from) old.terms packet parts (i.taken ++ x ∷ []) [] (is_lost c'.value.talk)) in
    let shows_now : IsShowing shown packet parts old.terms from (i.taken ++ x ∷ []) [] c'.value =
    subst N (sym number) (
      own.0 ++ w.0,
      w.1.shown,
      λ small. gets.own ∙ ap (λ (l : List Shown). l ++ w.0) (own.2 small),
      λ small.
          let more_parts = parts_of_segment more w.0 in
          let lost : is_lost c'.value.talk ≡ true → AreRowsSoFar head old.terms packet parts (i.taken ++ x ∷ []) [] true = λ gone.
          let none : rows_of n more_parts ≡ [] = ap (filter (is_row_of n)) (rows_of_segment more w.0 ∙ w.1.none gone) in
          was_or_now head old.terms i.packet packet i.parts parts more_parts i.taken x refl none gets.same (is_lost c.value.talk) (own.3 small) in
          let there : is_lost c'.value.talk ≡ false → AreRowsSoFar head old.terms packet parts (i.taken ++ x ∷ []) [] false = λ there.
          let was = w.1.there there in
          let g = own.1 was in
          let m = w.1.shown there in
          let in_time = in_time_of head old.terms i.packet i.parts i.taken (x ∷ []) (is_lost c.value.talk) was (own.3 small) in
          record {
            kept = i.taken ++ x ∷ [];
            gone = [];
            is = sym (append-nil (i.taken ++ x ∷ []));
            are_gone = refl;
            rows = (
              c'.value.talk,
              m.0,
              subst (AreTurnRows head m.0.made.turns) (sym (gets.own ∙ ap (λ (l : List Shown). l ++ w.0) (own.2 small))) m.1,
            );
            in_time = in_time_took head old.terms i.packet packet i.parts more_parts i.taken x gets.same in_time (record {
              before = i.parts;
              rows = w.0;
              after = OfBytes more ∷ [];
              is = refl;
              told_with = placed_now i.packet (length i.parts) clock.number (length i.parts) (omega arith) ∙ sym packet_is;
              had = (c.value.talk, g.0, subst (AreTurnRows head g.0.made.turns) (sym (own.2 small)) g.1);
              has = (c'.value.talk, m.0, subst (λ l. AreTurnRows head m.0.made.turns (l ++ w.0)) (sym (own.2 small)) m.1);
            });
          } in
          by_loss (AreRowsSoFar head old.terms packet parts (i.taken ++ x ∷ []) []) (is_lost c'.value.talk) lost there,
    ) in
    record {
      fs = i.fs;
      written = i.written;
      known = known_same start now i.fs i.written i.written old new terms lost (tells start.target now (reports_of i.fs) i.written i.known.tells) i.known;
      begun = begun_took new.begun (length i.fs) (p, c') es (count ∙ i.begun);
      apart = apart_put (p, c') es i.absent i.apart;
      streams = streaming_same shown new.teller.form told' told' old.terms new.terms from from old.begun new.begun i.fs ((p, c') ∷ es)
          form refl terms refl count
          (streaming_took shown told told' old.terms from old.begun i.fs p c c' es number adds i.streams);
      shared = λ k. share_same shown new.teller.form told' told' old.terms new.terms (came ++ x ∷ []) i.fs k (lookup (same_pair k) ((p, c') ∷ es)) form
          refl terms (took shown old.terms came i.fs told' p c' es i.taken x ends i.share is sent others k);
      parts = parts;
      rows = rows_same shown new.teller.form packet parts told' told' old.terms new.terms from from old.begun new.begun (came ++ x ∷ []) i.fs
          ((p, c') ∷ es) form refl terms refl count
          (rows_took shown old.terms from i.packet packet i.parts parts told told' old.begun came i.fs x p i.taken c c' es w.0 ends i.share
          (alone_over old.begun i.fs p c es i.streams.numbered) alone (has_begun old.begun i.fs p c es i.streams.numbered) gets parts_are shows_now i.rows);
      parting = parts_took came i.fs p x ends i.parting;
      order = order_same (came ++ x ∷ []) i.fs ((p, c') ∷ es) old.begun new.begun count
          (order_took came i.fs x p c.value.number c' i.taken es old.begun ends number i.share i.order);
      last = i.last;
      timely = i.timely;
      packet = packet;
      times = told_more i.packet clock.number i.parts (parts_of_segment more w.0) i.fs i.times;
    }

pub more_shared : (k : Pair) (came more : List Arrival) (fs : List Finished) (rest : List Arrival) → IsShared k came fs rest
    → (left : List Arrival) × IsShared k (came ++ more) fs left
more_shared k came more fs rest share =
    let test = is_between k in (
      rest ++ filter test more,
      filter-append test came more ∙ ap (λ l. l ++ filter test more) share ∙ append_assoc (taken_between k fs) rest (filter test more),
    )

pub stops_more : {clock : Clock} (start : Since) (now : TargetSeen) (came more : List Arrival) (run : Connections) → Stops start now clock came run
    → Stops start now clock (came ++ more) run
stops_more start now came more run i = record {
  fs = i.fs;
  written = i.written;
  known = i.known;
  so_far = so_far_more run.teller.form (told_by i.written run) run.terms start.from came more i.fs i.so_far;
  shared = λ k. let s = i.shared k in more_shared k came more i.fs s.0 s.1;
  timely = i.timely;
}
