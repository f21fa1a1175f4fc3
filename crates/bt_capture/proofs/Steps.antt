-- The first packet, and connections that are taken out, moved and given up.
use Rattle.bt_talk.specs.declared.terms.Terms.{Terms}
use Rattle.std.proofs.Common.{◌≡◌, ◌∙◌, ℕ, ◌+◌, ◌-◌, ◌^◌, min, Bool, true, false, List, [], ◌∷◌, ◌++◌, length}
use Rattle.std.proofs.Common.{◌≤◌, Some, unwrap_or, refl, sym, ap, subst, arith, inl, inr}
use Rattle.std.specs.List.{All, list_any}
use Rattle.std.specs.List.Sorted.{IsPermutation}
use Rattle.std.specs.Map.{lookup, remove_entry}
use Rattle.std.proofs.lemmas.Bool.{cases_Bool}
use Rattle.std.proofs.lemmas.List.{length-append}
use Rattle.std.proofs.lemmas.List.Elements.{All-cons, All-head, All-nil, All-tail}
use Rattle.std.proofs.lemmas.List.Sorted.{length_permutation}
use Rattle.bt_io.specs.Seen.{TargetSeen}
use Rattle.bt_pcap.specs.Formats.{Captured}
use Rattle.bt_talk.specs.declared.closing.When.{When}
use Rattle.bt_capture.specs.Arrivals.{AreEarlier, Arrival, Clock, IsEarlier, clock_after, clock_of}
use Rattle.bt_capture.specs.Arrivals.{first_time, has_data, pair_of}
use Rattle.bt_capture.specs.Following.{Cause, IsRowing, Rows, Since}
use Rattle.bt_capture.specs.Following.{Finished, Fate, Reported, Silent, Lost, IsFinished, IsFate, IsShared}
use Rattle.bt_capture.specs.Following.{IsStreaming, Follows, Stops, Holds, Shares, Streams}
use Rattle.bt_capture.specs.Following.{losses_of, reports_of, taken_between, told_by}
use Rattle.bt_capture.specs.Forms.{is_stream}
use Rattle.bt_capture.specs.Tables.{Held, IsApart, same_pair}
use Rattle.bt_capture.specs.Tellings.{Tells, TellsOn}
use Rattle.bt_capture.specs.declared.connections.Connections.{Connections}
use Rattle.bt_capture.specs.declared.pair.Pair.{Pair}
use Rattle.bt_capture.proofs.Entries.{apart_moved, apart_none, apart_put, apart_without, lookup_back, lookup_gone, lookup_moved}
use Rattle.bt_capture.proofs.Entries.{same_is, same_self}
use Rattle.bt_capture.proofs.Rowing.{rows_moved, rows_nothing, rows_started}
use Rattle.bt_capture.proofs.Parting.{parts_nothing, timely_more}
use Rattle.bt_capture.proofs.Shares.{moved}
use Rattle.bt_capture.proofs.SoFar.{held_so_far, so_far_on, so_far_same}
use Rattle.bt_capture.proofs.Streaming.{streaming_moved, streaming_nothing, streaming_out}
use Rattle.bt_capture.proofs.Streaming.{streaming_started}
use Rattle.bt_capture.specs.Following.{AreBegun, IsTimely, is_final}
use Rattle.bt_capture.specs.Runs.{since_first}
use Rattle.bt_capture.proofs.Order.{order_moved, order_nothing}
use Rattle.bt_capture.proofs.Silent.{parts_none}
use Rattle.bt_capture.proofs.Timing.{told_later, told_nothing}
use Rattle.bt_capture.proofs.Reported.{known_same, more_shared}

-- ---- the first packet

none_taken : (fs : List Finished) → ((k : Pair) → taken_between k fs ≡ []) → All (λ f. f.taken ≡ []) fs
none_taken [] none = All-nil (λ f. f.taken ≡ [])
none_taken (f ∷ fs) none =
    let rest : (k : Pair) → taken_between k fs ≡ [] = λ k. elim (cases_Bool (same_pair k f.pair)) [
      | inl t ↦ (parts_none f.taken (taken_between k fs) (rw t at (none k))).1
      | inr e ↦ rw e at (none k)
    ] in
    All-cons (λ g. g.taken ≡ []) f fs (parts_none f.taken (taken_between f.pair fs) (rw (same_self f.pair) at (none f.pair))).0 (none_taken fs rest)

not_both : (b : Bool) → b ≡ false → b ≡ true → ⊥
not_both b e f = cc

fate_any : (terms : Terms) (from from' number : ℕ) (taken : List Arrival) (cause : Cause) (end : Fate) → taken ≡ []
    → IsFate terms from number taken cause end → IsFate terms from' number taken cause end
fate_any terms from from' number taken cause (Reported r) e i =
    absurd (not_both (list_any has_data taken) (subst (λ l. list_any has_data l ≡ false) (sym e) refl) i.0)
fate_any terms from from' number taken cause Silent e i = i
fate_any terms from from' number taken cause Lost e i = i

all_any : (terms : Terms) (from from' : ℕ) (fs : List Finished) → All (λ f. f.taken ≡ []) fs → All (IsFinished terms from) fs
    → All (IsFinished terms from') fs
all_any terms from from' [] none i = All-nil (IsFinished terms from')
all_any terms from from' (f ∷ fs) none i =
    let is = All-head (IsFinished terms from) f fs i in
    All-cons (IsFinished terms from') f fs
    (fate_any terms from from' f.number f.taken f.cause f.fate (All-head (λ g. g.taken ≡ []) f fs none) is.0, is.1)
    (all_any terms from from' fs (All-tail (λ g. g.taken ≡ []) f fs none) (All-tail (IsFinished terms from) f fs i))

shares_none : (k : Pair) (fs : List Finished) (rest : List Arrival) → IsShared k [] fs rest → taken_between k fs ≡ []
shares_none k fs rest e = (parts_none (taken_between k fs) rest (sym e)).0

started_none : {clock : Clock} (target now : TargetSeen) (p : Captured) (run : Connections) → Follows (since_first target []) now clock [] run.table run
    → Follows (since_first target (p ∷ [])) now clock [] run.table run
started_none target now p run i =
    let none = none_taken i.fs (λ k. shares_none k i.fs (i.shared k).taken (i.shared k).share) in
    let form = run.teller.form in
    let told = told_by i.written run in
    let from = p.nanos in
    record {
      fs = i.fs;
      written = i.written;
      begun = i.begun;
      apart = i.apart;
      known = record { tells = i.known.tells; finished = all_any run.terms 0 from i.fs none i.known.finished; lost = i.known.lost };
      streams = streaming_started form told run.terms 0 from run.begun i.fs run.table none i.streams;
      shared = i.shared;
      parts = i.parts;
      rows = rows_started form i.packet i.parts told run.terms 0 from run.begun i.fs run.table none i.rows;
      parting = i.parting;
      order = i.order;
      last = i.last;
      timely = i.timely;
      packet = i.packet;
      times = i.times;
    }

-- The time of the first packet isn't known before it comes; but no segment was taken then.
pub started : {clock : Clock} (target now : TargetSeen) (packets : List Captured) (p : Captured) (came : List Arrival) (run : Connections)
    → (packets ≡ [] → came ≡ []) → Follows (since_first target packets) now clock came run.table run
    → Follows (since_first target (packets ++ p ∷ [])) now clock came run.table run
started {clock} target now [] p came run none i =
    let e = none refl in
    let P : List Arrival → Type 0 = λ l. Follows (since_first target []) now clock l run.table run in
    let Q : List Arrival → Type 0 = λ l. Follows (since_first target (p ∷ [])) now clock l run.table run in
    subst Q (sym e) (started_none target now p run (subst P e i))
started target now (q ∷ qs) p came run none i = i

-- the time of the first packet, after another one
pub first_more : (packets : List Captured) (p : Captured) → first_time (packets ++ p ∷ []) ≡ Some (unwrap_or (first_time packets) p.nanos)
first_more [] p = refl
first_more (q ∷ qs) p = refl

-- ---- the packets' numbers

clock_on : (n : ℕ) (packets : List Captured) (p : Captured) → clock_after n (packets ++ p ∷ [])
    ≡ clock_after n packets ++ record { nanos = p.nanos; packet = min (n + length packets + 1) (2 ^ 64 - 1) } ∷ []
clock_on n [] p =
    let same : n + 1 ≡ n + length {A = Captured} [] + 1 = omega arith in
    ap (λ m. record { nanos = p.nanos; packet = min m (2 ^ 64 - 1) } ∷ []) same
clock_on n (q ∷ qs) p =
    let first : When = record { nanos = q.nanos; packet = min (n + 1) (2 ^ 64 - 1) } in
    let same : (n + 1) + length qs + 1 ≡ n + length (q ∷ qs) + 1 = omega arith in
    ap (λ l. first ∷ l) (clock_on (n + 1) qs p)
    ∙ ap (λ m. first ∷ (clock_after (n + 1) qs ++ record { nanos = p.nanos; packet = min m (2 ^ 64 - 1) } ∷ [])) same

pub clock_more : (packets : List Captured) (p : Captured) (number : ℕ) → number ≡ min (length packets + 1) (2 ^ 64 - 1)
    → (clock_of (packets ++ p ∷ [])).packets ≡ (clock_of packets).packets ++ record { nanos = p.nanos; packet = number } ∷ []
clock_more packets p number e =
    let same : min (0 + length packets + 1) (2 ^ 64 - 1) ≡ number = omega (arith, e) in
    clock_on 0 packets p ∙ ap (λ m. clock_after 0 packets ++ record { nanos = p.nanos; packet = m } ∷ []) same

earlier_after : (n : ℕ) (packets : List Captured) (number : ℕ) → min (n + length packets + 1) (2 ^ 64 - 1) ≤ number
    → All (λ (w : When). IsEarlier w number) (clock_after n packets)
earlier_after n [] number le = All-nil (λ (w : When). IsEarlier w number)
earlier_after n (p ∷ ps) number le =
    let first : When = record { nanos = p.nanos; packet = min (n + 1) (2 ^ 64 - 1) } in
    All-cons (λ (w : When). IsEarlier w number) first (clock_after (n + 1) ps) (omega (arith, le)) (earlier_after (n + 1) ps number (omega (arith, le)))

-- The next packet comes after those that came.
pub all_earlier : (packets : List Captured) (number : ℕ) → number ≡ min (length packets + 1) (2 ^ 64 - 1) → AreEarlier (clock_of packets) number
all_earlier packets number e = earlier_after 0 packets number (omega (arith, e))

-- The last packet has this number.
pub number_of : (packets : List Captured) (p : Captured) (number : ℕ) → number ≡ min (length packets + 1) (2 ^ 64 - 1)
    → number ≡ (clock_of (packets ++ p ∷ [])).number
number_of packets p number e = let n = length-append packets (p ∷ []) in omega (arith, e, n)

-- The next packet has a number that isn't less than that of the last one.
pub number_up : (packets : List Captured) (number : ℕ) → number ≡ min (length packets + 1) (2 ^ 64 - 1) → (clock_of packets).number ≤ number
number_up packets number e = omega (arith, e)

-- Time goes on.
pub follows_later : (start : Since) (now : TargetSeen) (clock later : Clock) (more : List When) (came : List Arrival) (es : List (Pair × Held)) (run : Connections)
    → later.packets ≡ clock.packets ++ more → clock.number ≤ later.number → Follows start now clock came es run → Follows start now later came es run
follows_later start now clock later more came es run e up i = record {
  fs = i.fs;
  written = i.written;
  known = i.known;
  begun = i.begun;
  apart = i.apart;
  streams = i.streams;
  shared = i.shared;
  parts = i.parts;
  rows = i.rows;
  parting = i.parting;
  order = i.order;
  last = i.last;
  timely = timely_more clock later more i.fs e i.timely;
  packet = i.packet;
  times = told_later i.packet clock.number later.number i.parts i.fs up i.last i.times;
}

pub stops_later : (start : Since) (now : TargetSeen) (clock later : Clock) (more : List When) (came : List Arrival) (run : Connections)
    → later.packets ≡ clock.packets ++ more → Stops start now clock came run → Stops start now later came run
stops_later start now clock later more came run e i = record {
  fs = i.fs;
  written = i.written;
  known = i.known;
  so_far = i.so_far;
  shared = i.shared;
  timely = timely_more clock later more i.fs e i.timely;
}

-- ---- a connection is taken out

begun_out : (a n : ℕ) (e : Pair × Held) (es out : List (Pair × Held)) → length es ≡ length out + 1 → a ≡ min (n + length es) (2 ^ 64 - 1)
    → a ≡ min (n + length (e ∷ out)) (2 ^ 64 - 1)
begun_out a n e es out more h = omega (arith, h, more)

length_out : (test : Pair → Bool) (es : List (Pair × Held)) (c : Held) → lookup test es ≡ Some c → length es ≡ length (remove_entry test es) + 1
length_out test [] c found = cc
length_out test (e ∷ es) c found = elim (cases_Bool (test e.0)) [
  | inl t ↦ rw t (omega arith)
  | inr f ↦ let rest = length_out test es c (rw f at found) in rw f (omega (arith, rest))
]

pub follows_out : {clock : Clock} (start : Since) (now : TargetSeen) (came : List Arrival) (p : Pair) (c : Held) (es out : List (Pair × Held)) (run : Connections)
    → lookup (same_pair p) es ≡ Some c → out ≡ remove_entry (same_pair p) es → Follows start now clock came es run
    → Follows start now clock came ((p, c) ∷ out) run
follows_out start now came p c es out run found is i =
    let form = run.teller.form in
    let told = told_by i.written run in
    let gone = remove_entry (same_pair p) es in
    let longer = length_out (same_pair p) es c found ∙ ap (λ (l : List (Pair × Held)). length l + 1) (sym is) in
    record {
      fs = i.fs;
      written = i.written;
      known = i.known;
      begun = begun_out run.begun (length i.fs) (p, c) es out longer i.begun;
      apart = subst (λ (l : List (Pair × Held)). IsApart ((p, c) ∷ l)) (sym is) (apart_put (p, c) gone (lookup_gone p es i.apart) (apart_without p es i.apart));
      streams = subst (λ l. Streams start.from i.written i.fs ((p, c) ∷ l) run) (sym is)
          (streaming_out form told run.terms start.from run.begun i.fs (same_pair p) p c es found i.streams);
      shared = subst (λ l. (k : Pair) → Shares i.written came i.fs run k (lookup (same_pair k) ((p, c) ∷ l))) (sym is)
          (moved form run.terms came i.fs told es ((p, c) ∷ gone) (lookup_back p c es found) i.shared);
      parts = i.parts;
      rows = subst (λ l. Rows start.from i.packet i.parts i.written came i.fs ((p, c) ∷ l) run) (sym is)
          (rows_moved form run.terms start.from i.packet i.parts told run.begun came i.fs es ((p, c) ∷ gone) (lookup_back p c es found) i.rows);
      parting = i.parting;
      order = subst (λ l. AreBegun came i.fs ((p, c) ∷ l) run.begun) (sym is)
          (order_moved came i.fs es ((p, c) ∷ gone) run.begun (lookup_back p c es found) i.order);
      last = i.last;
      timely = i.timely;
      packet = i.packet;
      times = i.times;
    }

-- They are in another order.
pub follows_moved : {clock : Clock} (start : Since) (now : TargetSeen) (came : List Arrival) (es gs : List (Pair × Held)) (run : Connections) → IsPermutation es gs
    → Follows start now clock came es run → Follows start now clock came gs run
follows_moved start now came es gs run moves i =
    let form = run.teller.form in
    let told = told_by i.written run in
    record {
      fs = i.fs;
      written = i.written;
      known = i.known;
      begun = i.begun ∙ ap (λ n. min (length i.fs + n) (2 ^ 64 - 1)) (sym (length_permutation es gs moves));
      apart = apart_moved es gs moves i.apart;
      streams = streaming_moved form told run.terms start.from run.begun i.fs es gs moves i.streams;
      shared = moved form run.terms came i.fs told es gs (lookup_moved es gs moves i.apart) i.shared;
      parts = i.parts;
      rows = rows_moved form run.terms start.from i.packet i.parts told run.begun came i.fs es gs (lookup_moved es gs moves i.apart) i.rows;
      parting = i.parting;
      order = order_moved came i.fs es gs run.begun (lookup_moved es gs moves i.apart) i.order;
      last = i.last;
      timely = i.timely;
      packet = i.packet;
      times = i.times;
    }

-- The connection of the segment x is given up.
pub holds_stop : {clock : Clock} (start : Since) (now : TargetSeen) (came : List Arrival) (x : Arrival) (p : Pair) (c : Held) (es : List (Pair × Held))
    (old new : Connections) → pair_of x ≡ p → new.terms ≡ old.terms → new.lost ≡ old.lost → new.teller.form ≡ old.teller.form
    → TellsOn old.teller new.teller → (is_stream old.teller.form ≡ true → new.teller.text.items ≡ old.teller.text.items)
    → Holds start now clock came x p c es old → Stops start now clock (came ++ x ∷ []) new
holds_stop start now came x p c es old new ends terms lost form tells kept i =
    let shown = old.teller.form in
    let told = told_by i.written old in
    let told' = told_by i.written new in
    let from = start.from in
    let is : is_stream shown ≡ true → told' ≡ told = λ stream. ap (λ (l : List ℕ). i.written ++ l) (kept stream) in
    let so_far = held_so_far shown told old.terms from old.begun came x i.fs p c es i.taken ends i.absent i.apart i.streams i.order i.share i.sends
    i.others in
    record {
      fs = i.fs;
      written = i.written;
      known = known_same start now i.fs i.written i.written old new terms lost (tells start.target now (reports_of i.fs) i.written i.known.tells) i.known;
      so_far = so_far_same shown new.teller.form told' told' old.terms new.terms from start.from (came ++ x ∷ []) i.fs form refl terms
          refl (so_far_on shown told told' old.terms from (came ++ x ∷ []) i.fs is so_far);
      shared = λ k.
          let rest : (rest : List Arrival) × IsShared k came i.fs rest = elim (cases_Bool (same_pair k p)) [
            | inl t ↦ subst (λ q. (rest : List Arrival) × IsShared q came i.fs rest) (sym (same_is k p t)) (i.taken, i.share)
            | inr e ↦ let s = i.others k e in (s.taken, s.share)
          ] in
          more_shared k came (x ∷ []) i.fs rest.0 rest.1;
      timely = i.timely;
    }

pub follows_table : {clock : Clock} (start : Since) (now : TargetSeen) (came : List Arrival) (p : Pair) (c : Held) (es gs : List (Pair × Held)) (run : Connections) → gs ≡ es
    → Follows start now clock came ((p, c) ∷ es) run → Follows start now clock came ((p, c) ∷ gs) run
follows_table {clock} start now came p c es gs run e i = subst (λ l. Follows start now clock came ((p, c) ∷ l) run) (sym e) i

pub follows_nothing : (start : Since) (run : Connections) → Tells start.target start.target run.teller [] [] → run.teller.text.items ≡ []
    → run.lost ≡ losses_of [] → run.begun ≡ 0 → run.table ≡ [] → Follows start start.target (clock_of []) [] run.table run
follows_nothing start run tells empty lost count none =
    let from = start.from in
    let P : List (Pair × Held) → Type 0 = λ l. Follows start start.target (clock_of []) [] l run in
    let Q : ℕ → Type 0 = λ n. IsStreaming run.teller.form (told_by [] run) run.terms from n [] [] in
    let follows : P [] = record {
      fs = [];
      written = [];
      begun = count;
      apart = apart_none;
      known = record { tells = tells; finished = All-nil (IsFinished run.terms from); lost = lost };
      streams = subst Q (sym count) (streaming_nothing run.teller.form (told_by [] run) run.terms from empty);
      shared = λ k. record { taken = []; is = refl; share = refl };
      parts = [];
      rows = subst (λ n. IsRowing run.teller.form (λ m. 0) [] (told_by [] run) run.terms from n [] [] []) (sym count)
          (rows_nothing run.teller.form (λ m. 0) (told_by [] run) run.terms from empty);
      parting = parts_nothing;
      order = order_nothing [] run.begun refl count;
      last = All-nil (λ (f : Finished). is_final f.cause ≡ false);
      timely = All-nil (IsTimely (clock_of []));
      packet = λ n. 0;
      times = told_nothing (clock_of []).number;
    } in
    subst P (sym none) follows
