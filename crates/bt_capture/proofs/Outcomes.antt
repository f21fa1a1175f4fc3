-- What is told while a capture is read, and at its end.
use Rattle.std.proofs.Common.{◌≡◌, ◌∙◌, inl, inr, ℕ, ◌+◌, ◌-◌, ◌^◌, ◌<◌, ◌≤◌, min, Bool, true, if◌then◌else◌, List, [], ◌∷◌, ◌++◌, length}
use Rattle.std.proofs.Common.{append-nil, append_assoc, Option, Some, None, is_some, unwrap_or, Result, Ok, Err, refl, sym, ap, subst, arith}
use Rattle.std.specs.List.{All}
use Rattle.std.specs.List.Sorted.{IsNonDecreasing, IsPermutation}
use Rattle.std.specs.Map.{lookup}
use Rattle.std.specs.Io.KnownBytes.{Appends, Consumes, Keeps}
use Rattle.std.proofs.lemmas.List.{length-append, nil_from_length}
use Rattle.std.proofs.lemmas.List.Elements.{All-contains, All-nil}
use Rattle.std.proofs.KnownBytes.{Appends-nil, Appends-trans, Consumes-nil, Consumes-trans, Consumes-kept}
use Rattle.bt_io.specs.Counts.{Grew}
use Rattle.bt_io.specs.Seen.{SourceSeen, TargetSeen, AppendsPrefix, WriteFailed}
use Rattle.bt_pcap.specs.Formats.{Captured}
use Rattle.bt_pcap.specs.Steps.{captured}
use Rattle.bt_pcap.specs.declared.fault.FileFault.{FileFault}
use Rattle.bt_pcap.specs.declared.fronts.Packet.{Packet}
use Rattle.bt_remarks.specs.declared.events.Side.{Side}
use Rattle.bt_report.specs.declared.report.Report.{Report}
use Rattle.bt_utp.specs.Flows.{flows}
use Rattle.bt_utp.specs.States.{AreCounted}
use Rattle.bt_capture.specs.declared.connections.Connections.{Connections}
use Rattle.bt_capture.specs.declared.ending.CaptureEnd.{CaptureEnd}
use Rattle.bt_text.specs.declared.ended.ToolFault.{ToolFault}
use Rattle.bt_text.specs.declared.ended.ToolFault.TheVariants as tool
use Rattle.bt_capture.specs.declared.ending.Form.{Form}
use Rattle.bt_capture.specs.declared.pair.Pair.{Pair}
use Rattle.bt_capture.specs.declared.run.Run.{Run}
use Rattle.bt_utp.specs.Channels.{no_connections}
use Rattle.bt_utp.specs.Turnings.{AreLinked}
use Rattle.bt_utp.specs.declared.links.Links.{Links}
use Rattle.bt_capture.specs.Arrivals.{Arrival, HaveCome, MayHaveCome, clock_of, first_time}
use Rattle.bt_capture.proofs.Arriving.{come_nothing, have_come}
use Rattle.bt_capture.specs.FlowTexts.{datagrams, flow_texts}
use Rattle.bt_capture.specs.Following.{Asked, IsRowing, IsShare, asked_of}
use Rattle.bt_capture.specs.Following.{AreInOrder, Coming, During, IsTimely, numbers}
use Rattle.bt_capture.specs.Following.{AtEnd, Finished, IsFinished, IsSentBy, IsShared, IsStreaming, IsStreamSoFar, Follows, Phase, Stops, Streams}
use Rattle.bt_capture.specs.Following.{reports_of, told_by}
use Rattle.bt_capture.specs.Forms.{absent_from, is_stream, wanted_by}
use Rattle.bt_capture.specs.Readings.{Reading, IsReading, Advances, GoesOn, Hands, IsFaulty, Waits, nothing_read, shown, with_bytes}
use Rattle.bt_capture.specs.Tables.{Held, same_pair}
use Rattle.bt_capture.specs.Tellings.{Tells, IsStopped, IsEmpty, AreTexts}
use Rattle.bt_capture.specs.Unread.{unread_packets}
use Rattle.bt_capture.specs.Runs.{Origin, HasRead, IsTelling, IsTellingIn, IsLeftIn, IsEndOf, AreOver, AreAllOver, AreToldSoFar, ArePartlyWritten, Adds}
use Rattle.bt_capture.specs.Runs.{ComeTo, asked_in, since_first}
use Rattle.bt_capture.specs.Runs.{AreLines, AreRowsTold, IsToldIn, IsToldTo, IsOnlyStream, IsStreamTold, StreamsSoFar, utp_lines}
use Rattle.bt_capture.proofs.Each.{each_numbered}
use Rattle.bt_capture.proofs.Going.{fresh, goes_both}
use Rattle.bt_capture.proofs.InOrder.{no_texts}
use Rattle.bt_capture.proofs.Numbers.{one_if_began}
use Rattle.bt_capture.proofs.Parting.{parted_all}
use Rattle.bt_capture.proofs.Order.{order_nothing}
use Rattle.bt_capture.proofs.Reported.{asked_by, follows_end, follows_flushed, follows_same, stops_of}
use Rattle.bt_capture.proofs.Steps.{follows_moved}
use Rattle.bt_capture.proofs.Rowing.{going_of}
use Rattle.bt_capture.proofs.SoFar.{left_so_far}
use Rattle.bt_capture.proofs.Streaming.{find_over, numbered_end, untold_end}
use Rattle.bt_capture.proofs.Wants.{absent_before, begun_or_absent, wanted_if_asked}

-- ---- what was read

pub read_nothing : (o : Origin) → HasRead o o.source.left [] nothing_read
read_nothing o = record { all = []; consumed = Consumes-nil o.source.left; reading = fresh }

pub read_packet : (o : Origin) (left : Option (List ℕ)) (packets given : List Captured) (r r' : Reading) → GoesOn r [] given r' → HasRead o left packets r
    → HasRead o left (packets ++ given) r'
read_packet o left packets given r r' goes i = record {
  all = i.all;
  consumed = i.consumed;
  reading = subst (λ l. IsReading l (packets ++ given) r') (append-nil i.all) (goes.reads i.all packets i.reading);
}

pub read_quiet : (o : Origin) (left : Option (List ℕ)) (packets : List Captured) (r r' : Reading) → GoesOn r [] [] r' → HasRead o left packets r
    → HasRead o left packets r'
read_quiet o left packets r r' goes i = subst (λ l. HasRead o left l r') (append-nil packets) (read_packet o left packets [] r r' goes i)

pub hands_none : (r r' : Reading) (x : Result (Option Packet) FileFault) → x ≡ Ok None → Hands r (shown x) r' → GoesOn r [] [] r'
hands_none r r' x e h = (subst (λ y. Hands r (shown y) r') e h).0

pub hands_some : (r r' : Reading) (x : Result (Option Packet) FileFault) (p : Packet) → x ≡ Ok (Some p) → Hands r (shown x) r'
    → GoesOn r [] (captured p ∷ []) r'
hands_some r r' x p e h = subst (λ y. Hands r (shown y) r') e h

pub hands_fault : (r r' : Reading) (x : Result (Option Packet) FileFault) (f : FileFault) → x ≡ Err f → Hands r (shown x) r' → GoesOn r [] [] r'
hands_fault r r' x f e h = (subst (λ y. Hands r (shown y) r') e h).0

pub hands_more : (r r' : Reading) (x : Result (Option Packet) FileFault) → x ≡ Ok None → Hands r (shown x) r' → Waits r'
hands_more r r' x e h = (subst (λ y. Hands r (shown y) r') e h).1

pub hands_faulty : (r r' : Reading) (x : Result (Option Packet) FileFault) (f : FileFault) → x ≡ Err f → Hands r (shown x) r' → IsFaulty r' f
hands_faulty r r' x f e h = (subst (λ y. Hands r (shown y) r') e h).1

-- No byte came: what is held is the same.
pub waits_on : (r r' : Reading) (bytes : List ℕ) → length bytes ≡ 0 → r' ≡ with_bytes r bytes → Waits r → Waits r'
waits_on r r' bytes none is w =
    let same : r.held ++ bytes ≡ r.held = ap (λ (l : List ℕ). r.held ++ l) (nil_from_length bytes none) ∙ append-nil r.held in
    let n = min (r.bytes + length bytes) (2 ^ 64 - 1) in
    let P : List ℕ → Type 0 = λ l. Waits (record { format = r.format; skip = r.skip; held = l; bytes = n; packets = r.packets }) in
    subst (λ x. Waits x) (sym is) (subst P (sym same) (record { few = w.few; inside = w.inside }))

-- the number of the next packet
pub next_number : (packets : List Captured) (all : List ℕ) (r : Reading) (n m : ℕ) → IsReading all packets r → n ≡ r.packets → m ≡ min (n + 1) (2 ^ 64 - 1)
    → m ≡ min (length packets + 1) (2 ^ 64 - 1)
next_number packets all r n m i e f = let count : r.packets ≡ min (length packets) (2 ^ 64 - 1) = i.count in omega (arith, count, e, f)

pub read_bytes : (o : Origin) (left left' : Option (List ℕ)) (packets : List Captured) (r r' : Reading) (bytes : List ℕ) → GoesOn r bytes [] r'
    → Consumes left left' bytes → HasRead o left packets r → HasRead o left' packets r'
read_bytes o left left' packets r r' bytes goes more i = record {
  all = i.all ++ bytes;
  consumed = Consumes-trans o.source.left left left' i.all bytes i.consumed more;
  reading = subst (λ l. IsReading (i.all ++ bytes) l r') (append-nil packets) (goes.reads i.all packets i.reading);
}

pub read_kept : (o : Origin) (left left' : Option (List ℕ)) (packets : List Captured) (r r' : Reading) → r' ≡ r → Keeps left left' → HasRead o left packets r
    → HasRead o left' packets r'
read_kept o left left' packets r r' same keeps i = record {
  all = i.all;
  consumed = Consumes-kept o.source.left left left' i.all i.consumed keeps;
  reading = subst (λ x. IsReading i.all packets x) (sym same) i.reading;
}

-- A packet was handed out.
pub advances_packet : (r r' : Reading) (p : Captured) → GoesOn r [] (p ∷ []) r' → Advances r r'
advances_packet r r' p goes = record { more = []; given = p ∷ []; goes_on = goes; some = omega arith }

-- Bytes were read.
pub advances_bytes : (r r' : Reading) (bytes : List ℕ) → 1 ≤ length bytes → GoesOn r bytes [] r' → Advances r r'
advances_bytes r r' bytes some goes = record { more = bytes; given = []; goes_on = goes; some = omega (arith, some) }

-- Nothing came before that.
pub advances_after : (a b c : Reading) → GoesOn a [] [] b → Advances b c → Advances a c
advances_after a b c quiet i = record {
  more = i.more;
  given = i.given;
  goes_on = goes_both a b c [] i.more [] i.given quiet i.goes_on;
  some = i.some;
}

-- As many bytes and packets came as there were turns, and one more.
pub counts_turn : (o : Origin) (left : Option (List ℕ)) (packets : List Captured) (r r' : Reading) (n : ℕ) → HasRead o left packets r → Advances r r'
    → n < 2 ^ 64 - 1 → n ≤ r.bytes + r.packets → n + 1 ≤ r'.bytes + r'.packets
counts_turn o left packets r r' n i a below le =
    let j = a.goes_on.reads i.all packets i.reading in
    omega (arith, le, below, a.some, i.reading.bytes, i.reading.count, j.bytes, j.count, length-append i.all a.more, length-append packets a.given)

counts_all : (o : Origin) (left : Option (List ℕ)) (packets : List Captured) (r : Reading) → (i : HasRead o left packets r)
    → 2 ^ 64 - 1 ≤ r.bytes + r.packets → 2 ^ 64 - 1 ≤ length i.all + length packets
counts_all o left packets r i le = omega (arith, le, i.reading.bytes, i.reading.count)

-- ---- a step

pub told_read : {ph : Phase} (o : Origin) (left left' : Option (List ℕ)) (now : TargetSeen) (es : List (Pair × Held)) (run : Run) (r r' : Reading)
    → ((packets : List Captured) → HasRead o left packets r → HasRead o left' packets r') → IsTellingIn ph o left now es run r
    → IsTellingIn ph o left' now es run r'
told_read o left left' now es run r r' reads i = record {
  packets = i.packets;
  read = reads i.packets i.read;
  asked = i.asked;
  time = i.time;
  came = i.came;
  come = i.come;
  follows = i.follows;
  utp = i.utp;
  skipped = i.skipped;
  unread = i.unread;
}

pub flushed : {ph : Phase} (o : Origin) (left : Option (List ℕ)) (now after : TargetSeen) (es : List (Pair × Held)) (old new : Run) (r : Reading)
    → new.connections.terms ≡ old.connections.terms → new.connections.teller.form ≡ old.connections.teller.form → new.start ≡ old.start
    → new.connections.lost ≡ old.connections.lost → new.connections.begun ≡ old.connections.begun → new.utp ≡ old.utp → new.links ≡ old.links → new.skipped ≡ old.skipped
    → new.unread ≡ old.unread
    → IsEmpty new.connections.teller
    → ((reports : List Report) (written : List ℕ) → Tells o.target now old.connections.teller reports written
    → Tells o.target after new.connections.teller reports (written ++ old.connections.teller.text.items))
    → IsTellingIn ph o left now es old r → IsTellingIn ph o left after es new r
flushed o left now after es old new r terms form begin lost count utp links skipped unread empty tells i = record {
  packets = i.packets;
  read = i.read;
  asked = asked_by old.connections new.connections terms form ∙ i.asked;
  time = begin ∙ i.time;
  came = i.came;
  come = subst (λ (l : Links). ComeTo i.packets i.came l) (sym links) i.come;
  follows = follows_flushed (since_first o.target i.packets) now after i.came es old.connections new.connections terms lost count form empty
      tells i.follows;
  utp = subst (AreCounted (datagrams i.packets)) (sym utp) i.utp;
  skipped = skipped ∙ i.skipped;
  unread = unread ∙ i.unread;
}

finished_by : (o : Origin) (packets : List Captured) (fs : List Finished) (run : Connections) → asked_of run ≡ asked_in o
    → All (IsFinished run.terms (unwrap_or (first_time packets) 0)) fs → All (IsFinished o.terms (unwrap_or (first_time packets) 0)) fs
finished_by o packets fs run asked i = subst (λ (a : Asked). All (IsFinished a.terms (unwrap_or (first_time packets) 0)) fs) asked i

over_by : (o : Origin) (now : TargetSeen) (packets : List Captured) (came : List Arrival) (run : Connections) → asked_of run ≡ asked_in o
    → (s : Stops (since_first o.target packets) now (clock_of packets) came run) → AreOver o packets came s.fs
over_by o now packets came run asked s = record { finished = finished_by o packets s.fs run asked s.known.finished; shared = s.shared; timely = s.timely }

-- What is told of a stream, by what was asked for.
streams_by : (o : Origin) (packets : List Captured) (fs : List Finished) (es : List (Pair × Held)) (run : Connections) (written : List ℕ)
    → asked_of run ≡ asked_in o → Streams (unwrap_or (first_time packets) 0) written fs es run
    → IsStreaming o.form (told_by written run) o.terms (unwrap_or (first_time packets) 0) run.begun fs es
streams_by o packets fs es run written asked i =
    subst (λ (a : Asked). IsStreaming a.form (told_by written run) a.terms (unwrap_or (first_time packets) 0) run.begun fs es) asked i

so_far_by : (o : Origin) (packets : List Captured) (came : List Arrival) (fs : List Finished) (run : Connections) (written : List ℕ) → asked_of run ≡ asked_in o
    → IsStreamSoFar run.teller.form (told_by written run) run.terms (unwrap_or (first_time packets) 0) came fs
    → StreamsSoFar o packets came fs (told_by written run)
so_far_by o packets came fs run written asked i =
    subst (λ (a : Asked). IsStreamSoFar a.form (told_by written run) a.terms (unwrap_or (first_time packets) 0) came fs) asked i

-- no lines follow the reports yet
no_lines : (o : Origin) (now : TargetSeen) (text : List ℕ) → AppendsPrefix o.target.held now.held text → AppendsPrefix o.target.held now.held (text ++ [])
no_lines o now text front = subst (AppendsPrefix o.target.held now.held) (sym (append-nil text)) front

-- the parts that are told, by what was asked for
told_so_far : {ph : Phase} (o : Origin) (left : Option (List ℕ)) (now : TargetSeen) (es : List (Pair × Held)) (run : Run) (r : Reading)
    → (i : IsTellingIn ph o left now es run r) → AreToldSoFar ph o i.packets i.came i.follows.fs (told_by i.follows.written run.connections)
told_so_far o left now es run r i =
    let f = i.follows in
    let all = run.connections in
    let text = told_by f.written all in
    let from = unwrap_or (first_time i.packets) 0 in
    let came = i.came in
    let rows = subst (λ (a : Asked). IsRowing a.form f.packet f.parts text a.terms from all.begun came f.fs es) i.asked f.rows in
    let streams = streams_by o i.packets f.fs es all f.written i.asked f.streams in
    record {
      stream = record {
        over = streams.sent;
        begun = all.begun;
        place = f.order.place;
        order = f.order.order;
        left = left_so_far o.form text o.terms from all.begun came f.fs es f.apart streams f.order
            (λ k. subst (λ (a : Asked). IsShare a.form text a.terms came f.fs k (lookup (same_pair k) es)) i.asked (f.shared k));
      };
      parting = f.parting;
      parts = f.parts;
      parts_are = rows.rowed.parts_are;
      rows = rows.rowed.over;
      none = rows.rowed.none;
      going = going_of o.form f.packet f.parts text o.terms from all.begun came f.fs es f.apart f.streams.numbered f.order rows;
      each = each_numbered came f.fs es all.begun f.begun f.streams.numbered f.order all.teller.form text all.terms f.shared;
      packet = f.packet;
      times = f.times;
    }

no_lines_in : (ph : Phase) (o : Origin) (packets : List Captured) (came : List Arrival) (fs : List Finished) → AreLines ph o packets came fs []
no_lines_in During o packets came fs = refl
no_lines_in (Coming p x) o packets came fs = refl
no_lines_in AtEnd o packets came fs = inl refl

pub left_by : {ph : Phase} (o : Origin) (left : Option (List ℕ)) (now after : TargetSeen) (es : List (Pair × Held)) (run : Run) (r : Reading)
    → ((reports : List Report) (written : List ℕ) → Tells o.target now run.connections.teller reports written
    → IsStopped run.connections.teller.form o.target after reports (written ++ run.connections.teller.text.items))
    → IsTellingIn ph o left now es run r → IsLeftIn ph o left after r
left_by {ph} o left now after es run r stopped i =
    let fs = i.follows.fs in
    let text = told_by i.follows.written run.connections in
    let is = subst (λ (a : Asked). IsStopped a.form o.target after (reports_of fs) text) i.asked (stopped (reports_of fs) i.follows.written i.follows.known.tells) in
    record {
      packets = i.packets;
      read = i.read;
      came = i.came;
      come = have_come i.packets i.came run.links i.come;
      fs = fs;
      over = record {
        finished = finished_by o i.packets fs run.connections i.asked i.follows.known.finished;
        shared = λ k. ((i.follows.shared k).taken, (i.follows.shared k).share);
        timely = i.follows.timely;
      };
      text = text;
      texts_are = is.texts_are;
      lines = [];
      are_lines = no_lines_in ph o i.packets i.came fs;
      front = no_lines o after text is.front;
      failed = is.failed;
      told = told_so_far o left now es run r i;
    }

pub given_up : (o : Origin) (left : Option (List ℕ)) (now : TargetSeen) (packets : List Captured) (came : List Arrival) (run : Connections) (r : Reading)
    → HasRead o left packets r → MayHaveCome packets came → asked_of run ≡ asked_in o
    → Stops (since_first o.target packets) now (clock_of packets) came run → ArePartlyWritten o left now r
given_up o left now packets came run r read come asked s =
    let t = s.known.tells in
    let text = told_by s.written run in
    record {
      packets = packets;
      read = read;
      came = came;
      come = come;
      fs = s.fs;
      over = over_by o now packets came run asked s;
      text = text;
      texts_are = subst (λ (a : Asked). AreTexts a.form (reports_of s.fs) text) asked t.whole;
      stream = so_far_by o packets came s.fs run s.written asked s.so_far;
      front = (s.written, run.teller.text.items, refl, t.held);
      calm = t.calm;
    }

pub partly : {ph : Phase} (o : Origin) (left : Option (List ℕ)) (now : TargetSeen) (es : List (Pair × Held)) (run : Run) (r : Reading)
    → IsTellingIn ph o left now es run r → ArePartlyWritten o left now r
partly o left now es run r i =
    given_up o left now i.packets i.came run.connections r i.read (inl (have_come i.packets i.came run.links i.come)) i.asked
    (stops_of (since_first o.target i.packets) now i.came es run.connections i.follows)

-- All turns of reading were taken.
pub turned : {ph : Phase} (o : Origin) (left : Option (List ℕ)) (now : TargetSeen) (es : List (Pair × Held)) (run : Run) (r : Reading)
    → IsTellingIn ph o left now es run r → 2 ^ 64 - 1 ≤ r.bytes + r.packets → IsToldIn ph tool.Turns o left now r
unfolding partly given_up
turned o left now es run r i le = (partly o left now es run r i, counts_all o left i.packets r i.read le)

nothing_came : HaveCome [] []
nothing_came = record {
  taken = [];
  are = (refl, refl);
  turned = record { all = λ n lt. absurd (let no : n < 0 = lt in omega (arith, no)); none = λ n le. refl };
}

nothing_written : (o : Origin) → ArePartlyWritten o o.source.left o.target nothing_read
nothing_written o = record {
  packets = [];
  read = read_nothing o;
  came = [];
  come = inl nothing_came;
  fs = [];
  over = record { finished = All-nil (IsFinished o.terms 0); shared = λ k. ([], refl); timely = All-nil (IsTimely (clock_of [])) };
  text = [];
  texts_are = no_texts o.form;
  stream =
      let none = order_nothing [] 0 refl refl in
      record {
        over = All-nil (IsSentBy o.form [] o.terms 0);
        begun = 0;
        place = none.place;
        order = none.order;
        left = λ n side asked small none. inl refl;
      };
  front = ([], [], refl, Appends-nil o.target.held);
  calm = refl;
}

pub nothing_told : (o : Origin) → IsToldTo tool.Memory o o.source o.target
nothing_told o = inl (nothing_read, nothing_written o)

-- ---- the end

-- All that was told is written.
all_told : (written : List ℕ) (run : Connections) → IsEmpty run.teller → told_by written run ≡ written
all_told written run empty = ap (λ (l : List ℕ). written ++ l) empty ∙ append-nil written

pub texts_written : (o : Origin) (left : Option (List ℕ)) (now : TargetSeen) (run : Run) (r : Reading) → IsEmpty run.connections.teller
    → (i : IsTellingIn AtEnd o left now [] run r) → AreTexts o.form (reports_of i.follows.fs) i.follows.written
texts_written o left now run r empty i =
    let reports = reports_of i.follows.fs in
    subst (λ (a : Asked). AreTexts a.form reports i.follows.written) i.asked
    (subst (λ l. AreTexts run.connections.teller.form reports l) (all_told i.follows.written run.connections empty) i.follows.known.tells.whole)

all_shared : (o : Origin) (left : Option (List ℕ)) (now : TargetSeen) (run : Run) (r : Reading) → (i : IsTellingIn AtEnd o left now [] run r) → (k : Pair)
    → IsShared k i.came i.follows.fs []
all_shared o left now run r i k = let s = i.follows.shared k in subst (IsShared k i.came i.follows.fs) s.is s.share

pub begun_all : (begun n : ℕ) → begun ≡ min (n + 0) (2 ^ 64 - 1) → begun ≡ min n (2 ^ 64 - 1)
begun_all begun n e = omega (arith, e)

pub all_over : (o : Origin) (left : Option (List ℕ)) (now : TargetSeen) (run : Run) (r : Reading) → (i : IsTellingIn AtEnd o left now [] run r)
    → AreAllOver o i.packets i.came i.follows.fs
all_over o left now run r i = record {
  finished = finished_by o i.packets i.follows.fs run.connections i.asked i.follows.known.finished;
  numbered = numbered_end run.connections.begun i.follows.fs i.follows.begun i.follows.streams.numbered;
  shared = λ k. all_shared o left now run r i k;
  parted = λ k. parted_all i.came i.follows.fs k (all_shared o left now run r i k) i.follows.parting;
  place = i.follows.order.place;
  order = subst (λ n. AreInOrder i.follows.order.place i.came n i.follows.fs)
      (begun_all run.connections.begun (length i.follows.fs) i.follows.begun) i.follows.order.order;
  last = i.follows.last;
  timely = i.follows.timely;
}

pub stream_told : (o : Origin) (left : Option (List ℕ)) (now : TargetSeen) (run : Run) (r : Reading) → IsEmpty run.connections.teller
    → (i : IsTellingIn AtEnd o left now [] run r) → IsStreamTold o i.packets i.follows.fs i.follows.written
stream_told o left now run r empty i =
    let fs = i.follows.fs in
    let written = i.follows.written in
    let streams = streams_by o i.packets fs [] run.connections written i.asked i.follows.streams in
    let P : List ℕ → Type 0 = λ l. IsStreamTold o i.packets fs l in
    let told : P (told_by written run.connections) = record {
      sent = streams.sent;
      untold = λ n. untold_end o.form (told_by written run.connections) run.connections.begun (length fs) n i.follows.begun streams.untold;
    } in
    subst P (all_told written run.connections empty) told

pub rows_told : (o : Origin) (left : Option (List ℕ)) (now : TargetSeen) (run : Run) (r : Reading) → IsEmpty run.connections.teller
    → (i : IsTellingIn AtEnd o left now [] run r) → AreRowsTold o i.packets i.follows.fs i.follows.written
rows_told o left now run r empty i =
    let f = i.follows in
    let all = run.connections in
    let R : Asked → List ℕ → Type 0 = λ a l.
    IsRowing a.form f.packet f.parts l a.terms (unwrap_or (first_time i.packets) 0) all.begun i.came f.fs [] in
    let rows = subst (λ a. R a f.written) i.asked (subst (λ l. R (asked_of all) l) (all_told f.written all empty) f.rows) in
    record {
      parts = f.parts;
      parts_are = rows.rowed.parts_are;
      rows = rows.rowed.over;
      none = λ n le small. let begun : all.begun ≡ min (length f.fs + 0) (2 ^ 64 - 1) = f.begun in rows.rowed.none n (omega (arith, le, begun)) small;
      packet = f.packet;
      times = f.times;
    }

-- the reports and the lines on uTP, one after the other
pub whole_written : (o : Origin) (left : Option (List ℕ)) (before now : TargetSeen) (run : Run) (r : Reading) → IsEmpty run.connections.teller
    → (i : IsTellingIn AtEnd o left before [] run r) → Appends before.held now.held (utp_lines run.connections.teller.form i.packets)
    → Appends o.target.held now.held (i.follows.written ++ utp_lines o.form i.packets)
whole_written o left before now run r empty i held =
    Appends-trans o.target.held before.held now.held i.follows.written (utp_lines o.form i.packets) i.follows.known.tells.held
    (subst (λ (a : Asked). Appends before.held now.held (utp_lines a.form i.packets)) i.asked held)

-- The lines on uTP couldn't be made or written.
part_written : (o : Origin) (left : Option (List ℕ)) (before now : TargetSeen) (run : Run) (r : Reading) → IsEmpty run.connections.teller
    → (i : IsTellingIn AtEnd o left before [] run r) → AppendsPrefix before.held now.held (utp_lines run.connections.teller.form i.packets) → WriteFailed before now
    → IsLeftIn AtEnd o left now r
part_written o left before now run r empty i p failed =
    let known = i.follows.known in
    let written = i.follows.written in
    let q = subst (λ (a : Asked). AppendsPrefix before.held now.held (utp_lines a.form i.packets)) i.asked p in
    record {
      packets = i.packets;
      read = i.read;
      came = i.came;
      come = have_come i.packets i.came run.links i.come;
      fs = i.follows.fs;
      over = record {
        finished = finished_by o i.packets i.follows.fs run.connections i.asked known.finished;
        shared = λ k. ((i.follows.shared k).taken, (i.follows.shared k).share);
        timely = i.follows.timely;
      };
      text = written;
      texts_are = texts_written o left before run r empty i;
      lines = utp_lines o.form i.packets;
      are_lines = inr (all_over o left before run r i, refl);
      front = (
        written ++ q.0,
        q.1,
        ap (λ l. written ++ l) q.2 ∙ sym (append_assoc written q.0 q.1),
        Appends-trans o.target.held before.held now.held written q.0 known.tells.held q.3,
      );
      failed = subst (λ (n : ℕ). Grew n now.failed) known.tells.calm failed;
      told = subst (λ l. AreToldSoFar AtEnd o i.packets i.came i.follows.fs l) (all_told written run.connections empty) (told_so_far o left before [] run r i);
    }

pub not_added : (T : Type 0) (f : ToolFault) (o : Origin) (left : Option (List ℕ)) (before now : TargetSeen) (run : Run) (r : Reading)
    → IsEmpty run.connections.teller → (i : IsTellingIn AtEnd o left before [] run r) → Adds {T = T} (utp_lines run.connections.teller.form i.packets) before now (Err f)
    → IsToldIn AtEnd f o left now r
not_added T tool.Read o left before now run r empty i a = absurd a
not_added T tool.Write o left before now run r empty i a = part_written o left before now run r empty i a.0 a.1
not_added T tool.Memory o left before now run r empty i a = subst (λ x. ArePartlyWritten o left x r) (sym a) (partly o left before [] run r i)
not_added T tool.Net o left before now run r empty i a = absurd a
not_added T tool.Turns o left before now run r empty i a = absurd a

-- Those that are left are taken out of the table.
pub told_rest : (o : Origin) (left : Option (List ℕ)) (now : TargetSeen) (old : Run) (new : Connections) (es : List (Pair × Held)) (r : Reading)
    → IsPermutation old.connections.table es → IsNonDecreasing (numbers es) → new ≡ record old.connections { table = new.table }
    → IsTelling o left now old.connections.table old r → IsTellingIn AtEnd o left now es (record old { connections = new }) r
told_rest o left now old new es r all up same i =
    let table : List (Pair × Held) = old.connections.table in
    let start = since_first o.target i.packets in
    let mid : Connections = record old.connections { table = new.table } in
    subst (λ (x : Connections). IsTellingIn AtEnd o left now es (record old { connections = x }) r) (sym same) (record {
      packets = i.packets;
      read = i.read;
      asked = i.asked;
      time = i.time;
      came = i.came;
      come = i.come;
      follows = follows_same start now i.came es old.connections mid refl refl refl refl
          (follows_end start now i.came es old.connections up
          (follows_moved start now i.came table es old.connections all i.follows));
      utp = i.utp;
      skipped = i.skipped;
      unread = i.unread;
    })

-- ---- the begin

pub begins : (o : Origin) (run : Run) (r : Reading) → asked_of run.connections ≡ asked_in o → run.start ≡ None
    → Follows (since_first o.target []) o.target (clock_of []) [] run.connections.table run.connections → AreCounted [] run.utp → AreLinked no_connections [] run.links
    → run.skipped ≡ 0 → run.unread ≡ unread_packets []
    → r ≡ nothing_read → IsTelling o o.source.left o.target run.connections.table run r
begins o run r asked begin follows utp linked skipped unread same = record {
  packets = [];
  read = subst (HasRead o o.source.left []) (sym same) (read_nothing o);
  asked = asked;
  time = begin;
  came = [];
  come = come_nothing run.links linked;
  follows = follows;
  utp = utp;
  skipped = skipped;
  unread = unread;
}

-- ---- connections that have begun

pub absent_by : (form form' : Form) (n begun : ℕ) → form' ≡ form → begun ≡ min n (2 ^ 64 - 1) → (o : Option ℕ) → o ≡ absent_from form' begun
    → o ≡ absent_from form (min n (2 ^ 64 - 1))
absent_by form form' n begun same count o is = is ∙ ap (λ (k : Form). absent_from k begun) same ∙ ap (λ (m : ℕ). absent_from form m) count

-- ---- only a stream

no_utp : (form : Form) (packets : List Captured) → is_stream form ≡ true → utp_lines form packets ≡ []
no_utp form packets e = ap (λ (b : Bool). if b then [] else flow_texts form.json (flows (datagrams packets))) e

pub stream_only : (o : Origin) (after : SourceSeen) (now : TargetSeen) (end : CaptureEnd) (n : ℕ) (side : Side) → o.form.stream ≡ Some (n, side)
    → n < 2 ^ 64 - 1 → (i : IsEndOf o after now end) → IsOnlyStream o now end i.packets i.fs n side
stream_only o after now end n side asked small i =
    let stream : is_stream o.form ≡ true = ap (λ (s : Option (ℕ × Side)). is_some s) asked in
    let none : utp_lines o.form i.packets ≡ [] = no_utp o.form i.packets stream in
    let bytes : i.text ++ utp_lines o.form i.packets ≡ i.text = ap (λ (l : List ℕ). i.text ++ l) none ∙ append-nil i.text in
    let held = subst (λ l. Appends o.target.held now.held l) bytes i.written in
    elim (begun_or_absent o.form (length i.fs) n side asked) [
      | inl lt ↦
          let all = i.over.numbered n small in
          let one = one_if_began (length i.fs) n lt in
          let f = find_over n i.fs (omega (arith, all, one)) in
          let from = unwrap_or (first_time i.packets) 0 in
          let below : f.0.number < 2 ^ 64 - 1 = subst (λ m. m < 2 ^ 64 - 1) (sym f.2) small in
          let wanted : wanted_by o.form f.0.number ≡ Some side =
          subst (λ m. wanted_by o.form m ≡ Some side) (sym f.2) (wanted_if_asked o.form n side asked) in
          let sent = All-contains (IsSentBy o.form i.text o.terms from) i.fs f.0 i.stream.sent f.1 in
          (i.text, held, inr (f.0, f.1, f.2, sent side below wanted))
      | inr absent ↦
          let less : absent_from o.form (min (length i.fs) (2 ^ 64 - 1)) ≡ Some n =
          absent_before o.form (min (length i.fs) (2 ^ 64 - 1)) (length i.fs) n (omega arith) absent in
          (i.text, held, inl (i.absent ∙ less, i.stream.untold n absent small))
    ]
