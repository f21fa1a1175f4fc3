-- What was told of a capture.
use Rattle.bt_talk.specs.declared.terms.Terms.{Terms}
use Rattle.std.specs.Prelude.{◌≡◌, ◌⊎◌, ℕ, ◌+◌, ◌-◌, ◌^◌, ◌<◌, ◌≤◌, ◌++◌, min, List, [], ◌∷◌, length, Option, Some, unwrap_or}
use Rattle.std.specs.Prelude.{Result, Ok, Err, if◌then◌else◌}
use Rattle.std.specs.List.{All, Contains}
use Rattle.std.specs.Io.KnownBytes.{Appends, Consumes}
use Rattle.bt_io.specs.Seen.{SourceSeen, TargetSeen, AppendsPrefix, WriteFailed}
use Rattle.bt_pcap.specs.Formats.{Captured}
use Rattle.bt_remarks.specs.declared.events.Side.{Side}
use Rattle.bt_capture.specs.declared.ending.CaptureEnd.{CaptureEnd}
use Rattle.bt_text.specs.declared.ended.ToolFault.{ToolFault}
use Rattle.bt_capture.specs.declared.ending.CaptureJob.{CaptureJob}
use Rattle.bt_capture.specs.declared.ending.Ending.{Ending}
use Rattle.bt_capture.specs.declared.ending.Form.{Form}
use Rattle.bt_text.specs.declared.ended.ToolFault.TheVariants as tool
use Rattle.bt_capture.specs.declared.ending.Stop.{Stop}
use Rattle.bt_capture.specs.declared.ending.Stop.TheVariants.{File, Read, Fault}
use Rattle.bt_capture.specs.declared.pair.Pair.{Pair}
use Rattle.bt_capture.specs.declared.run.Run.{Run}
use Rattle.bt_capture.specs.Arrivals.{AreArrivals, AreTurnedAll, Arrival, Clock, HaveCome, IsArrival, MayHaveCome, after_seen, clock_of, count_skipped}
use Rattle.bt_capture.specs.Arrivals.{first_time, table_after}
use Rattle.bt_capture.specs.Sights.{Seen}
use Rattle.bt_capture.specs.Ends.{HasEndedSo}
use Rattle.bt_capture.specs.Following.{AreInOrder, AreLast, AreParted, AreRowsOf, Finished, IsFinished, IsSentBy, IsShared, IsStreamOf, IsTimely}
use Rattle.bt_capture.specs.Following.{Asked, Since, asked_of, since}
use Rattle.bt_capture.specs.Following.{AreParts, AreToldWith, Follows, Phase, Stops, AtEnd, Coming, During, IsStreamSoFar, AreNumbered, FollowsIn, between, reports_of}
use Rattle.bt_capture.specs.Following.{IsFirstAt, IsGoing, count_early, count_lost, count_over, count_unread}
use Rattle.bt_capture.specs.Readings.{Reading, IsReading}
use Rattle.bt_capture.specs.Tables.{Held}
use Rattle.bt_utp.specs.Flows.{flows}
use Rattle.bt_utp.specs.States.{AreCounted}
use Rattle.bt_utp.specs.Channels.{Table, no_connections}
use Rattle.bt_utp.specs.Taken.{Taken}
use Rattle.bt_utp.specs.Turnings.{AreLinked}
use Rattle.bt_utp.specs.declared.links.Links.{Links}
use Rattle.bt_talk.specs.declared.closing.When.{When}
use Rattle.bt_capture.specs.FlowTexts.{datagrams, flow_texts}
use Rattle.bt_capture.specs.Forms.{absent_from, is_stream}
use Rattle.bt_packet.specs.Utp.{UtpPacket}
use Rattle.bt_capture.specs.Tellings.{ArePartsOf, AreTexts, Part, chosen_by, count_torrents, is_one_partial, is_one_refused, rows_of}
use Rattle.bt_capture.specs.Unread.{unread_packets, whys}

-- ---- what a run begins with

-- what is known of the connections; how they are told; and what is seen of the source and of the target
pub record Origin : Type 0 where
  pub terms : Terms
  pub form : Form
  pub source : SourceSeen
  pub target : TargetSeen

abbrev pub origin : CaptureJob → SourceSeen → TargetSeen → Origin
origin job source target = record {
  terms = job.terms;
  form = record { show = job.show; json = job.json; stream = job.stream; choice = job.choice };
  source = source;
  target = target;
}

abbrev pub asked_in : Origin → Asked
asked_in o = record { terms = o.terms; form = o.form }

abbrev pub since_first : TargetSeen → List Captured → Since
since_first target packets = since target (unwrap_or (first_time packets) 0)

-- These packets were read from the source, all of them since the begin. Now it has these bytes left.
pub record HasRead (o : Origin) (left : Option (List ℕ)) (packets : List Captured) (r : Reading) : Type 0 where
  pub all : List ℕ
  pub consumed : Consumes o.source.left left all
  pub reading : IsReading all packets r

-- ---- while it is read

-- These are the segments of packets, and these are the connections of uTP.
pub record ComeTo (packets : List Captured) (came : List Arrival) (links : Links) : Type 0 where
  pub taken : List Taken
  pub are : AreArrivals 0 no_connections packets taken came
  pub linked : AreLinked (table_after no_connections packets) taken links

-- The packets' segments were taken. These connections aren't over, and the others are told.
pub record IsTellingIn (ph : Phase) (o : Origin) (left : Option (List ℕ)) (now : TargetSeen) (es : List (Pair × Held)) (run : Run) (r : Reading) : Type 0 where
  pub packets : List Captured
  pub read : HasRead o left packets r
  pub asked : asked_of run.connections ≡ asked_in o
  pub time : run.start ≡ first_time packets
  pub came : List Arrival
  pub come : ComeTo packets came run.links
  pub follows : FollowsIn ph (since_first o.target packets) now (clock_of packets) came es run.connections
  pub utp : AreCounted (datagrams packets) run.utp
  pub skipped : run.skipped ≡ count_skipped packets
  pub unread : run.unread ≡ unread_packets (whys packets)

-- As IsTellingIn, and the capture is still read.
abbrev pub IsTelling : Origin → Option (List ℕ) → TargetSeen → List (Pair × Held) → Run → Reading → Type 0
IsTelling o left now es run r = IsTellingIn During o left now es run r

-- ---- at its end

-- The connections that are over, each with its segments among those of the packets, in order, except the rest. Each that had ended or
-- was given up is over at one of the packets.
pub record AreOver (o : Origin) (packets : List Captured) (came : List Arrival) (fs : List Finished) : Type 0 where
  pub finished : All (IsFinished o.terms (unwrap_or (first_time packets) 0)) fs
  pub shared : (k : Pair) → (rest : List Arrival) × IsShared k came fs rest
  pub timely : All (IsTimely (clock_of packets)) fs

-- All connections are over: each segment of the packets was taken by one of them, and each has its number, in the order in which they began. Of
-- those between the same ends each is over for a reason, and those that come after it took the segments that follow. Each that had ended or
-- was given up is over at one of the packets.
pub record AreAllOver (o : Origin) (packets : List Captured) (came : List Arrival) (fs : List Finished) : Type 0 where
  pub finished : All (IsFinished o.terms (unwrap_or (first_time packets) 0)) fs
  pub numbered : AreNumbered (length fs) fs []
  pub shared : (k : Pair) → IsShared k came fs []
  pub parted : (k : Pair) → AreParted (between k fs) []
  pub place : ℕ → ℕ
  pub order : AreInOrder place came (min (length fs) (2 ^ 64 - 1)) fs
  pub last : AreLast fs []
  pub timely : All (IsTimely (clock_of packets)) fs

-- If a stream is told, the text is that of the asked side of the connection with the asked number, if there is a report on that. It is empty
-- if no connection has the number.
pub record IsStreamTold (o : Origin) (packets : List Captured) (fs : List Finished) (text : List ℕ) : Type 0 where
  pub sent : All (IsSentBy o.form text o.terms (unwrap_or (first_time packets) 0)) fs
  pub untold : (n : ℕ) → absent_from o.form (length fs) ≡ Some n → n < 2 ^ 64 - 1 → text ≡ []

-- The text is made of these parts: the reports, and rows. The rows of each connection with a report are those of all that its sides did; no row
-- is of a connection that hasn't begun. Rows have no text if they aren't asked for. Each part was told with a packet, in the order of the packets.
pub record AreRowsTold (o : Origin) (packets : List Captured) (fs : List Finished) (text : List ℕ) : Type 0 where
  pub parts : List Part
  pub parts_are : ArePartsOf o.form (reports_of fs) text parts
  pub packet : ℕ → ℕ
  pub rows : All (AreRowsOf o.form packet parts o.terms (unwrap_or (first_time packets) 0)) fs
  pub none : (n : ℕ) → length fs ≤ n → n < 2 ^ 64 - 1 → rows_of n parts ≡ []
  pub times : AreToldWith packet (clock_of packets).number parts fs

-- the lines on packets of uTP; none if only a stream is told
abbrev pub utp_text : Form → List UtpPacket → List ℕ
utp_text form ds = if is_stream form then [] else flow_texts form.json (flows ds)

-- the lines on the packets of uTP that packets carry
abbrev pub utp_lines : Form → List Captured → List ℕ
utp_lines form packets = utp_text form (datagrams packets)

-- These packets were read, and reading ended as the end says, by what is left of the file and by what was seen of the source. What was written are
-- the texts of the reports that are chosen of those on all connections of what was read, in order, with rows between them, and after them the lines
-- on uTP; or the stream of one side of a connection. The reports add up to this.
pub record IsEndOf (o : Origin) (after : SourceSeen) (now : TargetSeen) (end : CaptureEnd) : Type 0 where
  pub packets : List Captured
  pub r : Reading
  pub read : HasRead o after.left packets r
  pub ended : HasEndedSo end.ending r o.source after
  pub count : end.packets ≡ min (length packets) (2 ^ 64 - 1)
  pub skipped : end.skipped ≡ count_skipped packets
  pub unread_packets : end.unread_packets ≡ unread_packets (whys packets)
  pub came : List Arrival
  pub come : HaveCome packets came
  pub fs : List Finished
  pub over : AreAllOver o packets came fs
  pub text : List ℕ
  pub texts_are : AreTexts o.form (reports_of fs) text
  pub stream : IsStreamTold o packets fs text
  pub rows : AreRowsTold o packets fs text
  pub written : Appends o.target.held now.held (text ++ utp_lines o.form packets)
  pub calm : now.failed ≡ o.target.failed
  pub torrents : end.torrents ≡ count_torrents (reports_of fs)
  pub refused : end.is_refused ≡ is_one_refused (chosen_by o.form (reports_of fs))
  pub partial : end.is_partial ≡ is_one_partial (chosen_by o.form (reports_of fs))
  pub lost : end.lost ≡ count_lost fs
  pub unread : end.unread ≡ count_unread fs
  pub early : end.early ≡ count_early fs
  pub absent : end.absent ≡ absent_from o.form (min (length fs) (2 ^ 64 - 1))

-- No connection has the number, and nothing is written. Or one has it: it has no report, or the side's stream is written, and nothing else.
abbrev pub IsOnlyStream : (o : Origin) → TargetSeen → CaptureEnd → List Captured → List Finished → ℕ → Side → Type 0
IsOnlyStream o now end packets fs n side = (bytes : List ℕ) × Appends o.target.held now.held bytes
    × (((end.absent ≡ Some n) × (bytes ≡ []))
    ⊎ ((f : Finished) × Contains fs f × (f.number ≡ n) × IsStreamOf side bytes o.terms (unwrap_or (first_time packets) 0) f))

abbrev pub StreamsSoFar : Origin → List Captured → List Arrival → List Finished → List ℕ → Type 0
StreamsSoFar o packets came fs text = IsStreamSoFar o.form text o.terms (unwrap_or (first_time packets) 0) came fs

-- There are no lines on uTP as long as the capture is read, or a connection may be left.
abbrev pub AreLines : Phase → Origin → List Captured → List Arrival → List Finished → List ℕ → Type 0
AreLines During o packets came fs lines = lines ≡ []
AreLines (Coming p x) o packets came fs lines = lines ≡ []
AreLines AtEnd o packets came fs lines = (lines ≡ []) ⊎ (AreAllOver o packets came fs × (lines ≡ utp_lines o.form packets))

-- The first part of the texts of reports on connections of what was read is written, and no line on uTP. If a stream is told it is the first part of
-- that. No write failed.
pub record ArePartlyWritten (o : Origin) (left : Option (List ℕ)) (now : TargetSeen) (r : Reading) : Type 0 where
  pub packets : List Captured
  pub read : HasRead o left packets r
  pub fs : List Finished
  pub came : List Arrival
  pub come : MayHaveCome packets came
  pub over : AreOver o packets came fs
  pub text : List ℕ
  pub texts_are : AreTexts o.form (reports_of fs) text
  pub stream : StreamsSoFar o packets came fs text
  pub front : AppendsPrefix o.target.held now.held text
  pub calm : now.failed ≡ o.target.failed

-- The text is made of these parts: reports on connections that are over, and rows, also of others. So many have begun, each at its number's place, as is
-- said at the stream: each that isn't over began there, with a number that none that is over has, if fewer than 2 ^ 64 - 1 have begun. Of those between
-- the same ends the later ones took the segments that follow. Each part was told with a packet, in their order.
pub record AreToldSoFar (ph : Phase) (o : Origin) (packets : List Captured) (came : List Arrival) (fs : List Finished) (text : List ℕ) : Type 0 where
  pub stream : StreamsSoFar o packets came fs text
  pub parting : AreParts ph came fs
  pub parts : List Part
  pub parts_are : ArePartsOf o.form (reports_of fs) text parts
  pub packet : ℕ → ℕ
  pub rows : All (AreRowsOf o.form packet parts o.terms (unwrap_or (first_time packets) 0)) fs
  pub none : (n : ℕ) → stream.begun ≤ n → n < 2 ^ 64 - 1 → rows_of n parts ≡ []
  pub going : (n : ℕ) → n < stream.begun → n < 2 ^ 64 - 1 → count_over n fs ≡ 0
      → IsGoing o.form packet parts o.terms (unwrap_or (first_time packets) 0) stream.place stream.begun came fs n
  pub each : stream.begun < 2 ^ 64 - 1 → (k : Pair) (x : Arrival) (rest : List Arrival) → IsShared k came fs (x ∷ rest)
      → (n : ℕ) × (n < stream.begun) × (count_over n fs ≡ 0) × IsFirstAt came (stream.place n) (x ∷ rest)
  pub times : AreToldWith packet (clock_of packets).number parts fs

-- A write failed in this phase: the first part of the texts is written, or all of them and the first part of the lines on uTP. If a stream is
-- told it is the first part of that.
pub record IsLeftIn (ph : Phase) (o : Origin) (left : Option (List ℕ)) (now : TargetSeen) (r : Reading) : Type 0 where
  pub packets : List Captured
  pub read : HasRead o left packets r
  pub fs : List Finished
  pub came : List Arrival
  pub come : HaveCome packets came
  pub over : AreOver o packets came fs
  pub text : List ℕ
  pub texts_are : AreTexts o.form (reports_of fs) text
  pub lines : List ℕ
  pub are_lines : AreLines ph o packets came fs lines
  pub front : AppendsPrefix o.target.held now.held (text ++ lines)
  pub failed : WriteFailed o.target now
  pub told : AreToldSoFar ph o packets came fs text

-- What is told before a fault in this phase: a failed write, want of memory, or no turns left. These are at an end only if that many bytes and packets came.
abbrev pub IsToldIn : Phase → ToolFault → Origin → Option (List ℕ) → TargetSeen → Reading → Type 0
IsToldIn ph tool.Read o left now r = ⊥
IsToldIn ph tool.Write o left now r = IsLeftIn ph o left now r
IsToldIn ph tool.Memory o left now r = ArePartlyWritten o left now r
IsToldIn ph tool.Net o left now r = ⊥
IsToldIn ph tool.Turns o left now r = (p : ArePartlyWritten o left now r) × (2 ^ 64 - 1 ≤ length p.read.all + length p.packets)

-- The fault came as the capture was read; or after reading had ended, and this is how.
abbrev pub IsToldTo : ToolFault → Origin → SourceSeen → TargetSeen → Type 0
IsToldTo f o after now = ((r : Reading) × IsToldIn During f o after.left now r)
    ⊎ ((e : Ending) × (r : Reading) × IsToldIn AtEnd f o after.left now r × HasEndedSo e r o.source after)

-- What is written are the texts of the reports on the connections of the packets that were read, with rows between them, and the lines on
-- their packets of uTP: all of them at an end, which also says how reading ended, and else the first part.
abbrev pub IsTold : Origin → SourceSeen → TargetSeen → Result CaptureEnd ToolFault → Type 0
IsTold o after now (Ok end) = IsEndOf o after now end
IsTold o after now (Err f) = IsToldTo f o after now

-- ---- after a step

-- After a fault no more is told.
abbrev pub IsAfterIn : {T : Type 0} → Phase → Origin → Option (List ℕ) → TargetSeen → List (Pair × Held) → Run → Reading → Result T ToolFault → Type 0
IsAfterIn ph o left now es run r (Ok x) = IsTellingIn ph o left now es run r
IsAfterIn ph o left now es run r (Err f) = IsToldIn ph f o left now r

-- What can't be read on leaves the connections as they are.
abbrev pub AfterStop : Stop → Origin → Option (List ℕ) → TargetSeen → List (Pair × Held) → Run → Reading → Type 0
AfterStop (File f) o left now es run r = IsTelling o left now es run r
AfterStop Read o left now es run r = IsTelling o left now es run r
AfterStop (Fault f) o left now es run r = IsToldIn During f o left now r

abbrev pub IsAfter : {T : Type 0} → Origin → Option (List ℕ) → TargetSeen → List (Pair × Held) → Run → Reading → Result T Stop → Type 0
IsAfter o left now es run r (Ok x) = IsTelling o left now es run r
IsAfter o left now es run r (Err s) = AfterStop s o left now es run r

-- These bytes were written; or a write failed, and the first part was; or memory ran out, and nothing was.
abbrev pub Adds : {T : Type 0} → List ℕ → TargetSeen → TargetSeen → Result T ToolFault → Type 0
Adds bytes before now (Ok x) = Appends before.held now.held bytes × (now.failed ≡ before.failed)
Adds bytes before now (Err tool.Read) = ⊥
Adds bytes before now (Err tool.Write) = AppendsPrefix before.held now.held bytes × WriteFailed before now
Adds bytes before now (Err tool.Memory) = now ≡ before
Adds bytes before now (Err tool.Net) = ⊥
Adds bytes before now (Err tool.Turns) = ⊥

-- It was done.
abbrev pub done : Result (Unit {0}) ToolFault
done = Ok tt

-- ---- after a packet

-- What was seen then was taken, and its segment came, if it has one or is turned into one. Before, uTP had these connections. If memory ran out, nothing
-- came of it, or its segment did.
abbrev pub TakesSeen : {E : Type 0} → Since → TargetSeen → Clock → Table → List Taken → List Arrival → Seen → When → Run → Result (Unit {0}) E → Type 0
TakesSeen start now clock t xs came s when run (Ok x) =
    (more : List Taken) × (new : List Arrival) × IsArrival t s when more new × AreLinked (after_seen t s) (xs ++ more) run.links
    × Follows start now clock (came ++ new) run.connections.table run.connections
TakesSeen start now clock t xs came s when run (Err e) =
    Stops start now clock came run.connections
    ⊎ ((more : List Taken) × (new : List Arrival) × IsArrival t s when more new × AreTurnedAll (after_seen t s) (xs ++ more)
    × Stops start now clock (came ++ new) run.connections)

-- These packets were taken, or memory ran out with the last one.
abbrev pub TakesPackets : {E : Type 0} → TargetSeen → TargetSeen → List Captured → Run → Result (Unit {0}) E → Type 0
TakesPackets target now packets run (Ok x) =
    (came : List Arrival) × ComeTo packets came run.links
    × Follows (since_first target packets) now (clock_of packets) came run.connections.table run.connections
TakesPackets target now packets run (Err e) =
    (came : List Arrival) × MayHaveCome packets came × Stops (since_first target packets) now (clock_of packets) came run.connections
