-- What was seen of the source of a capture file, and how reading ended.
use Rattle.std.proofs.Common.{◌∙◌, Result, Ok, Err, inl, inr, refl, ap}
use Rattle.bt_io.specs.Counts.{one_more}
use Rattle.bt_io.specs.Seen.{SourceSeen}
use Rattle.bt_pcap.specs.declared.fault.FileFault.{FileFault}
use Rattle.bt_capture.specs.declared.ending.Stop.{Stop}
use Rattle.bt_capture.specs.declared.ending.Stop.TheVariants.{File, Read, Fault}
use Rattle.bt_capture.specs.declared.packets.FileEnd.{FileEnd}
use Rattle.bt_capture.specs.declared.packets.FileEnd.TheVariants.{Whole, Cut}
use Rattle.bt_capture.specs.Ends.{HasEndedSo, IsReadToEnd, IsWhy, IsWhyHeld, ending_by}
use Rattle.bt_capture.specs.Readings.{Reading}
use Rattle.bt_capture.specs.Sees.{HasGone, HasEnded}

pub gone_on : (a b c : SourceSeen) → HasGone a b → HasGone b c → HasGone a c
gone_on a b c p q = (q.0 ∙ p.0, q.1 ∙ p.1)

ended_on : (a b c : SourceSeen) → HasGone a b → HasEnded b c → HasEnded a c
ended_on a b c p q = record { ends = q.ends ∙ ap one_more p.0; failed = q.failed ∙ p.1; none_left = q.none_left }

pub to_end_on : (x : Result FileEnd FileFault) (r : Reading) (a b c : SourceSeen) → HasGone a b → IsReadToEnd x r b c → IsReadToEnd x r a c
to_end_on x r a b c p q = record { waits = q.waits; ended = q.ended; seen = ended_on a b c p q.seen }

pub why_on : (s : Stop) (r : Reading) (a b c : SourceSeen) → HasGone a b → IsWhy s r b c → IsWhy s r a c
why_on (File f) r a b c p q = elim q [ inl h ↦ inl (h.0, gone_on a b c p h.1) | inr e ↦ inr (to_end_on (Err f) r a b c p e) ]
why_on Read r a b c p q = (q.0, (q.1.0 ∙ p.0, q.1.1 ∙ ap one_more p.1))
why_on (Fault f) r a b c p q = tt

-- No read was made.
pub why_held : (s : Stop) (r : Reading) (a : SourceSeen) → IsWhyHeld s r → IsWhy s r a a
why_held (File f) r a h = inl (h, (refl, refl))
why_held Read r a h = absurd h
why_held (Fault f) r a h = tt

-- The end that the file's end tells of.
pub ended_so : (end : FileEnd) (r : Reading) (a b : SourceSeen) → IsReadToEnd (Ok end) r a b → HasEndedSo (ending_by end) r a b
ended_so Whole r a b e = e
ended_so Cut r a b e = e
