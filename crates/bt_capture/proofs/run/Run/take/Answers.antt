use Rattle.std.proofs.Common.{◌≡◌, ◌∙◌, ℕ, Some, unwrap_or, ap, append-nil, arith, inl, inr, refl, sym, subst, List, Option, [], ◌∷◌, ◌++◌}
use Rattle.std.proofs.lemmas.Result.{err_from_is_err_and}
use Rattle.bt_io.specs.Counts.{counted}
use Rattle.bt_pcap.specs.Formats.{Captured}
use Rattle.bt_pcap.specs.Steps.{captured}
use Rattle.std.specs.List.{Contains}
use Rattle.std.proofs.lemmas.List.Elements.{Contains-push}
use Rattle.bt_talk.specs.declared.closing.When.{When}
use Rattle.bt_capture.specs.Arrivals.{AreTurnedAll, Arrival, Clock, IsArrival, after_seen, clock_of, first_time, is_no_segment, is_skipped, table_after, with_packet}
use Rattle.bt_utp.specs.States.{AreCounted}
use Rattle.bt_capture.specs.FlowTexts.{datagrams, datagrams_in}
use Rattle.bt_capture.specs.Following.{Follows, Goes, Stops, since}
use Rattle.bt_capture.proofs.FlowLines.{datagrams_more, ok_any}
use Rattle.bt_utp.specs.Channels.{no_connections}
use Rattle.bt_utp.specs.Turnings.{AreLinked}
use Rattle.bt_capture.specs.declared.run.Run.{Run}
use Rattle.bt_capture.proofs.Arriving.{all_until, all_within, come_more, have_come, have_more, none_came, took_all}
use Rattle.bt_capture.proofs.Steps.{all_earlier, clock_more, first_more, follows_later, number_of, number_up, started, stops_later}
use Rattle.bt_capture.specs.Unread.{unread_packets, why_in, whys}
use Rattle.bt_capture.proofs.Skipping.{skipped_more}
use Rattle.bt_capture.proofs.Tallying.{whys_more}
use Rattle.bt_capture.proofs.run.Run.take.Goals as goal

-- the time of the first packet, of those before or this one
from_first : (o : Option ℕ) (packets : List Captured) (p : Captured) (from : ℕ) → o ≡ first_time packets → from ≡ unwrap_or o p.nanos
    → unwrap_or (first_time (packets ++ p ∷ [])) 0 ≡ from
from_first o packets p from time is =
    ap (λ (x : Option ℕ). unwrap_or x 0) (first_more packets p) ∙ ap (λ (x : Option ℕ). unwrap_or x p.nanos) (sym time) ∙ sym is

pub returns-clause-goes : goal.returns-clause-goes
returns-clause-goes c start now packets came number time come i =
    let old = c.args.self.now in
    let run = c.take_sight.new.self in
    let p = captured c.args.packet.now in
    let w : When = record { nanos = c.args.packet.now.nanos; packet = c.args.number } in
    let clock = clock_of packets in
    let taken : Clock = record { packets = clock.packets; number = c.args.number } in
    let all = clock_of (packets ++ p ∷ []) in
    let now_on = clock_more packets p c.args.number number in
    let packet = number_of packets p c.args.number number in
    let from = from_first old.start packets p c.unwrap_or-from.result time c.unwrap_or-from.ensures in
    let since_now = since start c.unwrap_or-from.result in
    let begun = subst (λ n. Follows (since start n) now clock came old.connections.table old.connections) from
    (started start now packets p came old.connections (none_came packets came old.links come) i) in
    let t = table_after no_connections packets in
    let saw = c.in_ok-take_sight.ensures.goes start now taken t come.taken came (all_earlier packets c.args.number number) refl
    (all_until packets c.args.number came old.links number come) come.linked
    (follows_later since_now now clock taken [] came old.connections.table old.connections (sym (append-nil clock.packets))
    (number_up packets c.args.number number) begun) in
    let is = subst (λ s. IsArrival t s w saw.0 saw.1) c.sight_of.ensures saw.2 in
    let linked = subst (λ s. AreLinked (after_seen t s) (come.taken ++ saw.0) run.links) c.sight_of.ensures saw.3 in
    let come_now = come_more packets p c.args.number came saw.1 old.links run.links saw.0 number come is linked in
    let came_now = came ++ saw.1 in
    let last : Run = record run { connections = c.end_quiet.new.self } in
    took_all start now (packets ++ p ∷ []) came_now last c.end_quiet.result come_now
    (subst (λ n. Goes (since start n) now all came_now last.connections.table last.connections c.end_quiet.result) (sym from)
    (c.end_quiet.ensures.goes start now all came_now (subst (λ l. Contains l w) (sym now_on) (Contains-push clock.packets w)) packet
    (all_within packets p c.args.number came_now run.links number come_now)
    (follows_later since_now now (with_packet w taken) all [] came_now run.connections.table run.connections
    (now_on ∙ sym (append-nil (with_packet w taken).packets)) (omega (arith, packet)) saw.4)))

pub returns-in_err-take_sight-clause-goes : goal.returns-in_err-take_sight-clause-goes
returns-in_err-take_sight-clause-goes c start now packets came number time come i =
    let old = c.args.self.now in
    let run = c.take_sight.new.self in
    let p = captured c.args.packet.now in
    let w : When = record { nanos = c.args.packet.now.nanos; packet = c.args.number } in
    let clock = clock_of packets in
    let taken : Clock = record { packets = clock.packets; number = c.args.number } in
    let all = clock_of (packets ++ p ∷ []) in
    let now_on = clock_more packets p c.args.number number in
    let from = from_first old.start packets p c.unwrap_or-from.result time c.unwrap_or-from.ensures in
    let since_now = since start c.unwrap_or-from.result in
    let begun = subst (λ n. Follows (since start n) now clock came old.connections.table old.connections) from
    (started start now packets p came old.connections (none_came packets came old.links come) i) in
    let t = table_after no_connections packets in
    let saw = c.in_err-take_sight.ensures.goes start now taken t come.taken came (all_earlier packets c.args.number number) refl
    (all_until packets c.args.number came old.links number come) come.linked
    (follows_later since_now now clock taken [] came old.connections.table old.connections (sym (append-nil clock.packets))
    (number_up packets c.args.number number) begun) in
    let ends = λ (l : List Arrival) (s : Stops since_now now (with_packet w taken) l run.connections).
    subst (λ n. Stops (since start n) now all l run.connections) (sym from)
    (stops_later since_now now (with_packet w taken) all [] l run.connections (now_on ∙ sym (append-nil (with_packet w taken).packets)) s) in
    let stop = err_from_is_err_and c.from_residual.result c.from_residual.ensures.1 in
    rw stop.1 (elim saw [
      | inl s ↦ (came, inr (packets, p, refl, have_come packets came old.links come), ends came s)
      | inr m ↦
          let is = subst (λ s. IsArrival t s w m.0 m.1) c.sight_of.ensures m.2 in
          let turned = subst (λ s. AreTurnedAll (after_seen t s) (come.taken ++ m.0)) c.sight_of.ensures m.3 in
          (came ++ m.1, inl (have_more packets p c.args.number came m.1 old.links m.0 number come is turned), ends (came ++ m.1) m.4)
    ])

pub returns-clause-start : goal.returns-clause-start
returns-clause-start c packets time =
    c.take_sight.ensures.start ∙ ap (λ (n : ℕ). Some n) (c.unwrap_or-from.ensures ∙ ap (λ (o : Option ℕ). unwrap_or o c.args.packet.now.nanos) time)
    ∙ sym (first_more packets (captured c.args.packet.now))

pub returns-clause-utp : goal.returns-clause-utp
returns-clause-utp c =
    let p = captured c.args.packet.now in
    let same = λ (packets : List Captured). ap (λ s. datagrams packets ++ datagrams_in s) c.sight_of.ensures ∙ sym (datagrams_more packets p) in
    ok_any c.end_quiet.result (λ packets are.
    subst (λ l. AreCounted l c.take_sight.new.self.utp) (same packets) (c.in_ok-take_sight.ensures.utp (datagrams packets) are))

pub returns-clause-skipped : goal.returns-clause-skipped
returns-clause-skipped c packets e =
    let p = captured c.args.packet.now in
    c.take_sight.ensures.skipped ∙ ap (λ s. counted (is_no_segment s) c.args.self.now.skipped) c.sight_of.ensures
    ∙ ap (counted (is_skipped p)) e ∙ sym (skipped_more packets p)

pub returns-clause-unread : goal.returns-clause-unread
returns-clause-unread c packets is =
    c.take_sight.ensures.unread (whys packets) is
    ∙ ap unread_packets (ap (λ s. whys packets ++ why_in s) c.sight_of.ensures ∙ sym (whys_more packets (captured c.args.packet.now)))
