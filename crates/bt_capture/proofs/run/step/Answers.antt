use Rattle.std.proofs.Common.{rules, ◌∙◌, [], ◌∷◌, ◌++◌}
use Rattle.bt_pcap.specs.Steps.{captured}
use Rattle.bt_capture.proofs.Outcomes.{read_packet, read_quiet, hands_none, hands_some, hands_fault, hands_more, hands_faulty}
use Rattle.bt_capture.proofs.Outcomes.{advances_packet, told_read, next_number, given_up}
use Rattle.bt_capture.proofs.run.step.Goals as goal

pub returns-in-Ok-clause-after : goal.returns-in-Ok-clause-after
returns-in-Ok-clause-after c o left now i =
    let p = captured c.in-Ok-Some.packet in
    let number = next_number i.packets i.read.all c.args.packets.now c.packets.result c.saturating_add-number.result i.read.reading c.packets.ensures
    c.saturating_add-number.ensures in
    let goes = hands_some c.args.packets.now _ c.take.result c.in-Ok-Some.packet (search rules) c.take.follows.holds-at-none.0 in
    let took = c.in-Ok.ensures.goes o.target now i.packets i.came number i.time i.come i.follows in
    record {
      packets = i.packets ++ p ∷ [];
      read = read_packet o left i.packets (p ∷ []) c.args.packets.now _ goes i.read;
      asked = c.take-in-Ok-Some.ensures.asked ∙ i.asked;
      time = c.take-in-Ok-Some.ensures.start i.packets i.time;
      came = took.0;
      come = took.1;
      follows = took.2;
      utp = c.in-Ok.ensures.utp i.packets i.utp;
      skipped = c.take-in-Ok-Some.ensures.skipped i.packets i.skipped;
      unread = c.take-in-Ok-Some.ensures.unread i.packets i.unread;
    }

pub returns-in-Err-take-clause-after : goal.returns-in-Err-take-clause-after
returns-in-Err-take-clause-after c o left now i =
    let p = captured c.in-Ok-Some.packet in
    let number = next_number i.packets i.read.all c.args.packets.now c.packets.result c.saturating_add-number.result i.read.reading c.packets.ensures
    c.saturating_add-number.ensures in
    let goes = hands_some c.args.packets.now _ c.take.result c.in-Ok-Some.packet (search rules) c.take.follows.holds-at-none.0 in
    let took = c.in-Err-take.ensures.goes o.target now i.packets i.came number i.time i.come i.follows in
    given_up o left now (i.packets ++ p ∷ []) took.0 c.take-in-Ok-Some.new.self.connections _
    (read_packet o left i.packets (p ∷ []) c.args.packets.now _ goes i.read) took.1 (c.take-in-Ok-Some.ensures.asked ∙ i.asked) took.2

pub returns-in-Ok-None-clause-after : goal.returns-in-Ok-None-clause-after
returns-in-Ok-None-clause-after c o left now i =
    let goes = hands_none c.args.packets.now _ c.take.result (search rules) c.take.follows.holds-at-none.0 in
    told_read o left left now c.args.run.now.connections.table c.args.run.now c.args.packets.now _ (λ packets h. read_quiet o left packets c.args.packets.now _ goes h) i

pub returns-in-Err-clause-after : goal.returns-in-Err-clause-after
returns-in-Err-clause-after c o left now i =
    let goes = hands_fault c.args.packets.now _ c.take.result c.in-Err.fault (search rules) c.take.follows.holds-at-none.0 in
    told_read o left left now c.args.run.now.connections.table c.args.run.now c.args.packets.now _ (λ packets h. read_quiet o left packets c.args.packets.now _ goes h) i

pub returns-in-Ok-None-clause-waits : goal.returns-in-Ok-None-clause-waits
returns-in-Ok-None-clause-waits c e = hands_more c.args.packets.now _ c.take.result (search rules) c.take.follows.holds-at-none.0

pub returns-in-Err-clause-why : goal.returns-in-Err-clause-why
returns-in-Err-clause-why c = hands_faulty c.args.packets.now _ c.take.result c.in-Err.fault (search rules) c.take.follows.holds-at-none.0

pub returns-in-Ok-clause-advances : goal.returns-in-Ok-clause-advances
returns-in-Ok-clause-advances c e =
    let goes = hands_some c.args.packets.now _ c.take.result c.in-Ok-Some.packet (search rules) c.take.follows.holds-at-none.0 in
    advances_packet c.args.packets.now _ (captured c.in-Ok-Some.packet) goes

pub returns-in-Ok-None-clause-stays : goal.returns-in-Ok-None-clause-stays
returns-in-Ok-None-clause-stays c e = hands_none c.args.packets.now _ c.take.result (search rules) c.take.follows.holds-at-none.0
