use Rattle.std.proofs.Common.{arith, subst}
use Rattle.bt_packet.specs.Utp.{utp_packet}
use Rattle.bt_utp.specs.Taken.{TurnsEntry}
use Rattle.bt_utp.proofs.Entering.{written}
use Rattle.bt_utp.proofs.entries.Entries.turn.Goals as goal

pub invariant_of-self-in-Err-1 : goal.invariant_of-self-in-Err-1
invariant_of-self-in-Err-1 c =
    let s = c.args.self.now in
    let w = written c.args.connection.now c.in-Some.entry.now c.turn.new.self s.map.entries _ c.in-Some.ensures.value
    (c.get_mut.follows.holds c.turn.new.self).0 in
    let stays = c.in-Err.ensures.err in
    record { sums = omega (arith, w.sums, stays.initiator.counted, stays.acceptor.counted, s.sums); bound = s.bound }

pub returns-in-Err-clause-err : goal.returns-in-Err-clause-err
returns-in-Err-clause-err c =
    let s = c.args.self.now in
    let w = written c.args.connection.now c.in-Some.entry.now c.turn.new.self s.map.entries _ c.in-Some.ensures.value
    (c.get_mut.follows.holds c.turn.new.self).0 in
    record {
      entry = c.in-Some.entry.now;
      entry' = c.turn.new.self;
      there = w.there;
      same = c.in-Err.ensures.same;
      stays = c.in-Err.ensures.err;
      puts = w.puts;
      live = w.live;
    }

pub invariant_of-self-in-Ok : goal.invariant_of-self-in-Ok
invariant_of-self-in-Ok c =
    let s = c.args.self.now in
    let w = written c.args.connection.now c.in-Some.entry.now c.turn.new.self s.map.entries _ c.in-Some.ensures.value
    (c.get_mut.follows.holds c.turn.new.self).0 in
    let before = c.counted-before.ensures.is in
    let after = c.counted.ensures.is in
    record {
      sums = omega (arith, w.sums, w.least, before, after, s.sums);
      bound = omega (arith, w.sums, w.least, before, after, s.sums, c.in-Ok.ensures.counted, s.bound);
    }

pub returns-in-Ok-clause-some : goal.returns-in-Ok-clause-some
returns-in-Ok-clause-some c =
    let s = c.args.self.now in
    let d = utp_packet c.args.datagram.now in
    let w = written c.args.connection.now c.in-Some.entry.now c.turn.new.self s.map.entries _ c.in-Some.ensures.value
    (c.get_mut.follows.holds c.turn.new.self).0 in
    record {
      entry = c.in-Some.entry.now;
      entry' = c.turn.new.self;
      there = w.there;
      turns = subst (λ r. TurnsEntry d r c.turn.new.bytes.items c.in-Ok.told c.in-Some.entry.now c.turn.new.self) c.room-room.ensures c.in-Ok.ensures.ok;
      puts = w.puts;
      live = w.live;
    }
