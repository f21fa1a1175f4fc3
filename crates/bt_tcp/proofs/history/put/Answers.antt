use Rattle.std.proofs.Common.{◌+◌, ◌%◌, ap}
use Rattle.bt_tcp.proofs.HistoryProofs.{history-more}
use Rattle.bt_tcp.proofs.history.put.Goals as goal

pub returns : goal.returns
returns c = λ out n h.
    let e = ap (λ x. (x + c.saturating_sub-passed.result) % 16384) n in
    history-more c.args.memory.now c.copy.new.memory c.copy-2.new.memory out c.args.bytes.now c.split_at.result.1.now
    c.split_at-2.result.0.now c.split_at-2.result.1.now c.saturating_sub-passed.result ((c.args.offset + c.saturating_sub-passed.result) % 16384) c.min.result h
    c.saturating_sub-passed.ensures c.split_at.ensures.back e c.min.ensures c.split_at-2.ensures.front c.split_at-2.ensures.back
    c.copy.ensures c.copy-2.ensures
