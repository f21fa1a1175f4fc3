use Rattle.std.proofs.Common.{rules}
use Rattle.bt_intro.proofs.listener.ListenerSink.item.Goals as goal

pub returns-after-is_none-3-clause-items : goal.returns-after-is_none-3-clause-items
returns-after-is_none-3-clause-items c = record {
  handshake = search rules;
  metadata = search rules;
  donthave = search rules;
  extended = search rules;
  client = search rules;
  items = search rules;
}
