-- What a sender takes its peer to be.
use Rattle.bt_ext.specs.Tables.{Entries, told_ids}
use Rattle.bt_wire.specs.declared.context.Context.{Context}
use Rattle.bt_wire.specs.declared.context.Own.{Own}
use Rattle.bt_wire.specs.declared.reserved.Reserved.{Reserved}
use Rattle.bt_wire.specs.Handshakes.{negotiated}

-- the context in which a peer receives that agreed on `agreed` and told `table`: the sender's own piece count, rules and limit,
-- and the peer's ids of extensions (BEP 10)
abbrev pub believed : Own → Context → Entries → Context
believed own agreed table = record {
  fast = agreed.fast;
  ext = agreed.ext;
  pieces = own.pieces;
  reg = told_ids table;
  rules = own.rules;
  limit = own.limit;
}

-- of a peer whose handshake has the reserved bits `theirs`
abbrev pub peer_context : Own → Reserved → Entries → Context
peer_context own theirs table = believed own (negotiated own theirs) table
