use Rattle.bt_wire.proofs.JudgedLaws.{same_handshake, handshake_long}
use Rattle.bt_wire.proofs.handshake.handshake_judged.Goals as goal

pub fields_in-requires : goal.fields_in-requires
fields_in-requires c = handshake_long _ c.requires.0 c.requires.1 c.requires.2

pub returns : goal.returns
returns c = λ other is e. same_handshake _ _ other c.fields_in.ensures.small c.fields_in.ensures.reserved c.fields_in.ensures.info_hash
    c.fields_in.ensures.peer_id is e
