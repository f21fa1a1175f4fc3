use Rattle.bt_feed.proofs.JudgedItems.{handshake_known, message_known, handshake_given, message_given}
use Rattle.bt_feed.proofs.stage.Stage.view_judged.Goals as goal

pub handshake_judged-requires : goal.handshake_judged-requires
handshake_judged-requires c = handshake_known _ _ _ _ c.in-Handshake.is c.requires

pub returns-in-Handshake : goal.returns-in-Handshake
returns-in-Handshake c = handshake_given _ _ _ _ c.in-Handshake.is c.handshake_judged.ensures

pub view_judged-requires : goal.view_judged-requires
view_judged-requires c = message_known _ _ _ _ _ _ _ c.in-Message.is c.requires

pub returns-in-Message : goal.returns-in-Message
returns-in-Message c = message_given _ _ _ _ _ _ _ c.in-Message.is c.view_judged.ensures
