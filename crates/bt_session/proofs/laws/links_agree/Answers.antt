use Rattle.bt_session.proofs.Links.{byte_link_is_message_link, message_link_is_byte_link}
use Rattle.bt_session.proofs.laws.links_agree.Goals as goal

pub returns-clause-bytes : goal.returns-clause-bytes
returns-clause-bytes c = byte_link_is_message_link

pub returns-clause-messages : goal.returns-clause-messages
returns-clause-messages c = message_link_is_byte_link
