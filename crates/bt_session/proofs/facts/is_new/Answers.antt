use Rattle.bt_session.proofs.NewEnds.{new_of}
use Rattle.bt_session.proofs.facts.is_new.Goals as goal

pub returns : goal.returns
returns c e = new_of c.args.config.now c.is_twenty.ensures c.is_wide.ensures c.has_length.ensures c.has_metadata_byte.ensures c.has_donthave_byte.ensures e
