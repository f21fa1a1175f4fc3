use Rattle.std.proofs.Common.{ap, ◌∙◌, not}
use Rattle.bt_ext.proofs.Names.{known, added}
use Rattle.bt_ext.proofs.told.add_name.Goals as goal

pub returns-clause-new : goal.returns-clause-new
returns-clause-new g c = c.in_ok-new.ensures.added ∙ ap not (known c.args.name c.args.names.now.keys)

pub returns-clause-adds : goal.returns-clause-adds
returns-clause-adds g c = λ other. rw c.in_ok-new.ensures.keys (added c.args.name c.args.names.now.keys other)
