use Rattle.std.proofs.Common.{refl}
use Rattle.bt_flow.proofs.Filled.{fills_both}
use Rattle.bt_flow.proofs.Notes.{notes_both}
use Rattle.bt_flow.proofs.noted.Noted.note.Goals as goal

pub returns-clause-noted : goal.returns-clause-noted
returns-clause-noted c = notes_both (record { from = c.args.base; to = c.args.next }) (record { from = c.args.from; to = c.args.to }) c.args.self.now
    c.add.new.self c.add-2.new.self c.add.ensures.noted c.add-2.ensures.noted

pub returns-clause-some : goal.returns-clause-some
returns-clause-some c = (_, c.add.new.self.apart, c.add.ensures.some, c.add-2.ensures.some)

pub returns-clause-full : goal.returns-clause-full
returns-clause-full c = fills_both c.add.new.self.is_full (record { from = c.args.base; to = c.args.next }) (record { from = c.args.from; to = c.args.to })
    c.args.self.now c.add.new.self c.add-2.new.self refl c.add.ensures.noted c.add.ensures.full c.add-2.ensures.full
