use Rattle.std.proofs.Common.{Result, Ok, Err, refl, sym, subst, ap, ◌∙◌}
use Rattle.bt_exchange.specs.declared.talking.Step.TheVariants as step
use Rattle.bt_exchange.specs.declared.talking.Stop.{Stop}
use Rattle.bt_wire.specs.declared.context.Context.{Context}
use Rattle.bt_serve.specs.Services.{queued_by}
use Rattle.bt_serve.specs.Guests.{IsEnded, IsServed}
use Rattle.bt_serve.specs.declared.guest.Ending.TheVariants as ending
use Rattle.bt_serve.specs.declared.guest.Tally.{Tally}
use Rattle.bt_serve.proofs.Services.{moment}
use Rattle.bt_serve.proofs.Tallies.{ended_failed, ended_left, ended_unasked, heard_step, held, served_heard, served_moved, served_still, still_step}
use Rattle.bt_serve.proofs.guest.Guest.act.Goals as goal

pub returns-in-Ok-Moved-clause-stepped : goal.returns-in-Ok-Moved-clause-stepped
returns-in-Ok-Moved-clause-stepped g c = λ start k.
    let old = moment (g.L.Connection.seen c.args.self.now.link) c.args.self.now.hearing c.args.self.now.end in
    let mid = moment (g.L.Connection.seen c.advance.new.connection) c.advance.new.hearing c.advance.new.end in
    served_moved (g.L.Connection.seen c.now.new.self) c.now.result c.now.ensures
    (still_step old mid (Ok step.Moved) c.args.self.now.tally _ refl
    (rw c.in-Ok-Moved.field-0-is at c.in-Ok-Moved.ensures.advanced) (rw c.in-Ok-Moved.field-0-is at c.in-Ok-Moved.ensures.listens) refl) k

pub returns-in-Err-clause-stepped : goal.returns-in-Err-clause-stepped
returns-in-Err-clause-stepped g c = λ start k.
    let old = moment (g.L.Connection.seen c.args.self.now.link) c.args.self.now.hearing c.args.self.now.end in
    let mid = moment (g.L.Connection.seen c.advance.new.connection) c.advance.new.hearing c.advance.new.end in
    ended_failed c.in-Err.stop c.ending_of.result c.ending_of.ensures.value
    (still_step old mid (Err c.in-Err.stop) c.args.self.now.tally _ refl c.in-Err.ensures.advanced c.in-Err.ensures.listens refl) k

pub returns-then-is_piece-clause-stepped : goal.returns-then-is_piece-clause-stepped
returns-then-is_piece-clause-stepped g c = λ start k.
    let old = moment (g.L.Connection.seen c.args.self.now.link) c.args.self.now.hearing c.args.self.now.end in
    let mid = moment (g.L.Connection.seen c.advance.new.connection) c.advance.new.hearing c.advance.new.end in
    let new = moment (g.L.Connection.seen c.advance.new.connection) c.advance.new.hearing c.answer.new.end in
    let e = c.in-Ok-Handled.event in
    let n = c.queued_by.ensures ∙ ap (λ (b : Context). queued_by b e) c.belief.ensures in
    λ patience. subst (λ (t : Tally). IsEnded patience start new t ending.Unasked) (sym c.with_item-self-in-Ok-Handled.ensures)
    (ended_unasked e c.queued_by.result n (sym c.is_piece.ensures ∙ c.if-is_piece.true)
    (heard_step old mid e c.args.self.now.tally _ c.answer.new.end refl (rw c.in-Ok-Handled.field-0-is at c.in-Ok-Handled.ensures.advanced)
    (rw c.in-Ok-Handled.field-0-is at c.in-Ok-Handled.ensures.listens) c.in-Ok.ensures) k patience)

pub returns-else-is_piece-clause-stepped : goal.returns-else-is_piece-clause-stepped
returns-else-is_piece-clause-stepped g c = λ start k.
    let old = moment (g.L.Connection.seen c.args.self.now.link) c.args.self.now.hearing c.args.self.now.end in
    let mid = moment (g.L.Connection.seen c.advance.new.connection) c.advance.new.hearing c.advance.new.end in
    let new = moment (g.L.Connection.seen c.advance.new.connection) c.advance.new.hearing c.answer.new.end in
    let e = c.in-Ok-Handled.event in
    let n = c.queued_by.ensures ∙ ap (λ (b : Context). queued_by b e) c.belief.ensures in
    subst (λ (t : Tally). IsServed start new c.args.self.now.watch.since t) (sym c.with_item-self-in-Ok-Handled.ensures)
    (served_heard e c.queued_by.result n (sym c.is_piece.ensures ∙ c.if-is_piece.false)
    (heard_step old mid e c.args.self.now.tally _ c.answer.new.end refl (rw c.in-Ok-Handled.field-0-is at c.in-Ok-Handled.ensures.advanced)
    (rw c.in-Ok-Handled.field-0-is at c.in-Ok-Handled.ensures.listens) c.in-Ok.ensures) k)

pub returns-in-Ok-Waited-clause-stepped : goal.returns-in-Ok-Waited-clause-stepped
returns-in-Ok-Waited-clause-stepped g c = λ start k.
    let old = moment (g.L.Connection.seen c.args.self.now.link) c.args.self.now.hearing c.args.self.now.end in
    let mid = moment (g.L.Connection.seen c.advance.new.connection) c.advance.new.hearing c.advance.new.end in
    served_still step.Waited refl (still_step old mid (Ok step.Waited) c.args.self.now.tally _ refl
    (rw c.in-Ok-Waited.field-0-is at c.in-Ok-Waited.ensures.advanced) (rw c.in-Ok-Waited.field-0-is at c.in-Ok-Waited.ensures.listens) refl) k

pub returns-in-Ok-Held-clause-stepped : goal.returns-in-Ok-Held-clause-stepped
returns-in-Ok-Held-clause-stepped g c = λ start k.
    let old = moment (g.L.Connection.seen c.args.self.now.link) c.args.self.now.hearing c.args.self.now.end in
    let mid = moment (g.L.Connection.seen c.advance.new.connection) c.advance.new.hearing c.advance.new.end in
    served_still step.Held refl (still_step old mid (Ok step.Held) c.args.self.now.tally _ refl
    (rw c.in-Ok-Held.field-0-is at c.in-Ok-Held.ensures.advanced) (rw c.in-Ok-Held.field-0-is at c.in-Ok-Held.ensures.listens) refl) k

pub returns-in-Err-answer-clause-stepped : goal.returns-in-Err-answer-clause-stepped
returns-in-Err-answer-clause-stepped g c = λ start k.
    let old = moment (g.L.Connection.seen c.args.self.now.link) c.args.self.now.hearing c.args.self.now.end in
    let mid = moment (g.L.Connection.seen c.advance.new.connection) c.advance.new.hearing c.advance.new.end in
    let h = c.in-Err-answer.ensures in
    let new = moment (g.L.Connection.seen c.advance.new.connection) c.advance.new.hearing c.answer.new.end in
    λ patience. subst (λ (t : Tally). IsEnded patience start new t ending.Closed) (sym c.with_item-self.ensures)
    (ended_left c.in-Ok-Handled.event c.answer.new.end h.0 (rw c.in-Ok-Handled.field-0-is at c.in-Ok-Handled.ensures.advanced) h.1 k patience)
