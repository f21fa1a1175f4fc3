use Rattle.std.proofs.Common.{◌≡◌, ◌∙◌, Bool, true, Option, Some, None, ap, sym, if◌then◌else◌}
use Rattle.bt_end.specs.Ends.{belief}
use Rattle.bt_end.specs.declared.event.Event.{Event}
use Rattle.bt_end.specs.declared.event.Event.TheVariants as event
use Rattle.bt_wire.specs.Messages.{Message}
use Rattle.bt_wire.specs.declared.message.Message.TheVariants as m
use Rattle.bt_serve.specs.Services.{answer_to, is_rejecting}
use Rattle.bt_serve.proofs.Answering.{answered_by}
use Rattle.bt_serve.proofs.guest.answer.Goals as goal

pub returns-then-is_rejecting : goal.returns-then-is_rejecting
returns-then-is_rejecting c =
    let a = c.args.end.now in
    let msg : Message = m.Reject c.in-Requested.index c.in-Requested.begin c.in-Requested.length in
    let rejects : is_rejecting (belief a.end) ≡ true = sym (c.is_rejecting.ensures ∙ ap is_rejecting c.belief.ensures) ∙ c.if-is_rejecting.true in
    let is : answer_to (belief a.end) c.args.event ≡ Some msg =
    ap (λ (e : Event). answer_to (belief a.end) e) c.in-Requested.is ∙ ap (λ (t : Bool). if t then Some msg else None) rejects in
    answered_by a c.say.new.self c.args.event msg c.say.result is c.say.ensures
