-- What an end that serves says at a request for a block of a piece.
use Rattle.std.proofs.Common.{◌≡◌, Bool, true, Option, Some, None, Result, Ok, Err, refl, sym, ap, subst, ◌∙◌}
use Rattle.bt_wire.specs.Messages.{Message}
use Rattle.bt_end.specs.Ends.{belief}
use Rattle.bt_end.specs.Halves.{HalfState, IsSaid}
use Rattle.bt_end.specs.declared.end.SayError.{SayError}
use Rattle.bt_end.specs.declared.end.SayError.TheVariants as say_error
use Rattle.bt_end.specs.declared.event.Event.{Event}
use Rattle.bt_serve.specs.Services.{IsAnswered, answer_to, said}

-- what can't be said changes nothing
said_same : (a b : HalfState) (msg : Message) (e : SayError) → IsSaid a msg (Err e) b → b ≡ a
said_same a b msg (say_error.Illegal f) h = h.2
said_same a b msg say_error.Memory h = h.1
said_same a b msg say_error.NotOpen h = h.1
said_same a b msg say_error.Busy h = h.1
said_same a b msg say_error.Extended h = h.1
said_same a b msg say_error.PiecesUnknown h = h.1

pub answered_by : (a b : HalfState) (e : Event) (msg : Message) (r : Result (Unit {0}) SayError) → answer_to (belief a.end) e ≡ Some msg → IsSaid a msg r b
    → IsAnswered a e r b
answered_by a b e msg (Ok x) is h = h.1 ∙ ap (λ (o : Option Message). said o a) (sym is)
answered_by a b e msg (Err q) is h =
    let same : b ≡ a = said_same a b msg q h in
    (same, (msg, is, (q, subst (λ (x : HalfState). IsSaid a msg (Err q) x) same h)))
