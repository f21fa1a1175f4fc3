use Rattle.std.proofs.Common.{◌≡◌, ℕ, ◌-◌, Option, refl, sym, ap, ◌∙◌, arith}
use Rattle.bt_metadata.specs.Blocks.{window}
use Rattle.bt_end.specs.Ends.{wanted, with_asked, all_wanted}
use Rattle.bt_end.specs.Parts.{part_of}
use Rattle.bt_end.proofs.Asking.{none_queued, one_queued, nothing_queued, all_queued}
use Rattle.bt_end.proofs.reactor.Reactor.request.Goals as goal

pub requests-init : goal.requests-init
requests-init g c = none_queued c.args.self.now

pub returns-in_default : goal.returns-in_default
returns-in_default g c =
    let now = c.requests.self in
    nothing_queued c.args.self.now now c.ask.new.self c.requests._request (omega (arith, c.requests-test.true)) c.requests.invariant
    (sym c.ask.ensures.value ∙ c.in_default.is) (c.ask.ensures.state ∙ ap (λ (o : Option ℕ). with_asked o (part_of now.part)) c.in_default.is)

pub put_message-requires-clause-room : goal.put_message-requires-clause-room
put_message-requires-clause-room g c = omega (arith, c.requires.room, c.requests.invariant.room, c.requests-test.true)

pub requests-preserved : goal.requests-preserved
requests-preserved g c =
    let now = c.requests.self in
    let most = ap (λ e. e.window) c.requests.invariant.end in
    one_queued (record now { part = c.ask.new.self; outbox = c.put_message.new.outbox })
    c.requests-test.true c.requires.id.0 c.requires.id.1 c.requests.invariant
    (ap (λ (w : ℕ). wanted w (part_of now.part)) (sym most) ∙ sym c.ask.ensures.value ∙ c.in-Some.is)
    (record {
      end = refl;
      part = c.ask.ensures.state ∙ ap (λ (o : Option ℕ). with_asked o (part_of now.part)) c.in-Some.is;
      bytes = c.put_message.ensures.bytes;
      bound = c.put_message.ensures.bound;
      room = c.put_message.ensures.room;
    })

pub returns : goal.returns
returns g c =
    let none : window - c.requests._request ≡ 0 = omega (arith, c.requests-test.false) in
    all_queued c.args.self.now c.requests.self c.requests._request (omega (arith, c.requests.auto._request-end)) c.requests.invariant
    (ap (λ (n : ℕ). all_wanted n c.args.self.now.window (part_of c.requests.self.part)) none)
