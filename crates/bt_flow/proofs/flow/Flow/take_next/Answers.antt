use Rattle.std.proofs.Common.{refl, sym, subst, length, ◌∙◌, ◌+◌}
use Rattle.bt_flow.specs.Flows.{NotesFrom}
use Rattle.bt_flow.proofs.Flows.{takes_refused, takes_quiet, takes_left, takes_counted}
use Rattle.bt_flow.proofs.Streams.{nothing_after}
use Rattle.bt_flow.proofs.flow.Flow.take_next.Goals as goal

pub returns-in-Err : goal.returns-in-Err
returns-in-Err c = nothing_after c.args.later.now.items _ (λ given.
    takes_refused c.args.given.now c.args.self.now given _ refl refl c.in-Err.ensures.kept c.in-Err.ensures.refused)

pub returns-then-not-has_bytes : goal.returns-then-not-has_bytes
returns-then-not-has_bytes c = nothing_after c.args.later.now.items _ (λ given.
    takes_quiet c.args.given.now c.args.self.now given _ c.in-Ok.at refl refl c.in-Ok.ensures.taken c.in-Ok.ensures.counts
    (sym c.has_bytes.ensures ∙ c.if-not-has_bytes.true))

pub returns-then-leaves_out : goal.returns-then-leaves_out
returns-then-leaves_out c = nothing_after c.args.later.now.items _ (λ given.
    takes_left c.args.given.now c.args.self.now given
    (record { alloc = c.args.self.now.alloc; half = c.take-taken.new.self; stream = c.args.self.now.stream; noted = c.args.self.now.noted })
    c.begin.new.self c.in-Ok.at refl c.begin.ensures.noted c.begin.ensures.half c.in-Ok.ensures.taken c.in-Ok.ensures.counts
    (λ heard h. sym c.if-leaves_out.true ∙ c.leaves_out.ensures.is heard h)
    (sym c.has_bytes.ensures ∙ c.if-not-has_bytes.false) c.in_ok-begin.ensures.begins)

pub returns : goal.returns
returns c =
    let t = c.in_ok-fresh.ensures.taken in
    record {
      rest = t.rest;
      is = t.is;
      more = λ given. takes_counted c.args.given.now c.args.self.now given _
          (record {
            alloc = c.args.self.now.alloc;
            half = c.take-taken.new.self;
            stream = c.args.self.now.stream;
            noted
                = c.args.self.now.noted;
          }) c.begin.new.self c.go_on.new.self c.note.new.self c.in-Ok.at c.noted_from-from.result
          c.note.ensures.half c.note.ensures.stream
          (subst (λ was. NotesFrom was c.in-Ok.at (c.in-Ok.at + length c.args.given.now.payload.now) c.go_on.new.self.stream c.go_on.new.self.noted
          c.noted_from-from.result) c.is_lost-was_lost.ensures c.noted_from-from.ensures)
          c.in_ok-note.ensures.noted c.in_ok-note.ensures.some c.in_ok-note.ensures.full c.go_on.ensures.noted
          c.begin.ensures.noted refl c.in-Ok.ensures.taken c.in-Ok.ensures.counts
          (λ heard h. sym c.if-leaves_out.false ∙ c.leaves_out.ensures.is heard h)
          (sym c.has_bytes.ensures ∙ c.if-not-has_bytes.false) c.in_ok-begin.ensures.begins c.begin.ensures.half c.go_on.ensures.half
          t.more;
    }
