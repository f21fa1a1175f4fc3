use Rattle.std.proofs.Common.{◌≡◌, length, ap, sym, subst, ◌∙◌, arith}
use Rattle.std.specs.Prelude.{true}
use Rattle.std.proofs.lemmas.Grind.{common_steps}
use Rattle.bt_tcp.specs.Segments.{byte_in}
use Rattle.bt_flow.specs.Memory as ring
use Rattle.bt_flow.specs.Pages.{byte_of}
use Rattle.bt_flow.specs.Views.{HandsOut}
use Rattle.bt_flow.specs.Wide.{either_of, next_of, seen, TakesAll}
use Rattle.bt_flow.proofs.WideProofs.{Merges, none_after, among_taken}
use Rattle.bt_flow.proofs.wide.WideWindow.take_among.Goals as goal

pub drain-requires-clause-none : goal.drain-requires-clause-none
drain-requires-clause-none c =
    let w = c.args.self.now.window in
    let after = c.put_through.new.self in
    let e : c.in_ok-put_through.field-0 ≡ true = grind (arith, common_steps) in
    let put = subst (λ o. TakesAll c.args.at c.deref.result.now (ring.next_of w) (ring.seen w) c.args.later.now.items o (ring.next_of after.window)
    (ring.seen after.window) c.put_through.new.later.items) e c.in_ok-put_through.ensures.put in
    none_after c.args.at c.deref.result.now w put.more (ring.next_of after.window) (ring.seen after.window) put.taken

pub returns-clause-taken : goal.returns-clause-taken
returns-clause-taken c =
    let w = c.args.self.now.window in
    let after = c.put_through.new.self in
    let far = byte_of c.args.self.now.far.pages in
    let e : c.in_ok-put_through.field-0 ≡ true = grind (arith, common_steps) in
    let put = subst (λ o. TakesAll c.args.at c.deref.result.now (ring.next_of w) (ring.seen w) c.args.later.now.items o (ring.next_of after.window)
    (ring.seen after.window) c.put_through.new.later.items) e c.in_ok-put_through.ensures.put in
    let v = c.deref.ensures.value in
    among_taken c.args.at c.args.part.now c.deref.result.now w far c.args.later.now.items (ring.next_of after.window) (ring.seen after.window)
    c.put_through.new.later.items (next_of c.drain.new.self) (seen c.drain.new.self) c.drain.new.later.items (ap length v ∙ c.in_ok-all.ensures.len)
    (subst (λ xs. Merges (record { place = c.args.at; bytes = xs }) far (byte_in (record { place = c.args.at; bytes = c.args.part.now }))) (sym v)
    c.in_ok-all.ensures.first) put
    (subst (λ f. HandsOut (next_of after) (either_of (ring.seen after.window) (byte_of f.pages) (next_of after)) c.put_through.new.later.items
    (next_of c.drain.new.self) (seen c.drain.new.self) c.drain.new.later.items) c.in_ok-put_through.ensures.far c.in_ok-drain.ensures.drained)
