use Rattle.std.proofs.Common.{◌+◌, ◌∙◌, ◌++◌, ◌∷◌, ℕ, [], length, refl, ap, arith, length-drop}
use Rattle.std.specs.Prelude.{Result, is_err}
use Rattle.bt_io.specs.Counts.{counted}
use Rattle.bt_feed.specs.declared.sink.SinkFault.{SinkFault}
use Rattle.bt_wire.specs.declared.item.Item.{Item}
use Rattle.bt_wire.specs.declared.item.Item.TheVariants as items
use Rattle.bt_feed.proofs.Passed.{passed_none, passed_more, taken_at, missed_at, handed_all, handed_more}
use Rattle.bt_feed.proofs.passing.pass_messages.Goals as goal

pub messages-init : goal.messages-init
messages-init g c = record {
  within = omega arith;
  start = omega (arith, c.requires.start);
  count = omega arith;
  taken = refl;
  quiet = refl;
  moved = λ n. ([], refl, passed_none c.args.context.now c.args.order c.args.start n c.args.piece.now);
}

pub returns-in-Err-clause-items : goal.returns-in-Err-clause-items
returns-in-Err-clause-items g c = λ n.
    let h = c.messages.invariant.moved n in
    let k = c.in-Some.given.bytes in
    let some = c.in-Some.ensures.some in
    let p = some.1 in
    let x : ℕ × Item = (c.args.start + c.messages.passed.bytes, items.Message some.0) in
    let fed = passed_more c.messages.passed.bytes c.messages.passed.messages c.args.piece.now
    c.suffix-rest.ensures refl h.2 c.if-at-ge-END.false c.requires.limit p.within p.read in (
      h.0 ++ x ∷ [],
      (
        h.0,
        x,
        c.messages.sink,
        refl,
        handed_all _ g.S.Sink.misses _ _ h.0 _ c.messages.invariant.taken h.1,
        missed_at g.S.Sink.takes g.S.Sink.misses _ _ x c.in-Some.given.taken _ c.in-Err.is some.2,
      ),
      rw (p.leaves) fed,
    )

pub messages-preserved : goal.messages-preserved
messages-preserved g c =
    let k = c.in-Some.given.bytes in
    let some = c.in-Some.ensures.some in
    let p = some.1 in
    record {
      within = omega (arith, p.within, ap (length {A = ℕ}) c.suffix-rest.ensures, length-drop c.messages.passed.bytes c.args.piece.now);
      start = omega (arith, c.if-at-ge-END.false, p.most, c.requires.limit);
      count = omega (arith, c.messages.invariant.count, p.least);
      taken = c.messages.invariant.taken;
      quiet = c.in-Some.ensures.failed
          ∙ ap (λ (r : Result (Unit {0}) SinkFault). counted (is_err r) (g.S.Sink.failed c.messages.sink)) c.in-Ok.is ∙ c.messages.invariant.quiet;
      moved = λ n.
          let h = c.messages.invariant.moved n in
          let x : ℕ × Item = (c.args.start + c.messages.passed.bytes, items.Message some.0) in
          let fed = passed_more c.messages.passed.bytes c.messages.passed.messages c.args.piece.now
          c.suffix-rest.ensures refl h.2 c.if-at-ge-END.false c.requires.limit p.within p.read in (
            h.0 ++ x ∷ [],
            handed_more _ g.S.Sink.misses _ _ _ h.0 x _ c.messages.invariant.taken h.1
                (taken_at g.S.Sink.takes g.S.Sink.misses _ _ x c.in-Some.given.taken c.in-Ok.is some.2),
            rw (p.leaves) fed,
          );
    }

pub returns-in-None-clause-items : goal.returns-in-None-clause-items
returns-in-None-clause-items g c = λ n.
    let h = c.messages.invariant.moved n in (h.0, rw (c.in-None.ensures.none) h.1, h.2)
