use Rattle.std.proofs.Common.{◌∙◌, ◌++◌, [], take, Ok, Err, refl, sym, subst, inl, inr, arith, append_assoc, length-take, length, rules}
use Rattle.std.proofs.KnownBytes.{Consumes-nil, Consumes-trans, Consumes-kept}
use Rattle.std.proofs.lemmas.Bool.{ne_eqb}
use Rattle.std.proofs.lemmas.List.{append-nil}
use Rattle.std.specs.Io.KnownBytes.{Consumes}
use Rattle.bt_feed.specs.Feeds.{FeedState}
use Rattle.bt_feed.specs.declared.pumping.PumpError.TheVariants as error
use Rattle.bt_feed.specs.Pumps.{IsFed, IsPumpEnd, IsPieceEnd}
use Rattle.bt_feed.proofs.Moving.{took_both, given_more, given_end, fed_none, fed_both, fed_on, stopped_by, not_at_end, ended_open, open_to, ended_last}
use Rattle.bt_feed.proofs.Moving.{sink_fault, no_sink_fault}
use Rattle.bt_feed.proofs.Shares.{counted_reads, counted_more, not_read, read_more}
use Rattle.bt_feed.proofs.pumping.pump_with.Goals as goal

pub returns-in-Err-clause-moved : goal.returns-in-Err-clause-moved
returns-in-Err-clause-moved g c =
    let p = c.in-Err.ensures.items in
    let stop = stopped_by c.args.feed.now c.args.feed.now c.pump_piece.new.feed [] [] [] p.0 c.in-Err.error (fed_none c.args.feed.now)
    c.in-Err.ensures.limit p.2 in
    let left = (g.R.Source.seen c.args.reader.now).left in (
      stop.bytes,
      stop.lost,
      p.0,
      subst (Consumes left left) stop.parts (Consumes-nil left),
      given_more (Unit {0}) g.S.Sink.takes g.S.Sink.misses _ _ _ []
          p.0 c.in-Err.error refl p.1,
      stop.end,
      omega (arith, stop.few),
    )

pub returns-in-Err-clause-end : goal.returns-in-Err-clause-end
returns-in-Err-clause-end g c = λ e. let p = c.in-Err.ensures.items in absurd (not_at_end c.args.feed.now c.pump_piece.new.feed [] p.0 c.in-Err.error p.2 e)

pub returns-in-Ok-eq0-default-clause-moved : goal.returns-in-Ok-eq0-default-clause-moved
returns-in-Ok-eq0-default-clause-moved g c =
    let m = c.loop-turn.invariant.moved in
    let none = c.in-Ok-eq0-default.ensures.none c.in-Ok-eq0-default.field-0-0-test in
    let feed = c.read_once.new.feed in
    let P : FeedState → Type 0 = λ f. IsFed c.args.feed.now m.0 m.1 f in (
      m.0,
      [],
      m.1,
      Consumes-trans _ _ _ m.0 [] m.2 none.1,
      given_end g.S.Sink.takes g.S.Sink.misses _ _ m.1 feed c.end.result c.end.ensures.end m.3,
      ended_last c.args.feed.now feed m.0 m.1 c.end.result (subst P (sym none.0) m.4) c.end.ensures.end,
      omega arith,
    )

pub returns-in-Ok-eq0-default-clause-inside : goal.returns-in-Ok-eq0-default-clause-inside
returns-in-Ok-eq0-default-clause-inside g c = λ h. absurd (h c.end.ensures.end.at_end)

pub returns-in-Err-pump_piece-clause-moved : goal.returns-in-Err-pump_piece-clause-moved
returns-in-Err-pump_piece-clause-moved g c =
    let m = c.loop-turn.invariant.moved in
    let w = c.in-Ok.ensures.some.2 in
    let p = c.in-Err-pump_piece.ensures.items in
    let piece = take c.in-Ok.count c.read_once.new.buffer in
    let fed = fed_on c.args.feed.now c.loop-turn.feed c.read_once.new.feed m.0 w.0 m.1 m.4 w.1 in
    let stop = stopped_by c.args.feed.now c.read_once.new.feed c.pump_piece-in-Ok.new.feed (m.0 ++ w.0) piece m.1 p.0 c.in-Err-pump_piece.error fed
    c.in-Err-pump_piece.ensures.limit p.2 in
    let left = (g.R.Source.seen c.args.reader.now).left in
    let left' = (g.R.Source.seen c.read_once.new.reader).left in (
      stop.bytes,
      stop.lost,
      m.1 ++ p.0,
      subst (Consumes left left') (sym (append_assoc m.0 w.0 piece) ∙ stop.parts)
          (Consumes-trans _ _ _ m.0 (w.0 ++ piece) m.2 w.2),
      given_more (Unit {0}) g.S.Sink.takes g.S.Sink.misses _ _ _ m.1 p.0 c.in-Err-pump_piece.error m.3
          p.1,
      stop.end,
      omega (arith, stop.few, length-take c.in-Ok.count c.read_once.new.buffer, c.in-Ok.ensures.some.1, c.loop-turn.invariant.size),
    )

pub returns-in-Err-pump_piece-clause-end : goal.returns-in-Err-pump_piece-clause-end
returns-in-Err-pump_piece-clause-end g c = λ e.
    let p = c.in-Err-pump_piece.ensures.items in
    absurd (not_at_end c.read_once.new.feed c.pump_piece-in-Ok.new.feed (take c.in-Ok.count c.read_once.new.buffer) p.0 c.in-Err-pump_piece.error p.2 e)

pub returns-in-Err-read_once-clause-moved : goal.returns-in-Err-read_once-clause-moved
returns-in-Err-read_once-clause-moved g c =
    let m = c.loop-turn.invariant.moved in
    let feed = c.read_once.new.feed in
    let same = c.in-Err-read_once.ensures.err.0 in
    let o = ended_open c.args.feed.now c.loop-turn.feed m.0 m.1 m.4 c.loop-turn.invariant.limit c.loop-turn.invariant.waits in
    let left = (g.R.Source.seen c.args.reader.now).left in
    let left' = (g.R.Source.seen c.read_once.new.reader).left in
    let P : FeedState → Type 0 = λ f. IsPumpEnd c.args.feed.now m.0 [] m.1 f (Err error.ReadFault) in (
      m.0,
      [],
      m.1,
      subst (Consumes left left') (sym (append-nil m.0)) (Consumes-kept _ _ _ m.0 m.2 c.in-Err-read_once.ensures.err.1),
      m.3,
      subst P (sym same) (o.0, o.1, refl, o.2),
      omega arith,
    )

pub loop-turn-preserved : goal.loop-turn-preserved
loop-turn-preserved g c =
    let m = c.loop-turn.invariant.moved in
    let w = c.in-Ok.ensures.some.2 in
    let piece = take c.in-Ok.count c.read_once.new.buffer in
    let done : IsPieceEnd c.read_once.new.feed piece c.in_default-pump_piece.ensures.items.0 c.pump_piece-in-Ok.new.feed
    (Ok c.in_default-pump_piece.field-0) = c.in_default-pump_piece.ensures.items.2 in
    let xs = c.in_default-pump_piece.ensures.items.0 in
    let fed = fed_on c.args.feed.now c.loop-turn.feed c.read_once.new.feed m.0 w.0 m.1 m.4 w.1 in
    record {
      failed = c.in-Ok.ensures.failed ∙ c.loop-turn.invariant.failed;
      ends = rw (ne_eqb c.in-Ok.field-0-0 0 c.in-Ok.field-0-0-test.1) at c.in-Ok.ensures.ends ∙ c.loop-turn.invariant.ends;
      calm = c.in_default-pump_piece.ensures.quiet (λ h. h) ∙ c.loop-turn.invariant.calm;
      reads = omega (arith, c.in-Ok.ensures.reads, c.loop-turn.invariant.reads);
      limit = c.in_default-pump_piece.ensures.limit;
      waits = done.1;
      size = c.in-Ok.ensures.some.1 ∙ c.loop-turn.invariant.size;
      share = read_more (length c.args.buffer.now) c.loop-turn._turn (length c.loop-turn.buffer) _ (g.R.Source.seen c.loop-turn.reader).left _
          c.loop-turn.invariant.share c.read_once.ensures.consumed c.loop-turn.invariant.size;
      moved = (
        (m.0 ++ w.0) ++ piece,
        m.1 ++ xs,
        subst (Consumes _ _) (sym (append_assoc m.0 w.0 piece)) (Consumes-trans _ _ _ m.0 (w.0 ++ piece) m.2 w.2),
        took_both _ _ _ _ m.1 xs m.3 c.in_default-pump_piece.ensures.items.1,
        fed_both c.args.feed.now c.read_once.new.feed c.pump_piece-in-Ok.new.feed
            (m.0 ++ w.0) piece m.1 xs fed done.0,
      );
    }

pub returns-clause-moved : goal.returns-clause-moved
returns-clause-moved g c =
    let m = c.loop-turn.invariant.moved in
    let o = ended_open c.args.feed.now c.loop-turn.feed m.0 m.1 m.4 c.loop-turn.invariant.limit c.loop-turn.invariant.waits in
    let left = (g.R.Source.seen c.args.reader.now).left in
    let left' = (g.R.Source.seen c.loop-turn.reader).left in
    (m.0, [], m.1, subst (Consumes left left') (sym (append-nil m.0)) m.2, m.3, (o.0, o.1, refl, o.2), omega arith)

pub returns-in-Err-clause-quiet : goal.returns-in-Err-clause-quiet
returns-in-Err-clause-quiet g c = λ h. c.in-Err.ensures.quiet (λ k. h (sink_fault c.in-Err.error k))

pub returns-in-Err-pump_piece-clause-quiet : goal.returns-in-Err-pump_piece-clause-quiet
returns-in-Err-pump_piece-clause-quiet g c = λ h. c.in-Err-pump_piece.ensures.quiet (λ k. h (sink_fault c.in-Err-pump_piece.error k))
    ∙ c.loop-turn.invariant.calm

pub returns-in-Ok-eq0-default-clause-read : goal.returns-in-Ok-eq0-default-clause-read
returns-in-Ok-eq0-default-clause-read g c = search rules

pub returns-in-Err-clause-needed : goal.returns-in-Err-clause-needed
returns-in-Err-clause-needed g c = inl refl

pub returns-in-Ok-eq0-default-clause-needed : goal.returns-in-Ok-eq0-default-clause-needed
returns-in-Ok-eq0-default-clause-needed g c =
    let m = c.loop-turn.invariant.moved in
    inr (
      c.loop-turn.reader,
      open_to c.args.feed.now c.loop-turn.feed (g.R.Source.seen c.args.reader.now) (g.R.Source.seen c.loop-turn.reader) m.0 m.1 m.4
          c.loop-turn.invariant.limit c.loop-turn.invariant.waits m.2,
      omega (arith, c.in-Ok-eq0-default.ensures.reads),
    )

pub returns-in-Err-pump_piece-clause-needed : goal.returns-in-Err-pump_piece-clause-needed
returns-in-Err-pump_piece-clause-needed g c =
    let m = c.loop-turn.invariant.moved in
    inr (
      c.loop-turn.reader,
      open_to c.args.feed.now c.loop-turn.feed (g.R.Source.seen c.args.reader.now) (g.R.Source.seen c.loop-turn.reader) m.0 m.1 m.4
          c.loop-turn.invariant.limit c.loop-turn.invariant.waits m.2,
      omega (arith, c.in-Ok.ensures.reads),
    )

pub returns-in-Err-read_once-clause-needed : goal.returns-in-Err-read_once-clause-needed
returns-in-Err-read_once-clause-needed g c =
    let m = c.loop-turn.invariant.moved in
    inr (
      c.loop-turn.reader,
      open_to c.args.feed.now c.loop-turn.feed (g.R.Source.seen c.args.reader.now) (g.R.Source.seen c.loop-turn.reader) m.0 m.1 m.4
          c.loop-turn.invariant.limit c.loop-turn.invariant.waits m.2,
      omega (arith, c.in-Err-read_once.ensures.reads),
    )

pub returns-clause-needed : goal.returns-clause-needed
returns-clause-needed g c =
    let m = c.loop-turn.invariant.moved in
    inr (
      c.loop-turn.reader,
      open_to c.args.feed.now c.loop-turn.feed (g.R.Source.seen c.args.reader.now) (g.R.Source.seen c.loop-turn.reader) m.0 m.1 m.4
          c.loop-turn.invariant.limit c.loop-turn.invariant.waits m.2,
      omega arith,
    )

pub returns-in-Err-clause-share : goal.returns-in-Err-clause-share
returns-in-Err-clause-share g c = not_read (length c.args.buffer.now) (g.R.Source.seen c.args.reader.now)

pub returns-in-Ok-eq0-default-clause-share : goal.returns-in-Ok-eq0-default-clause-share
returns-in-Ok-eq0-default-clause-share g c =
    counted_more (length c.args.buffer.now) c.loop-turn._turn (length c.loop-turn.buffer) (g.R.Source.seen c.args.reader.now) (g.R.Source.seen c.loop-turn.reader)
    (g.R.Source.seen c.read_once.new.reader) c.loop-turn.invariant.reads.0 c.read_once.ensures.reads c.loop-turn.invariant.share c.read_once.ensures.consumed c.loop-turn.invariant.size

pub returns-in-Err-pump_piece-clause-share : goal.returns-in-Err-pump_piece-clause-share
returns-in-Err-pump_piece-clause-share g c =
    counted_more (length c.args.buffer.now) c.loop-turn._turn (length c.loop-turn.buffer) (g.R.Source.seen c.args.reader.now) (g.R.Source.seen c.loop-turn.reader)
    (g.R.Source.seen c.read_once.new.reader) c.loop-turn.invariant.reads.0 c.read_once.ensures.reads c.loop-turn.invariant.share c.read_once.ensures.consumed c.loop-turn.invariant.size

pub returns-in-Err-read_once-clause-share : goal.returns-in-Err-read_once-clause-share
returns-in-Err-read_once-clause-share g c =
    counted_more (length c.args.buffer.now) c.loop-turn._turn (length c.loop-turn.buffer) (g.R.Source.seen c.args.reader.now) (g.R.Source.seen c.loop-turn.reader)
    (g.R.Source.seen c.read_once.new.reader) c.loop-turn.invariant.reads.0 c.read_once.ensures.reads c.loop-turn.invariant.share c.read_once.ensures.consumed c.loop-turn.invariant.size

pub returns-clause-share : goal.returns-clause-share
returns-clause-share g c =
    counted_reads (length c.args.buffer.now) c.loop-turn._turn (g.R.Source.seen c.args.reader.now) (g.R.Source.seen c.loop-turn.reader) c.loop-turn.invariant.reads.0
    c.loop-turn.invariant.share

pub returns-in-Err-clause-emptied : goal.returns-in-Err-clause-emptied
returns-in-Err-clause-emptied g c = λ h. c.in-Err.ensures.emptied (no_sink_fault c.in-Err.error h)

pub returns-in-Err-pump_piece-clause-emptied : goal.returns-in-Err-pump_piece-clause-emptied
returns-in-Err-pump_piece-clause-emptied g c = λ h. c.in-Err-pump_piece.ensures.emptied (no_sink_fault c.in-Err-pump_piece.error h)
