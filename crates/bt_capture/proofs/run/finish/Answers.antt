use Rattle.std.proofs.Common.{◌≡◌, ◌∙◌, List, [], ◌∷◌, length, sym, subst}
use Rattle.std.proofs.lemmas.List.{nil_from_length}
use Rattle.std.proofs.lemmas.Result.{err_from_is_err_and}
use Rattle.std.specs.Vec.Iter.{into_iter_items}
use Rattle.bt_capture.specs.Following.{AtEnd}
use Rattle.bt_capture.specs.Runs.{IsTellingIn}
use Rattle.bt_capture.specs.Tables.{Held, IsApart}
use Rattle.bt_capture.specs.declared.pair.Pair.{Pair}
use Rattle.bt_capture.proofs.Entries.{apart_first, apart_rest}
use Rattle.bt_capture.proofs.Outcomes.{partly, told_rest}
use Rattle.bt_capture.proofs.run.finish.Goals as goal

pub loop-connection-init : goal.loop-connection-init
loop-connection-init g c = record {
  apart = subst (λ (l : List (Pair × Held)). IsApart l) (sym c.into_iter-connection-iterator.ensures.into_iter_gives.0) c.in-Ok.ensures.apart;
  told = λ o left r i. i;
}

pub loop-connection-preserved : goal.loop-connection-preserved
loop-connection-preserved g c =
    let e : Pair × Held = (c.in-Some.field-0-0, c.in-Some.connection) in
    let rest : List (Pair × Held) = into_iter_items c.next.new.self in
    let now = g.W.Target.seen c.loop-connection.writer in
    let apart : IsApart (e ∷ rest) = subst (λ (l : List (Pair × Held)). IsApart l) c.in-Some.ensures.steps.0 c.loop-connection.invariant.apart in
    record {
      apart = apart_rest e rest apart;
      told = λ o left r i.
          let P : List (Pair × Held) → Type 0 = λ l. IsTellingIn AtEnd o left now l c.loop-connection.run r in
          c.in_ok-tell_last.ensures.after o left e.0 rest r (apart_first e rest apart)
          (subst P c.in-Some.ensures.steps.0 (c.loop-connection.invariant.told o left r i));
    }

pub returns-in_default-clause-after : goal.returns-in_default-clause-after
returns-in_default-clause-after g c o left r i = partly o left (g.W.Target.seen c.args.writer.now) c.args.run.now.connections.table c.args.run.now r i

pub returns-in_err-tell_last-clause-after : goal.returns-in_err-tell_last-clause-after
returns-in_err-tell_last-clause-after g c o left r i =
    let e : Pair × Held = (c.in-Some.field-0-0, c.in-Some.connection) in
    let rest : List (Pair × Held) = into_iter_items c.next.new.self in
    let all : List (Pair × Held) = into_iter_items c.into_iter-connection-iterator.result in
    let now = g.W.Target.seen c.loop-connection.writer in
    let apart : IsApart (e ∷ rest) = subst (λ (l : List (Pair × Held)). IsApart l) c.in-Some.ensures.steps.0 c.loop-connection.invariant.apart in
    let P : List (Pair × Held) → Type 0 = λ l. IsTellingIn AtEnd o left now l c.loop-connection.run r in
    let Q : List (Pair × Held) → Type 0 = λ l. IsTellingIn AtEnd o left (g.W.Target.seen c.args.writer.now) l (record c.args.run.now { connections = c.rest.new.self }) r in
    let told = told_rest o left (g.W.Target.seen c.args.writer.now) c.args.run.now c.rest.new.self c.in-Ok.rest.items r
    c.in-Ok.ensures.all c.in-Ok.ensures.sorted c.in-Ok.ensures.same i in
    let given = subst Q (sym c.into_iter-connection-iterator.ensures.into_iter_gives.0) told in
    let stop = err_from_is_err_and c.from_residual.result c.from_residual.ensures.1 in
    rw (stop.1, stop.2) (c.in_err-tell_last.ensures.after o left e.0 rest r (apart_first e rest apart)
    (subst P c.in-Some.ensures.steps.0 (c.loop-connection.invariant.told o left r given)))

pub returns-clause-after : goal.returns-clause-after
returns-clause-after g c o left r i =
    let Q : List (Pair × Held) → Type 0 = λ l. IsTellingIn AtEnd o left (g.W.Target.seen c.args.writer.now) l (record c.args.run.now { connections = c.rest.new.self }) r in
    let told = told_rest o left (g.W.Target.seen c.args.writer.now) c.args.run.now c.rest.new.self c.in-Ok.rest.items r
    c.in-Ok.ensures.all c.in-Ok.ensures.sorted c.in-Ok.ensures.same i in
    let given = subst Q (sym c.into_iter-connection-iterator.ensures.into_iter_gives.0) told in
    let P : List (Pair × Held) → Type 0 = λ l. IsTellingIn AtEnd o left (g.W.Target.seen c.loop-connection.writer) l c.loop-connection.run r in
    let rest = c.loop-connection.connection-iterator in
    let none : length (into_iter_items rest) ≡ 0 = sym rest.rest.ok.0 ∙ c.in-None.ensures.steps.0 in
    c.write.ensures.after AtEnd o left [] r (subst P (nil_from_length (into_iter_items rest) none) (c.loop-connection.invariant.told o left r given))
