use Rattle.std.proofs.Common.{◌≡◌, ◌∙◌, ◌-◌, None, true, false, refl, sym, ap, subst, List, ◌∷◌}
use Rattle.std.specs.Map.{lookup}
use Rattle.std.proofs.lemmas.List.Elements.{All-nil}
use Rattle.bt_capture.specs.Arrivals.{Arrival, IsEarlier}
use Rattle.bt_capture.specs.Following.{During, Ended, Follows, Goes, since}
use Rattle.bt_capture.specs.Tables.{Held, same_pair}
use Rattle.bt_capture.specs.declared.connection.Connection.{Connection}
use Rattle.bt_capture.specs.declared.connections.Connections.{Connections}
use Rattle.bt_capture.specs.declared.pair.Pair.{Pair}
use Rattle.bt_capture.proofs.Bounds.{bounded_same, taken_out}
use Rattle.bt_capture.proofs.Entries.{lookup_gone, lookup_kept}
use Rattle.bt_capture.proofs.Reported.{follows_same}
use Rattle.bt_capture.proofs.Steps.{follows_out}
use Rattle.bt_capture.proofs.connections.Connections.end.Goals as goal

pub returns-in-Some-clause-goes : goal.returns-in-Some-clause-goes
returns-in-Some-clause-goes c start now clock came at quiet there packet within i =
    let p = c.args.pair in
    let es : List (Pair × Held) = c.args.self.now.table in
    let left : List (Pair × Held) = c.take_out.new.self in
    let absent : lookup (same_pair p) left ≡ None =
    subst (λ l. lookup (same_pair p) l ≡ None) (sym c.in-Some.ensures.rest) (lookup_gone p es c.in-Some.ensures.apart) in
    let q = quiet c.in-Some.connection (sym c.in-Some.ensures.found) in
    let out = follows_out (since start c.args.from) now came p c.in-Some.connection es left c.args.self.now (sym c.in-Some.ensures.found) c.in-Some.ensures.rest i in
    subst (λ l. Goes (since start c.args.from) now clock came l c.report.new.self c.report.result) (sym c.report.ensures.table)
    (c.report.ensures.goes During start now clock came p left (Ended at) absent
    (record {
      may_be = refl;
      parted = All-nil (λ (x : Arrival). IsEarlier at x.when.packet);
      why = λ there a b t. q.1;
      why_lost = λ gone. absurd (let e : true ≡ false = sym gone ∙ q.0 in cc);
      timely = (there, within);
      told_at = sym packet;
    }) refl
    (follows_same (since start c.args.from) now came ((p, c.in-Some.connection) ∷ left) c.args.self.now _ refl refl refl refl out))

pub returns-in-None-clause-goes : goal.returns-in-None-clause-goes
returns-in-None-clause-goes c start now clock came at quiet there packet within i =
    let p = c.args.pair in
    let es : List (Pair × Held) = c.args.self.now.table in
    let left : List (Pair × Held) = c.take_out.new.self in
    let same : left ≡ es = c.in-None.ensures.rest ∙ lookup_kept p es (sym c.in-None.ensures.found) in
    follows_same (since start c.args.from) now came left c.args.self.now _ refl refl refl refl (subst (λ l. Follows (since start c.args.from) now clock came l c.args.self.now) (sym same) i)

pub returns-in-Some-clause-bounded : goal.returns-in-Some-clause-bounded
returns-in-Some-clause-bounded c i =
    let old = c.args.self.now in
    let size = c.size.ensures.size ∙ ap (λ (k : Connection). k.size) c.deref.ensures in
    taken_out (same_pair c.args.pair) c.in-Some.connection c.take_out.new.self old c.report.new.self c.in-Some.ensures.found c.in-Some.ensures.rest
    c.report.ensures.table (c.report.ensures.bytes ∙ c.saturating_sub-self.ensures ∙ ap (λ n. old.bytes - n) size) i

pub returns-in-None-clause-bounded : goal.returns-in-None-clause-bounded
returns-in-None-clause-bounded c i =
    let p = c.args.pair in
    let es : List (Pair × Held) = c.args.self.now.table in
    let new : Connections = record c.args.self.now { table = c.take_out.new.self } in
    bounded_same c.args.self.now new (c.in-None.ensures.rest ∙ lookup_kept p es (sym c.in-None.ensures.found)) refl i
