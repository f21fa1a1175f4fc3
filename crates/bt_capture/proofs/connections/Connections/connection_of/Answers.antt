use Rattle.std.proofs.Common.{◌≡◌, ◌∙◌, ◌-◌, None, refl, sym, ap, subst, List, ◌∷◌}
use Rattle.std.specs.Map.{lookup}
use Rattle.bt_capture.specs.Arrivals.{arrived}
use Rattle.bt_capture.specs.Following.{Follows, Finds, since}
use Rattle.bt_capture.specs.Tables.{Held, same_pair}
use Rattle.bt_capture.specs.declared.connection.Connection.{Connection}
use Rattle.bt_capture.specs.declared.pair.Pair.{Pair}
use Rattle.bt_capture.proofs.Bounds.{bounded_same, taken_out}
use Rattle.bt_capture.proofs.Entries.{lookup_gone, lookup_kept}
use Rattle.bt_capture.proofs.Reported.{follows_coming, follows_same}
use Rattle.bt_capture.proofs.Steps.{follows_out}
use Rattle.bt_capture.proofs.connections.Connections.connection_of.Goals as goal

pub returns-in-Some-clause-finds : goal.returns-in-Some-clause-finds
returns-in-Some-clause-finds c link start now clock came new packet i =
    let p = c.args.pair in
    let es : List (Pair × Held) = c.args.self.now.table in
    let left : List (Pair × Held) = c.take_out.new.self in
    let absent : lookup (same_pair p) left ≡ None =
    subst (λ l. lookup (same_pair p) l ≡ None) (sym c.in-Some.ensures.rest) (lookup_gone p es c.in-Some.ensures.apart) in
    let out = follows_out (since start c.args.from) now came p c.in-Some.connection es left c.args.self.now (sym c.in-Some.ensures.found) c.in-Some.ensures.rest i in
    subst (λ l. Finds (since start c.args.from) now clock came (arrived link c.args.segment.now c.args.when) p l c.goes_on.new.self c.goes_on.result) (sym c.goes_on.ensures.table)
    (c.goes_on.ensures.finds link start now clock came p left absent new packet
    (follows_same (since start c.args.from) now came ((p, c.in-Some.connection) ∷ left) c.args.self.now _ refl refl refl refl out))

pub returns-in-Some-clause-absent : goal.returns-in-Some-clause-absent
returns-in-Some-clause-absent c =
    let p = c.args.pair in
    subst (λ (l : List (Pair × Held)). lookup (same_pair p) l ≡ None) (sym (c.goes_on.ensures.table ∙ c.in-Some.ensures.rest))
    (lookup_gone p c.args.self.now.table c.in-Some.ensures.apart)

pub returns-in-None-clause-finds : goal.returns-in-None-clause-finds
returns-in-None-clause-finds c link start now clock came new packet i =
    let p = c.args.pair in
    let es : List (Pair × Held) = c.args.self.now.table in
    let left : List (Pair × Held) = c.take_out.new.self in
    let absent : lookup (same_pair p) left ≡ None =
    subst (λ l. lookup (same_pair p) l ≡ None) (sym c.in-None.ensures.rest) (lookup_gone p es c.in-None.ensures.apart) in
    let same : left ≡ es = c.in-None.ensures.rest ∙ lookup_kept p es (sym c.in-None.ensures.found) in
    subst (λ l. Finds (since start c.args.from) now clock came (arrived link c.args.segment.now c.args.when) p l c.begin.new.self c.begin.result) (sym c.begin.ensures.table)
    (c.begin.ensures.finds link (since start c.args.from) now clock came c.args.when p left absent
    (follows_coming (since start c.args.from) now came left _ p (arrived link c.args.segment.now c.args.when) new
    (follows_same (since start c.args.from) now came left c.args.self.now _ refl refl refl refl (subst (λ l. Follows (since start c.args.from) now clock came l c.args.self.now) (sym same) i))))

pub returns-in-None-clause-absent : goal.returns-in-None-clause-absent
returns-in-None-clause-absent c =
    let p = c.args.pair in
    subst (λ (l : List (Pair × Held)). lookup (same_pair p) l ≡ None) (sym (c.begin.ensures.table ∙ c.in-None.ensures.rest))
    (lookup_gone p c.args.self.now.table c.in-None.ensures.apart)

pub returns-in-Some-clause-bounded : goal.returns-in-Some-clause-bounded
returns-in-Some-clause-bounded c i =
    let old = c.args.self.now in
    taken_out (same_pair c.args.pair) c.in-Some.connection c.take_out.new.self old c.goes_on.new.self c.in-Some.ensures.found c.in-Some.ensures.rest
    c.goes_on.ensures.table
    (c.goes_on.ensures.bytes ∙ c.saturating_sub-self.ensures
    ∙ ap (λ n. old.bytes - n) (c.size.ensures.size ∙ ap (λ (k : Connection). k.size) c.deref.ensures)) i

pub returns-in-None-clause-bounded : goal.returns-in-None-clause-bounded
returns-in-None-clause-bounded c i =
    let p = c.args.pair in
    let es : List (Pair × Held) = c.args.self.now.table in
    bounded_same c.args.self.now c.begin.new.self
    (c.begin.ensures.table ∙ c.in-None.ensures.rest ∙ lookup_kept p es (sym c.in-None.ensures.found)) c.begin.ensures.bytes i
