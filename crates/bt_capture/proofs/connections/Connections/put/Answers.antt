use Rattle.std.proofs.Common.{◌≡◌, ◌∙◌, ◌+◌, ◌-◌, ◌^◌, ◌<◌, min, refl, ap, subst, List, ◌∷◌}
use Rattle.std.proofs.lemmas.Result.{err_from_is_err_and}
use Rattle.bt_capture.specs.Tables.{Held}
use Rattle.bt_capture.specs.declared.connection.Connection.{Connection}
use Rattle.bt_capture.specs.declared.pair.Pair.{Pair}
use Rattle.bt_capture.specs.Following.{since}
use Rattle.bt_capture.proofs.Bounds.{one_more}
use Rattle.bt_capture.proofs.Parts.{on_ok}
use Rattle.bt_capture.proofs.Reported.{follows_same, stops_of}
use Rattle.bt_capture.proofs.Steps.{follows_moved}
use Rattle.bt_capture.proofs.connections.Connections.put.Goals as goal

pub returns-clause-goes : goal.returns-clause-goes
returns-clause-goes c start now clock came there packet within i =
    let e : Pair × Held = (c.args.pair, c.args.connection) in
    let es : List (Pair × Held) = c.args.self.now.table in
    c.shrink.ensures.goes start now clock came there packet within
    (follows_same (since start c.args.from) now came c.put.new.self c.args.self.now _ refl refl refl refl
    (follows_moved (since start c.args.from) now came (e ∷ es) c.put.new.self c.args.self.now c.in_ok-put.ensures.put i))

pub returns-in_err-put-clause-goes : goal.returns-in_err-put-clause-goes
returns-in_err-put-clause-goes c start now clock came there packet within i =
    let e : Pair × Held = (c.args.pair, c.args.connection) in
    let es : List (Pair × Held) = c.args.self.now.table in
    let stop = err_from_is_err_and c.from_residual.result c.from_residual.ensures.1 in
    rw stop.1 (stops_of (since start c.args.from) now came (e ∷ es) _ (follows_same (since start c.args.from) now came (e ∷ es) c.args.self.now _ refl refl refl refl i))

pub returns-clause-bounded : goal.returns-clause-bounded
returns-clause-bounded c =
    let old = c.args.self.now in
    let p = c.args.pair in
    let k = c.args.connection in
    let is : c.size.result ≡ k.value.size = c.size.ensures.size ∙ ap (λ (x : Connection). x.size) c.deref.ensures in
    let small : k.value.size < 2 ^ 32 = subst (λ n. n < 2 ^ 32) is c.size.ensures.range in
    let sum : c.saturating_add-self.result ≡ min (old.bytes + k.value.size) (2 ^ 64 - 1) =
    c.saturating_add-self.ensures ∙ ap (λ n. min (old.bytes + n) (2 ^ 64 - 1)) is in
    on_ok c.shrink.result (λ f i. f (one_more p k c.put.new.self c.saturating_add-self.result old small c.in_ok-put.ensures.put sum i)) c.shrink.ensures.bounded
