use Rattle.std.proofs.Common.{List, ◌∷◌, [], ◌++◌, length, refl, sym, subst}
use Rattle.bt_session.specs.ByteLinks as B
use Rattle.bt_session.specs.Reports.{IsConnectionOf, AreConnectionsOf}
use Rattle.bt_session.specs.declared.run.Connection.{Connection}
use Rattle.bt_session.proofs.Runs.{both, connections_more}
use Rattle.bt_session.proofs.run.Link.reset.Goals as goal

pub returns-in-Ok : goal.returns-in-Ok
returns-in-Ok c = λ l h.
    let x = c.in_ok-left_sent.ensures l.left h.left in
    let y = c.in_ok-right_sent.ensures l.right h.right in
    let u = c.in_ok-left_sent in
    let v = c.in_ok-right_sent in
    let connection : Connection = record { sent = u.left_sent ∷ v.right_sent ∷ []; handled = u.left_handled ∷ v.right_handled ∷ [] } in
    let last : IsConnectionOf connection (B.connection_of l) = record {
      sent = both u.left_sent.items v.right_sent.items l.left.sent l.right.sent x.0 y.0;
      handled = both u.left_handled v.right_handled (length l.left.handled) (length l.right.handled) x.1 y.1;
    } in
    let more = connections_more c.args.self.now.past.items l.past connection (B.connection_of l) h.past last in (
      B.after_reset l,
      (refl, refl),
      record {
        left = x.2;
        right = y.2;
        past = subst (λ (cs : List Connection). AreConnectionsOf cs (l.past ++ B.connection_of l ∷ [])) (sym c.in-Ok.ensures) more;
      },
    )
