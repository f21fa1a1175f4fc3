use Rattle.std.proofs.Common.{◌≡◌, ℕ, List, ◌∷◌, [], ◌++◌, length, map, ap, ◌∙◌, sym, subst, rules}
use Rattle.std.specs.Global.{Vec}
use Rattle.bt_end.specs.Halves.{HalfState}
use Rattle.bt_session.specs.ByteLinks as B
use Rattle.bt_session.specs.Reports.{IsConnectionOf, AreConnectionsOf, blocks_of, held_blocks, present}
use Rattle.bt_session.specs.Runs.{IsLinkOf, IsClosed}
use Rattle.bt_session.specs.declared.run.Connection.{Connection}
use Rattle.bt_session.specs.declared.run.Link.{Link}
use Rattle.bt_session.proofs.Runs.{both, connections_more}
use Rattle.bt_session.proofs.report.finish.Goals as goal

-- the link n, closed as m
closed : (n m : Link) (l : B.Link) (blocks : List (Vec (ℕ × Vec ℕ))) → IsLinkOf n l → m.past.items ≡ n.past.items ++ present n ∷ []
    → (m.left.end ≡ n.left.end) × (m.right.end ≡ n.right.end)
    → map blocks_of blocks ≡ held_blocks m.left.end.end.part ∷ held_blocks m.right.end.end.part ∷ [] → IsClosed l blocks m
closed n m l blocks h past ends held =
    let last : IsConnectionOf (present n) (B.connection_of l) = record {
      sent = both n.left.sent.items n.right.sent.items l.left.sent l.right.sent h.left.sent h.right.sent;
      handled = both n.left.handled n.right.handled (length l.left.handled) (length l.right.handled) h.left.handled h.right.handled;
    } in
    let left : m.left.end ≡ l.left.half = ends.0 ∙ h.left.end in
    let right : m.right.end ≡ l.right.half = ends.1 ∙ h.right.end in
    let more = connections_more n.past.items l.past (present n) (B.connection_of l) h.past last in
    record {
      connections = subst (λ (cs : List Connection). AreConnectionsOf cs (l.past ++ B.connection_of l ∷ [])) (sym past) more;
      blocks = held ∙ both (held_blocks m.left.end.end.part) (held_blocks m.right.end.end.part) (held_blocks l.left.half.end.part)
          (held_blocks l.right.half.end.part) (ap (λ (a : HalfState). held_blocks a.end.part) left)
          (ap (λ (a : HalfState). held_blocks a.end.part) right);
      ends = both m.left.end m.right.end l.left.half l.right.half left right;
    }

pub returns-in-Ok-copy_both-clause-done : goal.returns-in-Ok-copy_both-clause-done
returns-in-Ok-copy_both-clause-done c = λ a b news h.
    let t = c.in-Ok.ensures a b news h in
    (t.0, t.1, closed c.run.new.link c.close.new.link t.0 c.in-Ok-copy_both.blocks t.2 (search rules) c.close.ensures.ends c.in-Ok-copy_both.ensures)
