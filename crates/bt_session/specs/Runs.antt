-- For private contracts: a link as a value.
use Rattle.std.specs.Prelude.{◌≡◌, ℕ, ◌<◌, List, [], ◌∷◌, length, map, ⊤}
use Rattle.std.specs.Global.{Vec}
use Rattle.bt_session.specs.ByteLinks as B
use Rattle.bt_end.specs.Ends.{EndState}
use Rattle.bt_session.specs.LinkLaws.{IsNew, AreMatched, most_steps}
use Rattle.bt_session.specs.Nodes.{IsNodeOf, MayHandle}
use Rattle.bt_session.specs.Reports.{AreConnectionsOf, blocks_of, held_blocks}
use Rattle.bt_session.specs.declared.link.Outcome.{Outcome}
use Rattle.bt_session.specs.declared.link.Step.{Step}
use Rattle.bt_session.specs.declared.report.LinkError.{LinkError}
use Rattle.bt_session.specs.declared.report.LinkError.TheVariants as error
use Rattle.bt_session.specs.declared.run.Link.{Link}

pub record IsLinkOf (n : Link) (l : B.Link) : Type 0 where
  pub left : IsNodeOf n.left l.left
  pub right : IsNodeOf n.right l.right
  pub past : AreConnectionsOf n.past.items l.past

abbrev pub EachMayHandle : B.Link → Type 0
EachMayHandle l = MayHandle l.left × MayHandle l.right

-- two new ends of matching configs
pub record AreNew (a b : EndState) : Type 0 where
  pub left : IsNew a
  pub right : IsNew b
  pub matched : AreMatched a b

-- the steps were done: from two new ends they have these outcomes, and leave this link
abbrev pub DoneBy : List Step → Link → List Outcome → Link → Type 0
DoneBy steps n outcomes m = (a b : EndState) → AreNew a b → IsLinkOf n (B.link_of a b) → (k : B.Link) × B.AreSteps (B.link_of a b) steps outcomes k
    × IsLinkOf m k

-- the link k, closed: its present connection is put after the past ones, and these are the blocks that its ends hold
pub record IsClosed (k : B.Link) (held : List (Vec (ℕ × Vec ℕ))) (m : Link) : Type 0 where
  pub connections : AreConnectionsOf m.past.items (B.connections_of k)
  pub blocks : map blocks_of held ≡ held_blocks k.left.half.end.part ∷ held_blocks k.right.half.end.part ∷ []
  pub ends : m.left.end ∷ m.right.end ∷ [] ≡ k.left.half ∷ k.right.half ∷ []

-- the steps were done, from two new ends, and the link that they leave was closed
abbrev pub ClosedBy : List Step → Link → List Outcome → List (Vec (ℕ × Vec ℕ)) → Link → Type 0
ClosedBy steps n outcomes blocks m = (a b : EndState) → AreNew a b → IsLinkOf n (B.link_of a b)
    → (k : B.Link) × B.AreSteps (B.link_of a b) steps outcomes k × IsClosed k blocks m

-- there are too many steps, or memory was refused
abbrev pub IsUnfinished : List Step → LinkError → Type 0
IsUnfinished steps error.TooManySteps = most_steps < length steps
IsUnfinished steps error.Memory = ⊤
IsUnfinished steps e = ⊥
