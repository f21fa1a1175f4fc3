-- The report of a run of the link, and why there is none.
use Rattle.std.specs.Prelude.{◌≡◌, ◌≢◌, ◌⊎◌, ℕ, suc, ◌≤◌, ◌<◌, List, [], ◌∷◌, ◌++◌, length, map, Option, Some, None, ⊤}
use Rattle.std.specs.Global.{Vec}
use Rattle.sha1.specs.Sha1.{sha1}
use Rattle.std.specs.Global.{Global}
use Rattle.bt_wire.specs.declared.context.Own.{Own}
use Rattle.bt_end.specs.Configs.{config_error}
use Rattle.bt_session.specs.ByteLinks as B
use Rattle.bt_end.specs.Ends.{EndState, Part, Fetching}
use Rattle.bt_metadata.specs.Assemblies.{Slot, block_in}
use Rattle.bt_wire.specs.declared.item.Item.{Item}
use Rattle.bt_session.specs.LinkLaws.{SamePieces, AreMatched, most_steps}
use Rattle.bt_session.specs.MessageLinks as M
use Rattle.bt_session.specs.declared.run.Connection.{Connection}
use Rattle.bt_session.specs.declared.run.Link.{Link}
use Rattle.bt_session.specs.declared.link.Step.{Step}
use Rattle.bt_end.specs.declared.config.Config.{Config}
use Rattle.bt_end.specs.declared.config.EndError.TheVariants as end_error
use Rattle.bt_end.specs.declared.config.Role.{Role}
use Rattle.bt_end.specs.declared.config.Role.TheVariants.{Serve, Share}
use Rattle.bt_session.specs.declared.report.LinkError.{LinkError}
use Rattle.bt_session.specs.declared.report.LinkError.TheVariants as error
use Rattle.bt_session.specs.declared.report.LinkReport.{LinkReport}

-- ---- connections

abbrev pub items_in : Vec Item → List Item
items_in v = v.items

-- what each end sent, and how many items it handled; the left end first
pub record IsConnectionOf (c : Connection) (d : M.Connection) : Type 0 where
  pub sent : map items_in c.sent ≡ d.left_sent ∷ d.right_sent ∷ []
  pub handled : c.handled ≡ length d.left_handled ∷ length d.right_handled ∷ []

-- what went over the present connection of a link
abbrev pub present : Link → Connection
present link = record { sent = link.left.sent ∷ link.right.sent ∷ []; handled = link.left.handled ∷ link.right.handled ∷ [] }

abbrev pub AreConnectionsOf : List Connection → List M.Connection → Type 0
AreConnectionsOf [] [] = ⊤
AreConnectionsOf [] (d ∷ ds) = ⊥
AreConnectionsOf (c ∷ cs) [] = ⊥
AreConnectionsOf (c ∷ cs) (d ∷ ds) = IsConnectionOf c d × AreConnectionsOf cs ds

-- ---- held blocks

abbrev pub numbered : ℕ → Option (List ℕ) → List (ℕ × List ℕ)
numbered k None = []
numbered k (Some bytes) = (k, bytes) ∷ []

-- the held blocks of slots, with their numbers: k is the first slot's
abbrev pub blocks_from : ℕ → List Slot → List (ℕ × List ℕ)
blocks_from k [] = []
blocks_from k (s ∷ ss) = numbered k (block_in s) ++ blocks_from (suc k) ss

-- the blocks that an end holds, each with its number, in rising order; none but while it is fetching
abbrev pub held_blocks : Part → List (ℕ × List ℕ)
held_blocks (Fetching a) = blocks_from 0 a.slots
held_blocks p = []

abbrev pub block_of : ℕ × Vec ℕ → ℕ × List ℕ
block_of b = (b.0, b.1.items)

abbrev pub blocks_of : Vec (ℕ × Vec ℕ) → List (ℕ × List ℕ)
blocks_of v = map block_of v.items

-- ---- a report

-- the connections, the held blocks and the ends of a link
pub record IsReportOf (k : B.Link) (r : LinkReport) : Type 0 where
  pub connections : AreConnectionsOf r.connections.items (B.connections_of k)
  pub blocks : map blocks_of r.blocks ≡ held_blocks k.left.half.end.part ∷ held_blocks k.right.half.end.part ∷ []
  pub ends : r.ends ≡ k.left.half ∷ k.right.half ∷ []

-- a report of the steps of two matching ends: its outcomes are those of the steps, and the rest is that of the link which the
-- steps leave
pub record IsRun (a b : EndState) (steps : List Step) (r : LinkReport) : Type 0 where
  pub few : length steps ≤ most_steps
  pub matched : AreMatched a b
  pub link : B.Link
  pub outcomes : B.AreSteps (B.link_of a b) steps r.outcomes.items link
  pub rest : IsReportOf link r

-- ---- why a link isn't run

-- metadata that is to be served has the info hash as its SHA-1
abbrev pub IsRightFor : Role Global → Option (List ℕ) → Type 0
IsRightFor (Serve metadata) (Some hash) = sha1 metadata.items ≡ hash
IsRightFor (Share metadata) (Some hash) = sha1 metadata.value.items ≡ hash
IsRightFor role hash = ⊤

-- two receivers want the same
pub record AreLike (a b : Own) : Type 0 where
  pub hash : a.info_hash ≡ b.info_hash
  pub limit : a.limit ≡ b.limit
  pub rules : a.rules ≡ b.rules
  pub pieces : SamePieces a.pieces b.pieces

pub record DoMatch (c d : Config Global) : Type 0 where
  pub alike : AreLike c.own d.own
  pub left : IsRightFor c.role c.own.info_hash
  pub right : IsRightFor d.role d.own.info_hash

-- one end isn't made
abbrev pub IsUnstarted : Config Global → LinkError → Type 0
IsUnstarted c (error.End e) = (e ≢ end_error.Memory) × (config_error c ≡ Some e)
IsUnstarted c error.Memory = ⊤
IsUnstarted c e = ⊥

-- the configs don't match; or no end can be made, for another cause than memory; or there are too many steps; or memory was
-- refused
abbrev pub IsUnrun : Config Global → Config Global → List Step → LinkError → Type 0
IsUnrun c d steps error.ConfigMismatch = DoMatch c d → ⊥
IsUnrun c d steps (error.End e) = DoMatch c d × (e ≢ end_error.Memory) × ((config_error c ≡ Some e) ⊎ ((config_error c ≡ None) × (config_error d ≡ Some e)))
IsUnrun c d steps error.TooManySteps = DoMatch c d × (config_error c ≡ None) × (config_error d ≡ None) × (most_steps < length steps)
IsUnrun c d steps error.Memory = DoMatch c d
