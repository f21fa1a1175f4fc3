-- For private contracts: the part that the code keeps, and an end's messages as bytes.
use Rattle.std.specs.Prelude.{◌≡◌, ℕ, ◌+◌, List, ◌∷◌, ◌++◌, length, Option, Some, None}
use Rattle.std.specs.Borrow.{Bor}
use Rattle.bt_wire.specs.Numbers.{be32}
use Rattle.bt_end.specs.Ends.{Part, Watching, Serving, Awaiting, Fetching, Fetched}
use Rattle.bt_metadata.specs.Replies.{IsReply}
use Rattle.bt_end.specs.declared.part.Part.{Part as Code}
use Rattle.bt_end.specs.declared.part.Part.TheVariants as code
use Rattle.bt_metadata.specs.declared.server.Reply.{Reply}
use Rattle.bt_metadata.specs.declared.server.Reply.TheVariants as reply

abbrev pub part_of : {A : Type 0} → Code A → Part
part_of code.Watching = Watching
part_of (code.Serving server) = Serving server
part_of (code.Awaiting most) = Awaiting most
part_of (code.Fetching assembly) = Fetching assembly
part_of (code.Fetched metadata) = Fetched metadata.items

abbrev pub shown_slice : Option (Bor (List ℕ)) → Option (List ℕ)
shown_slice None = None
shown_slice (Some bytes) = Some bytes.now

-- a server's reply, or a reject
abbrev pub IsReplyOf : Part → ℕ → Reply → Type 0
IsReplyOf (Serving metadata) piece r = IsReply metadata piece r
IsReplyOf p piece r = r ≡ reply.Reject

-- ---- extended messages as bytes

-- the length, the id of extended messages, the extended id and the payload
abbrev pub framed : ℕ → List ℕ → List ℕ
framed id payload = be32 (2 + length payload) ++ 20 ∷ id ∷ payload
