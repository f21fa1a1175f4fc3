-- What a request for a block is answered with.
use Rattle.std.specs.Prelude.{◌≡◌, ℕ, ◌<◌, ◌≤◌, List, length, ⊤}
use Rattle.bt_ext.specs.Metadata.{block_count}
use Rattle.bt_metadata.specs.Blocks.{block, block_size, max_metadata}
use Rattle.bt_metadata.specs.declared.server.Reply.{Reply}
use Rattle.bt_metadata.specs.declared.server.Reply.TheVariants.{Data, Reject}

-- the block and the size of the whole where there is such a block, else a reject
abbrev pub IsReply : List ℕ → ℕ → Reply → Type 0
IsReply metadata piece (Data total bytes) = (piece < block_count (length metadata)) × (total ≡ length metadata) × (bytes.now ≡ block metadata piece)
IsReply metadata piece Reject = block_count (length metadata) ≤ piece

-- a total is a size of metadata, and a block has at most 16,384 bytes
abbrev pub IsBounded : Reply → Type 0
IsBounded (Data total bytes) = (0 < total) × (total ≤ max_metadata) × (length bytes.now ≤ block_size)
IsBounded Reject = ⊤
