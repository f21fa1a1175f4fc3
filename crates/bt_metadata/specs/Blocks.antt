-- The blocks of metadata (BEP 9): 16,384 bytes each, and the last one has the rest.
use Rattle.std.specs.Prelude.{ℕ, ◌*◌, List, take, drop}

abbrev pub block_size : ℕ
block_size = 16384

-- the greatest size of metadata
abbrev pub max_metadata : ℕ
max_metadata = 67108864

-- how many blocks may be asked for at once
abbrev pub window : ℕ
window = 8

abbrev pub block : List ℕ → ℕ → List ℕ
block metadata piece = take block_size (drop (block_size * piece) metadata)
