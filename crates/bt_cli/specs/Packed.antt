-- What a compressed capture begins with, and which command reads it.
use Rattle.std.specs.Prelude.{ℕ, List, [], ◌∷◌, codes, Option, Some, None, nat_eq, if◌then◌else◌}
use Rattle.std.specs.List.{starts_with}

-- gzip (RFC 1952, section 2.3.1), bzip2, xz, Zstandard (RFC 8878, section 3.1.1) and LZ4, by the bytes that their files begin with
abbrev pub packed_words : List ℕ → Option (List ℕ)
packed_words b =
    if starts_with nat_eq b (0x1f ∷ 0x8b ∷ []) then Some (codes "capture: compressed by gzip; this reads it: gunzip -c FILE | bt_tool capture\n")
    else if starts_with nat_eq b (codes "BZh") then Some (codes "capture: compressed by bzip2; this reads it: bunzip2 -c FILE | bt_tool capture\n")
    else if starts_with nat_eq b (0xfd ∷ 0x37 ∷ 0x7a ∷ 0x58 ∷ 0x5a ∷ 0 ∷ []) then
    Some (codes "capture: compressed by xz; this reads it: unxz -c FILE | bt_tool capture\n")
    else if starts_with nat_eq b (0x28 ∷ 0xb5 ∷ 0x2f ∷ 0xfd ∷ []) then Some (codes "capture: compressed by zstd; this reads it: unzstd -c FILE | bt_tool capture\n")
    else if starts_with nat_eq b (0x04 ∷ 0x22 ∷ 0x4d ∷ 0x18 ∷ []) then Some (codes "capture: compressed by lz4; this reads it: unlz4 -c FILE | bt_tool capture\n")
    else None
