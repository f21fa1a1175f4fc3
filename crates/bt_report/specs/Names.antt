-- What a sender calls itself, in printable characters.
use Rattle.std.specs.Prelude.{ℕ, ◌&&◌, List, map, take, nat_le, if◌then◌else◌}
use Rattle.bt_report.specs.declared.report.Title.{Title}
use Rattle.bt_report.specs.declared.report.Title.TheVariants.{PeerId, Client}

-- a byte of ASCII from `low` up to `~`, or a dot for another one
abbrev pub shown : ℕ → ℕ → ℕ
shown low byte = if nat_le low byte && nat_le byte 126 then byte else 46

-- a peer id without spaces; the first bytes of a client's name
abbrev pub title_text : Title → List ℕ
title_text (PeerId id) = map (shown 33) id
title_text (Client bytes count) = map (shown 32) (take count bytes)
