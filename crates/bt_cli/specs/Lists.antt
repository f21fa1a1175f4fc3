-- What is read of the list of `--peers`.
use Rattle.std.specs.Prelude.{◌≡◌, ℕ, List, map, string_bytes, Result, Ok, Err, String}
use Rattle.std.specs.Global.{Global, Vec}
use Rattle.std.specs.Str.Lines.{lines}
use Rattle.std.specs.Str.Lossy.{utf8_lossy}
use Rattle.bt_magnet.specs.Lists.{entries_of, IsWrongLine}
use Rattle.bt_text.specs.declared.ended.ToolFault.TheVariants as fault
use Rattle.bt_cli.specs.declared.peers.NoPeers.{NoPeers}
use Rattle.bt_cli.specs.declared.peers.NoPeers.TheVariants.{Line, TooLong, Fault}

-- the peers of all lines of a text, a line that names none, or no memory
abbrev pub IsListed : List ℕ → Result (Vec (String Global)) NoPeers → Type 0
IsListed t (Ok peers) = map string_bytes peers.items ≡ entries_of (lines (utf8_lossy t))
IsListed t (Err (Line n)) = IsWrongLine (lines (utf8_lossy t)) n
IsListed t (Err TooLong) = ⊥
IsListed t (Err (Fault f)) = f ≡ fault.Memory
