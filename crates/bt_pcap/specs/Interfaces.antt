-- The interfaces of a section (draft-ietf-opsawg-pcapng 4.2): each block of theirs adds one, from number 0 on.
use Rattle.std.specs.Prelude.{List, [], ◌∷◌, ◌++◌, take}
use Rattle.bt_pcap.specs.declared.interfaces.Interface.{Interface}
use Rattle.bt_pcap.specs.declared.interfaces.Interfaces.{Interfaces}

-- the interfaces that a table has
unfoldable pub interfaces_of : Interfaces → List Interface
interfaces_of t = take t.count t.table

-- With one more. Only the first 1,024 are noted.
abbrev pub noted : List Interface → Interface → List Interface
noted known interface = take 1024 (known ++ interface ∷ [])
