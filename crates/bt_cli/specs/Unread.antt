-- What `capture` says of packets that are not read.
use Rattle.std.specs.Prelude.{ℕ, ◌+◌, ◌-◌, ◌^◌, ◌==◌, min, ◌++◌, List, [], Bool, false, Option, Some, None, codes, decimal, if◌then◌else◌}
use Rattle.std.specs.Fmt.{digits}
use Rattle.bt_capture.specs.declared.unread.Tally.{Tally}
use Rattle.bt_capture.specs.declared.unread.UnreadPackets.{UnreadPackets}

-- the line on so many packets that aren't read, if there are some
abbrev pub so_many_unread : (what : List ℕ) → ℕ → List ℕ
so_many_unread what n = if n == 0 then [] else what ++ (codes " not read: " ++ (decimal n ++ codes " of the packets\n"))

abbrev pub link_type_words : Option ℕ → List ℕ
link_type_words None = []
link_type_words (Some link) = codes "link type " ++ (decimal link ++ codes " is")

abbrev pub ether_type_words : Option ℕ → List ℕ
ether_type_words None = []
ether_type_words (Some type) = codes "type 0x" ++ (digits 16 false type ++ codes " of Ethernet is")

-- the lines on packets of the first kind, and of the others
abbrev pub kinds_words : (first others : List ℕ) → Tally → List ℕ
kinds_words first others t = so_many_unread first t.count ++ so_many_unread others t.others

abbrev pub link_words : Tally → List ℕ
link_words t = kinds_words (link_type_words t.kind) (codes "other link types are") t

abbrev pub ether_words : Tally → List ℕ
ether_words t = kinds_words (ether_type_words t.kind) (codes "other types of Ethernet are") t

-- the lines on packets that aren't read
abbrev pub unread_words : UnreadPackets → List ℕ
unread_words u = link_words u.link_types ++ (ether_words u.ether_types ++ so_many_unread (codes "fragments are") u.fragments)

-- how many aren't read, at most 2 ^ 64 - 1
abbrev pub unread_sum : UnreadPackets → ℕ
unread_sum u = min (((u.link_types.count + u.link_types.others) + (u.ether_types.count + u.ether_types.others)) + u.fragments) (2 ^ 64 - 1)
