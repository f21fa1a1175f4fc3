-- Packets of which nothing is read, and why.
use Rattle.std.specs.Prelude.{ℕ, ◌-◌, ◌^◌, ◌==◌, min, not, Bool, true, false, List, [], ◌∷◌, length, Some, None}
use Rattle.std.specs.List.{filter, flat_map}
use Rattle.bt_packet.specs.declared.unread.Unread.{Unread}
use Rattle.bt_packet.specs.declared.unread.Unread.TheVariants.{LinkType, EtherType, Fragment, Other}
use Rattle.bt_pcap.specs.Formats.{Captured}
use Rattle.bt_capture.specs.Sights.{Seen, SawSegment, SawUtp, SawOther, seen_in}
use Rattle.bt_capture.specs.declared.unread.Tally.{Tally}
use Rattle.bt_capture.specs.declared.unread.UnreadPackets.{UnreadPackets}

abbrev pub so_many : {A : Type 0} → (A → Bool) → List A → ℕ
so_many test xs = min (length (filter test xs)) (2 ^ 64 - 1)

-- how many are of the first kind, and how many of another
abbrev pub tally : List ℕ → Tally
tally [] = record { kind = None; count = 0; others = 0 }
tally (k ∷ ks) = record { kind = Some k; count = so_many (λ j. k == j) (k ∷ ks); others = so_many (λ j. not (k == j)) (k ∷ ks) }

-- the link types among the reasons, in order
unfoldable pub link_types : List Unread → List ℕ
link_types [] = []
link_types (LinkType link ∷ ws) = link ∷ link_types ws
link_types (EtherType type ∷ ws) = link_types ws
link_types (Fragment ∷ ws) = link_types ws
link_types (Other ∷ ws) = link_types ws

-- the types of Ethernet among them
unfoldable pub ether_types : List Unread → List ℕ
ether_types [] = []
ether_types (LinkType link ∷ ws) = ether_types ws
ether_types (EtherType type ∷ ws) = type ∷ ether_types ws
ether_types (Fragment ∷ ws) = ether_types ws
ether_types (Other ∷ ws) = ether_types ws

abbrev pub is_fragment : Unread → Bool
is_fragment (LinkType link) = false
is_fragment (EtherType type) = false
is_fragment Fragment = true
is_fragment Other = false

-- how many packets there are of which nothing is read, by these reasons
abbrev pub unread_packets : List Unread → UnreadPackets
unread_packets ws = record {
  link_types = tally (link_types ws);
  ether_types = tally (ether_types ws);
  fragments = so_many is_fragment ws;
}

-- ---- those of a capture

abbrev pub why_in : Seen → List Unread
why_in (SawSegment s) = []
why_in (SawUtp d) = []
why_in (SawOther why) = why ∷ []

-- why nothing is read of each packet that carries neither a segment nor a packet of uTP, in order
abbrev pub whys : List Captured → List Unread
whys packets = flat_map (λ p. why_in (seen_in p.link p.bytes p.original)) packets
