-- The line on packets of uTP (BEP 29).
use Rattle.std.specs.Prelude.{ℕ, List, [], ◌++◌, Option, Some, None, codes, decimal, if◌then◌else◌}
use Rattle.bt_packet.specs.Addresses.{address_text}
use Rattle.bt_packet.specs.declared.address.Address.{Address}
use Rattle.bt_report.specs.CloseReasons.{reason_text, reason_members}
use Rattle.bt_report.specs.declared.utp.UtpPackets.{UtpPackets}

-- that an end closed, if it said why
abbrev pub closed_text : Address → Option ℕ → List ℕ
closed_text by None = []
closed_text by (Some reason) = codes "; " ++ (address_text by ++ (codes " closed: " ++ reason_text reason))

abbrev pub count_text : UtpPackets → List ℕ
count_text p =
    (if p.is_least then codes "  at least " else codes "  ")
    ++ (decimal p.count ++ (codes " packets of BitTorrent over UDP (BEP 29), read from a SYN on"
    ++ (closed_text p.source p.source_reason ++ (closed_text p.target p.target_reason ++ codes "\n"))))

abbrev pub utp_text : UtpPackets → List ℕ
utp_text p = codes "uTP  " ++ ((address_text p.source ++ (codes " > " ++ address_text p.target)) ++ count_text p)

-- ---- as a JSON object (RFC 8259) on a line

abbrev pub closed_object : Address → ℕ → List ℕ
closed_object by reason = codes "{\"by\":\"" ++ (address_text by ++ (codes "\"," ++ (reason_members reason ++ codes "}")))

-- the ends that said why they closed
abbrev pub closed_member : Address → Option ℕ → Address → Option ℕ → List ℕ
closed_member source None target None = []
closed_member source (Some reason) target None = codes ",\"closed\":[" ++ (closed_object source reason ++ codes "]")
closed_member source None target (Some reason) = codes ",\"closed\":[" ++ (closed_object target reason ++ codes "]")
closed_member source (Some first) target (Some second) =
    codes ",\"closed\":[" ++ (closed_object source first ++ (codes "," ++ (closed_object target second ++ codes "]")))

abbrev pub count_member : UtpPackets → List ℕ
count_member p =
    codes "\",\"packets\":" ++ (decimal p.count ++ ((if p.is_least then codes ",\"at_least\":true" else [])
    ++ (closed_member p.source p.source_reason p.target p.target_reason ++ codes "}}\n")))

abbrev pub utp_object : UtpPackets → List ℕ
utp_object p =
    codes "{\"utp\":{\"source\":\"" ++ ((address_text p.source ++ (codes "\",\"target\":\"" ++ address_text p.target)) ++ count_member p)
