-- Addresses as text.
use Rattle.std.specs.Prelude.{ℕ, List, ◌++◌, codes, decimal}
use Rattle.std.specs.Net.Addr.{segments_of}
use Rattle.std.specs.Net.Text.{ipv4_text, ipv6_text}
use Rattle.bt_packet.specs.declared.address.Host.{Host}
use Rattle.bt_packet.specs.declared.address.Host.TheVariants.{V4, V6}
use Rattle.bt_packet.specs.declared.address.Address.{Address}

-- An IPv6 address is written as RFC 5952 says, in brackets (RFC 3986 3.2.2): eight groups of hex digits in lower case without leading
-- zeros, with colons between them; `::` in place of the longest run of two or more groups that are 0, of equal runs the first; an
-- IPv4-mapped address ends in the IPv4 address.
unfoldable pub host_text : Host → List ℕ
host_text (V4 bytes) = ipv4_text bytes
host_text (V6 bytes) = codes "[" ++ (ipv6_text (segments_of bytes) ++ codes "]")

abbrev pub address_text : Address → List ℕ
address_text a = host_text a.host ++ (codes ":" ++ decimal a.port)
