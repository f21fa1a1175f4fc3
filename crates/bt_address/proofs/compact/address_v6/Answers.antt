use Rattle.std.proofs.Common.{rules, refl, ap, ◌∙◌}
use Rattle.std.specs.Net.Addr.{octets_of}
use Rattle.bt_address.specs.Compact.{port_bytes}
use Rattle.bt_address.proofs.Octets.{octets_whole, port_whole}
use Rattle.bt_address.proofs.compact.address_v6.Goals as goal

pub returns-clause-bytes : goal.returns-clause-bytes
returns-clause-bytes c =
    let ip = ap octets_of c.from_octets.ensures ∙ octets_whole 8 c.args.ip (search rules) (search rules) in
    let port = ap port_bytes c.from_be_bytes-port.ensures ∙ port_whole c.args.port (search rules) (search rules) in
    rw (c.new.ensures.ip, c.new.ensures.port, ip, port) refl
