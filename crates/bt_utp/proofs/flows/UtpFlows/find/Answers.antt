use Rattle.std.proofs.Common.{◌∙◌, sym}
use Rattle.bt_packet.specs.Utp.{utp_packet}
use Rattle.bt_utp.specs.Flows.{firsts, kept, same_ends, is_from}
use Rattle.bt_utp.proofs.Ends.{there_ends}
use Rattle.bt_utp.proofs.Taking.{place_found, place_missed, found_back}
use Rattle.bt_utp.proofs.flows.UtpFlows.find.Goals as goal

pub returns-in-Some : goal.returns-in-Some
returns-in-Some c ds are =
    let d = utp_packet c.args.datagram.now in
    let place = sym (are.places d.source d.target) ∙ sym c.in-Some.ensures.value in
    let there = place_found (is_from d.source d.target) (firsts same_ends (kept ds)) c.in-Some.place.now place in
    (there.0, there.1, there_ends d there.0 there.2)

pub returns-in-None : goal.returns-in-None
returns-in-None c ds are =
    let d = utp_packet c.args.datagram.now in
    let missed = place_missed (is_from d.source d.target) (firsts same_ends (kept ds)) (sym (are.places d.source d.target) ∙ sym c.in-None.ensures.value) in
    let back = sym (are.places d.target d.source) ∙ sym c.get-in-None.ensures.value ∙ sym c.copied.ensures in
    found_back (firsts same_ends (kept ds)) d c.copied.result missed back
