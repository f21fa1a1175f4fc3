use Rattle.std.proofs.Common.{ap}
use Rattle.std.specs.Prelude.{unwrap_or}
use Rattle.bt_wire.specs.Handshakes.{negotiated}
use Rattle.bt_feed.specs.Senders.{believed}
use Rattle.bt_end.specs.Ends.{no_extension}
use Rattle.bt_end.proofs.laws.belief_is_peer_context.Goals as goal

pub returns : goal.returns
returns c = λ e theirs h. ap (λ agreed. believed e.own agreed e.table) (ap (λ o. unwrap_or o (negotiated e.own no_extension)) h)
