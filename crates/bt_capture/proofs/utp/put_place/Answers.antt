use Rattle.std.proofs.Common.{string_bytes}
use Rattle.std.proofs.lemmas.Result.{on_ok_weaker}
use Rattle.bt_utp.specs.Flows.{flows}
use Rattle.bt_capture.proofs.FlowLines.{more, no_more}
use Rattle.bt_capture.proofs.utp.put_place.Goals as goal

pub returns-in-Some : goal.returns-in-Some
returns-in-Some c =
    on_ok_weaker c.put_flow.result
    (λ is ds are so_far. more c.args.json (flows ds) c.args.place c.in-Some.flow _ _ (c.in-Some.ensures ds are) so_far is) c.put_flow.ensures

pub returns-in-None : goal.returns-in-None
returns-in-None c ds are so_far = no_more c.args.json (flows ds) c.args.place (string_bytes c.args.text.now) (c.in-None.ensures ds are) so_far
