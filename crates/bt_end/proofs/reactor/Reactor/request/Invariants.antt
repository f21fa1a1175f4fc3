use Rattle.bt_end.proofs.Asking.{IsAsking}
use Rattle.bt_end.proofs.reactor.Reactor.request.Given as goal

-- what is queued so far
abbrev pub invariant-requests : goal.invariant-requests
invariant-requests g l = IsAsking l.fn.self l.self l._request
