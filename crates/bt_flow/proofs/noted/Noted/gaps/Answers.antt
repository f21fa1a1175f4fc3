use Rattle.std.proofs.Common.{sym, subst}
use Rattle.bt_tcp.specs.Covered.{IsTable}
use Rattle.bt_flow.proofs.noted.Noted.gaps.Goals as goal

pub gaps-requires : goal.gaps-requires
gaps-requires c = subst (λ t. IsTable c.args.self.now.spans t) (sym c.deref.ensures.value) (record {
  fits = c.args.self.now.fits;
  apart
      = c.args.self.now.apart;
})
