use Rattle.std.proofs.Common.{ap, sym, ◌∙◌}
use Rattle.bt_ext.specs.Payloads.{seen}
use Rattle.bt_ext.specs.Faults.{fault_of}
use Rattle.bt_ext.specs.declared.ids.Rules.{Rules}
use Rattle.bt_ext.proofs.Allowed.{allowed}
use Rattle.bt_ext.proofs.view.view_ext.Goals as goal

pub returns-in-Ok-default-None-clause-ok : goal.returns-in-Ok-default-None-clause-ok
returns-in-Ok-default-None-clause-ok c =
    let view = c.in-Ok-default-None.view in
    let strict = ap (λ (r : Rules). fault_of r (seen view)) c.in-Bep.is in
    record {
      is = c.in-Ok-default-None.ensures.value;
      allowed = allowed c.args.rules (seen view) (strict ∙ sym c.in-Ok-default-None.ensures.fault ∙ c.in-Ok-default-None.field-0-1-is);
    }
