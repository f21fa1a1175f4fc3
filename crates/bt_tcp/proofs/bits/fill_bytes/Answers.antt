use Rattle.std.proofs.Common.{inl, inr, ◌∙◌}
use Rattle.bt_tcp.proofs.BitProofs.{filled_bytes}
use Rattle.bt_tcp.proofs.bits.fill_bytes.Goals as goal

pub returns : goal.returns
returns c = filled_bytes c.args.bits.now _ c.args.from c.args.to c.args.value (λ i m n. c.put_bytes.ensures.inside i m n ∙ c.whole.ensures)
    (λ i o. elim o [ inl x ↦ c.put_bytes.ensures.before i x | inr x ↦ c.put_bytes.ensures.after i x ])
