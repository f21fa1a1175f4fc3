use Rattle.std.proofs.Common.{refl, arith}
use Rattle.bt_bencode.proofs.Tokens.{after_i, or_kept}
use Rattle.bt_bencode.proofs.scan.value_end.Goals as goal

pub returns-in-105-clause-value : goal.returns-in-105-clause-value
returns-in-105-clause-value c =
    or_kept c.integer_end.result _ _ _ _ refl c.integer_end.ensures.within c.integer_end.ensures.value
    (λ end within leads. after_i c.args.payload.now c.args.at end c.args.stack.now (omega arith) (omega (arith, within)) c.in-105.is (leads c.args.stack.now))

pub returns-in_default-clause-value : goal.returns-in_default-clause-value
returns-in_default-clause-value c =
    or_kept c.string_end.result _ _ _ _ refl c.string_end.ensures.within c.string_end.ensures.value (λ end within leads. leads c.args.stack.now)
