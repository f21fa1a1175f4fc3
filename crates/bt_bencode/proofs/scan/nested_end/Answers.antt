use Rattle.std.proofs.Common.{arith}
use Rattle.bt_bencode.proofs.Tokens.{nested_leads}
use Rattle.bt_bencode.proofs.scan.nested_end.Goals as goal

pub returns-else-depth-eq-MAX_NESTING-clause-value : goal.returns-else-depth-eq-MAX_NESTING-clause-value
returns-else-depth-eq-MAX_NESTING-clause-value c = rw c.push.ensures (nested_leads c.args.payload.now c.args.at c.args.stack.now c.args.kind
    c.requires.within c.requires.opens (omega arith))
