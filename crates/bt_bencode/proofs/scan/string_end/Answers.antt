use Rattle.std.proofs.Common.{sym, ◌∙◌}
use Rattle.bt_bencode.proofs.Tokens.{string_within, string_value, string_key}
use Rattle.bt_bencode.proofs.scan.string_end.Goals as goal

pub returns-clause-within : goal.returns-clause-within
returns-clause-within c = string_within c.args.payload.now c.in_ok-rest.field-0-0.now c.in_ok-rest.rest.now c.args.at c.requires
    (sym c.suffix.ensures ∙ c.in_ok-rest.ensures.split)

pub returns-clause-value : goal.returns-clause-value
returns-clause-value c = λ stack. string_value c.args.payload.now c.in_ok-rest.field-0-0.now c.in_ok-rest.rest.now c.args.at c.requires
    c.in_ok-rest.ensures.short (sym c.suffix.ensures ∙ c.in_ok-rest.ensures.split) stack

pub returns-clause-key : goal.returns-clause-key
returns-clause-key c = λ stack. string_key c.args.payload.now c.in_ok-rest.field-0-0.now c.in_ok-rest.rest.now c.args.at c.requires
    c.in_ok-rest.ensures.short (sym c.suffix.ensures ∙ c.in_ok-rest.ensures.split) stack
