use Rattle.std.proofs.Common.{arith}
use Rattle.bt_bencode.proofs.Heads.{nonempty, string_there}
use Rattle.bt_bencode.proofs.Lookups.{text_in, no_text_in}
use Rattle.bt_bencode.proofs.skip.text_in.Goals as goal

pub bounds-value-0 : goal.bounds-value-0
bounds-value-0 c = nonempty c.args.value.now c.requires

pub split_string-requires : goal.split_string-requires
split_string-requires c = string_there c.args.value.now c.requires (λ e. omega arith) (λ e. omega arith) (λ e. omega arith)

pub returns-in-105 : goal.returns-in-105
returns-in-105 c = λ t more h is. no_text_in c.args.value.now t more (omega arith) h is

pub returns-in-108 : goal.returns-in-108
returns-in-108 c = λ t more h is. no_text_in c.args.value.now t more (omega arith) h is

pub returns-in-100 : goal.returns-in-100
returns-in-100 c = λ t more h is. no_text_in c.args.value.now t more (omega arith) h is

pub returns-in_default : goal.returns-in_default
returns-in_default c = λ t more h is. text_in c.args.value.now c.split_string.result.1.now t more (λ e. omega arith)
    (λ e. omega arith) (λ e. omega arith) c.split_string.ensures.short c.split_string.ensures.split h is
