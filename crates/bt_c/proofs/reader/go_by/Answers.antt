use Rattle.std.proofs.Common.{◌≡◌, List, ℕ, length, sym, subst}
use Rattle.bt_wire.specs.Headers.{header_of}
use Rattle.bt_wire.specs.declared.fault.Header.TheVariants as headers
use Rattle.bt_wire.proofs.FrontLaws.{front_whole}
use Rattle.bt_c.specs.Steps.{GoesOver}
use Rattle.bt_c.proofs.StepLaws.{over_opened, over_size}
use Rattle.bt_c.proofs.reader.go_by.Goals as goal

pub go_quickly-answer-requires-clause-window : goal.go_quickly-answer-requires-clause-window
go_quickly-answer-requires-clause-window c =
    let P : List ℕ → Type 0 = λ z. header_of c.args.context.now c.order_of-order.result z ≡ headers.Window (length z) in
    subst P (sym c.first-window.ensures) (front_whole c.args.context.now c.order_of-order.result c.args.bytes.now c.in-Some.size c.in-Some.ensures
    c.if-size-bytes.true).header

pub returns-then-size-bytes-clause-step : goal.returns-then-size-bytes-clause-step
returns-then-size-bytes-clause-step c = λ opened.
    let context = c.args.context.now in let order = c.order_of-order.result in let r = c.args.reader.now in let b = c.args.bytes.now in
    let n = c.in-Some.size in
    let s = c.go_quickly-answer.new.reader in let i = c.go_quickly-answer.new.item in let k = c.go_quickly-answer.result in
    let P : List ℕ → Type 0 = λ z. GoesOver context order r z s i k in
    over_opened opened c.requires.context c.order_of-order.ensures
    c.if-reader-lt-FULL.true c.if-size-bytes.true
    (front_whole context order b n c.in-Some.ensures c.if-size-bytes.true) (subst P c.first-window.ensures c.go_quickly-answer.ensures.over)

pub returns-then-size-bytes-clause-size : goal.returns-then-size-bytes-clause-size
returns-then-size-bytes-clause-size c = λ one. over_size c.args.context.now c.order_of-order.result c.args.reader.now c.first-window.result.now
    c.go_quickly-answer.new.reader c.go_quickly-answer.new.item c.go_quickly-answer.result c.go_quickly-answer.ensures.over one
