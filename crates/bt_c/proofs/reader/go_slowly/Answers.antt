use Rattle.std.proofs.Common.{◌≡◌, List, ℕ, length, sym, subst}
use Rattle.bt_wire.specs.Headers.{header_of}
use Rattle.bt_wire.specs.declared.fault.Header.TheVariants as headers
use Rattle.bt_wire.proofs.FrontLaws.{front_full, front_need, front_refused, front_cut, front_whole}
use Rattle.bt_c.specs.Steps.{GoesOver}
use Rattle.bt_c.proofs.StepLaws.{more_opened, fault_opened, over_opened}
use Rattle.bt_c.proofs.reader.go_slowly.Goals as goal

pub returns-then-start-ge-FULL-clause-step : goal.returns-then-start-ge-FULL-clause-step
returns-then-start-ge-FULL-clause-step c = λ opened.
    fault_opened c.args.reader.now c.args.bytes.now c.refused_for.result _ c.context_of-context.result c.order_of-order.result opened
    c.context_of-context.ensures c.order_of-order.ensures
    (front_full c.context_of-context.result c.order_of-order.result c.args.reader.now.start c.args.bytes.now c.if-start-ge-FULL.true) c.refused_for.ensures

pub returns-then-size-bytes-clause-step : goal.returns-then-size-bytes-clause-step
returns-then-size-bytes-clause-step c = λ opened.
    more_opened c.args.reader.now c.args.bytes.now c.args.item.now c.context_of-context.result c.order_of-order.result opened c.context_of-context.ensures
    c.order_of-order.ensures
    (front_cut c.context_of-context.result c.order_of-order.result c.args.reader.now.start c.args.bytes.now c.in-Window.size c.if-start-ge-FULL.false
    (sym c.in-Window.ensures) c.if-size-bytes.true)

pub returns-in-Need-clause-step : goal.returns-in-Need-clause-step
returns-in-Need-clause-step c = λ opened.
    more_opened c.args.reader.now c.args.bytes.now c.args.item.now c.context_of-context.result c.order_of-order.result opened c.context_of-context.ensures
    c.order_of-order.ensures
    (front_need c.context_of-context.result c.order_of-order.result c.args.reader.now.start c.args.bytes.now _ c.if-start-ge-FULL.false (sym c.in-Need.ensures))

pub returns-in-Refused-clause-step : goal.returns-in-Refused-clause-step
returns-in-Refused-clause-step c = λ opened.
    fault_opened c.args.reader.now c.args.bytes.now c.refused_for-in-Refused.result (record { at = c.in-Refused.at; reason = c.in-Refused.reason })
    c.context_of-context.result c.order_of-order.result opened c.context_of-context.ensures c.order_of-order.ensures
    (front_refused c.context_of-context.result c.order_of-order.result c.args.reader.now.start c.args.bytes.now
    (record { at = c.in-Refused.at; reason = c.in-Refused.reason }) c.if-start-ge-FULL.false (sym c.in-Refused.ensures)) c.refused_for-in-Refused.ensures

pub go_over-requires-clause-window : goal.go_over-requires-clause-window
go_over-requires-clause-window c =
    let P : List ℕ → Type 0 = λ z. header_of c.context_of-context.result c.order_of-order.result z ≡ headers.Window (length z) in
    subst P (sym c.first.ensures) (front_whole c.context_of-context.result c.order_of-order.result c.args.bytes.now c.in-Window.size
    (sym c.in-Window.ensures) c.if-size-bytes.false).header

pub returns-else-size-bytes-clause-step : goal.returns-else-size-bytes-clause-step
returns-else-size-bytes-clause-step c = λ opened.
    let context = c.context_of-context.result in let order = c.order_of-order.result in let r = c.args.reader.now in let b = c.args.bytes.now in let n =
    c.in-Window.size in
    let P : List ℕ → Type 0 = λ z. GoesOver context order r z c.go_over.new.reader c.go_over.new.item c.go_over.result in
    over_opened opened c.context_of-context.ensures c.order_of-order.ensures
    c.if-start-ge-FULL.false c.if-size-bytes.false
    (front_whole context order b n (sym c.in-Window.ensures) c.if-size-bytes.false) (subst P c.first.ensures c.go_over.ensures.over)
