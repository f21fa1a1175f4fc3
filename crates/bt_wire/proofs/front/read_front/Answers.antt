use Rattle.std.proofs.Common.{sym}
use Rattle.bt_wire.proofs.FrontLaws.{front_full, front_need, front_refused, front_cut, front_whole, front_read, front_fault}
use Rattle.bt_wire.proofs.front.read_front.Goals as goal

pub returns-then-start-ge-END : goal.returns-then-start-ge-END
returns-then-start-ge-END c = front_full _ _ _ _ c.if-start-ge-END.true

pub returns-then-length-bytes : goal.returns-then-length-bytes
returns-then-length-bytes c = front_cut _ _ _ _ _ c.if-start-ge-END.false (sym c.in-Window.ensures) c.if-length-bytes.true

pub view_window-requires : goal.view_window-requires
view_window-requires c = (front_whole _ _ _ _ (sym c.in-Window.ensures) c.if-length-bytes.false).header

pub returns-in-Need : goal.returns-in-Need
returns-in-Need c = front_need _ _ _ _ _ c.if-start-ge-END.false (sym c.in-Need.ensures)

pub returns-in-Refused : goal.returns-in-Refused
returns-in-Refused c = front_refused _ _ _ _ (record { at = c.in-Refused.at; reason = c.in-Refused.reason }) c.if-start-ge-END.false (sym c.in-Refused.ensures)

pub returns-in-Ok : goal.returns-in-Ok
returns-in-Ok c = front_read _ _ _ _ _ _ c.if-start-ge-END.false c.if-length-bytes.false c.in-Ok.ensures.ok

pub returns-in-Err : goal.returns-in-Err
returns-in-Err c = front_fault _ _ _ _ _ _ c.if-start-ge-END.false (front_whole _ _ _ _ (sym c.in-Window.ensures) c.if-length-bytes.false) c.in-Err.ensures.err
