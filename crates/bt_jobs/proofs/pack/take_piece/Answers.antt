use Rattle.std.proofs.Common.{◌≡◌, ◌++◌, List, ℕ, [], Option, None, arith}
use Rattle.std.proofs.lemmas.List.{nil_from_length}
use Rattle.bt_wire.specs.declared.context.Own.{Own}
use Rattle.bt_text.specs.declared.ended.ScriptReason.{ScriptReason}
use Rattle.bt_jobs.specs.PackSteps.{packing, packer, IsReadSo, IsLineEnd}
use Rattle.bt_jobs.proofs.PackPieces.{IsLineRead, nothing_done, all_done, line_done, line_stops, rest_stops, ok_more}
use Rattle.bt_jobs.proofs.pack.take_piece.Goals.{After-take_ended}
use Rattle.bt_jobs.proofs.pack.take_piece.Goals as goal

pub returns-then-len-eq0 : goal.returns-then-len-eq0
returns-then-len-eq0 c =
    ok_more _ _ c.take_lines.result (λ answer k own text lines b e h.
    let empty : c.args.line.now.items ≡ [] = nil_from_length c.args.line.now.items (omega (arith, c.if-len-eq0.true, c.len.ensures)) in
    k own text (packing lines b c.args.out.now.items) c.args.piece.now e
    (nothing_done own text lines b c.args.piece.now [] c.args.judge.now c.args.out.now.items (rw empty at h))) c.take_lines.ensures

pub returns-in_default : goal.returns-in_default
returns-in_default c = λ own text lines b e h.
    let held = rw c.if-not-branch.false at c.in_ok-hold.ensures in
    all_done own text (packing lines b c.args.out.now.items) c.args.piece.now c.args.piece.now c.hold.new.line.items
    (packer c.args.line.now.items c.args.judge.now c.args.out.now.items)
    (nothing_done own text lines b c.args.piece.now c.args.line.now.items c.args.judge.now c.args.out.now.items h)
    (rw c.in_default.is at c.split_line.ensures.cut) held.0

pub returns-then-not-branch : goal.returns-then-not-branch
returns-then-not-branch c = λ own text lines b e h.
    let held = rw c.if-not-branch.true at c.in_ok-hold.ensures in
    rest_stops own text (packing lines b c.args.out.now.items) c.args.piece.now c.args.piece.now c.hold.new.line.items
    (packer c.args.line.now.items c.args.judge.now c.args.out.now.items)
    (nothing_done own text lines b c.args.piece.now c.args.line.now.items c.args.judge.now c.args.out.now.items h)
    (rw c.in_default.is at c.split_line.ensures.cut) (omega (arith, held.1, e))

-- the line of which an earlier chunk had the first part is read
line_read : (c : After-take_ended) (own : Own) (text : List ℕ) (lines : List (List ℕ)) (b : List ℕ)
    (h : IsReadSo own text lines b c.args.line.now.items c.args.judge.now) (answer : Option ScriptReason) → (let d = nothing_done own text lines b
    c.args.piece.now c.args.line.now.items c.args.judge.now c.args.out.now.items h in
    IsLineEnd own (packing (lines ++ d.more) (b ++ d.named) c.args.out.now.items) (c.args.line.now.items ++ c.in-Some.front.now) c.take_ended.new.judge
    c.take_ended.new.out.items answer) → IsLineRead own text (packing lines b c.args.out.now.items) c.args.piece.now c.in-Some.following.now
    (packer c.take_ended.new.line.items c.take_ended.new.judge c.take_ended.new.out.items) answer
line_read c own text lines b h answer end =
    record {
      old = packer c.args.line.now.items c.args.judge.now c.args.out.now.items;
      rest = c.args.piece.now;
      front = c.in-Some.front.now;
      before = nothing_done own text lines b c.args.piece.now c.args.line.now.items c.args.judge.now c.args.out.now.items h;
      cut = c.in-Some.ensures.cut.0;
      none = c.in-Some.ensures.cut.1;
      end = end;
    }

pub returns-in-Some-2 : goal.returns-in-Some-2
returns-in-Some-2 c = λ own text lines b e h.
    let d = nothing_done own text lines b c.args.piece.now c.args.line.now.items c.args.judge.now c.args.out.now.items h in
    line_stops own text _ _ _ _ c.in-Some-2.reason
    (line_read (goal.at.returns-in-Some-2 c).After-take_ended own text lines b h _
    (rw c.in-Some-2.is at c.in_ok-reason.ensures.taken own (lines ++ d.more) (b ++ d.named) e d.read.packed))

pub returns : goal.returns
returns c =
    ok_more _ _ c.take_lines-2.result (λ answer k own text lines b e h.
    let d = nothing_done own text lines b c.args.piece.now c.args.line.now.items c.args.judge.now c.args.out.now.items h in
    let p = packing lines b c.args.out.now.items in
    let none = c.in_default-2.is in
    let empty = c.in_ok-reason.ensures.empty none in
    let line = line_read (goal.at.returns c).After-take_ended own text lines b h None
    (rw none at c.in_ok-reason.ensures.taken own (lines ++ d.more) (b ++ d.named) e d.read.packed) in
    k own text p c.args.piece.now e (rw empty at (line_done own text p c.args.piece.now c.in-Some.following.now
    (packer c.take_ended.new.line.items c.take_ended.new.judge c.take_ended.new.out.items) empty line))) c.take_lines-2.ensures
