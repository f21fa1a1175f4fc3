use Rattle.std.proofs.Common.{◌≡◌, ◌∙◌, ◌++◌, Option, None, List, ℕ, [], length, true, refl, sym, ap, arith, rules}
use Rattle.std.proofs.lemmas.List.{length-append}
use Rattle.bt_wire.specs.declared.context.Own.{Own}
use Rattle.bt_text.specs.declared.ended.ScriptReason.{ScriptReason}
use Rattle.bt_text.specs.declared.ended.ScriptReason.TheVariants.{Syntax}
use Rattle.bt_jobs.specs.Packs.{is_none}
use Rattle.bt_jobs.specs.PackSteps.{Packing, packer, IsDone}
use Rattle.bt_jobs.proofs.Packing.{first_flag, read_as, no_line, taken_so_far}
use Rattle.bt_jobs.proofs.PackPieces.{IsLineRead, all_done, line_done, line_stops, rest_stops}
use Rattle.bt_jobs.proofs.pack.take_lines.Goals.{After-judge_added, In-Unended}
use Rattle.bt_jobs.proofs.pack.take_lines.Goals as goal

-- the line in front is read
line_read : (c : After-judge_added) (own : Own) (before : List ℕ) (p : Packing) (piece : List ℕ) → c.args.limit ≡ own.limit
    → IsDone own before p piece c.args.text.now (packer [] c.args.judge.now c.args.out.now.items) → (answer : Option ScriptReason) → c.judge_added.result
    ≡ answer → IsLineRead own before p piece c.in-Line.following.now (packer [] c.judge_added.new.judge c.judge_added.new.out.items) answer
line_read c own before p piece e start answer is =
    let d = c.lines.invariant.taken own before p piece e start in
    let lines = p.lines ++ d.more in
    let s = rw c.in-Line.is at c.in_ok-append_front.ensures in
    let flag = first_flag own lines (p.bytes ++ d.named) c.lines.judge c.number.result d.read.packed c.number.ensures.value in
    let named = read_as own.limit _ (is_none lines) s.line c.lines.out.items c.append_front.new.out.items true refl flag (omega (arith, s.short, e)) s.added in
    record {
      old = packer [] c.lines.judge c.lines.out.items;
      rest = c.lines.rest.now;
      front = s.line;
      before = d;
      cut = s.cut.0;
      none = s.cut.1;
      end = rw is at (c.judge_added.ensures own lines (p.bytes ++ d.named) s.line c.lines.out.items d.read.packed (search rules) named);
    }

pub returns-in-Some : goal.returns-in-Some
returns-in-Some c = λ own before p piece e start.
    line_stops own before p piece _ _ c.in-Some.reason
    (line_read (goal.at.returns-in-Some c).After-judge_added own before p piece e start _ c.in-Some.is)

pub lines-preserved : goal.lines-preserved
lines-preserved c = record {
  empty = c.lines.invariant.empty;
  taken = λ own before p piece e start.
      line_done own before p piece _ _ refl
      (line_read (goal.at.lines-preserved c).After-judge_added own before p piece e start None c.in_default.is);
}

pub returns-in-Syntax : goal.returns-in-Syntax
returns-in-Syntax c = λ own before p piece e start.
    let d = c.lines.invariant.taken own before p piece e start in
    let lines = p.lines ++ d.more in
    let s = rw c.in-Syntax.is at c.in_ok-append_front.ensures in
    let so_far = taken_so_far own lines (p.bytes ++ d.named) c.lines.judge d.read.packed in
    let flag = first_flag own lines (p.bytes ++ d.named) c.lines.judge c.number.result d.read.packed c.number.ensures.value in
    line_stops own before p piece s.rest (packer [] c.lines.judge c.append_front.new.out.items) Syntax (record {
      old = packer [] c.lines.judge c.lines.out.items;
      rest = c.lines.rest.now;
      front = s.line;
      before = d;
      cut = s.cut.0;
      none = s.cut.1;
      end = (s.same, d.read.packed.count, (so_far.0, so_far.1.taken, no_line own.limit c.args.limit _ (is_none lines) s.line e flag s.none));
    })

-- the rest has no line feed
rest_done : (c : In-Unended) (own : Own) (before : List ℕ) (p : Packing) (piece : List ℕ) → c.args.limit ≡ own.limit
    → IsDone own before p piece c.args.text.now (packer [] c.args.judge.now c.args.out.now.items)
    → IsDone own before p piece c.lines.rest.now (packer [] c.lines.judge c.append_front.new.out.items)
rest_done c own before p piece e start =
    let s = rw c.in-Unended.is at c.in_ok-append_front.ensures in
    (rw (sym s.1) at (c.lines.invariant.taken own before p piece e start))

pub returns-in-Unended : goal.returns-in-Unended
returns-in-Unended c = λ own before p piece e start.
    let s = rw c.in-Unended.is at c.in_ok-append_front.ensures in
    let held = rw c.if-not-branch.false at c.in_ok-hold-in-Unended.ensures in
    all_done own before p piece c.lines.rest.now c.hold.new.line.items (packer [] c.lines.judge c.append_front.new.out.items)
    (rest_done (goal.at.returns-in-Unended c).In-Unended own before p piece e start) s.0
    (held.0 ∙ ap (λ (l : List ℕ). l ++ c.lines.rest.now) c.lines.invariant.empty)

pub returns-then-not-branch : goal.returns-then-not-branch
returns-then-not-branch c = λ own before p piece e start.
    let s = rw c.in-Unended.is at c.in_ok-append_front.ensures in
    let held = rw c.if-not-branch.true at c.in_ok-hold-in-Unended.ensures in
    rest_stops own before p piece c.lines.rest.now c.hold.new.line.items (packer [] c.lines.judge c.append_front.new.out.items)
    (rest_done (goal.at.returns-then-not-branch c).In-Unended own before p piece e start) s.0
    (omega (arith, held.1, e, ap length c.lines.invariant.empty, length-append c.lines.line.items c.lines.rest.now))
