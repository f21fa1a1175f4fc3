use Rattle.std.proofs.Common.{◌++◌, ◌∷◌, [], ◌+◌, ◌<◌, All, drop, get_or, length, map, subst, sym, ap, ◌∙◌, append_assoc, arith, string_bytes}
use Rattle.std.proofs.lemmas.Grind.{common_steps}
use Rattle.std.proofs.lemmas.List.{get_or-map}
use Rattle.std.proofs.lemmas.List.Elements.{All-append}
use Rattle.bt_magnet.specs.Lists.{entries_of, IsWrongLine}
use Rattle.bt_magnet.specs.Peers.{IsPeer}
use Rattle.bt_magnet.proofs.Values.{entries_at, wrong_line}
use Rattle.bt_magnet.proofs.list.read_lines.Goals as goal

pub returns-then-not-branch-clause-error : goal.returns-then-not-branch-clause-error
returns-then-not-branch-clause-error c =
    let i = c.loop-line.line-index in
    let lines = c.args.lines.now in
    let wrong = c.in_ok-add_entry.ensures.none c.if-not-branch.true in
    let within : i < length (map (λ s. s.now) lines) = grind (arith, common_steps) in
    subst (λ n. IsWrongLine (map (λ s. s.now) lines) (n + 1)) (sym c.loop-line.invariant.2)
    (wrong_line (map (λ s. s.now) lines) i (get_or lines i (record { ref_ptr = (0, 0); now = [] })).now within
    (sym (get_or-map (λ s. s.now) lines i (record { ref_ptr = (0, 0); now = [] }) [] (omega arith))) wrong.0 wrong.1)

pub loop-line-preserved : goal.loop-line-preserved
loop-line-preserved c =
    let i = c.loop-line.line-index in
    let lines = c.args.lines.now in
    let line = (get_or lines i (record { ref_ptr = (0, 0); now = [] })).now in
    let within : i < length (map (λ s. s.now) lines) = grind (arith, common_steps) in
    let step = entries_at (map (λ s. s.now) lines) i line (map string_bytes c.loop-line.peers.items) within
    (sym (get_or-map (λ s. s.now) lines i (record { ref_ptr = (0, 0); now = [] }) [] (omega arith))) c.loop-line.invariant.0 in
    let added = c.in_ok-add_entry.ensures.added c.if-not-branch.false in (
      step ∙ sym (append_assoc (map string_bytes c.loop-line.peers.items) (entries_of (line ∷ [])) (entries_of (drop (i + 1) (map (λ s. s.now) lines))))
          ∙ ap (λ x. x ++ entries_of (drop (i + 1) (map (λ s. s.now) lines))) (sym added),
      subst (All IsPeer) (sym added) (All-append IsPeer _ _ c.loop-line.invariant.1 (c.in_ok-add_entry.ensures.peer c.if-not-branch.false)),
      ap (λ n. n + 1) c.loop-line.invariant.2,
    )
