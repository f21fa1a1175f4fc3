use Rattle.std.proofs.Common.{◌∙◌, sym, ap, Some, arith}
use Rattle.bt_bencode.specs.declared.scan.Container.{Container}
use Rattle.bt_bencode.proofs.Tokens.{end_leads, value_in_list, key_leads, leads_on, found_within}
use Rattle.bt_bencode.proofs.scan.item_end.Goals as goal
use Rattle.bt_bencode.proofs.scan.item_end.Goals.{in-List, in-Dict+in-Some-string_end}

pub returns-then-payload-at-eq101-clause-item : goal.returns-then-payload-at-eq101-clause-item
returns-then-payload-at-eq101-clause-item c = rw c.pop.ensures (end_leads c.args.payload.now c.args.at c.args.stack.now c.in-Some.kind (omega arith)
    (sym c.in-Some.ensures) c.if-payload-at-eq101.true)

pub returns-clause-item : goal.returns-clause-item
returns-clause-item c =
    let payload = c.args.payload.now in
    let at = c.args.at in
    let s = c.args.stack.now in
    let s' = c.value_end.new.stack in
    elim c.match-kind.branch [
      | in-List w ↦ found_within c.value_end.result _ _ _ _ c.value_end.ensures.within c.value_end.ensures.value
          (λ end within leads. value_in_list payload at end s (omega arith) (omega (arith, w.value-is, within)) s' (sym c.in-Some.ensures
          ∙ ap (λ (k : Container). Some k) w.in-List.is) c.if-payload-at-eq101.false (rw w.value-is at leads))
      | in-Dict+in-Some-string_end w ↦ found_within c.value_end.result _ _ _ _ c.value_end.ensures.within c.value_end.ensures.value
          (λ end within leads. leads_on payload at w.in-Some-string_end.end end
          (omega (arith, w.in-Some-string_end.ensures.within)) (omega (arith, w.value-is, within))
          (key_leads payload at w.in-Some-string_end.end s (sym c.in-Some.ensures ∙ ap (λ (k : Container). Some k) w.in-Dict.is)
          w.in-Some-string_end.ensures.key) (rw w.value-is at leads))
    ]
