use Rattle.std.proofs.Common.{◌++◌, ◌∙◌, List, ℕ, ap, append_assoc, arith, drop, sym, take}
use Rattle.json.specs.Print.{escape}
use Rattle.bt_json.proofs.EscapeLaws.{escape_parts, kept_on}
use Rattle.bt_json.proofs.texts.push_escaped.Goals as goal

pub loop-rest-preserved : goal.loop-rest-preserved
loop-rest-preserved c =
    let rest = c.loop-rest.rest.now in
    let n = c.in_ok-taken.taken in
    let old = c.loop-rest.lines.items in
    rw c.split_at.ensures.back (record {
      put = ap (λ (l : List ℕ). l ++ escape (drop n rest)) c.in_ok-taken.ensures.taken.2
          ∙ append_assoc old (escape (take n rest)) (escape (drop n rest))
          ∙ (ap (λ (l : List ℕ). old ++ l) (sym (escape_parts n rest)) ∙ c.loop-rest.invariant.put);
      kept = kept_on _ _ _ c.push_front.ensures.kept c.loop-rest.invariant.kept;
      capacity = omega (arith, c.loop-rest.invariant.capacity, c.push_front.ensures.capacity);
    })
