use Rattle.std.proofs.Common.{◌+◌, ◌%◌, ◌∙◌, ℕ, Option, Bool, ap, arith, refl, nat_cmp, unwrap_or, false}
use Rattle.std.specs.BTreeMap.{get}
use Rattle.bt_utp.proofs.Counting.{AreAround, near_from, at_next, at_last, each, small_more, count_stepped, four, bit}
use Rattle.bt_utp.proofs.ids.Ids.take.Goals as goal

pub returns-clause-ok : goal.returns-clause-ok
returns-clause-ok c ids are =
    let k = c.args.id in
    let n = (k + 1) % 65536 in
    let l = (k + 65535) % 65536 in
    let h : AreAround k n l = (omega arith, refl, omega arith, omega arith) in
    let near = c.has_near-is_near.result in
    let before : ℕ → Option Bool = get nat_cmp c.args.self.now.alone in
    let put_in : ℕ → Option Bool = get nat_cmp c.insert.new.self in
    let mid : ℕ → Option Bool = get nat_cmp c.join.new.self.alone in
    let end : ℕ → Option Bool = get nat_cmp c.join-2.new.self.alone in
    let first = c.in_ok-insert.ensures.updates.0 in
    let second = c.join.ensures.others in
    let e = near_from k n l ids before near h are.small are.alone c.has_near-is_near.ensures in
    record {
      small = small_more ids k h.0 are.small;
      alone = each k n l near ids before put_in mid end h are.alone first second are.small e c.join-2.ensures.others;
      count = count_stepped k n l c.join-2.new.self.count c.saturating_add-self.result near ids
          (c.one_if.result + c.one_if-2.result + c.join.result + c.join-2.result) h are.small e
          (c.join-2.ensures.count ∙ c.join.ensures.count ∙ are.count) c.saturating_add-self.ensures
          (four c.one_if.result c.one_if-2.result c.join.result c.join-2.result _ _ _ _ c.one_if.ensures
          (c.one_if-2.ensures ∙ ap bit (c.unwrap_or-was_alone.ensures ∙ ap (λ o. unwrap_or o false) (c.in_ok-insert.ensures.old ∙ are.alone k)))
          (c.join.ensures.more ∙ ap (λ o. bit (unwrap_or o false)) (at_next k n l near ids before put_in mid end h are.alone first second))
          (c.join-2.ensures.more ∙ ap (λ o. bit (unwrap_or o false)) (at_last k n l near ids before put_in mid end h are.alone first second)));
    }
