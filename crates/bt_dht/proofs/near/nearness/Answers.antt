use Rattle.std.proofs.Common.{rules, sym, ◌∙◌}
use Rattle.bt_dht.proofs.Distances.{by_number, is_same, only_same, Ids}
use Rattle.bt_dht.proofs.near.nearness.Goals as goal

pub returns-clause-number : goal.returns-clause-number
returns-clause-number c =
    let ids : Ids c.args.a c.args.b c.args.info_hash = record {
      a_long = search rules;
      b_long = search rules;
      hash_long = search rules;
      a_small = search rules;
      b_small = search rules;
      hash_small = search rules;
    } in
    c.cmp.ensures ∙ by_number c.args.a c.args.b c.args.info_hash _ _ ids c.distance-from_a.ensures c.distance-from_b.ensures

pub returns-clause-same : goal.returns-clause-same
returns-clause-same c =
    let ids : Ids c.args.a c.args.b c.args.info_hash = record {
      a_long = search rules;
      b_long = search rules;
      hash_long = search rules;
      a_small = search rules;
      b_small = search rules;
      hash_small = search rules;
    } in (
      λ h. only_same c.args.a c.args.b c.args.info_hash _ _ ids c.distance-from_a.ensures c.distance-from_b.ensures (sym c.cmp.ensures ∙ h),
      λ h. c.cmp.ensures ∙ is_same c.args.a c.args.b c.args.info_hash _ _ c.distance-from_a.ensures c.distance-from_b.ensures h,
    )
