use Rattle.std.proofs.Common.{refl, inr, arith}
use Rattle.bt_wire.proofs.ValueLaws.{kept_by, judged, illegal_id, illegal_fields, refused_id, refused_fields, same_id, same_field, in_range}
use Rattle.bt_wire.proofs.encoding.judge_value.Goals as goal

pub returns-in-Some : goal.returns-in-Some
returns-in-Some c =
    let f = c.in-Some.field-0 in
    let broken = same_id c.args.context.now c.args.order c.args.message.now c.args.length _ _ c.requires.size c.id.ensures.value c.in-Some.ensures in
    (illegal_id _ _ _ f broken, inr (omega arith, (f.at, refused_id _ _ _ f (omega arith) (omega arith) broken)))

pub judge_message-requires : goal.judge_message-requires
judge_message-requires c =
    let none = same_id c.args.context.now c.args.order c.args.message.now c.args.length _ _ c.requires.size c.id.ensures.value c.in_default.ensures in
    (kept_by c.args.context.now c.args.order c.args.message.now c.requires.shaped none).sized

pub returns-in-Some-judge_message : goal.returns-in-Some-judge_message
returns-in-Some-judge_message c =
    let f = c.in-Some-judge_message.field-0 in
    let none = same_id c.args.context.now c.args.order c.args.message.now c.args.length _ _ c.requires.size c.id.ensures.value c.in_default.ensures in
    let broken = same_field c.args.context.now c.args.message.now c.args.length _ _ c.requires.size refl c.in-Some-judge_message.ensures.value in
    let range = in_range c.args.context.now c.args.message.now _ _ c.id.ensures.value c.id.ensures.in_range refl c.in-Some-judge_message.ensures.in_range in
    (illegal_fields _ _ _ _ f broken, inr (omega arith, (f.at, refused_fields _ _ _ f c.requires.shaped range (omega arith) (omega arith) none broken)))

pub returns : goal.returns
returns c =
    let none = same_id c.args.context.now c.args.order c.args.message.now c.args.length _ _ c.requires.size c.id.ensures.value c.in_default.ensures in
    let broken = same_field c.args.context.now c.args.message.now c.args.length _ _ c.requires.size refl c.in_default-judge_message.ensures.value in
    judged _ _ _ _ c.requires.shaped (omega arith) (omega arith) none broken c.judge_extended.ensures
