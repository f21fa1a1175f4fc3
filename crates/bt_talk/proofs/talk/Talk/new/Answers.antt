use Rattle.std.proofs.Common.{◌∙◌, [], refl, sym, ap}
use Rattle.bt_talk.specs.declared.course.Course.{Course}
use Rattle.bt_talk.specs.Pasts.{no_past}
use Rattle.bt_talk.proofs.Items.{no_items}
use Rattle.bt_talk.proofs.talk.Talk.new.Goals as goal

pub returns : goal.returns
returns c = record {
  nothing = record {
    a_is = c.new-3.ensures.is c.args.terms no_past;
    b_is = c.new-4.ensures.is c.args.terms no_past;
    stages = c.new-3.ensures.opening ∙ sym c.new-4.ensures.opening;
    said = record {
      events = [];
      items = λ _. [];
      a_items = no_items c.new-3.result.stage no_past c.new-3.ensures.opening;
      b_items = no_items c.new-4.result.stage no_past c.new-4.ensures.opening;
      watched = c.new-6.ensures;
    };
  };
  ends = c.of.ensures;
  terms_are = refl;
  opening = c.new-3.ensures.opening;
  not_closed = c.new-2.ensures;
  unbegun = c.new.ensures.first;
  no_segment = refl;
  watched = c.new-6.ensures;
  there = refl;
  unmarked = c.new-5.ensures.items;
  unshut = λ k. ap (λ (x : Course). x.is_closed) (c.new.ensures.sides k);
  ungrown = λ k. ap (λ (x : Course). x.grown) (c.new.ensures.sides k);
  unstrayed = λ k. ap (λ (x : Course). x.strays) (c.new.ensures.sides k);
}
