use Rattle.std.proofs.Common.{◌≡◌, ℕ, ◌∷◌, List, refl, sym, ap, subst}
use Rattle.bt_feed.specs.Views.{item_of}
use Rattle.bt_remarks.specs.declared.matcher.Matcher.{Matcher}
use Rattle.bt_remarks.specs.Matched.{IsMatched}
use Rattle.bt_remarks.specs.Remarked.{remarks_on}
use Rattle.bt_remarks.specs.Said.{Told, message_of}
use Rattle.bt_rows.specs.declared.said.Said.{Said}
use Rattle.bt_wire.specs.declared.item.Item.{Item}
use Rattle.bt_talk.specs.declared.watch.Watch.{Watch}
use Rattle.bt_talk.specs.Watching.{told_of}
use Rattle.bt_talk.proofs.Watching.{noted_both, matched_by}
use Rattle.bt_talk.proofs.watch.WatchSink.item.Goals as goal

pub returns-in-Ok-keep-clause-items : goal.returns-in-Ok-keep-clause-items
returns-in-Ok-keep-clause-items c =
    let w = c.args.self.now in
    let x : ℕ × Item = (c.args.at, item_of c.args.view.now) in
    let said : Said = record { offset = c.args.at; words = c.of.result } in
    let rest = c.keep.ensures.rest in
    let told = told_of w.side w.known x in
    record {
      side = ap (λ (k : Watch). k.side) rest;
      known = ap (λ (k : Watch). k.known) rest;
      when = ap (λ (k : Watch). k.when) rest;
      said = said;
      is = record { offset = refl; words = c.of.ensures.text };
      remarks = c.in-Ok.remarks;
      rows = c.in-Ok-keep.ensures.rows;
      notes = λ s. noted_both w c.keep.new.self c.in-Ok.remarks said w.side s c.in-Ok-keep.ensures.a c.in-Ok-keep.ensures.b;
      matched = subst (λ (m : Matcher). (events : List Told) → IsMatched events w.matcher → (c.in-Ok.remarks ≡ remarks_on told events)
          × IsMatched (told ∷ events) m) (sym (ap (λ (k : Watch). k.matcher) rest))
          (matched_by w.side w.known x (message_of c.event_of.result) c.in-Ok.remarks w.matcher c.take.new.self c.event_of.ensures
          (λ events i. (c.in-Ok.ensures.remarks events i, c.in-Ok.ensures.ok events i)));
    }
