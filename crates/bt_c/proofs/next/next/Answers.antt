-- What the end's call says of an item, said of the end before the bytes came.
use Rattle.std.proofs.Common.{ℕ, refl, ap, subst, ◌∙◌, Option, Result, Ok, Some}
use Rattle.bt_feed.specs.Views.{item_of}
use Rattle.bt_end.specs.Halves.{HalfState, IsTurned}
use Rattle.bt_end.specs.Nexts.{IsHeard, turn_of}
use Rattle.bt_end.specs.declared.end.Heard.{Heard}
use Rattle.bt_end.specs.declared.end.Turn.TheVariants.{Handled}
use Rattle.bt_end.specs.declared.end.TurnError.{TurnError}
use Rattle.bt_end.specs.declared.event.Event.{Event}
use Rattle.bt_c.specs.Nexts.{ShowsItem, ShowsEvent}
use Rattle.bt_c.proofs.next.next.Goals as goal

pub returns-in-Ok-Some : goal.returns-in-Ok-Some
returns-in-Ok-Some c =
    let heard = c.in-Ok-Some.heard in
    let said = c.put_down.ensures in
    let took = c.receive.ensures.end in
    let answer = c.in-Ok-Some.is ∙ ap Ok c.in-Ok-Some.field-0-is in
    let told = subst (λ (a : HalfState). IsHeard a (Ok (Some heard))) took
    (subst (λ (r : Result (Option Heard) TurnError). IsHeard c.receive.new.self r) answer c.next.ensures.heard) in
    let turned = subst (λ (r : Result (Option Heard) TurnError). IsTurned c.receive.new.self (turn_of r) c.next.follows.lender-at-none) answer
    c.next.follows.holds-at-none in (
      Ok Handled,
      refl,
      said.same.0 ∙ c.receive.ensures.taken,
      subst (λ (a : HalfState). IsTurned a (Ok Handled) c.next.follows.lender-at-none) took turned,
      (
        item_of heard.view,
        told.0,
        subst (λ (s : ℕ). ShowsItem c.put_down.new.told.item s (item_of heard.view)) told.1 said.item,
        subst (λ (e : Event). ShowsEvent c.put_down.new.told.event e) told.2 said.event,
        said.kept,
        said.same.1,
      ),
    )
