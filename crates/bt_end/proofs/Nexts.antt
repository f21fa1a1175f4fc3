-- Turns that tell of their item.
use Rattle.std.proofs.Common.{◌≡◌, ℕ, false, ◌++◌, Option, None, Some, Result, Ok, Err, refl, sym, ap, subst, ◌∙◌, arith}
use Rattle.bt_wire.specs.declared.item.Item.{Item}
use Rattle.bt_wire.specs.declared.item.Refusal.{Refusal}
use Rattle.bt_feed.specs.Answers.{IsAnswer, after, followed}
use Rattle.bt_feed.specs.declared.judged.Judged.{Judged}
use Rattle.bt_feed.specs.Judged.{IsJudged, WasJudged}
use Rattle.bt_feed.specs.declared.stage.Stage.{Stage}
use Rattle.bt_feed.specs.Feeds.{FeedState}
use Rattle.bt_feed.specs.Progress.{IsFeed}
use Rattle.bt_feed.specs.Stages.{start_of, IsItem}
use Rattle.bt_feed.specs.Views.{item_of, shown}
use Rattle.bt_feed.specs.declared.view.View.{View}
use Rattle.bt_feed.specs.declared.view.TakeError.{TakeError}
use Rattle.bt_feed.specs.declared.view.TakeError.TheVariants as error
use Rattle.bt_feed.proofs.FeedLaws.{answer_only}
use Rattle.bt_end.specs.Ends.{react, spelled}
use Rattle.bt_end.specs.Events.{event_of}
use Rattle.bt_end.specs.Halves.{HalfState, is_busy, with_feed, reacted, IsTurned}
use Rattle.bt_end.specs.Nexts.{IsHeard, IsMet, IsMetAt}
use Rattle.bt_end.specs.declared.end.Turn.TheVariants.{Handled}
use Rattle.bt_end.specs.declared.end.TurnError.TheVariants as turn_error
use Rattle.bt_end.specs.declared.event.Event.{Event}
use Rattle.bt_end.specs.Reactors.{end_of, IsReacted}
use Rattle.bt_end.specs.Wholes.{half_of}
use Rattle.bt_end.specs.declared.end.End.TheInside.{Inside}
use Rattle.bt_end.specs.declared.reactor.Reactor.{Reactor}
use Rattle.bt_end.proofs.Turns.{IsKept, kept_half, same_half}

-- ---- an item is handled that is still held

pub met : {A : Type 0} → {old mid : Inside A} {a : HalfState} {new : Reactor A} (view : View) {j : Judged} {e : Event}
    {x : Result (Option View) TakeError} → half_of old ≡ a → IsKept old mid → is_busy (half_of old) ≡ false →
    x ≡ Ok (Some view) → IsAnswer mid.feed (shown x) → IsReacted mid.reactor new (react (end_of mid.reactor) (item_of view))
    → IsJudged mid.feed (item_of view) j → e ≡ event_of (end_of mid.reactor) (item_of view)
    → IsMet a (Ok (Some (j, e))) (half_of (record { feed = mid.feed; reactor = new }))
met {old} {mid} {a} {new} view {j} {e} v k b o i h n q =
    let item = item_of view in
    let r = react (end_of mid.reactor) item in
    let p : half_of mid ≡ half_of old = kept_half old mid k in
    let busy : is_busy (half_of mid) ≡ false = ap is_busy p ∙ b in
    let answer : IsAnswer mid.feed (Ok (Some item)) = subst (λ (y : Result (Option View) TakeError). IsAnswer mid.feed (shown y)) o i in
    let left : half_of (record { feed = mid.feed; reactor = new }) ≡ reacted (half_of mid) r =
    same_half (end_of new) r.end mid.feed mid.feed new.outbox.bytes (mid.reactor.outbox.bytes ++ spelled r.end r.queued) h.end refl h.queued in
    subst (λ (y : HalfState). IsMet y (Ok (Some (j, e))) (half_of (record { feed = mid.feed; reactor = new }))) (p ∙ v) (
      item,
      record { answer = (busy, answer); judged = n; event_is = q; left = left },
    )

pub met_idle : {A : Type 0} → (old : Inside A) {a : HalfState} {x : Result (Option View) TakeError} → half_of old ≡ a
    → is_busy (half_of old) ≡ false → x ≡ Ok None → IsAnswer old.feed (shown x) → IsMet a (Ok None) a
met_idle old {a} v b o i =
    let answer : IsAnswer old.feed (Ok None) = subst (λ (y : Result (Option View) TakeError). IsAnswer old.feed (shown y)) o i in
    subst (λ (y : HalfState). IsMet y (Ok None) y) v ((b, answer), refl)

pub fault_is : (f : FeedState) {e : TakeError} {q : Refusal} {x : Result (Option View) TakeError} → x ≡ Err e → e ≡ error.Refused q → IsAnswer f (shown x)
    → IsAnswer f (Err q)
fault_is f o z i = subst (λ (y : Result (Option View) TakeError). IsAnswer f (shown y)) (o ∙ ap (λ (y : TakeError). Err y) z) i

pub met_fault : {A : Type 0} → (old : Inside A) {a : HalfState} {f : FeedState} (q : Refusal) → half_of old ≡ a → is_busy (half_of old) ≡ false
    → IsAnswer old.feed (Err q) → f ≡ after old.feed (Err q) → IsMet a (Err (turn_error.Refused q)) (half_of (record { feed = f; reactor = old.reactor }))
met_fault old {a} {f} q v b i e =
    subst (λ (y : HalfState). IsMet y (Err (turn_error.Refused q)) (half_of (record { feed = f; reactor = old.reactor }))) v
    ((b, i), ap (λ (y : FeedState). with_feed (half_of old) y) e)

-- ---- it is taken

same_feed : (a b : HalfState) (item : Item) (j : Judged) (e : Event) → IsMetAt a b item j e → a.feed ≡ b.feed
same_feed a b item j e h = ap (λ (y : HalfState). y.feed) (sym h.left)

-- what is kept of it is still that of the item that the feed holds
pub still_judged : {a mid : HalfState} {j : Judged} {e : Event} → IsMet a (Ok (Some (j, e))) mid → WasJudged mid.feed j
still_judged {a} {mid} {j} {e} m = subst (λ (f : FeedState). WasJudged f j) (same_feed a mid m.0 j e m.1) (m.0, m.1.judged)

item_or : Item → Result (Option Item) Refusal → Item
item_or d (Ok (Some item)) = item
item_or d other = d

pub heard : {a mid new : HalfState} {j : Judged} {e : Event} {at : ℕ} (view : View) → IsMet a (Ok (Some (j, e))) mid → IsFeed mid.feed
    → at ≡ start_of mid.feed.stage → IsItem mid.feed.stage mid.feed.held (item_of view) → new ≡ with_feed mid (followed mid.feed j.next) →
    IsTurned a (Ok Handled) new × IsHeard a (Ok (Some (record { at = at; view = view; event = e })))
unfolding item_or
heard {a} {mid} {new} {j} {e} {at} view m f s answer n =
    let item = item_of view in
    let feed : a.feed ≡ mid.feed = same_feed a mid m.0 j e m.1 in
    let here : IsAnswer mid.feed (Ok (Some m.0)) = subst (λ (y : FeedState). IsAnswer y (Ok (Some m.0))) feed m.1.answer.1 in
    let same : m.0 ≡ item = ap (item_or item) (answer_only mid.feed (Ok (Some m.0)) (Ok (Some item)) (omega (arith, f.limit)) here answer) in
    let t : IsMetAt a mid item j e = subst (λ (y : Item). IsMetAt a mid y j e) same m.1 in
    let left : new ≡ reacted (with_feed a (after a.feed (Ok (Some item)))) (react a.end item) =
    n ∙ ap (λ (y : HalfState). with_feed y (followed y.feed j.next)) t.left
    ∙ ap (λ (u : Stage). with_feed (reacted a (react a.end item)) (followed a.feed u)) t.judged.next in (
      (item, t.answer, left),
      (t.answer.1, s ∙ ap (λ (y : FeedState). start_of y.stage) (sym feed), t.event_is),
    )
