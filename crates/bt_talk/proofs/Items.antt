-- The items of a side are determined by what it sent and by its receiver.
use Rattle.std.proofs.Common.{◌≡◌, ◌∙◌, ℕ, ◌≤◌, true, List, [], ◌++◌, append-nil, drop, refl, sym, ap, subst, arith, inl, inr}
use Rattle.std.proofs.lemmas.Bool.{cases_lt}
use Rattle.bt_ext.specs.declared.ids.Rules.TheVariants.{Free}
use Rattle.bt_feed.specs.Pumps.{Took}
use Rattle.bt_intro.specs.Hellos.{IsFirstHello}
use Rattle.bt_judge.proofs.Both.{free_now}
use Rattle.bt_judge.specs.declared.judge.Judge.{Judge}
use Rattle.bt_judge.proofs.Both.{free_now}
use Rattle.bt_judge.specs.Judges.{under}
use Rattle.bt_wire.specs.declared.context.Own.{Own}
use Rattle.bt_wire.specs.declared.item.Item.{Item}
use Rattle.bt_wire.specs.Streams.{Outcome, IsVerdict}
use Rattle.bt_wire.proofs.VerdictLaws.{verdict_only}
use Rattle.bt_talk.specs.declared.stage.Stage.{Stage}
use Rattle.bt_talk.specs.declared.stage.Stage.TheVariants.{Opening, Open, Stranger}
use Rattle.bt_talk.specs.declared.watch.Watch.{Watch}
use Rattle.bt_talk.specs.Pasts.{Past}
use Rattle.bt_talk.specs.Receivers.{IsJudgedBy, AreItems}
use Rattle.bt_talk.specs.Stages.{is_opening, AreItemsIn}
use Rattle.bt_talk.specs.Watching.{Watches}

pub first_only : (front : List ℕ) (k n : ℕ) → IsFirstHello front k → IsFirstHello front n → k ≡ n
first_only front k n i j =
    elim (cases_lt k n) [
      | inl lt ↦ absurd (j.first k lt i.here)
      | inr le ↦ elim (cases_lt n k) [ inl lt ↦ absurd (i.first n lt j.here) | inr ge ↦ omega (arith, le, ge) ]
    ]

pub items_only : (own : Own) (p : Past) (xs ys : List (ℕ × Item)) → own.limit ≤ 1048576 → AreItems own p xs → AreItems own p ys → xs ≡ ys
items_only own p xs ys limit i j =
    let same = first_only p.front i.start j.start i.first j.first in
    let is = subst (λ (k : ℕ). IsVerdict (under Free own) (drop k p.out) j.verdict) (sym same) j.is in
    let one = verdict_only (under Free own) (drop i.start p.out) i.verdict j.verdict (omega (arith, limit)) i.is is in
    sym i.items ∙ ap (λ (v : Outcome). v.items) one ∙ j.items

-- the items that a judge has read
pub judged_items : (own : Own) (p : Past) (judge : Judge) (j : IsJudgedBy own p judge) → AreItems own p j.free
judged_items own p judge j =
    let now = free_now own (drop j.start p.out) j.free j.bep judge j.judged in
    record { start = j.start; first = j.first; verdict = now.now; is = now.is; items = now.items }

-- A judge has read further items.
pub judged_more_items : (own : Own) (p q : Past) (more : List (ℕ × Item)) (old new : Judge) (w w' : Watch) (j : IsJudgedBy own p old)
    (k : IsJudgedBy own q new) → k.free ≡ j.free ++ more → Took Watches w more w' → (xs : List (ℕ × Item)) → AreItems own p xs
    → (later : List (ℕ × Item)) × AreItems own q (xs ++ later) × Took Watches w later w'
judged_more_items own p q more old new w w' j k e took xs i =
    let same : j.free ≡ xs = items_only own p j.free xs j.judged.bep.limit (judged_items own p old j) i in
    let all : k.free ≡ xs ++ more = e ∙ ap (λ (l : List (ℕ × Item)). l ++ more) same in
    (more, subst (λ (l : List (ℕ × Item)). AreItems own q l) all (judged_items own q new k), took)

-- In the opening there is no item.
pub no_items : (s : Stage) (p : Past) → is_opening s ≡ true → AreItemsIn s p []
no_items (Opening front) p e = refl
no_items (Open j) p e = absurd (cc)
no_items Stranger p e = absurd (cc)

pub opening_items : (s : Stage) (p : Past) (xs : List (ℕ × Item)) → is_opening s ≡ true → AreItemsIn s p xs → xs ≡ []
opening_items (Opening front) p xs e i = i
opening_items (Open j) p xs e i = absurd (cc)
opening_items Stranger p xs e i = absurd (cc)

pub items_same : (own : Own) (p q : Past) (xs : List (ℕ × Item)) → q.front ≡ p.front → q.out ≡ p.out → AreItems own p xs → AreItems own q xs
items_same own p q xs e f i = record {
  start = i.start;
  first = subst (λ (l : List ℕ). IsFirstHello l i.start) (sym e) i.first;
  verdict = i.verdict;
  is = subst (λ (l : List ℕ). IsVerdict (under Free own) (drop i.start l) i.verdict) (sym f) i.is;
  items = i.items;
}

-- What a side has said stays when it is acknowledged.
pub items_stay : (s : Stage) (p q : Past) (xs : List (ℕ × Item)) → q.front ≡ p.front → q.out ≡ p.out → AreItemsIn s p xs → AreItemsIn s q xs
items_stay (Opening front) p q xs e f i = i
items_stay (Open j) p q xs e f i = items_same j.value.receiver.own p q xs e f i
items_stay Stranger p q xs e f i = i

pub nothing_more : (xs : List (ℕ × Item)) → xs ≡ [] → xs ++ [] ≡ []
nothing_more xs e = append-nil xs ∙ e
