-- What a segment says follows what came before it.
use Rattle.std.proofs.Common.{◌≡◌, ◌∙◌, ℕ, Bool, true, false, not, List, ◌++◌, Option, Some, None, refl, sym, subst}
use Rattle.std.specs.Prelude.{is_some, Box}
use Rattle.std.specs.declared.alloc.Global.{Global}
use Rattle.bt_flow.specs.declared.flow.Flow.{Flow}
use Rattle.bt_flow.specs.Flows.{HasHole}
use Rattle.bt_packet.specs.declared.tcp.Segment.{Segment}
use Rattle.bt_remarks.specs.declared.events.Side.{Side}
use Rattle.bt_remarks.specs.declared.events.Side.TheVariants.{A, B}
use Rattle.bt_remarks.specs.Said.{Told, other}
use Rattle.bt_wire.specs.declared.item.Item.{Item}
use Rattle.bt_wire.specs.declared.item.Refusal.{Refusal}
use Rattle.bt_talk.specs.declared.stage.Judged.{Judged}
use Rattle.bt_talk.specs.declared.stage.Stage.{Stage}
use Rattle.bt_talk.specs.declared.stage.Stage.TheVariants.{Opening, Open, Stranger}
use Rattle.bt_talk.specs.declared.sides.Sides.{Sides}
use Rattle.bt_talk.specs.declared.terms.Terms.{Terms}
use Rattle.bt_talk.specs.Pasts.{Past}
use Rattle.bt_talk.specs.Shown.{GoesShown}
use Rattle.bt_talk.specs.Stages.{AreItemsIn, IsKnown, IsRefusedIn, IsStage}
use Rattle.bt_talk.specs.Talks.{AreItemsOf, AreSides, IsKnownOf, Says, direction_in, flow_in, of_side}
use Rattle.bt_talk.specs.Watching.{IsWatched, with_items}
use Rattle.bt_talk.proofs.Items.{items_only, items_stay}

-- ---- all that a side has said is known, or it isn't

-- It isn't refused; then it is known unless bytes are missing.
pub known_whole : (s : Stage) (p : Past) (flow : Flow) (j : Box Judged Global) (r : Option Refusal) (whole hole : Bool) → s ≡ Open j
    → IsRefusedIn (Open j) p r → whole ≡ not (is_some r) → whole ≡ true → HasHole p.heard p.out flow.stream hole → IsKnown s p flow (not hole)
known_whole s p flow j None whole hole e i f g h = subst (λ (x : Stage). IsKnown x p flow (not hole)) (sym e) (None, i, (hole, h, refl))
known_whole s p flow j (Some r) whole hole e i f g h = absurd (let k : true ≡ false = sym g ∙ f in cc)

-- It is refused.
pub known_not : (s : Stage) (p : Past) (flow : Flow) (j : Box Judged Global) (r : Option Refusal) (whole : Bool) → s ≡ Open j
    → IsRefusedIn (Open j) p r → whole ≡ not (is_some r) → whole ≡ false → IsKnown s p flow whole
known_not s p flow j None whole e i f g = absurd (let k : true ≡ false = sym f ∙ g in cc)
known_not s p flow j (Some r) whole e i f g = subst (λ (x : Stage). IsKnown x p flow whole) (sym e) (Some r, i, g)

-- ---- items

stage_items : (terms : Terms) (p q : Past) (s : Stage) (xs ys : List (ℕ × Item)) → IsStage terms p q s → AreItemsIn s p xs → AreItemsIn s p ys → xs ≡ ys
stage_items terms p q (Opening front) xs ys i a b = a ∙ sym b
stage_items terms p q (Open j) xs ys i a b = items_only j.value.receiver.own p xs ys i.1.judged.bep.limit a b
stage_items terms p q Stranger xs ys i a b = a ∙ sym b

go_on : (terms : Terms) (p q p' : Past) (s s' : Stage) (xs ys more : List (ℕ × Item)) → IsStage terms p q s → AreItemsIn s p xs
    → AreItemsIn s' p' (xs ++ more) → AreItemsIn s p ys → AreItemsIn s' p' (ys ++ more)
go_on terms p q p' s s' xs ys more i a b c =
    subst (λ (l : List (ℕ × Item)). AreItemsIn s' p' (l ++ more)) (stage_items terms p q s xs ys i a c) b

stay : (p p' : Past) (s s' : Stage) (xs : List (ℕ × Item)) → s' ≡ s → p'.front ≡ p.front → p'.out ≡ p.out → AreItemsIn s p xs → AreItemsIn s' p' xs
stay p p' s s' xs e f g i = subst (λ (x : Stage). AreItemsIn x p' xs) (sym e) (items_stay s p p' xs f g i)

-- The sender's items are followed by these; those of the other side stay.
pub items_on : (terms : Terms) (side : Side) (a b a' b' : Past) (t t' : Sides) (xs items : List (ℕ × Item)) → AreSides terms a b t → AreItemsOf side a b t xs
    → AreItemsOf side a' b' t' (xs ++ items) → (direction_in (other side) t').stage ≡ (direction_in (other side) t).stage
    → (of_side (other side) a' b').front ≡ (of_side (other side) a b).front → (of_side (other side) a' b').out ≡ (of_side (other side) a b).out
    → (before : Side → List (ℕ × Item)) → ((k : Side) → AreItemsOf k a b t (before k)) → (k : Side) → AreItemsOf k a' b' t' (with_items side items before k)
items_on terms A a b a' b' t t' xs items i x y e f g before all A = go_on terms a b a' t.a.stage t'.a.stage xs (before A) items i.a_is.stage x y (all A)
items_on terms A a b a' b' t t' xs items i x y e f g before all B = stay b b' t.b.stage t'.b.stage (before B) e f g (all B)
items_on terms B a b a' b' t t' xs items i x y e f g before all A = stay a a' t.a.stage t'.a.stage (before A) e f g (all A)
items_on terms B a b a' b' t t' xs items i x y e f g before all B = go_on terms b a b' t.b.stage t'.b.stage xs (before B) items i.b_is.stage x y (all B)

-- A side sent a segment, which completes these items.
abbrev pub says_by : (terms : Terms) (s : Segment) (side : Side) (a b a' b' : Past) (t t' : Sides) (xs items : List (ℕ × Item)) (known : Bool) → AreSides terms a b t
    → AreItemsOf side a b t xs → AreItemsOf side a' b' t' (xs ++ items) → (direction_in (other side) t').stage ≡ (direction_in (other side) t).stage
    → (of_side (other side) a' b').front ≡ (of_side (other side) a b).front → (of_side (other side) a' b').out ≡ (of_side (other side) a b).out
    → (s.flags.rst ≡ false → IsKnownOf (other side) a' b' t' known) → GoesShown side known items t.watch t'.watch → Says s side a b a' b' t t'
says_by terms s side a b a' b' t t' xs items known i x y e f g is goes = record {
  items = items;
  known = known;
  known_is = is;
  are = items_on terms side a b a' b' t t' xs items i x y e f g;
  follow = λ events before w. (goes events before w).1.watched;
}

pub stages_same : (side : Side) (t u : Sides) → u.a.stage ≡ t.a.stage → u.b.stage ≡ t.b.stage → (direction_in side u).stage ≡ (direction_in side t).stage
stages_same A t u e f = e
stages_same B t u e f = f

-- What it stands on is as it was.
abbrev pub says_same : (s : Segment) (side : Side) (a b a' b' : Past) (t t' u u' : Sides) → ((k : Side) → (direction_in k u).stage ≡ (direction_in k t).stage)
    → ((k : Side) → (direction_in k u').stage ≡ (direction_in k t').stage) → ((k : Side) → flow_in k u' ≡ flow_in k t')
    → ((events : List Told) (items : Side → List (ℕ × Item)) → IsWatched events items u.watch → IsWatched events items t.watch)
    → ((events : List Told) (items : Side → List (ℕ × Item)) → IsWatched events items t'.watch → IsWatched events items u'.watch)
    → Says s side a b a' b' t t' → Says s side a b a' b' u u'
says_same s side a b a' b' t t' u u' e f g v w x =
    let p = of_side (other side) a' b' in
    record {
      items = x.items;
      known = x.known;
      known_is = λ r. subst (λ (i : Stage). IsKnown i p (flow_in (other side) u') x.known) (sym (f (other side)))
          (subst (λ (i : Flow). IsKnown (direction_in (other side) t').stage p i x.known) (sym (g (other side))) (x.known_is r));
      are = λ before all k. subst (λ (i : Stage). AreItemsIn i (of_side k a' b') (with_items side x.items before k)) (sym (f k))
          (x.are before (λ j. subst (λ (i : Stage). AreItemsIn i (of_side j a b) (before j)) (e j) (all j)) k);
      follow = λ events before i. w _ _ (x.follow events before (v events before i));
    }
