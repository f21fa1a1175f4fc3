-- The turns that the marks of an opening make.
use Rattle.std.proofs.Common.{◌≡◌, ◌∙◌, ℕ, ◌+◌, ◌<◌, max, Bool, true, false, List, [], ◌∷◌, ◌++◌, reverse, take, get_or, length, refl, sym, ap, subst}
use Rattle.std.specs.Prelude.{◌||◌, is_some}
use Rattle.std.proofs.lemmas.List.{take_more, reverse-append}
use Rattle.bt_remarks.specs.declared.events.Side.{Side}
use Rattle.bt_remarks.specs.declared.events.Side.TheVariants.{A, B}
use Rattle.bt_remarks.specs.Said.{other}
use Rattle.bt_wire.specs.declared.item.Item.{Item}
use Rattle.bt_talk.specs.declared.replay.Mark.{Mark}
use Rattle.bt_talk.specs.declared.replay.Replay.{Replay}
use Rattle.bt_talk.specs.declared.rows.Rows.{Rows}
use Rattle.bt_talk.specs.declared.watch.Watch.{Watch}
use Rattle.bt_talk.specs.Marks.{HasBegun, reach_of}
use Rattle.bt_talk.specs.Pasts.{Past}
use Rattle.bt_talk.specs.Replays.{Aim, AreReplays, GoesTo, IsReplay}
use Rattle.bt_talk.specs.Shown.{IsSeen, Turn, items_by}
use Rattle.bt_talk.proofs.Replays.{items_others, items_to}

-- the items of the other side stay
pub items_beside : (side : Side) (t : Turn) (before : List Turn) → t.side ≡ side → items_by (other side) (t ∷ before) ≡ items_by (other side) before
items_beside side t before e = subst (λ (s : Side). items_by (other s) (t ∷ before) ≡ items_by (other s) before) e (items_others t before)

-- What a mark's side has ready is judged.
abbrev pub Goes : Mark → Replay → Replay → Watch → Replay → Watch → Type 0
Goes m mine theirs w mine' w' = (since : Rows) (p q : Past) (x y : Aim) (n k : ℕ) (before : List Turn)
    → IsReplay p x.receiver x.cut n (items_by m.side before) mine → IsReplay q y.receiver y.cut k (items_by (other m.side) before) theirs
    → IsSeen since before w → GoesTo since m p q x.receiver y.receiver x.cut n k before mine' w'

either_swapped : (x y : Bool) → (x || y) ≡ (y || x)
either_swapped true true = refl
either_swapped true false = refl
either_swapped false true = refl
either_swapped false false = refl

begun_swapped : (p q : Past) (begun : Bool) → HasBegun p q begun → HasBegun q p begun
begun_swapped p q begun i = (i.1, i.0, i.3, i.2, i.4 ∙ either_swapped (is_some i.0) (is_some i.1))

step_a : (m : Mark) (a b a' : Replay) (w w' : Watch) → Goes (record m { side = A }) a b w a' w' → AreReplays (record m { side = A } ∷ []) a b w a' b w'
step_a m a b a' w w' go = λ since p q x y marks i.
    let g = go since p q x y (reach_of A marks) (reach_of B marks) i.turns i.a_is i.b_is i.seen in
    record {
      turns = g.turn ∷ i.turns;
      are = (
        record {
          side = g.side;
          when = g.when;
          known = g.known;
          items = items_to p x.receiver x.cut (max m.length (reach_of A marks)) (items_by A (g.turn ∷ i.turns)) a' g.is;
          begun = g.begun;
          has_begun = g.has_begun;
          deeds = g.deeds;
        },
        i.are,
      );
      a_is = g.is;
      b_is = subst (λ (l : List (ℕ × Item)). IsReplay q y.receiver y.cut (reach_of B marks) l b) (sym (items_beside A g.turn i.turns g.side)) i.b_is;
      seen = g.seen;
      latest = g.now;
    }

step_b : (m : Mark) (a b b' : Replay) (w w' : Watch) → Goes (record m { side = B }) b a w b' w' → AreReplays (record m { side = B } ∷ []) a b w a b' w'
step_b m a b b' w w' go = λ since p q x y marks i.
    let g = go since q p y x (reach_of B marks) (reach_of A marks) i.turns i.b_is i.a_is i.seen in
    record {
      turns = g.turn ∷ i.turns;
      are = (
        record {
          side = g.side;
          when = g.when;
          known = g.known;
          items = items_to q y.receiver y.cut (max m.length (reach_of B marks)) (items_by B (g.turn ∷ i.turns)) b' g.is;
          begun = g.begun;
          has_begun = begun_swapped q p g.begun g.has_begun;
          deeds = g.deeds;
        },
        i.are,
      );
      a_is = subst (λ (l : List (ℕ × Item)). IsReplay p x.receiver x.cut (reach_of A marks) l a) (sym (items_beside B g.turn i.turns g.side)) i.a_is;
      b_is = g.is;
      seen = g.seen;
      latest = g.now;
    }

-- The mark is one of A.
pub stepped_a : (m : Mark) (a b a' : Replay) (w w' : Watch) → m.side ≡ A → Goes m a b w a' w' → AreReplays (m ∷ []) a b w a' b w'
stepped_a m a b a' w w' e go =
    let same : m ≡ record m { side = A } = ap (λ (s : Side). record m { side = s }) e in
    subst (λ (k : Mark). AreReplays (k ∷ []) a b w a' b w') (sym same) (step_a m a b a' w w' (subst (λ (k : Mark). Goes k a b w a' w') same go))

pub stepped_b : (m : Mark) (a b b' : Replay) (w w' : Watch) → m.side ≡ B → Goes m b a w b' w' → AreReplays (m ∷ []) a b w a b' w'
stepped_b m a b b' w w' e go =
    let same : m ≡ record m { side = B } = ap (λ (s : Side). record m { side = s }) e in
    subst (λ (k : Mark). AreReplays (k ∷ []) a b w a b' w') (sym same) (step_b m a b b' w w' (subst (λ (k : Mark). Goes k b a w b' w') same go))

-- One mark more is passed.
pub next_mark : (marks earlier : List Mark) (i : ℕ) (d : Mark) → i < length marks
    → reverse (take (i + 1) marks) ++ earlier ≡ get_or marks i d ∷ (reverse (take i marks) ++ earlier)
next_mark marks earlier i d lt =
    ap (λ (l : List Mark). reverse l ++ earlier) (take_more marks i d lt)
    ∙ ap (λ (l : List Mark). l ++ earlier) (reverse-append (take i marks) (get_or marks i d ∷ []))
