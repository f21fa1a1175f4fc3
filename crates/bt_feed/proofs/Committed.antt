-- A feed that moves on to what follows its item.
use Rattle.std.proofs.Common.{◌≡◌, ℕ, ◌+◌, ◌^◌, ◌≤◌, Bool, true, false, List, length, Option, Some, None, Result, Ok, Err, refl, sym, ap, subst, arith}
use Rattle.std.specs.Prelude.{IfSome}
use Rattle.bt_wire.specs.declared.item.Item.{Item}
use Rattle.bt_wire.specs.declared.item.Item.TheVariants as items
use Rattle.bt_wire.specs.declared.item.Refusal.{Refusal}
use Rattle.bt_feed.specs.declared.progress.Progress.{Progress}
use Rattle.bt_feed.specs.declared.stage.Stage.{Stage}
use Rattle.bt_feed.specs.declared.stage.Stage.TheVariants as stage
use Rattle.bt_feed.specs.Answers.{IsAnswer, IsFollowing}
use Rattle.bt_feed.specs.Feeds.{FeedState, held_of, state_of}
use Rattle.bt_feed.specs.Progress.{IsProgress}
use Rattle.bt_feed.specs.Stages.{IsItem, IsNumbered, capacity_of, limit_of, number_of, start_of, stage_after}
use Rattle.bt_feed.proofs.Coming.{item_long}
use Rattle.bt_feed.proofs.FeedLaws.{answer_only}

-- what is so of what follows an item
pub record IsNextStage (t u : Stage) : Type 0 where
  pub same : limit_of u ≡ limit_of t
  pub start : start_of u ≤ 2 ^ 62 + 1048580
  pub number : number_of u ≤ start_of u + 1
  pub numbered : IsNumbered u

next_stage : (t : Stage) (b : List ℕ) (item : Item) → limit_of t ≤ 1048576 → length b ≤ capacity_of t → number_of t ≤ start_of t + 1 → IsItem t b item
    → IsNextStage t (stage_after t (length b) item)
next_stage (stage.Handshake own) b (items.Handshake h) limit bound number i = record {
  same = refl;
  start = omega (arith, limit, bound);
  number = omega arith;
  numbered = omega arith;
}
next_stage (stage.Message c o s n) b (items.Message m) limit bound number i = record {
  same = refl;
  start = omega (arith, limit, bound, i.0.start);
  number = omega (arith, number, item_long (stage.Message c o s n) b (items.Message m) i);
  numbered = omega arith;
}
next_stage (stage.Handshake own) b (items.Message m) limit bound number i = absurd i
next_stage (stage.Message c o s n) b (items.Handshake h) limit bound number i = absurd i

is_ok : Result (Option Item) Refusal → Bool
is_ok (Ok o) = true
is_ok (Err r) = false

unrefused : (f : FeedState) (item : Item) (o : Option Refusal) → limit_of f.stage ≤ 1048576 → IsItem f.stage f.held item → IfSome o (λ r. IsAnswer f (Err r))
    → o ≡ None
unfolding is_ok
unrefused f item None limit i h = refl
unrefused f item (Some r) limit i h =
    let e : Ok (Some item) ≡ Err r = answer_only f (Ok (Some item)) (Err r) (omega (arith, limit)) i h in
    let b : true ≡ false = ap is_ok e in absurd cc

pub committed : (p : Progress) (buffer : List ℕ) (t : Stage) → IsProgress p buffer → IsFollowing (state_of p buffer) t →
    limit_of t ≡ limit_of p.stage × IsProgress (record { stage = t; spent = true; wanted = 0; refused = p.refused }) buffer
committed p buffer t h f =
    let n : IsNextStage p.stage t =
    subst (IsNextStage p.stage) (sym f.2) (next_stage p.stage (held_of p buffer) f.0 h.limit h.bound h.number f.1) in
    let calm : p.refused ≡ None = unrefused (state_of p buffer) f.0 p.refused h.limit f.1 h.refused in
    let R : Option Refusal → Type 0 =
    λ r. IfSome r (λ x. IsAnswer (state_of (record { stage = t; spent = true; wanted = 0; refused = p.refused }) buffer) (Err x)) in (
      n.same,
      record {
        limit = omega (arith, n.same, h.limit);
        start = n.start;
        number = n.number;
        numbered = n.numbered;
        bound = omega arith;
        partial = record { opens = λ k lt. absurd (omega (arith, lt)) };
        wanted = λ lt. absurd (omega (arith, lt));
        refused = subst R (sym calm) tt;
      },
    )
