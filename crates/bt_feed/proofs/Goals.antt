-- How far bytes are judged together with what follows them.
use Rattle.std.proofs.Common.{◌≡◌, ℕ, ◌^◌, ◌≤◌, ◌<◌, Bool, false, List, ◌++◌, length, Option, Some, None, refl, arith}
use Rattle.std.specs.Prelude.{is_some}
use Rattle.bt_wire.specs.declared.context.Context.{Context}
use Rattle.bt_wire.specs.declared.context.Order.{Order}
use Rattle.bt_wire.specs.declared.context.Own.{Own}
use Rattle.bt_wire.specs.declared.fault.Header.TheVariants as headers
use Rattle.bt_wire.specs.Handshakes.{hand_fault}
use Rattle.bt_wire.specs.Headers.{header_of}
use Rattle.bt_feed.specs.declared.stage.Goal.TheVariants as goal
use Rattle.bt_feed.specs.declared.stage.Stage.TheVariants as stage
use Rattle.bt_feed.specs.Progress.{IsGoal}
use Rattle.bt_feed.proofs.Hands.{to_hash, to_end}
use Rattle.bt_feed.proofs.Windows.{need_until, need_short, need_open}

pub none_from : {A : Type 0} (o : Option A) (b : Bool) → b ≡ is_some o → b ≡ false → o ≡ None
none_from None b e f = refl
none_from (Some x) b e f = absurd cc

pub hash_goal : (own : Own) (b : List ℕ) → hand_fault own b ≡ None → 20 ≤ length b → length b < 48 → IsGoal (stage.Handshake own) b (goal.Until 48)
hash_goal own b e le lt = (lt, omega arith, λ x less. to_hash own b x e le less)

pub end_goal : (own : Own) (b : List ℕ) → hand_fault own b ≡ None → 48 ≤ length b → length b < 68 → IsGoal (stage.Handshake own) b (goal.Until 68)
end_goal own b e le lt = (lt, omega arith, λ x less. to_end own b x e le less)

pub need_goal : (c : Context) (o : Order) (s i : ℕ) (b : List ℕ) (n : ℕ) → s < 2 ^ 62 → header_of c o b ≡ headers.Need n
    → IsGoal (stage.Message c o s i) b (goal.Until n)
need_goal c o s i b n lt e =
    let short = need_short c o b n e in
    (short.0, omega (arith, short.1), λ x less. need_open c o s i (b ++ x) n lt (need_until c o b x n e less))
