-- How far one direction is: in the opening its bytes are kept, after that they are judged.
use Rattle.bt_talk.specs.declared.terms.Terms.{Terms}
use Rattle.std.specs.Prelude.{◌≡◌, ℕ, Bool, true, false, not, List, [], ◌∷◌, ◌++◌, drop, Option, Some, None, ◌⊎◌}
use Rattle.bt_ext.specs.declared.ids.Rules.TheVariants.{Free}
use Rattle.bt_feed.specs.Pumps.{Took}
use Rattle.bt_tcp.specs.Heard.{Acked}
use Rattle.bt_tcp.specs.Acceptable.{IsUnsent, is_unsent}
use Rattle.bt_flow.specs.declared.flow.Flow.{Flow}
use Rattle.bt_flow.specs.Flows.{HasHole}
use Rattle.bt_intro.specs.Hearing.{IsHeardOf}
use Rattle.bt_intro.specs.Hellos.{IsFirstHello}
use Rattle.bt_judge.specs.Judges.{under}
use Rattle.bt_judge.specs.Readings.{IsStanding}
use Rattle.bt_remarks.specs.declared.events.Side.{Side}
use Rattle.bt_remarks.specs.declared.events.Side.TheVariants.{A, B}
use Rattle.bt_remarks.specs.Said.{Told}
use Rattle.bt_wire.specs.declared.item.Item.{Item}
use Rattle.bt_wire.specs.declared.item.Refusal.{Refusal}
use Rattle.bt_talk.specs.declared.stage.Stage.{Stage}
use Rattle.bt_talk.specs.declared.stage.Stage.TheVariants.{Opening, Open, Stranger}
use Rattle.bt_talk.specs.declared.direction.Direction.{Direction}
use Rattle.bt_intro.specs.declared.settling.Receiver.{Receiver}
use Rattle.bt_talk.specs.Cuts.{IsCutNow, IsWithin, cut_length}
use Rattle.bt_talk.specs.Pasts.{Past, IsFlowOf}
use Rattle.bt_talk.specs.Receivers.{IsReceiver, IsJudgedBy, AreItems}
use Rattle.bt_talk.specs.declared.watch.Watch.{Watch}
use Rattle.bt_talk.specs.Watching.{IsWatched, Watches}
use Rattle.bt_talk.specs.Shown.{GoesShown}

abbrev pub is_opening : Stage → Bool
is_opening (Opening front) = true
is_opening (Open judged) = false
is_opening Stranger = false

-- by whom the stream is judged
abbrev pub receiver_in : Stage → Option Receiver
receiver_in (Opening front) = None
receiver_in (Open judged) = Some judged.value.receiver
receiver_in Stranger = None

-- In the opening all bytes belong to it, and are kept; then they are judged by the receiver, if there is one.
abbrev pub IsStage : Terms → Past → Past → Stage → Type 0
IsStage terms p other (Opening front) = (front.items ≡ p.out) × (p.front ≡ p.out)
IsStage terms p other (Open judged) = IsReceiver terms p other (Some judged.value.receiver) × IsJudgedBy judged.value.receiver.own p judged.value.judge
IsStage terms p other Stranger = IsReceiver terms p other None

-- The refusal that stands of what the side sent, by its receiver under the lenient rules; none in the opening, and without a receiver.
abbrev pub IsRefusedIn : Stage → Past → Option Refusal → Type 0
IsRefusedIn (Opening front) p r = r ≡ None
IsRefusedIn (Open judged) p r = (start : ℕ) × IsFirstHello p.front start × IsStanding (under Free judged.value.receiver.own) (drop start p.out) r
IsRefusedIn Stranger p r = r ≡ None

abbrev pub IsKnownBy : Option Refusal → Past → Flow → Bool → Type 0
IsKnownBy (Some r) p flow known = known ≡ false
IsKnownBy None p flow known = (hole : Bool) × HasHole p.heard p.out flow.stream hole × (known ≡ not hole)

-- All that the side has said up to here is known, if its stream is judged and isn't refused, and no byte that it has sent is missing.
abbrev pub IsKnown : Stage → Past → Flow → Bool → Type 0
IsKnown (Opening front) p flow known = known ≡ false
IsKnown (Open judged) p flow known = (r : Option Refusal) × IsRefusedIn (Open judged) p r × IsKnownBy r p flow known
IsKnown Stranger p flow known = known ≡ false

-- This was captured of a side, and this of the other one.
pub record IsDirection (terms : Terms) (p other : Past) (d : Direction) : Type 0 where
  pub flow : IsFlowOf p d.flow
  pub intro : IsHeardOf p.front d.intro
  pub later : List ℕ
  pub front : p.out ≡ p.front ++ later
  pub stage : IsStage terms p other d.stage
  pub within : IsWithin (cut_length d.cut) p.out
  pub cut : IsCutNow (receiver_in d.stage) p.front p.out d.cut

-- This side was heard with an acknowledgement of its number, unless that can't have been sent yet.
abbrev pub HearsOf : ℕ → Bool → Terms → Past → Past → Direction → Type 0
HearsOf number opens terms p other d' =
    ((at : ℕ) × IsDirection terms (record p { heard = p.heard ++ Acked (record { number = number; opens = opens; place = at }) ∷ [] }) other d'
    × (is_unsent p.heard at ≡ false))
    ⊎ (IsDirection terms p other d' × IsUnsent p.heard number true)

-- the items that were judged of a side: none in the opening, and none without a receiver
abbrev pub AreItemsIn : Stage → Past → List (ℕ × Item) → Type 0
AreItemsIn (Opening front) p xs = xs ≡ []
AreItemsIn (Open judged) p xs = AreItems judged.value.receiver.own p xs
AreItemsIn Stranger p xs = xs ≡ []

-- Further items of a side came, and the watch took them.
abbrev pub Speaks : Stage → Past → Watch → Stage → Past → Watch → Type 0
Speaks s p w s' q w' = (xs : List (ℕ × Item)) → AreItemsIn s p xs → (more : List (ℕ × Item)) × AreItemsIn s' q (xs ++ more) × Took Watches w more w'

-- as before, in a turn of that side; all that the other side has said up to here is known, or it isn't
abbrev pub SpeaksAs : Side → Bool → Stage → Past → Watch → Stage → Past → Watch → Type 0
SpeaksAs side known s p w s' q w' = (xs : List (ℕ × Item)) → AreItemsIn s p xs
    → (more : List (ℕ × Item)) × AreItemsIn s' q (xs ++ more) × GoesShown side known more w w'

-- What was judged of both sides, and what is kept of it.
pub record IsHeard (p q : Past) (s s' : Stage) (w : Watch) : Type 0 where
  pub events : List Told
  pub items : Side → List (ℕ × Item)
  pub a_items : AreItemsIn s p (items A)
  pub b_items : AreItemsIn s' q (items B)
  pub watched : IsWatched events items w
