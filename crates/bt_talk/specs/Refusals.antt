-- The verdicts of a stream, and what is there of the messages that they refuse.
use Rattle.std.specs.Prelude.{◌≡◌, ℕ, List, ◌++◌, Option, Some, None}
use Rattle.bt_ext.specs.declared.ids.Rules.TheVariants.{Free, Bep}
use Rattle.bt_judge.specs.Judges.{AreTold, under}
use Rattle.bt_text.specs.declared.ended.Ended.{Ended}
use Rattle.bt_text.specs.declared.ended.Ended.TheVariants.{Accepted, Refused}
use Rattle.bt_rows.specs.declared.refused.RefusedMessage.{RefusedMessage}
use Rattle.bt_rows.specs.Refused.{message_in}
use Rattle.bt_wire.specs.declared.context.Own.{Own}
use Rattle.bt_wire.specs.declared.item.Item.{Item}
use Rattle.bt_wire.specs.declared.item.Refusal.{Refusal}
use Rattle.bt_wire.specs.Streams.{Outcome, IsVerdict, refusal_at_end}
use Rattle.bt_talk.specs.declared.refused.Judgement.{Judgement}

-- A prefix of b is refused in this way, if it ends there, and this is there of the message after its items.
pub record IsRefusedBy (own : Own) (b : List ℕ) (r : Refusal) (m : RefusedMessage) : Type 0 where
  pub front : List ℕ
  pub later : List ℕ
  pub parts : b ≡ front ++ later
  pub verdict : Outcome
  pub is : IsVerdict own front verdict
  pub refusal : refusal_at_end verdict ≡ Some r
  pub message : m ≡ message_in verdict.start verdict.tail r.at

-- what is there of the message with which b ends so; there is none if b is accepted
abbrev pub IsMessageOf : Own → List ℕ → Ended → Option RefusedMessage → Type 0
IsMessageOf own b (Accepted messages bytes) m = m ≡ None
IsMessageOf own b (Refused r) None = ⊥
IsMessageOf own b (Refused r) (Some m) = IsRefusedBy own b r m

-- the verdicts of b, if the stream ends there, and what is there of the messages that they refuse
pub record AreExplained (own : Own) (b : List ℕ) (xs ys : List (ℕ × Item)) (j : Judgement) : Type 0 where
  pub told : AreTold own b xs ys (record { free = j.free; bep = j.bep })
  pub free : IsMessageOf (under Free own) b j.free j.free_message
  pub bep : IsMessageOf (under Bep own) b j.bep j.bep_message
