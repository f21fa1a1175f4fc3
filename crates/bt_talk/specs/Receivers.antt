-- By which receiver a side's stream is judged, and the verdicts of it.
use Rattle.bt_talk.specs.declared.terms.Terms.{Terms}
use Rattle.std.specs.Prelude.{◌≡◌, ℕ, Bool, true, false, List, drop, Option, Some, None}
use Rattle.bt_ext.specs.declared.ids.Rules.TheVariants.{Free}
use Rattle.bt_wire.specs.declared.context.Own.{Own}
use Rattle.bt_wire.specs.declared.item.Item.{Item}
use Rattle.bt_wire.specs.Streams.{Outcome, IsVerdict}
use Rattle.bt_jobs.specs.Others.{first_of, own_of_other}
use Rattle.bt_judge.specs.declared.judge.Judge.{Judge}
use Rattle.bt_judge.specs.Judges.{AreJudged, under}
use Rattle.bt_intro.specs.declared.settling.Receiver.{Receiver}
use Rattle.bt_intro.specs.Hellos.{IsFirstHello}
use Rattle.bt_intro.specs.Hearing.{IsSaid}
use Rattle.bt_intro.specs.Listening.{handshake_of}
use Rattle.bt_intro.specs.Settling.{receiver_by}
use Rattle.bt_talk.specs.declared.refused.Judgement.{Judgement}
use Rattle.bt_talk.specs.Pasts.{Past}
use Rattle.bt_talk.specs.Refusals.{AreExplained}
use Rattle.bt_talk.specs.Terms.{limit_of, pieces_for}

-- The receiver of the first side's stream: what the other side announces in the opening (BEP 10), or a guess. None without a handshake.
pub record IsReceiver (terms : Terms) (p other : Past) (r : Option Receiver) : Type 0 where
  pub own : Outcome
  pub theirs : Outcome
  pub own_is : IsSaid p.front own
  pub theirs_is : IsSaid other.front theirs
  pub is : r ≡ receiver_by (own_of_other theirs.items) (own_of_other own.items) (pieces_for terms (first_of handshake_of own.items)) (limit_of terms)

-- What the side sent from its handshake on is judged.
pub record IsJudgedBy (own : Own) (p : Past) (judge : Judge) : Type 0 where
  pub start : ℕ
  pub first : IsFirstHello p.front start
  pub free : List (ℕ × Item)
  pub bep : List (ℕ × Item)
  pub judged : AreJudged own (drop start p.out) free bep judge

-- These are the items of what the side sent from its handshake on, by this receiver under the lenient rules.
pub record AreItems (own : Own) (p : Past) (xs : List (ℕ × Item)) : Type 0 where
  pub start : ℕ
  pub first : IsFirstHello p.front start
  pub verdict : Outcome
  pub is : IsVerdict (under Free own) (drop start p.out) verdict
  pub items : verdict.items ≡ xs

-- These are the verdicts of what the side sent from its handshake on, and what is there of the messages that they refuse.
pub record IsToldBy (own : Own) (p : Past) (v : Judgement) : Type 0 where
  pub start : ℕ
  pub first : IsFirstHello p.front start
  pub free : List (ℕ × Item)
  pub bep : List (ℕ × Item)
  pub told : AreExplained own (drop start p.out) free bep v

-- the receiver of a side's stream, after the opening
abbrev pub IsReceiverNow : Bool → Terms → Past → Past → Option Receiver → Type 0
IsReceiverNow true terms p q r = r ≡ None
IsReceiverNow false terms p q r = IsReceiver terms p q r

-- the verdicts of a side's stream by its receiver, if there is one
abbrev pub AreVerdicts : Bool → Terms → Past → Past → Option Judgement → Type 0
AreVerdicts true terms p q v = v ≡ None
AreVerdicts false terms p q None = IsReceiver terms p q None
AreVerdicts false terms p q (Some v) = (r : Receiver) × IsReceiver terms p q (Some r) × IsToldBy r.own p v
