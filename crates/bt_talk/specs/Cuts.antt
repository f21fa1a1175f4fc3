-- What a side had sent when the connection was closed.
use Rattle.bt_talk.specs.declared.terms.Terms.{Terms}
use Rattle.std.specs.Prelude.{◌≡◌, ◌≤◌, ℕ, Bool, true, false, List, [], drop, take, length, Option, Some, None, ◌||◌, if◌then◌else◌}
use Rattle.bt_ext.specs.declared.ids.Rules.TheVariants.{Free}
use Rattle.bt_intro.specs.declared.settling.Receiver.{Receiver}
use Rattle.bt_intro.specs.Hellos.{IsFirstHello}
use Rattle.bt_judge.specs.Judges.{under}
use Rattle.bt_packet.specs.declared.tcp.Flags.{Flags}
use Rattle.bt_rows.specs.declared.noted.Last.{Last}
use Rattle.bt_rows.specs.declared.noted.Last.TheVariants.{Nothing, Item as LastItem, Refused}
use Rattle.bt_wire.specs.declared.context.Own.{Own}
use Rattle.bt_wire.specs.declared.item.Item.{Item}
use Rattle.bt_wire.specs.declared.item.Refusal.{Refusal}
use Rattle.bt_wire.specs.Streams.{Outcome, IsVerdict}
use Rattle.bt_talk.specs.declared.closing.Closed.{Closed}
use Rattle.bt_talk.specs.declared.stage.Cut.{Cut}
use Rattle.bt_talk.specs.Pasts.{Past}
use Rattle.bt_talk.specs.Receivers.{IsReceiver}
use Rattle.bt_talk.specs.Watching.{IsLast}

-- the last of a stream: its refusal, or else the last of its items, or nothing
abbrev pub IsLastBy : Option Refusal → List (ℕ × Item) → Last → Type 0
IsLastBy (Some r) xs last = last ≡ Refused r
IsLastBy None xs Nothing = xs ≡ []
IsLastBy None xs (LastItem said) = IsLast xs (Some said)
IsLastBy None xs (Refused r) = ⊥

-- the last of these bytes by this receiver under the lenient rules
pub record IsLastIn (own : Own) (b : List ℕ) (last : Last) : Type 0 where
  pub verdict : Outcome
  pub is : IsVerdict (under Free own) b verdict
  pub by : IsLastBy verdict.refusal verdict.items last

-- the last of what a side sent, from its handshake on
pub record IsLastOf (own : Own) (front out : List ℕ) (last : Last) : Type 0 where
  pub start : ℕ
  pub first : IsFirstHello front start
  pub is : IsLastIn own (drop start out) last

abbrev pub IsCutBy : Option Receiver → List ℕ → List ℕ → Last → Type 0
IsCutBy None front out last = Unit {0}
IsCutBy (Some r) front out last = IsLastOf r.own front out last

-- how many bytes a side's stream had then
abbrev pub cut_length : Option Cut → Option ℕ
cut_length None = None
cut_length (Some cut) = Some cut.length

-- the flags of the first FIN or RST (RFC 9293 3.1)
abbrev pub closes_first : Flags → Option Closed → Bool
closes_first flags None = flags.fin || flags.rst
closes_first flags (Some closed) = false

-- The first FIN or RST notes how many bytes the side's stream has.
abbrev pub cut_after : Flags → Option Closed → ℕ → Option ℕ → Option ℕ
cut_after flags closed n old = if closes_first flags closed then Some n else old

abbrev pub IsWithin : Option ℕ → List ℕ → Type 0
IsWithin None out = Unit {0}
IsWithin (Some n) out = n ≤ length out

-- the last of these bytes by the side's receiver, if there is one
abbrev pub IsCutNow : Option Receiver → List ℕ → List ℕ → Option Cut → Type 0
IsCutNow receiver front out None = Unit {0}
IsCutNow receiver front out (Some cut) = IsCutBy receiver front (take cut.length out) cut.last

-- the last that a side had sent, of these first bytes, by its receiver, if there is one
abbrev pub IsLastBefore : Bool → Terms → Past → Past → Option ℕ → Option Last → Type 0
IsLastBefore true terms p q cut last = last ≡ None
IsLastBefore false terms p q None last = last ≡ None
IsLastBefore false terms p q (Some n) None = ⊥
IsLastBefore false terms p q (Some n) (Some last) =
    (n ≤ length p.out) × ((receiver : Option Receiver) × IsReceiver terms p q receiver × IsCutBy receiver p.front (take n p.out) last)
