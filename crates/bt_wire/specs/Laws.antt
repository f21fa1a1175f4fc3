-- Laws on the definitions.
use Rattle.std.specs.Prelude.{◌≡◌, ℕ, ◌<◌, ◌^◌, List, ◌++◌, Some, None, Option, IsSome}
use Rattle.bt_wire.specs.declared.context.Context.{Context}
use Rattle.bt_wire.specs.declared.context.Own.{Own}
use Rattle.bt_wire.specs.declared.context.Order.{Order}
use Rattle.bt_wire.specs.declared.fault.Refused.{Refused}
use Rattle.bt_wire.specs.declared.item.Item.{Item}
use Rattle.bt_wire.specs.Messages.{Message}
use Rattle.bt_wire.specs.Numbers.{AreBytes}
use Rattle.bt_wire.specs.Messages.{spell}
use Rattle.bt_wire.specs.Legal.{IsSaid}
use Rattle.bt_wire.specs.Faults.{IsFault}
use Rattle.bt_wire.specs.Headers.{IsWindow, IsRead}
use Rattle.bt_wire.specs.Streams.{Outcome, IsVerdict}

-- what may be sent has no fault, whatever follows it
abbrev pub LegalHasNoFault : Type 0
LegalHasNoFault = (c : Context) (o : Order) (s : ℕ) (m : Message) (r : List ℕ) → c.limit < 2 ^ 32 → IsSaid c o s m → IsFault c o s (spell c m ++ r) None

-- a whole window with no fault is the spelling of a message that may be sent
abbrev pub FaultlessIsLegal : Type 0
FaultlessIsLegal = (c : Context) (o : Order) (w : List ℕ) → AreBytes w → IsWindow c o w → IsFault c o 0 w None → (m : Message) × IsRead c o w m

-- bytes have one fault, or none
abbrev pub FaultIsOne : Type 0
FaultIsOne = (c : Context) (o : Order) (s : ℕ) (b : List ℕ) (f g : Option Refused) → IsFault c o s b f → IsFault c o s b g → f ≡ g

-- a fault stays, whatever follows
abbrev pub FaultStays : Type 0
FaultStays = (c : Context) (o : Order) (s : ℕ) (b x : List ℕ) (f : Refused) → IsFault c o s b (Some f) → IsFault c o s (b ++ x) (Some f)

-- where there is a fault, no continuation of the bytes begins with what may be sent, and the bytes begin with none
abbrev pub FaultIsFinal : Type 0
FaultIsFinal = (c : Context) (o : Order) (s : ℕ) (b x y : List ℕ) (f : Refused) (m : Message) → c.limit < 2 ^ 32 → IsFault c o s b (Some f) → IsSaid c o s m
    → b ++ x ≡ spell c m ++ y → ⊥

-- no spelling of what may be sent begins another
abbrev pub NoneBeginsAnother : Type 0
NoneBeginsAnother = (c : Context) (o p : Order) (s t : ℕ) (m n : Message) (x y : List ℕ) → c.limit < 2 ^ 32 → IsSaid c o s m → IsSaid c p t n
    → spell c m ++ x ≡ spell c n ++ y → (m ≡ n) × (x ≡ y)

-- a stream has one outcome
abbrev pub VerdictIsOne : Type 0
VerdictIsOne = (own : Own) (b : List ℕ) (v w : Outcome) → own.limit < 2 ^ 32 → IsVerdict own b v → IsVerdict own b w → v ≡ w

-- a refused stream keeps its items and its refusal, whatever follows
abbrev pub RefusalStays : Type 0
RefusalStays = (own : Own) (b x : List ℕ) (v : Outcome) → own.limit < 2 ^ 32 → IsVerdict own b v → IsSome v.refusal
    → IsVerdict own (b ++ x) (record v { tail = v.tail ++ x })

-- a stream keeps its items, whatever follows: the items of more bytes are those, and then others
abbrev pub ItemsStay : Type 0
ItemsStay = (own : Own) (b x : List ℕ) (v w : Outcome) → own.limit < 2 ^ 32 → IsVerdict own b v → IsVerdict own (b ++ x) w → (more : List (ℕ × Item))
    × (w.items ≡ v.items ++ more)
