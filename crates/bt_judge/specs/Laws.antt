-- Laws on the definitions.
use Rattle.std.specs.Prelude.{◌≡◌, ℕ, ◌<◌, ◌≤◌, ◌^◌, true, List, [], ◌++◌, length, take, map, replicate, Option, Some, None}
use Rattle.bt_ext.specs.declared.ids.Rules.TheVariants.{Free, Bep}
use Rattle.bt_wire.specs.declared.context.Context.{Context}
use Rattle.bt_wire.specs.declared.context.Order.{Order}
use Rattle.bt_wire.specs.declared.context.Own.{Own}
use Rattle.bt_wire.specs.declared.fault.Refused.{Refused}
use Rattle.bt_wire.specs.declared.item.Item.{Item}
use Rattle.bt_wire.specs.declared.item.Refusal.{Refusal}
use Rattle.bt_wire.specs.Faults.{has_id, said_id, IsFault}
use Rattle.bt_wire.specs.Streams.{Outcome, IsVerdict}
use Rattle.bt_text.specs.declared.ended.Ended.{Ended}
use Rattle.bt_judge.specs.Holes.{Holed, Fills, with_zeros, IsAlike, MayMiss, Shows, IsStandingOf, IsToldOf, free_of, AreJudgedOver}
use Rattle.bt_judge.specs.Readings.{IsTold, IsStanding}
use Rattle.bt_judge.specs.Judges.{under, AreJudged}
use Rattle.bt_judge.specs.declared.judge.Judge.{Judge}

-- a piece has the same fault or none, whatever the bytes of its block are
abbrev pub BlockIsAny : Type 0
BlockIsAny = (c : Context) (o : Order) (s : ℕ) (b d : List ℕ) (f : Option Refused) → 13 ≤ length b → length d ≡ length b → take 13 d ≡ take 13 b
    → has_id b ≡ true → said_id b ≡ 7 → IsFault c o s b f → IsFault c o s d f

-- each filling has an outcome like that with zeros
abbrev pub FillingsAreAlike : Type 0
FillingsAreAlike = (own : Own) (h : Holed) (b later : List ℕ) (v : Outcome) → MayMiss own [] h → Fills h b → IsVerdict own (with_zeros h ++ later) v
    → (w : Outcome) × IsVerdict own (b ++ later) w × IsAlike v w

-- the items that are read with zeros are those of each filling, a refusal or none is theirs, and so is the verdict at the end
abbrev pub ItemsAreShown : Type 0
ItemsAreShown = (own : Own) (h : Holed) (v : Outcome) → own.limit < 2 ^ 32 → MayMiss own [] h → IsVerdict own (with_zeros h) v → Shows own h v.items

abbrev pub RefusalIsShown : Type 0
RefusalIsShown = (own : Own) (h : Holed) (o : Option Refusal) → MayMiss own [] h → IsStanding own (with_zeros h) o → IsStandingOf own h o

abbrev pub EndIsShown : Type 0
EndIsShown = (own : Own) (h : Holed) (xs : List (ℕ × Item)) (e : Ended) → own.limit < 2 ^ 32 → MayMiss own [] h → IsTold own (with_zeros h) xs e
    → IsToldOf own h e

-- ---- of a judge

-- known bytes follow what it has read, and as many missing ones as may be any
abbrev pub KnownAreTaken : Type 0
KnownAreTaken = (own : Own) (h : Holed) (xs ys zs ws : List (ℕ × Item)) (b : List ℕ) (j k : Judge) → AreJudgedOver own h xs ys j
    → AreJudged own (with_zeros h ++ b) zs ws k → AreJudgedOver own (h ++ map Some b) zs ws k

abbrev pub MissingArePassed : Type 0
MissingArePassed = (own : Own) (h : Holed) (xs ys zs ws : List (ℕ × Item)) (n : ℕ) (j k : Judge) → AreJudgedOver own h xs ys j → n ≤ free_of j
    → AreJudged own (with_zeros h ++ replicate n 0) zs ws k → AreJudgedOver own (h ++ replicate n None) zs ws k

-- the items that it has read over holes are those of each filling
abbrev pub JudgedAreShown : Type 0
JudgedAreShown = (own : Own) (h : Holed) (xs ys : List (ℕ × Item)) (j : Judge) → AreJudgedOver own h xs ys j
    → Shows (under Free own) h xs × Shows (under Bep own) h ys
