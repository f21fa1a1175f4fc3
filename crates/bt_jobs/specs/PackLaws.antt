-- Laws on packing.
use Rattle.std.specs.Prelude.{◌≡◌, ℕ, ◌-◌, ◌<◌, ◌^◌, List, length, None}
use Rattle.bt_wire.specs.declared.context.Own.{Own}
use Rattle.bt_wire.specs.Numbers.{AreBytes}
use Rattle.bt_wire.specs.Streams.{Outcome, IsVerdict, refusal_at_end}
use Rattle.bt_text.specs.declared.ended.PackEnd.{PackEnd}
use Rattle.bt_text.specs.declared.ended.PackEnd.TheVariants.{Accepted}
use Rattle.bt_jobs.specs.Packs.{AreLines, IsPacked}
use Rattle.bt_text.specs.Script.{script}

-- a text has its lines alone
abbrev pub LinesAreOne : Type 0
LinesAreOne = (text : List ℕ) (a c : List (List ℕ)) → AreLines text a → AreLines text c → a ≡ c

-- a stream that is accepted is what the script of its items packs to, under the same options
abbrev pub ScriptPacks : Type 0
ScriptPacks = (own : Own) (b : List ℕ) (v : Outcome) → AreBytes b → IsVerdict own b v → refusal_at_end v ≡ None
    → (all : List (List ℕ)) → AreLines (script own v.items) all → IsPacked own all b (Accepted (v.number - 1) (length b))

-- the lines of a script have one list of bytes and one end
abbrev pub PackIsOne : Type 0
PackIsOne = (own : Own) (all : List (List ℕ)) (b c : List ℕ) (e f : PackEnd) → own.limit < 2 ^ 32 → IsPacked own all b e → IsPacked own all c f → (b ≡ c)
    × (e ≡ f)
