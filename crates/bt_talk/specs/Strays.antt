-- Which segments count. "A reset is valid if its sequence number is in the window" (RFC 9293 3.5.3), and it resets only at the number that the receiver
-- expects next (RFC 9293 3.10.7.4, RFC 5961 3.2). Other segments have to be in the window (RFC 9293 3.4).
use Rattle.std.specs.Prelude.{◌≡◌, ℕ, Bool, true, false, not, List}
use Rattle.bt_packet.specs.declared.tcp.Flags.{Flags}
use Rattle.bt_packet.specs.declared.tcp.Segment.{Segment}
use Rattle.bt_flow.specs.Flows.{IsPassedBy}
use Rattle.bt_tcp.specs.Heard.{Heard}
use Rattle.bt_tcp.specs.Resets.{MayBeNext}
use Rattle.bt_talk.specs.Pasts.{Past, given_of}

-- a RST whose number its receiver can't expect next, by what its sender has sent before
abbrev pub IsStrayNumber : List Heard → ℕ → Bool → Type 0
IsStrayNumber heard number stray = (next : Bool) × MayBeNext heard number next × (stray ≡ not next)

abbrev pub IsStrayResetBy : Bool → List Heard → ℕ → Bool → Type 0
IsStrayResetBy false heard number stray = stray ≡ false
IsStrayResetBy true heard number stray = IsStrayNumber heard number stray

-- The segment is such a RST, or it is none.
abbrev pub IsStrayReset : Segment → Past → Bool → Type 0
IsStrayReset s p stray = IsStrayResetBy s.flags.rst p.heard s.sequence stray

abbrev pub IsStrayBy : Bool → Segment → List Heard → Bool → Type 0
IsStrayBy false s heard stray = IsPassedBy heard (given_of s) stray
IsStrayBy true s heard stray = IsStrayNumber heard s.sequence stray

-- The segment is a stray: such a RST, or another segment that isn't in the window of its receiver. Or it is none.
abbrev pub IsStray : Segment → Past → Bool → Type 0
IsStray s p stray = IsStrayBy s.flags.rst s p.heard stray

-- the flags that count: a stray begins, closes and ends nothing
abbrev pub heeded : Bool → Flags → Flags
heeded true flags = record { fin = false; syn = false; rst = false; ack = flags.ack }
heeded false flags = flags
