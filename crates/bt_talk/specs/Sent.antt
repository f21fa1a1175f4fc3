-- The bytes of one side's stream that are handed out, as they come.
use Rattle.std.specs.Prelude.{◌≡◌, ℕ, Bool, true, false, List, [], ◌++◌, drop, Option, Some, None, unwrap_or}
use Rattle.bt_remarks.specs.declared.events.Side.{Side}
use Rattle.bt_remarks.specs.Said.{is_same}
use Rattle.bt_intro.specs.Hellos.{IsStartOf}
use Rattle.bt_talk.specs.Pasts.{Past}

-- none in the opening; after it the stream from the handshake on, or from the first byte if no handshake started in the opening
abbrev pub sent_of : Bool → Option ℕ → List ℕ → List ℕ
sent_of true start out = []
sent_of false start out = drop (unwrap_or start 0) out

-- These bytes of a side were handed out so far.
pub record IsSent (opening : Bool) (p : Past) (bytes : List ℕ) : Type 0 where
  pub start : Option ℕ
  pub is_start : opening ≡ false → IsStartOf p.front start
  pub is : bytes ≡ sent_of opening start p.out

-- These bytes are handed out now, and follow what was handed out before.
abbrev pub SendsOn : Bool → Past → Bool → Past → List ℕ → Type 0
SendsOn opening p opening' p' more = (before : List ℕ) → IsSent opening p before → IsSent opening' p' (before ++ more)

-- ---- for private contracts

abbrev pub is_wanted : Side → Option Side → Bool
is_wanted side None = false
is_wanted side (Some wanted) = is_same wanted side

-- After the opening the bytes that a segment adds are ready, if they are wanted; in it there are none.
abbrev pub IsReady : Bool → Bool → Past → Past → List ℕ → Type 0
IsReady true wanted p p' bytes = bytes ≡ []
IsReady false true p p' bytes = p'.out ≡ p.out ++ bytes
IsReady false false p p' bytes = bytes ≡ []
