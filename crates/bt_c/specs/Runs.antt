-- What calls in a row read of a stream, and its verdict.
use Rattle.std.specs.Prelude.{◌≡◌, ◌≢◌, ℕ, ◌+◌, ◌-◌, ◌<◌, ◌≤◌, ◌^◌, false, List, [], ◌∷◌, length, take, drop, min, Option, Some, None}
use Rattle.bt_wire.specs.declared.fault.Refused.{Refused}
use Rattle.bt_wire.specs.declared.item.Item.{Item}
use Rattle.bt_wire.specs.declared.item.Refusal.{Refusal}
use Rattle.bt_wire.specs.Streams.{Outcome, IsVerdict, refusal_at, refusal_at_end}
use Rattle.bt_wire.specs.Messages.{Message, fields_of}
use Rattle.bt_c.specs.Readers.{own_of, context_of, is_on, kept, reason_number}
use Rattle.bt_c.specs.Steps.{Steps, Gives, Goes, Lacks, HasFault, start_of}
use Rattle.bt_c.specs.declared.check.BtVerdict.{BtVerdict}
use Rattle.bt_c.specs.declared.reader.BtReader.{BtReader}
use Rattle.bt_c.specs.declared.item.BtItem.{BtItem}

-- from the bytes b the reader r gives these items, one call after the other, each at its offset; s is the reader after
-- them, and c are the bytes that are left
abbrev pub Reads : BtReader → List ℕ → List (ℕ × Item) → BtReader → List ℕ → Type 0
Reads r b [] s c = (s ≡ r) × (c ≡ b)
Reads r b (x ∷ xs) s c = (t : BtReader) × (i : BtItem) × (i.start ≡ x.0) × Gives r b t i x.1 × Reads t (drop i.size b) xs s c

-- of the item.size bytes of a message the last item.body ones are those that it keeps
abbrev pub BodiesAreLast : Type 0
BodiesAreLast = (r s : BtReader) (b : List ℕ) (i : BtItem) (msg : Message) → Goes r b s i msg
    → (i.body ≤ i.size) × (drop (i.size - i.body) (take i.size b) ≡ kept (fields_of (context_of r) msg))

-- the same by the items' structs: each call answers 1 and shows one of them
abbrev pub Nexts : BtReader → List ℕ → List BtItem → BtReader → List ℕ → Type 0
Nexts r b [] s c = (s ≡ r) × (c ≡ b)
Nexts r b (i ∷ is) s c = (t : BtReader) × Steps r b t i 1 × Nexts t (drop i.size b) is s c

-- a batch from the bytes b into the array `old`, which becomes `new`, with the answer n: its first items are those of calls in a
-- row, which leave the reader s and all bytes but the first `used`. They fill the array, and the answer is 1; or the call after
-- them gives no item, and the answer is its answer. What it shows is the next item, and the rest stays as it was.
pub record IsBatch (r : BtReader) (b : List ℕ) (s : BtReader) (old new : List BtItem) (count used n : ℕ) : Type 0 where
  pub within : used ≤ length b
  pub given : Nexts r b (take count new) s (drop used b)
  pub full : n ≡ 1 → (count ≡ length old) × (length new ≡ length old)
  pub last : n ≢ 1 → (i : BtItem) × Steps s (drop used b) s i n × (drop count new ≡ i ∷ drop (count + 1) old)

-- no item follows: the bytes have a fault, or aren't a whole item
abbrev pub Stops : BtReader → List ℕ → Option Refused → Type 0
Stops r b None = Lacks r b
Stops r b (Some f) = HasFault r b f

-- the items that a new reader gives are those of the stream's verdict, and where it stops is what the verdict says
abbrev pub ItemsAreTheVerdicts : Type 0
ItemsAreTheVerdicts = (r s : BtReader) (b c : List ℕ) (xs : List (ℕ × Item)) (f : Option Refused) (v : Outcome) → r.own.limit < 2 ^ 32 → is_on r.opened ≡ false
    → Reads r b xs s c → Stops s c f → IsVerdict (own_of r.own) b v → (v.items ≡ xs) × (v.refusal ≡ refusal_at (length xs) (start_of s) f) × (v.tail ≡ c)

-- what a check returns and says of a stream b with this verdict
abbrev pub ShowsEnd : BtVerdict → List ℕ → Outcome → ℕ → Option Refusal → Type 0
ShowsEnd x b v n None = (n ≡ 3) × (x.message ≡ v.number - 1) × (x.at ≡ length b) × (x.reason ≡ 0)
ShowsEnd x b v n (Some r) = (n ≡ 2) × (x.message ≡ r.message) × (x.at ≡ min r.at (2 ^ 64 - 1)) × (x.reason ≡ reason_number r.reason)

abbrev pub ShowsVerdict : BtVerdict → List ℕ → Outcome → ℕ → Type 0
ShowsVerdict x b v n = ShowsEnd x b v n (refusal_at_end v)
