-- The sum of the connections' sizes, and how a step changes it.
use Rattle.std.proofs.Common.{◌≡◌, ◌∙◌, ℕ, ◌+◌, ◌-◌, ◌^◌, ◌<◌, ◌≤◌, min, Bool, List, [], ◌∷◌, ◌++◌, length, Some, sym, ap, subst, arith, inl, inr}
use Rattle.std.specs.List.Sorted.{IsPermutation}
use Rattle.std.specs.Map.{lookup, remove_entry}
use Rattle.std.proofs.lemmas.Bool.{cases_Bool}
use Rattle.std.proofs.lemmas.List.Sums.{sum_by-cons, sum_by_push}
use Rattle.std.proofs.lemmas.List.Sorted.{sum_by-IsPermutation}
use Rattle.bt_capture.specs.Bounds.{bytes_in, size_of, IsCounted, IsBounded}
use Rattle.bt_capture.specs.Tables.{Held}
use Rattle.bt_capture.specs.declared.connections.Connections.{Connections}
use Rattle.bt_capture.specs.declared.pair.Pair.{Pair}

Entry : Type 0
Entry = Pair × Held

-- one that is taken out
bytes_gone : (test : Pair → Bool) (es : List (Pair × Held)) (c : Held) → Some c ≡ lookup test es
    → bytes_in (remove_entry test es) + c.value.size ≡ bytes_in es
bytes_gone test [] c some = cc
bytes_gone test (e ∷ es) c some = elim (cases_Bool (test e.0)) [
  | inl t ↦
      let is : Some c ≡ Some e.1 = rw t at some in
      let same : c ≡ e.1 = cc in
      let sum = sum_by-cons size_of e es in
      rw t (subst (λ (x : Held). bytes_in es + x.value.size ≡ bytes_in (e ∷ es)) (sym same) (omega (arith, sum)))
  | inr f ↦
      let rest = bytes_gone test es c (rw f at some) in
      let sum = sum_by-cons size_of e es in
      let less = sum_by-cons size_of e (remove_entry test es) in
      rw f (omega (arith, rest, sum, less))
]

fewer : (test : Pair → Bool) (es : List (Pair × Held)) → length (remove_entry test es) ≤ length es
fewer test [] = omega arith
fewer test (e ∷ es) = elim (cases_Bool (test e.0)) [
  | inl t ↦ rw t (omega arith)
  | inr f ↦ let rest = fewer test es in rw f (omega (arith, rest))
]

-- A connection is taken out.
pub taken_out : (test : Pair → Bool) (c : Held) (left : List (Pair × Held)) (old new : Connections) → Some c ≡ lookup test old.table
    → left ≡ remove_entry test old.table → new.table ≡ left → new.bytes ≡ old.bytes - c.value.size → IsBounded old → IsBounded new
taken_out test c left old new some is table bytes i =
    let all : new.table ≡ remove_entry test old.table = table ∙ is in
    let gone = bytes_gone test old.table c some in
    let sum : bytes_in new.table ≡ bytes_in (remove_entry test old.table) = ap bytes_in all in
    let count : length new.table ≡ length (remove_entry test old.table) = ap length all in
    let less = fewer test old.table in
    let counted = i.counted in
    let most = i.bytes in
    let few = i.count in
    record {
      counted = omega (arith, gone, sum, bytes, counted);
      bytes = omega (arith, gone, sum, most);
      count = omega (arith, count, less, few);
    }

pub bounded_same : (old new : Connections) → new.table ≡ old.table → new.bytes ≡ old.bytes → IsBounded old → IsBounded new
bounded_same old new table bytes i =
    let sum : bytes_in new.table ≡ bytes_in old.table = ap bytes_in table in
    let count : length new.table ≡ length old.table = ap length table in
    let counted = i.counted in
    let most = i.bytes in
    let few = i.count in
    record { counted = omega (arith, sum, bytes, counted); bytes = omega (arith, sum, most); count = omega (arith, count, few) }

-- The last one is over.
pub one_less : (left : List (Pair × Held)) (e : Pair × Held) (old new : Connections) → old.table ≡ left ++ e ∷ [] → new.table ≡ left
    → new.bytes ≡ old.bytes - e.1.value.size → IsCounted old → IsCounted new
one_less left e old new is table bytes i =
    let sum : bytes_in old.table ≡ bytes_in left + e.1.value.size = ap bytes_in is ∙ sum_by_push size_of left e in
    let left_sum : bytes_in new.table ≡ bytes_in left = ap bytes_in table in
    omega (arith, sum, left_sum, bytes, i)

-- A connection is put into the table.
pub one_more : (p : Pair) (c : Held) (es : List (Pair × Held)) (bytes : ℕ) (old : Connections) → c.value.size < 2 ^ 32 → IsPermutation ((p, c) ∷ old.table) es
    → bytes ≡ min (old.bytes + c.value.size) (2 ^ 64 - 1) → IsBounded old → bytes ≡ bytes_in es
one_more p c es bytes old small moved is i =
    let sum = sum_by-cons size_of (p, c) old.table in
    let same = sum_by-IsPermutation size_of ((p, c) ∷ old.table) es moved in
    let counted = i.counted in
    let most = i.bytes in
    omega (arith, sum, same, counted, most, small, is)

-- There are few, and they take little memory.
pub is_bounded : (run : Connections) → IsCounted run → run.bytes ≤ 128000000 → length run.table ≤ 16384 → IsBounded run
is_bounded run counted bytes count = record { counted = counted; bytes = omega (arith, counted, bytes); count = count }
