-- Calls in a row, by the items' structs.
use Rattle.std.proofs.Common.{◌≡◌, ◌≢◌, ℕ, ◌+◌, ◌<◌, ◌≤◌, List, [], ◌∷◌, ◌++◌, length, take, drop, refl, sym, ap, subst, ◌∙◌, arith}
use Rattle.std.proofs.lemmas.List.{take-set, take_more_set, drop-set, drop-drop, length-drop}
use Rattle.std.specs.Prelude.{slice_set}
use Rattle.bt_wire.specs.declared.item.Item.{Item}
use Rattle.bt_c.specs.Steps.{Steps, Gives}
use Rattle.bt_c.specs.Runs.{Nexts, IsBatch}
use Rattle.bt_c.specs.declared.reader.BtReader.{BtReader}
use Rattle.bt_c.specs.declared.item.BtItem.{BtItem}
use Rattle.bt_c.proofs.RunLaws.{given_size}

-- a call that gives no item leaves the reader as it was
stays : (r : BtReader) (b : List ℕ) (s : BtReader) (i : BtItem) (n : ℕ) → Steps r b s i n → n ≢ 1 → s ≡ r
stays r b s i _ (Steps.more lacks same) other = same
stays r b s i _ (Steps.item x gives) other = absurd (other refl)
stays r b s i _ (Steps.refused f fault shows same) other = same

-- another one gives an item of these bytes
given : (r : BtReader) (b : List ℕ) (s : BtReader) (i : BtItem) (n : ℕ) → Steps r b s i n → n ≡ 1 → (x : Item) × Gives r b s i x
given r b s i _ (Steps.more lacks same) e = absurd (omega (arith, e))
given r b s i _ (Steps.item x gives) e = (x, gives)
given r b s i _ (Steps.refused f fault shows same) e = absurd (omega (arith, e))

pub step_size : (r : BtReader) (b : List ℕ) (s : BtReader) (i : BtItem) (n : ℕ) → Steps r b s i n → n ≡ 1 → i.size ≤ length b
step_size r b s i n step e = let found = given r b s i n step e in (given_size r b s i found.0 found.1).1

-- one call more
nexts_more : (is : List BtItem) (r s t : BtReader) (b c : List ℕ) (i : BtItem) → Nexts r b is s c → Steps s c t i 1 → Nexts r b (is ++ i ∷ []) t (drop i.size c)
nexts_more [] r s t b c i nexts step =
    let P : BtReader → Type 0 = λ z. Steps z c t i 1 in
    let Q : List ℕ → Type 0 = λ z. Steps r z t i 1 in
    (t, subst Q nexts.1 (subst P nexts.0 step), (refl, ap (λ z. drop i.size z) nexts.1))
nexts_more (j ∷ is) r s t b c i (u, first, rest) step = (u, first, nexts_more is u s t (drop j.size b) c i rest step)

-- the batch so far
pub record IsSoFar (r : BtReader) (b : List ℕ) (s : BtReader) (old new : List BtItem) (count used : ℕ) : Type 0 where
  pub within : used ≤ length b
  pub given : Nexts r b (take count new) s (drop used b)
  pub rest : drop count new ≡ drop count old

-- after the call that gives no item
pub stopped : {r : BtReader} {b : List ℕ} {s t : BtReader} {old new : List BtItem} {count used n : ℕ} {i : BtItem} → IsSoFar r b s old new count used
    → count < length new → Steps s (drop used b) t i n → n ≢ 1 → IsBatch r b t old (slice_set new count i) count used n
stopped {r} {b} {s} {t} {old} {new} {count} {used} {n} {i} so_far lt step other =
    let same = stays s (drop used b) t i n step other in
    let P : List BtItem → Type 0 = λ z. Nexts r b z t (drop used b) in
    let Q : BtReader → Type 0 = λ z. Nexts r b (take count new) z (drop used b) in
    let R : BtReader → Type 0 = λ z. Steps z (drop used b) t i n in
    let S : BtReader → Type 0 = λ z. Steps t (drop used b) z i n in
    record {
      within = so_far.within;
      given = subst P (sym (take-set new count i)) (subst Q (sym same) so_far.given);
      full = λ e. absurd (other e);
      last = λ ne. (
        i,
        subst R (sym same) step,
        drop-set new count i lt ∙ ap (λ (z : List BtItem). i ∷ z) (sym (drop-drop 1 count new)
            ∙ ap (drop 1) so_far.rest ∙ drop-drop 1 count old),
      );
    }

-- after a call that gives one
pub further : {r : BtReader} {b : List ℕ} {s t : BtReader} {old new : List BtItem} {count used n : ℕ} {i : BtItem} → IsSoFar r b s old new count used
    → count < length new → Steps s (drop used b) t i n → n ≡ 1 → IsSoFar r b t old (slice_set new count i) (count + 1) (used + i.size)
further {r} {b} {s} {t} {old} {new} {count} {used} {n} {i} so_far lt step one =
    let size = step_size s (drop used b) t i n step one in
    let P : ℕ → Type 0 = λ k. Steps s (drop used b) t i k in
    let Q : List BtItem → Type 0 = λ z. Nexts r b z t (drop (used + i.size) b) in
    let R : List ℕ → Type 0 = λ z. Nexts r b (take count new ++ i ∷ []) t z in
    record {
      within = omega (arith, size, length-drop used b, so_far.within);
      given = subst Q (sym (take_more_set new count i lt)) (subst R (drop-drop i.size used b)
          (nexts_more (take count new) r s t b (drop used b) i so_far.given (subst P one step)));
      rest = sym (drop-drop 1 count (slice_set new count i)) ∙ ap (drop 1) (drop-set new count i lt) ∙ sym (drop-drop 1 count new)
          ∙ ap (drop 1) so_far.rest ∙ drop-drop 1 count old;
    }
