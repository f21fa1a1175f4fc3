use Rattle.std.proofs.Common.{◌≡◌, ℕ, ◌≤◌, ◌<◌, ◌*◌, Bool, true, false, not, nat_eq, List, length, replicate, count_by, refl, ap, subst, sym, ◌∙◌, arith}
use Rattle.std.specs.Cmp.Lexicographic.{pointwise}
use Rattle.std.specs.List.{list_all}
use Rattle.std.proofs.lemmas.List.{length-replicate}
use Rattle.std.proofs.lemmas.Slice.Eq.{bytes_eq-Decides}
use Rattle.sha1.specs.Sha1.{sha1}
use Rattle.bt_ext.specs.Metadata.{block_count}
use Rattle.bt_metadata.specs.declared.assembly.Status.{Status}
use Rattle.bt_metadata.specs.declared.assembly.Status.TheVariants as status
use Rattle.bt_metadata.specs.declared.assembly.Tally.{Tally}
use Rattle.bt_metadata.specs.Blocks.{block_size}
use Rattle.bt_metadata.specs.Assemblies.{AssemblyState, is_whole, joined, IsRight, IsFinished, emptied}
use Rattle.bt_metadata.specs.Sound.{state_of, slots_of, asks, holds, IsTallied, no_tally, AreWritten}
use Rattle.bt_metadata.proofs.Tallies.{tallied-lacking}
use Rattle.bt_metadata.proofs.Lengths.{count_covers}
use Rattle.bt_metadata.proofs.Slots.{all_held-slots, joined-slots}
use Rattle.bt_metadata.proofs.States.{emptied_is}
use Rattle.bt_metadata.proofs.Written.{written-lacking, written-all}
use Rattle.bt_metadata.proofs.assembly.Assembly.finish.Goals as goal

-- the blocks cover the bytes
joins : (d : List ℕ) (ss : List Status) → list_all holds ss ≡ true → length ss ≡ block_count (length d) → joined (slots_of ss d) ≡ d
joins d ss h c = joined-slots ss d h (subst (λ n. length d ≤ block_size * n) (sym c) (count_covers (length d)))

finished_is : (h d : List ℕ) (ss : List Status) → list_all holds ss ≡ true → length ss ≡ block_count (length d) → sha1 d ≡ h → IsFinished (state_of h d ss) d
finished_is h d ss e c r = record { held = all_held-slots ss d ∙ e; joins = sym (joins d ss e c); size = refl; right = r }

not_right : (h d : List ℕ) (ss : List Status) → list_all holds ss ≡ true → length ss ≡ block_count (length d) → (sha1 d ≡ h → ⊥) → IsRight (state_of h d ss) → ⊥
not_right h d ss e c n r = n (ap sha1 (sym (joins d ss e c)) ∙ r)

from_not : (b : Bool) → false ≡ not b → b ≡ true
from_not true h = refl
from_not false h = absurd cc

-- the digest and the info hash
same : (x y : List ℕ) → false ≡ not (pointwise nat_eq x y) → x ≡ y
same x y h = (bytes_eq-Decides x y).0 (from_not (pointwise nat_eq x y) h)

other : (x y : List ℕ) → true ≡ not (pointwise nat_eq x y) → x ≡ y → ⊥
other x y h e = let t : pointwise nat_eq x y ≡ true = (bytes_eq-Decides x y).1 e in cc

-- all is written
whole_written : {ss now : List Status} {size written : ℕ} {b : Bool} → now ≡ ss → b ≡ list_all holds now → b ≡ true → length ss ≡ block_count size → 0 < size
    → AreWritten ss size written → size ≤ written
whole_written {ss} {now} {size} {written} v e t c l w = written-all ss size written (ap (list_all holds) (sym v) ∙ sym e ∙ t) c l w

pub as_slice-requires : goal.as_slice-requires
as_slice-requires g c =
    let i = c.self.invariant in
    whole_written c.deref.ensures.value c.if-not-is_whole.ensures refl i.count i.least i.written

pub into_vec-requires : goal.into_vec-requires
into_vec-requires g c =
    let i = c.self.invariant in
    whole_written c.deref.ensures.value c.if-not-is_whole.ensures refl i.count i.least i.written

pub returns-then-not-is_whole : goal.returns-then-not-is_whole
returns-then-not-is_whole g c =
    let d = c.self.inside.bytes.whole in
    let ss = c.self.inside.states.items in
    let e : list_all holds ss ≡ false = ap (list_all holds) (sym c.deref.ensures.value) ∙ sym c.if-not-is_whole.ensures in
    (ap (λ (a : AssemblyState). is_whole a) (sym c.self.view_is) ∙ all_held-slots ss d ∙ e, refl)

pub returns-then-ne : goal.returns-then-ne
returns-then-ne g c =
    let h = c.self.inside.info_hash in
    let d = c.self.inside.bytes.whole in
    let ss = c.self.inside.states.items in
    let v = c.self.view_is in
    let e : list_all holds ss ≡ true = ap (list_all holds) (sym c.deref.ensures.value) ∙ sym c.if-not-is_whole.ensures in
    let n : sha1 d ≡ h → ⊥ = λ r. other c.digest.result h c.if-ne.ensures (c.digest.ensures ∙ ap sha1 c.as_slice.ensures ∙ r) in
    let f = c.fill.ensures.items (λ y x. x) ∙ ap (λ m. replicate m status.Lacking) c.self.inside.states.ok.0 in (
      ap (λ (a : AssemblyState). is_whole a) (sym v) ∙ all_held-slots ss d ∙ e,
      subst (λ (a : AssemblyState). IsRight a → ⊥) v (not_right h d ss e c.self.invariant.count n),
      ap (λ (xs : List Status). state_of h d xs) f ∙ emptied_is h d ss c.self.invariant.count ∙ ap (λ (a : AssemblyState). emptied a) v,
    )

pub invariant_of-self : goal.invariant_of-self
invariant_of-self g c =
    let ss = c.self.inside.states in
    let f = c.fill.ensures.items (λ y x. x) ∙ ap (λ m. replicate m status.Lacking) ss.ok.0 in
    let start : IsTallied no_tally (replicate (length ss.items) status.Lacking) = tallied-lacking (length ss.items) in
    let right : IsTallied c.new-self-inside.result c.fill.new.self.items = subst (λ (t : Tally). IsTallied t c.fill.new.self.items) (sym c.new-self-inside.ensures) (subst (λ (xs : List Status).
    IsTallied no_tally xs) (sym f) start) in
    let none : count_by asks c.fill.new.self.items ≡ 0 = sym right.asked ∙ ap (λ (t : Tally). t.asked) c.new-self-inside.ensures in
    record {
      least = c.self.invariant.least;
      most = c.self.invariant.most;
      count = ap length f ∙ length-replicate (length ss.items) status.Lacking ∙ c.self.invariant.count;
      asked = omega (arith, none);
      tallied = right;
      written = subst (λ (xs : List Status). AreWritten xs (length c.self.inside.bytes.whole) c.self.inside.bytes.written) (sym f)
          (written-lacking (length ss.items) (length c.self.inside.bytes.whole) c.self.inside.bytes.written);
    }

pub returns : goal.returns
returns g c =
    let h = c.self.inside.info_hash in
    let d = c.self.inside.bytes.whole in
    let ss = c.self.inside.states.items in
    let e : list_all holds ss ≡ true = ap (list_all holds) (sym c.deref.ensures.value) ∙ sym c.if-not-is_whole.ensures in
    let r : sha1 d ≡ h = ap sha1 (sym c.as_slice.ensures) ∙ sym c.digest.ensures ∙ same c.digest.result h c.if-ne.ensures in
    subst (λ (v : List ℕ). IsFinished c.args.self v) (sym c.into_vec.ensures)
    (subst (λ (a : AssemblyState). IsFinished a d) c.self.view_is (finished_is h d ss e c.self.invariant.count r))
