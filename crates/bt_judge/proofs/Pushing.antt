-- Zeros that are pushed in place of the missing bytes of a block.
use Rattle.std.proofs.Common.{◌≡◌, ℕ, ◌+◌, ◌≤◌, ◌<◌, false, List, [], ◌++◌, length, take, None, refl, sym, ap, subst, ◌∙◌, arith, inl, inr}
use Rattle.std.specs.Prelude.{IsSome, replicate}
use Rattle.std.proofs.lemmas.Bool.{cases_lt, le-leb}
use Rattle.std.proofs.lemmas.List.{append-nil, append_assoc, length-append, length-replicate, take-replicate, replicate-append-replicate, get_or_append_left}
use Rattle.bt_wire.specs.declared.context.Context.{Context}
use Rattle.bt_wire.specs.declared.context.Own.{Own}
use Rattle.bt_wire.specs.declared.context.Order.{Order}
use Rattle.bt_wire.specs.declared.item.Item.{Item}
use Rattle.bt_wire.specs.Faults.{has_length, has_id, said_length, is_whole, early_fault}
use Rattle.bt_wire.proofs.HeaderLaws.{not_whole}
use Rattle.bt_wire.proofs.NumberLaws.{number32-append}
use Rattle.bt_feed.specs.declared.stage.Stage.{Stage}
use Rattle.bt_feed.specs.declared.stage.Stage.TheVariants as stage
use Rattle.bt_feed.specs.Feeds.{FeedState, taken, with_bytes, pushed}
use Rattle.bt_feed.specs.Pumps.{IsFed}
use Rattle.bt_feed.specs.Stages.{early, is_all, is_closed, Comes}
use Rattle.bt_feed.proofs.Closed.{open_by, open_parts}
use Rattle.bt_feed.proofs.Reading.{taken_least}
use Rattle.bt_judge.specs.Holes.{lacked, AreZerosPushed}
use Rattle.bt_judge.specs.Readings.{ReadingState, reading_state, IsJudged}
use Rattle.bt_judge.proofs.Blocks.{header_from, early_from}
use Rattle.bt_judge.proofs.Holes.{IsPiece, is_piece}
use Rattle.bt_judge.proofs.Judging.{goes_on, passes}

-- ---- an item that lacks more isn't closed

not_whole_yet : (held x : List ℕ) (n : ℕ) → IsPiece held n → length x < n → is_whole (held ++ x) ≡ false
not_whole_yet held x n p lt =
    not_whole (held ++ x) (omega (arith, lt, p.size, p.long, length-append held x, number32-append held x (omega (arith, p.long))))

same_early : (c : Context) (o : Order) (s : ℕ) (held x : List ℕ) → 5 ≤ length held → early_fault c o s (held ++ x) ≡ early_fault c o s held
same_early c o s held x le =
    let all = held ++ x in
    let size = length-append held x in
    let said : said_length all ≡ said_length held = number32-append held x (omega (arith, le)) in
    let four : has_length all ≡ has_length held = le-leb 4 (length all) (omega (arith, le, size)) ∙ sym (le-leb 4 (length held) (omega (arith, le))) in
    let there : has_id all ≡ has_id held = rw (le-leb 5 (length all) (omega (arith, le, size)), le-leb 5 (length held) le, said) refl in
    early_from c o s held all (header_from c o held all four there (get_or_append_left held x 0 4 (omega (arith, le))) said)

not_all : (t : Stage) (held x : List ℕ) → length x < lacked t held → is_all t (held ++ x) ≡ false
not_all (stage.Handshake own) held x lt = absurd (omega (arith, lt))
not_all (stage.Message c o s i) held x lt = not_whole_yet held x (lacked (stage.Message c o s i) held) (is_piece held (omega (arith, lt))) lt

early_on : (t : Stage) (held x : List ℕ) → length x < lacked t held → early t (held ++ x) ≡ early t held
early_on (stage.Handshake own) held x lt = absurd (omega (arith, lt))
early_on (stage.Message c o s i) held x lt = let p = is_piece held (omega (arith, lt)) in same_early c o s held x (omega (arith, p.long))

still_open : (t : Stage) (held x : List ℕ) → is_closed t held ≡ false → length x < lacked t held → is_closed t (held ++ x) ≡ false
still_open t held x e lt = open_by t (held ++ x) (early_on t held x lt ∙ (open_parts t held e).0) (not_all t held x lt)

-- ---- zeros that are pushed part by part

pub pushes_none : (f : FeedState) → AreZerosPushed f 0 f
pushes_none f = record {
  count = 0;
  within = omega arith;
  is = ap (λ (l : List ℕ). record f { held = l }) (sym (append-nil f.held));
  all = λ _ _. refl;
}

joined : (f g : FeedState) (m n : ℕ) → g ≡ with_bytes f (replicate m 0) → with_bytes g (replicate n 0) ≡ with_bytes f (replicate (m + n) 0)
joined f g m n e =
    ap (λ (s : FeedState). with_bytes s (replicate n 0)) e
    ∙ ap (λ (l : List ℕ). record f { held = l }) (append_assoc f.held (replicate m 0) (replicate n 0)
    ∙ ap (λ (l : List ℕ). f.held ++ l) (replicate-append-replicate m n 0))

pub pushes_more : (f g h : FeedState) (n k : ℕ) (piece : List ℕ) → AreZerosPushed f n g → piece ≡ replicate k 0 → h ≡ pushed g piece
    → AreZerosPushed f (n + k) h
pushes_more f g h n k piece p e is =
    let some = taken g piece in
    let least = taken_least (is_closed g.stage) g.held piece in
    let size : length piece ≡ k = ap length e ∙ length-replicate k 0 in
    let le : some ≤ k = omega (arith, size, least.within) in
    let zeros : take some piece ≡ replicate some 0 = ap (take some) e ∙ take-replicate some k 0 le in
    let same : pushed g piece ≡ with_bytes f (replicate (p.count + some) 0) =
    ap (λ (l : List ℕ). with_bytes g l) zeros ∙ joined f g p.count some p.is in
    record {
      count = p.count + some;
      within = omega (arith, p.within, le);
      is = is ∙ same;
      all = λ waits lt.
          elim (cases_lt some (length piece)) [
            | inl fewer ↦
                let n_all : p.count ≡ n = p.all waits (omega (arith, lt)) in
                let not_yet = still_open f.stage f.held (replicate (p.count + some) 0) waits
                (omega (arith, lt, n_all, fewer, size, length-replicate {A = ℕ} (p.count + some) 0)) in
                let closed = sym (ap (λ (s : FeedState). is_closed s.stage s.held) same) ∙ least.stops fewer in
                absurd (cc)
            | inr all ↦ omega (arith, p.all waits (omega (arith, lt)), all, size, le)
          ];
    }

-- ---- what they are to a reading

-- no whole item is held
pub holds_none : (f g : FeedState) (n : ℕ) → n < lacked f.stage f.held → AreZerosPushed f n g → is_all g.stage g.held ≡ false
holds_none f g n lt p = ap (λ (s : FeedState). is_all s.stage s.held) p.is
    ∙ not_all f.stage f.held (replicate p.count 0) (omega (arith, lt, p.within, length-replicate {A = ℕ} p.count 0))

pub filled : (own : Own) (b : List ℕ) (xs : List (ℕ × Item)) (f g : FeedState) (n : ℕ) → n < lacked f.stage f.held → AreZerosPushed f n g
    → IsJudged own b xs (reading_state f None) → IsJudged own (b ++ replicate n 0) xs (reading_state g None)
filled own b xs f g n lt p j =
    let held = j.held refl in
    let zeros = replicate n 0 in
    let h = with_bytes f zeros in
    let same : g ≡ h = p.is ∙ ap (λ (k : ℕ). with_bytes f (replicate k 0)) (p.all held.waits lt) in
    let fed : IsFed f zeros [] h = record {
      comes = λ later v k. let P : List ℕ → Type 0 = λ l. Comes f.stage l v in subst P (append_assoc f.held zeros later) k;
      spells = (refl, refl);
    } in
    let waits = still_open f.stage f.held zeros held.waits (omega (arith, lt, length-replicate {A = ℕ} n 0)) in
    let P : List (ℕ × Item) → FeedState → Type 0 = λ l s. IsJudged own (b ++ zeros) l (reading_state s None) in
    subst (λ (s : FeedState). P xs s) (sym same) (subst (λ (l : List (ℕ × Item)). P l h) (append-nil xs)
    (goes_on own b xs f h zeros [] j.limit held.limit held.read fed waits))

pub passed_over : (own : Own) (b : List ℕ) (xs : List (ℕ × Item)) (s : ReadingState) (n : ℕ) → IsSome s.refused → IsJudged own b xs s
    → IsJudged own (b ++ replicate n 0) xs s
passed_over own b xs s n some j =
    let P : List (ℕ × Item) → Type 0 = λ l. IsJudged own (b ++ replicate n 0) l s in
    subst P (append-nil xs) (passes own b xs s (replicate n 0) some j)
