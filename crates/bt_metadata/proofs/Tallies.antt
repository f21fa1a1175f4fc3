-- The counts after each call are right.
use Rattle.std.proofs.Common.{◌≡◌, ℕ, zero, suc, ◌<◌, Bool, true, false, List, [], ◌∷◌, length, get_or, set, map, replicate, position}
use Rattle.std.proofs.Common.{Some, None, slice_get, leb, if◌then◌else◌, refl, sym, ap, ◌∙◌, arith}
use Rattle.bt_metadata.specs.declared.assembly.BlockError.TheVariants.{PieceRange, NotAsked}
use Rattle.bt_metadata.specs.declared.assembly.Status.{Status}
use Rattle.bt_metadata.specs.declared.assembly.Status.TheVariants as status
use Rattle.bt_metadata.specs.declared.assembly.Tally.{Tally}
use Rattle.bt_metadata.specs.Sound.{lacks, asks, holds, rejects, asks_at, error_at, kept_status, IsTallied, no_tally, after_ask, after_hold, after_reject, after_forget}
use Rattle.bt_metadata.proofs.Counts.{count-kept, count-none, count-lacking, count-set}
use Rattle.bt_metadata.proofs.Firsts.{first-set, first-ask, position-found, position-none, lacking_there}

-- ---- all are lacking

pub tallied-lacking : (k : ℕ) → IsTallied no_tally (replicate k status.Lacking)
tallied-lacking k = record {
  asked = sym (count-lacking asks k refl);
  held = sym (count-lacking holds k refl);
  rejected = sym (count-lacking rejects k refl);
  lowest = omega arith;
}

-- ---- the first that is lacking is asked for

pub tallied-ask : (t : Tally) (ss : List Status) (k : ℕ) → IsTallied t ss → position lacks ss ≡ Some k → IsTallied (after_ask t k) (set ss k status.Asked)
tallied-ask t ss k i e =
    let h : k < length ss = (position-found ss k e).1 in
    let there : get_or ss k status.Lacking ≡ status.Lacking = lacking_there ss k e in
    record {
      asked = omega (arith, i.asked, count-set asks ss k status.Lacking status.Asked h there);
      held = omega (arith, i.held, count-set holds ss k status.Lacking status.Asked h there);
      rejected = omega (arith, i.rejected, count-set rejects ss k status.Lacking status.Asked h there);
      lowest = first-ask ss k e;
    }

-- or none is lacking
pub tallied-passed : (t : Tally) (ss : List Status) (n : ℕ) → IsTallied t ss → position lacks ss ≡ None → n ≡ length ss → IsTallied (record t { lowest = n }) ss
tallied-passed t ss n i e l = record { asked = i.asked; held = i.held; rejected = i.rejected; lowest = omega (arith, l, position-none ss e) }

-- ---- a block that was asked for is answered

asked_by : (past asked : Bool) → (if past then Some PieceRange else (if asked then None else Some NotAsked)) ≡ None → asked ≡ true
asked_by true asked h = absurd cc
asked_by false true h = refl
asked_by false false h = absurd cc

there_from : (ss : List Status) (k : ℕ) → asks_at (slice_get ss k) ≡ true → (k < length ss) × (get_or ss k status.Lacking ≡ status.Asked)
there_from [] k h = absurd cc
there_from (status.Asked ∷ ss) zero h = (omega arith, refl)
there_from (status.Lacking ∷ ss) zero h = absurd cc
there_from (status.Rejected ∷ ss) zero h = absurd cc
there_from (status.Held ∷ ss) zero h = absurd cc
there_from (s ∷ ss) (suc k) h = let i = there_from ss k h in (omega (arith, i.0), i.1)

asked_there : (ss : List Status) (k : ℕ) → error_at ss k ≡ None → (k < length ss) × (get_or ss k status.Lacking ≡ status.Asked)
asked_there ss k e = there_from ss k (asked_by (leb (length ss) k) (asks_at (slice_get ss k)) e)

-- nothing is wrong with the number that is used
pub none_at : {ss now : List Status} {k piece : ℕ} → now ≡ ss → k ≡ piece → error_at now piece ≡ None → error_at ss k ≡ None
none_at {ss} {now} {k} {piece} v e n = ap (error_at ss) e ∙ ap (λ xs. error_at xs piece) (sym v) ∙ n

pub one_asked : (t : Tally) (ss : List Status) (k : ℕ) → IsTallied t ss → error_at ss k ≡ None → 0 < t.asked
one_asked t ss k i e =
    let a = asked_there ss k e in
    omega (arith, i.asked, count-set asks ss k status.Asked status.Lacking a.0 a.1)

pub tallied-hold : (t : Tally) (ss : List Status) (k : ℕ) → IsTallied t ss → error_at ss k ≡ None → IsTallied (after_hold t) (set ss k status.Held)
tallied-hold t ss k i e =
    let a = asked_there ss k e in
    record {
      asked = omega (arith, i.asked, count-set asks ss k status.Asked status.Held a.0 a.1);
      held = omega (arith, i.held, count-set holds ss k status.Asked status.Held a.0 a.1);
      rejected = omega (arith, i.rejected, count-set rejects ss k status.Asked status.Held a.0 a.1);
      lowest = omega (arith, i.lowest, first-set ss k status.Held refl);
    }

pub tallied-reject : (t : Tally) (ss : List Status) (k : ℕ) → IsTallied t ss → error_at ss k ≡ None → IsTallied (after_reject t) (set ss k status.Rejected)
tallied-reject t ss k i e =
    let a = asked_there ss k e in
    record {
      asked = omega (arith, i.asked, count-set asks ss k status.Asked status.Rejected a.0 a.1);
      held = omega (arith, i.held, count-set holds ss k status.Asked status.Rejected a.0 a.1);
      rejected = omega (arith, i.rejected, count-set rejects ss k status.Asked status.Rejected a.0 a.1);
      lowest = omega (arith, i.lowest, first-set ss k status.Rejected refl);
    }

-- ---- what is asked and rejected is forgotten

not_asked : (s : Status) → asks (kept_status s) ≡ false
not_asked status.Lacking = refl
not_asked status.Asked = refl
not_asked status.Rejected = refl
not_asked status.Held = refl

not_rejected : (s : Status) → rejects (kept_status s) ≡ false
not_rejected status.Lacking = refl
not_rejected status.Asked = refl
not_rejected status.Rejected = refl
not_rejected status.Held = refl

still_held : (s : Status) → holds (kept_status s) ≡ holds s
still_held status.Lacking = refl
still_held status.Asked = refl
still_held status.Rejected = refl
still_held status.Held = refl

pub tallied-forget : (t : Tally) (ss : List Status) → IsTallied t ss → IsTallied (after_forget t) (map kept_status ss)
tallied-forget t ss i = record {
  asked = sym (count-kept asks (λ s. false) not_asked ss ∙ count-none ss);
  held = i.held ∙ sym (count-kept holds holds still_held ss);
  rejected = sym (count-kept rejects (λ s. false) not_rejected ss ∙ count-none ss);
  lowest = omega arith;
}
