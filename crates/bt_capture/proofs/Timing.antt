-- The packets with which parts are told.
use Rattle.std.proofs.Common.{◌≡◌, ◌∙◌, ℕ, ◌+◌, ◌≤◌, ◌<◌, false, List, [], ◌∷◌, ◌++◌, append_assoc, length}
use Rattle.std.proofs.Common.{sym, ap, subst, arith, inl, inr}
use Rattle.std.specs.List.{All}
use Rattle.std.proofs.lemmas.Bool.{cases_lt}
use Rattle.std.proofs.lemmas.List.{length-append}
use Rattle.std.proofs.lemmas.List.Elements.{All-cons, All-head, All-nil, All-push, All-tail, All-weaker}
use Rattle.bt_talk.specs.Rows.{Shown}
use Rattle.bt_report.specs.declared.report.Report.{Report}
use Rattle.bt_capture.specs.Following.{AreTimed, AreToldWith, Cause, Fate, Finished, IsReportedAt, IsReportedWith, IsToldAt}
use Rattle.bt_capture.specs.Following.{AreNotFinal, Before, Crowded, Ended, Final, Lost, Reported, Silent, is_final, report_in}
use Rattle.bt_capture.specs.Tellings.{OfBytes, OfReport, OfRows, Part}
use Rattle.bt_capture.proofs.Order.{placed, placed_before, placed_now}
use Rattle.bt_capture.proofs.Rowing.{parts_of_report}

shorter : (before after : List Part) (p : Part) (parts : List Part) → parts ≡ before ++ p ∷ after → length before < length parts
shorter before after p parts e =
    let n = ap (λ (l : List Part). length l) e ∙ length-append before (p ∷ after) in
    let more : length (p ∷ after) ≡ length after + 1 = omega arith in
    omega (arith, n, more)

timed_more : (packet : ℕ → ℕ) (number : ℕ) (parts more : List Part) → AreTimed packet number parts
    → AreTimed (placed packet (length parts) number) number (parts ++ more)
timed_more packet number parts more i =
    let k = length parts in
    record {
      ascending = λ m n less lt. elim (cases_lt n k) [
        | inl early ↦
            let first : m < k = omega (arith, less, early) in
            let e = placed_before packet k number m first in
            let f = placed_before packet k number n early in
            let up = i.ascending m n less early in
            omega (arith, e, f, up)
        | inr late ↦
            let f = placed_now packet k number n late in
            elim (cases_lt m k) [
              | inl early ↦
                  let e = placed_before packet k number m early in
                  let below = i.within m early in
                  omega (arith, e, f, below)
              | inr also ↦ let e = placed_now packet k number m also in omega (arith, e, f)
            ]
      ];
      within = λ n lt. elim (cases_lt n k) [
        | inl early ↦
            let e = placed_before packet k number n early in
            let below = i.within n early in
            omega (arith, e, below)
        | inr late ↦ let e = placed_now packet k number n late in omega (arith, e)
      ];
    }

reported_on : (packet : ℕ → ℕ) (number : ℕ) (parts more : List Part) (cause : Cause) (end : Fate) → IsReportedAt packet number parts cause end
    → IsReportedAt (placed packet (length parts) number) number (parts ++ more) cause end
reported_on packet number parts more cause (Reported r) i =
    let lt = shorter i.0 i.1 (OfReport r) parts i.2 in (
      i.0,
      i.1 ++ more,
      ap (λ l. l ++ more) i.2 ∙ append_assoc i.0 (OfReport r ∷ i.1) more,
      subst (IsToldAt number cause) (sym (placed_before packet (length parts) number (length i.0) lt)) i.3,
    )
reported_on packet number parts more cause Silent i = tt
reported_on packet number parts more cause Lost i = tt

-- Parts follow.
pub told_more : (packet : ℕ → ℕ) (number : ℕ) (parts more : List Part) (fs : List Finished) → AreToldWith packet number parts fs
    → AreToldWith (placed packet (length parts) number) number (parts ++ more) fs
told_more packet number parts more fs i = record {
  timed = timed_more packet number parts more i.timed;
  reports = All-weaker (IsReportedWith packet number parts) (IsReportedWith (placed packet (length parts) number) number (parts ++ more))
      (λ f r. reported_on packet number parts more f.cause f.fate r) fs i.reports;
}

no_report : (packet : ℕ → ℕ) (number : ℕ) (parts : List Part) (cause : Cause) (end : Fate) → report_in end ≡ []
    → IsReportedAt packet number parts cause end
no_report packet number parts cause (Reported r) e = absurd (cc)
no_report packet number parts cause Silent e = tt
no_report packet number parts cause Lost e = tt

-- One more is over, and isn't reported.
pub told_unreported : (packet : ℕ → ℕ) (number : ℕ) (parts : List Part) (fs : List Finished) (f : Finished) → report_in f.fate ≡ []
    → AreToldWith packet number parts fs → AreToldWith packet number parts (fs ++ f ∷ [])
told_unreported packet number parts fs f none i = record {
  timed = i.timed;
  reports = All-push (IsReportedWith packet number parts) fs f i.reports (no_report packet number parts f.cause f.fate none);
}

-- It isn't one that is left at the end.
at_any : (old number : ℕ) (cause : Cause) (packet : ℕ) → is_final cause ≡ false → IsToldAt old cause packet → IsToldAt number cause packet
at_any old number Final packet e i = cc
at_any old number (Ended at) packet e i = i
at_any old number (Crowded ended at) packet e i = i
at_any old number (Before x) packet e i = i

reported_later : (packet : ℕ → ℕ) (old number : ℕ) (parts : List Part) (cause : Cause) (end : Fate) → is_final cause ≡ false
    → IsReportedAt packet old parts cause end → IsReportedAt packet number parts cause end
reported_later packet old number parts cause (Reported r) e i = (i.0, i.1, i.2, at_any old number cause (packet (length i.0)) e i.3)
reported_later packet old number parts cause Silent e i = tt
reported_later packet old number parts cause Lost e i = tt

all_later : (packet : ℕ → ℕ) (old number : ℕ) (parts : List Part) (fs : List Finished) → AreNotFinal fs → All (IsReportedWith packet old parts) fs
    → All (IsReportedWith packet number parts) fs
all_later packet old number parts [] none i = All-nil (IsReportedWith packet number parts)
all_later packet old number parts (f ∷ fs) none i =
    let P : Finished → Type 0 = λ g. is_final g.cause ≡ false in
    All-cons (IsReportedWith packet number parts) f fs
    (reported_later packet old number parts f.cause f.fate (All-head P f fs none) (All-head (IsReportedWith packet old parts) f fs i))
    (all_later packet old number parts fs (All-tail P f fs none) (All-tail (IsReportedWith packet old parts) f fs i))

-- Packets follow.
pub told_later : (packet : ℕ → ℕ) (old number : ℕ) (parts : List Part) (fs : List Finished) → old ≤ number → AreNotFinal fs
    → AreToldWith packet old parts fs → AreToldWith packet number parts fs
told_later packet old number parts fs le none i = record {
  timed = record {
    ascending = i.timed.ascending;
    within = λ n lt. let below = i.timed.within n lt in omega (arith, below, le);
  };
  reports = all_later packet old number parts fs none i.reports;
}

pub told_nothing : (number : ℕ) → AreToldWith (λ n. 0) number [] []
told_nothing number = record {
  timed = record {
    ascending = λ m n less lt. absurd (omega (arith, lt));
    within = λ n lt. absurd (omega (arith, lt));
  };
  reports = All-nil (IsReportedWith (λ n. 0) number []);
}

-- One more is over, and this is its report.
pub told_reported : (packet : ℕ → ℕ) (number : ℕ) (parts : List Part) (fs : List Finished) (f : Finished) (bytes : List ℕ) (rows : List Shown)
    (r : Report) → f.fate ≡ Reported r → IsToldAt number f.cause number → AreToldWith packet number parts fs
    → AreToldWith (placed packet (length parts) number) number (parts ++ parts_of_report bytes rows r) (fs ++ f ∷ [])
told_reported packet number parts fs f bytes rows r fate told i =
    let more = parts_of_report bytes rows r in
    let all = told_more packet number parts more fs i in
    let before = parts ++ OfBytes bytes ∷ OfRows rows ∷ [] in
    let packets = placed packet (length parts) number in
    let longer : length parts ≤ length before = let n = length-append parts (OfBytes bytes ∷ OfRows rows ∷ []) in omega (arith, n) in
    let mine : IsReportedAt packets number (parts ++ more) f.cause (Reported r) = (
      before,
      [],
      sym (append_assoc parts (OfBytes bytes ∷ OfRows rows ∷ []) (OfReport r ∷ [])),
      subst (IsToldAt number f.cause) (sym (placed_now packet (length parts) number (length before) longer)) told,
    ) in
    record {
      timed = all.timed;
      reports = All-push (IsReportedWith packets number (parts ++ more)) fs f all.reports
          (subst (λ e. IsReportedAt packets number (parts ++ more) f.cause e) (sym fate) mine);
    }
