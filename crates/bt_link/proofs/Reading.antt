-- The lines of a script that are read one after the other.
use Rattle.std.proofs.Common.{◌≡◌, ℕ, ◌+◌, ◌≤◌, true, false, List, [], ◌∷◌, ◌++◌, length, Option, Some, None, refl, sym, ap, subst, ◌∙◌, arith}
use Rattle.std.proofs.lemmas.List.{append-nil, append_assoc, length-append}
use Rattle.bt_text.specs.Script.{has_feed}
use Rattle.bt_text.specs.Splitting.{IsCut}
use Rattle.bt_session.specs.declared.link.Side.{Side}
use Rattle.bt_session.specs.declared.link.Step.{Step}
use Rattle.bt_link.specs.declared.entry.Entry.{Entry}
use Rattle.bt_link.specs.declared.entry.Entry.TheVariants.{Set, Do}
use Rattle.bt_link.specs.declared.entry.Setting.{Setting}
use Rattle.bt_link.specs.Entries.{Says, IsReading}
use Rattle.bt_link.specs.Scripts.{Draft, Plan, settled, start, is_skipped, Takes, skips, sets, does, AreTaken, IsTaken, AreWhole, ended_lines, HasLine, IsScript, IsWrongAt}

-- ---- a line

pub none_taken : (d : Draft) (line : List ℕ) → is_skipped line ≡ false → IsReading line None → IsTaken d line d false
none_taken d line shown none other (skips skipped e) = let k : true ≡ false = sym skipped ∙ shown in cc
none_taken d line shown none other (sets side setting s says first e) = none (Set side setting) says
none_taken d line shown none other (does step s says e) = none (Do step) says

pub says_set : (line : List ℕ) (r : Option Entry) (e : Entry) (side : Side) (setting : Setting) → IsReading line r → r ≡ Some e → e ≡ Set side setting
    → Says line (Set side setting)
says_set line r e side setting h some is = subst (IsReading line) (some ∙ ap (λ (x : Entry). Some x) is) h

pub says_do : (line : List ℕ) (r : Option Entry) (e : Entry) (step : Step) → IsReading line r → r ≡ Some e → e ≡ Do step → Says line (Do step)
says_do line r e step h some is = subst (IsReading line) (some ∙ ap (λ (x : Entry). Some x) is) h

-- ---- lines

pub taken_more : (d e f : Draft) (lines : List (List ℕ)) (line : List ℕ) → AreTaken d lines e → Takes e line f → AreTaken d (lines ++ line ∷ []) f
taken_more d e f [] line h more = (f, subst (λ (x : Draft). Takes x line f) h more, refl)
taken_more d e f (l ∷ ls) line h more = (h.0, h.1, taken_more h.0 e f ls line h.2 more)

whole_more : (lines : List (List ℕ)) (line : List ℕ) → AreWhole lines → has_feed line ≡ false → AreWhole (lines ++ line ∷ [])
whole_more [] line h last = (last, tt)
whole_more (l ∷ ls) line h last = (h.0, whole_more ls line h.1 last)

ended_more : (lines : List (List ℕ)) (line rest : List ℕ) → ended_lines (lines ++ line ∷ []) ++ rest ≡ ended_lines lines ++ (line ++ 10 ∷ rest)
ended_more [] line rest = simp append_assoc
ended_more (l ∷ ls) line rest =
    append_assoc (l ++ 10 ∷ []) (ended_lines (ls ++ line ∷ [])) rest ∙ ap (λ (x : List ℕ). (l ++ 10 ∷ []) ++ x) (ended_more ls line rest)
    ∙ sym (append_assoc (l ++ 10 ∷ []) (ended_lines ls) (line ++ 10 ∷ rest))

-- these lines are read, and the rest isn't
pub record IsReadTo (text rest : List ℕ) (number : ℕ) (d : Draft) : Type 0 where
  pub before : List (List ℕ)
  pub parts : text ≡ ended_lines before ++ rest
  pub whole : AreWhole before
  pub taken : AreTaken start before d
  pub count : number ≡ length before + 1
  pub bound : number + length rest ≤ length text + 1

pub one_more_read : (text rest line after : List ℕ) (number : ℕ) (d next : Draft) → IsReadTo text rest number d → IsCut rest (Some (line, after))
    → Takes d line next → IsReadTo text after (number + 1) next
one_more_read text rest line after number d next h cut taken =
    let size : length rest ≡ length line + (1 + length after) = ap length cut.0 ∙ length-append line (10 ∷ after) ∙ (omega arith) in
    record {
      before = h.before ++ line ∷ [];
      parts = h.parts ∙ ap (λ (x : List ℕ). ended_lines h.before ++ x) cut.0 ∙ sym (ended_more h.before line after);
      whole = whole_more h.before line h.whole cut.1;
      taken = taken_more start d next h.before line h.taken taken;
      count = omega (arith, h.count, length-append h.before (line ∷ []));
      bound = omega (arith, h.bound, size);
    }

last_line : (text rest : List ℕ) (number : ℕ) (d : Draft) (h : IsReadTo text rest number d) → has_feed rest ≡ false → HasLine text h.before rest []
last_line text rest number d h none = record {
  parts = h.parts ∙ ap (λ (x : List ℕ). ended_lines h.before ++ x) (sym (append-nil rest));
  whole = h.whole;
  last = none;
  ends = tt;
}

pub wrong_last : (text rest : List ℕ) (number : ℕ) (d : Draft) → IsReadTo text rest number d → IsCut rest None → ((next : Draft) → Takes d rest next → ⊥)
    → IsWrongAt text number
wrong_last text rest number d h none wrong =
    record {
      before = h.before;
      line = rest;
      tail = [];
      lines = last_line text rest number d h none;
      draft = d;
      taken = h.taken;
      wrong = wrong;
      count = h.count;
    }

pub all_read : (text rest : List ℕ) (number : ℕ) (d next : Draft) (p : Plan) → IsReadTo text rest number d → IsCut rest None → Takes d rest next
    → p ≡ settled next → IsScript text p
all_read text rest number d next p h none taken plan =
    record {
      before = h.before;
      line = rest;
      lines = last_line text rest number d h none;
      draft = next;
      taken = taken_more start d next h.before rest h.taken taken;
      plan = plan;
    }
