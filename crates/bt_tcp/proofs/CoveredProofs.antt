-- Lemmas on spans, and on a span more.
use Rattle.std.proofs.Common.{◌≡◌, ℕ, zero, suc, ◌+◌, ◌-◌, ◌<◌, ◌≤◌, Bool, true, false, List, [], ◌∷◌, ◌++◌, length, get_or, take, drop, set}
use Rattle.std.proofs.Common.{refl, sym, ap, ◌∙◌, arith}
use Rattle.std.specs.Prelude.{Some, if◌then◌else◌, max, nat_le, nat_lt}
use Rattle.std.proofs.lemmas.Grind.{common_steps}
use Rattle.std.proofs.Common.{length-take, length-drop, length-append, append_assoc}
use Rattle.std.proofs.lemmas.List.{drop-take, drop-drop, take-take, take-append-drop, set-append_left, take_more_set}
use Rattle.std.proofs.lemmas.List.Edits.{take-paste}
use Rattle.std.proofs.Math.Seq.{paste, take-set-lt}
use Rattle.std.specs.List.{copy_within}
use Rattle.std.specs.List.Sorted.{IsNonDecreasingBy}
use Rattle.bt_tcp.specs.declared.covered.Span.{Span}
use Rattle.bt_tcp.specs.Covered.{in_span, is_covered, AreApart, Adds, IsAlone, IsFirstFrom, hull, join, add}

pub apart-less : (least more : ℕ) (spans : List Span) → least ≤ more → AreApart more spans → AreApart least spans
apart-less least more [] l a = tt
apart-less least more (t ∷ spans) l a = (omega (arith, a.0), a.1, a.2)

-- Before the spans no place is covered.
pub apart-before : (least : ℕ) (spans : List Span) (i : ℕ) → AreApart least spans → i < least → is_covered spans i ≡ false
apart-before least [] i a h = refl
apart-before least (t ∷ spans) i a h =
    let r : is_covered spans i ≡ false = apart-before (t.to + 1) spans i a.2 (omega (arith, a.0, a.1)) in
    let f : i < t.from = omega (arith, a.0) in
    grind (arith, common_steps)

-- The first of the spans doesn't end before this one begins.
abbrev pub Reaches : Span → List Span → Type 0
Reaches s [] = Unit {0}
Reaches s (t ∷ spans) = s.from ≤ t.to

reaches_next : (s t : Span) (spans : List Span) → AreApart (t.to + 1) spans → t.from < t.to → Reaches (hull s t) spans
reaches_next s t [] a h = tt
reaches_next s t (u ∷ spans) a h = omega (arith, a.0, a.1)

in_hull : (s t : Span) (i : ℕ) (rest : Bool) → s.from ≤ t.to → t.from ≤ s.to → s.from < s.to → t.from < t.to
    → (if in_span (hull s t) i then true else rest) ≡ (if in_span s i then true else if in_span t i then true else rest)
in_hull s t i rest a b f g = grind (arith, common_steps)

join-covers_case : (b : Bool) (least : ℕ) (s t : Span) (spans : List Span) → nat_lt s.to t.from ≡ b → AreApart least (t ∷ spans) → s.from ≤ t.to
    → s.from < s.to → Adds (hull s t) spans (join (hull s t) spans)
    → Adds s (t ∷ spans) (if b then s ∷ t ∷ spans else join (hull s t) spans)
join-covers_case true least s t spans e a r h j i = refl
join-covers_case false least s t spans e a r h j i =
    let b : t.from ≤ s.to = grind (arith, common_steps) in
    j i ∙ in_hull s t i (is_covered spans i) r b h a.1

pub join-covers : (least : ℕ) (s : Span) (spans : List Span) → AreApart least spans → Reaches s spans → s.from < s.to → Adds s spans (join s spans)
join-covers least s [] a r h = λ i. refl
join-covers least s (t ∷ spans) a r h =
    let w : (hull s t).from < (hull s t).to = omega arith in
    join-covers_case (nat_lt s.to t.from) least s t spans refl a r h (join-covers (t.to + 1) (hull s t) spans a.2 (reaches_next s t spans a.2 a.1) w)

swap_if : (a b c : Bool) → (if a then true else if b then true else c) ≡ (if b then true else if a then true else c)
swap_if true true c = refl
swap_if true false c = refl
swap_if false true c = refl
swap_if false false c = refl

add-covers_case : (b : Bool) (least : ℕ) (s t : Span) (spans : List Span) → nat_lt t.to s.from ≡ b → AreApart least (t ∷ spans) → s.from < s.to
    → Adds s spans (add s spans)
    → Adds s (t ∷ spans) (if b then t ∷ add s spans else join s (t ∷ spans))
add-covers_case true least s t spans e a h j = λ i. ap (λ c. if in_span t i then true else c) (j i) ∙ swap_if (in_span t i) (in_span s i) (is_covered spans i)
add-covers_case false least s t spans e a h j =
    let r : s.from ≤ t.to = grind (arith, common_steps) in
    join-covers least s (t ∷ spans) a r h

pub add-covers : (least : ℕ) (s : Span) (spans : List Span) → AreApart least spans → s.from < s.to → Adds s spans (add s spans)
add-covers least s [] a h = λ i. refl
add-covers least s (t ∷ spans) a h = add-covers_case (nat_lt t.to s.from) least s t spans refl a h (add-covers (t.to + 1) s spans a.2 h)

join-apart_case : (b : Bool) (least : ℕ) (s t : Span) (spans : List Span) → nat_lt s.to t.from ≡ b → AreApart least (t ∷ spans) → least ≤ s.from → s.from < s.to
    → AreApart least (join (hull s t) spans) → AreApart least (if b then s ∷ t ∷ spans else join (hull s t) spans)
join-apart_case true least s t spans e a l h j =
    let g : s.to + 1 ≤ t.from = grind (arith, common_steps) in
    (l, h, (g, a.1, a.2))
join-apart_case false least s t spans e a l h j = j

pub join-apart : (least : ℕ) (s : Span) (spans : List Span) → AreApart least spans → least ≤ s.from → s.from < s.to → AreApart least (join s spans)
join-apart least s [] a l h = (l, h, tt)
join-apart least s (t ∷ spans) a l h =
    let w : (hull s t).from < (hull s t).to = omega arith in
    let v : least ≤ (hull s t).from = omega (arith, a.0) in
    let r : AreApart least spans = apart-less least (t.to + 1) spans (omega (arith, a.0, a.1)) a.2 in
    join-apart_case (nat_lt s.to t.from) least s t spans refl a l h (join-apart least (hull s t) spans r v w)

add-apart_case : (b : Bool) (least : ℕ) (s t : Span) (spans : List Span) → nat_lt t.to s.from ≡ b → AreApart least (t ∷ spans) → least ≤ s.from → s.from < s.to
    → (t.to + 1 ≤ s.from → AreApart (t.to + 1) (add s spans)) → AreApart least (if b then t ∷ add s spans else join s (t ∷ spans))
add-apart_case true least s t spans e a l h j =
    let g : t.to + 1 ≤ s.from = grind (arith, common_steps) in
    (a.0, a.1, j g)
add-apart_case false least s t spans e a l h j = join-apart least s (t ∷ spans) a l h

pub add-apart : (least : ℕ) (s : Span) (spans : List Span) → AreApart least spans → least ≤ s.from → s.from < s.to → AreApart least (add s spans)
add-apart least s [] a l h = (l, h, tt)
add-apart least s (t ∷ spans) a l h = add-apart_case (nat_lt t.to s.from) least s t spans refl a l h (λ g. add-apart (t.to + 1) s spans a.2 g h)

-- ---- a span that touches none

join-length_case : (b : Bool) (s t : Span) (spans : List Span) → length (join (hull s t) spans) ≤ suc (length spans)
    → length (if b then s ∷ t ∷ spans else join (hull s t) spans) ≤ suc (suc (length spans))
join-length_case true s t spans h = omega arith
join-length_case false s t spans h = omega arith

join-length : (s : Span) (spans : List Span) → length (join s spans) ≤ suc (length spans)
join-length s [] = omega arith
join-length s (t ∷ spans) = join-length_case (nat_lt s.to t.from) s t spans (join-length (hull s t) spans)

join-alone_case : (b : Bool) (least : ℕ) (s t : Span) (spans : List Span) → nat_lt s.to t.from ≡ b → AreApart least (t ∷ spans)
    → length (if b then s ∷ t ∷ spans else join (hull s t) spans) ≡ suc (suc (length spans)) → IsAlone s (t ∷ spans)
join-alone_case true least s t spans e a n = λ i p q. (
    let g : s.to + 1 ≤ t.from = grind (arith, common_steps) in
    let w : AreApart (s.to + 1) (t ∷ spans) = (g, a.1, a.2) in
    apart-before (s.to + 1) (t ∷ spans) i w (omega arith))
join-alone_case false least s t spans e a n = absurd (omega (arith, join-length (hull s t) spans))

add-alone_case : (b : Bool) (least : ℕ) (s t : Span) (spans : List Span) → nat_lt t.to s.from ≡ b → AreApart least (t ∷ spans)
    → (length (add s spans) ≡ suc (length spans) → IsAlone s spans)
    → length (if b then t ∷ add s spans else join s (t ∷ spans)) ≡ suc (suc (length spans)) → IsAlone s (t ∷ spans)
add-alone_case true least s t spans e a j n = λ i p q. (
    let r : is_covered spans i ≡ false = j (omega arith) i p q in
    let g : t.to ≤ i = grind (arith, common_steps) in
    grind (arith, common_steps))
add-alone_case false least s t spans e a j n = join-alone_case (nat_lt s.to t.from) least s t spans refl a n

pub add-alone : (least : ℕ) (s : Span) (spans : List Span) → AreApart least spans → length (add s spans) ≡ suc (length spans) → IsAlone s spans
add-alone least s [] a n = λ i p q. refl
add-alone least s (t ∷ spans) a n = add-alone_case (nat_lt t.to s.from) least s t spans refl a (add-alone (t.to + 1) s spans a.2) n

-- ---- spans in a table

pub replaced : (table : List Span) (count from to : ℕ) (s : Span) → from ≤ to → to ≤ count → count ≤ length table → from + 1 + (count - to) ≤ length table
    → take (from + 1 + (count - to)) (set (copy_within table to count (from + 1)) from s) ≡ take from table ++ s ∷ drop to (take count table)
replaced table count from to s a b c d =
    let n : ℕ = count - to in
    let l : length (drop to table) ≡ length table - to = length-drop to table in
    let w : n ≤ length (drop to table) = omega arith in
    let v : from + 1 ≤ length table = omega arith in
    let i : from < from + 1 + n = omega arith in
    let e : take (from + 1 + n) (paste table (from + 1) (drop to table) n) ≡ take (from + 1) table ++ take n (drop to table) = take-paste table
    (from + 1) (drop to table) n v w in
    let t : to + n ≡ count = omega arith in
    let f : take n (drop to table) ≡ drop to (take count table) = sym (drop-take to n table) ∙ ap (λ m. drop to (take m table)) t in
    let k : from < from + 1 = omega arith in
    let g : from < length table = omega arith in
    let j : from < length (take (from + 1) table) = omega (arith, length-take (from + 1) table) in
    take-set-lt (from + 1 + n) (paste table (from + 1) (drop to table) n) from s i
    ∙ ap (λ x. set x from s) e
    ∙ set-append_left (take (from + 1) table) (take n (drop to table)) from s j
    ∙ ap (λ x. x ++ take n (drop to table)) (sym (take-set-lt (from + 1) table from s k) ∙ take_more_set table from s g)
    ∙ append_assoc (take from table) (s ∷ []) (take n (drop to table))
    ∙ ap (λ x. take from table ++ s ∷ x) f

-- Spans that stay where they are needn't be copied.
pub copied-here : (table : List Span) (count from to : ℕ) → to ≡ from + 1 → copy_within table to count (from + 1) ≡ table
copied-here table count from to e =
    let n : ℕ = count - to in
    ap (λ x. take x table ++ take n (drop to table) ++ drop (x + n) table) (sym e)
    ∙ ap (λ x. take to table ++ take n (drop to table) ++ x) (sym (drop-drop n to table))
    ∙ append_assoc (take to table) (take n (drop to table)) (drop n (drop to table))
    ∙ ap (λ x. take to table ++ x) (take-append-drop n (drop to table)) ∙ take-append-drop to table

pub table-add : (table table' : List Span) (count before after : ℕ) (s h : Span) → before ≤ after → after ≤ length (take count table)
    → add s (take count table) ≡ take before (take count table) ++ h ∷ drop after (take count table)
    → take (before + 1 + (count - after)) table' ≡ take before table ++ h ∷ drop after (take count table)
    → take (before + 1 + (count - after)) table' ≡ add s (take count table)
table-add table table' count before after s h a b e f =
    let l : before ≤ count = omega (arith, length-take count table) in
    f ∙ ap (λ x. x ++ h ∷ drop after (take count table)) (sym (take-take before count table l)) ∙ sym e

pub table-alone : (spans : List Span) (before after : ℕ) (s h : Span) → AreApart 0 spans → before ≡ after → after ≤ length spans
    → add s spans ≡ take before spans ++ h ∷ drop after spans → IsAlone s spans
table-alone spans before after s h a b c e =
    add-alone 0 s spans a (omega (
      arith,
      ap length e,
      length-append (take before spans)
          (h ∷ drop after spans),
      length-take before spans,
      length-drop after spans,
    ))

-- ---- where a span goes

end_past : (least : ℕ) (spans : List Span) (j : ℕ) (d : Span) → AreApart least spans → j < length spans → least ≤ (get_or spans j d).to
end_past least [] j d a h = absurd (omega arith)
end_past least (t ∷ spans) zero d a h = omega (arith, a.0, a.1)
end_past least (t ∷ spans) (suc j) d a h =
    let r : t.to + 1 ≤ (get_or spans j d).to = end_past (t.to + 1) spans j d a.2 (omega arith) in
    omega (arith, a.0, a.1)

-- Spans end in order.
pub ends-rise : (least : ℕ) (spans : List Span) → AreApart least spans → IsNonDecreasingBy (λ t. t.to) spans
ends-rise least [] a i j d l h = absurd (omega arith)
ends-rise least (t ∷ spans) a zero zero d l h = omega arith
ends-rise least (t ∷ spans) a zero (suc j) d l h =
    let r : t.to + 1 ≤ (get_or spans j d).to = end_past (t.to + 1) spans j d a.2 (omega arith) in
    omega arith
ends-rise least (t ∷ spans) a (suc i) zero d l h = absurd (omega arith)
ends-rise least (t ∷ spans) a (suc i) (suc j) d l h = ends-rise (t.to + 1) spans a.2 i j d (omega arith) (omega arith)

-- The first ones end before it, and the others don't.
pub add-after : (s : Span) (spans : List Span) (n : ℕ) → n ≤ length spans → ((k : ℕ) (d : Span) → 0 ≤ k → k < n → nat_lt (get_or spans k d).to s.from ≡ true)
    → ((k : ℕ) (d : Span) → n ≤ k → k < length spans → nat_lt (get_or spans k d).to s.from ≡ false) → add s spans ≡ take n spans ++ join s (drop n spans)
add-after s [] zero h p q = refl
add-after s [] (suc n) h p q = absurd (omega arith)
add-after s (t ∷ spans) zero h p q = ap (λ b. if b then t ∷ add s spans else join s (t ∷ spans)) (q 0 t (omega arith) (omega arith))
add-after s (t ∷ spans) (suc n) h p q =
    let more = add-after s spans n (omega arith) (λ k d l m. p (suc k) d (omega arith) (omega arith)) (λ k d l m. q (suc k) d (omega arith) (omega arith)) in
    ap (λ b. if b then t ∷ add s spans else join s (t ∷ spans)) (p 0 t (omega arith) (omega arith)) ∙ ap (λ x. t ∷ x) more

-- ---- the first covered place

first_there : (least next : ℕ) (t : Span) (spans : List Span) → AreApart least (t ∷ spans) → nat_le t.to next ≡ false
    → IsFirstFrom (is_covered (t ∷ spans)) next (Some (max t.from next))
first_there least next t spans a e =
    let l : next < t.to = grind (arith, common_steps) in
    let i : in_span t (max t.from next) ≡ true = grind (arith, common_steps) in (
      omega arith,
      ap (λ b. if b then true else is_covered spans (max t.from next)) i,
      λ k p q. apart-before t.from (t ∷ spans) k (omega arith, a.1, a.2) (omega arith),
    )

past_first : (next : ℕ) (t : Span) (spans : List Span) → nat_le t.to next ≡ true → (i : ℕ) → next ≤ i → is_covered (t ∷ spans) i ≡ is_covered spans i
past_first next t spans e i h =
    let z : in_span t i ≡ false = grind (arith, common_steps) in
    ap (λ b. if b then true else is_covered spans i) z

-- Spans before this one don't end past the place, and it does.
pub first-after : (least next : ℕ) (spans : List Span) (n : ℕ) (d : Span) → AreApart least spans → n < length spans
    → ((k : ℕ) (d : Span) → 0 ≤ k → k < n → nat_le (get_or spans k d).to next ≡ true) → nat_le (get_or spans n d).to next ≡ false
    → IsFirstFrom (is_covered spans) next (Some (max (get_or spans n d).from next))
first-after least next [] n d a h p q = absurd (omega arith)
first-after least next (t ∷ spans) zero d a h p q = first_there least next t spans a q
first-after least next (t ∷ spans) (suc n) d a h p q =
    let past = past_first next t spans (p 0 t (omega arith) (omega arith)) in
    let f = first-after (t.to + 1) next spans n d a.2 (omega arith) (λ k d l m. p (suc k) d (omega arith) (omega arith)) q in
    (f.0, past (max (get_or spans n d).from next) f.0 ∙ f.1, λ i l m. past i l ∙ f.2 i l m)

-- None of the spans ends past the place.
pub none-after : (next : ℕ) (spans : List Span) → ((k : ℕ) (d : Span) → k < length spans → nat_le (get_or spans k d).to next ≡ true)
    → (i : ℕ) → next ≤ i → is_covered spans i ≡ false
none-after next [] p i h = refl
none-after next (t ∷ spans) p i h = past_first next t spans (p 0 t (omega arith)) i h ∙ none-after next spans (λ k d l. p (suc k) d (omega arith)) i h
