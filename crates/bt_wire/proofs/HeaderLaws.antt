-- What the first five bytes of a message show, whatever follows them.
use Rattle.std.proofs.Common.{◌≡◌, ◌≢◌, ℕ, ◌+◌, ◌≤◌, ◌<◌, Bool, true, false, cond, eqb, ltb, leb, not, ◌&&◌, List, [], ◌∷◌, ◌++◌, map, length, take, Option}
use Rattle.std.proofs.Common.{Some, None, refl, sym, ap, subst, ◌∙◌, arith, inl, inr}
use Rattle.std.proofs.lemmas.Bool.{and_parts, and_left, and_right, cases_eq, cases_Bool, leb-true, leb-false, ltb-true, ltb-false, le-leb, lt-leb, le-ltb}
use Rattle.std.proofs.lemmas.Bool.{ne_eqb, eq-eqb, not_from_true}
use Rattle.std.proofs.lemmas.List.{length-append, get_or_append_left, get_or-take, length-take-le, take-append-le}
use Rattle.bt_wire.specs.declared.context.Context.{Context}
use Rattle.bt_wire.specs.declared.context.Order.{Order}
use Rattle.bt_wire.specs.declared.fault.Header.{Header}
use Rattle.bt_wire.specs.declared.fault.Header.TheVariants as headers
use Rattle.bt_wire.specs.declared.fault.Reason.TheVariants.{TooLong}
use Rattle.bt_wire.specs.declared.fault.Refused.{Refused}
use Rattle.bt_wire.specs.Tables.{Row, row, first_fault}
use Rattle.bt_wire.specs.Faults.{said_length, said_id, has_length, has_id, is_whole, window, window_length, IdRule, id_rules, id_row, header_rows, header_fault}
use Rattle.bt_wire.specs.Headers.{header_of, header_by, IsWindow}
use Rattle.bt_wire.proofs.NumberLaws.{number32-take, number32-append}
use Rattle.bt_wire.proofs.RowLaws.{NoneCounts, first_fault-none}

-- ---- what is there, by the number of bytes

pub length_there : (b : List ℕ) → 4 ≤ length b → has_length b ≡ true
length_there b le = le-leb 4 (length b) le

pub no_length : (b : List ℕ) → length b < 4 → has_length b ≡ false
no_length b lt = lt-leb 4 (length b) lt

pub id_there : (b : List ℕ) → 5 ≤ length b → said_length b ≢ 0 → has_id b ≡ true
id_there b le some = rw (le-leb 5 (length b) le, ne_eqb (said_length b) 0 some) refl

pub id_short : (b : List ℕ) → length b < 5 → has_id b ≡ false
id_short b lt = and_left (leb 5 (length b)) (not (eqb (said_length b) 0)) (lt-leb 5 (length b) lt)

pub id_empty : (b : List ℕ) → said_length b ≡ 0 → has_id b ≡ false
id_empty b e = and_right (leb 5 (length b)) (not (eqb (said_length b) 0)) (not_from_true (eqb (said_length b) 0) (eq-eqb (said_length b) 0 e))

pub five_bytes : (b : List ℕ) → has_id b ≡ true → 5 ≤ length b
five_bytes b e = leb-true 5 (length b) (and_parts (leb 5 (length b)) (not (eqb (said_length b) 0)) e).0

pub whole_there : (b : List ℕ) → window_length b ≤ length b → is_whole b ≡ true
whole_there b le = rw (le-leb 4 (length b) (omega arith), le-leb (4 + said_length b) (length b) le) refl

pub not_whole : (b : List ℕ) → length b < window_length b → is_whole b ≡ false
not_whole b lt = and_right (has_length b) (leb (4 + said_length b) (length b)) (lt-leb (4 + said_length b) (length b) lt)

pub whole_length : (b : List ℕ) → is_whole b ≡ true → window_length b ≤ length b
whole_length b e = leb-true (4 + said_length b) (length b) (and_parts (has_length b) (leb (4 + said_length b) (length b)) e).1

-- ---- rows by the id

-- without an id none counts
pub none_by_id : (c : Context) (o : Order) (b : List ℕ) (rules : List IdRule) → has_id b ≡ false → NoneCounts (map (id_row c o b) rules)
none_by_id c o b [] e = tt
none_by_id c o b (r ∷ rules) e = (and_left (has_id b) (r.condition c o (said_id b) (said_length b)) e, none_by_id c o b rules e)

-- they read the id and the length alone
pub same_id_rows : (c : Context) (o : Order) (b d : List ℕ) (rules : List IdRule) → has_id b ≡ has_id d → said_id b ≡ said_id d → said_length b
    ≡ said_length d → map (id_row c o b) rules ≡ map (id_row c o d) rules
same_id_rows c o b d [] there id said = refl
same_id_rows c o b d (r ∷ rules) there id said = rw (there, id, said, same_id_rows c o b d rules there id said) refl

-- a length of 0 has no fault, nor have fewer than four bytes
pub none_empty : (c : Context) (o : Order) (b : List ℕ) → said_length b ≡ 0 → header_fault c o b ≡ None
unfolding header_fault
none_empty c o b e = first_fault-none (header_rows c o b) (
  and_right (has_length b) (ltb c.limit (said_length b)) (le-ltb c.limit (said_length b) (omega arith)),
  none_by_id c o b id_rules (id_empty b e),
)

none_short : (c : Context) (o : Order) (b : List ℕ) → length b < 4 → header_fault c o b ≡ None
unfolding header_fault
none_short c o b lt = first_fault-none (header_rows c o b) (
  and_left (has_length b) (ltb c.limit (said_length b)) (no_length b lt),
  none_by_id c o b id_rules (id_short b (omega arith)),
)

-- ---- whatever follows

said-append : (b x : List ℕ) → 4 ≤ length b → said_length (b ++ x) ≡ said_length b
said-append b x le = number32-append b x le

id-append : (b x : List ℕ) → 5 ≤ length b → said_id (b ++ x) ≡ said_id b
id-append b x le = get_or_append_left b x 0 4 (omega (arith, le))

has_id-append : (b x : List ℕ) → 5 ≤ length b → has_id (b ++ x) ≡ has_id b
has_id-append b x le = rw (le-leb 5 (length (b ++ x)) (omega (arith, length-append b x)), le-leb 5 (length b) le, said-append b x (omega arith)) refl

first_by : (judged over over' : Bool) (f g : Refused) (rest rest' : Option Refused) → over' ≡ over → (rest ≡ Some g → rest' ≡ Some g)
    → cond over (Some f) rest ≡ Some g → cond over' (Some f) rest' ≡ Some g
first_by judged true over' f g rest rest' e k h = rw e h
first_by judged false over' f g rest rest' e k h = rw e (k h)

long-append : (c : Context) (b x : List ℕ) → 4 ≤ length b → (has_length (b ++ x) && ltb c.limit (said_length (b ++ x)))
    ≡ (has_length b && ltb c.limit (said_length b))
long-append c b x le = rw (le-leb 4 (length (b ++ x)) (omega (arith, length-append b x)), le-leb 4 (length b) le, said-append b x le) refl

no_fault_yet : (c : Context) (o : Order) (b : List ℕ) (f : Refused) → has_id b ≡ false → first_fault (map (id_row c o b) id_rules) ≡ Some f → ⊥
no_fault_yet c o b f e h = let none = first_fault-none (map (id_row c o b) id_rules) (none_by_id c o b id_rules e) in let bad = sym none ∙ h in cc

pub header_stays : (c : Context) (o : Order) (b x : List ℕ) (f : Refused) → header_fault c o b ≡ Some f → header_fault c o (b ++ x) ≡ Some f
unfolding header_fault
header_stays c o b x f e =
    elim (cases_Bool (has_length b)) [
      | inl there ↦
          let four = leb-true 4 (length b) there in
          first_by true (has_length b && ltb c.limit (said_length b)) (has_length (b ++ x) && ltb c.limit (said_length (b ++ x)))
          (record { at = 0; reason = TooLong }) f
          (first_fault (map (id_row c o b) id_rules)) (first_fault (map (id_row c o (b ++ x)) id_rules)) (long-append c b x four)
          (λ h. elim (cases_Bool (has_id b)) [
            | inl id ↦ ap first_fault (let five = five_bytes b id in same_id_rows c o (b ++ x) b id_rules (has_id-append b x five) (id-append b x five)
                (said-append b x four)) ∙ h
            | inr id ↦ absurd (no_fault_yet c o b f id h)
          ]) e
      | inr short ↦ absurd (let none = none_short c o b (leb-false 4 (length b) short) in let bad = sym none ∙ e in cc)
    ]

pub whole-append : (b x : List ℕ) → is_whole b ≡ true → is_whole (b ++ x) ≡ true
whole-append b x e = let le = whole_length b e in whole_there (b ++ x) (omega (arith, length-append b x, said-append b x (omega arith)))

pub window-append : (b x : List ℕ) → is_whole b ≡ true → window (b ++ x) ≡ window b
window-append b x e =
    let le = whole_length b e in
    ap (λ (k : ℕ). take (4 + k) (b ++ x)) (said-append b x (omega arith)) ∙ take-append-le (window_length b) b x le

same_first : (r t : Row) (rs ts : List Row) → r ≡ t → rs ≡ ts → first_fault (r ∷ rs) ≡ first_fault (t ∷ ts)
same_first r t rs ts e f = ap (λ (x : Row). first_fault (x ∷ rs)) e ∙ ap (λ (xs : List Row). first_fault (t ∷ xs)) f

-- the header of a whole message is that of its bytes
pub header-window : (c : Context) (o : Order) (b : List ℕ) → is_whole b ≡ true → header_fault c o (window b) ≡ header_fault c o b
unfolding header_fault
header-window c o b e =
    let le = whole_length b e in
    let w = window b in
    let len : length w ≡ window_length b = length-take-le (window_length b) b le in
    let said : said_length w ≡ said_length b = number32-take (window_length b) b (omega arith) in
    elim (cases_eq (said_length b) 0) [
      | inl empty ↦ none_empty c o w (said ∙ empty) ∙ sym (none_empty c o b empty)
      | inr some ↦
          let five : has_id w ≡ has_id b = id_there w (omega (arith, len, some)) (λ z. some (sym said ∙ z)) ∙ sym (id_there b (omega (arith, le, some)) some) in
          let id : said_id w ≡ said_id b = get_or-take (window_length b) b 4 0 (omega (arith, some)) in
          let four : has_length w ≡ has_length b = length_there w (omega arith) ∙ sym (length_there b (omega arith)) in
          same_first (row TooLong 0 (has_length w) (ltb c.limit (said_length w))) (row TooLong 0 (has_length b) (ltb c.limit (said_length b)))
          (map (id_row c o w) id_rules) (map (id_row c o b) id_rules) (rw (four, said) refl) (same_id_rows c o w b id_rules five id said)
    ]

pub header_keeps : (c : Context) (o : Order) (b x : List ℕ) → is_whole b ≡ true → header_fault c o (b ++ x) ≡ header_fault c o b
header_keeps c o b x e = sym (header-window c o (b ++ x) (whole-append b x e)) ∙ ap (header_fault c o) (window-append b x e) ∙ header-window c o b e

-- ---- what judging the first bytes says

-- the length of the whole message is n, and its header has no fault
pub record IsHeader (c : Context) (o : Order) (b : List ℕ) (n : ℕ) : Type 0 where
  pub long : 4 ≤ length b
  pub size : n ≡ window_length b
  pub none : header_fault c o b ≡ None

abbrev pub IsJudged : Context → Order → List ℕ → Header → Type 0
IsJudged c o b (headers.Need n) = (header_fault c o b ≡ None) × (is_whole b ≡ false)
IsJudged c o b (headers.Refused at reason) = header_fault c o b ≡ Some (record { at = at; reason = reason })
IsJudged c o b (headers.Window n) = IsHeader c o b n

judged_by : (c : Context) (o : Order) (b : List ℕ) (f : Option Refused) → 4 ≤ length b → said_length b ≢ 0 → header_fault c o b ≡ f
    → IsJudged c o b (header_by f b)
judged_by c o b (Some f) long some e = e
judged_by c o b None long some e =
    elim (cases_Bool (ltb (length b) 5)) [
      | inl short ↦ rw short (e, not_whole b (omega (arith, ltb-true (length b) 5 short, some)))
      | inr there ↦ rw there (record { long = long; size = refl; none = e })
    ]

pub header_judged : (c : Context) (o : Order) (b : List ℕ) → IsJudged c o b (header_of c o b)
unfolding header_of
header_judged c o b =
    elim (cases_Bool (ltb (length b) 4)) [
      | inl short ↦ rw short (let lt = ltb-true (length b) 4 short in (none_short c o b lt, not_whole b (omega arith)))
      | inr long ↦
          let four : 4 ≤ length b = ltb-false (length b) 4 long in
          elim (cases_eq (said_length b) 0) [
            | inl empty ↦ rw (long, eq-eqb (said_length b) 0 empty) (record { long = four; size = omega arith; none = none_empty c o b empty })
            | inr some ↦ rw (long, ne_eqb (said_length b) 0 some) (judged_by c o b (header_fault c o b) four some refl)
          ]
    ]

pub judged_at : (c : Context) (o : Order) (b : List ℕ) (h : Header) → header_of c o b ≡ h → IsJudged c o b h
judged_at c o b h e = subst (IsJudged c o b) e (header_judged c o b)

pub IsWindow-from_header : (c : Context) (o : Order) (w : List ℕ) → header_of c o w ≡ headers.Window (length w) → IsWindow c o w
IsWindow-from_header c o w e =
    let j : IsHeader c o w (length w) = judged_at c o w (headers.Window (length w)) e in
    record { long = j.long; exact = sym j.size; header = j.none }

pub header-from_window : (c : Context) (o : Order) (w : List ℕ) → IsWindow c o w → header_of c o w ≡ headers.Window (length w)
unfolding header_of
header-from_window c o w h =
    let four : ltb (length w) 4 ≡ false = le-ltb (length w) 4 h.long in
    elim (cases_eq (said_length w) 0) [
      | inl empty ↦ rw (four, eq-eqb (said_length w) 0 empty) (ap headers.Window (omega (arith, h.exact)))
      | inr some ↦ rw (four, ne_eqb (said_length w) 0 some, h.header, le-ltb (length w) 5 (omega (arith, some, h.exact))) (ap headers.Window h.exact)
    ]
