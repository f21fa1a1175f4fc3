-- The message that an id and the bytes after it are has this id and these bytes.
use Rattle.std.proofs.Common.{◌≡◌, ℕ, suc, ◌^◌, ◌≤◌, ◌<◌, true, List, [], ◌∷◌, ◌++◌, length, take, drop, Option, Some, None, refl, sym, ap, subst, ◌∙◌}
use Rattle.std.proofs.Common.{arith, inl, inr, lit<}
use Rattle.std.specs.List.{AllByRecursion}
use Rattle.std.proofs.lemmas.Bool.{cases_eq, eqb-true, leb-true, eq-eqb, ne_eqb}
use Rattle.std.proofs.lemmas.List.{nil_from_length, length-drop, drop-drop, take-append-drop, length-take}
use Rattle.bt_wire.specs.declared.context.Context.{Context}
use Rattle.bt_wire.specs.declared.ids.Kind.{Kind}
use Rattle.bt_wire.specs.declared.ids.Shape.{Shape}
use Rattle.bt_wire.specs.declared.ids.Shape.TheVariants.{Nothing, Index, Part, Block, Port, Field, Extended}
use Rattle.bt_wire.specs.Messages.{Message}
use Rattle.bt_wire.specs.Numbers.{be32, number32, AreBytes}
use Rattle.bt_wire.specs.Ids.{Id, ids, row_in, kind_of}
use Rattle.bt_wire.specs.Messages.{Fields, IsIdInRange, id_of, fields_of, spell_fields, AreInRange, IsShaped, IsInRange}
use Rattle.bt_wire.specs.Faults.{allows, shape_size, size_of}
use Rattle.bt_wire.specs.Parts.{reading, known, named, made}
use Rattle.bt_wire.proofs.NumberLaws.{AreBytes-drop, AreBytes-take, be32-number32, number32-take, number32-lt, be16-number16, number16-lt}

-- ---- the fields that bytes are

record IsReading (bytes : List ℕ) (f : Fields) : Type 0 where
  pub spelled : spell_fields f ≡ bytes
  pub in_range : AreInRange f

-- four bytes, and the rest
number_first : (b : List ℕ) → 4 ≤ length b → AreBytes b → be32 (number32 b) ++ drop 4 b ≡ b
number_first b le fits =
    let front : be32 (number32 b) ≡ take 4 b =
    ap be32 (sym (number32-take 4 b (omega arith))) ∙ be32-number32 (take 4 b) (omega (arith, length-take 4 b)) (AreBytes-take 4 b fits) in
    ap (λ (x : List ℕ). x ++ drop 4 b) front ∙ take-append-drop 4 b

two_numbers : (b : List ℕ) → 8 ≤ length b → AreBytes b → be32 (number32 b) ++ (be32 (number32 (drop 4 b)) ++ drop 8 b) ≡ b
two_numbers b le fits =
    let second = number_first (drop 4 b) (omega (arith, length-drop 4 b)) (AreBytes-drop 4 b fits) in
    ap (λ (x : List ℕ). be32 (number32 b) ++ (be32 (number32 (drop 4 b)) ++ x)) (sym (drop-drop 4 4 b)) ∙ ap (λ (x : List ℕ). be32 (number32 b) ++ x) second
    ∙ number_first b (omega arith) fits

read_shape : (c : Context) (s : Shape) (bytes : List ℕ) → (s ≡ Extended → ⊥) → AreBytes bytes → allows (shape_size c s) (suc (length bytes)) ≡ true
    → IsReading bytes (reading s bytes)
read_shape c Nothing bytes ne fits size = record { spelled = sym (nil_from_length bytes (omega (arith, eqb-true _ 1 size))); in_range = tt }
read_shape c Index bytes ne fits size = record { spelled = be32-number32 bytes (omega (arith, eqb-true _ 5 size)) fits; in_range = number32-lt bytes fits }
read_shape c Part bytes ne fits size =
    let len : length bytes ≡ 12 = omega (arith, eqb-true _ 13 size) in
    let last : be32 (number32 (drop 8 bytes)) ≡ drop 8 bytes = be32-number32 (drop 8 bytes) (omega (arith, length-drop 8 bytes)) (AreBytes-drop 8 bytes fits) in
    record {
      spelled = ap (λ (x : List ℕ). be32 (number32 bytes) ++ (be32 (number32 (drop 4 bytes)) ++ x)) last ∙ two_numbers bytes (omega arith) fits;
      in_range = (number32-lt bytes fits, number32-lt (drop 4 bytes) (AreBytes-drop 4 bytes fits), number32-lt (drop 8 bytes) (AreBytes-drop 8 bytes fits));
    }
read_shape c Block bytes ne fits size =
    record {
      spelled = two_numbers bytes (omega (arith, leb-true 9 _ size)) fits;
      in_range = (number32-lt bytes fits, number32-lt (drop 4 bytes) (AreBytes-drop 4 bytes fits));
    }
read_shape c Port bytes ne fits size = record { spelled = be16-number16 bytes (omega (arith, eqb-true _ 3 size)) fits; in_range = number16-lt bytes fits }
read_shape c Field bytes ne fits size = record { spelled = refl; in_range = tt }
read_shape c Extended bytes ne fits size = absurd (ne refl)

-- ---- the message of a row

record IsNamed (c : Context) (n : ℕ) (f : Fields) (msg : Message) : Type 0 where
  pub id : id_of msg ≡ Some n
  pub fields : fields_of c msg ≡ f
  pub shaped : IsShaped c msg

-- the message with the row's number and fields of its shape has these
abbrev IsGood : Id → Type 0
IsGood i = (i.kind.shape ≡ Extended → ⊥) → (c : Context) (bytes : List ℕ) → IsNamed c i.number (reading i.kind.shape bytes)
    (known i.number (reading i.kind.shape bytes)) × (i.number < 256)

all_good : AllByRecursion IsGood ids
all_good = (
  (λ ne c bytes. (record { id = refl; fields = refl; shaped = tt }, lit< tt)),
  (
    (λ ne c bytes. (record { id = refl; fields = refl; shaped = tt }, lit< tt)),
    (
      (λ ne c bytes. (record { id = refl; fields = refl; shaped = tt }, lit< tt)),
      (
        (λ ne c bytes. (record { id = refl; fields = refl; shaped = tt }, lit< tt)),
        (
          (λ ne c bytes. (record { id = refl; fields = refl; shaped = tt }, lit< tt)),
          (
            (λ ne c bytes. (record { id = refl; fields = refl; shaped = tt }, lit< tt)),
            (
              (λ ne c bytes. (record { id = refl; fields = refl; shaped = tt }, lit< tt)),
              (
                (λ ne c bytes. (record { id = refl; fields = refl; shaped = tt }, lit< tt)),
                (
                  (λ ne c bytes. (record { id = refl; fields = refl; shaped = tt }, lit< tt)),
                  (
                    (λ ne c bytes. (record { id = refl; fields = refl; shaped = tt }, lit< tt)),
                    (
                      (λ ne c bytes. (record { id = refl; fields = refl; shaped = tt }, lit< tt)),
                      (
                        (λ ne c bytes. (record { id = refl; fields = refl; shaped = tt }, lit< tt)),
                        (
                          (λ ne c bytes. (record { id = refl; fields = refl; shaped = tt }, lit< tt)),
                          (
                            (λ ne c bytes. (record { id = refl; fields = refl; shaped = tt }, lit< tt)),
                            (
                              (λ ne c bytes. (record { id = refl; fields = refl; shaped = tt }, lit< tt)),
                              (
                                (λ ne c bytes. absurd (ne refl)),
                                tt,
                              ),
                            ),
                          ),
                        ),
                      ),
                    ),
                  ),
                ),
              ),
            ),
          ),
        ),
      ),
    ),
  ),
)

-- the shape of extended messages is that of one row
abbrev IsOnly : Id → Type 0
IsOnly i = i.kind.shape ≡ Extended → i.number ≡ 20

all_only : AllByRecursion IsOnly ids
all_only = (
  (λ e. absurd cc),
  (
    (λ e. absurd cc),
    (
      (λ e. absurd cc),
      (
        (λ e. absurd cc),
        (
          (λ e. absurd cc),
          (
            (λ e. absurd cc),
            (
              (λ e. absurd cc),
              (
                (λ e. absurd cc),
                (
                  (λ e. absurd cc),
                  (
                    (λ e. absurd cc),
                    (
                      (λ e. absurd cc),
                      ((λ e. absurd cc), ((λ e. absurd cc), ((λ e. absurd cc), ((λ e. absurd cc), ((λ e. refl), tt))))),
                    ),
                  ),
                ),
              ),
            ),
          ),
        ),
      ),
    ),
  ),
)

-- what holds of each row holds of the one that is found
record IsFound (P : Id → Type 0) (n : ℕ) (i : Id) : Type 0 where
  number : n ≡ i.number
  holds : P i

found_in : (P : Id → Type 0) (is : List Id) (n : ℕ) (i : Id) → AllByRecursion P is → row_in n is ≡ Some i → IsFound P n i
found_in P [] n i all e = absurd cc
found_in P (j ∷ is) n i all e =
    elim (cases_eq n j.number) [
      | inl same ↦
          let here : Some j ≡ Some i = rw (eq-eqb n j.number same) at e in
          let one : j ≡ i = cc in
          record { number = same ∙ ap (λ (x : Id). x.number) one; holds = subst P one all.0 }
      | inr other ↦ found_in P is n i all.1 (rw (ne_eqb n j.number other) at e)
    ]

-- the message has this id and these bytes after it, and a spelling of its own
pub record IsPart (c : Context) (n : ℕ) (bytes : List ℕ) (m : Message) : Type 0 where
  pub id : id_of m ≡ Some n
  pub fields : spell_fields (fields_of c m) ≡ bytes
  pub shaped : IsShaped c m
  pub in_range : IsInRange c m

part_of_row : (c : Context) (i : Id) (bytes : List ℕ) → (i.kind.shape ≡ Extended → ⊥) → IsGood i → AreBytes bytes
    → allows (shape_size c i.kind.shape) (suc (length bytes)) ≡ true → IsPart c i.number bytes (known i.number (reading i.kind.shape bytes))
part_of_row c i bytes ne good fits size =
    let f = reading i.kind.shape bytes in
    let msg = known i.number f in
    let named = (good ne c bytes).0 in
    let read = read_shape c i.kind.shape bytes ne fits size in
    let P : Option ℕ → Type 0 = λ o. IsIdInRange o in
    let Q : Fields → Type 0 = λ x. AreInRange x in
    record {
      id = named.id;
      fields = ap spell_fields named.fields ∙ read.spelled;
      shaped = named.shaped;
      in_range = record { id = subst P (sym named.id) (good ne c bytes).1; fields = subst Q (sym named.fields) read.in_range };
    }

part_in : (c : Context) (n : ℕ) (bytes : List ℕ) (o : Option Id) → row_in n ids ≡ o → (n ≡ 20 → ⊥) → n < 2 ^ 8 → AreBytes bytes
    → allows (size_of c n) (suc (length bytes)) ≡ true → IsPart c n bytes (made n bytes)
unfolding made
part_in c n bytes None e other small fits size =
    let none : kind_of n ≡ None = rw e refl in
    let P : Option Kind → Type 0 = λ k. IsPart c n bytes (named k n bytes) in
    subst P (sym none) (record { id = refl; fields = refl; shaped = rw e refl; in_range = record { id = small; fields = tt } })
part_in c n bytes (Some i) e other small fits size =
    let found = found_in IsGood ids n i all_good e in
    let only = found_in IsOnly ids n i all_only e in
    let some : kind_of n ≡ Some i.kind = rw e refl in
    let P : Option Kind → Type 0 = λ k. IsPart c n bytes (named k n bytes) in
    let Q : ℕ → Type 0 = λ k. IsPart c k bytes (known k (reading i.kind.shape bytes)) in
    subst P (sym some) (subst Q (sym found.number) (part_of_row c i bytes (λ is. other (found.number ∙ only.holds is)) found.holds fits (sym (rw e refl)
    ∙ size)))

pub part : (c : Context) (n : ℕ) (bytes : List ℕ) → (n ≡ 20 → ⊥) → n < 2 ^ 8 → AreBytes bytes → allows (size_of c n) (suc (length bytes)) ≡ true
    → IsPart c n bytes (made n bytes)
part c n bytes other small fits size = part_in c n bytes (row_in n ids) refl other small fits size
