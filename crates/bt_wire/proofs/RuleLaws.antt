-- The rules on a message's id and fields, read from its bytes and from its value.
use Rattle.std.proofs.Common.{◌≡◌, ℕ, suc, ◌+◌, Bool, true, false, cond, not, ◌&&◌, List, [], ◌∷◌, ◌++◌, map, length, drop, Option, Some, None, refl, sym}
use Rattle.std.proofs.Common.{ap, subst, ◌∙◌, arith}
use Rattle.std.specs.Prelude.{is_some, IfSome}
use Rattle.std.proofs.lemmas.Bool.{le-leb, not-false}
use Rattle.std.proofs.lemmas.List.{length-append}
use Rattle.bt_wire.specs.declared.context.Context.{Context}
use Rattle.bt_wire.specs.declared.context.Order.{Order}
use Rattle.bt_wire.specs.declared.fault.Reason.TheVariants.{BadIndex, SpareBits}
use Rattle.bt_wire.specs.declared.fault.Refused.{Refused}
use Rattle.bt_wire.specs.declared.ids.Kind.{Kind}
use Rattle.bt_wire.specs.declared.ids.Shape.{Shape}
use Rattle.bt_wire.specs.Messages.{Message}
use Rattle.bt_wire.specs.Bitfields.{has_spare}
use Rattle.bt_wire.specs.Ids.{kind_of, shape_by}
use Rattle.bt_wire.specs.Messages.{Fields, none, index, part, block, port, field, extended, payload, kind_in, id_of, fields_of, index_in, field_in}
use Rattle.bt_wire.specs.Messages.{is_payload, spell_fields, body, framed, AreInRange}
use Rattle.bt_wire.specs.Tables.{row, first_fault}
use Rattle.bt_wire.specs.Numbers.{be32, number32}
use Rattle.bt_wire.specs.Faults.{said_length, said_id, has_id, allows, size_by, is_strict, is_agreed, is_late, is_missing, is_beyond, is_index_beyond}
use Rattle.bt_wire.specs.Faults.{has_index, is_field, id_rules, id_row, field_rows}
use Rattle.bt_wire.specs.Legal.{IsLegal}
use Rattle.bt_wire.specs.Rules.{broken_by}
use Rattle.bt_wire.specs.Parts.{broken_field, is_field_spare, IsSized}
use Rattle.bt_wire.proofs.NumberLaws.{number32-be32}
use Rattle.bt_wire.proofs.SpellLaws.{shape_in, IsRow}

-- ---- rules on the id

-- with an id there, the rows are the rules of its kind
pub rows_broken : (c : Context) (o : Order) (b : List ℕ) → has_id b ≡ true → first_fault (map (id_row c o b) id_rules)
    ≡ broken_by c o (kind_of (said_id b)) (said_length b)
rows_broken c o b e = rw e refl

-- none is broken
pub record IsUnbroken (c : Context) (o : Order) (k : Option Kind) (n : ℕ) : Type 0 where
  pub known : (is_strict c && not (is_some k)) ≡ false
  pub agreed : is_agreed c k ≡ true
  pub sized : allows (size_by c (shape_by k)) n ≡ true
  pub in_time : (is_strict c && is_late o k) ≡ false
  pub opened : (is_strict c && is_missing c o k) ≡ false

passed : (b : Bool) (f : Option Refused) (r : Refused) → cond b (Some r) f ≡ None → (b ≡ false) × (f ≡ None)
passed true f r e = absurd cc
passed false f r e = (refl, e)

pub unbroken : (c : Context) (o : Order) (k : Option Kind) (n : ℕ) → broken_by c o k n ≡ None → IsUnbroken c o k n
unbroken c o k n e =
    let a = passed _ _ _ e in
    let b = passed _ _ _ a.1 in
    let d = passed _ _ _ b.1 in
    let f = passed _ _ _ d.1 in
    let g = passed _ _ _ f.1 in
    record { known = a.0; agreed = not-false _ b.0; sized = not-false _ d.0; in_time = f.0; opened = g.0 }

pub none_broken : (c : Context) (o : Order) (k : Option Kind) (n : ℕ) → IsUnbroken c o k n → broken_by c o k n ≡ None
none_broken c o k n u = rw (u.known, u.agreed, u.sized, u.in_time, u.opened) refl

-- ---- of a value

-- an id without a meaning is that of a payload
unknown_by : (k : Option Kind) (f : Fields) → shape_by k ≡ shape_in f → not (is_some k) ≡ is_payload f
unknown_by None (payload bytes) e = refl
unknown_by None f e = absurd cc
unknown_by (Some k) (payload bytes) e = absurd cc
unknown_by (Some k) f e = refl

-- fields have the length that their shape allows, a bitfield where it has a bit for each piece
fields_size : (c : Context) (f : Fields) → IsSized c.pieces f → allows (size_by c (shape_in f)) (suc (length (spell_fields f))) ≡ true
fields_size c none h = refl
fields_size c (index i) h = refl
fields_size c (part i b l) h = refl
fields_size c (block i b bytes) h = le-leb 9 (suc (length (be32 i ++ (be32 b ++ bytes))))
    (omega (arith, length-append (be32 i) (be32 b ++ bytes), length-append (be32 b) bytes))
fields_size c (port p) h = refl
fields_size c (field bits) h = h
fields_size c (extended n bytes) h = le-leb 2 (suc (suc (length bytes))) (omega arith)
fields_size c (payload bytes) h = le-leb 1 (suc (length bytes)) (omega arith)

sized_by : (c : Context) (f : Fields) → allows (size_by c (shape_in f)) (suc (length (spell_fields f))) ≡ true → IsSized c.pieces f
sized_by c (field bits) h = h
sized_by c none h = tt
sized_by c (index i) h = tt
sized_by c (part i b l) h = tt
sized_by c (block i b bytes) h = tt
sized_by c (port p) h = tt
sized_by c (extended n bytes) h = tt
sized_by c (payload bytes) h = tt

pub body_length : (c : Context) (m : Message) (n : ℕ) → id_of m ≡ Some n → length (body c m) ≡ suc (length (spell_fields (fields_of c m)))
body_length c m n e = ap (λ (o : Option ℕ). length (framed o (spell_fields (fields_of c m)))) e

pub legal_unbroken : (c : Context) (o : Order) (m : Message) (n : ℕ) → IsRow c m n → id_of m ≡ Some n → IsLegal c o m
    → IsUnbroken c o (kind_of n) (length (body c m))
legal_unbroken c o m n r e legal =
    let P : Option Kind → Type 0 = λ k. IsUnbroken c o k (length (body c m)) in
    let size : allows (size_by c (shape_by (kind_in m))) (length (body c m)) ≡ true =
    ap (λ (s : Option Shape). allows (size_by c s) (length (body c m))) r.shape ∙ ap (allows (size_by c (shape_in (fields_of c m)))) (body_length c m n e)
    ∙ fields_size c (fields_of c m) legal.sized in
    subst P (sym r.kind) (record {
      known = ap (λ (b : Bool). is_strict c && b) (unknown_by (kind_in m) (fields_of c m) r.shape) ∙ legal.known;
      agreed = legal.agreed;
      sized = size;
      in_time = legal.in_time;
      opened = legal.opened;
    })

-- what the rules on the id say of the value
pub record AreKept (c : Context) (o : Order) (m : Message) : Type 0 where
  pub agreed : is_agreed c (kind_in m) ≡ true
  pub sized : IsSized c.pieces (fields_of c m)
  pub known : (is_strict c && is_payload (fields_of c m)) ≡ false
  pub in_time : (is_strict c && is_late o (kind_in m)) ≡ false
  pub opened : (is_strict c && is_missing c o (kind_in m)) ≡ false

pub unbroken_kept : (c : Context) (o : Order) (m : Message) (n : ℕ) → IsRow c m n → id_of m ≡ Some n → IsUnbroken c o (kind_of n) (length (body c m))
    → AreKept c o m
unbroken_kept c o m n r e h =
    let P : Option Kind → Type 0 = λ k. IsUnbroken c o k (length (body c m)) in
    let u = subst P r.kind h in
    record {
      agreed = u.agreed;
      sized = sized_by c (fields_of c m) (ap (allows (size_by c (shape_in (fields_of c m)))) (sym (body_length c m n e))
          ∙ ap (λ (s : Option Shape). allows (size_by c s) (length (body c m))) (sym r.shape) ∙ u.sized);
      known = ap (λ (b : Bool). is_strict c && b) (sym (unknown_by (kind_in m) (fields_of c m) r.shape)) ∙ u.known;
      in_time = u.in_time;
      opened = u.opened;
    }

-- ---- rules on the fields

-- the rows on the fields' bytes are the rules on the fields
shape_rows : (c : Context) (n : ℕ) (f : Fields) → AreInRange f
    → first_fault (row BadIndex 5 true (has_index (shape_in f) && is_beyond c.pieces (number32 (spell_fields f))) ∷ row SpareBits (3 + n) true
    (is_field (shape_in f) && has_spare c.pieces (spell_fields f)) ∷ [])
    ≡ broken_field c.pieces n f
shape_rows c n none r = refl
shape_rows c n (index i) r = rw (number32-be32 i [] r) refl
shape_rows c n (part i b l) r = rw (number32-be32 i (be32 b ++ be32 l) r.0) refl
shape_rows c n (block i b bytes) r = rw (number32-be32 i (be32 b ++ bytes) r.0) refl
shape_rows c n (port p) r = refl
shape_rows c n (field bits) r = refl
shape_rows c n (extended k bytes) r = refl
shape_rows c n (payload bytes) r = refl

pub fields_rows : (c : Context) (w : List ℕ) (f : Fields) → has_id w ≡ true → shape_by (kind_of (said_id w)) ≡ shape_in f → drop 5 w ≡ spell_fields f
    → AreInRange f → first_fault (field_rows c w) ≡ broken_field c.pieces (said_length w) f
fields_rows c w f there shape bytes range =
    ap (λ (t : Bool). first_fault (row BadIndex 5 t (has_index (shape_by (kind_of (said_id w))) && is_beyond c.pieces (number32 (drop 5 w))) ∷ row SpareBits
    (3 + said_length w) t (is_field (shape_by (kind_of (said_id w))) && has_spare c.pieces (drop 5 w)) ∷ [])) there
    ∙ ap (λ (s : Option Shape). first_fault (row BadIndex 5 true (has_index s && is_beyond c.pieces (number32 (drop 5 w))) ∷ row SpareBits
    (3 + said_length w) true (is_field s && has_spare c.pieces (drop 5 w)) ∷ [])) shape
    ∙ ap (λ (x : List ℕ). first_fault (row BadIndex 5 true (has_index (shape_in f) && is_beyond c.pieces (number32 x)) ∷ row SpareBits (3 + said_length w)
    true (is_field (shape_in f) && has_spare c.pieces x) ∷ [])) bytes
    ∙ shape_rows c (said_length w) f range

-- a keep-alive has none
pub no_field_rows : (c : Context) (w : List ℕ) → has_id w ≡ false → first_fault (field_rows c w) ≡ None
no_field_rows c w e = rw e refl

-- ---- of a value

pub record AreSound (pieces : Option ℕ) (f : Fields) : Type 0 where
  pub indexed : IfSome (index_in f) (λ i. is_beyond pieces i ≡ false)
  pub spare : IfSome (field_in f) (λ bits. has_spare pieces bits ≡ false)

beyond_by : (pieces o : Option ℕ) → is_index_beyond pieces o ≡ false → IfSome o (λ i. is_beyond pieces i ≡ false)
beyond_by pieces None e = tt
beyond_by pieces (Some i) e = e

by_beyond : (pieces o : Option ℕ) → IfSome o (λ i. is_beyond pieces i ≡ false) → is_index_beyond pieces o ≡ false
by_beyond pieces None e = refl
by_beyond pieces (Some i) e = e

spare_by : (pieces : Option ℕ) (o : Option (List ℕ)) → is_field_spare pieces o ≡ false → IfSome o (λ bits. has_spare pieces bits ≡ false)
spare_by pieces None e = tt
spare_by pieces (Some bits) e = e

by_spare : (pieces : Option ℕ) (o : Option (List ℕ)) → IfSome o (λ bits. has_spare pieces bits ≡ false) → is_field_spare pieces o ≡ false
by_spare pieces None e = refl
by_spare pieces (Some bits) e = e

pub fields_sound : (pieces : Option ℕ) (n : ℕ) (f : Fields) → broken_field pieces n f ≡ None → AreSound pieces f
fields_sound pieces n f e =
    let a = passed _ _ _ e in
    let b = passed _ _ _ a.1 in
    record { indexed = beyond_by pieces (index_in f) a.0; spare = spare_by pieces (field_in f) b.0 }

pub sound_fields : (pieces : Option ℕ) (n : ℕ) (f : Fields) → IfSome (index_in f) (λ i. is_beyond pieces i ≡ false)
    → IfSome (field_in f) (λ bits. has_spare pieces bits ≡ false) → broken_field pieces n f ≡ None
sound_fields pieces n f i s = rw (by_beyond pieces (index_in f) i, by_spare pieces (field_in f) s) refl
