-- What a message that isn't extended is, by its bytes.
use Rattle.std.proofs.Common.{◌≡◌, ℕ, ◌^◌, ◌<◌, ◌≤◌, List, [], ◌++◌, length, drop, Option, Some, None, refl, sym, ap, subst, ◌∙◌, arith}
use Rattle.std.specs.Prelude.{if◌then◌else◌, unwrap_or}
use Rattle.bt_wire.specs.declared.context.Context.{Context}
use Rattle.bt_wire.specs.declared.context.Order.{Order}
use Rattle.bt_wire.specs.declared.context.Order.TheVariants.{Past}
use Rattle.bt_wire.specs.declared.ids.Kind.{Kind}
use Rattle.bt_wire.specs.declared.ids.Shape.{Shape}
use Rattle.bt_wire.specs.declared.ids.Shape.TheVariants.{Index, Part, Block}
use Rattle.bt_wire.specs.declared.message.Message.TheVariants as m
use Rattle.bt_wire.specs.Messages.{Message, Fields, index, part, block, port, id_of, fields_of, spell_fields, framed, body, spell, IsInRange, counts_by}
use Rattle.bt_wire.specs.Messages.{kind_in, order_after}
use Rattle.bt_wire.specs.Numbers.{be32}
use Rattle.bt_wire.specs.Ids.{kind_of, shape_by}
use Rattle.bt_wire.specs.Faults.{said_id}
use Rattle.bt_wire.specs.Headers.{IsRead}
use Rattle.bt_wire.specs.Parts.{reading, reading_by}
use Rattle.bt_wire.proofs.NumberLaws.{number32-be32, number16-be16}
use Rattle.bt_wire.proofs.SpellLaws.{length-spell, not_twenty, shape_in, right_row}
use Rattle.bt_c.specs.Readers.{shown_id, Shows, ShowsExtended}
use Rattle.bt_c.specs.declared.item.BtItem.{BtItem}

-- fields are read back from their bytes
read_part : (i b l : ℕ) → (i < 2 ^ 32) × (b < 2 ^ 32) × (l < 2 ^ 32) → reading Part (spell_fields (part i b l)) ≡ part i b l
read_part i b l h = rw (number32-be32 i (be32 b ++ be32 l) h.0, number32-be32 b (be32 l) h.1, number32-be32 l [] h.2) refl

read_block : (i b : ℕ) (bytes : List ℕ) → (i < 2 ^ 32) × (b < 2 ^ 32) → reading Block (spell_fields (block i b bytes)) ≡ block i b bytes
read_block i b bytes h = rw (number32-be32 i (be32 b ++ bytes) h.0, number32-be32 b bytes h.1) refl

read_index : (i : ℕ) → i < 2 ^ 32 → reading Index (be32 i) ≡ index i
read_index i h = ap index (number32-be32 i [] h)

read_back : (c : Context) (msg : Message) → (id_of msg ≡ Some 20 → ⊥) → IsInRange c msg
    → reading_by (shape_in (fields_of c msg)) (spell_fields (fields_of c msg)) ≡ fields_of c msg
read_back c (m.Extended e) plain range = absurd (plain refl)
read_back c (m.Have i) plain range = read_index i range.fields
read_back c (m.Request i b l) plain range = read_part i b l range.fields
read_back c (m.Piece i b bytes) plain range = read_block i b bytes range.fields
read_back c (m.Cancel i b l) plain range = read_part i b l range.fields
read_back c (m.Port p) plain range = ap port (number16-be16 p range.fields)
read_back c (m.Suggest i) plain range = read_index i range.fields
read_back c (m.Reject i b l) plain range = read_part i b l range.fields
read_back c (m.AllowedFast i) plain range = read_index i range.fields
read_back c msg plain range = refl

-- a message of five bytes or more has an id
with_id : (c : Context) (msg : Message) (w : List ℕ) (k : Option ℕ) → id_of msg ≡ k → spell c msg ≡ w → 5 ≤ length w → (n : ℕ) × (k ≡ Some n)
with_id c msg w None e spelled long =
    let size : length (body c msg) ≡ 0 = ap (λ (o : Option ℕ). length (framed o (spell_fields (fields_of c msg)))) e in
    absurd (omega (arith, size, length-spell c msg, ap length spelled, long))
with_id c msg w (Some n) e spelled long = (n, refl)

other_id : (c : Context) (i : BtItem) (msg : Message) → (id_of msg ≡ Some 20 → ⊥) → ShowsExtended i msg
other_id c i (m.Extended e) plain = absurd (plain refl)
other_id c i msg plain = tt

-- what the bytes of a message say of it, and an item by them shows
pub record IsByBytes (c : Context) (o : Order) (i : BtItem) (w : List ℕ) (msg : Message) : Type 0 where
  pub id : said_id w ≡ shown_id msg
  pub fields : Shows i (reading_by (shape_by (kind_of (said_id w))) (drop 5 w)) → Shows i (fields_of c msg)
  pub extended : ShowsExtended i msg
  pub order : (if counts_by (kind_of (said_id w)) then Past else o) ≡ order_after o msg

pub by_bytes : (c : Context) (o : Order) (i : BtItem) (w : List ℕ) (msg : Message) → IsRead c o w msg → 5 ≤ length w → (said_id w ≡ 20 → ⊥)
    → IsByBytes c o i w msg
by_bytes c o i w msg r long plain =
    let id = with_id c msg w (id_of msg) refl r.spelled long in
    let n = id.0 in
    let e : id_of msg ≡ Some n = id.1 in
    let f = fields_of c msg in
    let row = right_row c msg n r.said.legal.shaped e in
    let said : said_id w ≡ n = ap said_id (sym r.spelled) ∙ ap (λ (k : Option ℕ). said_id (be32 (length (body c msg)) ++ framed k (spell_fields f))) e in
    let rest : drop 5 w ≡ spell_fields f = ap (drop 5) (sym r.spelled)
    ∙ ap (λ (k : Option ℕ). drop 5 (be32 (length (body c msg)) ++ framed k (spell_fields f))) e in
    let other : id_of msg ≡ Some 20 → ⊥ = λ h. plain (said ∙ not_twenty n 20 (sym e ∙ h)) in
    let kind : kind_of (said_id w) ≡ kind_in msg = ap kind_of said ∙ row.kind in
    let read : reading_by (shape_by (kind_of (said_id w))) (drop 5 w) ≡ f = ap (λ (k : Option Kind). reading_by (shape_by k) (drop 5 w)) kind
    ∙ ap (reading_by (shape_by (kind_in msg))) rest ∙ ap (λ (s : Option Shape). reading_by s (spell_fields f)) row.shape
    ∙ read_back c msg other r.said.in_range in
    let P : Fields → Type 0 = λ x. Shows i x in
    record {
      id = said ∙ sym (ap (λ (k : Option ℕ). unwrap_or k 256) e);
      fields = λ h. subst P read h;
      extended = other_id c i msg other;
      order = ap (λ (k : Option Kind). if counts_by k then Past else o) kind;
    }
