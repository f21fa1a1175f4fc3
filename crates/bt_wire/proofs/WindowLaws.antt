-- A window with no fault is the spelling of a message that may be sent, and such a spelling has no fault.
use Rattle.std.proofs.Common.{◌≡◌, ℕ, suc, ◌^◌, ◌≤◌, ◌<◌, Bool, true, false, eqb, ltb, ◌&&◌, List, [], ◌∷◌, ◌++◌, map, length, drop, Option, Some, None}
use Rattle.std.proofs.Common.{if◌then◌else◌, refl, sym, ap, subst, ◌∙◌, arith, inl, inr}
use Rattle.std.proofs.lemmas.Bool.{cases_lt, and_cases, and_left, and_right, and_parts, cases_eq, eqb-true, eq-eqb, ne_eqb, leb-true, ltb-false, leb-false}
use Rattle.std.proofs.lemmas.Bool.{le-leb, lt-leb, le-ltb, lt-ltb}
use Rattle.std.proofs.lemmas.List.{append-nil, length-append, length-drop, length-take-le, take_all, drop_more}
use Rattle.std.specs.Prelude.{option_map, unwrap_or, IsSome}
use Rattle.bt_ext.specs.declared.ext.Ext.{Ext}
use Rattle.bt_ext.specs.declared.ext.ViewError.{ViewError}
use Rattle.bt_ext.specs.Payloads.{IsExt, HasSpelling, ext_id, index_of, payload_of}
use Rattle.bt_ext.specs.Faults as ext
use Rattle.bt_ext.proofs.OneExt.{same_ext}
use Rattle.bt_ext.proofs.OneFault.{one_fault as ext_fault_once}
use Rattle.bt_wire.specs.declared.context.Context.{Context}
use Rattle.bt_wire.specs.declared.context.Order.{Order}
use Rattle.bt_wire.specs.declared.fault.Fault.TheVariants as fault
use Rattle.bt_wire.specs.declared.fault.Reason.TheVariants.{TooLong, StreamFull}
use Rattle.bt_wire.specs.declared.fault.Refused.{Refused}
use Rattle.bt_wire.specs.Messages.{Message}
use Rattle.bt_wire.specs.declared.message.Message.TheVariants as m
use Rattle.bt_wire.specs.Numbers.{be32, AreBytes}
use Rattle.bt_wire.specs.Ids.{kind_of, shape_by}
use Rattle.bt_wire.specs.Messages.{Fields, id_of, fields_of, framed, spell_fields, body, spell, IsShaped, IsInRange}
use Rattle.bt_wire.specs.Tables.{first_fault}
use Rattle.bt_wire.specs.Faults.{said_length, said_id, has_length, has_id, is_whole, window, window_length, allows, size_of, is_strict, id_rules, id_row}
use Rattle.bt_wire.specs.Faults.{header_rows, header_fault, early_fault, field_rows, is_extended, said_ext_id, said_payload, placed_by, is_index_beyond}
use Rattle.bt_wire.specs.Faults.{index_fault, IsPayloadFault, in_bytes, in_index, IsWindowFault, in_fields, in_none, in_payload, IsFault, early, unfinished}
use Rattle.bt_wire.specs.Faults.{whole}
use Rattle.bt_wire.specs.Legal.{IsLegal, IsAllowed, IsSaid, Refuses}
use Rattle.bt_wire.specs.Headers.{IsWindow, IsRead}
use Rattle.bt_wire.specs.Rules.{broken_by}
use Rattle.bt_wire.specs.Parts.{made, broken_field}
use Rattle.bt_wire.proofs.PartLaws.{IsPart, part}
use Rattle.bt_wire.proofs.NumberLaws.{AreBytes-drop, be32-number32, header_parts, number32-take}
use Rattle.bt_wire.proofs.RowLaws.{NoneCounts, NoneCounts-from, first_fault-none}
use Rattle.bt_wire.proofs.HeaderLaws.{none_by_id, id_empty, id_there, length_there, whole_there, whole_length, window-append, whole-append, header_stays}
use Rattle.bt_wire.proofs.HeaderLaws.{header_keeps, header-window}
use Rattle.bt_wire.proofs.SpellLaws.{length-spell, said_length-spell, said_id-spell, spelled_first, fits, IsRow, right_row, ext_of, ext_is, ext_twenty}
use Rattle.bt_wire.proofs.SpellLaws.{not_twenty, ext_is_of, spelled_ext}
use Rattle.bt_wire.proofs.RuleLaws.{rows_broken, IsUnbroken, unbroken, none_broken, legal_unbroken, AreKept, unbroken_kept, fields_rows, no_field_rows}
use Rattle.bt_wire.proofs.RuleLaws.{fields_sound, sound_fields}

-- ---- the start

pub early_full : (c : Context) (o : Order) (s : ℕ) (b : List ℕ) → 2 ^ 62 ≤ s → early_fault c o s b ≡ Some (record { at = 0; reason = StreamFull })
early_full c o s b le = rw (le-leb (2 ^ 62) s le) refl

pub early_header : (c : Context) (o : Order) (s : ℕ) (b : List ℕ) → s < 2 ^ 62 → early_fault c o s b ≡ header_fault c o b
early_header c o s b lt = rw (lt-leb (2 ^ 62) s lt) refl

pub no_early : (c : Context) (o : Order) (s : ℕ) (b : List ℕ) → early_fault c o s b ≡ None → (s < 2 ^ 62) × (header_fault c o b ≡ None)
no_early c o s b e =
    elim (cases_lt s (2 ^ 62)) [
      | inl lt ↦ (lt, sym (early_header c o s b lt) ∙ e)
      | inr le ↦ absurd (let bad = sym (early_full c o s b le) ∙ e in cc)
    ]

-- ---- windows

none_in_header : (c : Context) (o : Order) (w : List ℕ) → header_fault c o w ≡ None → NoneCounts (header_rows c o w)
unfolding header_fault
none_in_header c o w e = NoneCounts-from (header_rows c o w) e

pub within_limit : (c : Context) (o : Order) (w : List ℕ) → IsWindow c o w → said_length w ≤ c.limit
within_limit c o w h =
    elim (and_cases (has_length w) (ltb c.limit (said_length w)) (none_in_header c o w h.header).0) [
      | inl e ↦ absurd (omega (arith, leb-false 4 (length w) e, h.long))
      | inr e ↦ ltb-false _ _ e
    ]

pub window_id : (c : Context) (o : Order) (w : List ℕ) → IsWindow c o w → 5 ≤ length w → has_id w ≡ true
window_id c o w h long = id_there w long (λ e. absurd (omega (arith, e, h.exact, long)))

-- the rules on the id are kept
pub window_unbroken : (c : Context) (o : Order) (w : List ℕ) → IsWindow c o w → 5 ≤ length w → IsUnbroken c o (kind_of (said_id w)) (said_length w)
window_unbroken c o w h long =
    unbroken c o (kind_of (said_id w)) (said_length w) (sym (rows_broken c o w (window_id c o w h long)) ∙ first_fault-none (map (id_row c o w) id_rules)
    (none_in_header c o w h.header).1)

pub sized : (c : Context) (o : Order) (w : List ℕ) → IsWindow c o w → 5 ≤ length w → allows (size_of c (said_id w)) (said_length w) ≡ true
sized c o w h long = (window_unbroken c o w h long).sized

-- the bytes of a message are those of the window
spelled_is : (c : Context) (o : Order) (w : List ℕ) (m : Message) → AreBytes w → IsWindow c o w → 5 ≤ length w → body c m ≡ said_id w ∷ drop 5 w → spell c m ≡ w
spelled_is c o w m bytes h long e =
    let size : length (body c m) ≡ said_length w = ap length e ∙ omega (arith, h.exact, length-drop 5 w, long) in
    ap (λ (n : ℕ). be32 n ++ body c m) size ∙ ap (λ (x : List ℕ). be32 (said_length w) ++ x) e ∙ sym (header_parts w long bytes)

-- what is known of the message of the window's id and fields
pub record IsFound (c : Context) (o : Order) (w : List ℕ) (m : Message) : Type 0 where
  pub its_part : IsPart c (said_id w) (drop 5 w) m
  pub whole_body : body c m ≡ said_id w ∷ drop 5 w
  pub row : IsRow c m (said_id w)
  pub kept : AreKept c o m
  pub short : length (body c m) ≤ c.limit
  pub spelled : spell c m ≡ w

found_of : (c : Context) (o : Order) (w : List ℕ) (m : Message) → AreBytes w → IsWindow c o w → 5 ≤ length w → IsPart c (said_id w) (drop 5 w) m
    → IsFound c o w m
found_of c o w m bytes h long p =
    let size : suc (length (drop 5 w)) ≡ said_length w = omega (arith, length-drop 5 w, h.exact) in
    let all : body c m ≡ said_id w ∷ drop 5 w = ap (λ (i : Option ℕ). framed i (spell_fields (fields_of c m))) p.id
    ∙ ap (λ (x : List ℕ). said_id w ∷ x) p.fields in
    let row = right_row c m (said_id w) p.shaped p.id in
    let len : said_length w ≡ length (body c m) = sym (ap length all ∙ size) in
    let P : ℕ → Type 0 = λ n. IsUnbroken c o (kind_of (said_id w)) n in
    record {
      its_part = p;
      whole_body = all;
      row = row;
      kept = unbroken_kept c o m (said_id w) row p.id (subst P len (window_unbroken c o w h long));
      short = omega (arith, within_limit c o w h, len);
      spelled = spelled_is c o w m bytes h long all;
    }

pub fields_found : (c : Context) (o : Order) (w : List ℕ) → AreBytes w → IsWindow c o w → 5 ≤ length w → (said_id w ≡ 20 → ⊥)
    → IsFound c o w (made (said_id w) (drop 5 w))
fields_found c o w bytes h long plain =
    let size : suc (length (drop 5 w)) ≡ said_length w = omega (arith, length-drop 5 w, h.exact) in
    found_of c o w (made (said_id w) (drop 5 w)) bytes h long (part c (said_id w) (drop 5 w) plain (bytes 4) (AreBytes-drop 5 w bytes)
    (ap (allows (size_of c (said_id w))) size ∙ sized c o w h long))

-- an extended message has at least an extended id
extended_size : (c : Context) (n k : ℕ) → n ≡ 20 → allows (size_of c n) k ≡ true → 2 ≤ k
extended_size c n k e h = leb-true 2 k (rw e at h)

pub extended_long : (c : Context) (o : Order) (w : List ℕ) → IsWindow c o w → 5 ≤ length w → said_id w ≡ 20 → 6 ≤ length w
extended_long c o w h long e = omega (arith, extended_size c (said_id w) (said_length w) e (sized c o w h long), h.exact)

-- the message of an extended value with the window's extended id and payload
pub extended_found : (c : Context) (o : Order) (w : List ℕ) (v : Ext) → AreBytes w → IsWindow c o w → 6 ≤ length w → said_id w ≡ 20
    → IsExt c.reg v (said_ext_id w) (said_payload w) → IsFound c o w (m.Extended v)
extended_found c o w v bytes h long e x =
    let some : ext_id c.reg v ≡ Some (said_ext_id w) = x.named in
    let id : unwrap_or (ext_id c.reg v) 0 ≡ said_ext_id w = ap (λ (i : Option ℕ). unwrap_or i 0) some in
    let P : Option ℕ → Type 0 = λ i. IsSome i in
    found_of c o w (m.Extended v) bytes h (omega arith) (record {
      id = ap Some (sym e);
      fields = ap (λ (i : ℕ). i ∷ payload_of v) id ∙ ap (λ (p : List ℕ). said_ext_id w ∷ p) (sym x.spelled) ∙ sym (drop_more w 5 0 (omega arith));
      shaped = (subst P (sym some) refl, x.fits);
      in_range = record { id = omega arith; fields = omega (arith, bytes 5, id) };
    })

-- the rows on the window's fields are the rules on the message's
pub found_rows : (c : Context) (o : Order) (w : List ℕ) (m : Message) → IsWindow c o w → 5 ≤ length w → IsFound c o w m → first_fault (field_rows c w)
    ≡ broken_field c.pieces (said_length w) (fields_of c m)
found_rows c o w m h long f =
    fields_rows c w (fields_of c m) (window_id c o w h long) (ap shape_by f.row.kind ∙ f.row.shape) (sym f.its_part.fields) f.its_part.in_range.fields

-- nothing is asked of any other message
pub plain_allowed : (c : Context) (m : Message) (n : ℕ) → id_of m ≡ Some n → (n ≡ 20 → ⊥) → IsAllowed c m
plain_allowed c (m.Extended e) n h plain = absurd (plain (sym (not_twenty 20 n h)))
plain_allowed c msg n h plain = tt

-- without a fault there it may be sent
pub fields_read : (c : Context) (o : Order) (w : List ℕ) (m : Message) → IsWindow c o w → 5 ≤ length w → IsFound c o w m → IsAllowed c m
    → broken_field c.pieces (said_length w) (fields_of c m) ≡ None → IsRead c o w m
fields_read c o w m h long f allowed none =
    let sound = fields_sound c.pieces (said_length w) (fields_of c m) none in
    record {
      said = record {
        in_range = f.its_part.in_range;
        legal = record {
          shaped = f.its_part.shaped;
          short = f.short;
          agreed = f.kept.agreed;
          indexed = sound.indexed;
          sized = f.kept.sized;
          spare = sound.spare;
          known = f.kept.known;
          in_time = f.kept.in_time;
          opened = f.kept.opened;
          allowed = allowed;
        };
        start = omega arith;
      };
      spelled = f.spelled;
    }

-- with one that is the window's fault
window_same : (c : Context) (o : Order) (w : List ℕ) → IsWindow c o w → window w ≡ w
window_same c o w h = take_all (window_length w) w (omega (arith, h.exact))

pub in_window : (c : Context) (o : Order) (w : List ℕ) (f : Option Refused) → IsWindow c o w → IsWindowFault c w f → IsFault c o 0 w f
in_window c o w f h p =
    let P : List ℕ → Type 0 = λ x. IsWindowFault c x f in
    whole (early_header c o 0 w (omega arith) ∙ h.header) (whole_there w (omega (arith, h.exact))) (subst P (sym (window_same c o w h)) p)

pub window_fault : (c : Context) (o : Order) (w : List ℕ) (m : Message) (f : Refused) → IsWindow c o w → 5 ≤ length w → IsFound c o w m
    → broken_field c.pieces (said_length w) (fields_of c m) ≡ Some f → IsFault c o 0 w (Some f)
window_fault c o w m f h long p broken = in_window c o w (Some f) h (in_fields f (found_rows c o w m h long p ∙ broken) refl)

-- an extended message has no such fault, but may have one of its payload
none_by_two : (b : Bool) (f g : Refused) → first_fault (record { found = f; judged = b; condition = false } ∷ record {
  found = g;
  judged = b;
  condition = false;
} ∷ []) ≡ None
none_by_two true f g = refl
none_by_two false f g = refl

pub extended_rows : (c : Context) (w : List ℕ) → said_id w ≡ 20 → first_fault (field_rows c w) ≡ None
extended_rows c w e = rw e (none_by_two (has_id w) _ _)

pub extended_there : (c : Context) (o : Order) (w : List ℕ) → IsWindow c o w → 5 ≤ length w → said_id w ≡ 20 → is_extended w ≡ true
extended_there c o w h long e = rw (window_id c o w h long, eq-eqb (said_id w) 20 e) refl

pub payload_fault : (c : Context) (o : Order) (w : List ℕ) (f : ViewError) → IsWindow c o w → 5 ≤ length w → said_id w ≡ 20
    → ext.Refuses c.reg c.rules (said_ext_id w) (said_payload w) f → IsFault c o 0 w (Some (placed_by f))
payload_fault c o w f h long e p = in_window c o w (Some (placed_by f)) h (in_payload (extended_rows c w e) (extended_there c o w h long e)
    (in_bytes f p refl))

-- an extended value's index has no fault exactly if it is below the known piece count
none_if : (b : Bool) (f : Refused) → (if b then Some f else None) ≡ None → b ≡ false
none_if true f e = absurd cc
none_if false f e = refl

pub fine_index : (pieces : Option ℕ) (v : Ext) → index_fault pieces v ≡ None → is_index_beyond pieces (index_of v) ≡ false
fine_index pieces v e = none_if _ _ e

pub index_fine : (pieces : Option ℕ) (v : Ext) → is_index_beyond pieces (index_of v) ≡ false → index_fault pieces v ≡ None
index_fine pieces v e = rw e refl

pub index_found : (c : Context) (o : Order) (w : List ℕ) (v : Ext) (f : Refused) → IsWindow c o w → 5 ≤ length w → said_id w ≡ 20
    → ext.Reads c.reg c.rules (said_ext_id w) (said_payload w) v → index_fault c.pieces v ≡ Some f → IsFault c o 0 w (Some f)
index_found c o w v f h long e r i = in_window c o w (Some f) h (in_payload (extended_rows c w e) (extended_there c o w h long e) (in_index v r (sym i)))

pub extended_read : (c : Context) (o : Order) (w : List ℕ) (v : Ext) → AreBytes w → IsWindow c o w → 6 ≤ length w → said_id w ≡ 20
    → ext.Reads c.reg c.rules (said_ext_id w) (said_payload w) v → index_fault c.pieces v ≡ None → IsRead c o w (m.Extended v)
extended_read c o w v bytes h long e r i = fields_read c o w (m.Extended v) h (omega arith) (extended_found c o w v bytes h long e r.is)
    (r.allowed, fine_index c.pieces v i) refl

-- the fault of the fields that a call gave
pub same_fields : (c : Context) (k n : ℕ) (f : Fields) (a b : Message) (r : Option Refused) → k ≡ n → f ≡ fields_of c a → a ≡ b → r
    ≡ broken_field c.pieces k f → broken_field c.pieces n (fields_of c b) ≡ r
same_fields c k n f a b r size fields same e =
    ap (λ (i : ℕ). broken_field c.pieces i (fields_of c b)) (sym size) ∙ ap (λ (x : Message). broken_field c.pieces k (fields_of c x)) (sym same)
    ∙ ap (broken_field c.pieces k) (sym fields) ∙ sym e

pub never : (b : Bool) → (b && false) ≡ false
never true = refl
never false = refl

pub keep_alive_read : (c : Context) (o : Order) (w : List ℕ) → AreBytes w → IsWindow c o w → said_length w ≡ 0 → IsRead c o w m.KeepAlive
keep_alive_read c o w bytes h e =
    record {
      said = record {
        in_range = record { id = tt; fields = tt };
        legal = record {
          shaped = tt;
          short = omega arith;
          agreed = refl;
          indexed = tt;
          sized = tt;
          spare = tt;
          known = never (is_strict c);
          in_time = never (is_strict c);
          opened = never (is_strict c);
          allowed = tt;
        };
        start = omega arith;
      };
      spelled = ap be32 (sym e) ∙ be32-number32 w (omega (arith, h.exact, e)) bytes;
    }

-- ---- a whole window with no fault is the spelling of a message that may be sent

no_fault_there : (c : Context) (o : Order) (w : List ℕ) → IsWindow c o w → IsFault c o 0 w None → IsWindowFault c w None
no_fault_there c o w h (early g e p) = absurd cc
no_fault_there c o w h (unfinished e part p) = absurd (let all = whole_there w (omega (arith, h.exact)) in cc)
no_fault_there c o w h (whole e there p) = let P : List ℕ → Type 0 = λ x. IsWindowFault c x None in subst P (window_same c o w h) p

read_there : (c : Context) (o : Order) (w : List ℕ) → AreBytes w → IsWindow c o w → 5 ≤ length w → IsWindowFault c w None → (m : Message) × IsRead c o w m
read_there c o w bytes h long (in_fields g e p) = absurd cc
read_there c o w bytes h long (in_none none not p) =
    let plain : said_id w ≡ 20 → ⊥ = λ e. absurd (let there = extended_there c o w h long e in cc) in
    let msg = made (said_id w) (drop 5 w) in
    let f = fields_found c o w bytes h long plain in
    (msg, fields_read c o w msg h long f (plain_allowed c msg (said_id w) f.its_part.id plain) (sym (found_rows c o w msg h long f) ∙ none))
read_there c o w bytes h long (in_payload none there (in_bytes e p is)) = absurd cc
read_there c o w bytes h long (in_payload none there (in_index v r is)) =
    let twenty : said_id w ≡ 20 = eqb-true (said_id w) 20 (and_parts (has_id w) (eqb (said_id w) 20) there).1 in
    (m.Extended v, extended_read c o w v bytes h (extended_long c o w h long twenty) twenty r (sym is))

pub window_read : (c : Context) (o : Order) (w : List ℕ) → AreBytes w → IsWindow c o w → IsFault c o 0 w None → (m : Message) × IsRead c o w m
window_read c o w bytes h none =
    elim (cases_eq (said_length w) 0) [
      | inl empty ↦ (m.KeepAlive, keep_alive_read c o w bytes h empty)
      | inr some ↦ read_there c o w bytes h (omega (arith, some, h.exact)) (no_fault_there c o w h none)
    ]

-- ---- what may be sent has no fault

pub no_body : (c : Context) (m : Message) → id_of m ≡ None → length (body c m) ≡ 0
no_body c m e = ap (λ (o : Option ℕ). length (framed o (spell_fields (fields_of c m)))) e

pub id_spell : (c : Context) (m : Message) (r : List ℕ) (n : ℕ) → length (body c m) < 2 ^ 32 → id_of m ≡ Some n → has_id (spell c m ++ r) ≡ true
id_spell c m r n lt e =
    let some : length (body c m) ≡ suc (length (spell_fields (fields_of c m))) = ap (λ (o : Option ℕ). length (framed o (spell_fields (fields_of c m)))) e in
    id_there (spell c m ++ r) (omega (arith, length-append (spell c m) r, length-spell c m, some))
    (λ z. absurd (omega (arith, said_length-spell c m r lt, some, z)))

-- the rules on the id of a spelling are those on the value's
pub broken-spell : (c : Context) (o : Order) (m : Message) (r : List ℕ) (n : ℕ) → length (body c m) < 2 ^ 32 → id_of m ≡ Some n
    → first_fault (map (id_row c o (spell c m ++ r)) id_rules) ≡ broken_by c o (kind_of n) (length (body c m))
broken-spell c o m r n lt e =
    rows_broken c o (spell c m ++ r) (id_spell c m r n lt e) ∙ ap (λ (i : ℕ). broken_by c o (kind_of i) (said_length (spell c m ++ r)))
    (said_id-spell c m r n e) ∙ ap (broken_by c o (kind_of n)) (said_length-spell c m r lt)

id_part : (c : Context) (o : Order) (m : Message) (r : List ℕ) (i : Option ℕ) → IsLegal c o m → length (body c m) < 2 ^ 32 → id_of m ≡ i
    → first_fault (map (id_row c o (spell c m ++ r)) id_rules) ≡ None
id_part c o m r None legal lt e = first_fault-none (map (id_row c o (spell c m ++ r)) id_rules)
    (none_by_id c o (spell c m ++ r) id_rules (id_empty (spell c m ++ r) (said_length-spell c m r lt ∙ no_body c m e)))
id_part c o m r (Some n) legal lt e =
    broken-spell c o m r n lt e ∙ none_broken c o (kind_of n) (length (body c m)) (legal_unbroken c o m n (right_row c m n legal.shaped e) e legal)

short_header : (c : Context) (o : Order) (b : List ℕ) → (has_length b && ltb c.limit (said_length b)) ≡ false → header_fault c o b
    ≡ first_fault (map (id_row c o b) id_rules)
unfolding header_fault
short_header c o b e = rw e refl

pub limited-spell : (c : Context) (o : Order) (m : Message) (r : List ℕ) → length (body c m) < 2 ^ 32 → length (body c m) ≤ c.limit
    → header_fault c o (spell c m ++ r) ≡ first_fault (map (id_row c o (spell c m ++ r)) id_rules)
limited-spell c o m r lt short =
    let w = spell c m ++ r in
    short_header c o w (and_right (has_length w) (ltb c.limit (said_length w))
    (le-ltb c.limit (said_length w) (omega (arith, said_length-spell c m r lt, short))))

pub header-spell : (c : Context) (o : Order) (m : Message) (r : List ℕ) → c.limit < 2 ^ 32 → IsLegal c o m → header_fault c o (spell c m ++ r) ≡ None
header-spell c o m r lt legal = limited-spell c o m r (omega (arith, legal.short)) legal.short
    ∙ id_part c o m r (id_of m) legal (omega (arith, legal.short)) refl

-- the rules on the fields of a spelling are those on the value's
empty_sound : (c : Context) (m : Message) → id_of m ≡ None → broken_field c.pieces (length (body c m)) (fields_of c m) ≡ None
empty_sound c m.KeepAlive e = refl
empty_sound c msg e = absurd cc

rows_by : (c : Context) (m : Message) (i : Option ℕ) → IsShaped c m → IsInRange c m → length (body c m) < 2 ^ 32 → id_of m ≡ i
    → first_fault (field_rows c (spell c m)) ≡ broken_field c.pieces (length (body c m)) (fields_of c m)
rows_by c m None shaped range lt e =
    let w = spell c m in
    let says : said_length w ≡ length (body c m) = ap said_length (sym (append-nil w)) ∙ said_length-spell c m [] lt in
    no_field_rows c w (id_empty w (says ∙ no_body c m e)) ∙ sym (empty_sound c m e)
rows_by c m (Some n) shaped range lt e =
    let w = spell c m in
    let row = right_row c m n shaped e in
    let says : said_length w ≡ length (body c m) = ap said_length (sym (append-nil w)) ∙ said_length-spell c m [] lt in
    let there : has_id w ≡ true = ap has_id (sym (append-nil w)) ∙ id_spell c m [] n lt e in
    let id : said_id w ≡ n = ap said_id (sym (append-nil w)) ∙ said_id-spell c m [] n e in
    let bytes : drop 5 w ≡ spell_fields (fields_of c m) = ap (λ (o : Option ℕ). drop 5 (be32 (length (body c m))
    ++ framed o (spell_fields (fields_of c m)))) e in
    fields_rows c w (fields_of c m) there (ap (λ (k : ℕ). shape_by (kind_of k)) id ∙ ap shape_by row.kind ∙ row.shape) bytes range.fields
    ∙ ap (λ (k : ℕ). broken_field c.pieces k (fields_of c m)) says

pub rows-spell : (c : Context) (m : Message) → IsShaped c m → IsInRange c m → length (body c m) < 2 ^ 32 → first_fault (field_rows c (spell c m))
    ≡ broken_field c.pieces (length (body c m)) (fields_of c m)
rows-spell c m shaped range lt = rows_by c m (id_of m) shaped range lt refl

-- no other spelling is that of an extended message
pub plain_spell : (c : Context) (m : Message) (i : Option ℕ) → IsShaped c m → length (body c m) < 2 ^ 32 → ext_of m ≡ None → id_of m ≡ i
    → is_extended (spell c m) ≡ false
plain_spell c m None shaped lt plain e =
    let w = spell c m in
    let says : said_length w ≡ length (body c m) = ap said_length (sym (append-nil w)) ∙ said_length-spell c m [] lt in
    and_left (has_id w) (eqb (said_id w) 20) (id_empty w (says ∙ no_body c m e))
plain_spell c m (Some n) shaped lt plain e =
    let w = spell c m in
    let id : said_id w ≡ n = ap said_id (sym (append-nil w)) ∙ said_id-spell c m [] n e in
    let other : said_id w ≡ 20 → ⊥ = λ h.
    let twenty = ext_twenty c m shaped (e ∙ ap Some (sym id ∙ h)) in
    let bad : ext_of m ≡ Some twenty.0 = ext_is_of m twenty.0 twenty.1 in
    absurd (let none = sym plain ∙ bad in cc) in
    and_right (has_id w) (eqb (said_id w) 20) (ne_eqb (said_id w) 20 other)

ext_spell : (c : Context) (e : Ext) → HasSpelling c.reg e → IsAllowed c (m.Extended e) → length (body c (m.Extended e)) < 2 ^ 32
    → first_fault (field_rows c (spell c (m.Extended e))) ≡ None → IsWindowFault c (spell c (m.Extended e)) None
ext_spell c e shaped allowed lt none =
    let w = spell c (m.Extended e) in
    let there : has_id w ≡ true = ap has_id (sym (append-nil w)) ∙ id_spell c (m.Extended e) [] 20 lt refl in
    in_payload none (rw there refl) (in_index e (record { is = spelled_ext c.reg e shaped; allowed = allowed.0 }) (sym (index_fine c.pieces e allowed.1)))

quiet_by : (c : Context) (m : Message) (x : Option Ext) → IsShaped c m → IsAllowed c m → length (body c m) < 2 ^ 32 → first_fault (field_rows c (spell c m))
    ≡ None → ext_of m ≡ x → IsWindowFault c (spell c m) None
quiet_by c m None shaped allowed lt none h = in_none none (plain_spell c m (id_of m) shaped lt h refl) refl
quiet_by c m (Some e) shaped allowed lt none h =
    let is = ext_is m e h in
    let P : Message → Type 0 = λ x. IsShaped c x in
    let Q : Message → Type 0 = λ x. IsAllowed c x in
    let R : Message → Type 0 = λ x. IsWindowFault c (spell c x) None in
    subst R (sym is) (ext_spell c e (subst P is shaped) (subst Q is allowed) (omega (arith, ap (λ (x : Message). length (body c x)) is))
    (ap (λ (x : Message). first_fault (field_rows c (spell c x))) (sym is) ∙ none))

pub fault-spell : (c : Context) (o : Order) (s : ℕ) (m : Message) (r : List ℕ) → c.limit < 2 ^ 32 → IsSaid c o s m → IsFault c o s (spell c m ++ r) None
fault-spell c o s m r lt said =
    let short = fits c o s m lt said in
    let first = spelled_first c m r short in
    let sound = sound_fields c.pieces (length (body c m)) (fields_of c m) said.legal.indexed said.legal.spare in
    let P : List ℕ → Type 0 = λ x. IsWindowFault c x None in
    whole (early_header c o s (spell c m ++ r) said.start ∙ header-spell c o m r lt said.legal) first.whole
    (subst P (sym first.window) (quiet_by c m (ext_of m) said.legal.shaped said.legal.allowed short (rows-spell c m said.legal.shaped said.in_range short
    ∙ sound) refl))

-- ---- bytes have one fault, which stays

one_payload_fault : (c : Context) (id : ℕ) (p : List ℕ) (f g : Option Refused) → IsPayloadFault c id p f → IsPayloadFault c id p g → f ≡ g
one_payload_fault c id p f g (in_bytes a h is) (in_bytes b k also) =
    is ∙ ap (option_map placed_by) (ext_fault_once c.reg c.rules id p (Some a) (Some b) h k) ∙ sym also
one_payload_fault c id p f g (in_bytes a h is) (in_index w k also) =
    absurd (let same = ext_fault_once c.reg c.rules id p (Some a) None h (w, k) in cc)
one_payload_fault c id p f g (in_index v h is) (in_bytes b k also) =
    absurd (let same = ext_fault_once c.reg c.rules id p None (Some b) (v, h) k in cc)
one_payload_fault c id p f g (in_index v h is) (in_index w k also) =
    is ∙ ap (index_fault c.pieces) (same_ext c.reg v w id p h.is k.is) ∙ sym also

one_window_fault : (c : Context) (w : List ℕ) (f g : Option Refused) → IsWindowFault c w f → IsWindowFault c w g → f ≡ g
one_window_fault c w f g (in_fields x e p) (in_fields y d q) = cc
one_window_fault c w f g (in_fields x e p) (in_none d not q) = absurd cc
one_window_fault c w f g (in_fields x e p) (in_payload d there q) = absurd cc
one_window_fault c w f g (in_none e not p) (in_fields y d q) = absurd cc
one_window_fault c w f g (in_none e not p) (in_none d not' q) = p ∙ sym q
one_window_fault c w f g (in_none e not p) (in_payload d there q) = absurd cc
one_window_fault c w f g (in_payload e there p) (in_fields y d q) = absurd cc
one_window_fault c w f g (in_payload e there p) (in_none d not q) = absurd cc
one_window_fault c w f g (in_payload e there p) (in_payload d there' q) = one_payload_fault c (said_ext_id w) (said_payload w) f g p q

pub one_fault : (c : Context) (o : Order) (s : ℕ) (b : List ℕ) (f g : Option Refused) → IsFault c o s b f → IsFault c o s b g → f ≡ g
one_fault c o s b f g (early x e p) (early y d q) = cc
one_fault c o s b f g (early x e p) (unfinished d part q) = absurd cc
one_fault c o s b f g (early x e p) (whole d all q) = absurd cc
one_fault c o s b f g (unfinished e part p) (early y d q) = absurd cc
one_fault c o s b f g (unfinished e part p) (unfinished d part' q) = cc
one_fault c o s b f g (unfinished e part p) (whole d all q) = absurd cc
one_fault c o s b f g (whole e all p) (early y d q) = absurd cc
one_fault c o s b f g (whole e all p) (unfinished d part q) = absurd cc
one_fault c o s b f g (whole e all p) (whole d all' q) = one_window_fault c (window b) f g p q

early_stays : (c : Context) (o : Order) (s : ℕ) (b x : List ℕ) (f : Refused) → early_fault c o s b ≡ Some f → early_fault c o s (b ++ x) ≡ Some f
early_stays c o s b x f e =
    elim (cases_lt s (2 ^ 62)) [
      | inl lt ↦ early_header c o s (b ++ x) lt ∙ header_stays c o b x f (sym (early_header c o s b lt) ∙ e)
      | inr le ↦ early_full c o s (b ++ x) le ∙ (sym (early_full c o s b le) ∙ e)
    ]

-- what is judged by the whole message stays, whether or not it is a fault
pub whole_stays : (c : Context) (o : Order) (s : ℕ) (b x : List ℕ) (f : Option Refused) → early_fault c o s b ≡ None → is_whole b ≡ true
    → IsWindowFault c (window b) f → IsFault c o s (b ++ x) f
whole_stays c o s b x f e all p =
    let none = no_early c o s b e in
    let P : List ℕ → Type 0 = λ w. IsWindowFault c w f in
    whole (early_header c o s (b ++ x) none.0 ∙ header_keeps c o b x all ∙ none.1) (whole-append b x all) (subst P (sym (window-append b x all)) p)

pub fault_stays : (c : Context) (o : Order) (s : ℕ) (b x : List ℕ) (f : Refused) → IsFault c o s b (Some f) → IsFault c o s (b ++ x) (Some f)
fault_stays c o s b x f (early g e p) = early g (early_stays c o s b x g e) p
fault_stays c o s b x f (unfinished e part p) = absurd cc
fault_stays c o s b x f (whole e all p) = whole_stays c o s b x (Some f) e all p

-- ---- the fault of a window is that of the bytes it begins

pub window_says : (b : List ℕ) → is_whole b ≡ true → (said_length (window b) ≡ said_length b) × (length (window b) ≡ window_length b)
window_says b all =
    let le = whole_length b all in
    (number32-take (window_length b) b (omega arith), length-take-le (window_length b) b le)

pub window_whole : (b : List ℕ) → is_whole b ≡ true → is_whole (window b) ≡ true
window_whole b all = let says = window_says b all in whole_there (window b) (omega (arith, says.0, says.1))

pub window_twice : (b : List ℕ) → is_whole b ≡ true → window (window b) ≡ window b
window_twice b all = let says = window_says b all in take_all (window_length (window b)) (window b) (omega (arith, says.0, says.1))

pub fault-window : (c : Context) (o : Order) (s : ℕ) (b : List ℕ) (f : Option Refused) → s < 2 ^ 62 → is_whole b ≡ true → IsFault c o 0 (window b) f
    → IsFault c o s b f
fault-window c o s b f lt all (early g e p) = early g (early_header c o s b lt ∙ sym (header-window c o b all)
    ∙ sym (early_header c o 0 (window b) (omega arith)) ∙ e) p
fault-window c o s b f lt all (unfinished e part p) = absurd (let there = window_whole b all in cc)
fault-window c o s b f lt all (whole e all' p) =
    let P : List ℕ → Type 0 = λ w. IsWindowFault c w f in
    whole (early_header c o s b lt ∙ sym (header-window c o b all) ∙ sym (early_header c o 0 (window b) (omega arith)) ∙ e) all (subst P (window_twice b all) p)

-- ---- why a value may not be sent

pub too_long : (c : Context) (o : Order) (m : Message) → IsShaped c m → c.limit < length (body c m) → Refuses c o m (fault.Reason TooLong)
unfolding header_fault
too_long c o m shaped over =
    elim (cases_lt (length (body c m)) (2 ^ 32)) [
      | inl lt ↦
          let w = spell c m in
          let says : said_length w ≡ length (body c m) = ap said_length (sym (append-nil w)) ∙ said_length-spell c m [] lt in
          let there : has_length w ≡ true = length_there w (omega (arith, length-spell c m)) in
          let more : ltb c.limit (said_length w) ≡ true = lt-ltb c.limit (said_length w) (omega (arith, says)) in
          let found : header_fault c o w ≡ Some (record { at = 0; reason = TooLong }) = rw (there, more) refl in
          (shaped, inr (lt, (0, early _ (early_header c o 0 w (omega arith) ∙ found) refl)))
      | inr le ↦ (shaped, inl (le, refl))
    ]
