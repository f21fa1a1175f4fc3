-- A spelling is read as the message that it is of, whatever follows, and none begins another.
use Rattle.std.proofs.Common.{◌≡◌, ℕ, ◌+◌, ◌^◌, ◌<◌, true, false, List, [], ◌++◌, length, take, drop, Option, Some, None, refl, sym, ap, subst, ◌∙◌, arith}
use Rattle.std.specs.Prelude.{MatchOption, is_some, unwrap_or, IsSome}
use Rattle.std.proofs.lemmas.List.{append_assoc, length-append, take_at, drop_at}
use Rattle.bt_ext.specs.declared.ext.Ext.{Ext}
use Rattle.bt_ext.specs.declared.ids.Registered.{Registered}
use Rattle.bt_ext.specs.Payloads.{IsExt, HasSpelling, ext_id, payload_of}
use Rattle.bt_ext.proofs.OneExt.{same_ext}
use Rattle.bt_wire.specs.declared.context.Context.{Context}
use Rattle.bt_wire.specs.declared.context.Order.{Order}
use Rattle.bt_wire.specs.declared.ids.Kind.{Kind}
use Rattle.bt_wire.specs.declared.ids.Shape.{Shape}
use Rattle.bt_wire.specs.declared.ids.Shape.TheVariants.{Nothing, Index, Part, Block, Port, Field, Extended}
use Rattle.bt_wire.specs.Messages.{Message}
use Rattle.bt_wire.specs.declared.message.Message.TheVariants as m
use Rattle.bt_wire.specs.Numbers.{be32, number32}
use Rattle.bt_wire.specs.Ids.{kind_of, shape_by}
use Rattle.bt_wire.specs.Messages.{Fields, none, index, part, block, port, field, extended, payload, kind_in, id_of, fields_of, spell_fields, framed, body}
use Rattle.bt_wire.specs.Messages.{spell, IsShaped, IsInRange}
use Rattle.bt_wire.specs.Faults.{said_length, said_id, is_whole, window, window_length}
use Rattle.bt_wire.specs.Legal.{IsSaid}
use Rattle.bt_wire.specs.Parts.{reading, known, named, made}
use Rattle.bt_wire.proofs.NumberLaws.{number32-be32, number16-be16}
use Rattle.bt_wire.proofs.HeaderLaws.{whole_there}

pub length-spell : (c : Context) (m : Message) → length (spell c m) ≡ 4 + length (body c m)
length-spell c m = length-append (be32 (length (body c m))) (body c m)

-- ---- what a spelling says of itself, whatever follows

pub said_length-spell : (c : Context) (m : Message) (r : List ℕ) → length (body c m) < 2 ^ 32 → said_length (spell c m ++ r) ≡ length (body c m)
said_length-spell c m r lt = ap number32 (append_assoc (be32 (length (body c m))) (body c m) r) ∙ number32-be32 (length (body c m)) (body c m ++ r) lt

pub said_id-spell : (c : Context) (m : Message) (r : List ℕ) (n : ℕ) → id_of m ≡ Some n → said_id (spell c m ++ r) ≡ n
said_id-spell c m r n e = ap (λ (o : Option ℕ). said_id ((be32 (length (body c m)) ++ framed o (spell_fields (fields_of c m))) ++ r)) e

-- the bytes of the message at the front
pub record IsSpelledFirst (c : Context) (m : Message) (r : List ℕ) : Type 0 where
  pub size : window_length (spell c m ++ r) ≡ length (spell c m)
  pub window : window (spell c m ++ r) ≡ spell c m
  pub rest : drop (window_length (spell c m ++ r)) (spell c m ++ r) ≡ r
  pub whole : is_whole (spell c m ++ r) ≡ true

pub spelled_first : (c : Context) (m : Message) (r : List ℕ) → length (body c m) < 2 ^ 32 → IsSpelledFirst c m r
spelled_first c m r lt =
    let w = spell c m ++ r in
    let size : window_length w ≡ length (spell c m) = omega (arith, said_length-spell c m r lt, length-spell c m) in
    record {
      size = size;
      window = ap (λ (k : ℕ). take k w) size ∙ take_at (spell c m) r (length (spell c m)) refl;
      rest = ap (λ (k : ℕ). drop k w) size ∙ drop_at (spell c m) r (length (spell c m)) refl;
      whole = whole_there w (omega (arith, size, length-append (spell c m) r));
    }

-- ---- a body is that of one message

no_kind : (o : Option Kind) → is_some o ≡ false → o ≡ None
no_kind None e = refl
no_kind (Some k) e = absurd cc

-- the message of a body
body_made : Option ℕ → List ℕ → Message
body_made None bytes = m.KeepAlive
body_made (Some n) bytes = made n bytes

read_part : (i b l : ℕ) → (i < 2 ^ 32) × (b < 2 ^ 32) × (l < 2 ^ 32) → reading Part (spell_fields (part i b l)) ≡ part i b l
read_part i b l h = rw (number32-be32 i (be32 b ++ be32 l) h.0, number32-be32 b (be32 l) h.1, number32-be32 l [] h.2) refl

read_block : (i b : ℕ) (bytes : List ℕ) → (i < 2 ^ 32) × (b < 2 ^ 32) → reading Block (spell_fields (block i b bytes)) ≡ block i b bytes
read_block i b bytes h = rw (number32-be32 i (be32 b ++ bytes) h.0, number32-be32 b bytes h.1) refl

read_index : (i : ℕ) → i < 2 ^ 32 → reading Index (be32 i) ≡ index i
read_index i h = ap index (number32-be32 i [] h)

-- the value of an extended message
pub ext_of : Message → Option Ext
ext_of (m.Extended e) = Some e
ext_of msg = None

pub ext_is : (msg : Message) (e : Ext) → ext_of msg ≡ Some e → msg ≡ m.Extended e
unfolding ext_of
ext_is (m.Extended f) e h = ap m.Extended cc
ext_is msg e h = absurd cc

pub ext_is_of : (msg : Message) (e : Ext) → msg ≡ m.Extended e → ext_of msg ≡ Some e
unfolding ext_of
ext_is_of msg e h = ap ext_of h

-- it is the message with the id of extended messages
pub not_twenty : (n k : ℕ) → Some n ≡ Some k → n ≡ k
not_twenty n k e = cc

pub ext_twenty : (c : Context) (msg : Message) → IsShaped c msg → id_of msg ≡ Some 20 → (e : Ext) × (msg ≡ m.Extended e)
ext_twenty c (m.Extended e) shaped h = (e, refl)
ext_twenty c (m.Unknown n bytes) shaped h = absurd (let known = rw (not_twenty n 20 h) at shaped in cc)
ext_twenty c m.KeepAlive shaped h = absurd cc
ext_twenty c msg shaped h = absurd (omega (arith, not_twenty _ 20 h))

made-fields : (c : Context) (msg : Message) → ext_of msg ≡ None → IsShaped c msg → IsInRange c msg → body_made (id_of msg) (spell_fields (fields_of c msg))
    ≡ msg
unfolding body_made made ext_of
made-fields c (m.Extended e) plain shaped range = absurd cc
made-fields c (m.Have i) plain shaped range = ap (known 4) (read_index i range.fields)
made-fields c (m.Request i b l) plain shaped range = ap (known 6) (read_part i b l range.fields)
made-fields c (m.Piece i b bytes) plain shaped range = ap (known 7) (read_block i b bytes range.fields)
made-fields c (m.Cancel i b l) plain shaped range = ap (known 8) (read_part i b l range.fields)
made-fields c (m.Port p) plain shaped range = ap m.Port (number16-be16 p range.fields)
made-fields c (m.Suggest i) plain shaped range = ap (known 13) (read_index i range.fields)
made-fields c (m.Reject i b l) plain shaped range = ap (known 16) (read_part i b l range.fields)
made-fields c (m.AllowedFast i) plain shaped range = ap (known 17) (read_index i range.fields)
made-fields c (m.Unknown n bytes) plain shaped range = ap (λ (o : Option Kind). named o n bytes) (no_kind (kind_of n) shaped)
made-fields c msg plain shaped range = refl

-- the id and the fields of a body
record HasParts (o p : Option ℕ) (x y : List ℕ) : Type 0 where
  id : o ≡ p
  fields : x ≡ y

same_parts : (o p : Option ℕ) (x y : List ℕ) → framed o x ≡ framed p y → (o ≡ None → x ≡ []) → (p ≡ None → y ≡ []) → HasParts o p x y
same_parts None None x y e f g = record { id = refl; fields = f refl ∙ sym (g refl) }
same_parts None (Some k) x y e f g = absurd cc
same_parts (Some n) None x y e f g = absurd cc
same_parts (Some n) (Some k) x y e f g = record { id = cc; fields = cc }

no_fields : (c : Context) (msg : Message) → id_of msg ≡ None → spell_fields (fields_of c msg) ≡ []
no_fields c m.KeepAlive e = refl
no_fields c msg e = absurd cc

-- two extended values with one extended id and one payload are one
some_id : (o : Option ℕ) → IsSome o → o ≡ Some (unwrap_or o 0)
some_id None h = absurd cc
some_id (Some n) h = refl

pub spelled_ext : (reg : Registered) (e : Ext) → HasSpelling reg e → IsExt reg e (unwrap_or (ext_id reg e) 0) (payload_of e)
spelled_ext reg e h = record { named = some_id (ext_id reg e) h.0; fits = h.1; spelled = refl }

both_ext : (c : Context) (e f : Ext) → HasSpelling c.reg e → HasSpelling c.reg f → body c (m.Extended e) ≡ body c (m.Extended f)
    → ◌≡◌ {A = Message} (m.Extended e) (m.Extended f)
both_ext c e f he hf h =
    let id : unwrap_or (ext_id c.reg e) 0 ≡ unwrap_or (ext_id c.reg f) 0 = cc in
    let bytes : payload_of e ≡ payload_of f = cc in
    let P : ℕ → Type 0 = λ n. IsExt c.reg e n (payload_of f) in
    let Q : List ℕ → Type 0 = λ p. IsExt c.reg e (unwrap_or (ext_id c.reg e) 0) p in
    ap m.Extended (same_ext c.reg e f (unwrap_or (ext_id c.reg f) 0) (payload_of f) (subst P id (subst Q bytes (spelled_ext c.reg e he)))
    (spelled_ext c.reg f hf))

-- of two messages with one body of which one is extended
ext_body : (c : Context) (e : Ext) (k n : Message) → k ≡ m.Extended e → IsShaped c k → IsShaped c n → body c k ≡ body c n → k ≡ n
ext_body c e k n is ks ns h =
    let P : Message → Type 0 = λ x. IsShaped c x in
    let he : HasSpelling c.reg e = subst P is ks in
    let same = same_parts (id_of k) (id_of n) (spell_fields (fields_of c k)) (spell_fields (fields_of c n)) h (no_fields c k) (no_fields c n) in
    let other = ext_twenty c n ns (sym same.id ∙ ap id_of is) in
    let hf : HasSpelling c.reg other.0 = subst P other.1 ns in
    is ∙ both_ext c e other.0 he hf (ap (body c) (sym is) ∙ h ∙ ap (body c) other.1) ∙ sym other.1

bodies : {k n : Message} (c : Context) (o p : Option Ext) → ext_of k ≡ o → ext_of n ≡ p → IsShaped c k → IsInRange c k → IsShaped c n → IsInRange c n
    → body c k ≡ body c n → k ≡ n
bodies {k} {n} c (Some e) p hk hn ks kr ns nr h = ext_body c e k n (ext_is k e hk) ks ns h
bodies {k} {n} c None (Some f) hk hn ks kr ns nr h = sym (ext_body c f n k (ext_is n f hn) ns ks (sym h))
bodies {k} {n} c None None hk hn ks kr ns nr h =
    let parts = same_parts (id_of k) (id_of n) (spell_fields (fields_of c k)) (spell_fields (fields_of c n)) h (no_fields c k) (no_fields c n) in
    sym (made-fields c k hk ks kr) ∙ ap (λ (o : Option ℕ). body_made o (spell_fields (fields_of c k))) parts.id ∙ ap (body_made (id_of n)) parts.fields
    ∙ made-fields c n hn ns nr

pub one_body : (c : Context) (k n : Message) → IsShaped c k → IsInRange c k → IsShaped c n → IsInRange c n → body c k ≡ body c n → k ≡ n
one_body c k n ks kr ns nr h = bodies c (ext_of k) (ext_of n) refl refl ks kr ns nr h

-- what may be sent has a length that fits four bytes
pub fits : (c : Context) (o : Order) (s : ℕ) (m : Message) → c.limit < 2 ^ 32 → IsSaid c o s m → length (body c m) < 2 ^ 32
fits c o s m lt said = omega (arith, said.legal.short)

-- no spelling begins another
pub none_begins : {c : Context} {o p : Order} {s t : ℕ} {m n : Message} (x y : List ℕ) → c.limit < 2 ^ 32 → IsSaid c o s m → IsSaid c p t n
    → spell c m ++ x ≡ spell c n ++ y → (m ≡ n) × (x ≡ y)
none_begins {c} {o} {p} {s} {t} {m} {n} x y lt q r e =
    let first = spelled_first c m x (fits c o s m lt q) in
    let second = spelled_first c n y (fits c p t n lt r) in
    let same : spell c m ≡ spell c n = sym first.window ∙ ap window e ∙ second.window in (
      one_body c m n q.legal.shaped q.in_range r.legal.shaped r.in_range (ap (drop 4) same),
      sym first.rest ∙ ap (λ (w : List ℕ). drop (window_length w) w) e ∙ second.rest,
    )

-- ---- what the table of ids says of a message is what its value says

abbrev pub shape_in : Fields → Option Shape
shape_in none = Some Nothing
shape_in (index i) = Some Index
shape_in (part i b l) = Some Part
shape_in (block i b bytes) = Some Block
shape_in (port p) = Some Port
shape_in (field bits) = Some Field
shape_in (extended n bytes) = Some Extended
shape_in (payload bytes) = None

pub record IsRow (c : Context) (msg : Message) (n : ℕ) : Type 0 where
  pub kind : kind_of n ≡ kind_in msg
  pub shape : shape_by (kind_in msg) ≡ shape_in (fields_of c msg)

row_of : (c : Context) (msg : Message) → IsShaped c msg → MatchOption (id_of msg) (Unit {0}) (IsRow c msg)
row_of c m.KeepAlive shaped = tt
row_of c (m.Unknown n bytes) shaped = record { kind = no_kind (kind_of n) shaped; shape = refl }
row_of c msg shaped = record { kind = refl; shape = refl }

pub right_row : (c : Context) (msg : Message) (n : ℕ) → IsShaped c msg → id_of msg ≡ Some n → IsRow c msg n
right_row c msg n shaped e = let P : Option ℕ → Type 0 = λ o. MatchOption o (Unit {0}) (IsRow c msg) in subst P e (row_of c msg shaped)
