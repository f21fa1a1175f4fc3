-- A piece whose block is any: its fault is the same, it is said as well, and so is what follows it.
use Rattle.std.proofs.Common.{◌≡◌, ℕ, ◌+◌, ◌^◌, ◌≤◌, ◌<◌, Bool, true, false, ltb, leb, ◌&&◌, List, [], ◌∷◌, ◌++◌, map, length, take, drop}
use Rattle.std.proofs.Common.{get_or, Option, Some, None, if◌then◌else◌, refl, sym, ap, subst, ◌∙◌, arith, inl, inr}
use Rattle.std.specs.Prelude.{replicate}
use Rattle.std.proofs.lemmas.Bool.{cases_lt, cases_eq}
use Rattle.std.proofs.lemmas.List.{append_assoc, length-append, length-take, length-take-le, length-drop, get_or-take}
use Rattle.std.proofs.lemmas.List.{take-take, take_all, drop-take, take-append-drop, drop-drop}
use Rattle.bt_wire.specs.declared.context.Context.{Context}
use Rattle.bt_wire.specs.declared.context.Order.{Order}
use Rattle.bt_wire.specs.declared.fault.Reason.TheVariants.{TooLong, StreamFull}
use Rattle.bt_wire.specs.declared.fault.Refused.{Refused}
use Rattle.bt_wire.specs.declared.item.Item.{Item}
use Rattle.bt_wire.specs.declared.item.Item.TheVariants as items
use Rattle.bt_wire.specs.declared.message.Message.TheVariants as m
use Rattle.bt_wire.specs.Numbers.{be32, number32}
use Rattle.bt_wire.specs.Messages.{Message, id_of, body, spell, order_after, IsShaped}
use Rattle.bt_wire.specs.Tables.{Row, row, first_fault}
use Rattle.bt_wire.specs.Faults.{said_length, said_id, has_length, has_id, is_whole, window, window_length, id_rules, id_row, header_fault}
use Rattle.bt_wire.specs.Faults.{early_fault, field_rows, is_extended, IsWindowFault, in_fields, in_none, in_payload, IsFault, early, unfinished, whole}
use Rattle.bt_wire.specs.Legal.{IsSaid}
use Rattle.bt_wire.specs.Streams.{Says, Begins, orders_after, placed, Outcome, IsOutcome}
use Rattle.bt_wire.proofs.NumberLaws.{number32-take}
use Rattle.bt_wire.proofs.HeaderLaws.{same_id_rows, id_empty, id_there}
use Rattle.bt_wire.proofs.SpellLaws.{length-spell, said_length-spell, said_id-spell, spelled_first, fits, not_twenty}
use Rattle.bt_wire.proofs.StreamLaws.{first}
use Rattle.bt_wire.proofs.WindowLaws.{no_body, never}
use Rattle.bt_judge.specs.Holes.{without_block, without_blocks, IsAlike}

-- ---- the fault of a piece is judged by its length, its id and its index

-- as many bytes, and the same first nine
record IsNear (a b : List ℕ) : Type 0 where
  size : length b ≡ length a
  front : take 9 b ≡ take 9 a

said_near : (a b : List ℕ) → IsNear a b → said_length b ≡ said_length a
said_near a b h = sym (number32-take 9 b (omega arith)) ∙ ap number32 h.front ∙ number32-take 9 a (omega arith)

id_near : (a b : List ℕ) → IsNear a b → said_id b ≡ said_id a
id_near a b h = sym (get_or-take 9 b 4 0 (omega arith)) ∙ ap (λ (l : List ℕ). get_or l 4 0) h.front ∙ get_or-take 9 a 4 0 (omega arith)

index_near : (a b : List ℕ) → IsNear a b → number32 (drop 5 b) ≡ number32 (drop 5 a)
index_near a b h =
    sym (number32-take 4 (drop 5 b) (omega arith)) ∙ ap number32 (sym (drop-take 5 4 b)) ∙ ap (λ (l : List ℕ). number32 (drop 5 l)) h.front
    ∙ ap number32 (drop-take 5 4 a) ∙ number32-take 4 (drop 5 a) (omega arith)

there_near : (a b : List ℕ) → IsNear a b → has_id b ≡ has_id a
there_near a b h = rw (h.size, said_near a b h) refl

whole_near : (a b : List ℕ) → IsNear a b → is_whole b ≡ is_whole a
whole_near a b h = rw (h.size, said_near a b h) refl

-- the header's fault is judged by its length and its id
pub header_from : (c : Context) (o : Order) (a b : List ℕ) → has_length b ≡ has_length a → has_id b ≡ has_id a → said_id b ≡ said_id a
    → said_length b ≡ said_length a → header_fault c o b ≡ header_fault c o a
unfolding header_fault
header_from c o a b four there id said =
    let long : (has_length b && ltb c.limit (said_length b)) ≡ (has_length a && ltb c.limit (said_length a)) = rw (four, said) refl in
    ap (λ (t : Bool). if t then Some (record { at = 0; reason = TooLong }) else first_fault (map (id_row c o b) id_rules)) long
    ∙ ap (λ (rows : List Row). first_fault (row TooLong 0 (has_length a) (ltb c.limit (said_length a)) ∷ rows)) (same_id_rows c o b a id_rules there id said)

pub early_from : (c : Context) (o : Order) (s : ℕ) (a b : List ℕ) → header_fault c o b ≡ header_fault c o a → early_fault c o s b ≡ early_fault c o s a
early_from c o s a b e = ap (λ (f : Option Refused). if leb (2 ^ 62) s then Some (record { at = 0; reason = StreamFull }) else f) e

early_near : (c : Context) (o : Order) (s : ℕ) (a b : List ℕ) → IsNear a b → early_fault c o s b ≡ early_fault c o s a
early_near c o s a b h =
    early_from c o s a b (header_from c o a b (ap (leb 4) h.size) (there_near a b h) (id_near a b h) (said_near a b h))

-- the fields of a whole message
front_near : (n : ℕ) (a b : List ℕ) → take 9 b ≡ take 9 a → take 9 (take n b) ≡ take 9 (take n a)
front_near n a b e =
    elim (cases_lt n 9) [
      | inl lt ↦ take_all 9 (take n b) (omega (arith, length-take n b)) ∙ sym (take-take n 9 b (omega arith)) ∙ ap (take n) e ∙ take-take n 9 a (omega arith)
          ∙ sym (take_all 9 (take n a) (omega (arith, length-take n a)))
      | inr le ↦ take-take 9 n b le ∙ e ∙ sym (take-take 9 n a le)
    ]

window_near : (a b : List ℕ) → IsNear a b → IsNear (window a) (window b)
window_near a b h =
    let said = said_near a b h in
    record {
      size = omega (arith, length-take (window_length a) a, length-take (window_length b) b, h.size, said);
      front = ap (λ (k : ℕ). take 9 (take (4 + k) b)) said ∙ front_near (window_length a) a b h.front;
    }

rows_near : (c : Context) (a b : List ℕ) → IsNear a b → said_id a ≡ 7 → first_fault (field_rows c b) ≡ first_fault (field_rows c a)
rows_near c a b h seven =
    let other : said_id b ≡ 7 = id_near a b h ∙ seven in
    let there = there_near a b h in
    let said = said_near a b h in
    let index = index_near a b h in
    rw (other, seven, there, said, index) refl

not_extended : (w : List ℕ) → said_id w ≡ 7 → is_extended w ≡ false
not_extended w e = rw e (never (has_id w))

fault_near : (c : Context) (a b : List ℕ) (f : Option Refused) → IsNear a b → said_id a ≡ 7 → IsWindowFault c a f → IsWindowFault c b f
fault_near c a b f h seven (in_fields g e p) = in_fields g (rows_near c a b h seven ∙ e) p
fault_near c a b f h seven (in_none e plain p) = in_none (rows_near c a b h seven ∙ e) (not_extended b (id_near a b h ∙ seven)) p
fault_near c a b f h seven (in_payload e there q) = absurd (let plain = not_extended a seven in cc)

-- a message with an id has it in its window
some_length : (a : List ℕ) → has_id a ≡ true → 1 ≤ said_length a
some_length a e =
    elim (cases_eq (said_length a) 0) [
      | inl none ↦ absurd (let empty = id_empty a none in cc)
      | inr some ↦ omega (arith, some)
    ]

id_within : (a : List ℕ) → has_id a ≡ true → said_id (window a) ≡ said_id a
id_within a e = get_or-take (window_length a) a 4 0 (let some = some_length a e in omega arith)

same_fault : (c : Context) (o : Order) (s : ℕ) (a b : List ℕ) (f : Option Refused) → IsNear a b → has_id a ≡ true → said_id a ≡ 7 → IsFault c o s a f
    → IsFault c o s b f
same_fault c o s a b f h there seven (early g e p) = early g (early_near c o s a b h ∙ e) p
same_fault c o s a b f h there seven (unfinished e part p) = unfinished (early_near c o s a b h ∙ e) (whole_near a b h ∙ part) p
same_fault c o s a b f h there seven (whole e all p) =
    whole (early_near c o s a b h ∙ e) (whole_near a b h ∙ all) (fault_near c (window a) (window b) f (window_near a b h) (id_within a there ∙ seven) p)

pub block_is_any : (c : Context) (o : Order) (s : ℕ) (b d : List ℕ) (f : Option Refused) → 13 ≤ length b → length d ≡ length b → take 13 d ≡ take 13 b
    → has_id b ≡ true → said_id b ≡ 7 → IsFault c o s b f → IsFault c o s d f
block_is_any c o s b d f long size front there seven p =
    let nine : take 9 d ≡ take 9 b = sym (take-take 9 13 d (omega arith)) ∙ ap (take 9) front ∙ take-take 9 13 b (omega arith) in
    same_fault c o s b d f (record { size = size; front = nine }) there seven p

-- ---- a piece is said with any block

-- the bytes of a piece, and what follows: only those of its block differ
pub record IsSameHeader (a b : List ℕ) : Type 0 where
  pub long : 13 ≤ length a
  pub size : length b ≡ length a
  pub front : take 13 b ≡ take 13 a
  pub id : said_id a ≡ 7
  pub least : 13 ≤ window_length a
  pub rest : drop (window_length a) b ≡ drop (window_length a) a

near : (a b : List ℕ) → IsSameHeader a b → IsNear a b
near a b h = record {
  size = h.size;
  front = sym (take-take 9 13 b (omega arith)) ∙ ap (take 9) h.front ∙ take-take 9 13 a (omega arith);
}

-- the other way round
flipped : (a b : List ℕ) → IsSameHeader a b → IsSameHeader b a
flipped a b h =
    let n = near a b h in
    let said = said_near a b n in
    record {
      long = omega (arith, h.long, h.size);
      size = sym h.size;
      front = sym h.front;
      id = id_near a b n ∙ h.id;
      least = omega (arith, h.least, said);
      rest = ap (λ (k : ℕ). drop (4 + k) a) said ∙ sym h.rest ∙ ap (λ (k : ℕ). drop (4 + k) b) (sym said);
    }

header_fault_same : (c : Context) (o : Order) (s : ℕ) (a b : List ℕ) (f : Option Refused) → IsSameHeader a b → IsFault c o s a f → IsFault c o s b f
header_fault_same c o s a b f h p =
    same_fault c o s a b f (near a b h) (id_there a (omega (arith, h.long)) (λ e. absurd (omega (arith, e, h.least)))) h.id p

-- it is the message with this id
piece_of : (c : Context) (msg : Message) → IsShaped c msg → id_of msg ≡ Some 7 → (i : ℕ) × (b : ℕ) × (bytes : List ℕ) × (msg ≡ m.Piece i b bytes)
piece_of c (m.Piece i b bytes) shaped h = (i, b, bytes, refl)
piece_of c (m.Unknown n bytes) shaped h = absurd (let known = rw (not_twenty n 7 h) at shaped in cc)
piece_of c m.KeepAlive shaped h = absurd cc
piece_of c msg shaped h = absurd (omega (arith, not_twenty _ 7 h))

its_id : (c : Context) (a : List ℕ) (msg : Message) (r : List ℕ) (i : Option ℕ) (d : List ℕ) → length (body c msg) < 2 ^ 32 → IsSameHeader a d
    → a ≡ spell c msg ++ r → id_of msg ≡ i → id_of msg ≡ Some 7
its_id c a msg r None d lt h parts e =
    absurd (omega (arith, h.least, ap said_length parts, said_length-spell c msg r lt, no_body c msg e))
its_id c a msg r (Some n) d lt h parts e = e ∙ ap Some (sym (said_id-spell c msg r n e) ∙ ap said_id (sym parts) ∙ h.id)

-- the bytes of b at the front are the spelling of this message, which may be sent and is like m
record IsOther (c : Context) (o : Order) (s : ℕ) (b : List ℕ) (m : Message) (r : List ℕ) : Type 0 where
  other : Message
  said : IsSaid c o s other
  parts : b ≡ spell c other ++ r
  item : without_block (items.Message other) ≡ without_block (items.Message m)
  order : order_after o other ≡ order_after o m
  size : length (spell c other) ≡ length (spell c m)

-- the first 13 bytes of a piece whose length is n
piece_head : (i b n : ℕ) → List ℕ
piece_head i b n = be32 n ++ (7 ∷ (be32 i ++ be32 b))

spell_piece : (c : Context) (i b : ℕ) (bytes : List ℕ) → spell c (m.Piece i b bytes) ≡ piece_head i b (length (body c (m.Piece i b bytes))) ++ bytes
unfolding piece_head
spell_piece c i b bytes = refl

head_of : (c : Context) (i b : ℕ) (bytes r : List ℕ) → take 13 (spell c (m.Piece i b bytes) ++ r) ≡ piece_head i b (length (body c (m.Piece i b bytes)))
unfolding piece_head
head_of c i b bytes r = refl

-- another block of the same length may be said
said_with : (c : Context) (o : Order) (s i b : ℕ) (bytes other : List ℕ) → length other ≡ length bytes → IsSaid c o s (m.Piece i b bytes)
    → IsSaid c o s (m.Piece i b other)
said_with c o s i b bytes other len h = record {
  in_range = record { id = h.in_range.id; fields = h.in_range.fields };
  legal = record {
    shaped = h.legal.shaped;
    short = omega (arith, len, h.legal.short);
    agreed = h.legal.agreed;
    indexed = h.legal.indexed;
    sized = h.legal.sized;
    spare = h.legal.spare;
    known = h.legal.known;
    in_time = h.legal.in_time;
    opened = h.legal.opened;
    allowed = h.legal.allowed;
  };
  start = h.start;
}

other_piece : (c : Context) (o : Order) (s : ℕ) (a d : List ℕ) (i b : ℕ) (bytes r : List ℕ) → c.limit < 2 ^ 32 → IsSameHeader a d
    → IsSaid c o s (m.Piece i b bytes) → a ≡ spell c (m.Piece i b bytes) ++ r → IsOther c o s d (m.Piece i b bytes) r
other_piece c o s a d i b bytes r lt h said parts =
    let msg : Message = m.Piece i b bytes in
    let n = length (body c msg) in
    let long = length bytes in
    let first = spelled_first c msg r (fits c o s msg lt said) in
    let whole : length (spell c msg) ≡ 13 + long = omega (arith, length-spell c msg) in
    let size : window_length a ≡ 13 + long = ap window_length parts ∙ first.size ∙ whole in
    let end : drop (window_length a) a ≡ r = ap (λ (l : List ℕ). drop (window_length l) l) parts ∙ first.rest in
    let block = take long (drop 13 d) in
    let within : long ≤ length (drop 13 d) = omega (arith, length-drop 13 d, h.size, ap length parts, length-append (spell c msg) r, whole) in
    let len : length block ≡ long = length-take-le long (drop 13 d) within in
    let tail : drop long (drop 13 d) ≡ r = drop-drop long 13 d ∙ ap (λ (k : ℕ). drop k d) (sym size) ∙ h.rest ∙ end in
    let head : take 13 d ≡ piece_head i b n = h.front ∙ ap (take 13) parts ∙ head_of c i b bytes r in
    let rest : drop 13 d ≡ block ++ r = sym (take-append-drop long (drop 13 d)) ∙ ap (λ (l : List ℕ). block ++ l) tail in
    let same : n ≡ length (body c (m.Piece i b block)) = omega (arith, len) in
    record {
      other = m.Piece i b block;
      said = said_with c o s i b bytes block len said;
      parts = sym (take-append-drop 13 d) ∙ ap (λ (l : List ℕ). l ++ drop 13 d) head ∙ ap (λ (l : List ℕ). piece_head i b n ++ l) rest
          ∙ sym (append_assoc (piece_head i b n) block r) ∙ ap (λ (k : ℕ). (piece_head i b k ++ block) ++ r) same
          ∙ ap (λ (l : List ℕ). l ++ r) (sym (spell_piece c i b block));
      item = ap (λ (k : ℕ). items.Message (m.Piece i b (replicate k 0))) len;
      order = refl;
      size = omega (arith, length-spell c msg, length-spell c (m.Piece i b block), len);
    }

other_of : (c : Context) (o : Order) (s : ℕ) (a d : List ℕ) (msg : Message) (r : List ℕ) → c.limit < 2 ^ 32 → IsSameHeader a d → IsSaid c o s msg
    → a ≡ spell c msg ++ r → IsOther c o s d msg r
other_of c o s a d msg r lt h said parts =
    let seven = its_id c a msg r (id_of msg) d (fits c o s msg lt said) h parts refl in
    let p = piece_of c msg said.legal.shaped seven in
    let P : Message → Type 0 = λ x. IsSaid c o s x in
    let Q : Message → Type 0 = λ x. IsOther c o s d x r in
    subst Q (sym p.3) (other_piece c o s a d p.0 p.1 p.2 r lt h (subst P p.3 said) (parts ∙ ap (λ (x : Message). spell c x ++ r) p.3))

-- ---- lists of messages

-- d begins with messages like those that a begins with
record IsBegunLike (c : Context) (o : Order) (s : ℕ) (d : List ℕ) (ms : List Message) (t : List ℕ) : Type 0 where
  list : List Message
  tail : List ℕ
  begins : Begins c o s d list tail
  size : length list ≡ length ms
  items : without_blocks (placed c s list) ≡ without_blocks (placed c s ms)
  order : orders_after o list ≡ orders_after o ms
  long : length tail ≡ length t
  fault : (p : Order) (q : ℕ) (f : Option Refused) → IsFault c p q t f → IsFault c p q tail f

begun : (c : Context) (o : Order) (s : ℕ) (a d : List ℕ) (ms : List Message) (t : List ℕ) → c.limit < 2 ^ 32 → IsSameHeader a d → Begins c o s a ms t
    → IsBegunLike c o s d ms t
begun c o s a d [] t lt h k =
    let here : a ≡ t = k.1 ∙ ap (λ (z : List ℕ). z ++ t) k.2 in
    record {
      list = [];
      tail = d;
      begins = ([], refl, refl);
      size = refl;
      items = refl;
      order = refl;
      long = h.size ∙ ap length here;
      fault = λ p q f e. let P : List ℕ → Type 0 = λ z. IsFault c p q z f in header_fault_same c p q a d f h (subst P (sym here) e);
    }
begun c o s a d (msg ∷ ms) t lt h k =
    let x = first c o s a msg ms t k in
    let n = other_of c o s a d msg (x.rest ++ t) lt h x.said x.parts in
    let P : Order → ℕ → Type 0 = λ p q. Says c p q ms x.rest in
    let says = subst (λ (q : ℕ). P (order_after o n.other) (s + q)) (sym n.size) (subst (λ (p : Order). P p (s + length (spell c msg))) (sym n.order) x.says) in
    let later : ℕ → List (ℕ × Item) = λ q. without_blocks (placed c (s + q) ms) in
    record {
      list = n.other ∷ ms;
      tail = t;
      begins = (spell c n.other ++ x.rest, n.parts ∙ sym (append_assoc (spell c n.other) x.rest t), (n.said, (x.rest, refl, says)));
      size = refl;
      items = ap (λ (i : Item). (s, i) ∷ later (length (spell c n.other))) n.item
          ∙ ap (λ (q : ℕ). (s, without_block (items.Message msg)) ∷ later q) n.size;
      order = ap (λ (p : Order). orders_after p ms) n.order;
      long = refl;
      fault = λ p q f e. e;
    }

-- ---- the outcome of messages that begin with a piece, with another block in its place
pub outcome_like : (c : Context) (o : Order) (s number : ℕ) (a d : List ℕ) (v : Outcome) → c.limit < 2 ^ 32 → IsSameHeader a d → IsOutcome c o s number a v
    → (w : Outcome) × IsOutcome c o s number d w × IsAlike v w
outcome_like c o s number a d v lt h k =
    let q = begun c o s a d k.messages v.tail lt h k.longest.begins in (
      record { items = placed c s q.list; refusal = v.refusal; number = v.number; order = v.order; start = v.start; tail = q.tail },
      record {
        messages = q.list;
        longest = record {
          begins = q.begins;
          longest = λ ns u b.
              let back = begun c o s d a ns u lt (flipped a d h) b in
              omega (arith, back.size, k.longest.longest back.list back.tail back.begins, q.size);
        };
        items = refl;
        number_after = omega (arith, k.number_after, q.size);
        order_after = k.order_after ∙ sym q.order;
        start_after = omega (arith, k.start_after, q.long, h.size);
        fault = k.fault;
        is_fault = q.fault v.order v.start k.fault k.is_fault;
        refusal = k.refusal;
      },
      record {
        items = ap without_blocks k.items ∙ sym q.items;
        refusal = refl;
        number = refl;
        order = refl;
        start = refl;
        tail = sym q.long;
      },
    )
