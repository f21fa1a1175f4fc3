-- Where the bytes lie that a message keeps.
use Rattle.std.proofs.Common.{◌≡◌, ℕ, ◌+◌, ◌-◌, List, [], ◌∷◌, ◌++◌, length, take, drop, Option, Some, None, refl, sym, ap, ◌∙◌, arith}
use Rattle.std.proofs.lemmas.List.{append_assoc, append-nil, length-append, take_at, drop_at}
use Rattle.bt_wire.specs.declared.context.Context.{Context}
use Rattle.bt_wire.specs.declared.message.Message.TheVariants as m
use Rattle.bt_wire.specs.Messages.{Message, Fields, none, index, part, block, port, field, extended, payload, id_of, fields_of, spell_fields, framed, body}
use Rattle.bt_wire.specs.Messages.{spell}
use Rattle.bt_wire.specs.Numbers.{be16, be32}
use Rattle.bt_c.specs.Readers.{context_of, kept, Shows}
use Rattle.bt_c.specs.Runs.{BodiesAreLast}
use Rattle.bt_c.specs.declared.item.BtItem.{BtItem}

-- they are the last of the fields' bytes
fields_last : (f : Fields) → (h : List ℕ) × (spell_fields f ≡ h ++ kept f)
fields_last none = ([], refl)
fields_last (index n) = (be32 n, sym (append-nil (be32 n)))
fields_last (part n b l) = (be32 n ++ (be32 b ++ be32 l), sym (append-nil (be32 n ++ (be32 b ++ be32 l))))
fields_last (block n b bytes) = (be32 n ++ be32 b, sym (append_assoc (be32 n) (be32 b) bytes))
fields_last (port p) = (be16 p, sym (append-nil (be16 p)))
fields_last (field bits) = ([], refl)
fields_last (extended n bytes) = (n ∷ [], refl)
fields_last (payload bytes) = ([], refl)

-- and of the message's
idle_last : (c : Context) (msg : Message) → id_of msg ≡ None → (h : List ℕ) × (spell c msg ≡ h ++ kept (fields_of c msg))
idle_last c m.KeepAlive e = (be32 0, refl)
idle_last c msg e = absurd cc

last_of : (c : Context) (msg : Message) (k : Option ℕ) → id_of msg ≡ k → (h : List ℕ) × (spell c msg ≡ h ++ kept (fields_of c msg))
last_of c msg None e = idle_last c msg e
last_of c msg (Some n) e =
    let f = fields_of c msg in
    let front = fields_last f in
    let size = be32 (length (body c msg)) in (
      size ++ (n ∷ front.0),
      ap (λ (o : Option ℕ). size ++ framed o (spell_fields f)) e ∙ ap (λ (x : List ℕ). size ++ (n ∷ x)) front.1
          ∙ sym (append_assoc size (n ∷ front.0) (kept f)),
    )

body_length : (i : BtItem) (f : Fields) → Shows i f → i.body ≡ length (kept f)
body_length i none h = h
body_length i (index n) h = h.1
body_length i (part n b l) h = h.3
body_length i (block n b bytes) h = h.2
body_length i (port p) h = h.1
body_length i (field bits) h = h
body_length i (extended n bytes) h = h.1
body_length i (payload bytes) h = h

pub bodies_are_last : BodiesAreLast
bodies_are_last r s b i msg g =
    let c = context_of r in
    let f = fields_of c msg in
    let found = last_of c msg (id_of msg) refl in
    let front = found.0 in
    let long : i.body ≡ length (kept f) = body_length i f g.fields in
    let all : i.size ≡ length front + length (kept f) = g.begins.size ∙ ap length found.1 ∙ length-append front (kept f) in
    let before : length front ≡ i.size - i.body = omega (arith, long, all) in
    let window : take i.size b ≡ front ++ kept f = ap (take i.size) g.begins.parts ∙ take_at (spell c msg) (drop i.size b) i.size (sym g.begins.size)
    ∙ found.1 in
    (omega (arith, long, all), ap (drop (i.size - i.body)) window ∙ drop_at front (kept f) (i.size - i.body) before)
