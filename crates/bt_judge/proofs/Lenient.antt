-- What any rules accept, the lenient rules read as the same items, with the same bytes left: they find no fault there either, and no
-- message more.
use Rattle.std.proofs.Common.{◌≡◌, ℕ, suc, ◌+◌, ◌^◌, ◌<◌, ◌≤◌, true, false, ◌&&◌, List, [], ◌∷◌, ◌++◌, map, length, Option, Some, None, refl, sym}
use Rattle.std.proofs.Common.{ap, subst, ◌∙◌, arith}
use Rattle.std.specs.Prelude.{unwrap_or}
use Rattle.std.proofs.lemmas.List.{append-nil, append_assoc, length-append}
use Rattle.bt_ext.specs.declared.ext.Ext.{Ext}
use Rattle.bt_ext.specs.declared.ids.Rules.TheVariants.{Free}
use Rattle.bt_ext.specs.Payloads.{HasSpelling, ext_id, payload_of}
use Rattle.bt_ext.proofs.OneExt.{same_ext}
use Rattle.bt_wire.specs.declared.context.Context.{Context}
use Rattle.bt_wire.specs.declared.context.Own.{Own}
use Rattle.bt_wire.specs.declared.context.Order.{Order}
use Rattle.bt_wire.specs.declared.context.Order.TheVariants.{Fresh}
use Rattle.bt_wire.specs.declared.fault.Refused.{Refused}
use Rattle.bt_wire.specs.declared.item.Item.{Item}
use Rattle.bt_wire.specs.declared.item.Item.TheVariants as items
use Rattle.bt_wire.specs.declared.message.Message.TheVariants as m
use Rattle.bt_wire.specs.Ids.{kind_of}
use Rattle.bt_wire.specs.Messages.{Message, id_of, kind_in, fields_of, is_payload, body, spell, order_after, IsShaped}
use Rattle.bt_wire.specs.Tables.{first_fault}
use Rattle.bt_wire.specs.Faults.{has_id, window, is_strict, is_late, is_missing, header_rows, header_fault, early_fault, is_extended}
use Rattle.bt_wire.specs.Faults.{said_ext_id, said_payload, id_rules, id_row, IsPayloadFault, in_bytes, in_index, IsWindowFault, in_fields, in_none, in_payload}
use Rattle.bt_wire.specs.Faults.{IsFault, early, unfinished, whole}
use Rattle.bt_wire.specs.Handshakes.{hand_fault, negotiated}
use Rattle.bt_wire.specs.Legal.{IsAllowed, IsLegal, IsSaid}
use Rattle.bt_wire.specs.Streams.{Says, Begins, orders_after, placed, Outcome, IsOutcome, refusal_at, IsOpened, IsVerdictBy, IsVerdict}
use Rattle.bt_wire.proofs.RowLaws.{NoneCounts-from, first_fault-none}
use Rattle.bt_wire.proofs.RuleLaws.{unbroken, unbroken_kept}
use Rattle.bt_wire.proofs.SpellLaws.{spelled_first, fits, right_row, none_begins, spelled_ext}
use Rattle.bt_wire.proofs.StreamLaws.{first}
use Rattle.bt_wire.proofs.WindowLaws.{no_early, early_header, broken-spell, limited-spell, id_spell, fine_index, never}

-- the same context by the lenient rules
abbrev pub lenient : Context → Context
lenient c = record c { rules = Free }

-- ---- what is said by a context's rules is said by the lenient ones

allowed : (c : Context) (msg : Message) → IsAllowed c msg → IsAllowed (lenient c) msg
allowed c (m.Extended e) h = (tt, h.1)
allowed c other h = tt

legal : (c : Context) (o : Order) (msg : Message) → IsLegal c o msg → IsLegal (lenient c) o msg
legal c o msg h = record {
  shaped = h.shaped;
  short = h.short;
  agreed = h.agreed;
  indexed = h.indexed;
  sized = h.sized;
  spare = h.spare;
  known = refl;
  in_time = refl;
  opened = refl;
  allowed = allowed c msg h.allowed;
}

pub said : (c : Context) (o : Order) (s : ℕ) (msg : Message) → IsSaid c o s msg → IsSaid (lenient c) o s msg
said c o s msg h = record { in_range = record { id = h.in_range.id; fields = h.in_range.fields }; legal = legal c o msg h.legal; start = h.start }

says : (c : Context) (o : Order) (s : ℕ) (ms : List Message) (b : List ℕ) → Says c o s ms b → Says (lenient c) o s ms b
says c o s [] b h = h
says c o s (msg ∷ ms) b h =
    (said c o s msg h.0, (h.1.0, h.1.1, says c (order_after o msg) (s + length (spell c msg)) ms h.1.0 h.1.2))

begins : (c : Context) (o : Order) (s : ℕ) (b : List ℕ) (ms : List Message) (r : List ℕ) → Begins c o s b ms r → Begins (lenient c) o s b ms r
begins c o s b ms r h = (h.0, h.1, says c o s ms h.0 h.2)

placed_same : (c : Context) (s : ℕ) (ms : List Message) → placed (lenient c) s ms ≡ placed c s ms
placed_same c s [] = refl
placed_same c s (msg ∷ ms) = ap (λ (xs : List (ℕ × Item)). (s, items.Message msg) ∷ xs) (placed_same c (s + length (spell c msg)) ms)

-- ---- bytes without a fault by a context's rules have none by the lenient ones

header_none : (c : Context) (o : Order) (b : List ℕ) → header_fault c o b ≡ None → header_fault (lenient c) o b ≡ None
unfolding header_fault
header_none c o b e =
    let rows = NoneCounts-from (header_rows c o b) e in
    first_fault-none (header_rows (lenient c) o b) (
      rows.0,
      (never (has_id b), (rows.1.1.0, (rows.1.1.1.0, (never (has_id b), (never (has_id b), tt))))),
    )

early_none : (c : Context) (o : Order) (s : ℕ) (b : List ℕ) → early_fault c o s b ≡ None → early_fault (lenient c) o s b ≡ None
early_none c o s b e = let early = no_early c o s b e in early_header (lenient c) o s b early.0 ∙ header_none c o b early.1

payload_none : (c : Context) (id : ℕ) (p : List ℕ) → IsPayloadFault c id p None → IsPayloadFault (lenient c) id p None
payload_none c id p (in_bytes e h is) = absurd cc
payload_none c id p (in_index v h is) = in_index v (record { is = h.is; allowed = tt }) is

window_none : (c : Context) (w : List ℕ) → IsWindowFault c w None → IsWindowFault (lenient c) w None
window_none c w (in_fields g e is) = absurd cc
window_none c w (in_none e not is) = in_none e not is
window_none c w (in_payload e there p) = in_payload e there (payload_none c (said_ext_id w) (said_payload w) p)

none : (c : Context) (o : Order) (s : ℕ) (b : List ℕ) → IsFault c o s b None → IsFault (lenient c) o s b None
none c o s b (early g e is) = absurd cc
none c o s b (unfinished e part is) = unfinished (early_none c o s b e) part is
none c o s b (whole e all p) = whole (early_none c o s b e) all (window_none c (window b) p)

-- ---- a message that may be sent by the lenient rules, whose bytes have no fault by a context's, may be sent by those

-- what the strict rules ask of an id
record IsStrict (c : Context) (o : Order) (msg : Message) : Type 0 where
  known : (is_strict c && is_payload (fields_of c msg)) ≡ false
  in_time : (is_strict c && is_late o (kind_in msg)) ≡ false
  opened : (is_strict c && is_missing c o (kind_in msg)) ≡ false

empty_strict : (c : Context) (o : Order) (msg : Message) → id_of msg ≡ None → IsStrict c o msg
empty_strict c o m.KeepAlive e = record { known = never (is_strict c); in_time = never (is_strict c); opened = never (is_strict c) }
empty_strict c o msg e = absurd cc

strict_by : (c : Context) (o : Order) (msg : Message) (r : List ℕ) (i : Option ℕ) → IsShaped c msg → length (body c msg) < 2 ^ 32 → id_of msg ≡ i
    → first_fault (map (id_row c o (spell c msg ++ r)) id_rules) ≡ None → IsStrict c o msg
strict_by c o msg r None shaped lt e ids = empty_strict c o msg e
strict_by c o msg r (Some n) shaped lt e ids =
    let u = unbroken c o (kind_of n) (length (body c msg)) (sym (broken-spell c o msg r n lt e) ∙ ids) in
    let kept = unbroken_kept c o msg n (right_row c msg n shaped e) e u in
    record { known = kept.known; in_time = kept.in_time; opened = kept.opened }

-- what they ask of an extended value: its bytes are those of no other
ext_allowed : (c : Context) (e : Ext) → HasSpelling c.reg e → length (body c (m.Extended e)) < 2 ^ 32 → IsWindowFault c (spell c (m.Extended e)) None
    → IsAllowed c (m.Extended e)
ext_allowed c e shaped lt (in_fields g d is) = absurd cc
ext_allowed c e shaped lt (in_none d not is) =
    let w = spell c (m.Extended e) in
    let there : has_id w ≡ true = ap has_id (sym (append-nil w)) ∙ id_spell c (m.Extended e) [] 20 lt refl in
    let all : is_extended w ≡ true = rw there refl in
    absurd cc
ext_allowed c e shaped lt (in_payload d there (in_bytes f h is)) = absurd cc
ext_allowed c e shaped lt (in_payload d there (in_index v h is)) =
    let same : v ≡ e = same_ext c.reg v e (unwrap_or (ext_id c.reg e) 0) (payload_of e) h.is (spelled_ext c.reg e shaped) in
    let P : Ext → Type 0 = λ x. IsAllowed c (m.Extended x) in
    subst P same (h.allowed, fine_index c.pieces v (sym is))

allowed_by : (c : Context) (msg : Message) → IsShaped c msg → length (body c msg) < 2 ^ 32 → IsWindowFault c (spell c msg) None → IsAllowed c msg
allowed_by c (m.Extended e) shaped lt p = ext_allowed c e shaped lt p
allowed_by c other shaped lt p = tt

strictly : (c : Context) (o : Order) (s : ℕ) (msg : Message) (r : List ℕ) → c.limit < 2 ^ 32 → IsSaid (lenient c) o s msg
    → IsFault c o s (spell c msg ++ r) None → IsSaid c o s msg
strictly c o s msg r lt h (early g e is) = absurd cc
strictly c o s msg r lt h (unfinished e part is) =
    absurd (let all = (spelled_first c msg r (fits (lenient c) o s msg lt h)).whole in cc)
strictly c o s msg r lt h (whole e all p) =
    let short : length (body c msg) < 2 ^ 32 = fits (lenient c) o s msg lt h in
    let front = spelled_first c msg r short in
    let ids = sym (limited-spell c o msg r short h.legal.short) ∙ (no_early c o s (spell c msg ++ r) e).1 in
    let strict = strict_by c o msg r (id_of msg) h.legal.shaped short refl ids in
    let P : List ℕ → Type 0 = λ w. IsWindowFault c w None in
    record {
      in_range = record { id = h.in_range.id; fields = h.in_range.fields };
      legal = record {
        shaped = h.legal.shaped;
        short = h.legal.short;
        agreed = h.legal.agreed;
        indexed = h.legal.indexed;
        sized = h.legal.sized;
        spare = h.legal.spare;
        known = strict.known;
        in_time = strict.in_time;
        opened = strict.opened;
        allowed = allowed_by c msg h.legal.shaped short (subst P front.window p);
      };
      start = h.start;
    }

-- ---- the longest list by a context's rules is the longest by the lenient ones, where no fault follows it

-- after the first message, those that follow are the longest
pub after_first : (c : Context) (o : Order) (s : ℕ) (b y : List ℕ) (msg : Message) (ms : List Message) → IsSaid c o s msg → b ≡ spell c msg ++ y
    → ((ns : List Message) (u : List ℕ) → Begins c o s b ns u → length ns ≤ suc (length ms))
    → (ns : List Message) (u : List ℕ) → Begins c (order_after o msg) (s + length (spell c msg)) y ns u → length ns ≤ length ms
after_first c o s b y msg ms h parts longest ns u k =
    let all : Begins c o s b (msg ∷ ns) u = (
      spell c msg ++ k.0,
      parts ∙ ap (λ (z : List ℕ). spell c msg ++ z) k.1 ∙ sym (append_assoc (spell c msg) k.0 u),
      (h, (k.0, refl, k.2)),
    ) in
    omega (arith, longest (msg ∷ ns) u all)

pub one_more : (c : Context) (o : Order) (s : ℕ) (b r : List ℕ) (msg : Message) → IsSaid c o s msg → b ≡ spell c msg ++ r → Begins c o s b (msg ∷ []) r
one_more c o s b r msg h parts = (spell c msg ++ [], parts ∙ ap (λ (z : List ℕ). z ++ r) (sym (append-nil (spell c msg))), (h, ([], refl, refl)))

longest_too : (c : Context) (o : Order) (s e : ℕ) (b t : List ℕ) (ms : List Message) → c.limit < 2 ^ 32 → Begins c o s b ms t
    → ((ns : List Message) (u : List ℕ) → Begins c o s b ns u → length ns ≤ length ms) → e + length t ≡ s + length b
    → IsFault c (orders_after o ms) e t None → (ns : List Message) (u : List ℕ) → Begins (lenient c) o s b ns u → length ns ≤ length ms
longest_too c o s e b t ms lt h longest at stop [] u k = omega arith
longest_too c o s e b t [] lt h longest at stop (n ∷ ns) u k =
    let front = first (lenient c) o s b n ns u k in
    let here : t ≡ b = sym (h.1 ∙ ap (λ (z : List ℕ). z ++ t) h.2) in
    let start : e ≡ s = omega (arith, at, ap length here) in
    let P : List ℕ → Type 0 = λ z. IsFault c o s z None in
    let Q : ℕ → Type 0 = λ z. IsFault c o z t None in
    let strict = strictly c o s n (front.rest ++ u) lt front.said (subst P (here ∙ front.parts) (subst Q start stop)) in
    absurd (omega (arith, longest (n ∷ []) (front.rest ++ u) (one_more c o s b (front.rest ++ u) n strict front.parts)))
longest_too c o s e b t (msg ∷ ms) lt h longest at stop (n ∷ ns) u k =
    let mine = first c o s b msg ms t h in
    let other = first (lenient c) o s b n ns u k in
    let same = none_begins (other.rest ++ u) (mine.rest ++ t) lt other.said (said c o s msg mine.said) (sym other.parts ∙ mine.parts) in
    let P : Message → Type 0 = λ x. Says (lenient c) (order_after o x) (s + length (spell c x)) ns other.rest in
    let y = mine.rest ++ t in
    let next = longest_too c (order_after o msg) (s + length (spell c msg)) e y t ms lt (mine.rest, refl, mine.says)
    (after_first c o s b y msg ms mine.said mine.parts longest) (omega (arith, at, ap length mine.parts, length-append (spell c msg) y)) stop ns u
    (other.rest, sym same.1, subst P same.0 other.says) in
    omega (arith, next)

-- ---- outcomes

no_fault : (number start : ℕ) (f : Option Refused) → refusal_at number start f ≡ None → f ≡ None
no_fault number start None e = refl
no_fault number start (Some g) e = absurd cc

pub lenient_outcome : (c : Context) (o : Order) (s n : ℕ) (b : List ℕ) (v : Outcome) → c.limit < 2 ^ 32 → IsOutcome c o s n b v → v.refusal ≡ None
    → IsOutcome (lenient c) o s n b v
lenient_outcome c o s n b v lt h e =
    let P : Option Refused → Type 0 = λ f. IsFault c v.order v.start v.tail f in
    let stop : IsFault c v.order v.start v.tail None = subst P (no_fault v.number v.start h.fault (sym h.refusal ∙ e)) h.is_fault in
    let Q : Order → Type 0 = λ p. IsFault c p v.start v.tail None in
    let list = h.longest.begins in
    record {
      messages = h.messages;
      longest = record {
        begins = begins c o s b h.messages v.tail list;
        longest = longest_too c o s v.start b v.tail h.messages lt list h.longest.longest h.start_after (subst Q h.order_after stop);
      };
      items = h.items ∙ sym (placed_same c s h.messages);
      number_after = h.number_after;
      order_after = h.order_after;
      start_after = h.start_after;
      fault = None;
      is_fault = none c v.order v.start v.tail stop;
      refusal = e;
    }

-- ---- whole streams

opened : (own : Own) (b : List ℕ) (v : Outcome) → own.limit < 2 ^ 32 → IsOpened own b v → v.refusal ≡ None → IsOpened (record own { rules = Free }) b v
opened own b v lt h e = record {
  handshake = h.handshake;
  fits = h.fits;
  rest = h.rest;
  parts = h.parts;
  after = h.after;
  messages = lenient_outcome (negotiated own h.handshake.reserved) Fresh 68 1 h.rest h.after lt h.messages (sym (ap (λ (o : Outcome). o.refusal) h.whole) ∙ e);
  whole = h.whole;
}

verdict_by : (f : Option Refused) (own : Own) (b : List ℕ) (v : Outcome) → own.limit < 2 ^ 32 → IsVerdictBy f own b v → v.refusal ≡ None
    → IsVerdictBy f (record own { rules = Free }) b v
verdict_by (Some f) own b v lt h e = h
verdict_by None own b v lt h e = (h.0, λ long. opened own b v lt (h.1 long) e)

pub same_fault : (own : Own) (b : List ℕ) → hand_fault own b ≡ hand_fault (record own { rules = Free }) b
unfolding hand_fault
same_fault own b = refl

pub lenient_verdict : (own : Own) (b : List ℕ) (v : Outcome) → own.limit < 2 ^ 32 → IsVerdict own b v → v.refusal ≡ None
    → IsVerdict (record own { rules = Free }) b v
lenient_verdict own b v lt h e =
    let P : Option Refused → Type 0 = λ f. IsVerdictBy f (record own { rules = Free }) b v in
    subst P (same_fault own b) (verdict_by (hand_fault own b) own b v lt h e)
