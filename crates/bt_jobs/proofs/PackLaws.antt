-- A text has its lines alone, the script of an accepted stream packs to that stream, and packing has one answer.
use Rattle.std.proofs.Common.{◌≡◌, ℕ, ◌+◌, ◌-◌, ◌<◌, ◌≤◌, ◌^◌, ◌==◌, ◌⊎◌, not, Bool, true, false, cond, List, [], ◌∷◌, ◌++◌, length, Option}
use Rattle.std.proofs.Common.{Some, None, refl, sym, ap, ◌∙◌, arith, inl, inr}
use Rattle.std.proofs.lemmas.Bool.{cases_lt, and_parts}
use Rattle.std.proofs.lemmas.List.{append-nil, append_assoc, length-append, nil_from_length}
use Rattle.bt_wire.specs.declared.context.Context.{Context}
use Rattle.bt_wire.specs.declared.context.Order.{Order}
use Rattle.bt_wire.specs.declared.context.Order.TheVariants.{Fresh}
use Rattle.bt_wire.specs.declared.context.Own.{Own}
use Rattle.bt_wire.specs.declared.fault.Refused.{Refused as Fault}
use Rattle.bt_wire.specs.declared.handshake.Handshake.{Handshake}
use Rattle.bt_wire.specs.declared.item.Item.{Item}
use Rattle.bt_wire.specs.declared.item.Item.TheVariants as items
use Rattle.bt_wire.specs.declared.item.Refusal.{Refusal}
use Rattle.bt_wire.specs.Messages.{Message}
use Rattle.bt_wire.specs.Handshakes.{hand, hand_fault, negotiated}
use Rattle.bt_wire.specs.Messages.{spell, order_after}
use Rattle.bt_wire.specs.Numbers.{AreBytes}
use Rattle.bt_wire.specs.Streams.{Says, placed, Outcome, IsOpened, IsVerdict, IsVerdictBy, is_complete, end_inside, refusal_at_end}
use Rattle.bt_wire.proofs.VerdictLaws.{verdict_only, verdict_stays}
use Rattle.bt_text.specs.declared.ended.PackEnd.{PackEnd}
use Rattle.bt_text.specs.declared.ended.PackEnd.TheVariants.{Accepted, Refused}
use Rattle.bt_text.specs.declared.ended.ScriptReason.{ScriptReason}
use Rattle.bt_text.specs.declared.ended.ScriptReason.TheVariants.{Syntax, Reason}
use Rattle.bt_text.specs.Script.{has_feed}
use Rattle.bt_jobs.specs.Packs.{ended_lines, AreWhole, IsSplit, with_last, AreLines, IsNamed, is_none, AreNamed, AreTaken, IsNotTaken, IsStop, IsPacked}
use Rattle.bt_jobs.specs.Packs.{empty, stopped, accepted}
use Rattle.bt_text.specs.Script.{script, script_words, Said, keep_alive, known, unknown, said_bytes, IsLine}
use Rattle.bt_text.proofs.ScriptBounds.{handshake_fits, message_fits}
use Rattle.bt_text.proofs.ScriptLines.{one_reading}
use Rattle.bt_text.proofs.ScriptSpoken.{back_fits, front_fits, handshake_line, message_line}

-- ---- the lines of a text

no_feed_after : (c : ℕ) (cs : List ℕ) → has_feed (c ∷ cs) ≡ false → has_feed cs ≡ false
no_feed_after c cs h = grind arith

a_feed : (x y : List ℕ) → has_feed (x ++ 10 ∷ y) ≡ true
a_feed [] y = refl
a_feed (c ∷ cs) y = grind (arith, a_feed cs y)

no_feed : (x y r : List ℕ) → r ≡ x ++ 10 ∷ y → has_feed r ≡ false → ⊥
no_feed x y r e h = let k = rw (e, a_feed x y) at h in absurd (cc k)

-- the text up to the first line feed, and what follows it
pub one_front : (x y s t : List ℕ) → has_feed x ≡ false → has_feed y ≡ false → x ++ 10 ∷ s ≡ y ++ 10 ∷ t → (x ≡ y) × (s ≡ t)
one_front [] [] s t h k e = (refl, cc e)
one_front [] (d ∷ ds) s t h k e = absurd (let first : 10 ≡ d = cc e in grind arith)
one_front (c ∷ cs) [] s t h k e = absurd (let first : c ≡ 10 = cc e in grind arith)
one_front (c ∷ cs) (d ∷ ds) s t h k e =
    let first : c ≡ d = cc e in
    let others : cs ++ 10 ∷ s ≡ ds ++ 10 ∷ t = cc e in
    let rest = one_front cs ds s t (no_feed_after c cs h) (no_feed_after d ds k) others in
    (ap (λ (z : ℕ). z ∷ cs) first ∙ ap (λ (z : List ℕ). d ∷ z) rest.0, rest.1)

first_line : (l : List ℕ) (ls : List (List ℕ)) (r : List ℕ) → ended_lines (l ∷ ls) ++ r ≡ l ++ 10 ∷ (ended_lines ls ++ r)
first_line l ls r = append_assoc (l ++ 10 ∷ []) (ended_lines ls) r ∙ append_assoc l (10 ∷ []) (ended_lines ls ++ r)

pub one_split_of : (ls ms : List (List ℕ)) (r t : List ℕ) → AreWhole ls → AreWhole ms → has_feed r ≡ false → has_feed t ≡ false → ended_lines ls ++ r
    ≡ ended_lines ms ++ t → (ls ≡ ms) × (r ≡ t)
one_split_of [] [] r t p q h k e = (refl, e)
one_split_of [] (m ∷ ms) r t p q h k e = absurd (no_feed m (ended_lines ms ++ t) r (e ∙ first_line m ms t) h)
one_split_of (l ∷ ls) [] r t p q h k e = absurd (no_feed l (ended_lines ls ++ r) t (sym e ∙ first_line l ls r) k)
one_split_of (l ∷ ls) (m ∷ ms) r t p q h k e =
    let front = one_front l m (ended_lines ls ++ r) (ended_lines ms ++ t) p.0 q.0 (sym (first_line l ls r) ∙ e ∙ first_line m ms t) in
    let rest = one_split_of ls ms r t p.1 q.1 h k front.1 in
    (ap (λ (z : List ℕ). z ∷ ls) front.0 ∙ ap (λ (z : List (List ℕ)). m ∷ z) rest.0, rest.1)

pub split_is_one : (text : List ℕ) (ls ms : List (List ℕ)) (r t : List ℕ) → IsSplit text ls r → IsSplit text ms t → (ls ≡ ms) × (r ≡ t)
split_is_one text ls ms r t p q = one_split_of ls ms r t p.whole q.whole p.last q.last (sym p.parts ∙ q.parts)

pub lines_are_one : (text : List ℕ) (a c : List (List ℕ)) → AreLines text a → AreLines text c → a ≡ c
lines_are_one text a c p q =
    let same = split_is_one text p.0 q.0 p.1 q.1 p.2 q.2 in
    p.3 ∙ ap (λ (ls : List (List ℕ)). with_last ls p.1) same.0 ∙ ap (with_last q.0) same.1 ∙ sym q.3

-- whole lines, each with its line feed, are the lines of their text
pub lines_of_ended : (ls : List (List ℕ)) → AreWhole ls → AreLines (ended_lines ls) ls
lines_of_ended ls whole = (ls, [], record { parts = sym (append-nil (ended_lines ls)); whole = whole; last = refl }, refl)

-- ---- the lines of a script

abbrev pub lines_in : Own → List (ℕ × Item) → List (List ℕ)
lines_in own [] = []
lines_in own (p ∷ ps) = script_words own p.1 ∷ lines_in own ps

pub script_lines : (own : Own) (ps : List (ℕ × Item)) → script own ps ≡ ended_lines (lines_in own ps)
script_lines own [] = refl
script_lines own (p ∷ ps) = rw (script_lines own ps) refl

-- the lines of items are whole, and name b
pub record AreItems (limit : ℕ) (first : Bool) (ls : List (List ℕ)) (b : List ℕ) : Type 0 where
  pub whole : AreWhole ls
  pub named : AreNamed limit first ls b

messages_named : (own : Own) (c : Context) (o : Order) (s : ℕ) (ms : List Message) (b : List ℕ) → c.reg ≡ own.reg → c.limit ≡ own.limit → AreBytes b
    → Says c o s ms b → AreItems own.limit false (lines_in own (placed c s ms)) b
messages_named own c o s [] b reg limit fits h = record { whole = tt; named = h }
messages_named own c o s (m ∷ ms) b reg limit fits h =
    let said = h.0 in
    let rest = h.1.0 in
    let parts = h.1.1 in
    let all : AreBytes (spell c m ++ rest) = rw parts at fits in
    let fit = message_fits own c m reg said.in_range in
    let line = message_line own c m reg said.legal.shaped said.in_range (front_fits (spell c m) rest all) in
    let more = messages_named own c (order_after o m) (s + length (spell c m)) ms rest reg limit (back_fits (spell c m) rest all) h.1.2 in
    record {
      whole = (fit.whole, more.whole);
      named = (spell c m, rest, record { short = omega (arith, fit.short, said.legal.short, limit); line = line }, parts, more.named);
    }

-- ---- an accepted stream

-- what stands at the end
abbrev at_end : Option Refusal → Bool → Refusal → Option Refusal
at_end o b x = elim o [ Some r ↦ Some r | None ↦ cond b None (Some x) ]

complete_by : (o : Option Refusal) (b : Bool) (x : Refusal) → at_end o b x ≡ None → b ≡ true
complete_by (Some r) b x h = absurd cc
complete_by None true x h = refl
complete_by None false x h = absurd cc

no_number : (v w : Outcome) → v ≡ w → w.number ≡ 0 → not (v.number == 0) ≡ true → ⊥
no_number v w e z h =
    let zero_number : v.number ≡ 0 = ap (λ (u : Outcome). u.number) e ∙ z in
    let k = rw zero_number at h in
    absurd (cc k)

opened_by : (f : Option Fault) (own : Own) (b : List ℕ) (v : Outcome) → not (v.number == 0) ≡ true → IsVerdictBy f own b v → IsOpened own b v
opened_by (Some f) own b v some h = absurd (no_number v _ h refl some)
opened_by None own b v some h =
    elim (cases_lt (length b) 68) [
      | inl lt ↦ absurd (no_number v _ (h.0 lt) refl some)
      | inr le ↦ h.1 le
    ]

-- it is opened, and nothing of it is left over
pub record IsAccepted (own : Own) (b : List ℕ) (v : Outcome) : Type 0 where
  pub opened : IsOpened own b v
  pub nothing_left : v.tail ≡ []

pub accepted_stream : (own : Own) (b : List ℕ) (v : Outcome) → IsVerdict own b v → refusal_at_end v ≡ None → IsAccepted own b v
accepted_stream own b v h e =
    let complete : is_complete v ≡ true = complete_by v.refusal (is_complete v) (end_inside v) e in
    let both = and_parts (not (v.number == 0)) (length v.tail == 0) complete in
    let none : length v.tail ≡ 0 = let k = both.1 in grind arith in
    record { opened = opened_by (hand_fault own b) own b v both.0 h; nothing_left = nil_from_length v.tail none }

-- the messages of an opened stream of which nothing is left over
pub opened_says : (own : Own) (b : List ℕ) (v : Outcome) (p : IsOpened own b v) → v.tail ≡ [] → Says (negotiated own p.handshake.reserved) Fresh 68
    p.messages.messages p.rest
opened_says own b v p none =
    let c = negotiated own p.handshake.reserved in
    let ms = p.messages.messages in
    let begins = p.messages.longest.begins in
    let tail : p.after.tail ≡ [] = sym (ap (λ (u : Outcome). u.tail) p.whole) ∙ none in
    let all : p.rest ≡ begins.0 = begins.1 ∙ ap (λ (t : List ℕ). begins.0 ++ t) tail ∙ append-nil begins.0 in
    (rw (sym all) at begins.2)

pub accepted_items : (own : Own) (b : List ℕ) (v : Outcome) → AreBytes b → IsAccepted own b v → AreItems own.limit true (lines_in own v.items) b
accepted_items own b v fits h =
    let p = h.opened in
    let g = p.handshake in
    let c = negotiated own g.reserved in
    let ms = p.messages.messages in
    let parts : v.items ≡ (0, items.Handshake g) ∷ placed c 68 ms = ap (λ (u : Outcome). u.items) p.whole
    ∙ ap (λ (xs : List (ℕ × Item)). (0, items.Handshake g) ∷ xs) p.messages.items in
    let all : AreBytes (hand g ++ p.rest) = rw p.parts at fits in
    let fit = handshake_fits g p.fits in
    let more = messages_named own c Fresh 68 ms p.rest refl refl (back_fits (hand g) p.rest all) (opened_says own b v p h.nothing_left) in
    (rw parts (record {
      whole = (fit.whole, more.whole);
      named = (
        hand g,
        p.rest,
        record { short = omega (arith, fit.short); line = handshake_line g p.fits (front_fits (hand g) p.rest all) },
        p.parts,
        more.named,
      );
    }))

pub script_packs : (own : Own) (b : List ℕ) (v : Outcome) → AreBytes b → IsVerdict own b v → refusal_at_end v ≡ None
    → (all : List (List ℕ)) → AreLines (script own v.items) all → IsPacked own all b (Accepted (v.number - 1) (length b))
script_packs own b v fits is none all lines =
    let h = accepted_stream own b v is none in
    let ls = lines_in own v.items in
    let items = accepted_items own b v fits h in
    let same : all ≡ ls = lines_are_one (script own v.items) all ls lines (rw (sym (script_lines own v.items)) at (lines_of_ended ls items.whole)) in
    let some : is_none ls ≡ false = ap (λ (u : Outcome). is_none (lines_in own u.items)) h.opened.whole in
    (rw (sym same) at (accepted v some (record { named = items.named; verdict = is; nothing_left = h.nothing_left }) refl))

-- ---- packing has one answer

-- an item at its offset
abbrev pair : ℕ → Item → ℕ × Item
pair s x = (s, x)

pub named_is_one : (limit : ℕ) (first : Bool) (ls : List (List ℕ)) (b c : List ℕ) → AreNamed limit first ls b → AreNamed limit first ls c → b ≡ c
named_is_one limit first [] b c p q = p ∙ sym q
named_is_one limit first (l ∷ ls) b c p q =
    let x = one_reading first l p.0 q.0 p.2.line q.2.line in
    let rest = named_is_one limit false ls p.1 q.1 p.4 q.4 in
    p.3 ∙ ap (λ (z : List ℕ). z ++ p.1) x ∙ ap (λ (z : List ℕ). q.0 ++ z) rest ∙ sym q.3

-- whether the line after these may be that of a handshake
abbrev pub is_first_after : Bool → List (List ℕ) → Bool
is_first_after first [] = first
is_first_after first (l ∷ ls) = false

never_first : (ls : List (List ℕ)) → is_first_after false ls ≡ false
never_first [] = refl
never_first (l ∷ ls) = refl

pub is_first_none : (ls : List (List ℕ)) → is_first_after true ls ≡ is_none ls
is_first_none [] = refl
is_first_none (l ∷ ls) = refl

-- the line after those that name b, where all of them name c
pub record IsFollowing (limit : ℕ) (first : Bool) (line b c : List ℕ) : Type 0 where
  pub bytes : List ℕ
  pub rest : List ℕ
  pub named : IsNamed limit first line bytes
  pub parts : c ≡ (b ++ bytes) ++ rest

pub named_after : (limit : ℕ) (first : Bool) (ls : List (List ℕ)) (line : List ℕ) (more : List (List ℕ)) (b c : List ℕ) → AreNamed limit first ls b
    → AreNamed limit first (ls ++ line ∷ more) c → IsFollowing limit (is_first_after first ls) line b c
named_after limit first [] line more b c p q = record { bytes = q.0; rest = q.1; named = q.2; parts = q.3 ∙ ap (λ (z : List ℕ). (z ++ q.0) ++ q.1) (sym p) }
named_after limit first (l ∷ ls) line more b c p q =
    let x = one_reading first l q.0 p.0 q.2.line p.2.line in
    let k = named_after limit false ls line more p.1 q.1 p.4 q.4 in
    let joined : p.0 ++ ((p.1 ++ k.bytes) ++ k.rest) ≡ ((p.0 ++ p.1) ++ k.bytes) ++ k.rest =
    sym (append_assoc p.0 (p.1 ++ k.bytes) k.rest) ∙ ap (λ (z : List ℕ). z ++ k.rest) (sym (append_assoc p.0 p.1 k.bytes)) in
    record {
      bytes = k.bytes;
      rest = k.rest;
      named = rw (never_first ls) at k.named;
      parts = q.3 ∙ ap (λ (z : List ℕ). z ++ q.1) x ∙ ap (λ (z : List ℕ). p.0 ++ z) k.parts ∙ joined ∙ ap (λ (z : List ℕ). (z ++ k.bytes) ++ k.rest) (sym p.3);
    }

said_some : (s : Said) → said_bytes s ≡ [] → ⊥
said_some keep_alive e = absurd (cc e)
said_some (known i f) e = absurd (cc e)
said_some (unknown n bytes) e = absurd (cc e)

pub line_some : (first : Bool) (text bytes : List ℕ) → IsLine first text bytes → bytes ≡ [] → ⊥
line_some true text bytes line e = let k : hand line.0 ≡ [] = sym line.2 ∙ e in absurd (cc k)
line_some false text bytes line e = said_some line.0 (sym line.2 ∙ e)

-- ---- items that are all of a stream have its bytes

pub placed_is_one : (c : Context) (s : ℕ) (ms ns : List Message) → placed c s ms ≡ placed c s ns → ms ≡ ns
placed_is_one c s [] [] e = refl
placed_is_one c s [] (n ∷ ns) e = absurd (cc e)
placed_is_one c s (m ∷ ms) [] e = absurd (cc e)
placed_is_one c s (m ∷ ms) (n ∷ ns) e =
    let heads : pair s (items.Message m) ≡ pair s (items.Message n) = cc e in
    let its : items.Message m ≡ items.Message n = ap (λ (p : ℕ × Item). p.1) heads in
    let same : m ≡ n = cc its in
    let others : placed c (s + length (spell c m)) ms ≡ placed c (s + length (spell c n)) ns = cc e in
    let rest = placed_is_one c (s + length (spell c m)) ms ns (rw (sym same) at others) in
    ap (λ (k : Message). k ∷ ms) same ∙ ap (λ (ks : List Message). n ∷ ks) rest

pub said_is_one : (c : Context) (o : Order) (s : ℕ) (ms : List Message) (x y : List ℕ) → Says c o s ms x → Says c o s ms y → x ≡ y
said_is_one c o s [] x y p q = p ∙ sym q
said_is_one c o s (m ∷ ms) x y p q =
    let rest = said_is_one c (order_after o m) (s + length (spell c m)) ms p.1.0 q.1.0 p.1.2 q.1.2 in
    p.1.1 ∙ ap (λ (z : List ℕ). spell c m ++ z) rest ∙ sym q.1.1

-- the bytes of messages after a handshake
same_bytes : (own : Own) (g h : Handshake) (ms ns : List Message) (x y : List ℕ) → g ≡ h → placed (negotiated own g.reserved) 68 ms
    ≡ placed (negotiated own h.reserved) 68 ns
    → Says (negotiated own g.reserved) Fresh 68 ms x → Says (negotiated own h.reserved) Fresh 68 ns y → hand g ++ x ≡ hand h ++ y
same_bytes own g h ms ns x y e places p q =
    let c = negotiated own g.reserved in
    let list : ms ≡ ns = placed_is_one c 68 ms ns (rw (sym e) at places) in
    let rest = said_is_one c Fresh 68 ms x y p (rw (sym list) at (rw (sym e) at q)) in
    ap (λ (k : Handshake). hand k ++ x) e ∙ ap (λ (z : List ℕ). hand h ++ z) rest

opened_items : (own : Own) (b : List ℕ) (v : Outcome) (p : IsOpened own b v) → v.items ≡ pair 0 (items.Handshake p.handshake) ∷ placed
    (negotiated own p.handshake.reserved) 68 p.messages.messages
opened_items own b v p = ap (λ (u : Outcome). u.items) p.whole ∙ ap (λ (xs : List (ℕ × Item)). (0, items.Handshake p.handshake) ∷ xs) p.messages.items

opened_is_one : (own : Own) (b c : List ℕ) (v w : Outcome) → IsOpened own b v → IsOpened own c w → v.tail ≡ [] → w.tail ≡ [] → v.items ≡ w.items → b ≡ c
opened_is_one own b c v w p q left right same =
    let g = p.handshake in
    let h = q.handshake in
    let ms = p.messages.messages in
    let ns = q.messages.messages in
    let all : pair 0 (items.Handshake g) ∷ placed (negotiated own g.reserved) 68 ms ≡ pair 0 (items.Handshake h) ∷ placed (negotiated own h.reserved) 68 ns =
    sym (opened_items own b v p) ∙ same ∙ opened_items own c w q in
    let heads : pair 0 (items.Handshake g) ≡ pair 0 (items.Handshake h) = cc all in
    let its : items.Handshake g ≡ items.Handshake h = ap (λ (k : ℕ × Item). k.1) heads in
    let others : placed (negotiated own g.reserved) 68 ms ≡ placed (negotiated own h.reserved) 68 ns = cc all in
    p.parts ∙ same_bytes own g h ms ns p.rest q.rest (cc its) others (opened_says own b v p left) (opened_says own c w q right) ∙ sym q.parts

-- nothing is left over: nothing is there, or the stream is opened
abbrev IsAllItems : Own → List ℕ → Outcome → Type 0
IsAllItems own b v = ((b ≡ []) × (v.items ≡ [])) ⊎ IsOpened own b v

all_items_by : (f : Option Fault) (own : Own) (b : List ℕ) (v : Outcome) → IsVerdictBy f own b v → v.tail ≡ [] → IsAllItems own b v
all_items_by (Some f) own b v h none = inl (sym (ap (λ (u : Outcome). u.tail) h) ∙ none, ap (λ (u : Outcome). u.items) h)
all_items_by None own b v h none =
    elim (cases_lt (length b) 68) [
      | inl lt ↦ inl (sym (ap (λ (u : Outcome). u.tail) (h.0 lt)) ∙ none, ap (λ (u : Outcome). u.items) (h.0 lt))
      | inr le ↦ inr (h.1 le)
    ]

none_and_some : (own : Own) (b : List ℕ) (v w : Outcome) → IsOpened own b v → w.items ≡ [] → v.items ≡ w.items → ⊥
none_and_some own b v w p none same =
    let k : pair 0 (items.Handshake p.handshake) ∷ placed (negotiated own p.handshake.reserved) 68 p.messages.messages ≡ [] = sym (opened_items own b v p)
    ∙ same ∙ none in
    absurd (cc k)

pub items_are_one : (own : Own) (b c : List ℕ) (v w : Outcome) → IsVerdict own b v → IsVerdict own c w → v.tail ≡ [] → w.tail ≡ [] → v.items ≡ w.items → b ≡ c
items_are_one own b c v w p q left right same =
    elim (all_items_by (hand_fault own b) own b v p left) [
      | inl none ↦
          elim (all_items_by (hand_fault own c) own c w q right) [
            | inl other ↦ none.0 ∙ sym other.0
            | inr opened ↦ absurd (none_and_some own c w v opened none.1 (sym same))
          ]
      | inr opened ↦
          elim (all_items_by (hand_fault own c) own c w q right) [
            | inl other ↦ absurd (none_and_some own b v w opened other.1 same)
            | inr second ↦ opened_is_one own b c v w opened second left right same
          ]
    ]

-- ---- the first line that isn't taken

no_front : (x y : List ℕ) → x ++ y ≡ [] → x ≡ []
no_front x y e = nil_from_length x (omega (arith, ap length e, length-append x y))

-- v is the outcome of the bytes, and their items are all of them
record IsAllOf (own : Own) (b : List ℕ) (v : Outcome) : Type 0 where
  verdict : IsVerdict own b v
  nothing_left : v.tail ≡ []

-- the bytes x, which aren't none, are refused where they stand after b, of which v is the outcome: they have no item
record IsRefusedAfter (own : Own) (b x : List ℕ) (v : Outcome) : Type 0 where
  some : x ≡ [] → ⊥
  now : Outcome
  verdict : IsVerdict own (b ++ x) now
  items : now.items ≡ v.items
  refusal : Refusal
  refused : now.refusal ≡ Some refusal

-- bytes that are refused where they stand don't stand in a stream of items
refused_is_last : {own : Own} {b x : List ℕ} {v : Outcome} (y : List ℕ) (last : Outcome) → own.limit < 2 ^ 32 → IsAllOf own b v → IsRefusedAfter own b x v
    → IsAllOf own ((b ++ x) ++ y) last → ⊥
refused_is_last {own} {b} {x} {v} y last lt p r q =
    let w = r.now in
    let stays = verdict_stays own (b ++ x) y w lt r.verdict (rw r.refused refl) in
    let one = verdict_only own ((b ++ x) ++ y) (record w { tail = w.tail ++ y }) last lt stays q.verdict in
    let tail : w.tail ≡ [] = no_front w.tail y (ap (λ (u : Outcome). u.tail) one ∙ q.nothing_left) in
    let bytes : b ≡ b ++ x = items_are_one own b (b ++ x) v w p.verdict r.verdict p.nothing_left tail (sym r.items) in
    r.some (nil_from_length x (omega (arith, ap length bytes, length-append b x)))

-- no line after it is taken
pub stop_is_last : {own : Own} {before : List (List ℕ)} {b c : List ℕ} {v w : Outcome} (line : List ℕ) (more : List (List ℕ)) (reason : ScriptReason)
    → own.limit < 2 ^ 32
    → AreTaken own before b v → IsNotTaken own (is_none before) line b v reason → AreTaken own (before ++ line ∷ more) c w → ⊥
stop_is_last {own} {before} {b} {c} line more Syntax lt p n q =
    let k = named_after own.limit true before line more b c p.named q.named in
    n k.bytes (rw (is_first_none before) at k.named)
stop_is_last {own} {before} {b} {c} {v} {w} line more (Reason reason) lt p n q =
    let k = named_after own.limit true before line more b c p.named q.named in
    let named = rw (is_first_none before) at k.named in
    let same = one_reading (is_none before) line k.bytes n.0 named.line n.1.line in
    let all = rw (k.parts ∙ ap (λ (z : List ℕ). (b ++ z) ++ k.rest) same) at q.verdict in
    let taken : IsAllOf own b v = record { verdict = p.verdict; nothing_left = p.nothing_left } in
    let refused : IsRefusedAfter own b n.0 v = record {
      some = line_some (is_none before) line n.0 n.1.line;
      now = n.2;
      verdict = n.3;
      items = n.4;
      refusal = n.5;
      refused = n.6;
    } in
    refused_is_last k.rest w lt taken refused (record { verdict = all; nothing_left = q.nothing_left })

-- it isn't taken for one reason
pub reason_is_one : (own : Own) (first : Bool) (line b : List ℕ) (v : Outcome) (r s : ScriptReason) → own.limit < 2 ^ 32 → IsNotTaken own first line b v r
    → IsNotTaken own first line b v s → r ≡ s
reason_is_one own first line b v Syntax Syntax lt p q = refl
reason_is_one own first line b v Syntax (Reason s) lt p q = absurd (p q.0 q.1)
reason_is_one own first line b v (Reason r) Syntax lt p q = absurd (q p.0 p.1)
reason_is_one own first line b v (Reason r) (Reason s) lt p q =
    let bytes = one_reading first line p.0 q.0 p.1.line q.1.line in
    let one : p.2 ≡ q.2 = verdict_only own (b ++ p.0) p.2 q.2 lt p.3 (rw (sym bytes) at q.3) in
    let both : Some p.5 ≡ Some q.5 = sym p.6 ∙ ap (λ (u : Outcome). u.refusal) one ∙ q.6 in
    let same : p.5 ≡ q.5 = cc both in
    ap Reason (p.7 ∙ ap (λ (k : Refusal). k.reason) same ∙ sym q.7)

-- the shorter of two fronts of a list is the other, or its next line is in the other
record IsLonger (ks ls : List (List ℕ)) (k : List ℕ) : Type 0 where
  more : List (List ℕ)
  list : ls ≡ ks ++ k ∷ more

fronts : (ks ls : List (List ℕ)) (k l : List ℕ) (s t : List (List ℕ)) → ks ++ k ∷ s ≡ ls ++ l ∷ t → length ks ≤ length ls → ((ks ≡ ls) × (k ≡ l))
    ⊎ IsLonger ks ls k
fronts [] [] k l s t e le = inl (refl, cc e)
fronts [] (y ∷ ys) k l s t e le = inr (let first : k ≡ y = cc e in record { more = ys; list = ap (λ (z : List ℕ). z ∷ ys) (sym first) })
fronts (x ∷ xs) [] k l s t e le = absurd (omega arith)
fronts (x ∷ xs) (y ∷ ys) k l s t e le =
    let first : x ≡ y = cc e in
    let others : xs ++ k ∷ s ≡ ys ++ l ∷ t = cc e in
    elim (fronts xs ys k l s t others (omega arith)) [
      | inl same ↦ inl (ap (λ (z : List ℕ). z ∷ xs) first ∙ ap (λ (z : List (List ℕ)). y ∷ z) same.0, same.1)
      | inr longer ↦ inr (record { more = longer.more; list = ap (λ (z : List ℕ). z ∷ ys) (sym first) ∙ ap (λ (z : List (List ℕ)). x ∷ z) longer.list })
    ]

pub record IsSameStop (b c : List ℕ) (m n : ℕ) (r s : ScriptReason) : Type 0 where
  pub bytes : b ≡ c
  pub number : m ≡ n
  pub reason : r ≡ s

same_stop : {own : Own} {all : List (List ℕ)} {b c : List ℕ} {m n : ℕ} {r s : ScriptReason} (p : IsStop own all b m r) (q : IsStop own all c n s)
    → own.limit < 2 ^ 32 → p.before ≡ q.before → p.line ≡ q.line → IsSameStop b c m n r s
same_stop {own} {b} {c} {r} {s} p q lt before line =
    let taken = rw (sym before) at q.taken in
    let bytes : b ≡ c = named_is_one own.limit true p.before b c p.taken.named taken.named in
    let one : p.verdict ≡ q.verdict = verdict_only own b p.verdict q.verdict lt p.taken.verdict (rw (sym bytes) at q.taken.verdict) in
    let other = rw (sym one) at (rw (sym bytes) at (rw (sym line) at (rw (sym before) at q.not_taken))) in
    record {
      bytes = bytes;
      number = omega (arith, p.count, q.count, ap length before);
      reason = reason_is_one own (is_none p.before) p.line b p.verdict r s
          lt p.not_taken other;
    }

stop_by : {own : Own} {all : List (List ℕ)} {b c : List ℕ} {m n : ℕ} {r s : ScriptReason} (p : IsStop own all b m r) (q : IsStop own all c n s)
    → own.limit < 2 ^ 32 → length p.before ≤ length q.before → IsSameStop b c m n r s
stop_by {own} {c} {r} p q lt le =
    elim (fronts p.before q.before p.line q.line p.following q.following (sym p.parts ∙ q.parts) le) [
      | inl same ↦ same_stop p q lt same.0 same.1
      | inr longer ↦
          absurd (stop_is_last p.line longer.more r lt p.taken p.not_taken (rw longer.list at q.taken))
    ]

pub stop_is_one : {own : Own} {all : List (List ℕ)} {b c : List ℕ} {m n : ℕ} {r s : ScriptReason} → own.limit < 2 ^ 32 → IsStop own all b m r
    → IsStop own all c n s → IsSameStop b c m n r s
stop_is_one lt p q =
    elim (cases_lt (length q.before) (length p.before)) [
      | inl longer ↦ let k = stop_by q p lt (omega arith) in record { bytes = sym k.bytes; number = sym k.number; reason = sym k.reason }
      | inr le ↦ stop_by p q lt le
    ]

-- ---- the whole result of packing

stop_has_lines : (own : Own) (all : List (List ℕ)) (b : List ℕ) (m : ℕ) (r : ScriptReason) → IsStop own all b m r → all ≡ [] → ⊥
stop_has_lines own all b m r p none = absurd (omega (arith, ap length (sym p.parts ∙ none), length-append p.before (p.line ∷ p.following)))

some_has_lines : (all : List (List ℕ)) → is_none all ≡ false → all ≡ [] → ⊥
some_has_lines all some none = let k : true ≡ false = sym (ap is_none none) ∙ some in absurd (cc k)

stop_takes_none : (own : Own) (all : List (List ℕ)) (b c : List ℕ) (w : Outcome) (m : ℕ) (r : ScriptReason) → own.limit < 2 ^ 32 → IsStop own all b m r
    → AreTaken own all c w → ⊥
stop_takes_none own all b c w m r lt p q =
    stop_is_last p.line p.following r lt p.taken p.not_taken (rw p.parts at q)

pub taken_is_one : (own : Own) (all : List (List ℕ)) (b c : List ℕ) (v w : Outcome) → own.limit < 2 ^ 32 → AreTaken own all b v → AreTaken own all c w
    → (b ≡ c) × (v ≡ w)
taken_is_one own all b c v w lt p q =
    let bytes : b ≡ c = named_is_one own.limit true all b c p.named q.named in
    (bytes, verdict_only own b v w lt p.verdict (rw (sym bytes) at q.verdict))

pub pack_is_one : (own : Own) (all : List (List ℕ)) (b c : List ℕ) (e f : PackEnd) → own.limit < 2 ^ 32 → IsPacked own all b e → IsPacked own all c f
    → (b ≡ c) × (e ≡ f)
pack_is_one own all b c e f lt (empty none left is) (empty none' right was) = (left ∙ sym right, is ∙ sym was)
pack_is_one own all b c e f lt (empty none left is) (stopped n s q was) = absurd (stop_has_lines own all c n s q none)
pack_is_one own all b c e f lt (empty none left is) (accepted w some q was) = absurd (some_has_lines all some none)
pack_is_one own all b c e f lt (stopped m r p is) (empty none right was) = absurd (stop_has_lines own all b m r p none)
pack_is_one own all b c e f lt (stopped m r p is) (stopped n s q was) =
    let k = stop_is_one lt p q in
    (k.bytes, is ∙ ap (λ (z : ℕ). Refused z r) k.number ∙ ap (λ (z : ScriptReason). Refused n z) k.reason ∙ sym was)
pack_is_one own all b c e f lt (stopped m r p is) (accepted w some q was) = absurd (stop_takes_none own all b c w m r lt p q)
pack_is_one own all b c e f lt (accepted v some p is) (empty none right was) = absurd (some_has_lines all some none)
pack_is_one own all b c e f lt (accepted v some p is) (stopped n s q was) = absurd (stop_takes_none own all c b v n s lt q p)
pack_is_one own all b c e f lt (accepted v some p is) (accepted w some' q was) =
    let k = taken_is_one own all b c v w lt p q in
    (k.0, is ∙ ap (λ (u : Outcome). Accepted (u.number - 1) (length b)) k.1 ∙ ap (λ (z : List ℕ). Accepted (w.number - 1) (length z)) k.0 ∙ sym was)
