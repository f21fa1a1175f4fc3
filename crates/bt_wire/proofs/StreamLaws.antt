-- The outcome of messages: there is one, and its items stay whatever follows.
use Rattle.std.proofs.Common.{◌≡◌, ℕ, suc, ◌+◌, ◌^◌, ◌≤◌, ◌<◌, true, false, List, [], ◌∷◌, ◌++◌, length, Option, Some, None, refl, sym, ap, subst, ◌∙◌, arith}
use Rattle.std.proofs.lemmas.List.{append-nil, append_assoc, length-append, nil_from_length}
use Rattle.bt_wire.specs.declared.context.Context.{Context}
use Rattle.bt_wire.specs.declared.context.Order.{Order}
use Rattle.bt_wire.specs.declared.fault.Refused.{Refused}
use Rattle.bt_wire.specs.declared.item.Item.{Item}
use Rattle.bt_wire.specs.declared.item.Item.TheVariants as items
use Rattle.bt_wire.specs.declared.item.Refusal.{Refusal}
use Rattle.bt_wire.specs.Messages.{Message}
use Rattle.bt_wire.specs.Messages.{spell, order_after}
use Rattle.bt_wire.specs.Faults.{is_whole, IsFault}
use Rattle.bt_wire.specs.Legal.{IsSaid}
use Rattle.bt_wire.specs.Streams.{Says, Begins, IsLongest, orders_after, placed, Outcome, IsOutcome, refusal_at, with_item}
use Rattle.bt_wire.proofs.SpellLaws.{fits, spelled_first, none_begins}
use Rattle.bt_wire.proofs.WindowLaws.{fault-spell, one_fault, fault_stays}

-- no message is read at b: it has a fault, or isn't whole
pub record IsStop (c : Context) (o : Order) (s : ℕ) (b : List ℕ) (f : Option Refused) : Type 0 where
  pub fault : IsFault c o s b f
  pub part : f ≡ None → is_whole b ≡ false

-- ---- the first of several messages

pub record IsFirst (c : Context) (o : Order) (s : ℕ) (b : List ℕ) (m : Message) (ms : List Message) (r : List ℕ) : Type 0 where
  pub said : IsSaid c o s m
  pub rest : List ℕ
  pub parts : b ≡ spell c m ++ (rest ++ r)
  pub says : Says c (order_after o m) (s + length (spell c m)) ms rest

pub first : (c : Context) (o : Order) (s : ℕ) (b : List ℕ) (m : Message) (ms : List Message) (r : List ℕ) → Begins c o s b (m ∷ ms) r → IsFirst c o s b m ms r
first c o s b m ms r h = record {
  said = h.2.0;
  rest = h.2.1.0;
  parts = h.1 ∙ ap (λ (y : List ℕ). y ++ r) h.2.1.1 ∙ append_assoc (spell c m) h.2.1.0 r;
  says = h.2.1.2;
}

said_first : (c : Context) (o : Order) (s : ℕ) (b : List ℕ) (m : Message) (y : List ℕ) → c.limit < 2 ^ 32 → IsSaid c o s m → b ≡ spell c m ++ y
    → IsFault c o s b None × (is_whole b ≡ true)
said_first c o s b m y lt said parts =
    let P : List ℕ → Type 0 = λ z. IsFault c o s z None in
    (subst P (sym parts) (fault-spell c o s m y lt said), ap is_whole parts ∙ (spelled_first c m y (fits c o s m lt said)).whole)

-- nothing is said by bytes where no message is read
pub nothing_begins : (c : Context) (o : Order) (s : ℕ) (b : List ℕ) (f : Option Refused) → c.limit < 2 ^ 32 → IsStop c o s b f
    → (ns : List Message) (t : List ℕ) → Begins c o s b ns t → length ns ≤ 0
nothing_begins c o s b f lt stop [] t h = omega arith
nothing_begins c o s b f lt stop (n ∷ ns) t h =
    let front = first c o s b n ns t h in
    let none = said_first c o s b n (front.rest ++ t) lt front.said front.parts in
    let same : f ≡ None = one_fault c o s b f None stop.fault none.0 in
    absurd (let part = stop.part same in let all = none.1 in cc)

-- ---- outcomes

abbrev pub at_rest : (number : ℕ) (o : Order) (s : ℕ) (b : List ℕ) → Option Refused → Outcome
at_rest number o s b f = record { items = []; refusal = refusal_at number s f; number = number; order = o; start = s; tail = b }

-- no message: the bytes are the tail
pub nothing_said : (c : Context) (o : Order) (s number : ℕ) (b : List ℕ) (f : Option Refused) → c.limit < 2 ^ 32 → IsStop c o s b f
    → IsOutcome c o s number b (at_rest number o s b f)
nothing_said c o s number b f lt stop = record {
  messages = [];
  longest = record { begins = ([], refl, refl); longest = nothing_begins c o s b f lt stop };
  items = refl;
  number_after = omega arith;
  order_after = refl;
  start_after = refl;
  fault = f;
  is_fault = stop.fault;
  refusal = refl;
}

-- the same list first, and then one that isn't longer
longest_with : {c : Context} {o : Order} {s : ℕ} {b tail : List ℕ} {m : Message} {ms : List Message} {r : List ℕ} → c.limit < 2 ^ 32 → IsSaid c o s m
    → b ≡ spell c m ++ tail
    → IsLongest c (order_after o m) (s + length (spell c m)) tail ms r → (ns : List Message) (t : List ℕ) → Begins c o s b ns t → length ns ≤ suc (length ms)
longest_with lt said parts h [] t k = omega arith
longest_with {c} {o} {s} {b} {tail} {m} lt said parts h (n ∷ ns) t k =
    let front = first c o s b n ns t k in
    let same = none_begins (front.rest ++ t) tail lt front.said said (sym front.parts ∙ parts) in
    let P : Message → Type 0 = λ x. Says c (order_after o x) (s + length (spell c x)) ns front.rest in
    omega (arith, h.longest ns t (front.rest, sym same.1, subst P same.0 front.says))

-- one message, and what comes after it
pub message_then : {c : Context} {o : Order} {s number : ℕ} {b tail : List ℕ} {m : Message} {v : Outcome} → c.limit < 2 ^ 32 → IsSaid c o s m
    → b ≡ spell c m ++ tail
    → IsOutcome c (order_after o m) (s + length (spell c m)) (number + 1) tail v → IsOutcome c o s number b (with_item s (items.Message m) v)
message_then {c} {o} {s} {number} {b} {tail} {m} {v} lt said parts h =
    let begins = h.longest.begins in
    record {
      messages = m ∷ h.messages;
      longest = record {
        begins = (
          spell c m ++ begins.0,
          parts ∙ ap (λ (y : List ℕ). spell c m ++ y) begins.1 ∙ sym (append_assoc (spell c m) begins.0 v.tail),
          (said, (begins.0, refl, begins.2)),
        );
        longest = longest_with lt said parts h.longest;
      };
      items = ap (λ (xs : List (ℕ × Item)). (s, items.Message m) ∷ xs) h.items;
      number_after = omega (arith, h.number_after);
      order_after = h.order_after;
      start_after = omega (arith, h.start_after, ap length parts, length-append (spell c m) tail);
      fault = h.fault;
      is_fault = h.is_fault;
      refusal = h.refusal;
    }

-- ---- one outcome

-- the shorter of two lists that the same bytes begin with begins the other
record IsFront (ms ns : List Message) (r t : List ℕ) : Type 0 where
  more : List Message
  list : ns ≡ ms ++ more
  rest : more ≡ [] → r ≡ t

front_list : {r t : List ℕ} (c : Context) (o : Order) (s : ℕ) (ms ns : List Message) (b : List ℕ) → c.limit < 2 ^ 32 → Begins c o s b ms r → Begins c o s b ns t
    → length ms ≤ length ns → IsFront ms ns r t
front_list {r} {t} c o s [] ns b lt p q le = record {
  more = ns;
  list = refl;
  rest = λ e.
      let P : List Message → Type 0 = λ xs. Says c o s xs q.0 in
      let none : q.0 ≡ [] = subst P e q.2 in
      ap (λ (z : List ℕ). z ++ r) (sym p.2) ∙ sym p.1 ∙ q.1 ∙ ap (λ (z : List ℕ). z ++ t) none;
}
front_list c o s (m ∷ ms) [] b lt p q le = absurd (omega arith)
front_list {r} {t} c o s (m ∷ ms) (n ∷ ns) b lt p q le =
    let left = first c o s b m ms r p in
    let right = first c o s b n ns t q in
    let same = none_begins (right.rest ++ t) (left.rest ++ r) lt right.said left.said (sym right.parts ∙ left.parts) in
    let P : Message → Type 0 = λ x. Says c (order_after o x) (s + length (spell c x)) ns right.rest in
    let after = front_list c (order_after o m) (s + length (spell c m)) ms ns (left.rest ++ r) lt (left.rest, refl, left.says) (
      right.rest,
      sym same.1,
      subst P same.0 right.says,
    ) (omega arith) in
    record {
      more = after.more;
      list = ap (λ (x : Message). x ∷ ns) same.0 ∙ ap (λ (xs : List Message). m ∷ xs) after.list;
      rest = after.rest;
    }

no_more : (ms more : List Message) → length (ms ++ more) ≤ length ms → more ≡ []
no_more ms more le = nil_from_length more (omega (arith, length-append ms more))

same_outcome : (v w : Outcome) → v.items ≡ w.items → v.refusal ≡ w.refusal → v.number ≡ w.number → v.order ≡ w.order → v.start ≡ w.start → v.tail ≡ w.tail
    → v ≡ w
same_outcome v w e f g h i j =
    ap (λ (x : List (ℕ × Item)). record v { items = x }) e
    ∙ ap (λ (x : Option Refusal). record w { refusal = x; number = v.number; order = v.order; start = v.start; tail = v.tail }) f
    ∙ ap (λ (x : ℕ). record w { number = x; order = v.order; start = v.start; tail = v.tail }) g
    ∙ ap (λ (x : Order). record w { order = x; start = v.start; tail = v.tail }) h
    ∙ ap (λ (x : ℕ). record w { start = x; tail = v.tail }) i
    ∙ ap (λ (x : List ℕ). record w { tail = x }) j

pub outcome_only : (c : Context) (o : Order) (s number : ℕ) (b : List ℕ) (v w : Outcome) → c.limit < 2 ^ 32 → IsOutcome c o s number b v
    → IsOutcome c o s number b w → v ≡ w
outcome_only c o s number b v w lt p q =
    let first = p.longest.begins in
    let second = q.longest.begins in
    let front = front_list c o s p.messages q.messages b lt first second (q.longest.longest p.messages v.tail first) in
    let none = no_more p.messages front.more (omega (arith, ap length front.list, p.longest.longest q.messages w.tail second)) in
    let list : p.messages ≡ q.messages = sym (front.list ∙ ap (λ (xs : List Message). p.messages ++ xs) none ∙ append-nil p.messages) in
    let tail : v.tail ≡ w.tail = front.rest none in
    let order : v.order ≡ w.order = p.order_after ∙ ap (orders_after o) list ∙ sym q.order_after in
    let start : v.start ≡ w.start = omega (arith, p.start_after, q.start_after, ap length tail) in
    let number : v.number ≡ w.number = omega (arith, p.number_after, q.number_after, ap length list) in
    let P : List ℕ → Type 0 = λ z. IsFault c w.order w.start z q.fault in
    let Q : ℕ → Type 0 = λ z. IsFault c w.order z v.tail q.fault in
    let R : Order → Type 0 = λ z. IsFault c z v.start v.tail q.fault in
    let fault : p.fault ≡ q.fault = one_fault c v.order v.start v.tail p.fault q.fault p.is_fault
    (subst R (sym order) (subst Q (sym start) (subst P (sym tail) q.is_fault))) in
    same_outcome v w (p.items ∙ ap (placed c s) list ∙ sym q.items) (p.refusal ∙ rw (number, start, fault) refl ∙ sym q.refusal) number order start tail

-- ---- whatever follows

more_bytes : (c : Context) (o : Order) (s : ℕ) (b x r : List ℕ) (ms : List Message) → Begins c o s b ms r → Begins c o s (b ++ x) ms (r ++ x)
more_bytes c o s b x r ms h = (h.0, ap (λ (z : List ℕ). z ++ x) h.1 ∙ append_assoc h.0 r x, h.2)

placed-append : (c : Context) (s : ℕ) (ms ns : List Message) → (more : List (ℕ × Item)) × (placed c s (ms ++ ns) ≡ placed c s ms ++ more)
placed-append c s [] ns = (placed c s ns, refl)
placed-append c s (m ∷ ms) ns =
    let rest = placed-append c (s + length (spell c m)) ms ns in
    (rest.0, ap (λ (xs : List (ℕ × Item)). (s, items.Message m) ∷ xs) rest.1)

-- the items are the first of those of more bytes
pub items_stay : (c : Context) (o : Order) (s number : ℕ) (b x : List ℕ) (v w : Outcome) → c.limit < 2 ^ 32 → IsOutcome c o s number b v
    → IsOutcome c o s number (b ++ x) w → (more : List (ℕ × Item)) × (w.items ≡ v.items ++ more)
items_stay c o s number b x v w lt p q =
    let mine = more_bytes c o s b x v.tail p.messages p.longest.begins in
    let front = front_list c o s p.messages q.messages (b ++ x) lt mine q.longest.begins
    (q.longest.longest p.messages (v.tail ++ x) mine) in
    let rest = placed-append c s p.messages front.more in
    (rest.0, q.items ∙ ap (placed c s) front.list ∙ rest.1 ∙ ap (λ (xs : List (ℕ × Item)). xs ++ rest.0) (sym p.items))

-- a list that no message follows is the longest
longest_by : {c : Context} {t : List ℕ} {f : Option Refused} (o : Order) {b : List ℕ} (s : ℕ) (y : List ℕ) (ms : List Message) → c.limit < 2 ^ 32
    → Says c o s ms y → b ≡ y ++ t → IsStop c (orders_after o ms) (s + length y) t f → (ns : List Message) (u : List ℕ) → Begins c o s b ns u
    → length ns ≤ length ms
longest_by {c} {t} {f} o {b} s y [] lt says parts stop ns u k =
    let here : t ≡ b = sym (parts ∙ ap (λ (z : List ℕ). z ++ t) says) in
    let at : s + length y ≡ s = omega (arith, ap length says) in
    let P : List ℕ → Type 0 = λ z. IsStop c o s z f in
    let Q : ℕ → Type 0 = λ z. IsStop c o z t f in
    nothing_begins c o s b f lt (subst P here (subst Q at stop)) ns u k
longest_by o s y (m ∷ ms) lt says parts stop [] u k = omega arith
longest_by {c} {t} {f} o {b} s y (m ∷ ms) lt says parts stop (n ∷ ns) u k =
    let mine = first c o s b m ms t (y, parts, says) in
    let other = first c o s b n ns u k in
    let same = none_begins (other.rest ++ u) (mine.rest ++ t) lt other.said mine.said (sym other.parts ∙ mine.parts) in
    let P : Message → Type 0 = λ x. Says c (order_after o x) (s + length (spell c x)) ns other.rest in
    let at : s + length y ≡ s + length (spell c m) + length mine.rest = omega (
      arith,
      ap length (sym parts ∙ mine.parts),
      length-append y t,
      length-append (spell c m) (mine.rest ++ t),
      length-append mine.rest t,
    ) in
    let Q : ℕ → Type 0 = λ z. IsStop c (orders_after (order_after o m) ms) z t f in
    let shorter = longest_by (order_after o m) (s + length (spell c m)) mine.rest ms lt mine.says refl (subst Q at stop) ns u
    (other.rest, sym same.1, subst P same.0 other.says) in
    omega (arith, shorter)

-- a refusal stays, with the items before it
some_fault : (number start : ℕ) (f : Option Refused) (r : Refusal) → refusal_at number start f ≡ Some r → (g : Refused) × (f ≡ Some g)
some_fault number start None r e = absurd cc
some_fault number start (Some g) r e = (g, refl)

pub refusal_stays : (c : Context) (o : Order) (s number : ℕ) (b x : List ℕ) (v : Outcome) (r : Refusal) → c.limit < 2 ^ 32 → IsOutcome c o s number b v
    → v.refusal ≡ Some r → IsOutcome c o s number (b ++ x) (record v { tail = v.tail ++ x })
refusal_stays c o s number b x v r lt h e =
    let found = some_fault v.number v.start h.fault r (sym h.refusal ∙ e) in
    let begins = h.longest.begins in
    let P : Option Refused → Type 0 = λ z. IsFault c v.order v.start v.tail z in
    let stays : IsFault c v.order v.start (v.tail ++ x) (Some found.0) = fault_stays c v.order v.start v.tail x found.0 (subst P found.1 h.is_fault) in
    let at : v.start ≡ s + length begins.0 = omega (arith, h.start_after, ap length begins.1, length-append begins.0 v.tail) in
    let Q : Order → Type 0 = λ z. IsFault c z v.start (v.tail ++ x) (Some found.0) in
    let R : ℕ → Type 0 = λ z. IsFault c (orders_after o h.messages) z (v.tail ++ x) (Some found.0) in
    let stop : IsStop c (orders_after o h.messages) (s + length begins.0) (v.tail ++ x) (Some found.0) =
    record { fault = subst R at (subst Q h.order_after stays); part = λ z. absurd cc } in
    let parts : b ++ x ≡ begins.0 ++ (v.tail ++ x) = ap (λ (z : List ℕ). z ++ x) begins.1 ∙ append_assoc begins.0 v.tail x in
    record {
      messages = h.messages;
      longest = record {
        begins = (begins.0, parts, begins.2);
        longest = longest_by o s begins.0 h.messages lt
            begins.2 parts stop;
      };
      items = h.items;
      number_after = h.number_after;
      order_after = h.order_after;
      start_after = omega (arith, h.start_after, length-append b x, length-append v.tail x);
      fault = Some found.0;
      is_fault = stays;
      refusal = h.refusal ∙ ap (refusal_at v.number v.start) found.1;
    }
