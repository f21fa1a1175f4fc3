-- What an end says.
use Rattle.std.proofs.Common.{◌≡◌, ℕ, ◌+◌, ◌≤◌, Bool, true, false, ◌||◌, ◌&&◌, if◌then◌else◌, nat_le, List, [], ◌∷◌, ◌++◌, length, Option, None, Some}
use Rattle.std.proofs.Common.{Result, Ok, Err, refl, sym, ap, subst, ◌∙◌, arith, inl, inr, length-append, append-nil}
use Rattle.std.specs.Prelude.{is_some, is_none, unwrap_or}
use Rattle.bt_ext.specs.Ids.{donthave_id}
use Rattle.bt_ext.specs.Payloads.{index_bytes}
use Rattle.bt_ext.specs.declared.ext.Ext.TheVariants as ext
use Rattle.bt_wire.specs.declared.context.Context.{Context}
use Rattle.bt_wire.specs.declared.context.Order.{Order}
use Rattle.bt_wire.specs.Messages.{Message}
use Rattle.bt_wire.specs.Legal.{IsLegal}
use Rattle.bt_wire.specs.Messages.{body, spell}
use Rattle.bt_wire.specs.declared.message.Message.TheVariants as m
use Rattle.bt_wire.specs.Numbers.{be32}
use Rattle.bt_feed.specs.Answers.{standing}
use Rattle.bt_end.specs.Ends.{EndState, belief, queueing}
use Rattle.bt_end.specs.Halves.{HalfState, high_water, unsaid, is_own_made, tells_pieces, reacted, IsSaid}
use Rattle.bt_end.specs.declared.end.SayError.{SayError}
use Rattle.bt_end.specs.declared.end.SayError.TheVariants as say_error
use Rattle.bt_end.specs.Reactors.{end_of, IsSame, IsPut, IsSpoken}
use Rattle.bt_end.specs.Parts.{framed}
use Rattle.bt_end.specs.Wholes.{half_of}
use Rattle.bt_end.specs.declared.end.End.TheInside.{Inside}
use Rattle.bt_end.specs.declared.reactor.Reactor.{Reactor}
use Rattle.bt_end.proofs.Turns.{same_half}

pub length_put : (old new : List ℕ) (c : Context) (o : Order) (msg : Message) → new ≡ old ++ spell c msg → IsLegal c o msg
    → length new ≤ length old + (4 + c.limit)
length_put old new c o msg e h =
    omega (arith, ap (length {A = ℕ}) e, length-append old (spell c msg), length-append (be32 (length (body c msg))) (body c msg), h.short)

-- a message that takes back a piece, under an id that the peer told
taken_bytes : (c : Context) (id i : ℕ) → donthave_id c.reg ≡ Some id → spell c (m.Extended (ext.DontHave i)) ≡ framed id (index_bytes i)
taken_bytes c id i is =
    let long : length (20 ∷ id ∷ index_bytes i) ≡ 2 + length (index_bytes i) = omega arith in
    ap (λ (o : Option ℕ). be32 (length (20 ∷ unwrap_or o 0 ∷ index_bytes i)) ++ 20 ∷ unwrap_or o 0 ∷ index_bytes i) is
    ∙ ap (λ (n : ℕ). be32 n ++ 20 ∷ id ∷ index_bytes i) long

pub taken_back : {A : Type 0} → (old new : Reactor A) (id i : ℕ) → end_of new ≡ end_of old
    → new.outbox.bytes ≡ old.outbox.bytes ++ framed id (index_bytes i) → donthave_id (belief (end_of old)).reg ≡ Some id
    → IsLegal (belief (end_of old)) old.sends (m.Extended (ext.DontHave i)) → IsPut old new (m.Extended (ext.DontHave i))
taken_back old new id i same bytes is legal =
    let c : Context = belief (end_of old) in
    let queued = bytes ∙ ap (λ (xs : List ℕ). old.outbox.bytes ++ xs) (sym (taken_bytes c id i is)) in
    record {
      end = same;
      queued = queued;
      legal = legal;
      bound = length_put old.outbox.bytes new.outbox.bytes c old.sends (m.Extended (ext.DontHave i)) queued legal;
    }

-- ---- why nothing is said

is_judged : Option SayError → Bool
is_judged None = false
is_judged (Some say_error.NotOpen) = false
is_judged (Some say_error.Busy) = false
is_judged (Some say_error.Extended) = false
is_judged (Some say_error.PiecesUnknown) = false
is_judged (Some (say_error.Illegal f)) = true
is_judged (Some say_error.Memory) = true

unjudged_by : (s t u v : Bool) →
    is_judged (if s then Some say_error.NotOpen else (if t then Some say_error.Busy else
    (if u then Some say_error.Extended else (if v then Some say_error.PiecesUnknown else None)))) ≡ false
unfolding is_judged
unjudged_by true t u v = refl
unjudged_by false true u v = refl
unjudged_by false false true v = refl
unjudged_by false false false true = refl
unjudged_by false false false false = refl

unjudged : (e : EndState) (refused : Bool) (n : ℕ) (msg : Message) → is_judged (unsaid e refused n msg) ≡ false
unjudged e refused n msg = unjudged_by (is_none e.context || refused) (nat_le high_water n) (is_own_made msg) (tells_pieces e msg && is_none e.own.pieces)

-- ---- the clauses

same_saying : {A : Type 0} → (old : Inside A) (new : Reactor A) → IsSame old.reactor new → half_of (record { feed = old.feed; reactor = new }) ≡ half_of old
same_saying old new s = same_half (end_of new) (end_of old.reactor) old.feed old.feed new.outbox.bytes old.reactor.outbox.bytes s.end refl s.bytes

said_ok : {A : Type 0} → (old : Inside A) (new : Reactor A) (msg : Message) → IsPut old.reactor new msg
    → half_of (record { feed = old.feed; reactor = new }) ≡ reacted (half_of old) (queueing (end_of old.reactor) (msg ∷ []))
said_ok old new msg p =
    let e = (queueing (end_of old.reactor) (msg ∷ [])).end in
    let bytes = old.reactor.outbox.bytes in
    let one = spell (belief (end_of old.reactor)) msg in
    same_half (end_of new) e old.feed old.feed new.outbox.bytes (bytes ++ (one ++ [])) p.end refl (p.queued
    ∙ ap (λ (xs : List ℕ). bytes ++ xs) (sym (append-nil one)))

said_inside : {A : Type 0} → (old : Inside A) (msg : Message) (result : Result Unit SayError) (new : Reactor A)
    → IsSpoken old.reactor (is_some (standing old.feed)) msg result new →
    IsSaid (half_of old) msg result (half_of (record { feed = old.feed; reactor = new }))
unfolding is_judged
said_inside old msg (Ok x) new h = ((h.0, h.1.legal), said_ok old new msg h.1)
said_inside old msg (Err say_error.NotOpen) new (s, inl e) = (e, same_saying old new s)
said_inside old msg (Err say_error.NotOpen) new (s, inr e) = absurd e.1
said_inside old msg (Err say_error.Busy) new (s, inl e) = (e, same_saying old new s)
said_inside old msg (Err say_error.Busy) new (s, inr e) = absurd e.1
said_inside old msg (Err say_error.Extended) new (s, inl e) = (e, same_saying old new s)
said_inside old msg (Err say_error.Extended) new (s, inr e) = absurd e.1
said_inside old msg (Err say_error.PiecesUnknown) new (s, inl e) = (e, same_saying old new s)
said_inside old msg (Err say_error.PiecesUnknown) new (s, inr e) = absurd e.1
said_inside old msg (Err (say_error.Illegal f)) new (s, inl e) =
    let b : true ≡ false = sym (ap is_judged e) ∙ unjudged (end_of old.reactor) (is_some (standing old.feed)) (length old.reactor.outbox.bytes) msg in absurd cc
said_inside old msg (Err (say_error.Illegal f)) new (s, inr e) = (e.0, e.1.0, same_saying old new s)
said_inside old msg (Err say_error.Memory) new (s, inl e) =
    let b : true ≡ false = sym (ap is_judged e) ∙ unjudged (end_of old.reactor) (is_some (standing old.feed)) (length old.reactor.outbox.bytes) msg in absurd cc
said_inside old msg (Err say_error.Memory) new (s, inr e) = ((e.0, e.1.0), same_saying old new s)

pub said : {A : Type 0} → (old : Inside A) (a : HalfState) (refused : Bool) (msg : Message) (result : Result Unit SayError) (new : Reactor A) → half_of old
    ≡ a → refused ≡ is_some (standing old.feed) →
    IsSpoken old.reactor refused msg result new → IsSaid a msg result (half_of (record { feed = old.feed; reactor = new }))
said old a refused msg result new v r h =
    subst (λ (x : HalfState). IsSaid x msg result (half_of (record { feed = old.feed; reactor = new }))) v
    (said_inside old msg result new (subst (λ (t : Bool). IsSpoken old.reactor t msg result new) r h))
