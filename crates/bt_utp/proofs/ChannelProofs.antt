-- The laws of connections and their channels.
use Rattle.std.proofs.Common.{◌≡◌, ℕ, ◌+◌, ◌-◌, ◌<◌, ◌≤◌, ◌%◌, ◌^◌, Bool, true, false, ◌&&◌, ◌||◌, not, nat_lt, is_some, if◌then◌else◌}
use Rattle.std.proofs.Common.{Option, Some, None, List, [], ◌∷◌}
use Rattle.std.proofs.Common.{refl, sym, ◌∙◌, ap, subst, arith, ◌⊎◌, inl, inr}
use Rattle.std.specs.Prelude.{◌==◌, fold}
use Rattle.std.specs.Option.{option_or}
use Rattle.std.proofs.lemmas.Bool.{cases_Bool, and_parts, and_from, ltb-true, lt-ltb, le-ltb, eq-eqb, ne_eqb}
use Rattle.bt_packet.specs.declared.address.Address.{Address}
use Rattle.bt_packet.specs.declared.utp.UtpKind.{UtpKind}
use Rattle.bt_packet.specs.declared.utp.UtpKind.TheVariants.{Data, Fin, State, Reset, Syn}
use Rattle.bt_packet.specs.Utp.{UtpPacket}
use Rattle.bt_utp.specs.declared.connection.Connection.{Connection}
use Rattle.bt_utp.specs.Flows.{same_address}
use Rattle.bt_utp.specs.Channels.{Table, no_connections, is_syn, is_reset, if_number, syn_again, has_place, later, channel_of, found_by, found, begins}
use Rattle.bt_utp.specs.Channels.{begun_by, begin, connection_of, is_live, forget, after_event, table_of, Event}
use Rattle.bt_utp.specs.Channels.Event.{came, forgot}
use Rattle.bt_utp.specs.ChannelLaws.{IsOnChannel, EachIsOnItsChannel, BothSidesAreFound, OnlySynsBegin, SynAgainBeginsNone}
use Rattle.bt_utp.specs.ChannelLaws.{OtherSynBeginsAnother, ConnectionsAreBounded}
use Rattle.bt_utp.proofs.Places.{AreKeyed, key_self, which, begun_keyed, forgotten_keyed}

-- what holds at first and after each event
module _ (P : Table → Type 0) (packet : (t : Table) (d : UtpPacket) → P t → begins t d ≡ true → P (begin t d))
    (forgets : (t : Table) (c : Connection) → P t → is_live t c ≡ true → P (forget t c)) where
  one_event : (t : Table) (e : Event) → P t → P (after_event t e)
  one_event t (came d) h = elim (cases_Bool (begins t d)) [
    | inl y ↦ subst (λ b. P (if b then begin t d else t)) (sym y) (packet t d h y)
    | inr n ↦ subst (λ b. P (if b then begin t d else t)) (sym n) h
  ]
  one_event t (forgot c) h = elim (cases_Bool (is_live t c)) [
    | inl y ↦ subst (λ b. P (if b then forget t c else t)) (sym y) (forgets t c h y)
    | inr n ↦ subst (λ b. P (if b then forget t c else t)) (sym n) h
  ]

  events : (t : Table) (es : List Event) → P t → P (fold after_event t es)
  events t [] h = h
  events t (e ∷ es) h = events (after_event t e) es (one_event t e h)

keyed_of : (es : List Event) → AreKeyed (table_of es)
keyed_of es = events AreKeyed (λ t d h y. begun_keyed t d h) (λ t c h y. forgotten_keyed t c h) no_connections es (λ a b id c h. cc)

-- ---- a packet is on a channel of its connection

abbrev IsFoundOn : UtpPacket → Option Connection → Type 0
IsFoundOn d o = (c : Connection) → o ≡ Some c → IsOnChannel c d

later_on : (d : UtpPacket) (p q : Option Connection) → IsFoundOn d p → IsFoundOn d q → IsFoundOn d (later p q)
later_on d None q h g = g
later_on d (Some c) None h g = h
later_on d (Some c) (Some e) h g = elim (cases_Bool (nat_lt c.number e.number)) [
  | inl y ↦ subst (λ b. IsFoundOn d (if b then Some e else Some c)) (sym y) g
  | inr n ↦ subst (λ b. IsFoundOn d (if b then Some e else Some c)) (sym n) h
]

next_id : (i j : ℕ) → i < 2 ^ 16 → j ≡ (i + 65535) % 65536 → i ≡ (j + 1) % 2 ^ 16
next_id i j h e = omega (arith, h, e)

channel_on : (t : Table) → AreKeyed t → (d : UtpPacket) → d.id < 2 ^ 16 → IsFoundOn d (channel_of t d.source d.target d.id)
channel_on t keyed d small =
    later_on d (t.at d.source d.target ((d.id + 65535) % 65536)) (t.at d.target d.source d.id)
    (λ c h. let k = keyed d.source d.target ((d.id + 65535) % 65536) c h in
    inl (sym k.initiator, sym k.acceptor, next_id d.id c.id small k.has_id))
    (λ c h. let k = keyed d.target d.source d.id c h in inr (sym k.acceptor, sym k.initiator, sym k.has_id))

kind_on : (k : UtpKind) (t : Table) → AreKeyed t → (d : UtpPacket) → d.id < 2 ^ 16 → is_syn k ≡ false → is_reset k ≡ false → IsFoundOn d (found_by k t d)
kind_on Data t keyed d small s r = channel_on t keyed d small
kind_on Fin t keyed d small s r = channel_on t keyed d small
kind_on State t keyed d small s r = channel_on t keyed d small
kind_on Reset t keyed d small s r = cc
kind_on Syn t keyed d small s r = cc

none_begins : (t : Table) (d : UtpPacket) → is_syn d.kind ≡ false → begins t d ≡ false
none_begins t d h = ap (λ b. b && (not (same_address d.source d.target) && (not (is_some (syn_again t d)) && has_place t d))) h

of_found : (t : Table) (d : UtpPacket) → is_syn d.kind ≡ false → connection_of t d ≡ found t d
of_found t d h = ap (λ b. if b then Some (begun_by t.begun d) else found t d) (none_begins t d h)

pub each_on_its_channel : EachIsOnItsChannel
each_on_its_channel es d c small syn reset h =
    kind_on d.kind (table_of es) (keyed_of es) d small syn reset c (sym (of_found (table_of es) d syn) ∙ h)

-- ---- only a SYN begins

pub only_syns_begin : OnlySynsBegin
only_syns_begin t d h = ap (λ b. if b then begin t d else t) (none_begins t d h)

-- ---- a SYN again

again_is : (t : Table) (d e : UtpPacket) → e.source ≡ d.source → e.target ≡ d.target → e.id ≡ d.id
    → syn_again (begin t d) e ≡ (if d.number == e.number then Some (begun_by t.begun d) else None)
again_is t d e s g i =
    ap (if_number e.number) (ap (λ x. (begin t d).at x e.target e.id) s ∙ ap (λ x. (begin t d).at d.source x e.id) g ∙ ap ((begin t d).at d.source d.target) i
    ∙ ap (λ z. if z then Some (begun_by t.begun d) else t.at d.source d.target d.id) (key_self d.source d.target d.id))

shut : (a b s p : Bool) → s ≡ true → (a && (b && (not s && p))) ≡ false
shut true true true p h = refl
shut true true false p h = cc
shut true false s p h = refl
shut false b s p h = refl

again_none : (t : Table) (d : UtpPacket) → is_some (syn_again t d) ≡ true → begins t d ≡ false
again_none t d h = shut (is_syn d.kind) (not (same_address d.source d.target)) (is_some (syn_again t d)) (has_place t d) h

pub syn_again_begins_none : SynAgainBeginsNone
syn_again_begins_none t d = elim (cases_Bool (begins t d)) [
  | inl y ↦
      let own : syn_again (begin t d) d ≡ Some (begun_by t.begun d) =
      again_is t d d refl refl refl ∙ ap (λ z. if z then Some (begun_by t.begun d) else None) (eq-eqb d.number d.number refl) in
      subst (λ b. begins (if b then begin t d else t) d ≡ false) (sym y) (again_none (begin t d) d (ap is_some own))
  | inr n ↦ subst (λ b. begins (if b then begin t d else t) d ≡ false) (sym n) n
]

-- what a SYN that begins a connection is
abbrev MayBegin : Table → UtpPacket → Type 0
MayBegin t d = (is_syn d.kind ≡ true) × (not (same_address d.source d.target) ≡ true) × (not (is_some (syn_again t d)) ≡ true) × (has_place t d ≡ true)

parts : (t : Table) (d : UtpPacket) → begins t d ≡ true → MayBegin t d
parts t d h =
    let p = and_parts (is_syn d.kind) (not (same_address d.source d.target) && (not (is_some (syn_again t d)) && has_place t d)) h in
    let q = and_parts (not (same_address d.source d.target)) (not (is_some (syn_again t d)) && has_place t d) p.1 in
    let r = and_parts (not (is_some (syn_again t d))) (has_place t d) q.1 in
    (p.0, q.0, r.0, r.1)

together : (a b s p : Bool) → a ≡ true → b ≡ true → s ≡ true → p ≡ true → (a && (b && (s && p))) ≡ true
together a b s p e f g h = rw (e, f, g, h) refl

or_left : (a b : Bool) → a ≡ true → (a || b) ≡ true
or_left a b h = rw h refl

pub other_syn_begins_another : OtherSynBeginsAnother
other_syn_begins_another t d e y syn s g i other room =
    let again : syn_again (begin t d) e ≡ None =
    again_is t d e s g i ∙ ap (λ z. if z then Some (begun_by t.begun d) else None) (ne_eqb d.number e.number other) in
    let apart : not (same_address e.source e.target) ≡ true =
    ap (λ x. not (same_address x e.target)) s ∙ ap (λ x. not (same_address d.source x)) g ∙ (parts t d y).1 in
    let there : is_some ((begin t d).at e.source e.target e.id) ≡ true =
    ap is_some (ap (λ x. (begin t d).at x e.target e.id) s ∙ ap (λ x. (begin t d).at d.source x e.id) g ∙ ap ((begin t d).at d.source d.target) i
    ∙ ap (λ z. if z then Some (begun_by t.begun d) else t.at d.source d.target d.id) (key_self d.source d.target d.id)) in
    let place : has_place (begin t d) e ≡ true =
    and_from (nat_lt (t.begun + 1) (2 ^ 64 - 1)) (is_some ((begin t d).at e.source e.target e.id) || nat_lt (begin t d).live 65536)
    (lt-ltb (t.begun + 1) (2 ^ 64 - 1) room) (or_left (is_some ((begin t d).at e.source e.target e.id)) (nat_lt (begin t d).live 65536) there) in
    let does : begins (begin t d) e ≡ true =
    together (is_syn e.kind) (not (same_address e.source e.target)) (not (is_some (syn_again (begin t d) e))) (has_place (begin t d) e)
    syn apart (ap (λ o. not (is_some o)) again) place in
    subst (λ b. connection_of (if b then begin t d else t) e ≡ Some (begun_by (t.begun + 1) e)) (sym y)
    (ap (λ b. if b then Some (begun_by (t.begun + 1) e) else found (begin t d) e) does)

-- ---- there is room

abbrev IsBounded : Table → Type 0
IsBounded t = t.live ≤ 65536

bounded_by : (here : Bool) (begun live : ℕ) → live ≤ 65536 → (nat_lt begun (2 ^ 64 - 1) && (here || nat_lt live 65536)) ≡ true
    → (if here then live else live + 1) ≤ 65536
bounded_by true begun live h g = h
bounded_by false begun live h g =
    let less = ltb-true live 65536 (and_parts (nat_lt begun (2 ^ 64 - 1)) (nat_lt live 65536) g).1 in
    omega (arith, less)

pub connections_bounded : ConnectionsAreBounded
connections_bounded es =
    events IsBounded (λ t d h y. bounded_by (is_some (t.at d.source d.target d.id)) t.begun t.live h (parts t d y).3)
    (λ t c h y. omega (arith, h)) no_connections es (omega arith)

-- ---- both sides are found

abbrev IsNoLater : Connection → Option Connection → Type 0
IsNoLater c q = (x : Connection) → q ≡ Some x → (x ≡ c) ⊎ (x.number < c.number)

before_it : (c : Connection) (q : Option Connection) → IsNoLater c q → later (Some c) q ≡ Some c
before_it c None h = refl
before_it c (Some x) h = elim (h x refl) [
  | inl e ↦ elim (cases_Bool (nat_lt c.number x.number)) [
    | inl y ↦ ap (λ b. if b then Some x else Some c) y ∙ ap Some e
    | inr n ↦ ap (λ b. if b then Some x else Some c) n
  ]
  | inr l ↦ ap (λ b. if b then Some x else Some c) (le-ltb c.number x.number (omega (arith, l)))
]

after_it : (c : Connection) (q : Option Connection) → IsNoLater c q → later q (Some c) ≡ Some c
after_it c None h = refl
after_it c (Some x) h = elim (h x refl) [
  | inl e ↦ elim (cases_Bool (nat_lt x.number c.number)) [
    | inl y ↦ ap (λ b. if b then Some c else Some x) y
    | inr n ↦ ap (λ b. if b then Some c else Some x) n ∙ ap Some e
  ]
  | inr l ↦ ap (λ b. if b then Some c else Some x) (lt-ltb x.number c.number l)
]

last_id : (i j : ℕ) → j < 2 ^ 16 → i ≡ (j + 1) % 2 ^ 16 → (i + 65535) % 65536 ≡ j
last_id i j h e = omega (arith, h, e)

module _ (t : Table) (keyed : AreKeyed t) (d e : UtpPacket) (small : d.id < 2 ^ 16) where
  no_later : (a b : Address) (id : ℕ) → IsNoLater (begun_by t.begun d) ((begin t d).at a b id)
  no_later a b id x h = elim (which t d a b id x h) [
    | inl p ↦ inl p.1
    | inr p ↦ inr (keyed a b id x p).begun
  ]

  here : (a b : Address) (id : ℕ) → a ≡ d.source → b ≡ d.target → id ≡ d.id → (begin t d).at a b id ≡ Some (begun_by t.begun d)
  here a b id f g h =
      ap (λ x. (begin t d).at x b id) f ∙ ap (λ x. (begin t d).at d.source x id) g ∙ ap ((begin t d).at d.source d.target) h
      ∙ ap (λ z. if z then Some (begun_by t.begun d) else t.at d.source d.target d.id) (key_self d.source d.target d.id)

  on_channel : IsOnChannel (begun_by t.begun d) e → channel_of (begin t d) e.source e.target e.id ≡ Some (begun_by t.begun d)
  on_channel (inl p) =
      ap (λ o. later o ((begin t d).at e.target e.source e.id))
      (here e.source e.target ((e.id + 65535) % 65536) p.0 p.1 (last_id e.id d.id small p.2))
      ∙ before_it (begun_by t.begun d) ((begin t d).at e.target e.source e.id) (no_later e.target e.source e.id)
  on_channel (inr p) =
      ap (later ((begin t d).at e.source e.target ((e.id + 65535) % 65536))) (here e.target e.source e.id p.1 p.0 p.2)
      ∙ after_it (begun_by t.begun d) ((begin t d).at e.source e.target ((e.id + 65535) % 65536)) (no_later e.source e.target ((e.id + 65535) % 65536))

of_kind : (k : UtpKind) (t : Table) (d : UtpPacket) (c : Connection) → is_syn k ≡ false → channel_of t d.source d.target d.id ≡ Some c → found_by k t d ≡ Some c
of_kind Data t d c s h = h
of_kind Fin t d c s h = h
of_kind State t d c s h = h
of_kind Reset t d c s h = ap (λ o. option_or o (channel_of t d.target d.source d.id)) h
of_kind Syn t d c s h = cc

pub both_sides_found : BothSidesAreFound
both_sides_found es d e y small syn on =
    let own = of_kind e.kind (begin (table_of es) d) e (begun_by (table_of es).begun d) syn (on_channel (table_of es) (keyed_of es) d e small on) in
    subst (λ b. connection_of (if b then begin (table_of es) d else table_of es) e ≡ Some (begun_by (table_of es).begun d)) (sym y)
    (of_found (begin (table_of es) d) e syn ∙ own)
