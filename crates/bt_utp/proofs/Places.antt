-- Where the connections stand in a table.
use Rattle.std.proofs.Common.{◌≡◌, ℕ, ◌+◌, ◌%◌, Bool, true, ◌&&◌, nat_lt, if◌then◌else◌, Option, Some, None}
use Rattle.std.proofs.Common.{refl, sym, ◌∙◌, ap, subst, arith, ◌⊎◌, inl, inr}
use Rattle.std.specs.Prelude.{◌==◌}
use Rattle.std.specs.Option.{option_or, option_map}
use Rattle.std.proofs.Math.Path.{fun_ext}
use Rattle.std.proofs.lemmas.Bool.{cases_Bool, and_parts, eqb-true, eq-eqb}
use Rattle.bt_packet.specs.declared.address.Address.{Address}
use Rattle.bt_packet.specs.declared.utp.UtpKind.{UtpKind}
use Rattle.bt_packet.specs.declared.utp.UtpKind.TheVariants.{Data, Fin, State, Reset, Syn}
use Rattle.bt_packet.specs.Utp.{UtpPacket}
use Rattle.bt_packet.specs.contracts.address.AddressEq.TheImpl.Laws as address_laws
use Rattle.bt_utp.specs.declared.connection.Connection.{Connection}
use Rattle.bt_utp.specs.declared.links.Links.{Links}
use Rattle.bt_utp.specs.Flows.{same_address}
use Rattle.bt_utp.specs.Channels.{Table, is_key, if_number, later, channel_of, found_by, found, begun_by, begin, forget}
use Rattle.bt_utp.specs.Entries.{entry_at, live_in}
use Rattle.bt_utp.specs.Turnings.{view, IsKeyed}
use Rattle.bt_utp.proofs.Ends.{same_is}

pub same_table : (s : Links) (t : Table) → ((a b : Address) (id : ℕ) → option_map (λ e. e.connection) (entry_at s.entries a b id) ≡ t.at a b id)
    → live_in s.entries ≡ t.live → s.begun ≡ t.begun → view s ≡ t
same_table s t at live begun =
    let f : (view s).at ≡ t.at = fun_ext (λ a. fun_ext (λ b. fun_ext (λ id. at a b id))) in
    let first : view s ≡ record (view s) { at = t.at } = ap (λ g. record (view s) { at = g }) f in
    let second : record (view s) { at = t.at } ≡ record t { begun = s.begun } = ap (λ n. record t { live = n; begun = s.begun }) live in
    let third : record t { begun = s.begun } ≡ t = ap (λ n. record t { begun = n }) begun in
    first ∙ second ∙ third

pub key_same : (a b : Address) (id : ℕ) (x y : Address) (i : ℕ) → is_key a b id x y i ≡ true → (a ≡ x) × (b ≡ y) × (id ≡ i)
key_same a b id x y i h =
    let p = and_parts (same_address a x) (same_address b y && (id == i)) h in
    let q = and_parts (same_address b y) (id == i) p.1 in
    (same_is a x p.0, same_is b y q.0, eqb-true id i q.1)

abbrev pub AreKeyed : Table → Type 0
AreKeyed t = (a b : Address) (id : ℕ) (c : Connection) → t.at a b id ≡ Some c → IsKeyed t a b id c

-- If it is there, it is where its SYN says.
abbrev IsPlaced : Table → Option Connection → Type 0
IsPlaced t o = (c : Connection) → o ≡ Some c → t.at c.initiator c.acceptor c.id ≡ Some c

module _ (t : Table) (keyed : AreKeyed t) where
  at_placed : (a b : Address) (id : ℕ) → IsPlaced t (t.at a b id)
  at_placed a b id c h =
      let k = keyed a b id c h in
      ap (λ x. t.at x c.acceptor c.id) k.initiator ∙ ap (λ y. t.at a y c.id) k.acceptor ∙ ap (t.at a b) k.has_id ∙ h

  later_placed : (p q : Option Connection) → IsPlaced t p → IsPlaced t q → IsPlaced t (later p q)
  later_placed None q h g = g
  later_placed (Some c) None h g = h
  later_placed (Some c) (Some e) h g = elim (cases_Bool (nat_lt c.number e.number)) [
    | inl y ↦ subst (λ b. IsPlaced t (if b then Some e else Some c)) (sym y) g
    | inr n ↦ subst (λ b. IsPlaced t (if b then Some e else Some c)) (sym n) h
  ]

  or_placed : (p q : Option Connection) → IsPlaced t p → IsPlaced t q → IsPlaced t (option_or p q)
  or_placed None q h g = g
  or_placed (Some c) q h g = h

  number_placed : (n : ℕ) (p : Option Connection) → IsPlaced t p → IsPlaced t (if_number n p)
  number_placed n None h = h
  number_placed n (Some c) h = elim (cases_Bool (c.syn == n)) [
    | inl y ↦ subst (λ b. IsPlaced t (if b then Some c else None)) (sym y) h
    | inr m ↦ subst (λ b. IsPlaced t (if b then Some c else None)) (sym m) (λ e f. cc)
  ]

  channel_placed : (source target : Address) (id : ℕ) → IsPlaced t (channel_of t source target id)
  channel_placed source target id =
      let own = (id + 65535) % 65536 in
      later_placed (t.at source target own) (t.at target source id) (at_placed source target own) (at_placed target source id)

  by_kind : (k : UtpKind) (d : UtpPacket) → IsPlaced t (found_by k t d)
  by_kind Data d = channel_placed d.source d.target d.id
  by_kind Fin d = channel_placed d.source d.target d.id
  by_kind State d = channel_placed d.source d.target d.id
  by_kind Reset d =
      or_placed (channel_of t d.source d.target d.id) (channel_of t d.target d.source d.id) (channel_placed d.source d.target d.id)
      (channel_placed d.target d.source d.id)
  by_kind Syn d = number_placed d.number (t.at d.source d.target d.id) (at_placed d.source d.target d.id)

  pub found_placed : (d : UtpPacket) → IsPlaced t (found t d)
  found_placed d = by_kind d.kind d

both_true : (p q r : Bool) → p ≡ true → q ≡ true → r ≡ true → (p && (q && r)) ≡ true
both_true p q r e f g = rw (e, f, g) refl

pub key_self : (a b : Address) (id : ℕ) → is_key a b id a b id ≡ true
key_self a b id =
    both_true (same_address a a) (same_address b b) (id == id) (address_laws.laws-law.refl a) (address_laws.laws-law.refl b) (eq-eqb id id refl)

-- ---- after a connection began

-- what is there is new, or was there
pub which : (t : Table) (d : UtpPacket) (a b : Address) (id : ℕ) (c : Connection) → (begin t d).at a b id ≡ Some c
    → ((is_key d.source d.target d.id a b id ≡ true) × (c ≡ begun_by t.begun d)) ⊎ (t.at a b id ≡ Some c)
which t d a b id c h = elim (cases_Bool (is_key d.source d.target d.id a b id)) [
  | inl y ↦
      let e : Some (begun_by t.begun d) ≡ Some c = sym (ap (λ z. if z then Some (begun_by t.begun d) else t.at a b id) y) ∙ h in
      inl (y, (let f : begun_by t.begun d ≡ c = cc in sym f))
  | inr m ↦ inr (sym (ap (λ z. if z then Some (begun_by t.begun d) else t.at a b id) m) ∙ h)
]

pub begun_keyed : (t : Table) (d : UtpPacket) → AreKeyed t → AreKeyed (begin t d)
begun_keyed t d keyed a b id c h = elim (which t d a b id c h) [
  | inl p ↦
      let q = key_same d.source d.target d.id a b id p.0 in
      record {
        initiator = ap (λ c. c.initiator) p.1 ∙ q.0;
        acceptor = ap (λ c. c.acceptor) p.1 ∙ q.1;
        has_id = ap (λ c. c.id) p.1 ∙ q.2;
        begun = let e : c.number ≡ t.begun = ap (λ c. c.number) p.1 in omega (arith, e);
      }
  | inr p ↦
      let k = keyed a b id c p in
      record { initiator = k.initiator; acceptor = k.acceptor; has_id = k.has_id; begun = omega (arith, k.begun) }
]

abbrev pub AreApart : Table → Type 0
AreApart t = (a b : Address) (id : ℕ) (c : Connection) (a' b' : Address) (id' : ℕ) (c' : Connection)
    → t.at a b id ≡ Some c → t.at a' b' id' ≡ Some c' → c.number ≡ c'.number → c ≡ c'

pub begun_apart : (t : Table) (d : UtpPacket) → AreKeyed t → AreApart t → AreApart (begin t d)
begun_apart t d keyed apart a b id c a' b' id' c' h h' e = elim (which t d a b id c h) [
  | inl p ↦
      let f : c.number ≡ t.begun = ap (λ c. c.number) p.1 in
      elim (which t d a' b' id' c' h') [
        | inl q ↦ p.1 ∙ sym q.1
        | inr q ↦ let k = (keyed a' b' id' c' q).begun in absurd (omega (arith, e, k, f))
      ]
  | inr p ↦ elim (which t d a' b' id' c' h') [
    | inl q ↦
        let k = (keyed a b id c p).begun in
        let f : c'.number ≡ t.begun = ap (λ c. c.number) q.1 in
        absurd (omega (arith, e, k, f))
    | inr q ↦ apart a b id c a' b' id' c' p q e
  ]
]

-- ---- after one was forgotten

left : (t : Table) (k : Connection) (a b : Address) (id : ℕ) (c : Connection) → (forget t k).at a b id ≡ Some c → t.at a b id ≡ Some c
left t k a b id c h = elim (cases_Bool (is_key k.initiator k.acceptor k.id a b id)) [
  | inl y ↦ let e : None ≡ Some c = sym (ap (λ z. if z then None else t.at a b id) y) ∙ h in cc
  | inr n ↦ sym (ap (λ z. if z then None else t.at a b id) n) ∙ h
]

pub forgotten_keyed : (t : Table) (k : Connection) → AreKeyed t → AreKeyed (forget t k)
forgotten_keyed t k keyed a b id c h =
    let q = keyed a b id c (left t k a b id c h) in
    record { initiator = q.initiator; acceptor = q.acceptor; has_id = q.has_id; begun = q.begun }

pub forgotten_apart : (t : Table) (k : Connection) → AreApart t → AreApart (forget t k)
forgotten_apart t k apart a b id c a' b' id' c' h h' e = apart a b id c a' b' id' c' (left t k a b id c h) (left t k a' b' id' c' h') e
