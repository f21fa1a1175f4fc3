-- Datagrams with the same ends, and with the same id too.
use Rattle.std.proofs.Common.{rules, ◌≡◌, ℕ, Bool, true, false, ◌&&◌, ◌||◌, List, [], ◌∷◌, refl, sym, ◌∙◌, ap, arith, ◌⊎◌, inl, inr}
use Rattle.std.specs.Prelude.{◌==◌}
use Rattle.std.specs.List.{list_any}
use Rattle.std.specs.Cmp.{IsEquivalence}
use Rattle.std.specs.Ordering.{is_eq, ordering_then}
use Rattle.std.specs.declared.cmp.Ordering.{Ordering}
use Rattle.std.specs.declared.cmp.Ordering.TheVariants.{Less, Equal, Greater}
use Rattle.std.proofs.lemmas.Bool.Decides.{nat_tests}
use Rattle.bt_packet.specs.declared.address.Address.{Address}
use Rattle.bt_packet.specs.Utp.{UtpPacket}
use Rattle.bt_packet.specs.contracts.address.AddressEq.TheImpl.Laws as address_laws
use Rattle.bt_packet.specs.contracts.address.AddressOrd.TheImpl as address_ord
use Rattle.bt_packet.specs.contracts.address.AddressOrd.TheImpl.Laws as order_laws
use Rattle.bt_utp.specs.Flows.{same_address, is_from, same_ends, same_id}
use Rattle.bt_utp.specs.States.{order}

pub same_is : (x y : Address) → same_address x y ≡ true → x ≡ y
same_is x y e = search rules

laws : IsEquivalence same_address
laws = address_laws.laws-law

pub address_symm : (x y : Address) → same_address x y ≡ same_address y x
address_symm x y = laws.symm x y

pub order_test : (x y : Address) → is_eq ((address_ord.ghosts).cmp x y) ≡ same_address x y
order_test x y = sym (order_laws.matches_eq-law x y)

pub then_test : (r s : Ordering) → is_eq (ordering_then r s) ≡ (is_eq r && is_eq s)
then_test Less s = refl
then_test Equal s = refl
then_test Greater s = refl

-- Keys are equal exactly if their parts are.
pub key_test : (a b c d : Address) → is_eq (order (a, b) (c, d)) ≡ (same_address a c && same_address b d)
key_test a b c d =
    then_test ((address_ord.ghosts).cmp a c) ((address_ord.ghosts).cmp b d)
    ∙ ap (λ t. t && is_eq ((address_ord.ghosts).cmp b d)) (order_test a c) ∙ ap (λ t. same_address a c && t) (order_test b d)

both : (a b : Bool) → (a && b) ≡ true → (a ≡ true) × (b ≡ true)
both true true h = (refl, refl)
both true false h = cc
both false b h = cc

either : (a b : Bool) → (a || b) ≡ true → (a ≡ true) ⊎ (b ≡ true)
either true b h = inl refl
either false true h = inr refl
either false false h = cc

pub or_comm : (a b : Bool) → (a || b) ≡ (b || a)
or_comm true true = refl
or_comm true false = refl
or_comm false true = refl
or_comm false false = refl

or_first : (a b : Bool) → a ≡ true → (a || b) ≡ true
or_first a b h = ap (λ t. t || b) h

pub from_self : (a : UtpPacket) → is_from a.source a.target a ≡ true
from_self a = ap (λ t. t && same_address a.target a.target) (laws.refl a.source) ∙ laws.refl a.target

pub same_self : (a : UtpPacket) → same_ends a a ≡ true
unfolding same_ends
same_self a = or_first (is_from a.source a.target a) (is_from a.target a.source a) (from_self a)

and_comm : (a b : Bool) → (a && b) ≡ (b && a)
and_comm true true = refl
and_comm true false = refl
and_comm false true = refl
and_comm false false = refl

pub same_symm : (a b : UtpPacket) → same_ends a b ≡ same_ends b a
unfolding same_ends
same_symm a b =
    ap (λ t. (t && same_address a.target b.target) || is_from a.target a.source b) (laws.symm a.source b.source)
    ∙ ap (λ t. (same_address b.source a.source && t) || is_from a.target a.source b) (laws.symm a.target b.target)
    ∙ ap (λ t. is_from b.source b.target a || (t && same_address a.source b.target)) (laws.symm a.target b.source)
    ∙ ap (λ t. is_from b.source b.target a || (same_address b.source a.target && t)) (laws.symm a.source b.target)
    ∙ ap (λ t. is_from b.source b.target a || t) (and_comm (same_address b.source a.target) (same_address b.target a.source))

same_congr : (a b c : UtpPacket) → same_ends a b ≡ true → same_ends a c ≡ same_ends b c
unfolding same_ends
same_congr a b c h = elim (either (is_from a.source a.target b) (is_from a.target a.source b) h) [
  | inl there ↦
      let e = both (same_address a.source b.source) (same_address a.target b.target) there in
      rw (same_is a.source b.source e.0, same_is a.target b.target e.1) refl
  | inr back ↦
      let e = both (same_address a.target b.source) (same_address a.source b.target) back in
      rw (same_is a.target b.source e.0, same_is a.source b.target e.1) (or_comm (is_from b.target b.source c) (is_from b.source b.target c))
]

pub ends_laws : IsEquivalence same_ends
ends_laws = record { refl = same_self; symm = same_symm; congr = same_congr }

eqb_self : (a : ℕ) → (a == a) ≡ true
eqb_self a = grind (arith, nat_tests)

eqb_sym : (a b : ℕ) → (a == b) ≡ (b == a)
eqb_sym a b = grind (arith, nat_tests)

eqb_congr : (a b c : ℕ) → (a == b) ≡ true → (a == c) ≡ (b == c)
eqb_congr a b c h = grind (arith, nat_tests, h)

pub id_laws : IsEquivalence same_id
unfolding same_id
id_laws = record {
  refl = λ a. ap (λ t. t && (a.id == a.id)) (same_self a) ∙ eqb_self a.id;
  symm = λ a b. ap (λ t. t && (a.id == b.id)) (same_symm a b) ∙ ap (λ t. same_ends b a && t) (eqb_sym a.id b.id);
  congr = λ a b c h.
      let e = both (same_ends a b) (a.id == b.id) h in
      ap (λ t. t && (a.id == c.id)) (same_congr a b c e.0) ∙ ap (λ t. same_ends b c && t) (eqb_congr a.id b.id c.id e.1);
}

pub id_ends : (d x : UtpPacket) → same_id d x ≡ true → same_ends d x ≡ true
unfolding same_id
id_ends d x h = (both (same_ends d x) (d.id == x.id) h).0

-- what comes from the one end to the other has the same ends
pub from_ends : (a b : Address) (d : UtpPacket) → a ≡ d.source → b ≡ d.target → (x : UtpPacket) → is_from a b x ≡ true → same_ends d x ≡ true
unfolding same_ends
from_ends a b d e g x h =
    let from = ap (λ c. is_from c d.target x) (sym e) ∙ ap (λ c. is_from a c x) (sym g) ∙ h in
    or_first (is_from d.source d.target x) (is_from d.target d.source x) from

pub back_ends : (d x : UtpPacket) → is_from d.target d.source x ≡ true → same_ends d x ≡ true
unfolding same_ends
back_ends d x h = or_comm (is_from d.source d.target x) (is_from d.target d.source x) ∙ or_first (is_from d.target d.source x) (is_from d.source d.target x) h

none_of_both : (a b : Bool) → a ≡ false → b ≡ false → (a || b) ≡ false
none_of_both true b h g = h
none_of_both false b h g = g

or_shuffle : (a b c d : Bool) → ((a || b) || (c || d)) ≡ ((a || c) || (b || d))
or_shuffle true b c d = refl
or_shuffle false true true d = refl
or_shuffle false true false d = refl
or_shuffle false false c d = refl

split : (d : UtpPacket) (fs : List UtpPacket) → list_any (same_ends d) fs ≡ (list_any (is_from d.source d.target) fs || list_any (is_from d.target d.source) fs)
unfolding same_ends
split d [] = refl
split d (x ∷ fs) =
    ap (λ t. same_ends d x || t) (split d fs)
    ∙ or_shuffle (is_from d.source d.target x) (is_from d.target d.source x) (list_any (is_from d.source d.target) fs) (list_any (is_from d.target d.source) fs)

pub neither_way : (d : UtpPacket) (fs : List UtpPacket) → list_any (is_from d.source d.target) fs ≡ false → list_any (is_from d.target d.source) fs ≡ false
    → list_any (same_ends d) fs ≡ false
neither_way d fs there back = split d fs ∙ none_of_both (list_any (is_from d.source d.target) fs) (list_any (is_from d.target d.source) fs) there back

pub there_ends : (d x : UtpPacket) → is_from d.source d.target x ≡ true → same_ends d x ≡ true
unfolding same_ends
there_ends d x h = or_first (is_from d.source d.target x) (is_from d.target d.source x) h
