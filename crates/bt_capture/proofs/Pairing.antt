-- Both directions of a connection have the same key.
use Rattle.std.proofs.Common.{◌≡◌, ℕ, Bool, true, false, List, refl, sym, ap, subst, cond}
use Rattle.std.specs.Ordering.{is_le, ordering_reverse, nat_cmp}
use Rattle.std.specs.declared.cmp.Ordering.{Ordering}
use Rattle.std.specs.declared.cmp.Ordering.TheVariants.{Less, Equal, Greater}
use Rattle.std.specs.Cmp.{nat_cmp_total}
use Rattle.std.specs.Cmp.Lexicographic.{slice_cmp, lists_total}
use Rattle.std.specs.FinMap.{slice_cmp-IsAntisymmetric, nat_cmp-IsAntisymmetric}
use Rattle.bt_packet.specs.declared.address.Host.{Host}
use Rattle.bt_packet.specs.declared.address.Host.TheVariants.{V4, V6}
use Rattle.bt_packet.specs.declared.address.Address.{Address}
use Rattle.bt_capture.specs.Pairs.{host_key, key_of, is_below, is_first, ends, pair}

equal_both : (r s : Ordering) → r ≡ ordering_reverse s → is_le r ≡ true → is_le s ≡ true → r ≡ Equal
equal_both Less Less e f g = cc
equal_both Less Equal e f g = cc
equal_both Less Greater e f g = cc
equal_both Equal s e f g = refl
equal_both Greater s e f g = cc

not_neither : (r s : Ordering) → r ≡ ordering_reverse s → is_le r ≡ false → is_le s ≡ false → ⊥
not_neither Less s e f g = cc
not_neither Equal s e f g = cc
not_neither Greater Less e f g = cc
not_neither Greater Equal e f g = cc
not_neither Greater Greater e f g = cc

turned : (x y : List ℕ) → slice_cmp nat_cmp x y ≡ ordering_reverse (slice_cmp nat_cmp y x)
turned x y = (lists_total nat_cmp_total).antisymm x y

same_list : (x y : List ℕ) → is_below x y ≡ true → is_below y x ≡ true → x ≡ y
same_list x y f g = slice_cmp-IsAntisymmetric nat_cmp-IsAntisymmetric x y (equal_both (slice_cmp nat_cmp x y) (slice_cmp nat_cmp y x) (turned x y) f g)

same_host : (a b : Host) → host_key a ≡ host_key b → a ≡ b
same_host (V4 x) (V4 y) e = cc
same_host (V4 x) (V6 y) e = cc
same_host (V6 x) (V4 y) e = cc
same_host (V6 x) (V6 y) e = cc

made : (h k : Host) (p q : ℕ) → h ≡ k → p ≡ q → ◌≡◌ {A = Address} (record { host = h; port = p }) (record { host = k; port = q })
made h k p q e f = cc

same_address : (a b : Address) → key_of a ≡ key_of b → a ≡ b
same_address a b e =
    let port : a.port ≡ b.port = (cc) in
    let rest : host_key a.host ≡ host_key b.host = (cc) in
    made a.host b.host a.port b.port (same_host a.host b.host rest) port

chosen : (p q : Bool) (a b : Address) → (p ≡ true → q ≡ true → a ≡ b) → (p ≡ false → q ≡ false → ⊥)
    → cond p (ends a b) (ends b a) ≡ cond q (ends b a) (ends a b)
chosen true true a b same neither = let e = same refl refl in subst (λ x. ends a x ≡ ends x a) e refl
chosen true false a b same neither = refl
chosen false true a b same neither = refl
chosen false false a b same neither = absurd (neither refl refl)

pub pair_both : (a b : Address) → pair a b ≡ pair b a
pair_both a b =
    chosen (is_first a b) (is_first b a) a b (λ f g. same_address a b (same_list (key_of a) (key_of b) f g))
    (λ f g. not_neither (slice_cmp nat_cmp (key_of a) (key_of b)) (slice_cmp nat_cmp (key_of b) (key_of a)) (turned (key_of a) (key_of b)) f g)

pub pair_then : (a b : Address) → is_first a b ≡ true → ends a b ≡ pair a b
pair_then a b e = ap (λ p. cond p (ends a b) (ends b a)) (sym e)

pub pair_else : (a b : Address) → is_first a b ≡ false → ends b a ≡ pair a b
pair_else a b e = ap (λ p. cond p (ends a b) (ends b a)) (sym e)
