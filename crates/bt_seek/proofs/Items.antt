-- Bytes say which items they consist of.
use Rattle.std.proofs.Common.{◌≡◌, ℕ, ◌+◌, ◌-◌, ◌*◌, ◌/◌, ◌%◌, ◌<◌, ◌≤◌, ◌⊎◌, inl, inr, zero, suc, List, [], ◌∷◌, ◌++◌, All, refl, ap, sym, subst, ◌∙◌, length, map, length-append, append_assoc, arith}
use Rattle.std.specs.List.{flat_map}
use Rattle.std.specs.Net.Addr.{ipv4_octets, ipv6_octets, octets_of}
use Rattle.std.specs.Net.Socket.{v4_ip, v4_port, v6_ip, v6_port}
use Rattle.std.specs.declared.net.socket_addr.SocketAddr.{SocketAddr}
use Rattle.std.specs.declared.net.socket_addr.SocketAddr.TheVariants.{V4, V6}
use Rattle.std.proofs.Math.Nat.{div-add-mod'}
use Rattle.std.proofs.lemmas.List.Concat.{flat_map-cons}
use Rattle.bt_address.specs.Compact.{IsPlainOf, compact_of, port_bytes, size_of}
use Rattle.bt_address.specs.declared.compact.Family.{Family}
use Rattle.bt_address.specs.declared.compact.Family.TheVariants as family
use Rattle.bt_dht.specs.Nodes.{IsPlain}
use Rattle.bt_dht.specs.declared.node.Node.{Node}
use Rattle.bt_seek.specs.Answers.{AreIn, AreInfos, AreNodes, AreOf, IsNodeOf, info_of}

pub split_same : (a b x y : List ℕ) → length a ≡ length b → a ++ x ≡ b ++ y → (a ≡ b) × (x ≡ y)
split_same [] [] x y l e = (refl, e)
split_same [] (n ∷ b) x y l e = absurd (omega (arith, l))
split_same (m ∷ a) [] x y l e = absurd (omega (arith, l))
split_same (m ∷ a) (n ∷ b) x y l e =
    let head : m ≡ n = cc (e) in
    let tail : a ++ x ≡ b ++ y = cc (e) in
    let rest = split_same a b x y (omega (arith, l)) tail in (λ i. head i ∷ rest.0 i, rest.1)

-- ---- addresses

port_same : (m n : ℕ) → port_bytes m ≡ port_bytes n → m ≡ n
port_same m n e =
    let high : m / 256 ≡ n / 256 = cc (e) in
    let low : m % 256 ≡ n % 256 = cc (e) in
    sym (div-add-mod' m 256) ∙ ap (λ x. x * 256 + m % 256) high ∙ ap (λ x. n / 256 * 256 + x) low ∙ div-add-mod' n 256

octets_same : (xs ys : List ℕ) → octets_of xs ≡ octets_of ys → xs ≡ ys
octets_same [] [] e = refl
octets_same [] (y ∷ ys) e = absurd (cc (e))
octets_same (x ∷ xs) [] e = absurd (cc (e))
octets_same (x ∷ xs) (y ∷ ys) e =
    let high : x / 256 ≡ y / 256 = cc (e) in
    let low : x % 256 ≡ y % 256 = cc (e) in
    let same = sym (div-add-mod' x 256) ∙ ap (λ n. n * 256 + x % 256) high ∙ ap (λ n. y / 256 * 256 + n) low ∙ div-add-mod' y 256 in
    let rest = octets_same xs ys (cc (e)) in (λ i. same i ∷ rest i)

compact_same : (f : Family) (a b : SocketAddr) → IsPlainOf f a → IsPlainOf f b → compact_of a ≡ compact_of b → a ≡ b
compact_same family.V4 (V4 a) (V4 b) p q e =
    let s = split_same (ipv4_octets (v4_ip a)) (ipv4_octets (v4_ip b)) (port_bytes (v4_port a)) (port_bytes (v4_port b)) (p ∙ sym q) e in
    let port = port_same (v4_port a) (v4_port b) s.1 in (λ i. V4 (record { ip = record { octets = s.0 i }; port = port i }))
compact_same family.V4 (V4 a) (V6 b) p q e = absurd q
compact_same family.V4 (V6 a) b p q e = absurd p
compact_same family.V6 (V4 a) b p q e = absurd p
compact_same family.V6 (V6 a) (V4 b) p q e = absurd q
compact_same family.V6 (V6 a) (V6 b) p q e =
    let s = split_same (ipv6_octets (v6_ip a)) (ipv6_octets (v6_ip b)) (port_bytes (v6_port a)) (port_bytes (v6_port b)) (p.0 ∙ sym q.0) e in
    let ip = octets_same a.ip.segments b.ip.segments s.0 in
    let port = port_same (v6_port a) (v6_port b) s.1 in
    let flow = p.1 ∙ sym q.1 in
    let scope = p.2 ∙ sym q.2 in
    (λ i. V6 (record { ip = record { segments = ip i }; port = port i; flowinfo = flow i; scope_id = scope i }))

compact_length : (f : Family) (a : SocketAddr) → IsPlainOf f a → length (compact_of a) ≡ size_of f
compact_length family.V4 (V4 a) p = length-append (ipv4_octets (v4_ip a)) (port_bytes (v4_port a)) ∙ ap (λ n. n + 2) p
compact_length family.V4 (V6 a) p = absurd p
compact_length family.V6 (V4 a) p = absurd p
compact_length family.V6 (V6 a) p = length-append (ipv6_octets (v6_ip a)) (port_bytes (v6_port a)) ∙ ap (λ n. n + 2) p.0

node_same : (f : Family) (a b : Node) → IsNodeOf f a → IsNodeOf f b → info_of a ≡ info_of b → a ≡ b
node_same f a b p q e =
    let s = split_same a.id b.id (compact_of a.address) (compact_of b.address) (p.0 ∙ sym q.0) e in
    let address = compact_same f a.address b.address p.1 q.1 s.1 in (λ i. record { id = s.0 i; address = address i })

node_length : (f : Family) (n : Node) → IsNodeOf f n → length (info_of n) ≡ 20 + size_of f
node_length f n p =
    length-append n.id (compact_of n.address) ∙ ap (λ x. x + length (compact_of n.address)) p.0 ∙ ap (λ x. 20 + x) (compact_length f n.address p.1)

-- ---- lists of items

head_of : {X : Type 0} (P : X → Type 0) (x : X) (xs : List X) → All P (x ∷ xs) → P x
head_of P x xs h = h zero x (omega arith)

tail_of : {X : Type 0} (P : X → Type 0) (x : X) (xs : List X) → All P (x ∷ xs) → All P xs
tail_of P x xs h = λ k d l. h (suc k) d (omega (arith, l))

too_short : {X : Type 0} (enc : X → List ℕ) (size : ℕ) (y : X) (ys : List X) (r s : List ℕ) → length (enc y) ≡ size → r ≡ flat_map enc (y ∷ ys) ++ s → length r < size → ⊥
too_short enc size y ys r s l e f =
    let whole = ap length (e ∙ ap (λ x. x ++ s) (flat_map-cons enc y ys) ∙ append_assoc (enc y) (flat_map enc ys) s)
    ∙ length-append (enc y) (flat_map enc ys ++ s) in
    omega (arith, whole, l, f)

same_items : {X : Type 0} (enc : X → List ℕ) (P : X → Type 0) (size most : ℕ) → ((x : X) → P x → length (enc x) ≡ size) → ((x y : X) → P x → P y → enc x ≡ enc y → x ≡ y) → (xs ys : List X) (r s : List ℕ) → All P xs → All P ys → flat_map enc xs ++ r ≡ flat_map enc ys ++ s → length xs ≤ most → length ys ≤ most → (length xs < most → length r < size) → (length ys < most → length s < size) → xs ≡ ys
same_items enc P size most len inj [] [] r s p q e m n f g = refl
same_items enc P size most len inj [] (y ∷ ys) r s p q e m n f g =
    absurd (too_short enc size y ys r s (len y (head_of P y ys q)) e (f (omega (arith, n))))
same_items enc P size most len inj (x ∷ xs) [] r s p q e m n f g =
    absurd (too_short enc size x xs s r (len x (head_of P x xs p)) (sym e) (g (omega (arith, m))))
same_items enc P size most len inj (x ∷ xs) (y ∷ ys) r s p q e m n f g =
    let px = head_of P x xs p in
    let py = head_of P y ys q in
    let parts : enc x ++ (flat_map enc xs ++ r) ≡ enc y ++ (flat_map enc ys ++ s) =
    sym (append_assoc (enc x) (flat_map enc xs) r) ∙ sym (ap (λ z. z ++ r) (flat_map-cons enc x xs)) ∙ e
    ∙ ap (λ z. z ++ s) (flat_map-cons enc y ys) ∙ append_assoc (enc y) (flat_map enc ys) s in
    let both = split_same (enc x) (enc y) (flat_map enc xs ++ r) (flat_map enc ys ++ s) (len x px ∙ sym (len y py)) parts in
    let head = inj x y px py both.0 in
    let rest = same_items enc P size (most - 1) len inj xs ys r s (tail_of P x xs p) (tail_of P y ys q) both.1 (omega (arith, m)) (omega (arith, n))
    (λ l. f (omega (arith, l))) (λ l. g (omega (arith, l))) in
    (λ i. head i ∷ rest i)

pub in_same : (f : Family) (bytes : List ℕ) (x y : List SocketAddr) → AreIn f bytes x → AreIn f bytes y → x ≡ y
in_same f bytes x y h k =
    same_items compact_of (IsPlainOf f) (size_of f) (length x + length y) (compact_length f) (compact_same f) x y h.0 k.0 h.2 k.2 (h.1 ∙ sym k.1)
    (omega arith) (omega arith) (λ l. h.3) (λ l. k.3)

infos_same : (f : Family) (most : ℕ) (infos : List ℕ) (x y : List Node) → AreInfos f most infos x → AreInfos f most infos y → x ≡ y
infos_same f most infos x y h k =
    same_items info_of (IsNodeOf f) (20 + size_of f) most (node_length f) (node_same f) x y h.0 k.0 h.2 k.2 (h.1 ∙ sym k.1) h.3 k.3 h.4 k.4

pub nodes_same : (infos infos6 : List ℕ) (x y : List Node) → AreNodes infos infos6 x → AreNodes infos infos6 y → x ≡ y
nodes_same infos infos6 x y h k =
    let a = infos_same family.V4 16 infos h.0 k.0 h.2 k.2 in
    let b = infos_same family.V6 (16 - length k.0) infos6 h.1 k.1 (subst (λ (z : List Node). AreInfos family.V6 (16 - length z) infos6 h.1) a h.3) k.3 in
    h.4 ∙ ap (λ z. z ++ h.1) a ∙ ap (λ z. k.0 ++ z) b ∙ sym k.4

-- ---- compact forms, one by one

plain_same : (a b : SocketAddr) → IsPlain a → IsPlain b → compact_of a ≡ compact_of b → a ≡ b
plain_same a b (inl p) (inl q) e = compact_same family.V4 a b p q e
plain_same a b (inr p) (inr q) e = compact_same family.V6 a b p q e
plain_same a b (inl p) (inr q) e = absurd (omega (arith, ap length e, compact_length family.V4 a p, compact_length family.V6 b q))
plain_same a b (inr p) (inl q) e = absurd (omega (arith, ap length e, compact_length family.V6 a p, compact_length family.V4 b q))

map_same : (xs ys : List SocketAddr) → All IsPlain xs → All IsPlain ys → map compact_of xs ≡ map compact_of ys → xs ≡ ys
map_same [] [] p q e = refl
map_same [] (y ∷ ys) p q e = absurd (cc (e))
map_same (x ∷ xs) [] p q e = absurd (cc (e))
map_same (x ∷ xs) (y ∷ ys) p q e =
    let front : compact_of x ≡ compact_of y = cc (e) in
    let head = plain_same x y (head_of IsPlain x xs p) (head_of IsPlain y ys q) front in
    let rest = map_same xs ys (tail_of IsPlain x xs p) (tail_of IsPlain y ys q) (cc (e)) in (λ i. head i ∷ rest i)

pub of_same : (compacts : List (List ℕ)) (x y : List SocketAddr) → AreOf compacts x → AreOf compacts y → x ≡ y
of_same compacts x y h k = map_same x y h.1 k.1 (h.0 ∙ sym k.0)
