-- Payloads of packets that follow each other.
use Rattle.std.proofs.Common.{◌≡◌, ℕ, zero, suc, ◌+◌, ◌<◌, ◌≤◌, ◌==◌, Bool, true, false, if◌then◌else◌, List, [], ◌∷◌, ◌++◌}
use Rattle.std.proofs.Common.{Option, Some, None, refl, sym, subst, ap, ◌∙◌, arith, append_assoc, append-nil, inl, inr}
use Rattle.std.proofs.lemmas.Bool.{cases_Bool}
use Rattle.bt_order.specs.Streams.{Packet, packet_at, is_last, IsGoing, with_packet, payloads, last_or, last_packet, end_of, utp_stream}
use Rattle.bt_order.specs.Held.{or_packet, only}

-- ---- one more packet

pub packet_at-push : (ps : List Packet) (q : Packet) (i : ℕ) → packet_at (ps ++ q ∷ []) i ≡ or_packet (packet_at ps i) (only q i)
packet_at-push [] q i = refl
packet_at-push (r ∷ ps) q i = elim (cases_Bool (r.index == i)) [
  | inl t ↦ rw t refl
  | inr f ↦ rw f (packet_at-push ps q i)
]

-- Each packet stays.
abbrev pub Extends : (ℕ → Option Packet) → (ℕ → Option Packet) → Type 0
Extends at at' = (i : ℕ) (p : Packet) → at i ≡ Some p → at' i ≡ Some p

stays : (o q : Option Packet) (p : Packet) → o ≡ Some p → or_packet o q ≡ Some p
stays None q p e = cc
stays (Some r) q p e = e

pub extends_push : (ps : List Packet) (q : Packet) → Extends (packet_at ps) (packet_at (ps ++ q ∷ []))
extends_push ps q i p e = packet_at-push ps q i ∙ stays (packet_at ps i) (only q i) p e

pub going_same : (o o' : Option Packet) → IsGoing o → ((p : Packet) → o ≡ Some p → o' ≡ Some p) → o' ≡ o
going_same None o' g h = absurd g
going_same (Some p) o' g h = h p refl

-- The packets from i on and before j are there.
abbrev pub AreGoing : (ℕ → Option Packet) → ℕ → ℕ → Type 0
AreGoing at i j = (k : ℕ) → i ≤ k → k < j → IsGoing (at k)

pub going_more : (at at' : ℕ → Option Packet) (i j : ℕ) → Extends at at' → AreGoing at i j → AreGoing at' i j
going_more at at' i j ext h k le lt = subst IsGoing (sym (going_same (at k) (at' k) (h k le lt) (ext k))) (h k le lt)

-- ---- payloads in two parts

going_with : (o : Option Packet) (rest a b : List ℕ) → IsGoing o → rest ≡ a ++ b → with_packet o rest ≡ with_packet o a ++ b
going_with None rest a b g e = absurd g
going_with (Some p) rest a b g e = rw g (ap (λ l. p.bytes ++ l) e ∙ sym (append_assoc p.bytes a b))

pub payloads_split : (at : ℕ → Option Packet) (n m t i j : ℕ) → t ≡ n + m → j ≡ i + n → AreGoing at i j → payloads at t i ≡ payloads at n i ++ payloads at m j
payloads_split at zero m t i j et ej h =
    let a : t ≡ m = omega (arith, et) in
    let b : j ≡ i = omega (arith, ej) in
    rw (a, b) refl
payloads_split at (suc n) m zero i j et ej h = absurd (omega (arith, et))
payloads_split at (suc n) m (suc t) i j et ej h =
    going_with (at i) (payloads at t (i + 1)) (payloads at n (i + 1)) (payloads at m j) (h i (omega arith) (omega (arith, ej)))
    (payloads_split at n m t (i + 1) j (omega (arith, et)) (omega (arith, ej)) (λ k le lt. h k (omega (arith, le)) lt))

going_last : (o rest : Option Packet) → IsGoing o → last_or o rest ≡ rest
going_last None rest g = absurd g
going_last (Some p) rest g = rw g refl

pub last_split : (at : ℕ → Option Packet) (n m t i j : ℕ) → t ≡ n + m → j ≡ i + n → AreGoing at i j → last_packet at t i ≡ last_packet at m j
last_split at zero m t i j et ej h =
    let a : t ≡ m = omega (arith, et) in
    let b : j ≡ i = omega (arith, ej) in
    rw (a, b) refl
last_split at (suc n) m zero i j et ej h = absurd (omega (arith, et))
last_split at (suc n) m (suc t) i j et ej h =
    going_last (at i) (last_packet at t (i + 1)) (h i (omega arith) (omega (arith, ej)))
    ∙ last_split at n m t (i + 1) j (omega (arith, et)) (omega (arith, ej)) (λ k le lt. h k (omega (arith, le)) lt)

pub payloads_same : (at at' : ℕ → Option Packet) (n i j : ℕ) → j ≡ i + n → Extends at at' → AreGoing at i j → payloads at' n i ≡ payloads at n i
payloads_same at at' zero i j ej ext h = refl
payloads_same at at' (suc n) i j ej ext h =
    let same : at' i ≡ at i = going_same (at i) (at' i) (h i (omega arith) (omega (arith, ej))) (ext i) in
    ap (λ o. with_packet o (payloads at' n (i + 1))) same
    ∙ ap (with_packet (at i)) (payloads_same at at' n (i + 1) j (omega (arith, ej)) ext (λ k le lt. h k (omega (arith, le)) lt))

pub payloads_none : (at : ℕ → Option Packet) (m i : ℕ) → at i ≡ None → payloads at m i ≡ []
payloads_none at zero i e = refl
payloads_none at (suc m) i e = rw e refl

pub last_none : (at : ℕ → Option Packet) (m i : ℕ) → at i ≡ None → last_packet at m i ≡ None
last_none at zero i e = refl
last_none at (suc m) i e = rw e refl

pub payloads_last : (at : ℕ → Option Packet) (m i : ℕ) (p : Packet) → at i ≡ Some p → is_last p ≡ true → payloads at (suc m) i ≡ p.bytes
payloads_last at m i p e l = rw (e, l) (append-nil p.bytes)

pub last_last : (at : ℕ → Option Packet) (m i : ℕ) (p : Packet) → at i ≡ Some p → is_last p ≡ true → last_packet at (suc m) i ≡ Some p
last_last at m i p e l = rw (e, l) refl

pub payloads_one : (at : ℕ → Option Packet) (i : ℕ) (p : Packet) → at i ≡ Some p → payloads at 1 i ≡ p.bytes
payloads_one at i p e = elim (cases_Bool (is_last p)) [
  | inl t ↦ payloads_last at 0 i p e t
  | inr f ↦ rw (e, f) (append-nil p.bytes)
]

-- ---- the end

pub below_end : (ps : List Packet) (i : ℕ) (p : Packet) → packet_at ps i ≡ Some p → i < end_of ps
below_end [] i p e = cc
below_end (q ∷ ps) i p e = elim (cases_Bool (q.index == i)) [
  | inl t ↦ let is : q.index ≡ i = grind arith in omega (arith, is)
  | inr f ↦ let later = below_end ps i p (rw f at e) in omega (arith, later)
]

pub end_push : (ps : List Packet) (q : Packet) → end_of ps ≤ end_of (ps ++ q ∷ [])
end_push [] q = omega arith
end_push (p ∷ ps) q = omega (arith, end_push ps q)

-- ---- more packets make the stream longer at most

keeps_or : (b : Bool) (bytes a b' more : List ℕ) → b' ≡ a ++ more
    → (rest : List ℕ) × (bytes ++ (if b then [] else b') ≡ (bytes ++ (if b then [] else a)) ++ rest)
keeps_or true bytes a b' more e = ([], sym (append-nil (bytes ++ [])))
keeps_or false bytes a b' more e = (more, ap (λ l. bytes ++ l) e ∙ sym (append_assoc bytes a more))

with_more : (o o' : Option Packet) (a b more : List ℕ) → ((p : Packet) → o ≡ Some p → o' ≡ Some p) → b ≡ a ++ more
    → (rest : List ℕ) × (with_packet o' b ≡ with_packet o a ++ rest)
with_more None o' a b more h e = (with_packet o' b, refl)
with_more (Some p) o' a b more h e =
    subst (λ x. (rest : List ℕ) × (with_packet x b ≡ with_packet (Some p) a ++ rest)) (sym (h p refl)) (keeps_or (is_last p) p.bytes a b more e)

grows : (n m : ℕ) (at at' : ℕ → Option Packet) (i : ℕ) → Extends at at' → n ≤ m → (more : List ℕ) × (payloads at' m i ≡ payloads at n i ++ more)
grows zero m at at' i ext le = (payloads at' m i, refl)
grows (suc n) zero at at' i ext le = absurd (omega (arith, le))
grows (suc n) (suc m) at at' i ext le =
    let rest = grows n m at at' (i + 1) ext (omega (arith, le)) in
    with_more (at i) (at' i) (payloads at n (i + 1)) (payloads at' m (i + 1)) rest.0 (ext i) rest.1

pub stream_grows : (ps : List Packet) (q : Packet) → (more : List ℕ) × (utp_stream (ps ++ q ∷ []) ≡ utp_stream ps ++ more)
stream_grows ps q = grows (end_of ps) (end_of (ps ++ q ∷ [])) (packet_at ps) (packet_at (ps ++ q ∷ [])) 65536 (extends_push ps q) (end_push ps q)
