-- Handshakes: their faults stay whatever follows, and their bytes are those of one handshake.
use Rattle.std.proofs.Common.{◌≡◌, ℕ, ◌+◌, ◌^◌, ◌≤◌, ◌<◌, Bool, true, false, cond, eqb, leb, List, [], ◌∷◌, ◌++◌, length, take, drop, Option, Some, None}
use Rattle.std.proofs.Common.{refl, sym, ap, ◌∙◌, arith, inl, inr}
use Rattle.std.specs.Prelude.{is_some, option_map, unwrap_or}
use Rattle.std.specs.Int.{w64, from_be_bytes}
use Rattle.std.proofs.lemmas.Bool.{cases_lt, cases_eq, eq-eqb, ne_eqb, le-leb, lt-leb}
use Rattle.std.proofs.lemmas.List.{append_assoc, length-append, length-drop, length-take-le, take-append-drop, take-append-le, drop-append-le}
use Rattle.std.proofs.lemmas.List.{append_cancel_left, drop-drop, take_at, drop_at}
use Rattle.std.proofs.lemmas.Nat.{from_be_bytes-to_be_bytes_8}
use Rattle.bt_wire.specs.declared.context.Own.{Own}
use Rattle.bt_wire.specs.declared.fault.Reason.TheVariants.{BadProtocol}
use Rattle.bt_wire.specs.declared.fault.Refused.{Refused}
use Rattle.bt_wire.specs.declared.handshake.Handshake.{Handshake}
use Rattle.bt_wire.specs.Numbers.{be64}
use Rattle.bt_wire.specs.Handshakes.{protocol, hand, hand_fault, hand_rows, first_difference, IsHandshake, IsHandshakeOf}
use Rattle.bt_wire.proofs.RowLaws.{NoneCounts-from}

-- ---- a handshake's fault, whatever follows

same_difference : (xs ys x : List ℕ) → length xs ≤ length ys → first_difference xs (ys ++ x) ≡ first_difference xs ys
same_difference [] ys x le = refl
same_difference (a ∷ xs) [] x le = absurd (omega arith)
same_difference (a ∷ xs) (b ∷ ys) x le = rw (same_difference xs ys x (omega arith)) refl

mapped : (o p : Option ℕ) (i : ℕ) → ((j : ℕ) → o ≡ Some j → p ≡ Some j) → option_map (λ k. k + 1) o ≡ Some i → option_map (λ k. k + 1) p ≡ Some i
mapped None p i h e = absurd cc
mapped (Some j) p i h e = rw (h j refl) e

stays_by : (b : Bool) (o p : Option ℕ) (i : ℕ) → ((j : ℕ) → o ≡ Some j → p ≡ Some j) → cond b (option_map (λ k. k + 1) o) (Some 0) ≡ Some i
    → cond b (option_map (λ k. k + 1) p) (Some 0) ≡ Some i
stays_by true o p i h e = mapped o p i h e
stays_by false o p i h e = e

difference_stays : (xs ys x : List ℕ) (i : ℕ) → first_difference xs ys ≡ Some i → first_difference xs (ys ++ x) ≡ Some i
difference_stays [] ys x i e = absurd cc
difference_stays (a ∷ xs) [] x i e = absurd cc
difference_stays (a ∷ xs) (b ∷ ys) x i e = stays_by (eqb a b) (first_difference xs ys) (first_difference xs (ys ++ x)) i (λ j h. difference_stays xs ys x j h) e

pub hand_same : (own : Own) (b x : List ℕ) → 48 ≤ length b → hand_fault own (b ++ x) ≡ hand_fault own b
unfolding hand_fault
hand_same own b x le =
    let same = same_difference protocol b x (omega arith) in
    let long : leb 48 (length (b ++ x)) ≡ leb 48 (length b) = le-leb 48 (length (b ++ x)) (omega (arith, length-append b x)) ∙ sym (le-leb 48 (length b) le) in
    let hash : take 20 (drop 28 (b ++ x)) ≡ take 20 (drop 28 b) =
    ap (take 20) (drop-append-le 28 b x (omega arith)) ∙ take-append-le 20 (drop 28 b) x (omega (arith, length-drop 28 b)) in
    rw (same, long, hash) refl

bad : ℕ → Refused
bad i = record { at = i; reason = BadProtocol }

protocol_stays : (o p : Option ℕ) (rest : Option Refused) (f : Refused) → ((j : ℕ) → o ≡ Some j → p ≡ Some j)
    → cond (is_some o) (Some (bad (unwrap_or o 0))) None ≡ Some f → cond (is_some p) (Some (bad (unwrap_or p 0))) rest ≡ Some f
protocol_stays None p rest f h e = absurd cc
protocol_stays (Some j) p rest f h e = rw (h j refl) e

pub hand_stays : (own : Own) (b x : List ℕ) (f : Refused) → hand_fault own b ≡ Some f → hand_fault own (b ++ x) ≡ Some f
unfolding hand_fault bad
hand_stays own b x f e =
    elim (cases_lt (length b) 48) [
      | inl short ↦
          protocol_stays (first_difference protocol b) (first_difference protocol (b ++ x)) _ f (λ j h. difference_stays protocol b x j h)
          (rw (lt-leb 48 (length b) short) at e)
      | inr long ↦ hand_same own b x long ∙ e
    ]

-- ---- one verdict

number64-be64 : (m n : ℕ) → m < 2 ^ 64 → n < 2 ^ 64 → be64 m ≡ be64 n → m ≡ n
number64-be64 m n lm ln e = sym (from_be_bytes-to_be_bytes_8 m lm) ∙ ap (λ (b : List ℕ). from_be_bytes w64 b) e ∙ from_be_bytes-to_be_bytes_8 n ln

both_parts : (a b x y : List ℕ) → length a ≡ length b → a ++ x ≡ b ++ y → (a ≡ b) × (x ≡ y)
both_parts a b x y len e = (
  sym (take_at a x (length a) refl) ∙ ap (take (length a)) e ∙ take_at b y (length a) (sym len),
  sym (drop_at a x (length a) refl) ∙ ap (drop (length a)) e ∙ drop_at b y (length a) (sym len),
)

pub hand-length : (h : Handshake) → IsHandshake h → length (hand h) ≡ 68
hand-length h p = omega (
  arith,
  p.info_hash,
  p.peer_id,
  length-append (protocol ++ be64 h.reserved.0) h.info_hash,
  length-append (protocol ++ be64 h.reserved.0 ++ h.info_hash) h.peer_id,
)

pub one_handshake : (g h : Handshake) (x y : List ℕ) → IsHandshake g → IsHandshake h → hand g ++ x ≡ hand h ++ y → (g ≡ h) × (x ≡ y)
one_handshake g h x y p q e =
    let front : Handshake → List ℕ = λ k. protocol ++ be64 k.reserved.0 in
    let whole = both_parts (hand g) (hand h) x y (hand-length g p ∙ sym (hand-length h q)) e in
    let three = both_parts (front g ++ g.info_hash) (front h ++ h.info_hash) g.peer_id h.peer_id
    (omega (arith, length-append (front g) g.info_hash, length-append (front h) h.info_hash, p.info_hash, q.info_hash)) whole.0 in
    let two = both_parts (front g) (front h) g.info_hash h.info_hash refl three.0 in
    let bits : be64 g.reserved.0 ≡ be64 h.reserved.0 = append_cancel_left protocol (be64 g.reserved.0) (be64 h.reserved.0) two.0 in
    let reserved : g.reserved.0 ≡ h.reserved.0 = number64-be64 g.reserved.0 h.reserved.0 p.reserved q.reserved bits in (
      ap (λ (n : ℕ). record { reserved = record { 0 = n }; info_hash = g.info_hash; peer_id = g.peer_id }) reserved
          ∙ ap (λ (i : List ℕ). record { reserved = h.reserved; info_hash = i; peer_id = g.peer_id }) two.1
          ∙ ap (λ (i : List ℕ). record { reserved = h.reserved; info_hash = h.info_hash; peer_id = i }) three.1,
      whole.1,
    )

-- ---- the first 68 bytes, without a fault

none_there : (o : Option ℕ) → is_some o ≡ false → o ≡ None
none_there None e = refl
none_there (Some i) e = absurd cc

none_after : (o : Option ℕ) → option_map (λ i. i + 1) o ≡ None → o ≡ None
none_after None e = refl
none_after (Some i) e = absurd cc

begins_with : (xs ys : List ℕ) → length xs ≤ length ys → first_difference xs ys ≡ None → ys ≡ xs ++ drop (length xs) ys
begins_with [] ys le e = refl
begins_with (x ∷ xs) [] le e = absurd (omega arith)
begins_with (x ∷ xs) (y ∷ ys) le e =
    elim (cases_eq x y) [
      | inl same ↦
          let rest = none_after (first_difference xs ys) (rw (eq-eqb x y same) at e) in
          ap (λ (zs : List ℕ). y ∷ zs) (begins_with xs ys (omega arith) rest) ∙ ap (λ (z : ℕ). z ∷ (xs ++ drop (length xs) ys)) (sym same)
      | inr other ↦ absurd (let wrong = rw (ne_eqb x y other) at e in cc)
    ]

same_protocol : (own : Own) (b : List ℕ) → hand_fault own b ≡ None → first_difference protocol b ≡ None
unfolding hand_fault
same_protocol own b e = none_there (first_difference protocol b) (NoneCounts-from (hand_rows own b) e).0

joined : {a b c d : List ℕ} (p q r t e : List ℕ) → b ≡ p ++ a → a ≡ q ++ c → c ≡ r ++ d → d ≡ t ++ e → b ≡ (((p ++ q) ++ r) ++ t) ++ e
joined p q r t e h1 h2 h3 h4 = rw (h1, h2, h3, h4) (sym (simp append_assoc))

next_part : (n k : ℕ) (b part : List ℕ) → part ≡ take n (drop k b) → drop k b ≡ part ++ drop (k + n) b
next_part n k b part e = sym (take-append-drop n (drop k b)) ∙ ap (λ (x : List ℕ). x ++ drop n (drop k b)) (sym e)
    ∙ ap (λ (x : List ℕ). part ++ x) (drop-drop n k b)

pub hand_parts : (own : Own) (b : List ℕ) (h : Handshake) → hand_fault own b ≡ None → 68 ≤ length b → h.reserved.0 < 2 ^ 64 → be64 h.reserved.0
    ≡ take 8 (drop 20 b) → h.info_hash ≡ take 20 (drop 28 b) → h.peer_id ≡ take 20 (drop 48 b) → IsHandshakeOf b h
hand_parts own b h none long small reserved info peer = record {
  fits = record {
    reserved = small;
    info_hash = ap length info ∙ length-take-le 20 (drop 28 b) (omega (arith, length-drop 28 b));
    peer_id = ap length peer ∙ length-take-le 20 (drop 48 b) (omega (arith, length-drop 48 b));
  };
  parts = joined protocol (be64 h.reserved.0) h.info_hash h.peer_id (drop 68 b)
      (begins_with protocol b (omega arith) (same_protocol own b none)) (next_part 8 20 b (be64 h.reserved.0) reserved) (next_part 20 28 b h.info_hash info)
      (next_part 20 48 b h.peer_id peer);
}
