-- The front of a block is enough.
use Rattle.std.proofs.Common.{◌≡◌, ℕ, ◌+◌, ◌-◌, min, List, ◌++◌, length, take, drop, slice_get, refl, sym, ap, ◌∙◌, arith, inl, inr}
use Rattle.std.proofs.lemmas.Bool.{cases_lt}
use Rattle.std.proofs.lemmas.List.{take-take, take_all, take-append-le, drop-drop}
use Rattle.bt_pcap.specs.declared.numbers.Order.{Order}
use Rattle.bt_pcap.specs.declared.interfaces.Interface.{Interface}
use Rattle.bt_pcap.specs.Numbers.{number16, number32}
use Rattle.bt_pcap.specs.Packets.{simple_on, recorded}
use Rattle.bt_pcap.specs.Reading.{read_stamped, read_packet, read_interface, read_interfaces, body_of}
use Rattle.bt_pcap.proofs.NumberLaws.{number32-take, number16-take, drop-front}
use Rattle.bt_pcap.proofs.BodyAgain.{take-min, simple_cut, stamped_cut}

pub packet_cut : (order : Order) (known : List Interface) (kind : ℕ) (body : List ℕ)
    → read_packet order known kind (take 1048596 body) ≡ read_packet order known kind body
unfolding read_packet
packet_cut order known kind body =
    let n32 : number32 order (take 1048596 body) ≡ number32 order body = number32-take order 1048596 body (omega arith) in
    let n16 : number16 order (take 1048596 body) ≡ number16 order body = number16-take order 1048596 body (omega arith) in
    let d4 : drop 4 (take 1048596 body) ≡ take 1048592 (drop 4 body) = drop-front 4 1048596 body (omega arith) in
    let d2 : drop 2 (take 1048596 body) ≡ take 1048594 (drop 2 body) = drop-front 2 1048596 body (omega arith) in
    let d22 : drop 2 (drop 2 (take 1048596 body)) ≡ take 1048592 (drop 2 (drop 2 body)) = ap (drop 2) d2 ∙ drop-front 2 1048594 (drop 2 body) (omega arith) in
    let p6 : read_stamped order known (number32 order (take 1048596 body)) (drop 4 (take 1048596 body)) ≡ read_stamped order known
    (number32 order body) (drop 4 body) =
    ap (λ (k : ℕ). read_stamped order known k (drop 4 (take 1048596 body))) n32 ∙ (ap (read_stamped order known (number32 order body)) d4
    ∙ stamped_cut order known (number32 order body) 1048592 (drop 4 body) (omega arith)) in
    let p2 : read_stamped order known (number16 order (take 1048596 body)) (drop 2 (drop 2 (take 1048596 body))) ≡ read_stamped order known
    (number16 order body) (drop 2 (drop 2 body)) =
    ap (λ (k : ℕ). read_stamped order known k (drop 2 (drop 2 (take 1048596 body)))) n16 ∙ (ap (read_stamped order known (number16 order body)) d22
    ∙ stamped_cut order known (number16 order body) 1048592 (drop 2 (drop 2 body)) (omega arith)) in
    let on = slice_get known 0 in
    let p3 : simple_on on (drop 4 (take 1048596 body)) (number32 order (take 1048596 body)) ≡ simple_on on (drop 4 body) (number32 order body) =
    ap (λ (k : ℕ). simple_on on (drop 4 (take 1048596 body)) k) n32 ∙ (ap (λ (x : List ℕ). simple_on on x (number32 order body)) d4
    ∙ simple_cut on (number32 order body) 1048592 (drop 4 body) (omega arith)) in
    rw (p6, p2, p3) refl

pub interfaces_cut : (order : Order) (known : List Interface) (kind : ℕ) (body : List ℕ)
    → read_interfaces order known kind (take 1048596 body) ≡ read_interfaces order known kind body
unfolding read_interfaces
interfaces_cut order known kind body =
    let l : number16 order (take 1048596 body) ≡ number16 order body = number16-take order 1048596 body (omega arith) in
    let d2 : drop 2 (take 1048596 body) ≡ take 1048594 (drop 2 body) = drop-front 2 1048596 body (omega arith) in
    let d22 : drop 2 (drop 2 (take 1048596 body)) ≡ take 1048592 (drop 2 (drop 2 body)) = ap (drop 2) d2 ∙ drop-front 2 1048594 (drop 2 body) (omega arith) in
    let d8 : drop 4 (drop 2 (drop 2 (take 1048596 body))) ≡ take 1048588 (drop 4 (drop 2 (drop 2 body))) = ap (drop 4) d22
    ∙ drop-front 4 1048592 (drop 2 (drop 2 body)) (omega arith) in
    let o : take 1048576 (drop 4 (drop 2 (drop 2 (take 1048596 body)))) ≡ take 1048576 (drop 4 (drop 2 (drop 2 body))) = ap (take 1048576) d8
    ∙ take-take 1048576 1048588 (drop 4 (drop 2 (drop 2 body))) (omega arith) in
    let s : number32 order (drop 2 (drop 2 (take 1048596 body))) ≡ number32 order (drop 2 (drop 2 body)) = ap (number32 order) d22
    ∙ number32-take order 1048592 (drop 2 (drop 2 body)) (omega arith) in
    let r : read_interface order (take 1048596 body) ≡ read_interface order body = rw (l, s, o) refl in
    rw r refl

-- what is looked at of a block's body
pub body_is : (total : ℕ) (w body trailer : List ℕ) → drop 4 (drop 4 w) ≡ body ++ trailer → total ≡ 12 + length body → body_of total w ≡ take 1048596 body
body_is total w body trailer e size =
    let m = min total 1048604 in
    let k = min (total - 12) (m - 8) in
    let d : drop 8 w ≡ body ++ trailer = sym (drop-drop 4 4 w) ∙ e in
    let front_is : body_of total w ≡ take k body =
    ap (take (total - 12)) (drop-front 8 m w (omega arith) ∙ ap (take (m - 8)) d) ∙ (take-min (total - 12) (m - 8) (body ++ trailer)
    ∙ take-append-le k body trailer (omega arith)) in
    elim (cases_lt 1048596 (length body)) [
      | inl lt ↦ let same : k ≡ 1048596 = omega arith in front_is ∙ ap (λ (j : ℕ). take j body) same
      | inr le ↦ front_is ∙ (take_all k body (omega arith) ∙ sym (take_all 1048596 body le))
    ]

-- what is looked at of a record's bytes
pub octets_kept : (octets : List ℕ) → take 1048576 (take (min (16 + length octets) 1048604 - 16) octets) ≡ take 1048576 octets
octets_kept octets =
    let k = min (16 + length octets) 1048604 - 16 in
    elim (cases_lt 1048588 (length octets)) [
      | inl lt ↦ take-take 1048576 k octets (omega arith)
      | inr le ↦ ap (take 1048576) (take_all k octets (omega arith))
    ]

pub recorded_cut : (scale link a b o : ℕ) (x y : List ℕ) → take 1048576 x ≡ take 1048576 y → recorded scale link a b x o ≡ recorded scale link a b y o
recorded_cut scale link a b o x y e = rw e refl

pub drop_16 : (w : List ℕ) → drop 16 w ≡ drop 4 (drop 4 (drop 4 (drop 4 w)))
drop_16 w = sym (drop-drop 4 4 (drop 4 (drop 4 w)) ∙ (drop-drop 8 4 (drop 4 w) ∙ drop-drop 12 4 w))
