-- What the body of a block says, as it is written and as it is read.
use Rattle.std.proofs.Common.{◌≡◌, ◌≢◌, ℕ, zero, suc, ◌+◌, ◌*◌, ◌^◌, ◌≤◌, ◌<◌, ◌⊎◌, true, false, cond, eqb, List, ◌++◌, length, take, drop, slice_get}
use Rattle.std.proofs.Common.{refl, sym, ap, subst, ◌∙◌, arith, inl, inr, Option, None}
use Rattle.std.proofs.lemmas.List.{length-drop}
use Rattle.bt_pcap.specs.declared.numbers.Order.{Order}
use Rattle.bt_pcap.specs.declared.interfaces.Interface.{Interface}
use Rattle.bt_pcap.specs.Numbers.{u16, u32, number16, number32, AreBytes}
use Rattle.bt_pcap.specs.Formats.{Captured}
use Rattle.bt_pcap.specs.Packets.{packet_on}
use Rattle.bt_pcap.specs.Items.{section_type, IsStamped, Says, describes, enhanced, obsolete, simple, passed_over}
use Rattle.bt_pcap.specs.Reading.{word, lacks, read_stamped, read_packet, read_interface, read_interfaces, least, most}
use Rattle.bt_pcap.proofs.NumberLaws.{AreBytes-take, AreBytes-drop, number32-lt, number32-u32, drop-u32, length-u32, split32, number16-lt, split16}
use Rattle.bt_pcap.proofs.OptionValues.{resolution_sound, offset_sound}
use Rattle.bt_pcap.proofs.Readings.{chosen, eq_true, eq_false, ne_false}
use Rattle.bt_pcap.proofs.Described.{within_2, within_3, within_6}

pub word-lt : (order : Order) (k : ℕ) (b : List ℕ) → AreBytes b → word order k b < 2 ^ 32
word-lt order zero b f = number32-lt order b f
word-lt order (suc k) b f = word-lt order k (drop 4 b) (AreBytes-drop 4 b f)

pub word-next : (order : Order) (k n : ℕ) (r : List ℕ) → word order (suc k) (u32 order n ++ r) ≡ word order k r
word-next order k n r = ap (word order k) (drop-u32 order n r)

-- bytes begin with four numbers
pub four_words : (order : Order) (b : List ℕ) → 16 ≤ length b → AreBytes b
    → b ≡ u32 order (word order 0 b) ++ (u32 order (word order 1 b) ++ (u32 order (word order 2 b) ++ (u32 order (word order 3 b) ++ drop 4 (drop 4
    (drop 4 (drop 4 b))))))
four_words order b le f =
    let b1 = drop 4 b in
    let b2 = drop 4 b1 in
    let b3 = drop 4 b2 in
    let f1 = AreBytes-drop 4 b f in
    let f2 = AreBytes-drop 4 b1 f1 in
    let l1 : 12 ≤ length b1 = omega (arith, length-drop 4 b) in
    let l2 : 8 ≤ length b2 = omega (arith, length-drop 4 b1) in
    let l3 : 4 ≤ length b3 = omega (arith, length-drop 4 b2) in
    split32 order b (omega arith) f
    ∙ ap (λ (x : List ℕ). u32 order (word order 0 b) ++ x) (split32 order b1 (omega arith) f1
    ∙ ap (λ (x : List ℕ). u32 order (word order 1 b) ++ x) (split32 order b2 (omega arith) f2
    ∙ ap (λ (x : List ℕ). u32 order (word order 2 b) ++ x) (split32 order b3 (omega arith) (AreBytes-drop 4 b2 f2))))

-- the numbers that bytes were written with
pub record FourWords (order : Order) (b : List ℕ) (h l c o : ℕ) (octets : List ℕ) : Type 0 where
  pub first : word order 0 b ≡ h
  pub second : word order 1 b ≡ l
  pub third : word order 2 b ≡ c
  pub fourth : word order 3 b ≡ o
  pub rest : drop 4 (drop 4 (drop 4 (drop 4 b))) ≡ octets
  pub size : length b ≡ 16 + length octets

pub four_again : (order : Order) (b : List ℕ) (h l c o : ℕ) (octets : List ℕ)
    → b ≡ u32 order h ++ (u32 order l ++ (u32 order c ++ (u32 order o ++ octets))) → h < 2 ^ 32 → l < 2 ^ 32 → c < 2 ^ 32 → o < 2 ^ 32
    → FourWords order b h l c o octets
four_again order b h l c o octets e fh fl fc fo =
    let r3 = u32 order o ++ octets in
    let r2 = u32 order c ++ r3 in
    let r1 = u32 order l ++ r2 in
    let d1 : drop 4 b ≡ r1 = ap (drop 4) e ∙ drop-u32 order h r1 in
    let d2 : drop 4 (drop 4 b) ≡ r2 = ap (drop 4) d1 ∙ drop-u32 order l r2 in
    let d3 : drop 4 (drop 4 (drop 4 b)) ≡ r3 = ap (drop 4) d2 ∙ drop-u32 order c r3 in
    record {
      first = ap (number32 order) e ∙ number32-u32 order h r1 fh;
      second = ap (number32 order) d1 ∙ number32-u32 order l r2 fl;
      third = ap (number32 order) d2 ∙ number32-u32 order c r3 fc;
      fourth = ap (number32 order) d3 ∙ number32-u32 order o octets fo;
      rest = ap (drop 4) d3 ∙ drop-u32 order o octets;
      size = ap (length {A = ℕ}) e ∙ omega (arith, length-u32 order h r1, length-u32 order l r2, length-u32 order c r3, length-u32 order o octets);
    }

-- ---- packets

stamped_sound : (order : Order) (known : List Interface) (number : ℕ) (b : List ℕ) → 16 ≤ length b → length b ≤ 16777232 → AreBytes b
    → IsStamped order (slice_get known number) (read_stamped order known number b) b
unfolding read_stamped
stamped_sound order known number b le most_fits f = record {
  high = word order 0 b;
  low = word order 1 b;
  captured = word order 2 b;
  original = word order 3 b;
  octets = drop 4 (drop 4 (drop 4 (drop 4 b)));
  whole = four_words order b le f;
  high_fits = word-lt order 0 b f;
  low_fits = word-lt order 1 b f;
  captured_fits = word-lt order 2 b f;
  original_fits = word-lt order 3 b f;
  octets_fit = omega (arith, length-drop 4 b, length-drop 4 (drop 4 b), length-drop 4 (drop 4 (drop 4 b)), length-drop 4 (drop 4 (drop 4 (drop 4 b))));
  handed = refl;
}

on_same : (on : Option Interface) (h l c o h' l' c' o' : ℕ) (x y : List ℕ) → h ≡ h' → l ≡ l' → c ≡ c' → o ≡ o' → x ≡ y
    → packet_on on (h * 2 ^ 32 + l) (take c x) o ≡ packet_on on (h' * 2 ^ 32 + l') (take c' y) o'
on_same on h l c o h' l' c' o' x y eh el ec eo e = rw (eh, el, ec, eo, e) refl

pub stamped_again : (order : Order) (known : List Interface) (number : ℕ) (p : Option Captured) (b : List ℕ) → IsStamped order (slice_get known number) p b
    → (read_stamped order known number b ≡ p) × (16 ≤ length b) × (length b ≤ 16777232)
unfolding read_stamped
stamped_again order known number p b s =
    let w = four_again order b s.high s.low s.captured s.original s.octets s.whole s.high_fits s.low_fits s.captured_fits s.original_fits in (
      on_same (slice_get known number) (word order 0 b) (word order 1 b) (word order 2 b) (word order 3 b) s.high s.low s.captured s.original
          (drop 4 (drop 4 (drop 4 (drop 4 b)))) s.octets w.first w.second w.third w.fourth w.rest ∙ sym s.handed,
      omega (arith, w.size),
      omega (arith, w.size, s.octets_fit),
    )

-- ---- read is as it is written

Told : Order → List Interface → List ℕ → ℕ → Type 0
Told order known body kind = lacks kind (read_packet order known kind body) ≡ false

Sound : Order → List Interface → List ℕ → ℕ → Type 0
Sound order known body kind = Says order known kind body (read_packet order known kind body) (read_interfaces order known kind body)

sound_1 : (order : Order) (known : List Interface) (body : List ℕ) → 8 ≤ length body → AreBytes body → Sound order known body 1
unfolding Sound read_packet read_interfaces
sound_1 order known body le f =
    let b1 = drop 2 body in
    let b2 = drop 2 b1 in
    let f1 = AreBytes-drop 2 body f in
    let l1 : 6 ≤ length b1 = omega (arith, length-drop 2 body) in
    let l2 : 4 ≤ length b2 = omega (arith, length-drop 2 b1) in
    let fo = AreBytes-take 1048576 (drop 4 b2) (AreBytes-drop 4 b2 (AreBytes-drop 2 b1 f1)) in
    describes (read_interface order body) refl (record {
      reserved = number16 order b1;
      options = drop 4 b2;
      whole = split16 order body (omega arith) f ∙ ap (λ (x : List ℕ). u16 order (number16 order body) ++ x) (split16 order b1 (omega arith) f1
          ∙ ap (λ (x : List ℕ). u16 order (number16 order b1) ++ x) (split32 order b2 l2 (AreBytes-drop 2 b1 f1)));
      link_fits = number16-lt order body f;
      snap_fits = number32-lt order b2 (AreBytes-drop 2 b1 f1);
      resolution = resolution_sound order (take 1048576 (drop 4 b2)) fo;
      offset = offset_sound order (take 1048576 (drop 4 b2)) fo;
    }) refl refl

sound_6 : (order : Order) (known : List Interface) (body : List ℕ) → Told order known body 6 → 20 ≤ length body → length body ≤ 16777236 → AreBytes body → Sound order known body 6
unfolding Sound Told read_packet read_interfaces
sound_6 order known body told le most_fits f = enhanced refl (record {
  number = number32 order body;
  rest = drop 4 body;
  whole = split32 order body (omega arith) f;
  fits = number32-lt order body f;
  described = within_6 order known body told;
  stamped = stamped_sound order known (number32 order body) (drop 4 body) (omega (arith, length-drop 4 body)) (omega (arith, length-drop 4 body))
      (AreBytes-drop 4 body f);
}) refl

sound_2 : (order : Order) (known : List Interface) (body : List ℕ) → Told order known body 2 → 20 ≤ length body → length body ≤ 16777236 → AreBytes body → Sound order known body 2
unfolding Sound Told read_packet read_interfaces
sound_2 order known body told le most_fits f =
    let b1 = drop 2 body in
    let f1 = AreBytes-drop 2 body f in
    let l1 : 18 ≤ length b1 = omega (arith, length-drop 2 body) in
    let m1 : length b1 ≤ 16777234 = omega (arith, length-drop 2 body) in
    obsolete refl (record {
      number = number16 order body;
      drops = number16 order b1;
      rest = drop 2 b1;
      whole = split16 order body (omega arith) f ∙ ap (λ (x : List ℕ). u16 order (number16 order body) ++ x) (split16 order b1 (omega arith) f1);
      fits = number16-lt order body f;
      described = within_2 order known body told;
      stamped = stamped_sound order known (number16 order body) (drop 2 b1) (omega (arith, length-drop 2 b1)) (omega (arith, length-drop 2 b1))
          (AreBytes-drop 2 b1 f1);
    }) refl

sound_3 : (order : Order) (known : List Interface) (body : List ℕ) → Told order known body 3 → 4 ≤ length body → length body ≤ 16777220 → AreBytes body → Sound order known body 3
unfolding Sound Told read_packet read_interfaces
sound_3 order known body told le most_fits f = simple refl (record {
  original = number32 order body;
  octets = drop 4 body;
  whole = split32 order body le f;
  fits = number32-lt order body f;
  octets_fit = omega (arith, length-drop 4 body);
  described = within_3 order known body told;
  handed = refl;
}) refl

pub packet_of_other : (order : Order) (known : List Interface) (kind : ℕ) (body : List ℕ) → kind ≢ 2 → kind ≢ 3 → kind ≢ 6
    → read_packet order known kind body ≡ None
unfolding read_packet
packet_of_other order known kind body n2 n3 n6 =
    let a : eqb kind 6 ≡ false = ne_false kind 6 n6 in
    let b : eqb kind 2 ≡ false = ne_false kind 2 n2 in
    let c : eqb kind 3 ≡ false = ne_false kind 3 n3 in
    rw (a, b, c) refl

pub interfaces_of_other : (order : Order) (known : List Interface) (kind : ℕ) (body : List ℕ) → kind ≢ 1 → read_interfaces order known kind body ≡ known
unfolding read_interfaces
interfaces_of_other order known kind body n = let a : eqb kind 1 ≡ false = ne_false kind 1 n in rw a refl

pub eq_cases : (a b : ℕ) → (a ≡ b) ⊎ (a ≢ b)
eq_cases a b = elim (chosen (eqb a b) zero zero zero (elim (eqb a b) as (λ v. cond v zero zero ≡ zero) [ true ↦ refl | false ↦ refl ])) [
  | inl x ↦ inl (eq_true a b x.0)
  | inr x ↦ inr (eq_false a b x.0)
]

pub least_at : (k kind n : ℕ) → kind ≡ k → least kind ≤ n → least k ≤ n
least_at k kind n e h = subst (λ (x : ℕ). least x ≤ n) e h

least_1 : (n : ℕ) → least 1 ≤ n → 8 ≤ n
unfolding least
least_1 n h = h

pub least_2 : (n : ℕ) → least 2 ≤ n → 20 ≤ n
unfolding least
least_2 n h = h

pub least_3 : (n : ℕ) → least 3 ≤ n → 4 ≤ n
unfolding least
least_3 n h = h

pub least_6 : (n : ℕ) → least 6 ≤ n → 20 ≤ n
unfolding least
least_6 n h = h

most_at : (k kind n : ℕ) → kind ≡ k → n ≤ most kind → n ≤ most k
most_at k kind n e h = subst (λ (x : ℕ). n ≤ most x) e h

most_2 : (n : ℕ) → n ≤ most 2 → n ≤ 16777236
unfolding most
most_2 n h = h

most_3 : (n : ℕ) → n ≤ most 3 → n ≤ 16777220
unfolding most
most_3 n h = h

most_6 : (n : ℕ) → n ≤ most 6 → n ≤ 16777236
unfolding most
most_6 n h = h

pub says_sound : (order : Order) (known : List Interface) (kind : ℕ) (body : List ℕ) → least kind ≤ length body → length body ≤ most kind
    → kind ≢ section_type → AreBytes body → lacks kind (read_packet order known kind body) ≡ false
    → Says order known kind body (read_packet order known kind body) (read_interfaces order known kind body)
unfolding Sound Told
says_sound order known kind body le most_fits not_section f told =
    let at : (k : ℕ) → kind ≡ k → Told order known body k = λ k e. subst (λ (x : ℕ). lacks x (read_packet order known x body) ≡ false) e told in
    elim (eq_cases kind 1) [
      | inl e ↦ subst (Sound order known body) (sym e) (sound_1 order known body (least_1 (length body) (least_at 1 kind (length body) e le)) f)
      | inr n1 ↦ elim (eq_cases kind 2) [
        | inl e ↦ subst (Sound order known body) (sym e) (sound_2 order known body (at 2 e) (least_2 (length body) (least_at 2 kind (length body) e le))
            (most_2 (length body) (most_at 2 kind (length body) e most_fits)) f)
        | inr n2 ↦ elim (eq_cases kind 3) [
          | inl e ↦ subst (Sound order known body) (sym e) (sound_3 order known body (at 3 e) (least_3 (length body) (least_at 3 kind (length body) e le))
              (most_3 (length body) (most_at 3 kind (length body) e most_fits)) f)
          | inr n3 ↦ elim (eq_cases kind 6) [
            | inl e ↦ subst (Sound order known body) (sym e) (sound_6 order known body (at 6 e) (least_6 (length body) (least_at 6 kind (length body) e le))
                (most_6 (length body) (most_at 6 kind (length body) e most_fits)) f)
            | inr n6 ↦ passed_over n1 n2 n3 n6 not_section (packet_of_other order known kind body n2 n3 n6) (interfaces_of_other order known kind body n1)
          ]
        ]
      ]
    ]
