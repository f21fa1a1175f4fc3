-- What the body of a block says is read from it, also from its front.
use Rattle.std.proofs.Common.{◌≡◌, ◌≢◌, ℕ, ◌+◌, ◌-◌, ◌*◌, ◌^◌, ◌≤◌, ◌<◌, false, eqb, min, List, ◌++◌, length, take, drop, slice_get, refl, sym, ap, subst, ◌∙◌}
use Rattle.std.proofs.Common.{arith, inl, inr, Option, Some, None}
use Rattle.std.proofs.lemmas.Bool.{cases_lt}
use Rattle.std.proofs.lemmas.List.{take-take, take_all, length-take}
use Rattle.std.specs.Prelude.{ℤ}
use Rattle.bt_pcap.specs.declared.numbers.Order.{Order}
use Rattle.bt_pcap.specs.declared.interfaces.Interface.{Interface}
use Rattle.bt_pcap.specs.Numbers.{u16, u32, number16, number32}
use Rattle.bt_pcap.specs.Interfaces.{noted}
use Rattle.bt_pcap.specs.Options.{resolution_of, offset_of}
use Rattle.bt_pcap.specs.Times.{nanos_of}
use Rattle.bt_pcap.specs.Formats.{Captured}
use Rattle.bt_pcap.specs.Packets.{packet_at, packet_on, simple_on, snapped}
use Rattle.bt_pcap.specs.Items.{IsInterface, IsEnhanced, IsObsolete, IsSimple, Says, describes, enhanced, obsolete, simple, passed_over}
use Rattle.bt_pcap.specs.Reading.{word, lacks, read_stamped, read_packet, read_interface, read_interfaces, least, most}
use Rattle.bt_pcap.proofs.NumberLaws.{number32-u32, drop-u32, length-u32, number16-u16, drop-u16, length-u16, drop-front, word-take}
use Rattle.bt_pcap.proofs.OptionValues.{resolution_again, offset_again}
use Rattle.bt_pcap.proofs.Readings.{ne_false}
use Rattle.bt_pcap.proofs.BodyLaws.{stamped_again, packet_of_other, interfaces_of_other}
use Rattle.bt_pcap.proofs.Described.{on_2, on_3, on_6}

-- a block of that type says this
pub record Again (order : Order) (known : List Interface) (kind : ℕ) (body : List ℕ) (p : Option Captured) (after : List Interface) : Type 0 where
  pub packet_is : read_packet order known kind body ≡ p
  pub told : lacks kind (read_packet order known kind body) ≡ false
  pub after_is : read_interfaces order known kind body ≡ after
  pub enough : least kind ≤ length body
  pub within : length body ≤ most kind

abbrev made : ℕ → ℕ → ℕ → ℤ → Interface
made link snap resolution offset = record { link = link; snap = snap; resolution = resolution; offset = offset }

interface_again : (order : Order) (i : Interface) (body : List ℕ) → IsInterface order i body → (read_interface order body ≡ i) × (8 ≤ length body)
interface_again order i body s =
    let r2 = u32 order i.snap ++ s.options in
    let r1 = u16 order s.reserved ++ r2 in
    let d1 : drop 2 body ≡ r1 = ap (drop 2) s.whole ∙ drop-u16 order i.link r1 in
    let d2 : drop 2 (drop 2 body) ≡ r2 = ap (drop 2) d1 ∙ drop-u16 order s.reserved r2 in
    let d3 : drop 4 (drop 2 (drop 2 body)) ≡ s.options = ap (drop 4) d2 ∙ drop-u32 order i.snap s.options in
    let n : number32 order (drop 2 (drop 2 body)) ≡ i.snap = ap (number32 order) d2 ∙ number32-u32 order i.snap s.options s.snap_fits in
    let l : number16 order body ≡ i.link = ap (number16 order) s.whole ∙ number16-u16 order i.link r1 s.link_fits in
    let options = take 1048576 (drop 4 (drop 2 (drop 2 body))) in
    let d4 : options ≡ take 1048576 s.options = ap (take 1048576) d3 in
    let r : resolution_of order options ≡ i.resolution =
    ap (resolution_of order) d4 ∙ resolution_again order (take 1048576 s.options) i.resolution s.resolution in
    let o : offset_of order options ≡ i.offset = ap (offset_of order) d4 ∙ offset_again order (take 1048576 s.options) i.offset s.offset in
    let size : length body ≡ 8 + length s.options = ap (length {A = ℕ}) s.whole
    ∙ omega (arith, length-u16 order i.link r1, length-u16 order s.reserved r2, length-u32 order i.snap s.options) in
    let read : ℕ = resolution_of order options in
    let moves : ℤ = offset_of order options in (
      ap (λ (k : ℕ). made k (number32 order (drop 2 (drop 2 body))) read moves) l ∙ (ap (λ (k : ℕ). made i.link k read moves) n
          ∙ (ap (λ (k : ℕ). made i.link i.snap k moves) r ∙ ap (made i.link i.snap i.resolution) o)),
      omega (arith, size),
    )

again_1 : (order : Order) (known : List Interface) (body : List ℕ) (p : Option Captured) (after : List Interface) (i : Interface)
    → IsInterface order i body → p ≡ None → after ≡ noted known i → length body ≤ most 1 → Again order known 1 body p after
unfolding read_packet read_interfaces least
again_1 order known body p after i s ep ea within =
    let r = interface_again order i body s in
    record { packet_is = sym ep; told = refl; after_is = ap (noted known) r.0 ∙ sym ea; enough = r.1; within = within }

again_6 : (order : Order) (known : List Interface) (body : List ℕ) (p : Option Captured) (after : List Interface) → IsEnhanced order known p body
    → after ≡ known → Again order known 6 body p after
unfolding read_packet read_interfaces least most
again_6 order known body p after s ea =
    let r = stamped_again order known s.number p s.rest s.stamped in
    let n : number32 order body ≡ s.number = ap (number32 order) s.whole ∙ number32-u32 order s.number s.rest s.fits in
    let d : drop 4 body ≡ s.rest = ap (drop 4) s.whole ∙ drop-u32 order s.number s.rest in
    let size : length body ≡ 4 + length s.rest = ap (length {A = ℕ}) s.whole ∙ length-u32 order s.number s.rest in
    record {
      packet_is = ap (λ (k : ℕ). read_stamped order known k (drop 4 body)) n ∙ (ap (read_stamped order known s.number) d
          ∙ r.0);
      told = on_6 order known body (omega (arith, n, s.described));
      after_is = sym ea;
      enough = omega (arith, size, r.1);
      within = omega (arith, size, r.2);
    }

again_2 : (order : Order) (known : List Interface) (body : List ℕ) (p : Option Captured) (after : List Interface) → IsObsolete order known p body
    → after ≡ known → Again order known 2 body p after
unfolding read_packet read_interfaces least most
again_2 order known body p after s ea =
    let r = stamped_again order known s.number p s.rest s.stamped in
    let r1 = u16 order s.drops ++ s.rest in
    let n : number16 order body ≡ s.number = ap (number16 order) s.whole ∙ number16-u16 order s.number r1 s.fits in
    let d1 : drop 2 body ≡ r1 = ap (drop 2) s.whole ∙ drop-u16 order s.number r1 in
    let d2 : drop 2 (drop 2 body) ≡ s.rest = ap (drop 2) d1 ∙ drop-u16 order s.drops s.rest in
    let size : length body ≡ 4 + length s.rest = ap (length {A = ℕ}) s.whole ∙ omega (arith, length-u16 order s.number r1, length-u16 order s.drops s.rest) in
    record {
      packet_is = ap (λ (k : ℕ). read_stamped order known k (drop 2 (drop 2 body))) n ∙ (ap (read_stamped order known s.number) d2 ∙ r.0);
      told = on_2 order known body (omega (arith, n, s.described));
      after_is = sym ea;
      enough = omega (arith, size, r.1);
      within = omega (arith, size, r.2);
    }

again_3 : (order : Order) (known : List Interface) (body : List ℕ) (p : Option Captured) (after : List Interface) → IsSimple order known p body
    → after ≡ known → Again order known 3 body p after
unfolding read_packet read_interfaces least most
again_3 order known body p after s ea =
    let n : number32 order body ≡ s.original = ap (number32 order) s.whole ∙ number32-u32 order s.original s.octets s.fits in
    let d : drop 4 body ≡ s.octets = ap (drop 4) s.whole ∙ drop-u32 order s.original s.octets in
    let size : length body ≡ 4 + length s.octets = ap (length {A = ℕ}) s.whole ∙ length-u32 order s.original s.octets in
    record {
      packet_is = ap (λ (k : ℕ). simple_on (slice_get known 0) (drop 4 body) k) n
          ∙ (ap (λ (x : List ℕ). simple_on (slice_get known 0) x s.original) d ∙ sym s.handed);
      told = on_3 order known body s.described;
      after_is = sym ea;
      enough = omega (arith, size);
      within = omega (arith, size, s.octets_fit);
    }

least_other : (kind : ℕ) → kind ≢ 1 → kind ≢ 2 → kind ≢ 3 → kind ≢ 6 → least kind ≡ 0
unfolding least
least_other kind n1 n2 n3 n6 =
    let a : eqb kind 1 ≡ false = ne_false kind 1 n1 in
    let b : eqb kind 2 ≡ false = ne_false kind 2 n2 in
    let c : eqb kind 3 ≡ false = ne_false kind 3 n3 in
    let d : eqb kind 6 ≡ false = ne_false kind 6 n6 in
    rw (a, b, c, d) refl

pub other_lacks : (kind : ℕ) → kind ≢ 2 → kind ≢ 3 → kind ≢ 6 → lacks kind None ≡ false
other_lacks kind n2 n3 n6 =
    let b : eqb kind 2 ≡ false = ne_false kind 2 n2 in
    let c : eqb kind 3 ≡ false = ne_false kind 3 n3 in
    let d : eqb kind 6 ≡ false = ne_false kind 6 n6 in
    rw (b, c, d) refl

most_other : (kind : ℕ) → kind ≢ 2 → kind ≢ 3 → kind ≢ 6 → most kind ≡ 2 ^ 32 - 1
unfolding most
most_other kind n2 n3 n6 =
    let b : eqb kind 2 ≡ false = ne_false kind 2 n2 in
    let c : eqb kind 3 ≡ false = ne_false kind 3 n3 in
    let d : eqb kind 6 ≡ false = ne_false kind 6 n6 in
    rw (b, c, d) refl

most_1 : (n : ℕ) → n < 2 ^ 32 → n ≤ most 1
unfolding most
most_1 n h = omega arith

pub says_again : (order : Order) (known : List Interface) (kind : ℕ) (body : List ℕ) (p : Option Captured) (after : List Interface)
    → Says order known kind body p after → length body < 2 ^ 32 → Again order known kind body p after
says_again order known kind body p after (describes i e s ep ea) fits = subst (λ (k : ℕ). Again order known k body p after) (sym e)
    (again_1 order known body p after i s ep ea (most_1 (length body) (omega arith)))
says_again order known kind body p after (enhanced e s ea) fits =
    subst (λ (k : ℕ). Again order known k body p after) (sym e) (again_6 order known body p after s ea)
says_again order known kind body p after (obsolete e s ea) fits =
    subst (λ (k : ℕ). Again order known k body p after) (sym e) (again_2 order known body p after s ea)
says_again order known kind body p after (simple e s ea) fits =
    subst (λ (k : ℕ). Again order known k body p after) (sym e) (again_3 order known body p after s ea)
says_again order known kind body p after (passed_over n1 n2 n3 n6 ns ep ea) fits = record {
  packet_is = packet_of_other order known kind body n2 n3 n6 ∙ sym ep;
  told = ap (lacks kind) (packet_of_other order known kind body n2 n3 n6) ∙ other_lacks kind n2 n3 n6;
  after_is = interfaces_of_other order known kind body n1 ∙ sym ea;
  enough = omega (arith, least_other kind n1 n2 n3 n6);
  within = omega (arith, most_other kind n2 n3 n6);
}

-- ---- the front of a body

pub take-min : {X : Type 0} (m n : ℕ) (xs : List X) → take m (take n xs) ≡ take (min m n) xs
take-min m n xs =
    elim (cases_lt m n) [
      | inl lt ↦ take-take m n xs (omega arith) ∙ ap (λ (k : ℕ). take k xs) (omega arith)
      | inr le ↦ take_all m (take n xs) (omega (arith, length-take n xs)) ∙ ap (λ (k : ℕ). take k xs) (omega arith)
    ]

-- the first bytes of what is left after a cut
pub kept : (c m : ℕ) (xs : List ℕ) → 1048576 ≤ m → take 1048576 (take c (take m xs)) ≡ take 1048576 (take c xs)
kept c m xs le =
    take-min 1048576 c (take m xs) ∙ (take-take (min 1048576 c) m xs (omega arith) ∙ sym (take-min 1048576 c xs))

at_cut : (i : Interface) (nanos o : ℕ) (x y : List ℕ) → take 1048576 x ≡ take 1048576 y → packet_at i nanos x o ≡ packet_at i nanos y o
at_cut i nanos o x y e = ap (λ (z : List ℕ). record { link = i.link; nanos = nanos; bytes = z; original = o }) e

pub on_cut : (on : Option Interface) (ticks o : ℕ) (x y : List ℕ) → take 1048576 x ≡ take 1048576 y → packet_on on ticks x o ≡ packet_on on ticks y o
on_cut None ticks o x y e = refl
on_cut (Some i) ticks o x y e = ap (λ (p : Captured). Some p) (at_cut i (nanos_of i.resolution i.offset ticks) o x y e)

-- of a simple packet too, whatever its interface's snap length is
pub simple_cut : (on : Option Interface) (o m : ℕ) (octets : List ℕ) → 1048576 ≤ m → simple_on on (take m octets) o ≡ simple_on on octets o
simple_cut None o m octets le = refl
simple_cut (Some i) o m octets le =
    let c = snapped i.snap o in
    ap (λ (p : Captured). Some p) (at_cut i 0 o (take c (take m octets)) (take c octets) (kept c m octets le))

drops_front : (m : ℕ) (b : List ℕ) → 16 ≤ m → drop 4 (drop 4 (drop 4 (drop 4 (take m b)))) ≡ take (m - 16) (drop 4 (drop 4 (drop 4 (drop 4 b))))
drops_front m b le =
    let d1 = drop-front 4 m b (omega arith) in
    let d2 = ap (drop 4) d1 ∙ drop-front 4 (m - 4) (drop 4 b) (omega arith) in
    let d3 = ap (drop 4) d2 ∙ drop-front 4 (m - 4 - 4) (drop 4 (drop 4 b)) (omega arith) in
    ap (drop 4) d3 ∙ (drop-front 4 (m - 4 - 4 - 4) (drop 4 (drop 4 (drop 4 b))) (omega arith)
    ∙ ap (λ (k : ℕ). take k (drop 4 (drop 4 (drop 4 (drop 4 b))))) (omega arith))

pub stamped_cut : (order : Order) (known : List Interface) (number m : ℕ) (b : List ℕ) → 1048592 ≤ m
    → read_stamped order known number (take m b) ≡ read_stamped order known number b
unfolding read_stamped
stamped_cut order known number m b le =
    let on = slice_get known number in
    let octets = drop 4 (drop 4 (drop 4 (drop 4 b))) in
    rw (
      word-take order 0 m b (omega arith),
      word-take order 1 m b (omega arith),
      word-take order 2 m b (omega arith),
      word-take order 3 m b
          (omega arith),
      drops_front m b (omega arith),
    )
    (on_cut on (word order 0 b * 2 ^ 32 + word order 1 b) (word order 3 b) (take (word order 2 b) (take (m - 16) octets)) (take
    (word order 2 b) octets) (kept (word order 2 b) (m - 16) octets (omega arith)))
