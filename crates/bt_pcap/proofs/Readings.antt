-- When bytes are read as an item, and as which.
use Rattle.std.proofs.Common.{◌≡◌, ◌≢◌, ℕ, ◌-◌, ◌%◌, ◌≤◌, ◌<◌, ◌⊎◌, Bool, true, false, cond, eqb, ltb, min, List, [], length, refl, subst, arith, inl, inr}
use Rattle.std.proofs.Common.{Option, Some, None}
use Rattle.std.proofs.lemmas.Bool.Decides.{nat_tests}
use Rattle.bt_pcap.specs.declared.numbers.Order.{Order}
use Rattle.bt_pcap.specs.declared.numbers.Order.TheVariants.{Little, Big}
use Rattle.bt_pcap.specs.declared.interfaces.Interface.{Interface}
use Rattle.bt_pcap.specs.declared.fault.FileFault.{FileFault}
use Rattle.bt_pcap.specs.declared.fault.FileFault.TheVariants.{ByteOrder, Length, TooShort, RecordLength, Undescribed, Unlike}
use Rattle.bt_pcap.specs.Numbers.{number32}
use Rattle.bt_pcap.specs.Formats.{Format, Pcap, Pcapng, Captured}
use Rattle.bt_pcap.specs.Reading.{Answer, Item, Undecided, Faulty, word, whole, read_header, record_size, record_packet, read_record, read_packet}
use Rattle.bt_pcap.specs.Reading.{read_interfaces, least, most, differs, lacks, whole_block, body_of, read_other, read_section_in, read_section, read_block}

pub chosen : {X : Type 0} (b : Bool) (x y z : X) → cond b x y ≡ z → ((b ≡ true) × (x ≡ z)) ⊎ ((b ≡ false) × (y ≡ z))
chosen true x y z e = inl (refl, e)
chosen false x y z e = inr (refl, e)

pub eq_true : (a b : ℕ) → eqb a b ≡ true → a ≡ b
eq_true a b e = grind (arith, nat_tests)

pub eq_false : (a b : ℕ) → eqb a b ≡ false → a ≢ b
eq_false a b e = grind (arith, nat_tests)

pub ne_false : (a b : ℕ) → a ≢ b → eqb a b ≡ false
ne_false a b e = grind (arith, nat_tests)

pub same_true : (a b : ℕ) → a ≡ b → eqb a b ≡ true
same_true a b e = grind (arith, nat_tests)

pub lt_false : (a b : ℕ) → ltb a b ≡ false → b ≤ a
lt_false a b e = grind (arith, nat_tests)

pub lt_true : (a b : ℕ) → ltb a b ≡ true → a < b
lt_true a b e = grind (arith, nat_tests)

pub ge_false : (a b : ℕ) → b ≤ a → ltb a b ≡ false
ge_false a b e = grind (arith, nat_tests)

pub less_true : (a b : ℕ) → a < b → ltb a b ≡ true
less_true a b e = grind (arith, nat_tests)

-- what isn't undecided
pub decided : (b : Bool) (x : Answer) (p : Option Captured) (n : ℕ) (s : Format) → cond b Undecided x ≡ Item p n s → (b ≡ false) × (x ≡ Item p n s)
decided true x p n s e = absurd (cc)
decided false x p n s e = (refl, e)

pub faultless : (b : Bool) (f : FileFault) (x : Answer) (p : Option Captured) (n : ℕ) (s : Format) → cond b (Faulty f) x ≡ Item p n s
    → (b ≡ false) × (x ≡ Item p n s)
faultless true f x p n s e = absurd (cc)
faultless false f x p n s e = (refl, e)

pub whole_item : (size : ℕ) (bytes : List ℕ) (packet : Option Captured) (next : Format) (p : Option Captured) (n : ℕ) (s : Format)
    → whole size bytes packet next ≡ Item p n s → (min size 1048604 ≤ length bytes) × (packet ≡ p) × (size ≡ n) × (next ≡ s)
whole_item size bytes packet next p n s e =
    let d = decided (ltb (length bytes) (min size 1048604)) (Item packet size next) p n s e in
    let f : Item packet size next ≡ Item p n s = d.1 in
    (lt_false (length bytes) (min size 1048604) d.0, (cc), (cc), (cc))

pub whole_made : (size : ℕ) (bytes : List ℕ) (packet : Option Captured) (next : Format) → min size 1048604 ≤ length bytes
    → whole size bytes packet next ≡ Item packet size next
whole_made size bytes packet next le = let f : ltb (length bytes) (min size 1048604) ≡ false = ge_false (length bytes) (min size 1048604) le in rw f refl

-- a block too, if it doesn't lack its packet
pub whole_block_item : (order : Order) (kind size : ℕ) (bytes : List ℕ) (packet : Option Captured) (next : Format) (p : Option Captured) (n : ℕ) (s : Format)
    → whole_block order kind size bytes packet next ≡ Item p n s
    → (min size 1048604 ≤ length bytes) × (differs order size bytes ≡ false) × (lacks kind packet ≡ false) × (packet ≡ p) × (size ≡ n) × (next ≡ s)
whole_block_item order kind size bytes packet next p n s e =
    let told = cond (lacks kind packet) (Faulty Undescribed) (Item packet size next) in
    let d = decided (ltb (length bytes) (min size 1048604)) (cond (differs order size bytes) (Faulty Unlike) told) p n s e in
    let u = faultless (differs order size bytes) Unlike told p n s d.1 in
    let t = faultless (lacks kind packet) Undescribed (Item packet size next) p n s u.1 in
    let f : Item packet size next ≡ Item p n s = t.1 in
    (lt_false (length bytes) (min size 1048604) d.0, u.0, t.0, (cc), (cc), (cc))

pub whole_block_made : (order : Order) (kind size : ℕ) (bytes : List ℕ) (packet : Option Captured) (next : Format) → min size 1048604 ≤ length bytes
    → differs order size bytes ≡ false → lacks kind packet ≡ false → whole_block order kind size bytes packet next ≡ Item packet size next
whole_block_made order kind size bytes packet next le same told =
    let f : ltb (length bytes) (min size 1048604) ≡ false = ge_false (length bytes) (min size 1048604) le in rw (f, same, told) refl

-- ---- pcap

pub header_item : (order : Order) (scale : ℕ) (a : List ℕ) (p : Option Captured) (n : ℕ) (s : Format)
    → read_header order scale a ≡ Item p n s → (24 ≤ length a) × (None ≡ p) × (24 ≡ n) × (Pcap order scale (word order 5 a % 65536) ≡ s)
unfolding read_header
header_item order scale a p n s e =
    let d = decided (ltb (length a) 24) (Item None 24 (Pcap order scale (word order 5 a % 65536))) p n s e in
    let f : Item None 24 (Pcap order scale (word order 5 a % 65536)) ≡ Item p n s = d.1 in
    (lt_false (length a) 24 d.0, (cc), (cc), (cc))

pub header_made : (order : Order) (scale : ℕ) (a : List ℕ) → 24 ≤ length a
    → read_header order scale a ≡ Item None 24 (Pcap order scale (word order 5 a % 65536))
unfolding read_header
header_made order scale a le = let f : ltb (length a) 24 ≡ false = ge_false (length a) 24 le in rw f refl

pub record RecordItem (order : Order) (scale link : ℕ) (a : List ℕ) (p : Option Captured) (n : ℕ) (s : Format) : Type 0 where
  pub enough : min (record_size order a) 1048604 ≤ length a
  pub packet_is : Some (record_packet order scale link a) ≡ p
  pub size_is : record_size order a ≡ n
  pub next_is : Pcap order scale link ≡ s
  pub fits : word order 2 a ≤ 16777216

pub record_item : (order : Order) (scale link : ℕ) (a : List ℕ) (p : Option Captured) (n : ℕ) (s : Format)
    → read_record order scale link a ≡ Item p n s → RecordItem order scale link a p n s
unfolding read_record
record_item order scale link a p n s e =
    let made = whole (record_size order a) a (Some (record_packet order scale link a)) (Pcap order scale link) in
    let d = decided (ltb (length a) 16) (cond (ltb 16777216 (word order 2 a)) (Faulty RecordLength) made) p n s e in
    let t = faultless (ltb 16777216 (word order 2 a)) RecordLength made p n s d.1 in
    let w = whole_item (record_size order a) a (Some (record_packet order scale link a)) (Pcap order scale link) p n s t.1 in
    record {
      enough = w.0;
      packet_is = w.1;
      size_is = w.2;
      next_is = w.3;
      fits = lt_false 16777216 (word order 2 a) t.0;
    }

pub record_made : (order : Order) (scale link : ℕ) (a : List ℕ) → word order 2 a ≤ 16777216 → min (record_size order a) 1048604 ≤ length a
    → read_record order scale link a ≡ Item (Some (record_packet order scale link a)) (record_size order a) (Pcap order scale link)
unfolding read_record
record_made order scale link a fits le =
    let f : ltb (length a) 16 ≡ false = ge_false (length a) 16 (omega arith) in
    let g : ltb 16777216 (word order 2 a) ≡ false = ge_false 16777216 (word order 2 a) fits in
    rw (f, g) (whole_made (record_size order a) a (Some (record_packet order scale link a)) (Pcap order scale link) le)

-- ---- pcapng

pub record OtherItem (order : Order) (known : List Interface) (kind total : ℕ) (a : List ℕ) (p : Option Captured) (n : ℕ) (s : Format) : Type 0 where
  pub least_total : 12 ≤ total
  pub least_fits : least kind ≤ total - 12
  pub most_fits : total - 12 ≤ most kind
  pub enough : min total 1048604 ≤ length a
  pub alike : differs order total a ≡ false
  pub described : lacks kind (read_packet order known kind (body_of total a)) ≡ false
  pub packet_is : read_packet order known kind (body_of total a) ≡ p
  pub size_is : total ≡ n
  pub next_is : Pcapng order (read_interfaces order known kind (body_of total a)) ≡ s

pub other_item : (order : Order) (known : List Interface) (kind total : ℕ) (a : List ℕ) (p : Option Captured) (n : ℕ) (s : Format)
    → read_other order known kind total a ≡ Item p n s → OtherItem order known kind total a p n s
unfolding read_other
other_item order known kind total a p n s e =
    let packet = read_packet order known kind (body_of total a) in
    let next = Pcapng order (read_interfaces order known kind (body_of total a)) in
    let short = cond (ltb (most kind) (total - 12)) (Faulty Length) (whole_block order kind total a packet next) in
    let d = faultless (ltb total 12) Length (cond (ltb (total - 12) (least kind)) (Faulty TooShort) short) p n s e in
    let t = faultless (ltb (total - 12) (least kind)) TooShort short p n s d.1 in
    let m = faultless (ltb (most kind) (total - 12)) Length (whole_block order kind total a packet next) p n s t.1 in
    let w = whole_block_item order kind total a packet next p n s m.1 in
    record {
      least_total = lt_false total 12 d.0;
      least_fits = lt_false (total - 12) (least kind) t.0;
      most_fits = lt_false (most kind) (total - 12) m.0;
      enough = w.0;
      alike = w.1;
      described = w.2;
      packet_is = w.3;
      size_is = w.4;
      next_is = w.5;
    }

pub other_made : (order : Order) (known : List Interface) (kind total : ℕ) (a : List ℕ) → 12 ≤ total → least kind ≤ total - 12 → total - 12 ≤ most kind
    → min total 1048604 ≤ length a → differs order total a ≡ false → lacks kind (read_packet order known kind (body_of total a)) ≡ false
    → read_other order known kind total a ≡ Item (read_packet order known kind (body_of total a)) total (Pcapng order
    (read_interfaces order known kind (body_of total a)))
unfolding read_other
other_made order known kind total a lo fits most_fits le same told =
    let f : ltb total 12 ≡ false = ge_false total 12 lo in
    let g : ltb (total - 12) (least kind) ≡ false = ge_false (total - 12) (least kind) fits in
    let h : ltb (most kind) (total - 12) ≡ false = ge_false (most kind) (total - 12) most_fits in
    rw (f, g, h) (whole_block_made order kind total a (read_packet order known kind (body_of total a)) (Pcapng order (read_interfaces order known kind (body_of total a)))
    le same told)

-- the byte-order magic, read in big-endian order
abbrev pub magic_of : Order → ℕ
magic_of Big = 0x1A2B3C4D
magic_of Little = 0x4D3C2B1A

pub record SectionItem (a : List ℕ) (p : Option Captured) (n : ℕ) (s : Format) : Type 0 where
  pub order : Order
  pub magic : word Big 2 a ≡ magic_of order
  pub least_total : 16 ≤ n
  pub enough : min n 1048604 ≤ length a
  pub alike : differs order n a ≡ false
  pub packet_is : None ≡ p
  pub size_is : word order 1 a ≡ n
  pub next_is : Pcapng order [] ≡ s

section_in : (order : Order) (a : List ℕ) (p : Option Captured) (n : ℕ) (s : Format) → word Big 2 a ≡ magic_of order
    → read_section_in order (word order 1 a) a ≡ Item p n s → SectionItem a p n s
section_in order a p n s magic e =
    let d = faultless (ltb (word order 1 a) 16) Length (whole_block order 0x0A0D0D0A (word order 1 a) a None (Pcapng order [])) p n s e in
    let w = whole_block_item order 0x0A0D0D0A (word order 1 a) a None (Pcapng order []) p n s d.1 in
    let size : word order 1 a ≡ n = w.4 in
    let lo : 16 ≤ word order 1 a = lt_false (word order 1 a) 16 d.0 in
    record {
      order = order;
      magic = magic;
      least_total = subst (λ (k : ℕ). 16 ≤ k) size lo;
      enough = subst (λ (k : ℕ). min k 1048604 ≤ length a) size w.0;
      alike = subst (λ (k : ℕ). differs order k a ≡ false) size w.1;
      packet_is = w.3;
      size_is = size;
      next_is = w.5;
    }

section_little : (a : List ℕ) (p : Option Captured) (n : ℕ) (s : Format)
    → cond (eqb (word Big 2 a) 0x4D3C2B1A) (read_section_in Little (word Little 1 a) a) (Faulty ByteOrder) ≡ Item p n s → SectionItem a p n s
section_little a p n s e =
    elim (chosen (eqb (word Big 2 a) 0x4D3C2B1A) (read_section_in Little (word Little 1 a) a) (Faulty ByteOrder) (Item p n s) e) [
      | inl x ↦ section_in Little a p n s (eq_true (word Big 2 a) 0x4D3C2B1A x.0) x.1
      | inr x ↦ let f : Faulty ByteOrder ≡ Item p n s = x.1 in absurd (cc)
    ]

pub section_item : (a : List ℕ) (p : Option Captured) (n : ℕ) (s : Format) → read_section a ≡ Item p n s → SectionItem a p n s
unfolding read_section
section_item a p n s e =
    let rest = cond (eqb (word Big 2 a) 0x4D3C2B1A) (read_section_in Little (word Little 1 a) a) (Faulty ByteOrder) in
    let d = decided (ltb (length a) 12) (cond (eqb (word Big 2 a) 0x1A2B3C4D) (read_section_in Big (word Big 1 a) a) rest) p n s e in
    elim (chosen (eqb (word Big 2 a) 0x1A2B3C4D) (read_section_in Big (word Big 1 a) a) rest (Item p n s) d.1) [
      | inl x ↦ section_in Big a p n s (eq_true (word Big 2 a) 0x1A2B3C4D x.0) x.1
      | inr x ↦ section_little a p n s x.1
    ]

pub section_made : (order : Order) (a : List ℕ) → word Big 2 a ≡ magic_of order → 16 ≤ word order 1 a → min (word order 1 a) 1048604 ≤ length a
    → differs order (word order 1 a) a ≡ false → read_section a ≡ Item None (word order 1 a) (Pcapng order [])
unfolding read_section
section_made Big a magic lo le same =
    let f : ltb (length a) 12 ≡ false = ge_false (length a) 12 (omega arith) in
    let m : eqb (word Big 2 a) 0x1A2B3C4D ≡ true = same_true (word Big 2 a) 0x1A2B3C4D magic in
    let t : ltb (word Big 1 a) 16 ≡ false = ge_false (word Big 1 a) 16 lo in
    rw (f, m, t) (whole_block_made Big 0x0A0D0D0A (word Big 1 a) a None (Pcapng Big []) le same refl)
section_made Little a magic lo le same =
    let f : ltb (length a) 12 ≡ false = ge_false (length a) 12 (omega arith) in
    let n : eqb (word Big 2 a) 0x1A2B3C4D ≡ false = ne_false (word Big 2 a) 0x1A2B3C4D (λ h. omega (arith, h, magic)) in
    let m : eqb (word Big 2 a) 0x4D3C2B1A ≡ true = same_true (word Big 2 a) 0x4D3C2B1A magic in
    let t : ltb (word Little 1 a) 16 ≡ false = ge_false (word Little 1 a) 16 lo in
    rw (f, n, m, t) (whole_block_made Little 0x0A0D0D0A (word Little 1 a) a None (Pcapng Little []) le same refl)

pub block_item : (order : Order) (known : List Interface) (a : List ℕ) (p : Option Captured) (n : ℕ) (s : Format) → read_block order known a ≡ Item p n s
    → ((number32 order a ≡ 0x0A0D0D0A) × SectionItem a p n s) ⊎ ((number32 order a ≢ 0x0A0D0D0A) × OtherItem order known (number32 order a)
    (word order 1 a) a p n s)
unfolding read_block
block_item order known a p n s e =
    let other = read_other order known (number32 order a) (word order 1 a) a in
    let d = decided (ltb (length a) 8) (cond (eqb (number32 order a) 0x0A0D0D0A) (read_section a) other) p n s e in
    elim (chosen (eqb (number32 order a) 0x0A0D0D0A) (read_section a) other (Item p n s) d.1) [
      | inl x ↦ inl (eq_true (number32 order a) 0x0A0D0D0A x.0, section_item a p n s x.1)
      | inr x ↦ inr (eq_false (number32 order a) 0x0A0D0D0A x.0, other_item order known (number32 order a) (word order 1 a) a p n s x.1)
    ]

pub block_section : (order : Order) (known : List Interface) (a : List ℕ) → 8 ≤ length a → number32 order a ≡ 0x0A0D0D0A
    → read_block order known a ≡ read_section a
unfolding read_block
block_section order known a le is =
    let f : ltb (length a) 8 ≡ false = ge_false (length a) 8 le in
    let m : eqb (number32 order a) 0x0A0D0D0A ≡ true = same_true (number32 order a) 0x0A0D0D0A is in
    rw (f, m) refl

pub block_other : (order : Order) (known : List Interface) (a : List ℕ) → 8 ≤ length a → number32 order a ≢ 0x0A0D0D0A
    → read_block order known a ≡ read_other order known (number32 order a) (word order 1 a) a
unfolding read_block
block_other order known a le is =
    let f : ltb (length a) 8 ≡ false = ge_false (length a) 8 le in
    let m : eqb (number32 order a) 0x0A0D0D0A ≡ false = ne_false (number32 order a) 0x0A0D0D0A is in
    rw (f, m) refl
