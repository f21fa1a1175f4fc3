-- The faults that are read are those that the bytes have.
use Rattle.std.proofs.Common.{◌≡◌, ◌≢◌, ℕ, ◌+◌, ◌-◌, ◌%◌, ◌≤◌, ◌⊎◌, Bool, true, false, cond, eqb, ltb, min, List, [], ◌++◌, length, take, drop, refl, sym, ap}
use Rattle.std.proofs.Common.{◌∙◌, arith, inl, inr, Option, Some, None}
use Rattle.std.proofs.lemmas.List.{length-drop, length-take-le, take-append-drop}
use Rattle.bt_pcap.specs.declared.numbers.Order.{Order}
use Rattle.bt_pcap.specs.declared.numbers.Order.TheVariants.{Little, Big}
use Rattle.bt_pcap.specs.declared.interfaces.Interface.{Interface}
use Rattle.bt_pcap.specs.declared.fault.FileFault.{FileFault}
use Rattle.bt_pcap.specs.declared.fault.FileFault.TheVariants.{NoCapture, ByteOrder, Length, TooShort, RecordLength, Undescribed, Unlike}
use Rattle.bt_pcap.specs.Numbers.{u32, number32, AreBytes}
use Rattle.bt_pcap.specs.Formats.{Format, Unknown, Pcap, Pcapng, Captured}
use Rattle.bt_pcap.specs.Items.{section_type}
use Rattle.bt_pcap.specs.Faults.{MayBegin, IsForeign, HasNoOrder, BeginsBlock, HasFault, foreign, unordered, short_section, short_block, short_body}
use Rattle.bt_pcap.specs.Faults.{long_body, unlike_section, unlike_block, undescribed, long_record, IsUnlike, IsAlike}
use Rattle.bt_pcap.specs.Reading.{Answer, Item, Undecided, Faulty, word, whole, record_size, record_packet, read_header, read_record, read_packet}
use Rattle.bt_pcap.specs.Reading.{read_interfaces, least, most, differs, lacks, whole_block, body_of, read_other, read_section_in, read_section, read_block, read_first, next_item}
use Rattle.bt_pcap.proofs.NumberLaws.{AreBytes-drop, number32-lt, split32, front32, number32-take}
use Rattle.bt_pcap.proofs.Readings.{chosen, eq_true, eq_false, lt_false, lt_true, magic_of}
use Rattle.bt_pcap.proofs.Firsts.{little_micro, big_micro, little_nano, big_nano}
use Rattle.bt_pcap.proofs.BodyLaws.{word-lt, four_words}
use Rattle.bt_pcap.proofs.Sound.{palindrome, magic_bytes}
use Rattle.bt_pcap.proofs.Trailers.{alike_is, unlike_is}
use Rattle.bt_pcap.proofs.Unnamed.{names_none}

-- ---- a fault that is read

decided : (b : Bool) (x : Answer) (f : FileFault) → cond b Undecided x ≡ Faulty f → (b ≡ false) × (x ≡ Faulty f)
decided true x f e = absurd (cc)
decided false x f e = (refl, e)

unless : (b : Bool) (g : FileFault) (x : Answer) (f : FileFault) → cond b (Faulty g) x ≡ Faulty f → ((b ≡ true) × (f ≡ g)) ⊎ ((b ≡ false) × (x ≡ Faulty f))
unless true g x f e = inl (refl, (cc))
unless false g x f e = inr (refl, e)

no_whole : (b : Bool) (packet : Option Captured) (size : ℕ) (next : Format) (f : FileFault) → cond b Undecided (Item packet size next) ≡ Faulty f → ⊥
no_whole true packet size next f e = cc
no_whole false packet size next f e = cc

-- the block has come; its lengths differ, or it lacks its packet
spoiled : (order : Order) (kind size : ℕ) (b : List ℕ) (packet : Option Captured) (next : Format) (f : FileFault)
    → whole_block order kind size b packet next ≡ Faulty f
    → (min size 1048604 ≤ length b) × ((IsUnlike order size b × (f ≡ Unlike)) ⊎ (IsAlike order size b × (lacks kind packet ≡ true) × (f ≡ Undescribed)))
spoiled order kind size b packet next f e =
    let told = cond (lacks kind packet) (Faulty Undescribed) (Item packet size next) in
    let d = decided (ltb (length b) (min size 1048604)) (cond (differs order size b) (Faulty Unlike) told) f e in
    let enough = lt_false (length b) (min size 1048604) d.0 in
    elim (unless (differs order size b) Unlike told f d.1) [
      | inl x ↦ (enough, inl (unlike_is order size b x.0 enough, x.1))
      | inr x ↦ elim (unless (lacks kind packet) Undescribed (Item packet size next) f x.1) [
        | inl y ↦ (enough, inr (alike_is order size b x.0, y.0, y.1))
        | inr y ↦ let none : Item packet size next ≡ Faulty f = y.1 in absurd (cc)
      ]
    ]

no_header : (order : Order) (scale : ℕ) (b : List ℕ) (f : FileFault) → read_header order scale b ≡ Faulty f → ⊥
unfolding read_header
no_header order scale b f e = no_whole (ltb (length b) 24) None 24 (Pcap order scale (word order 5 b % 65536)) f e

record_fault : (order : Order) (scale link : ℕ) (b : List ℕ) (f : FileFault) → read_record order scale link b ≡ Faulty f → AreBytes b
    → HasFault (Pcap order scale link) b f
unfolding read_record
record_fault order scale link b f e fits =
    let packet = Some (record_packet order scale link b) in
    let next = Pcap order scale link in
    let made = whole (record_size order b) b packet next in
    let d = decided (ltb (length b) 16) (cond (ltb 16777216 (word order 2 b)) (Faulty RecordLength) made) f e in
    elim (unless (ltb 16777216 (word order 2 b)) RecordLength made f d.1) [
      | inl x ↦ long_record order scale link (word order 2 b) refl (record {
        seconds = word order 0 b;
        fraction = word order 1 b;
        original = word order 3 b;
        rest = drop 4 (drop 4 (drop 4 (drop 4 b)));
        whole = four_words order b (lt_false (length b) 16 d.0) fits;
        seconds_fit = word-lt order 0 b fits;
        fraction_fits = word-lt order 1 b fits;
        captured_fits = word-lt order 2 b fits;
        original_fits = word-lt order 3 b fits;
      }) (lt_true 16777216 (word order 2 b) x.0) x.1
      | inr x ↦ absurd (no_whole (ltb (length b) (min (record_size order b) 1048604)) packet (record_size order b) next f x.1)
    ]

other_fault : (order : Order) (known : List Interface) (b : List ℕ) (f : FileFault) → 8 ≤ length b → number32 order b ≢ section_type
    → read_other order known (number32 order b) (word order 1 b) b ≡ Faulty f → AreBytes b → HasFault (Pcapng order known) b f
unfolding read_other
other_fault order known b f le ns e fits =
    let kind = number32 order b in
    let total = word order 1 b in
    let packet = read_packet order known kind (body_of total b) in
    let next = Pcapng order (read_interfaces order known kind (body_of total b)) in
    let begins : BeginsBlock order kind total b = record {
      rest = drop 4 (drop 4 b);
      whole = split32 order b (omega arith) fits
          ∙ ap (λ (x : List ℕ). u32 order kind ++ x) (split32 order (drop 4 b) (omega (arith, length-drop 4 b)) (AreBytes-drop 4 b fits));
      kind_fits = number32-lt order b fits;
      total_fits = word-lt order 1 b fits;
      other = ns;
    } in
    let long = cond (ltb (most kind) (total - 12)) (Faulty Length) (whole_block order kind total b packet next) in
    elim (unless (ltb total 12) Length (cond (ltb (total - 12) (least kind)) (Faulty TooShort) long) f e) [
      | inl x ↦ short_block order known kind total refl begins (lt_true total 12 x.0) x.1
      | inr x ↦
          let lo : 12 ≤ total = lt_false total 12 x.0 in
          elim (unless (ltb (total - 12) (least kind)) TooShort long f x.1) [
            | inl y ↦ short_body order known kind total refl begins lo (omega (arith, lt_true (total - 12) (least kind) y.0, lo)) y.1
            | inr y ↦ elim (unless (ltb (most kind) (total - 12)) Length (whole_block order kind total b packet next) f y.1) [
              | inl z ↦ long_body order known kind total refl begins (omega (arith, lt_true (most kind) (total - 12) z.0)) z.1
              | inr z ↦
                  let l = spoiled order kind total b packet next f z.1 in
                  let least_is : least kind ≤ total - 12 = lt_false (total - 12) (least kind) y.0 in
                  let within : total ≤ 12 + most kind = omega (arith, lt_false (most kind) (total - 12) z.0) in
                  elim (l.1) [
                    | inl u ↦ unlike_block order known kind total refl begins (omega arith) within u.0 u.1
                    | inr u ↦ undescribed order known kind total refl begins (omega arith) within l.0 u.0
                        (names_none order known kind total b lo least_is l.0 fits u.1) u.2
                  ]
            ]
          ]
    ]

section_in_fault : (s : Format) (order first : Order) (b : List ℕ) (f : FileFault) → MayBegin s → 12 ≤ length b → number32 first b ≡ section_type
    → word Big 2 b ≡ magic_of order
    → read_section_in order (word order 1 b) b ≡ Faulty f → AreBytes b → HasFault s b f
section_in_fault s order first b f may le kind magic e fits =
    let b1 = drop 4 b in
    let b2 = drop 4 b1 in
    let f1 = AreBytes-drop 4 b fits in
    let f2 = AreBytes-drop 4 b1 f1 in
    let l1 : 8 ≤ length b1 = omega (arith, length-drop 4 b) in
    let l2 : 4 ≤ length b2 = omega (arith, length-drop 4 b1) in
    let head : take 4 b ≡ u32 order section_type = sym (front32 first b (omega arith) fits) ∙ (ap (u32 first) kind ∙ palindrome first order) in
    let mid : take 4 b2 ≡ u32 order 0x1A2B3C4D = sym (front32 Big b2 l2 f2) ∙ (ap (u32 Big) magic ∙ magic_bytes order) in
    let written : b ≡ u32 order section_type ++ (u32 order (word order 1 b) ++ (u32 order 0x1A2B3C4D ++ drop 4 b2)) =
    sym (take-append-drop 4 b) ∙ (ap (λ (y : List ℕ). y ++ b1) head
    ∙ ap (λ (y : List ℕ). u32 order section_type ++ y) (split32 order b1 (omega arith) f1
    ∙ ap (λ (y : List ℕ). u32 order (word order 1 b) ++ y) (sym (take-append-drop 4 b2) ∙ ap (λ (y : List ℕ). y ++ drop 4 b2) mid))) in
    elim (unless (ltb (word order 1 b) 16) Length (whole_block order 0x0A0D0D0A (word order 1 b) b None (Pcapng order [])) f e) [
      | inl x ↦ short_section may (record {
        order = order;
        total = word order 1 b;
        rest = drop 4 b2;
        whole = written;
        short = lt_true (word order 1 b) 16 x.0;
      }) x.1
      | inr x ↦ elim ((spoiled order 0x0A0D0D0A (word order 1 b) b None (Pcapng order []) f x.1).1) [
        | inl u ↦ unlike_section may (record {
          order = order;
          total = word order 1 b;
          rest = drop 4 b2;
          whole = written;
          enough = lt_false (word order 1 b) 16 x.0;
          other = u.0;
        }) u.1
        | inr u ↦ let no : false ≡ true = u.1 in absurd (cc)
      ]
    ]

magic_alone : (order : Order) → number32 Big (u32 order 0x1A2B3C4D) ≡ magic_of order
unfolding number32
magic_alone Little = refl
magic_alone Big = refl

no_magic : (magic : List ℕ) (n : ℕ) (order : Order) → number32 Big magic ≡ n → magic ≡ u32 order 0x1A2B3C4D → n ≡ magic_of order
no_magic magic n order e h = sym e ∙ (ap (number32 Big) h ∙ magic_alone order)

neither : (n : ℕ) → n ≢ 0x1A2B3C4D → n ≢ 0x4D3C2B1A → (order : Order) → n ≡ magic_of order → ⊥
neither n big little Big h = big h
neither n big little Little h = little h

unordered_fault : (first : Order) (b : List ℕ) → 12 ≤ length b → number32 first b ≡ section_type → word Big 2 b ≢ 0x1A2B3C4D
    → word Big 2 b ≢ 0x4D3C2B1A → AreBytes b → HasNoOrder b
unordered_fault first b le kind big little fits =
    let b1 = drop 4 b in
    let b2 = drop 4 b1 in
    let l1 : 8 ≤ length b1 = omega (arith, length-drop 4 b) in
    let l2 : 4 ≤ length b2 = omega (arith, length-drop 4 b1) in
    let head : take 4 b ≡ u32 Big section_type = sym (front32 first b (omega arith) fits) ∙ (ap (u32 first) kind ∙ palindrome first Big) in
    let same : number32 Big (take 4 b2) ≡ word Big 2 b = number32-take Big 4 b2 (omega arith) in
    record {
      total = take 4 b1;
      magic = take 4 b2;
      rest = drop 4 b2;
      whole = sym (take-append-drop 4 b) ∙ (ap (λ (y : List ℕ). y ++ b1) head
          ∙ ap (λ (y : List ℕ). u32 Big section_type ++ y) (sym (take-append-drop 4 b1) ∙ ap (λ (y : List ℕ). take 4 b1 ++ y) (sym (take-append-drop 4 b2))));
      total_four = length-take-le 4 b1 (omega arith);
      magic_four = length-take-le 4 b2 l2;
      unknown = λ order h. neither (word Big 2 b) big little order (no_magic (take 4 b2) (word Big 2 b) order same h);
    }

section_fault : (s : Format) (first : Order) (b : List ℕ) (f : FileFault) → MayBegin s → number32 first b ≡ section_type
    → read_section b ≡ Faulty f → AreBytes b → HasFault s b f
unfolding read_section
section_fault s first b f may kind e fits =
    let rest = cond (eqb (word Big 2 b) 0x4D3C2B1A) (read_section_in Little (word Little 1 b) b) (Faulty ByteOrder) in
    let d = decided (ltb (length b) 12) (cond (eqb (word Big 2 b) 0x1A2B3C4D) (read_section_in Big (word Big 1 b) b) rest) f e in
    let le : 12 ≤ length b = lt_false (length b) 12 d.0 in
    elim (chosen (eqb (word Big 2 b) 0x1A2B3C4D) (read_section_in Big (word Big 1 b) b) rest (Faulty f) d.1) [
      | inl x ↦ section_in_fault s Big first b f may le kind (eq_true (word Big 2 b) 0x1A2B3C4D x.0) x.1 fits
      | inr x ↦ elim (chosen (eqb (word Big 2 b) 0x4D3C2B1A) (read_section_in Little (word Little 1 b) b) (Faulty ByteOrder) (Faulty f) x.1) [
        | inl y ↦ section_in_fault s Little first b f may le kind (eq_true (word Big 2 b) 0x4D3C2B1A y.0) y.1 fits
        | inr y ↦
            let same : Faulty ByteOrder ≡ Faulty f = y.1 in
            unordered may (unordered_fault first b le kind (eq_false (word Big 2 b) 0x1A2B3C4D x.0) (eq_false (word Big 2 b) 0x4D3C2B1A y.0) fits) (cc)
      ]
    ]

block_fault : (order : Order) (known : List Interface) (b : List ℕ) (f : FileFault) → read_block order known b ≡ Faulty f → AreBytes b
    → HasFault (Pcapng order known) b f
unfolding read_block
block_fault order known b f e fits =
    let other = read_other order known (number32 order b) (word order 1 b) b in
    let d = decided (ltb (length b) 8) (cond (eqb (number32 order b) 0x0A0D0D0A) (read_section b) other) f e in
    elim (chosen (eqb (number32 order b) 0x0A0D0D0A) (read_section b) other (Faulty f) d.1) [
      | inl x ↦ section_fault (Pcapng order known) order b f tt (eq_true (number32 order b) 0x0A0D0D0A x.0) x.1 fits
      | inr x ↦ other_fault order known b f (lt_false (length b) 8 d.0) (eq_false (number32 order b) 0x0A0D0D0A x.0) x.1 fits
    ]

big_section : number32 Big (u32 Big section_type) ≡ 0x0A0D0D0A
unfolding number32
big_section = refl

-- b is what no capture begins with
pub record NoMagic (b : List ℕ) : Type 0 where
  pub section : number32 Big b ≢ 0x0A0D0D0A
  pub little_micro : number32 Big b ≢ 0xD4C3B2A1
  pub big_micro : number32 Big b ≢ 0xA1B2C3D4
  pub little_nano : number32 Big b ≢ 0x4D3CB2A1
  pub big_nano : number32 Big b ≢ 0xA1B23C4D

said : (b : List ℕ) (order : Order) (n : ℕ) → take 4 b ≡ u32 order n → number32 Big b ≡ number32 Big (u32 order n)
said b order n h = sym (number32-take Big 4 b (omega arith)) ∙ ap (number32 Big) h

no_micro : (b : List ℕ) → NoMagic b → (order : Order) → take 4 b ≡ u32 order 0xA1B2C3D4 → ⊥
no_micro b n Little h = n.little_micro (said b Little 0xA1B2C3D4 h ∙ little_micro)
no_micro b n Big h = n.big_micro (said b Big 0xA1B2C3D4 h ∙ big_micro)

no_nano : (b : List ℕ) → NoMagic b → (order : Order) → take 4 b ≡ u32 order 0xA1B23C4D → ⊥
no_nano b n Little h = n.little_nano (said b Little 0xA1B23C4D h ∙ little_nano)
no_nano b n Big h = n.big_nano (said b Big 0xA1B23C4D h ∙ big_nano)

foreign_is : (b : List ℕ) → 4 ≤ length b → NoMagic b → IsForeign (take 4 b)
foreign_is b le n = record {
  four = length-take-le 4 b le;
  section = λ h. n.section (said b Big section_type h ∙ big_section);
  micro = no_micro b n;
  nano = no_nano b n;
}

-- a header is no fault
past_header : (b : List ℕ) (n : ℕ) (order : Order) (scale : ℕ) (rest : Answer) (f : FileFault)
    → cond (eqb (number32 Big b) n) (read_header order scale b) rest ≡ Faulty f
    → (number32 Big b ≢ n) × (rest ≡ Faulty f)
past_header b n order scale rest f e =
    elim (chosen (eqb (number32 Big b) n) (read_header order scale b) rest (Faulty f) e) [
      | inl x ↦ absurd (no_header order scale b f x.1)
      | inr x ↦ (eq_false (number32 Big b) n x.0, x.1)
    ]

first_fault : (b : List ℕ) (f : FileFault) → read_first b ≡ Faulty f → AreBytes b → HasFault Unknown b f
unfolding read_first
first_fault b f e fits =
    let r4 = cond (eqb (number32 Big b) 0xA1B23C4D) (read_header Big 1 b) (Faulty NoCapture) in
    let r3 = cond (eqb (number32 Big b) 0x4D3CB2A1) (read_header Little 1 b) r4 in
    let r2 = cond (eqb (number32 Big b) 0xA1B2C3D4) (read_header Big 1000 b) r3 in
    let r1 = cond (eqb (number32 Big b) 0xD4C3B2A1) (read_header Little 1000 b) r2 in
    let d = decided (ltb (length b) 4) (cond (eqb (number32 Big b) 0x0A0D0D0A) (read_section b) r1) f e in
    let le : 4 ≤ length b = lt_false (length b) 4 d.0 in
    elim (chosen (eqb (number32 Big b) 0x0A0D0D0A) (read_section b) r1 (Faulty f) d.1) [
      | inl x ↦ section_fault Unknown Big b f tt (eq_true (number32 Big b) 0x0A0D0D0A x.0) x.1 fits
      | inr x ↦
          let a1 = past_header b 0xD4C3B2A1 Little 1000 r2 f x.1 in
          let a2 = past_header b 0xA1B2C3D4 Big 1000 r3 f a1.1 in
          let a3 = past_header b 0x4D3CB2A1 Little 1 r4 f a2.1 in
          let a4 = past_header b 0xA1B23C4D Big 1 (Faulty NoCapture) f a3.1 in
          let same : Faulty NoCapture ≡ Faulty f = a4.1 in
          let none : NoMagic b = record {
            section = eq_false (number32 Big b) 0x0A0D0D0A x.0;
            little_micro = a1.0;
            big_micro = a2.0;
            little_nano
                = a3.0;
            big_nano = a4.0;
          } in
          foreign (take 4 b) (drop 4 b) refl (sym (take-append-drop 4 b)) (foreign_is b le none) (cc)
    ]

pub fault_sound : (s : Format) (b : List ℕ) (f : FileFault) → next_item s b ≡ Faulty f → AreBytes b → HasFault s b f
fault_sound Unknown b f e fits = first_fault b f e fits
fault_sound (Pcap order scale link) b f e fits = record_fault order scale link b f e fits
fault_sound (Pcapng order known) b f e fits = block_fault order known b f e fits
