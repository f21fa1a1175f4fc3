-- What is read as an item is one.
use Rattle.std.proofs.Common.{false, ◌≡◌, ◌≢◌, ℕ, ◌+◌, ◌-◌, ◌%◌, ◌^◌, ◌≤◌, ◌<◌, min, List, ◌++◌, length, take, drop, refl, sym, ap, subst, ◌∙◌, arith, inl, inr}
use Rattle.std.proofs.Common.{Option, Some, None, append_assoc}
use Rattle.std.proofs.lemmas.List.{length-append, length-drop, length-take-le, take-append-drop, take_all}
use Rattle.bt_pcap.specs.declared.numbers.Order.{Order}
use Rattle.bt_pcap.specs.declared.numbers.Order.TheVariants.{Little, Big}
use Rattle.bt_pcap.specs.declared.interfaces.Interface.{Interface}
use Rattle.bt_pcap.specs.Numbers.{u32, number32, AreBytes}
use Rattle.bt_pcap.specs.Formats.{Format, Unknown, Pcap, Pcapng, Captured}
use Rattle.bt_pcap.specs.Packets.{recorded}
use Rattle.bt_pcap.specs.Items.{section_type, HasMagic, IsHeader, IsSection, Says, IsFirst, header, section, IsNext, new_section, same_section, IsRecorded}
use Rattle.bt_pcap.specs.Items.{IsItem}
use Rattle.bt_pcap.specs.Reading.{Item, word, differs, lacks, front, record_size, read_record, read_packet, read_interfaces, body_of, read_block, read_first, next_item}
use Rattle.bt_pcap.proofs.NumberLaws.{AreBytes-drop, AreBytes-take, number32-lt, split32, front32, drop-front}
use Rattle.bt_pcap.proofs.Readings.{header_item, record_item, magic_of, SectionItem, section_item, OtherItem, block_item}
use Rattle.bt_pcap.proofs.Firsts.{first_item}
use Rattle.bt_pcap.proofs.Trailers.{trailer_at, trailer_is}
use Rattle.bt_pcap.proofs.BodyLaws.{word-lt, four_words, says_sound}
use Rattle.bt_pcap.proofs.Cuts.{packet_cut, interfaces_cut, body_is, octets_kept, recorded_cut, drop_16}

-- ---- pcap

pub micro_bytes : (order : Order) → u32 Big (number32 Big (u32 order 0xA1B2C3D4)) ≡ u32 order 0xA1B2C3D4
unfolding number32
micro_bytes Little = refl
micro_bytes Big = refl

pub nano_bytes : (order : Order) → u32 Big (number32 Big (u32 order 0xA1B23C4D)) ≡ u32 order 0xA1B23C4D
unfolding number32
nano_bytes Little = refl
nano_bytes Big = refl

file_bytes : (order : Order) (scale magic : ℕ) → HasMagic scale magic → u32 Big (number32 Big (u32 order magic)) ≡ u32 order magic
file_bytes order scale magic (inl h) = subst (λ (m : ℕ). u32 Big (number32 Big (u32 order m)) ≡ u32 order m) (sym h.1) (micro_bytes order)
file_bytes order scale magic (inr h) = subst (λ (m : ℕ). u32 Big (number32 Big (u32 order m)) ≡ u32 order m) (sym h.1) (nano_bytes order)

header_sound : (order : Order) (scale magic : ℕ) (w : List ℕ) → HasMagic scale magic → number32 Big w ≡ number32 Big (u32 order magic)
    → length w ≡ 24 → AreBytes w
    → IsHeader order scale (word order 5 w % 65536) w
header_sound order scale magic w known is size f =
    let x = drop 4 w in
    let fx = AreBytes-drop 4 w f in
    let lx : length x ≡ 20 = omega (arith, length-drop 4 w) in
    let last = drop 16 x in
    let flast = AreBytes-drop 16 x fx in
    let llast : length last ≡ 4 = omega (arith, length-drop 16 x) in
    let first : take 4 w ≡ u32 order magic = sym (front32 Big w (omega arith) f) ∙ (ap (u32 Big) is ∙ file_bytes order scale magic known) in
    let number : word order 5 w ≡ number32 order last = ap (number32 order) (sym (drop_16 x)) in
    let end : u32 order (number32 order last) ≡ last = front32 order last (omega arith) flast ∙ take_all 4 last (omega arith) in
    record {
      magic = magic;
      middle = take 16 x;
      network = word order 5 w;
      known = known;
      whole = sym (take-append-drop 4 w) ∙ (ap (λ (y : List ℕ). y ++ x) first
          ∙ ap (λ (y : List ℕ). u32 order magic ++ y) (sym (take-append-drop 16 x) ∙ ap (λ (y : List ℕ). take 16 x ++ y) (sym (ap (u32 order) number ∙ end))));
      between = length-take-le 16 x (omega arith);
      fits = word-lt order 5 w f;
      low = refl;
    }

record_sound : (order : Order) (scale link : ℕ) (w : List ℕ) (p : Option Captured) (t : Format)
    → read_record order scale link w ≡ Item p (length w) t → AreBytes w
    → (t ≡ Pcap order scale link) × IsRecorded order scale link w p
record_sound order scale link w p t e f =
    let i = record_item order scale link w p (length w) t e in
    let size : record_size order w ≡ length w = i.size_is in
    let octets = drop 4 (drop 4 (drop 4 (drop 4 w))) in
    let len : length octets ≡ word order 2 w =
    ap (length {A = ℕ}) (sym (drop_16 w)) ∙ omega (arith, length-drop 16 w, size) in
    let m = min (record_size order w) 1048604 in
    let same : record_size order w ≡ 16 + length octets = ap (λ (k : ℕ). 16 + k) (sym len) in
    let d : drop 16 (front (record_size order w) w) ≡ take (min (16 + length octets) 1048604 - 16) octets =
    drop-front 16 m w (omega arith) ∙ (ap (λ (k : ℕ). take (min k 1048604 - 16) (drop 16 w)) same
    ∙ ap (take (min (16 + length octets) 1048604 - 16)) (drop_16 w)) in
    let packet : recorded scale link (word order 0 w) (word order 1 w) (drop 16 (front (record_size order w) w)) (word order 3 w)
    ≡ recorded scale link (word order 0 w) (word order 1 w) octets (word order 3 w) =
    ap (λ (x : List ℕ). recorded scale link (word order 0 w) (word order 1 w) x (word order 3 w)) d
    ∙ recorded_cut scale link (word order 0 w) (word order 1 w) (word order 3 w) (take (min (16 + length octets) 1048604 - 16) octets) octets
    (octets_kept octets) in (
      sym i.next_is,
      record {
        seconds = word order 0 w;
        fraction = word order 1 w;
        original = word order 3 w;
        octets = octets;
        written = record {
          whole = four_words order w (omega (arith, size)) f
              ∙ ap (λ (k : ℕ). u32 order (word order 0 w) ++ (u32 order (word order 1 w) ++ (u32 order k ++ (u32 order (word order 3 w) ++ octets)))) (sym len);
          seconds_fit = word-lt order 0 w f;
          fraction_fits = word-lt order 1 w f;
          captured_fits = subst (λ (k : ℕ). k ≤ 16777216) (sym len) i.fits;
          original_fits = word-lt order 3 w f;
        };
        handed = sym i.packet_is ∙ ap Some packet;
      },
    )

-- ---- pcapng

pub palindrome : (a b : Order) → u32 a section_type ≡ u32 b section_type
palindrome Little Little = refl
palindrome Little Big = refl
palindrome Big Little = refl
palindrome Big Big = refl

pub magic_bytes : (order : Order) → u32 Big (magic_of order) ≡ u32 order 0x1A2B3C4D
magic_bytes Little = refl
magic_bytes Big = refl

section_sound : (order : Order) (w : List ℕ) (p : Option Captured) (t : Format) → number32 order w ≡ section_type
    → (i : SectionItem w p (length w) t) → AreBytes w → IsSection i.order w
section_sound order w p t kind i f =
    let o = i.order in
    let n = length w in
    let lo = i.least_total in
    let w1 = drop 4 w in
    let w2 = drop 4 w1 in
    let w3 = drop 4 w2 in
    let f1 = AreBytes-drop 4 w f in
    let f2 = AreBytes-drop 4 w1 f1 in
    let l1 : length w1 ≡ n - 4 = length-drop 4 w in
    let l2 : length w2 ≡ n - 8 = omega (arith, length-drop 4 w1, l1) in
    let l3 : length w3 ≡ n - 12 = omega (arith, length-drop 4 w2, l2) in
    let rest = take (n - 16) w3 in
    let trailer = drop (n - 16) w3 in
    let body = u32 o 0x1A2B3C4D ++ rest in
    let lrest : length rest ≡ n - 16 = length-take-le (n - 16) w3 (omega (arith, l3)) in
    let lbody : length body ≡ n - 12 = omega (arith, length-append (u32 o 0x1A2B3C4D) rest, lrest, length_magic o) in
    let total : n ≡ 12 + length body = omega (arith, lbody) in
    let head : take 4 w ≡ u32 o section_type = sym (front32 order w (omega arith) f) ∙ (ap (u32 order) kind ∙ palindrome order o) in
    let magic : take 4 w2 ≡ u32 o 0x1A2B3C4D = sym (front32 Big w2 (omega (arith, l2)) f2) ∙ (ap (u32 Big) i.magic ∙ magic_bytes o) in
    let size : take 4 w1 ≡ u32 o (12 + length body) = sym (front32 o w1 (omega (arith, l1)) f1) ∙ ap (u32 o) (i.size_is ∙ total) in
    let e2 : w2 ≡ body ++ trailer =
    sym (take-append-drop 4 w2) ∙ (ap (λ (y : List ℕ). y ++ w3) magic
    ∙ (ap (λ (y : List ℕ). u32 o 0x1A2B3C4D ++ y) (sym (take-append-drop (n - 16) w3)) ∙ sym (append_assoc (u32 o 0x1A2B3C4D) rest trailer))) in
    let e1 : w1 ≡ u32 o (12 + length body) ++ (body ++ trailer) =
    sym (take-append-drop 4 w1) ∙ (ap (λ (y : List ℕ). y ++ w2) size ∙ ap (λ (y : List ℕ). u32 o (12 + length body) ++ y) e2) in
    let at_end : drop (n - 4) w ≡ trailer = trailer_at w body trailer n e2 total in
    let fits : word o 1 w < 2 ^ 32 = word-lt o 1 w f in
    record {
      rest = rest;
      block = record {
        trailer = trailer;
        whole = sym (take-append-drop 4 w) ∙ (ap (λ (y : List ℕ). y ++ w1) head ∙ ap (λ (y : List ℕ). u32 o section_type ++ y) e1);
        four = length-drop (n - 16) w3 ∙ omega (arith, l3);
        same = λ within. trailer_is o w trailer (12 + length body) (ap (λ (k : ℕ). drop (k - 4) w) (sym total) ∙ at_end)
            (length-drop (n - 16) w3 ∙ omega (arith, l3)) f (subst (λ (k : ℕ). differs o k w ≡ false) total i.alike) within;
        kind_fits = omega arith;
        total_fits = subst (λ (k : ℕ). k < 2 ^ 32) (i.size_is ∙ total) fits;
      };
    }
  where
    length_magic : (order : Order) → length (u32 order 0x1A2B3C4D) ≡ 4
    length_magic Little = refl
    length_magic Big = refl

other_sound : (order : Order) (known : List Interface) (w : List ℕ) (p : Option Captured) (t : Format) → number32 order w ≢ section_type
    → OtherItem order known (number32 order w) (word order 1 w) w p (length w) t → AreBytes w → IsNext order known w p t
other_sound order known w p t ns i f =
    let kind = number32 order w in
    let n = length w in
    let lo = i.least_total in
    let total : word order 1 w ≡ n = i.size_is in
    let w1 = drop 4 w in
    let w2 = drop 4 w1 in
    let f1 = AreBytes-drop 4 w f in
    let f2 = AreBytes-drop 4 w1 f1 in
    let l1 : length w1 ≡ n - 4 = length-drop 4 w in
    let l2 : length w2 ≡ n - 8 = omega (arith, length-drop 4 w1, l1) in
    let body = take (n - 12) w2 in
    let trailer = drop (n - 12) w2 in
    let lbody : length body ≡ n - 12 = length-take-le (n - 12) w2 (omega (arith, l2)) in
    let size : word order 1 w ≡ 12 + length body = omega (arith, lbody, total) in
    let e2 : w2 ≡ body ++ trailer = sym (take-append-drop (n - 12) w2) in
    let e1 : w1 ≡ u32 order (12 + length body) ++ (body ++ trailer) =
    split32 order w1 (omega (arith, l1)) f1 ∙ (ap (λ (k : ℕ). u32 order k ++ w2) size ∙ ap (λ (y : List ℕ). u32 order (12 + length body) ++ y) e2) in
    let fits : word order 1 w < 2 ^ 32 = word-lt order 1 w f in
    let at_end : drop (word order 1 w - 4) w ≡ trailer = trailer_at w body trailer (word order 1 w) e2 size in
    let bodies : body_of (word order 1 w) w ≡ take 1048596 body = body_is (word order 1 w) w body trailer e2 size in
    let packet : read_packet order known kind body ≡ p = sym (ap (read_packet order known kind) bodies ∙ packet_cut order known kind body) ∙ i.packet_is in
    let next : read_interfaces order known kind (body_of (word order 1 w) w) ≡ read_interfaces order known kind body =
    ap (read_interfaces order known kind) bodies ∙ interfaces_cut order known kind body in
    let says : Says order known kind body (read_packet order known kind body) (read_interfaces order known kind body) =
    says_sound order known kind body (omega (arith, i.least_fits, size)) (omega (arith, i.most_fits, size)) ns (AreBytes-take (n - 12) w2 f2)
    (ap (lacks kind) (sym (ap (read_packet order known kind) bodies ∙ packet_cut order known kind body)) ∙ i.described) in
    same_section kind body (read_interfaces order known kind body) (record {
      trailer = trailer;
      whole = split32 order w (omega (arith, lo, total)) f ∙ ap (λ (y : List ℕ). u32 order kind ++ y) e1;
      four = length-drop (n - 12) w2 ∙ omega (arith, l2, lo, total);
      same = λ within. trailer_is order w trailer (12 + length body) (ap (λ (k : ℕ). drop (k - 4) w) (sym size) ∙ at_end)
          (length-drop (n - 12) w2 ∙ omega (arith, l2, lo, total)) f (subst (λ (k : ℕ). differs order k w ≡ false) size i.alike) within;
      kind_fits = number32-lt order w f;
      total_fits = subst (λ (k : ℕ). k < 2 ^ 32) size fits;
    }) (subst (λ q. Says order known kind body q (read_interfaces order known kind body)) packet says)
    (sym i.next_is ∙ ap (Pcapng order) next)

-- ---- any

first_sound : (w : List ℕ) (p : Option Captured) (t : Format) → read_first w ≡ Item p (length w) t → AreBytes w → (p ≡ None) × IsFirst w t
first_sound w p t e f =
    elim (first_item w p (length w) t e) [
      | inl x ↦
          let i = section_item w p (length w) t x.1 in
          (sym i.packet_is, section i.order (section_sound Big w p t x.0 i f) (sym i.next_is))
      | inr x ↦
          let i = header_item x.order x.scale w p (length w) t x.answer_is in
          let size : 24 ≡ length w = i.2 in
          (sym i.1, header x.order x.scale (word x.order 5 w % 65536) (header_sound x.order x.scale x.magic w x.known x.is (sym size) f) (sym i.3))
    ]

next_sound : (order : Order) (known : List Interface) (w : List ℕ) (p : Option Captured) (t : Format)
    → read_block order known w ≡ Item p (length w) t → AreBytes w → IsNext order known w p t
next_sound order known w p t e f =
    elim (block_item order known w p (length w) t e) [
      | inl x ↦ new_section x.1.order (section_sound order w p t x.0 x.1 f) (sym x.1.packet_is) (sym x.1.next_is)
      | inr x ↦ other_sound order known w p t x.0 x.1 f
    ]

pub item_sound : (s : Format) (w : List ℕ) (p : Option Captured) (t : Format) → next_item s w ≡ Item p (length w) t → AreBytes w → IsItem s w p t
item_sound Unknown w p t e f = first_sound w p t e f
item_sound (Pcap order scale link) w p t e f = record_sound order scale link w p t e f
item_sound (Pcapng order known) w p t e f = next_sound order known w p t e f
