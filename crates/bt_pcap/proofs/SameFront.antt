-- What is read hangs on the front of the item alone.
use Rattle.std.proofs.Common.{false, ◌≡◌, ℕ, ◌+◌, ◌-◌, ◌%◌, ◌≤◌, min, List, [], length, take, drop, sym, ap, subst, ◌∙◌, arith, inl, inr, Option, Some, None}
use Rattle.bt_pcap.specs.declared.numbers.Order.{Order}
use Rattle.bt_pcap.specs.declared.numbers.Order.TheVariants.{Big}
use Rattle.bt_pcap.specs.declared.interfaces.Interface.{Interface}
use Rattle.bt_pcap.specs.Numbers.{number32}
use Rattle.bt_pcap.specs.Formats.{Format, Unknown, Pcap, Pcapng, Captured}
use Rattle.bt_pcap.specs.Packets.{recorded}
use Rattle.bt_pcap.specs.Reading.{Item, word, differs, lacks, front, read_header, record_size, record_packet, read_record, read_packet, read_interfaces, body_of}
use Rattle.bt_pcap.specs.Reading.{read_other, read_section, read_block, read_first, next_item}
use Rattle.bt_pcap.proofs.NumberLaws.{word-same}
use Rattle.bt_pcap.proofs.Readings.{header_item, header_made, record_item, record_made, OtherItem, other_made, SectionItem, section_item, section_made}
use Rattle.bt_pcap.proofs.Readings.{block_item, block_section, block_other}
use Rattle.bt_pcap.proofs.Firsts.{first_item, first_section, first_header}
use Rattle.bt_pcap.proofs.Trailers.{differs_same}

-- b has the front of an item of n bytes at the front of a
pub record SameFront (n : ℕ) (a b : List ℕ) : Type 0 where
  pub same : take (min n 1048604) a ≡ take (min n 1048604) b
  pub enough : min n 1048604 ≤ length b

pub same_item : (p q : Option Captured) (n m : ℕ) (s t : Format) → p ≡ q → n ≡ m → s ≡ t → Item p n s ≡ Item q m t
same_item p q n m s t e f g = cc

pub recorded_same : (scale link a0 a1 a3 b0 b1 b3 : ℕ) (x y : List ℕ) → a0 ≡ b0 → a1 ≡ b1 → a3 ≡ b3 → x ≡ y
    → recorded scale link a0 a1 x a3 ≡ recorded scale link b0 b1 y b3
recorded_same scale link a0 a1 a3 b0 b1 b3 x y e f g h = cc

header_same : (order : Order) (scale : ℕ) (a b : List ℕ) (p : Option Captured) (n : ℕ) (s : Format) → SameFront n a b
    → read_header order scale a ≡ Item p n s → read_header order scale b ≡ Item p n s
header_same order scale a b p n s f e =
    let i = header_item order scale a p n s e in
    let size : 24 ≡ n = i.2 in
    let le : 24 ≤ length b = omega (arith, f.enough) in
    let w : word order 5 b ≡ word order 5 a = sym (word-same order 5 (min n 1048604) a b f.same (omega arith)) in
    header_made order scale b le ∙ (ap (λ (k : ℕ). Item None 24 (Pcap order scale (k % 65536))) w
    ∙ same_item None p 24 n (Pcap order scale (word order 5 a % 65536)) s i.1 size i.3)

record_same : (order : Order) (scale link : ℕ) (a b : List ℕ) (p : Option Captured) (n : ℕ) (s : Format) → SameFront n a b
    → read_record order scale link a ≡ Item p n s → read_record order scale link b ≡ Item p n s
record_same order scale link a b p n s f e =
    let i = record_item order scale link a p n s e in
    let size : record_size order a ≡ n = i.size_is in
    let le : 16 ≤ min n 1048604 = omega (arith, size) in
    let w0 : word order 0 b ≡ word order 0 a = sym (word-same order 0 (min n 1048604) a b f.same (omega arith)) in
    let w1 : word order 1 b ≡ word order 1 a = sym (word-same order 1 (min n 1048604) a b f.same (omega arith)) in
    let w2 : word order 2 b ≡ word order 2 a = sym (word-same order 2 (min n 1048604) a b f.same (omega arith)) in
    let w3 : word order 3 b ≡ word order 3 a = sym (word-same order 3 (min n 1048604) a b f.same (omega arith)) in
    let same_size : record_size order b ≡ n = ap (λ (k : ℕ). 16 + k) w2 ∙ size in
    let fronts : front (record_size order b) b ≡ front (record_size order a) a =
    ap (λ (k : ℕ). front k b) same_size ∙ (sym f.same ∙ ap (λ (k : ℕ). front k a) (sym size)) in
    let packets : record_packet order scale link b ≡ record_packet order scale link a =
    recorded_same scale link (word order 0 b) (word order 1 b) (word order 3 b) (word order 0 a) (word order 1 a) (word order 3 a)
    (drop 16 (front (record_size order b) b)) (drop 16 (front (record_size order a) a)) w0 w1 w3 (ap (drop 16) fronts) in
    let fits : word order 2 b ≤ 16777216 = subst (λ (k : ℕ). k ≤ 16777216) (sym w2) i.fits in
    record_made order scale link b fits (subst (λ (k : ℕ). min k 1048604 ≤ length b) (sym same_size) f.enough)
    ∙ same_item (Some (record_packet order scale link b)) p (record_size order b) n (Pcap order scale link) s
    (ap Some packets ∙ i.packet_is) same_size i.next_is

pub other_same : (order : Order) (known : List Interface) (kind total : ℕ) (a b : List ℕ) (p : Option Captured) (n : ℕ) (s : Format) → SameFront n a b
    → OtherItem order known kind total a p n s → read_other order known kind total b ≡ Item p n s
other_same order known kind total a b p n s f i =
    let bodies : body_of total b ≡ body_of total a =
    ap (λ (x : List ℕ). take (total - 12) (drop 8 x)) (ap (λ (k : ℕ). front k b) i.size_is ∙ (sym f.same ∙ ap (λ (k : ℕ). front k a) (sym i.size_is))) in
    other_made order known kind total b i.least_total i.least_fits i.most_fits (subst (λ (k : ℕ). min k 1048604 ≤ length b) (sym i.size_is) f.enough)
    (differs_same order total a b (subst (λ (k : ℕ). take (min k 1048604) a ≡ take (min k 1048604) b) (sym i.size_is) f.same) (omega (arith, i.least_total)) i.alike)
    (ap (λ (x : List ℕ). lacks kind (read_packet order known kind x)) bodies ∙ i.described)
    ∙ same_item (read_packet order known kind (body_of total b)) p total n (Pcapng order (read_interfaces order known kind (body_of total b))) s
    (ap (read_packet order known kind) bodies ∙ i.packet_is) i.size_is (ap (λ (x : List ℕ). Pcapng order
    (read_interfaces order known kind x)) bodies ∙ i.next_is)

pub section_same : (a b : List ℕ) (p : Option Captured) (n : ℕ) (s : Format) → SameFront n a b → SectionItem a p n s → read_section b ≡ Item p n s
section_same a b p n s f i =
    let lo = i.least_total in
    let m : word Big 2 b ≡ word Big 2 a = sym (word-same Big 2 (min n 1048604) a b f.same (omega arith)) in
    let w : word i.order 1 b ≡ word i.order 1 a = sym (word-same i.order 1 (min n 1048604) a b f.same (omega arith)) in
    let size : word i.order 1 b ≡ n = w ∙ i.size_is in
    section_made i.order b (m ∙ i.magic) (omega (arith, size)) (subst (λ (k : ℕ). min k 1048604 ≤ length b) (sym size) f.enough)
    (subst (λ (k : ℕ). differs i.order k b ≡ false) (sym size) (differs_same i.order n a b f.same (omega (arith, lo)) i.alike))
    ∙ same_item None p (word i.order 1 b) n (Pcapng i.order []) s i.packet_is size i.next_is

block_same : (order : Order) (known : List Interface) (a b : List ℕ) (p : Option Captured) (n : ℕ) (s : Format) → SameFront n a b
    → read_block order known a ≡ Item p n s → read_block order known b ≡ Item p n s
block_same order known a b p n s f e =
    elim (block_item order known a p n s e) [
      | inl x ↦
          let lo : 16 ≤ n = x.1.least_total in
          let k : number32 order b ≡ number32 order a = sym (word-same order 0 (min n 1048604) a b f.same (omega arith)) in
          block_section order known b (omega (arith, f.enough)) (k ∙ x.0) ∙ section_same a b p n s f x.1
      | inr x ↦
          let lo : 12 ≤ n = omega (arith, x.1.least_total, x.1.size_is) in
          let k : number32 order b ≡ number32 order a = sym (word-same order 0 (min n 1048604) a b f.same (omega arith)) in
          let w : word order 1 b ≡ word order 1 a = sym (word-same order 1 (min n 1048604) a b f.same (omega arith)) in
          let i : OtherItem order known (number32 order b) (word order 1 b) a p n s = rw (k, w) x.1 in
          block_other order known b (omega (arith, f.enough)) (λ h. x.0 (sym k ∙ h)) ∙ other_same order known (number32 order b) (word order 1 b) a b p n s f i
    ]

first_same : (a b : List ℕ) (p : Option Captured) (n : ℕ) (s : Format) → SameFront n a b → read_first a ≡ Item p n s → read_first b ≡ Item p n s
first_same a b p n s f e =
    elim (first_item a p n s e) [
      | inl x ↦
          let i = section_item a p n s x.1 in
          let lo : 16 ≤ n = i.least_total in
          let k : number32 Big b ≡ number32 Big a = sym (word-same Big 0 (min n 1048604) a b f.same (omega arith)) in
          first_section b (omega (arith, f.enough)) (k ∙ x.0) ∙ section_same a b p n s f i
      | inr x ↦
          let i = header_item x.order x.scale a p n s x.answer_is in
          let size : 24 ≡ n = i.2 in
          let k : number32 Big b ≡ number32 Big a = sym (word-same Big 0 (min n 1048604) a b f.same (omega arith)) in
          first_header x.order x.scale x.magic b x.known (omega (arith, f.enough)) (k ∙ x.is) ∙ header_same x.order x.scale a b p n s f x.answer_is
    ]

-- ---- any item

pub next_same : (s : Format) (a b : List ℕ) (p : Option Captured) (n : ℕ) (t : Format) → SameFront n a b → next_item s a ≡ Item p n t
    → next_item s b ≡ Item p n t
next_same Unknown a b p n t f e = first_same a b p n t f e
next_same (Pcap order scale link) a b p n t f e = record_same order scale link a b p n t f e
next_same (Pcapng order known) a b p n t f e = block_same order known a b p n t f e
