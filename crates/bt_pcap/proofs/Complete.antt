-- An item that is written is read.
use Rattle.std.proofs.Common.{◌≡◌, ◌≢◌, ℕ, ◌+◌, ◌-◌, ◌%◌, ◌^◌, ◌≤◌, ◌<◌, min, List, [], ◌++◌, length, take, drop, refl, sym, ap, subst, ◌∙◌, arith, Option}
use Rattle.std.proofs.Common.{Some, None, append_assoc}
use Rattle.std.proofs.Math.Seq.{drop-append_seam}
use Rattle.std.proofs.lemmas.List.{length-append}
use Rattle.std.proofs.lemmas.Nat.{from_be_bytes-to_be_bytes_4, from_le_bytes-to_le_bytes_4}
use Rattle.bt_pcap.specs.declared.numbers.Order.{Order}
use Rattle.bt_pcap.specs.declared.numbers.Order.TheVariants.{Little, Big}
use Rattle.bt_pcap.specs.declared.interfaces.Interface.{Interface}
use Rattle.bt_pcap.specs.Numbers.{u32, number32}
use Rattle.bt_pcap.specs.Formats.{Format, Unknown, Pcap, Pcapng, Captured}
use Rattle.bt_pcap.specs.Packets.{recorded}
use Rattle.bt_pcap.specs.Items.{section_type, IsHeader, IsBlock, IsSection, Says, describes, enhanced, obsolete, simple, passed_over, IsFirst, header}
use Rattle.bt_pcap.specs.Items.{section, IsNext, new_section, same_section, IsRecorded, IsItem}
use Rattle.bt_pcap.specs.Reading.{Item, word, lacks, front, record_size, read_record, read_packet, read_interfaces, body_of, read_section, read_block, read_first}
use Rattle.bt_pcap.specs.Reading.{next_item}
use Rattle.bt_pcap.proofs.NumberLaws.{number32-u32, drop-u32, length-u32, drop-front}
use Rattle.bt_pcap.proofs.Readings.{header_made, record_made, magic_of, section_made, block_section, block_other, other_made}
use Rattle.bt_pcap.proofs.Firsts.{first_section, first_header}
use Rattle.bt_pcap.proofs.Trailers.{alike, trailer_at}
use Rattle.bt_pcap.proofs.SameFront.{same_item, recorded_same}
use Rattle.bt_pcap.proofs.BodyLaws.{four_again}
use Rattle.bt_pcap.proofs.BodyAgain.{says_again}
use Rattle.bt_pcap.proofs.Cuts.{packet_cut, interfaces_cut, body_is, octets_kept, recorded_cut, drop_16}

number32-alone : (order : Order) (n : ℕ) → n < 2 ^ 32 → number32 order (u32 order n) ≡ n
unfolding number32
number32-alone Little n lt = from_le_bytes-to_le_bytes_4 n lt
number32-alone Big n lt = from_be_bytes-to_be_bytes_4 n lt

-- ---- pcap

big_front : (order : Order) (n : ℕ) (r : List ℕ) → number32 Big (u32 order n ++ r) ≡ number32 Big (u32 order n)
unfolding number32
big_front Little n r = refl
big_front Big n r = refl

pub header_again : (order : Order) (scale link : ℕ) (w : List ℕ) → IsHeader order scale link w → read_first w ≡ Item None (length w) (Pcap order scale link)
header_again order scale link w h =
    let last = u32 order h.network in
    let r = h.middle ++ last in
    let d : drop 4 w ≡ r = ap (drop 4) h.whole ∙ drop-u32 order h.magic r in
    let d20 : drop 4 (drop 4 (drop 4 (drop 4 (drop 4 w)))) ≡ last =
    sym (drop_16 (drop 4 w)) ∙ (ap (drop 16) d ∙ (ap (λ (k : ℕ). drop k r) (sym h.between) ∙ drop-append_seam h.middle last)) in
    let n : word order 5 w ≡ h.network = ap (number32 order) d20 ∙ number32-alone order h.network h.fits in
    let size : length w ≡ 24 = ap (length {A = ℕ}) h.whole ∙ omega
    (arith, length-u32 order h.magic r, length-append h.middle last, length-u32 order h.network [], h.between, append_nil_length order h.network) in
    first_header order scale h.magic w h.known (omega (arith, size)) (ap (number32 Big) h.whole ∙ big_front order h.magic r)
    ∙ (header_made order scale w (omega (arith, size))
    ∙ same_item None None 24 (length w) (Pcap order scale (word order 5 w % 65536)) (Pcap order scale link) refl (sym size) (ap (λ
    (k : ℕ). Pcap order scale (k % 65536)) n ∙ ap (Pcap order scale) (sym h.low)))
  where
    append_nil_length : (order : Order) (n : ℕ) → length (u32 order n) ≡ 4
    append_nil_length Little n = refl
    append_nil_length Big n = refl

pub record_again : (order : Order) (scale link : ℕ) (w : List ℕ) (p : Option Captured) → IsRecorded order scale link w p
    → read_record order scale link w ≡ Item p (length w) (Pcap order scale link)
record_again order scale link w p s =
    let i = s.written in
    let short : length s.octets ≤ 16777216 = i.captured_fits in
    let f = four_again order w s.seconds s.fraction (length s.octets) s.original s.octets i.whole i.seconds_fit i.fraction_fits
    (omega (arith, short)) i.original_fits in
    let fits : word order 2 w ≤ 16777216 = subst (λ (k : ℕ). k ≤ 16777216) (sym f.third) short in
    let size : record_size order w ≡ length w = ap (λ (k : ℕ). 16 + k) f.third ∙ sym f.size in
    let same : 16 + length s.octets ≡ record_size order w = sym (ap (λ (k : ℕ). 16 + k) f.third) in
    let m = min (record_size order w) 1048604 in
    let d : drop 16 (front (record_size order w) w) ≡ take (min (16 + length s.octets) 1048604 - 16) s.octets =
    drop-front 16 m w (omega arith) ∙ (ap (λ (k : ℕ). take (min k 1048604 - 16) (drop 16 w)) (sym same)
    ∙ ap (take (min (16 + length s.octets) 1048604 - 16)) (drop_16 w ∙ f.rest)) in
    let packet : recorded scale link (word order 0 w) (word order 1 w) (drop 16 (front (record_size order w) w))
    (word order 3 w) ≡ recorded scale link s.seconds s.fraction s.octets s.original =
    recorded_same scale link (word order 0 w) (word order 1 w) (word order 3 w) s.seconds s.fraction s.original (drop 16 (front
    (record_size order w) w)) (take (min (16 + length s.octets) 1048604 - 16) s.octets)
    f.first f.second f.fourth d ∙ recorded_cut scale link s.seconds s.fraction s.original (take (min
    (16 + length s.octets) 1048604 - 16) s.octets) s.octets (octets_kept s.octets) in
    record_made order scale link w fits (omega (arith, size))
    ∙ same_item (Some (recorded scale link (word order 0 w) (word order 1 w) (drop 16 (front (record_size order w) w)) (word order 3 w))) p
    (record_size order w) (length w)
    (Pcap order scale link) (Pcap order scale link) (ap Some packet ∙ sym s.handed) size refl

-- ---- pcapng

palindrome : (a b : Order) → u32 a section_type ≡ u32 b section_type
palindrome Little Little = refl
palindrome Little Big = refl
palindrome Big Little = refl
palindrome Big Big = refl

pub section_number : (order other : Order) (r : List ℕ) → number32 order (u32 other section_type ++ r) ≡ section_type
section_number order other r = ap (λ (x : List ℕ). number32 order (x ++ r)) (palindrome other order) ∙ number32-u32 order section_type r (omega arith)

pub magic_number : (order : Order) (r : List ℕ) → number32 Big (u32 order 0x1A2B3C4D ++ r) ≡ magic_of order
unfolding number32
magic_number Little r = refl
magic_number Big r = refl

pub record SectionAgain (other : Order) (w : List ℕ) : Type 0 where
  pub kind : (order : Order) → number32 order w ≡ section_type
  pub least_size : 16 ≤ length w
  pub read : read_section w ≡ Item None (length w) (Pcapng other [])

pub section_again : (other : Order) (w : List ℕ) → IsSection other w → SectionAgain other w
section_again other w s =
    let b = s.block in
    let body = u32 other 0x1A2B3C4D ++ s.rest in
    let total = 12 + length body in
    let r2 = body ++ b.trailer in
    let r1 = u32 other total ++ r2 in
    let d1 : drop 4 w ≡ r1 = ap (drop 4) b.whole ∙ drop-u32 other section_type r1 in
    let d2 : drop 4 (drop 4 w) ≡ r2 = ap (drop 4) d1 ∙ drop-u32 other total r2 in
    let regrouped : r2 ≡ u32 other 0x1A2B3C4D ++ (s.rest ++ b.trailer) = append_assoc (u32 other 0x1A2B3C4D) s.rest b.trailer in
    let magic : word Big 2 w ≡ magic_of other = ap (number32 Big) (d2 ∙ regrouped) ∙ magic_number other (s.rest ++ b.trailer) in
    let n : word other 1 w ≡ total = ap (number32 other) d1 ∙ number32-u32 other total r2 b.total_fits in
    let long : length body ≡ 4 + length s.rest = length-u32 other 0x1A2B3C4D s.rest in
    let size : length w ≡ total =
    ap (length {A = ℕ}) b.whole ∙ omega (arith, length-u32 other section_type r1, length-u32 other total r2, length-append body b.trailer, b.four) in
    record {
      kind = λ order. ap (number32 order) b.whole ∙ section_number order other r1;
      least_size = omega (arith, size, long);
      read = section_made other w magic (omega (arith, n, long)) (omega (arith, n, size))
          (alike other (word other 1 w) w (λ within. ap (λ (k : ℕ). number32 other (drop (k - 4) w)) n
          ∙ (ap (number32 other) (trailer_at w body b.trailer total d2 refl ∙ b.same (omega (arith, n, within))) ∙ (number32-alone other total b.total_fits ∙ sym n))))
          ∙ same_item None None (word other 1 w) (length w) (Pcapng other []) (Pcapng other []) refl (n ∙ sym size) refl;
    }

says_other : (order : Order) (known : List Interface) (kind : ℕ) (body : List ℕ) (p : Option Captured) (after : List Interface)
    → Says order known kind body p after → kind ≢ section_type
says_other order known kind body p after (describes i e s ep ea) h = omega (arith, e, h)
says_other order known kind body p after (enhanced e s ea) h = omega (arith, e, h)
says_other order known kind body p after (obsolete e s ea) h = omega (arith, e, h)
says_other order known kind body p after (simple e s ea) h = omega (arith, e, h)
says_other order known kind body p after (passed_over n1 n2 n3 n6 ns ep ea) h = ns h

block_again : (order : Order) (known : List Interface) (w : List ℕ) (p : Option Captured) (t : Format) (kind : ℕ) (body : List ℕ) (after : List Interface)
    → IsBlock order kind body w → Says order known kind body p after → t ≡ Pcapng order after → read_block order known w ≡ Item p (length w) t
block_again order known w p t kind body after b s et =
    let fits : 12 + length body < 2 ^ 32 = b.total_fits in
    let g = says_again order known kind body p after s (omega arith) in
    let total = 12 + length body in
    let r2 = body ++ b.trailer in
    let r1 = u32 order total ++ r2 in
    let d1 : drop 4 w ≡ r1 = ap (drop 4) b.whole ∙ drop-u32 order kind r1 in
    let d2 : drop 4 (drop 4 w) ≡ r2 = ap (drop 4) d1 ∙ drop-u32 order total r2 in
    let k : number32 order w ≡ kind = ap (number32 order) b.whole ∙ number32-u32 order kind r1 b.kind_fits in
    let n : word order 1 w ≡ total = ap (number32 order) d1 ∙ number32-u32 order total r2 b.total_fits in
    let size : length w ≡ total = ap (length {A = ℕ}) b.whole
    ∙ omega (arith, length-u32 order kind r1, length-u32 order total r2, length-append body b.trailer, b.four) in
    let bodies : body_of total w ≡ take 1048596 body = body_is total w body b.trailer d2 refl in
    let packet : read_packet order known kind (body_of total w) ≡ p = ap (read_packet order known kind) bodies ∙ (packet_cut order known kind body
    ∙ g.packet_is) in
    let next : read_interfaces order known kind (body_of total w) ≡ after = ap (read_interfaces order known kind) bodies
    ∙ (interfaces_cut order known kind body ∙ g.after_is) in
    block_other order known w (omega (arith, size)) (λ h. says_other order known kind body p after s (sym k ∙ h))
    ∙ (rw (k, n) (other_made order known kind total w (omega arith) (omega (arith, g.enough)) (omega (arith, g.within, b.total_fits)) (omega (arith, size))
    (alike order total w (λ within. ap (number32 order) (trailer_at w body b.trailer total d2 refl ∙ b.same within) ∙ number32-alone order total b.total_fits))
    (ap (lacks kind) (ap (read_packet order known kind) bodies ∙ packet_cut order known kind body) ∙ g.told))
    ∙ same_item (read_packet order known kind (body_of total w)) p total (length w) (Pcapng order (read_interfaces order known kind
    (body_of total w))) t packet (sym size) (ap (Pcapng order) next ∙ sym et))

next_again : (order : Order) (known : List Interface) (w : List ℕ) (p : Option Captured) (t : Format) → IsNext order known w p t
    → read_block order known w ≡ Item p (length w) t
next_again order known w p t (new_section other s ep et) =
    let g = section_again other w s in
    block_section order known w (omega (arith, g.least_size)) (g.kind order) ∙ (g.read
    ∙ same_item None p (length w) (length w) (Pcapng other []) t (sym ep) refl (sym et))
next_again order known w p t (same_section kind body after b s et) = block_again order known w p t kind body after b s et

first_again : (w : List ℕ) (t : Format) → IsFirst w t → read_first w ≡ Item None (length w) t
first_again w t (header order scale link h e) = header_again order scale link w h ∙ ap (Item None (length w)) (sym e)
first_again w t (section other s e) =
    let g = section_again other w s in
    first_section w (omega (arith, g.least_size)) (g.kind Big) ∙ (g.read ∙ ap (Item None (length w)) (sym e))

pub item_again : (s : Format) (w : List ℕ) (p : Option Captured) (t : Format) → IsItem s w p t → next_item s w ≡ Item p (length w) t
item_again Unknown w p t i = first_again w t i.1 ∙ ap (λ q. Item q (length w) t) (sym i.0)
item_again (Pcap order scale link) w p t i = record_again order scale link w p i.1 ∙ ap (Item p (length w)) (sym i.0)
item_again (Pcapng order known) w p t i = next_again order known w p t i
