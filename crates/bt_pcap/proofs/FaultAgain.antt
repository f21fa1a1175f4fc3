-- A fault that the bytes have is read, and how few bytes are too few.
use Rattle.std.proofs.Common.{◌≡◌, ◌≢◌, ℕ, ◌+◌, ◌-◌, ◌^◌, ◌%◌, ◌≤◌, ◌<◌, ◌⊎◌, Bool, true, false, cond, eqb, ltb, min, List, [], ◌++◌, length, take, drop, refl}
use Rattle.std.proofs.Common.{sym, ap, subst, ◌∙◌, arith, inl, inr, Option, Some, None}
use Rattle.std.proofs.Math.Seq.{take-append_seam, drop-append_seam}
use Rattle.std.proofs.lemmas.List.{length-append, length-drop}
use Rattle.bt_pcap.specs.declared.numbers.Order.{Order}
use Rattle.bt_pcap.specs.declared.numbers.Order.TheVariants.{Little, Big}
use Rattle.bt_pcap.specs.declared.interfaces.Interface.{Interface}
use Rattle.bt_pcap.specs.declared.fault.FileFault.{FileFault}
use Rattle.bt_pcap.specs.declared.fault.FileFault.TheVariants.{NoCapture, ByteOrder, Length, TooShort, RecordLength, Undescribed, Unlike}
use Rattle.bt_pcap.specs.Numbers.{u32, number32, AreBytes}
use Rattle.bt_pcap.specs.Formats.{Format, Unknown, Pcap, Pcapng, Captured}
use Rattle.bt_pcap.specs.Items.{section_type}
use Rattle.bt_pcap.specs.Faults.{MayBegin, IsForeign, HasNoOrder, IsShortSection, BeginsBlock, HasFault, foreign, unordered, short_section, short_block}
use Rattle.bt_pcap.specs.Faults.{short_body, long_body, unlike_section, unlike_block, undescribed, long_record, BeginsRecord, IsUnlike, IsUnlikeSection}
use Rattle.bt_pcap.specs.Reading.{Answer, Item, Undecided, Faulty, word, whole, record_size, record_packet, read_header, read_record, read_packet}
use Rattle.bt_pcap.specs.Reading.{read_interfaces, least, most, differs, lacks, whole_block, body_of, read_other, read_section_in, read_section, read_block, read_first, next_item}
use Rattle.bt_pcap.proofs.NumberLaws.{AreBytes-drop, number32-u32, drop-u32, length-u32, front32}
use Rattle.bt_pcap.proofs.Readings.{chosen, ne_false, same_true, lt_true, ge_false, less_true, magic_of, block_section, block_other}
use Rattle.bt_pcap.proofs.Firsts.{first_section}
use Rattle.bt_pcap.proofs.FaultLaws.{NoMagic}
use Rattle.bt_pcap.proofs.Complete.{section_number, magic_number}
use Rattle.bt_pcap.proofs.Sound.{magic_bytes}
use Rattle.bt_pcap.proofs.BodyLaws.{four_again}
use Rattle.bt_pcap.proofs.Bodies.{least_most}
use Rattle.bt_pcap.proofs.Trailers.{alike, unlike}
use Rattle.bt_pcap.proofs.Unnamed.{lacks_again}

first_foreign : (b : List ℕ) → 4 ≤ length b → NoMagic b → read_first b ≡ Faulty NoCapture
unfolding read_first
first_foreign b le n =
    let f : ltb (length b) 4 ≡ false = ge_false (length b) 4 le in
    let a : eqb (number32 Big b) 0x0A0D0D0A ≡ false = ne_false (number32 Big b) 0x0A0D0D0A n.section in
    let c : eqb (number32 Big b) 0xD4C3B2A1 ≡ false = ne_false (number32 Big b) 0xD4C3B2A1 n.little_micro in
    let d : eqb (number32 Big b) 0xA1B2C3D4 ≡ false = ne_false (number32 Big b) 0xA1B2C3D4 n.big_micro in
    let e : eqb (number32 Big b) 0x4D3CB2A1 ≡ false = ne_false (number32 Big b) 0x4D3CB2A1 n.little_nano in
    let g : eqb (number32 Big b) 0xA1B23C4D ≡ false = ne_false (number32 Big b) 0xA1B23C4D n.big_nano in
    rw (f, a, c, d, e, g) refl

foreign_again : (b first rest : List ℕ) → b ≡ first ++ rest → IsForeign first → AreBytes b → read_first b ≡ Faulty NoCapture
foreign_again b first rest e i fits =
    let le : 4 ≤ length b = omega (arith, ap (length {A = ℕ}) e, length-append first rest, i.four) in
    let front : first ≡ take 4 b = sym (ap (take 4) e ∙ (ap (λ (k : ℕ). take k (first ++ rest)) (sym i.four) ∙ take-append_seam first rest)) in
    let said : (n : ℕ) → number32 Big b ≡ n → first ≡ u32 Big n = λ n h. front ∙ (sym (front32 Big b le fits) ∙ ap (u32 Big) h) in
    first_foreign b le (record {
      section = λ h. i.section (said 0x0A0D0D0A h);
      little_micro = λ h. i.micro Little (said 0xD4C3B2A1 h);
      big_micro = λ h. i.micro Big (said 0xA1B2C3D4 h);
      little_nano = λ h. i.nano Little (said 0x4D3CB2A1 h);
      big_nano = λ h. i.nano Big (said 0xA1B23C4D h);
    })

-- a section header block is read as one
to_section : (s : Format) (b : List ℕ) → MayBegin s → 8 ≤ length b → ((order : Order) → number32 order b ≡ section_type) → next_item s b ≡ read_section b
to_section Unknown b may le kind = first_section b (omega arith) (kind Big)
to_section (Pcap order scale link) b may le kind = absurd may
to_section (Pcapng order known) b may le kind = block_section order known b le (kind order)

section_unordered : (b : List ℕ) → 12 ≤ length b → word Big 2 b ≢ 0x1A2B3C4D → word Big 2 b ≢ 0x4D3C2B1A → read_section b ≡ Faulty ByteOrder
unfolding read_section
section_unordered b le big little =
    let f : ltb (length b) 12 ≡ false = ge_false (length b) 12 le in
    let m : eqb (word Big 2 b) 0x1A2B3C4D ≡ false = ne_false (word Big 2 b) 0x1A2B3C4D big in
    let n : eqb (word Big 2 b) 0x4D3C2B1A ≡ false = ne_false (word Big 2 b) 0x4D3C2B1A little in
    rw (f, m, n) refl

unordered_again : (s : Format) (b : List ℕ) → MayBegin s → HasNoOrder b → AreBytes b → next_item s b ≡ Faulty ByteOrder
unordered_again s b may h fits =
    let r2 = h.magic ++ h.rest in
    let r1 = h.total ++ r2 in
    let d1 : drop 4 b ≡ r1 = ap (drop 4) h.whole ∙ drop-u32 Big section_type r1 in
    let d2 : drop 4 (drop 4 b) ≡ r2 = ap (drop 4) d1 ∙ (ap (λ (k : ℕ). drop k r1) (sym h.total_four) ∙ drop-append_seam h.total r2) in
    let le : 12 ≤ length b =
    omega (
      arith,
      ap (length {A = ℕ}) h.whole,
      length-u32 Big section_type r1,
      length-append h.total r2,
      length-append h.magic h.rest,
      h.total_four,
      h.magic_four,
    ) in
    let x = drop 4 (drop 4 b) in
    let lx : 4 ≤ length x = omega (arith, length-drop 4 (drop 4 b), length-drop 4 b) in
    let fx = AreBytes-drop 4 (drop 4 b) (AreBytes-drop 4 b fits) in
    let front : h.magic ≡ take 4 x = sym (ap (take 4) d2 ∙ (ap (λ (k : ℕ). take k r2) (sym h.magic_four) ∙ take-append_seam h.magic h.rest)) in
    let no : (order : Order) → word Big 2 b ≡ magic_of order → ⊥ =
    λ order e. h.unknown order (front ∙ (sym (front32 Big x lx fx) ∙ (ap (u32 Big) e ∙ magic_bytes order))) in
    to_section s b may (omega (arith, le)) (λ order. ap (number32 order) h.whole ∙ section_number order Big r1) ∙ section_unordered b le (no Big) (no Little)

-- what a section header block is read with
record SectionWords (order : Order) (total : ℕ) (b : List ℕ) : Type 0 where
  pub number : word order 1 b ≡ total
  pub magic : word Big 2 b ≡ magic_of order
  pub enough : 12 ≤ length b
  pub kind : (any : Order) → number32 any b ≡ section_type

section_words : (o : Order) (total : ℕ) (b rest : List ℕ) → total < 2 ^ 32
    → b ≡ u32 o section_type ++ (u32 o total ++ (u32 o 0x1A2B3C4D ++ rest)) → SectionWords o total b
section_words o total b rest fits whole =
    let r2 = u32 o 0x1A2B3C4D ++ rest in
    let r1 = u32 o total ++ r2 in
    let d1 : drop 4 b ≡ r1 = ap (drop 4) whole ∙ drop-u32 o section_type r1 in
    let d2 : drop 4 (drop 4 b) ≡ r2 = ap (drop 4) d1 ∙ drop-u32 o total r2 in
    record {
      number = ap (number32 o) d1 ∙ number32-u32 o total r2 fits;
      magic = ap (number32 Big) d2 ∙ magic_number o rest;
      enough = omega (arith, ap (length {A = ℕ}) whole, length-u32 o section_type r1, length-u32 o total r2, length-u32 o 0x1A2B3C4D rest);
      kind = λ order. ap (number32 order) whole ∙ section_number order o r1;
    }

section_short : (order : Order) (b : List ℕ) → 12 ≤ length b → word Big 2 b ≡ magic_of order → word order 1 b < 16 → read_section b ≡ Faulty Length
unfolding read_section
section_short Big b le magic lt =
    let f : ltb (length b) 12 ≡ false = ge_false (length b) 12 le in
    let m : eqb (word Big 2 b) 0x1A2B3C4D ≡ true = same_true (word Big 2 b) 0x1A2B3C4D magic in
    let t : ltb (word Big 1 b) 16 ≡ true = less_true (word Big 1 b) 16 lt in
    rw (f, m, t) refl
section_short Little b le magic lt =
    let f : ltb (length b) 12 ≡ false = ge_false (length b) 12 le in
    let n : eqb (word Big 2 b) 0x1A2B3C4D ≡ false = ne_false (word Big 2 b) 0x1A2B3C4D (λ h. omega (arith, h, magic)) in
    let m : eqb (word Big 2 b) 0x4D3C2B1A ≡ true = same_true (word Big 2 b) 0x4D3C2B1A magic in
    let t : ltb (word Little 1 b) 16 ≡ true = less_true (word Little 1 b) 16 lt in
    rw (f, n, m, t) refl

short_section_again : (s : Format) (b : List ℕ) → MayBegin s → IsShortSection b → next_item s b ≡ Faulty Length
short_section_again s b may h =
    let o = h.order in
    let lt : h.total < 16 = h.short in
    let x = section_words o h.total b h.rest (omega arith) h.whole in
    to_section s b may (omega (arith, x.enough)) x.kind ∙ section_short o b x.enough x.magic (omega (arith, x.number, lt))

section_unlike : (order : Order) (b : List ℕ) → 12 ≤ length b → word Big 2 b ≡ magic_of order → 16 ≤ word order 1 b → IsUnlike order (word order 1 b) b
    → read_section b ≡ Faulty Unlike
unfolding read_section
section_unlike Big b le magic enough u =
    let f : ltb (length b) 12 ≡ false = ge_false (length b) 12 le in
    let m : eqb (word Big 2 b) 0x1A2B3C4D ≡ true = same_true (word Big 2 b) 0x1A2B3C4D magic in
    let t : ltb (word Big 1 b) 16 ≡ false = ge_false (word Big 1 b) 16 enough in
    let w : ltb (length b) (min (word Big 1 b) 1048604) ≡ false = ge_false (length b) (min (word Big 1 b) 1048604) (omega (arith, u.enough)) in
    let d : differs Big (word Big 1 b) b ≡ true = unlike Big (word Big 1 b) b u in
    rw (f, m, t, w, d) refl
section_unlike Little b le magic enough u =
    let f : ltb (length b) 12 ≡ false = ge_false (length b) 12 le in
    let n : eqb (word Big 2 b) 0x1A2B3C4D ≡ false = ne_false (word Big 2 b) 0x1A2B3C4D (λ h. omega (arith, h, magic)) in
    let m : eqb (word Big 2 b) 0x4D3C2B1A ≡ true = same_true (word Big 2 b) 0x4D3C2B1A magic in
    let t : ltb (word Little 1 b) 16 ≡ false = ge_false (word Little 1 b) 16 enough in
    let w : ltb (length b) (min (word Little 1 b) 1048604) ≡ false = ge_false (length b) (min (word Little 1 b) 1048604) (omega (arith, u.enough)) in
    let d : differs Little (word Little 1 b) b ≡ true = unlike Little (word Little 1 b) b u in
    rw (f, n, m, t, w, d) refl

unlike_section_again : (s : Format) (b : List ℕ) → MayBegin s → IsUnlikeSection b → next_item s b ≡ Faulty Unlike
unlike_section_again s b may h =
    let o = h.order in
    let x = section_words o h.total b h.rest (omega (arith, h.other.within)) h.whole in
    to_section s b may (omega (arith, x.enough)) x.kind
    ∙ section_unlike o b x.enough x.magic (omega (arith, x.number, h.enough)) (subst (λ (k : ℕ). IsUnlike o k b) (sym x.number) h.other)

other_short : (order : Order) (known : List Interface) (kind total : ℕ) (b : List ℕ) → total < 12 → read_other order known kind total b ≡ Faulty Length
unfolding read_other
other_short order known kind total b lt = let f : ltb total 12 ≡ true = less_true total 12 lt in rw f refl

other_body : (order : Order) (known : List Interface) (kind total : ℕ) (b : List ℕ) → 12 ≤ total → total < 12 + least kind
    → read_other order known kind total b ≡ Faulty TooShort
unfolding read_other
other_body order known kind total b le lt =
    let f : ltb total 12 ≡ false = ge_false total 12 le in
    let g : ltb (total - 12) (least kind) ≡ true = less_true (total - 12) (least kind) (omega arith) in
    rw (f, g) refl

other_long : (order : Order) (known : List Interface) (kind total : ℕ) (b : List ℕ) → 12 + most kind < total
    → read_other order known kind total b ≡ Faulty Length
unfolding read_other
other_long order known kind total b lt =
    let f : ltb total 12 ≡ false = ge_false total 12 (omega arith) in
    let g : ltb (total - 12) (least kind) ≡ false = ge_false (total - 12) (least kind) (omega (arith, least_most kind)) in
    let h : ltb (most kind) (total - 12) ≡ true = less_true (most kind) (total - 12) (omega arith) in
    rw (f, g, h) refl

other_undescribed : (order : Order) (known : List Interface) (kind total : ℕ) (b : List ℕ) → 12 + least kind ≤ total → total ≤ 12 + most kind
    → min total 1048604 ≤ length b → differs order total b ≡ false → lacks kind (read_packet order known kind (body_of total b)) ≡ true
    → read_other order known kind total b ≡ Faulty Undescribed
unfolding read_other
other_undescribed order known kind total b lo hi enough same is =
    let f : ltb total 12 ≡ false = ge_false total 12 (omega arith) in
    let g : ltb (total - 12) (least kind) ≡ false = ge_false (total - 12) (least kind) (omega arith) in
    let h : ltb (most kind) (total - 12) ≡ false = ge_false (most kind) (total - 12) (omega arith) in
    let w : ltb (length b) (min total 1048604) ≡ false = ge_false (length b) (min total 1048604) enough in
    rw (f, g, h, w, same, is) refl

other_unlike : (order : Order) (known : List Interface) (kind total : ℕ) (b : List ℕ) → 12 + least kind ≤ total → total ≤ 12 + most kind
    → IsUnlike order total b → read_other order known kind total b ≡ Faulty Unlike
unfolding read_other
other_unlike order known kind total b lo hi u =
    let f : ltb total 12 ≡ false = ge_false total 12 (omega arith) in
    let g : ltb (total - 12) (least kind) ≡ false = ge_false (total - 12) (least kind) (omega arith) in
    let h : ltb (most kind) (total - 12) ≡ false = ge_false (most kind) (total - 12) (omega arith) in
    let w : ltb (length b) (min total 1048604) ≡ false = ge_false (length b) (min total 1048604) (omega (arith, u.enough)) in
    let d : differs order total b ≡ true = unlike order total b u in
    rw (f, g, h, w, d) refl

record_long : (order : Order) (scale link captured : ℕ) (b : List ℕ) → BeginsRecord order captured b → 16777216 < captured
    → read_record order scale link b ≡ Faulty RecordLength
unfolding read_record
record_long order scale link captured b h lt =
    let w = four_again order b h.seconds h.fraction captured h.original h.rest h.whole h.seconds_fit h.fraction_fits h.captured_fits h.original_fits in
    let f : ltb (length b) 16 ≡ false = ge_false (length b) 16 (omega (arith, w.size)) in
    let g : ltb 16777216 (word order 2 b) ≡ true = less_true 16777216 (word order 2 b) (subst (λ (k : ℕ). 16777216 < k) (sym w.third) lt) in
    rw (f, g) refl

begins_again : (order : Order) (known : List Interface) (kind total : ℕ) (b : List ℕ) → BeginsBlock order kind total b
    → read_block order known b ≡ read_other order known kind total b
begins_again order known kind total b h =
    let r1 = u32 order total ++ h.rest in
    let d1 : drop 4 b ≡ r1 = ap (drop 4) h.whole ∙ drop-u32 order kind r1 in
    let k : number32 order b ≡ kind = ap (number32 order) h.whole ∙ number32-u32 order kind r1 h.kind_fits in
    let n : word order 1 b ≡ total = ap (number32 order) d1 ∙ number32-u32 order total h.rest h.total_fits in
    let le : 8 ≤ length b = omega (arith, ap (length {A = ℕ}) h.whole, length-u32 order kind r1, length-u32 order total h.rest) in
    block_other order known b le (λ e. h.other (sym k ∙ e)) ∙ (ap (λ (x : ℕ). read_other order known x (word order 1 b) b) k
    ∙ ap (λ (x : ℕ). read_other order known kind x b) n)

pub fault_again : (s : Format) (b : List ℕ) (f : FileFault) → HasFault s b f → AreBytes b → next_item s b ≡ Faulty f
fault_again s b f (foreign first rest es eb i ef) fits = ap (λ t. next_item t b) es ∙ (foreign_again b first rest eb i fits ∙ ap Faulty (sym ef))
fault_again s b f (unordered may h ef) fits = unordered_again s b may h fits ∙ ap Faulty (sym ef)
fault_again s b f (short_section may h ef) fits = short_section_again s b may h ∙ ap Faulty (sym ef)
fault_again s b f (short_block order known kind total es h lt ef) fits =
    ap (λ t. next_item t b) es ∙ (begins_again order known kind total b h ∙ (other_short order known kind total b lt ∙ ap Faulty (sym ef)))
fault_again s b f (short_body order known kind total es h le lt ef) fits =
    ap (λ t. next_item t b) es ∙ (begins_again order known kind total b h ∙ (other_body order known kind total b le lt ∙ ap Faulty (sym ef)))
fault_again s b f (long_body order known kind total es h lt ef) fits =
    ap (λ t. next_item t b) es ∙ (begins_again order known kind total b h ∙ (other_long order known kind total b lt ∙ ap Faulty (sym ef)))
fault_again s b f (unlike_section may h ef) fits = unlike_section_again s b may h ∙ ap Faulty (sym ef)
fault_again s b f (unlike_block order known kind total es h lo hi u ef) fits =
    ap (λ t. next_item t b) es ∙ (begins_again order known kind total b h ∙ (other_unlike order known kind total b lo hi u ∙ ap Faulty (sym ef)))
fault_again s b f (undescribed order known kind total es h lo hi enough same n ef) fits =
    ap (λ t. next_item t b) es ∙ (begins_again order known kind total b h
    ∙ (other_undescribed order known kind total b lo hi enough (alike order total b same) (lacks_again order known kind total b lo n) ∙ ap Faulty (sym ef)))
fault_again s b f (long_record order scale link captured es h lt ef) fits =
    ap (λ t. next_item t b) es ∙ (record_long order scale link captured b h lt ∙ ap Faulty (sym ef))

-- ---- too few bytes

undecided : (c : Bool) (x : Answer) → cond c Undecided x ≡ Undecided → (c ≡ true) ⊎ (x ≡ Undecided)
undecided true x e = inl refl
undecided false x e = inr e

not_faulty : (c : Bool) (f : FileFault) (x : Answer) → cond c (Faulty f) x ≡ Undecided → x ≡ Undecided
not_faulty true f x e = absurd (cc)
not_faulty false f x e = e

few_block : (order : Order) (kind size : ℕ) (b : List ℕ) (packet : Option Captured) (next : Format) → whole_block order kind size b packet next ≡ Undecided
    → length b < 1048604
few_block order kind size b packet next e =
    let told = cond (lacks kind packet) (Faulty Undescribed) (Item packet size next) in
    elim (undecided (ltb (length b) (min size 1048604)) (cond (differs order size b) (Faulty Unlike) told) e) [
      | inl t ↦ omega (arith, lt_true (length b) (min size 1048604) t)
      | inr x ↦
          let none : Item packet size next ≡ Undecided =
          not_faulty (lacks kind packet) Undescribed (Item packet size next) (not_faulty (differs order size b) Unlike told x) in
          absurd (cc)
    ]

few : (size : ℕ) (b : List ℕ) (packet : Option Captured) (next : Format) → whole size b packet next ≡ Undecided → length b < 1048604
few size b packet next e =
    elim (undecided (ltb (length b) (min size 1048604)) (Item packet size next) e) [
      | inl t ↦ omega (arith, lt_true (length b) (min size 1048604) t)
      | inr x ↦ absurd (cc)
    ]

header_few : (order : Order) (scale : ℕ) (b : List ℕ) → read_header order scale b ≡ Undecided → length b < 1048604
unfolding read_header
header_few order scale b e =
    elim (undecided (ltb (length b) 24) (Item None 24 (Pcap order scale (word order 5 b % 65536))) e) [
      | inl t ↦ omega (arith, lt_true (length b) 24 t)
      | inr x ↦ absurd (cc)
    ]

record_few : (order : Order) (scale link : ℕ) (b : List ℕ) → read_record order scale link b ≡ Undecided → length b < 1048604
unfolding read_record
record_few order scale link b e =
    let made = whole (record_size order b) b (Some (record_packet order scale link b)) (Pcap order scale link) in
    let long = ltb 16777216 (word order 2 b) in
    elim (undecided (ltb (length b) 16) (cond long (Faulty RecordLength) made) e) [
      | inl t ↦ omega (arith, lt_true (length b) 16 t)
      | inr x ↦ few (record_size order b) b (Some (record_packet order scale link b)) (Pcap order scale link)
          (not_faulty long RecordLength made x)
    ]

section_in_few : (order : Order) (total : ℕ) (b : List ℕ) → read_section_in order total b ≡ Undecided → length b < 1048604
section_in_few order total b e =
    few_block order 0x0A0D0D0A total b None (Pcapng order []) (not_faulty (ltb total 16) Length (whole_block order 0x0A0D0D0A total b None (Pcapng order [])) e)

section_few : (b : List ℕ) → read_section b ≡ Undecided → length b < 1048604
unfolding read_section
section_few b e =
    let little = cond (eqb (word Big 2 b) 0x4D3C2B1A) (read_section_in Little (word Little 1 b) b) (Faulty ByteOrder) in
    let big = read_section_in Big (word Big 1 b) b in
    elim (undecided (ltb (length b) 12) (cond (eqb (word Big 2 b) 0x1A2B3C4D) big little) e) [
      | inl t ↦ omega (arith, lt_true (length b) 12 t)
      | inr x ↦ elim (chosen (eqb (word Big 2 b) 0x1A2B3C4D) big little Undecided x) [
        | inl y ↦ section_in_few Big (word Big 1 b) b y.1
        | inr y ↦ elim (chosen (eqb (word Big 2 b) 0x4D3C2B1A) (read_section_in Little (word Little 1 b) b) (Faulty ByteOrder) Undecided y.1) [
          | inl z ↦ section_in_few Little (word Little 1 b) b z.1
          | inr z ↦ let none : Faulty ByteOrder ≡ Undecided = z.1 in absurd (cc)
        ]
      ]
    ]

other_few : (order : Order) (known : List Interface) (kind total : ℕ) (b : List ℕ) → read_other order known kind total b ≡ Undecided → length b < 1048604
unfolding read_other
other_few order known kind total b e =
    let packet = read_packet order known kind (body_of total b) in
    let next = Pcapng order (read_interfaces order known kind (body_of total b)) in
    let made = whole_block order kind total b packet next in
    let long = cond (ltb (most kind) (total - 12)) (Faulty Length) made in
    few_block order kind total b packet next (not_faulty (ltb (most kind) (total - 12)) Length made (not_faulty (ltb (total - 12) (least kind)) TooShort long
    (not_faulty (ltb total 12) Length (cond (ltb (total - 12) (least kind)) (Faulty TooShort) long) e)))

block_few : (order : Order) (known : List Interface) (b : List ℕ) → read_block order known b ≡ Undecided → length b < 1048604
unfolding read_block
block_few order known b e =
    let other = read_other order known (number32 order b) (word order 1 b) b in
    elim (undecided (ltb (length b) 8) (cond (eqb (number32 order b) 0x0A0D0D0A) (read_section b) other) e) [
      | inl t ↦ omega (arith, lt_true (length b) 8 t)
      | inr x ↦ elim (chosen (eqb (number32 order b) 0x0A0D0D0A) (read_section b) other Undecided x) [
        | inl y ↦ section_few b y.1
        | inr y ↦ other_few order known (number32 order b) (word order 1 b) b y.1
      ]
    ]

past_header : (b : List ℕ) (n : ℕ) (order : Order) (scale : ℕ) (rest : Answer) → cond (eqb (number32 Big b) n) (read_header order scale b) rest ≡ Undecided
    → (rest ≡ Undecided → length b < 1048604) → length b < 1048604
past_header b n order scale rest e after =
    elim (chosen (eqb (number32 Big b) n) (read_header order scale b) rest Undecided e) [
      | inl x ↦ header_few order scale b x.1
      | inr x ↦ after x.1
    ]

no_capture_few : (b : List ℕ) → Faulty NoCapture ≡ Undecided → length b < 1048604
no_capture_few b e = absurd (cc)

first_few : (b : List ℕ) → read_first b ≡ Undecided → length b < 1048604
unfolding read_first
first_few b e =
    let r4 = cond (eqb (number32 Big b) 0xA1B23C4D) (read_header Big 1 b) (Faulty NoCapture) in
    let r3 = cond (eqb (number32 Big b) 0x4D3CB2A1) (read_header Little 1 b) r4 in
    let r2 = cond (eqb (number32 Big b) 0xA1B2C3D4) (read_header Big 1000 b) r3 in
    let r1 = cond (eqb (number32 Big b) 0xD4C3B2A1) (read_header Little 1000 b) r2 in
    elim (undecided (ltb (length b) 4) (cond (eqb (number32 Big b) 0x0A0D0D0A) (read_section b) r1) e) [
      | inl t ↦ omega (arith, lt_true (length b) 4 t)
      | inr x ↦ elim (chosen (eqb (number32 Big b) 0x0A0D0D0A) (read_section b) r1 Undecided x) [
        | inl y ↦ section_few b y.1
        | inr y ↦
            past_header b 0xD4C3B2A1 Little 1000 r2 y.1 (λ h1. past_header b 0xA1B2C3D4 Big 1000 r3 h1 (λ h2. past_header b 0x4D3CB2A1 Little 1 r4 h2
            (λ h3. past_header b 0xA1B23C4D Big 1 (Faulty NoCapture) h3 (no_capture_few b))))
      ]
    ]

pub undecided_few : (s : Format) (b : List ℕ) → next_item s b ≡ Undecided → length b < 1048604
undecided_few Unknown b e = first_few b e
undecided_few (Pcap order scale link) b e = record_few order scale link b e
undecided_few (Pcapng order known) b e = block_few order known b e
