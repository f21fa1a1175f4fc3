-- The laws of capture files.
use Rattle.std.proofs.Common.{◌≡◌, ℕ, ◌≤◌, min, List, [], ◌∷◌, ◌++◌, length, take, drop, refl, sym, ap, subst, ◌∙◌, arith, Option, append_assoc}
use Rattle.std.specs.Option.{option_to_list}
use Rattle.std.proofs.Math.Seq.{take-append_seam, drop-append_seam}
use Rattle.std.proofs.lemmas.List.{length-append, take-append-le, drop-append-le}
use Rattle.bt_pcap.specs.declared.interfaces.Interface.{Interface}
use Rattle.bt_pcap.specs.declared.numbers.Order.{Order}
use Rattle.bt_pcap.specs.declared.numbers.Order.TheVariants.{Big}
use Rattle.bt_pcap.specs.Numbers.{u16, u32}
use Rattle.bt_pcap.specs.Formats.{Format, Unknown, Pcap, Pcapng, Captured}
use Rattle.bt_pcap.specs.Items.{section_type, IsItem}
use Rattle.bt_pcap.specs.Faults.{foreign, unordered, short_section, short_block, short_body, long_body, unlike_section, unlike_block, undescribed, long_record, NamesNone, enhanced}
use Rattle.bt_pcap.specs.Faults.{obsolete, simple, IsUnlike, IsAlike}
use Rattle.bt_pcap.specs.Captures.{IsCapture}
use Rattle.bt_pcap.specs.Laws.{CutsDontMatter, FaultsStay, ItemsAreRead, ItemsAreUnique, ItemsHaveNoFault, joined, PacketsAreUnique}
use Rattle.bt_pcap.specs.Reading.{Item, Undecided, Faulty, read_first, read_record, read_block, next_item}
use Rattle.bt_pcap.proofs.NumberLaws.{length-u32}
use Rattle.bt_pcap.proofs.Trailers.{more_bytes}
use Rattle.bt_pcap.proofs.SameFront.{SameFront, next_same}
use Rattle.bt_pcap.proofs.Complete.{item_again}
use Rattle.bt_pcap.proofs.FaultAgain.{fault_again}
use Rattle.bt_pcap.proofs.StepLaws.{item_enough}

-- bytes that go on have the same front
goes_on : (n : ℕ) (b more : List ℕ) → min n 1048604 ≤ length b → SameFront n b (b ++ more)
goes_on n b more le = record { same = sym (take-append-le (min n 1048604) b more le); enough = omega (arith, length-append b more) }

pub cuts_dont_matter : CutsDontMatter
cuts_dont_matter s b more p n t e = next_same s b (b ++ more) p n t (goes_on n b more (item_enough b p n t s e)) e

pub items_are_read : ItemsAreRead
items_are_read s item more p t i = next_same s item (item ++ more) p (length item) t (goes_on (length item) item more (omega arith)) (item_again s item p t i)

pub items_are_unique : ItemsAreUnique
items_are_unique s a b x y p q t u i j e =
    let ra : next_item s (a ++ x) ≡ Item p (length a) t = items_are_read s a x p t i in
    let rb : next_item s (b ++ y) ≡ Item q (length b) u = items_are_read s b y q u j in
    let same : Item p (length a) t ≡ Item q (length b) u = sym ra ∙ (ap (next_item s) e ∙ rb) in
    let size : length a ≡ length b = (cc) in
    let bytes : a ≡ b = sym (take-append_seam a x) ∙ (ap (take (length a)) e ∙ (ap (λ (k : ℕ). take k (b ++ y)) size ∙ take-append_seam b y)) in
    (bytes, (cc), (cc))

pub items_have_no_fault : ItemsHaveNoFault
items_have_no_fault s item more p t f fits i h =
    let read : next_item s (item ++ more) ≡ Item p (length item) t = items_are_read s item more p t i in
    let fault : next_item s (item ++ more) ≡ Faulty f = fault_again s (item ++ more) f h fits in
    cc

-- ---- faults

longer : (a rest more : List ℕ) (b : List ℕ) → b ≡ a ++ rest → b ++ more ≡ a ++ (rest ++ more)
longer a rest more b e = ap (λ (x : List ℕ). x ++ more) e ∙ append_assoc a rest more

longer_2 : (a c rest more : List ℕ) (b : List ℕ) → b ≡ a ++ (c ++ rest) → b ++ more ≡ a ++ (c ++ (rest ++ more))
longer_2 a c rest more b e = longer a (c ++ rest) more b e ∙ ap (λ (x : List ℕ). a ++ x) (append_assoc c rest more)

longer_3 : (a c d rest more : List ℕ) (b : List ℕ) → b ≡ a ++ (c ++ (d ++ rest)) → b ++ more ≡ a ++ (c ++ (d ++ (rest ++ more)))
longer_3 a c d rest more b e = longer_2 a c (d ++ rest) more b e ∙ ap (λ (x : List ℕ). a ++ (c ++ x)) (append_assoc d rest more)

longer_4 : (a c d e rest more : List ℕ) (b : List ℕ) → b ≡ a ++ (c ++ (d ++ (e ++ rest))) → b ++ more ≡ a ++ (c ++ (d ++ (e ++ (rest ++ more))))
longer_4 a c d e rest more b h = longer_3 a c d (e ++ rest) more b h ∙ ap (λ (x : List ℕ). a ++ (c ++ (d ++ x))) (append_assoc e rest more)

names_none_stays : (order : Order) (known : List Interface) (kind : ℕ) (b more : List ℕ) → NamesNone order known kind b → NamesNone order known kind (b ++ more)
names_none_stays order known kind b more (enhanced number rest e w f ge) =
    enhanced number (rest ++ more) e (longer (u32 order number) rest more b w) f ge
names_none_stays order known kind b more (obsolete number rest e w f ge) =
    obsolete number (rest ++ more) e (longer (u16 order number) rest more b w) f ge
names_none_stays order known kind b more (simple e none) = simple e none

unlike_stays : (order : Order) (total : ℕ) (b more : List ℕ) → 4 ≤ total → IsUnlike order total b → IsUnlike order total (b ++ more)
unlike_stays order total b more le u = record {
  within = u.within;
  enough = omega (arith, length-append b more, u.enough);
  unlike = λ h. u.unlike (sym (more_bytes order total b more le u.enough) ∙ h);
}

alike_stays : (order : Order) (total : ℕ) (b more : List ℕ) → 4 ≤ total → min total 1048604 ≤ length b → IsAlike order total b
    → IsAlike order total (b ++ more)
alike_stays order total b more le enough a within = more_bytes order total b more le (omega (arith, enough, within)) ∙ a within

pub faults_stay : FaultsStay
faults_stay s b more f (foreign first rest es eb i ef) = foreign first (rest ++ more) es (longer first rest more b eb) i ef
faults_stay s b more f (unordered may h ef) = unordered may (record {
  total = h.total;
  magic = h.magic;
  rest = h.rest ++ more;
  whole = longer_3 (u32 Big section_type) h.total h.magic h.rest more b h.whole;
  total_four = h.total_four;
  magic_four = h.magic_four;
  unknown = h.unknown;
}) ef
faults_stay s b more f (short_section may h ef) = short_section may (record {
  order = h.order;
  total = h.total;
  rest = h.rest ++ more;
  whole = longer_3 (u32 h.order section_type) (u32 h.order h.total) (u32 h.order 0x1A2B3C4D) h.rest more b h.whole;
  short = h.short;
}) ef
faults_stay s b more f (short_block order known kind total es h lt ef) = short_block order known kind total es (record {
  rest = h.rest ++ more;
  whole = longer_2 (u32 order kind) (u32 order total) h.rest more b h.whole;
  kind_fits = h.kind_fits;
  total_fits = h.total_fits;
  other = h.other;
}) lt ef
faults_stay s b more f (short_body order known kind total es h le lt ef) = short_body order known kind total es (record {
  rest = h.rest ++ more;
  whole = longer_2 (u32 order kind) (u32 order total) h.rest more b h.whole;
  kind_fits = h.kind_fits;
  total_fits = h.total_fits;
  other = h.other;
}) le lt ef
faults_stay s b more f (long_body order known kind total es h lt ef) = long_body order known kind total es (record {
  rest = h.rest ++ more;
  whole = longer_2 (u32 order kind) (u32 order total) h.rest more b h.whole;
  kind_fits = h.kind_fits;
  total_fits = h.total_fits;
  other = h.other;
}) lt ef
faults_stay s b more f (unlike_section may h ef) = unlike_section may (record {
  order = h.order;
  total = h.total;
  rest = h.rest ++ more;
  whole = longer_3 (u32 h.order section_type) (u32 h.order h.total) (u32 h.order 0x1A2B3C4D) h.rest more b h.whole;
  enough = h.enough;
  other = unlike_stays h.order h.total b more (omega (arith, h.enough)) h.other;
}) ef
faults_stay s b more f (unlike_block order known kind total es h lo hi u ef) = unlike_block order known kind total es (record {
  rest = h.rest ++ more;
  whole = longer_2 (u32 order kind) (u32 order total) h.rest more b h.whole;
  kind_fits = h.kind_fits;
  total_fits = h.total_fits;
  other = h.other;
}) lo hi (unlike_stays order total b more (omega arith) u) ef
faults_stay s b more f (undescribed order known kind total es h lo hi enough same n ef) =
    let eight : 8 ≤ length b = omega (arith, ap (length {A = ℕ}) h.whole, length-u32 order kind (u32 order total ++ h.rest), length-u32 order total h.rest) in
    undescribed order known kind total es (record {
      rest = h.rest ++ more;
      whole = longer_2 (u32 order kind) (u32 order total) h.rest more b h.whole;
      kind_fits = h.kind_fits;
      total_fits = h.total_fits;
      other = h.other;
    }) lo hi (omega (arith, length-append b more, enough)) (alike_stays order total b more (omega arith) enough same)
    (subst (NamesNone order known kind) (sym (drop-append-le 8 b more eight)) (names_none_stays order known kind (drop 8 b) more n)) ef
faults_stay s b more f (long_record order scale link captured es h lt ef) = long_record order scale link captured es (record {
  seconds = h.seconds;
  fraction = h.fraction;
  original = h.original;
  rest = h.rest ++ more;
  whole = longer_4 (u32 order h.seconds) (u32 order h.fraction) (u32 order captured) (u32 order h.original) h.rest more b h.whole;
  seconds_fit = h.seconds_fit;
  fraction_fits = h.fraction_fits;
  captured_fits = h.captured_fits;
  original_fits = h.original_fits;
}) lt ef

-- ---- whole files

empty : (s : Format) → next_item s [] ≡ Undecided
unfolding read_first read_record read_block
empty Unknown = refl
empty (Pcap order scale link) = refl
empty (Pcapng order known) = refl

no_empty : (s : Format) (p : Option Captured) (t : Format) → IsItem s [] p t → ⊥
no_empty s p t i =
    let none : next_item s [] ≡ Undecided = empty s in
    let read : next_item s [] ≡ Item p 0 t = item_again s [] p t i in
    cc

-- nothing isn't an item and more
not_nothing : (s : Format) (item rest : List ℕ) (p : Option Captured) (t : Format) → IsItem s item p t → [] ≡ item ++ rest → ⊥
not_nothing s [] rest p t i e = no_empty s p t i
not_nothing s (x ∷ item) rest p t i e = cc

pub packets_are_unique : PacketsAreUnique
packets_are_unique s [] [] p q t u c d e = (refl, c.0 ∙ sym d.0, c.1 ∙ sym d.1)
packets_are_unique s [] (b ∷ bs) p q t u c d e = absurd (not_nothing s b (joined bs) d.0 d.1 d.3 e)
packets_are_unique s (a ∷ as') [] p q t u c d e = absurd (not_nothing s a (joined as') c.0 c.1 c.3 (sym e))
packets_are_unique s (a ∷ as') (b ∷ bs) p q t u c d e =
    let one = items_are_unique s a b (joined as') (joined bs) c.0 d.0 c.1 d.1 c.3 d.3 e in
    let rest : joined as' ≡ joined bs = sym (drop-append_seam a (joined as')) ∙ (ap (drop (length a)) e
    ∙ (ap (λ (x : List ℕ). drop (length x) (b ++ joined bs)) one.0 ∙ drop-append_seam b (joined bs))) in
    let more = packets_are_unique c.1 as' bs c.2 d.2 t u c.4 (subst (λ m. IsCapture m bs d.2 u) (sym one.2) d.4) rest in (
      ap (λ x. x ∷ as') one.0 ∙ ap (λ xs. b ∷ xs) more.0,
      c.5 ∙ (ap (λ x. option_to_list x ++ c.2) one.1 ∙ (ap (λ xs. option_to_list d.0 ++ xs) more.1 ∙ sym d.5)),
      more.2,
    )
