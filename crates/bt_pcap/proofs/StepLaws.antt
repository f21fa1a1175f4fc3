-- What a step answers, and what follows for whole files.
use Rattle.std.proofs.Common.{◌≡◌, ℕ, ◌+◌, ◌-◌, ◌≤◌, min, List, [], ◌∷◌, ◌++◌, length, take, refl, sym, ap, subst, ◌∙◌, arith, inl, inr, Option, Some}
use Rattle.std.proofs.Common.{None, append_assoc}
use Rattle.std.specs.Prelude.{Result, Ok, Err}
use Rattle.std.specs.Option.{option_to_list}
use Rattle.std.proofs.Math.Seq.{take-append_seam}
use Rattle.std.proofs.lemmas.Bool.{cases_lt}
use Rattle.std.proofs.lemmas.List.{length-append, length-take, length-take-le, take_all, take-take, get_or_append_left, get_or-append_right}
use Rattle.bt_pcap.specs.declared.fault.FileFault.{FileFault}
use Rattle.bt_pcap.specs.declared.fronts.Step.{Step}
use Rattle.bt_pcap.specs.declared.fronts.Step.TheVariants as step
use Rattle.bt_pcap.specs.Numbers.{AreBytes}
use Rattle.bt_pcap.specs.Formats.{Format, Unknown, Pcap, Pcapng, Captured}
use Rattle.bt_pcap.specs.Items.{IsItem}
use Rattle.bt_pcap.specs.Steps.{Gives, captured}
use Rattle.bt_pcap.specs.Captures.{IsCapture, TakesItem, IsInside, Answers, Adds, GoesOn}
use Rattle.bt_pcap.specs.Reading.{Item, Undecided, Faulty, read_first, next_item}
use Rattle.bt_pcap.proofs.NumberLaws.{AreBytes-take}
use Rattle.bt_pcap.proofs.Readings.{header_item, record_item, section_item, block_item}
use Rattle.bt_pcap.proofs.Firsts.{first_item}
use Rattle.bt_pcap.proofs.SameFront.{SameFront, next_same}
use Rattle.bt_pcap.proofs.Complete.{item_again}
use Rattle.bt_pcap.proofs.Sound.{item_sound}
use Rattle.bt_pcap.proofs.FaultLaws.{fault_sound}
use Rattle.bt_pcap.proofs.FaultAgain.{fault_again, undecided_few}

AreBytes-append : (a b : List ℕ) → AreBytes a → AreBytes b → AreBytes (a ++ b)
AreBytes-append a b f g i =
    elim (cases_lt i (length a)) [
      | inl lt ↦ rw (get_or_append_left a b 0 i lt) (f i)
      | inr le ↦ rw (get_or-append_right a b (length a) i 0 refl le) (g (i - length a))
    ]

-- an item's front has come
first_enough : (b : List ℕ) (p : Option Captured) (n : ℕ) (t : Format) → read_first b ≡ Item p n t → min n 1048604 ≤ length b
first_enough b p n t e =
    elim (first_item b p n t e) [
      | inl x ↦ (section_item b p n t x.1).enough
      | inr x ↦ let i = header_item x.order x.scale b p n t x.answer_is in let size : 24 ≡ n = i.2 in let le : 24 ≤ length b = i.0 in omega arith
    ]

pub item_enough : (b : List ℕ) (p : Option Captured) (n : ℕ) (t : Format) (s : Format) → next_item s b ≡ Item p n t → min n 1048604 ≤ length b
item_enough b p n t Unknown e = first_enough b p n t e
item_enough b p n t (Pcap order scale link) e =
    let i = record_item order scale link b p n t e in subst (λ (k : ℕ). min k 1048604 ≤ length b) i.size_is i.enough
item_enough b p n t (Pcapng order known) e =
    elim (block_item order known b p n t e) [
      | inl x ↦ x.1.enough
      | inr x ↦ subst (λ (k : ℕ). min k 1048604 ≤ length b) x.1.size_is x.1.enough
    ]

takes : (s : Format) (b : List ℕ) (p : Option Captured) (used skip : ℕ) (t : Format) → AreBytes b → next_item s b ≡ Item p (used + skip) t
    → used ≡ min (used + skip) 1048604
    → TakesItem s b p used skip t
takes s b p used skip t f e kept =
    let enough : min (used + skip) 1048604 ≤ length b = item_enough b p (used + skip) t s e in
    let le : used ≤ length b = omega (arith, kept, enough) in
    record {
      within = le;
      kept = kept;
      item = λ tail ft lt.
          let w = take used b ++ tail in
          let front : length (take used b) ≡ used = length-take-le used b le in
          let size : used + skip ≡ length w = omega (arith, length-append (take used b) tail, front, lt) in
          let same : take used b ≡ take used w = sym (ap (λ (k : ℕ). take k w) (sym front) ∙ take-append_seam (take used b) tail) in
          let fronts : SameFront (used + skip) b w = record { same = subst (λ (k : ℕ). take k b ≡ take k w) kept same; enough = omega (arith, size) } in
          let read : next_item s w ≡ Item p (used + skip) t = next_same s b w p (used + skip) t fronts e in
          item_sound s w p t (read ∙ ap (λ (k : ℕ). Item p k t) size) (AreBytes-append (take used b) tail (AreBytes-take used b f) ft);
    }

-- the front of an item, and what follows
front_of : (item rest b : List ℕ) → b ≡ take 1048604 item ++ rest → SameFront (length item) item b
front_of item rest b e =
    let m = min (length item) 1048604 in
    let x = take 1048604 item in
    let lx : length x ≡ m = length-take 1048604 item ∙ omega arith in
    let one : take m b ≡ x = ap (take m) e ∙ (ap (λ (k : ℕ). take k (x ++ rest)) (sym lx) ∙ take-append_seam x rest) in
    let two : take m x ≡ take m item = take-take m 1048604 item (omega arith) in
    let all : take m x ≡ x = take_all m x (omega (arith, lx)) in
    record { same = sym two ∙ (all ∙ sym one); enough = omega (arith, ap (length {A = ℕ}) e, length-append x rest, lx) }

inside : (s : Format) (b : List ℕ) → AreBytes b → next_item s b ≡ Undecided → IsInside s b
inside s b f e = record {
  few = undecided_few s b e;
  no_item = λ item rest packet next i h.
      let read : next_item s b ≡ Item packet (length item) next = next_same s item b packet (length item) next (front_of item rest b h)
      (item_again s item packet next i) in
      cc;
  no_fault = λ g h. let read : next_item s b ≡ Faulty g = fault_again s b g h f in cc;
}

pub answers : (s : Format) (b : List ℕ) (r : Result Step FileFault) (t : Format) → AreBytes b → Gives s r t (next_item s b) → Answers s b r t
answers s b (Ok (step.Packet p used skip)) t f g = takes s b (Some (captured p)) used skip t f g.0 g.1
answers s b (Ok (step.Passed used skip)) t f g = takes s b None used skip t f g.0 g.1
answers s b (Ok step.More) t f g = (g.1, inside s b f g.0)
answers s b (Err e) t f g = (g.1, fault_sound s b e g.0 f)

-- ---- whole files

one_more : (first : Format) (items : List (List ℕ)) (packets : List Captured) (s : Format) (item : List ℕ) (p : Option Captured) (t : Format)
    → IsCapture first items packets s → IsItem s item p t → IsCapture first (items ++ item ∷ []) (packets ++ option_to_list p) t
one_more first [] packets s item p t c i =
    let known : IsItem first item p t = subst (λ x. IsItem x item p t) c.1 i in
    let list : packets ++ option_to_list p ≡ option_to_list p ++ [] = ap (λ x. x ++ option_to_list p) c.0 ∙ sym (append_none (option_to_list p)) in
    (p, t, [], known, (refl, refl), list)
  where
    append_none : (xs : List Captured) → xs ++ [] ≡ xs
    append_none [] = refl
    append_none (x ∷ xs) = ap (λ ys. x ∷ ys) (append_none xs)
one_more first (a ∷ items) packets s item p t c i = (
  c.0,
  c.1,
  c.2 ++ option_to_list p,
  c.3,
  one_more c.1 items c.2 s item p t c.4 i,
  ap (λ x. x ++ option_to_list p) c.5
      ∙ append_assoc (option_to_list c.0) c.2 (option_to_list p),
)

adds : (s : Format) (b : List ℕ) (p : Option Captured) (used skip : ℕ) (t : Format) → TakesItem s b p used skip t → Adds s b p used skip t
adds s b p used skip t i first items packets tail f l c = one_more first items packets s (take used b ++ tail) p t c (i.item tail f l)

pub goes_on : (s : Format) (b : List ℕ) (r : Result Step FileFault) (t : Format) → Answers s b r t → GoesOn s b r t
goes_on s b (Ok (step.Packet p used skip)) t a = adds s b (Some (captured p)) used skip t a
goes_on s b (Ok (step.Passed used skip)) t a = adds s b None used skip t a
goes_on s b (Ok step.More) t a = tt
goes_on s b (Err e) t a = tt
