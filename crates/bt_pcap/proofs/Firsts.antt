-- When the first bytes of a file are read as an item.
use Rattle.std.proofs.Common.{◌≡◌, ℕ, ◌≤◌, ◌⊎◌, false, cond, eqb, ltb, List, length, refl, sym, ap, ◌∙◌, inl, inr, Option}
use Rattle.bt_pcap.specs.declared.numbers.Order.{Order}
use Rattle.bt_pcap.specs.declared.numbers.Order.TheVariants.{Little, Big}
use Rattle.bt_pcap.specs.declared.fault.FileFault.TheVariants.{NoCapture}
use Rattle.bt_pcap.specs.Numbers.{u32, number32}
use Rattle.bt_pcap.specs.Formats.{Format, Captured}
use Rattle.bt_pcap.specs.Items.{HasMagic}
use Rattle.bt_pcap.specs.Reading.{Answer, Item, Faulty, read_header, read_section, read_first}
use Rattle.bt_pcap.proofs.Readings.{chosen, decided, eq_true, ge_false}

-- ---- the magic numbers, read in big-endian order

pub little_micro : number32 Big (u32 Little 0xA1B2C3D4) ≡ 0xD4C3B2A1
unfolding number32
little_micro = refl

pub big_micro : number32 Big (u32 Big 0xA1B2C3D4) ≡ 0xA1B2C3D4
unfolding number32
big_micro = refl

pub little_nano : number32 Big (u32 Little 0xA1B23C4D) ≡ 0x4D3CB2A1
unfolding number32
little_nano = refl

pub big_nano : number32 Big (u32 Big 0xA1B23C4D) ≡ 0xA1B23C4D
unfolding number32
big_nano = refl

pub record HeaderFirst (a : List ℕ) (answer : Answer) : Type 0 where
  pub order : Order
  pub scale : ℕ
  pub magic : ℕ
  pub known : HasMagic scale magic
  pub is : number32 Big a ≡ number32 Big (u32 order magic)
  pub answer_is : read_header order scale a ≡ answer

fourth : (a : List ℕ) (p : Option Captured) (n : ℕ) (s : Format) → cond (eqb (number32 Big a) 0xA1B23C4D) (read_header Big 1 a) (Faulty NoCapture) ≡ Item p n s
    → HeaderFirst a (Item p n s)
fourth a p n s e =
    elim (chosen (eqb (number32 Big a) 0xA1B23C4D) (read_header Big 1 a) (Faulty NoCapture) (Item p n s) e) [
      | inl x ↦ record {
        order = Big;
        scale = 1;
        magic = 0xA1B23C4D;
        known = inr (refl, refl);
        is = eq_true (number32 Big a) 0xA1B23C4D x.0
            ∙ sym big_nano;
        answer_is = x.1;
      }
      | inr x ↦ let f : Faulty NoCapture ≡ Item p n s = x.1 in absurd (cc)
    ]

third : (a : List ℕ) (p : Option Captured) (n : ℕ) (s : Format)
    → cond (eqb (number32 Big a) 0x4D3CB2A1) (read_header Little 1 a) (cond (eqb (number32 Big a) 0xA1B23C4D) (read_header Big 1 a)
    (Faulty NoCapture)) ≡ Item p n s
    → HeaderFirst a (Item p n s)
third a p n s e =
    elim (chosen (eqb (number32 Big a) 0x4D3CB2A1) (read_header Little 1 a) (cond (eqb (number32 Big a) 0xA1B23C4D) (read_header Big 1 a)
    (Faulty NoCapture)) (Item p n s) e) [
      | inl x ↦ record {
        order = Little;
        scale = 1;
        magic = 0xA1B23C4D;
        known = inr (refl, refl);
        is = eq_true (number32 Big a) 0x4D3CB2A1 x.0
            ∙ sym little_nano;
        answer_is = x.1;
      }
      | inr x ↦ fourth a p n s x.1
    ]

second : (a : List ℕ) (p : Option Captured) (n : ℕ) (s : Format)
    → cond (eqb (number32 Big a) 0xA1B2C3D4) (read_header Big 1000 a) (cond (eqb (number32 Big a) 0x4D3CB2A1) (read_header Little 1 a)
    (cond (eqb (number32 Big a) 0xA1B23C4D) (read_header Big 1 a) (Faulty NoCapture))) ≡ Item p n s
    → HeaderFirst a (Item p n s)
second a p n s e =
    elim (chosen (eqb (number32 Big a) 0xA1B2C3D4) (read_header Big 1000 a) (cond (eqb (number32 Big a) 0x4D3CB2A1) (read_header Little 1 a)
    (cond (eqb (number32 Big a) 0xA1B23C4D) (read_header Big 1 a) (Faulty NoCapture))) (Item p n s) e) [
      | inl x ↦ record {
        order = Big;
        scale = 1000;
        magic = 0xA1B2C3D4;
        known = inl (refl, refl);
        is = eq_true (number32 Big a) 0xA1B2C3D4 x.0
            ∙ sym big_micro;
        answer_is = x.1;
      }
      | inr x ↦ third a p n s x.1
    ]

pub first_item : (a : List ℕ) (p : Option Captured) (n : ℕ) (s : Format) → read_first a ≡ Item p n s
    → ((number32 Big a ≡ 0x0A0D0D0A) × (read_section a ≡ Item p n s)) ⊎ HeaderFirst a (Item p n s)
unfolding read_first
first_item a p n s e =
    let b = cond (eqb (number32 Big a) 0xA1B2C3D4) (read_header Big 1000 a) (cond (eqb (number32 Big a) 0x4D3CB2A1) (read_header Little 1 a)
    (cond (eqb (number32 Big a) 0xA1B23C4D) (read_header Big 1 a) (Faulty NoCapture))) in
    let h = cond (eqb (number32 Big a) 0xD4C3B2A1) (read_header Little 1000 a) b in
    let d = decided (ltb (length a) 4) (cond (eqb (number32 Big a) 0x0A0D0D0A) (read_section a) h) p n s e in
    elim (chosen (eqb (number32 Big a) 0x0A0D0D0A) (read_section a) h (Item p n s) d.1) [
      | inl x ↦ inl (eq_true (number32 Big a) 0x0A0D0D0A x.0, x.1)
      | inr x ↦ inr (elim (chosen (eqb (number32 Big a) 0xD4C3B2A1) (read_header Little 1000 a) b (Item p n s) x.1) [
        | inl y ↦ record {
          order = Little;
          scale = 1000;
          magic = 0xA1B2C3D4;
          known = inl (refl, refl);
          is = eq_true (number32 Big a) 0xD4C3B2A1 y.0 ∙ sym little_micro;
          answer_is = y.1;
        }
        | inr y ↦ second a p n s y.1
      ])
    ]

pub first_section : (a : List ℕ) → 4 ≤ length a → number32 Big a ≡ 0x0A0D0D0A → read_first a ≡ read_section a
unfolding read_first
first_section a le e = let f : ltb (length a) 4 ≡ false = ge_false (length a) 4 le in rw (f, e) refl

first_d4 : (a : List ℕ) → 4 ≤ length a → number32 Big a ≡ 0xD4C3B2A1 → read_first a ≡ read_header Little 1000 a
unfolding read_first
first_d4 a le e = let f : ltb (length a) 4 ≡ false = ge_false (length a) 4 le in rw (f, e) refl

first_a1 : (a : List ℕ) → 4 ≤ length a → number32 Big a ≡ 0xA1B2C3D4 → read_first a ≡ read_header Big 1000 a
unfolding read_first
first_a1 a le e = let f : ltb (length a) 4 ≡ false = ge_false (length a) 4 le in rw (f, e) refl

first_4d : (a : List ℕ) → 4 ≤ length a → number32 Big a ≡ 0x4D3CB2A1 → read_first a ≡ read_header Little 1 a
unfolding read_first
first_4d a le e = let f : ltb (length a) 4 ≡ false = ge_false (length a) 4 le in rw (f, e) refl

first_3c : (a : List ℕ) → 4 ≤ length a → number32 Big a ≡ 0xA1B23C4D → read_first a ≡ read_header Big 1 a
unfolding read_first
first_3c a le e = let f : ltb (length a) 4 ≡ false = ge_false (length a) 4 le in rw (f, e) refl

micro : (order : Order) (a : List ℕ) → 4 ≤ length a → number32 Big a ≡ number32 Big (u32 order 0xA1B2C3D4) → read_first a ≡ read_header order 1000 a
micro Little a le e = first_d4 a le (e ∙ little_micro)
micro Big a le e = first_a1 a le (e ∙ big_micro)

nano : (order : Order) (a : List ℕ) → 4 ≤ length a → number32 Big a ≡ number32 Big (u32 order 0xA1B23C4D) → read_first a ≡ read_header order 1 a
nano Little a le e = first_4d a le (e ∙ little_nano)
nano Big a le e = first_3c a le (e ∙ big_nano)

pub first_header : (order : Order) (scale magic : ℕ) (a : List ℕ) → HasMagic scale magic → 4 ≤ length a → number32 Big a ≡ number32 Big (u32 order magic)
    → read_first a ≡ read_header order scale a
first_header order scale magic a (inl h) le e =
    micro order a le (e ∙ ap (λ (m : ℕ). number32 Big (u32 order m)) h.1) ∙ ap (λ (k : ℕ). read_header order k a) (sym h.0)
first_header order scale magic a (inr h) le e =
    nano order a le (e ∙ ap (λ (m : ℕ). number32 Big (u32 order m)) h.1) ∙ ap (λ (k : ℕ). read_header order k a) (sym h.0)
