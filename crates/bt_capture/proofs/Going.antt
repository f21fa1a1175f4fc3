-- How a reading goes on.
use Rattle.std.proofs.Common.{◌≡◌, ℕ, ◌+◌, ◌-◌, ◌≤◌, ◌<◌, min, List, [], ◌∷◌, ◌++◌, length, take, drop, refl, sym, ap, subst, ◌∙◌, arith, inl, inr, Option}
use Rattle.std.specs.Option.{option_to_list}
use Rattle.std.proofs.lemmas.Bool.{cases_lt}
use Rattle.std.proofs.lemmas.List.{append-nil, append_assoc, length-append, length-take-le, take-append-drop, get_or_append_left, get_or-append_right}
use Rattle.bt_pcap.specs.Numbers.{AreBytes}
use Rattle.bt_pcap.specs.Formats.{Format, Unknown, Pcap, Pcapng, Captured}
use Rattle.bt_pcap.specs.Items.{IsItem}
use Rattle.bt_pcap.specs.Captures.{TakesItem, Adds}
use Rattle.bt_pcap.specs.Laws.{joined}
use Rattle.bt_pcap.specs.Reading.{Item, Undecided, read_first, read_record, read_block, next_item}
use Rattle.bt_pcap.proofs.Complete.{item_again}
use Rattle.bt_pcap.proofs.NumberLaws.{AreBytes-take}
use Rattle.bt_capture.specs.Readings.{Reading, nothing_read, most, IsReading, GoesOn, with_bytes}

-- ---- items

pub joined-last : (items : List (List ℕ)) (x : List ℕ) → joined (items ++ x ∷ []) ≡ joined items ++ x
joined-last [] x = append-nil x
joined-last (item ∷ items) x = ap (λ (y : List ℕ). item ++ y) (joined-last items x) ∙ sym (append_assoc item (joined items) x)

nothing_yet : (s : Format) → next_item s [] ≡ Undecided
unfolding read_first read_record read_block
nothing_yet Unknown = refl
nothing_yet (Pcap order scale link) = refl
nothing_yet (Pcapng order known) = refl

no_empty_item : (s : Format) (p : Option Captured) (t : Format) → IsItem s [] p t → ⊥
no_empty_item s p t i =
    let read : next_item s [] ≡ Item p 0 t = item_again s [] p t i in
    let none : next_item s [] ≡ Undecided = nothing_yet s in
    cc

-- an item has a byte
pub item_uses : (s : Format) (b : List ℕ) (p : Option Captured) (used skip : ℕ) (t : Format) → TakesItem s b p used skip t → 0 < used
item_uses s b p used skip t i =
    elim (cases_lt 0 used) [
      | inl lt ↦ lt
      | inr le ↦
          let none : used ≡ 0 = omega arith in
          let over : skip ≡ 0 = omega (arith, none, i.kept) in
          let P : ℕ → Type 0 = λ n. IsItem s (take n b ++ []) p t in
          absurd (no_empty_item s p t (subst P none (i.item [] (λ k. omega arith) (sym over))))
    ]

AreBytes-append : (a b : List ℕ) → AreBytes a → AreBytes b → AreBytes (a ++ b)
AreBytes-append a b f g i =
    elim (cases_lt i (length a)) [
      | inl lt ↦ rw (get_or_append_left a b 0 i lt) (f i)
      | inr le ↦ rw (get_or-append_right a b (length a) i 0 refl le) (g (i - length a))
    ]

-- ---- readings

nothing_left : (tail : List ℕ) → length tail ≡ 0 → tail ≡ []
nothing_left [] e = refl
nothing_left (x ∷ xs) e = absurd (omega (arith, e))

pub fresh : IsReading [] [] nothing_read
fresh = record { passed = []; whole = refl; are_items = λ tail f e. ([], sym (nothing_left tail e), (refl, refl)); bytes = refl; count = refl }

-- nothing is read, and nothing handed out
pub goes_quiet : (r new : Reading) → ((all : List ℕ) (packets : List Captured) → IsReading all packets r → IsReading all packets new) → GoesOn r [] [] new
goes_quiet r new h = record {
  reads = λ all packets i. subst (λ (x : List ℕ). IsReading x (packets ++ []) new) (sym (append-nil all))
      (subst (λ (x : List Captured). IsReading all x new) (sym (append-nil packets)) (h all packets i));
}

pub goes_none : (r : Reading) → GoesOn r [] [] r
goes_none r = goes_quiet r r (λ all packets i. i)

pub goes_both : (a b c : Reading) (m n : List ℕ) (g h : List Captured) → GoesOn a m g b → GoesOn b n h c → GoesOn a (m ++ n) (g ++ h) c
goes_both a b c m n g h x y = record {
  reads = λ all packets i. subst (λ (z : List ℕ). IsReading z (packets ++ (g ++ h)) c) (append_assoc all m n)
      (subst (λ (z : List Captured). IsReading ((all ++ m) ++ n) z c) (append_assoc packets g h) (y.reads (all ++ m) (packets ++ g) (x.reads all packets i)));
}

-- what is held moves on to what was passed
moved : (all passed held : List ℕ) (n : ℕ) → all ≡ passed ++ held → all ≡ (passed ++ take n held) ++ drop n held
moved all passed held n e =
    e ∙ ap (λ (x : List ℕ). passed ++ x) (sym (take-append-drop n held)) ∙ sym (append_assoc passed (take n held) (drop n held))

-- bytes of the last item are passed over
pub passes : (r : Reading) (n skip : ℕ) → AreBytes r.held → n ≤ length r.held → r.skip ≡ n + skip
    → GoesOn r [] [] (record { format = r.format; skip = skip; held = drop n r.held; bytes = r.bytes; packets = r.packets })
passes r n skip f le left =
    goes_quiet r (record { format = r.format; skip = skip; held = drop n r.held; bytes = r.bytes; packets = r.packets }) (λ all packets i. record {
      passed = i.passed ++ take n r.held;
      whole = moved all i.passed r.held n i.whole;
      are_items = λ tail g e.
          let front = take n r.held in
          let size : length (front ++ tail) ≡ r.skip = omega (arith, length-append front tail, length-take-le n r.held le, e, left) in
          let x = i.are_items (front ++ tail) (AreBytes-append front tail (AreBytes-take n r.held f) g) size in
          (x.0, x.1 ∙ sym (append_assoc i.passed front tail), x.2);
      bytes = i.bytes;
      count = i.count;
    })

-- an item is taken
pub takes : (r : Reading) (p : Option Captured) (used skip count : ℕ) (next : Format) → r.skip ≡ 0 → Adds r.format r.held p used skip next
    → (r.packets ≤ most → count ≡ min (r.packets + length (option_to_list p)) most)
    → GoesOn r [] (option_to_list p) (record { format = next; skip = skip; held = drop used r.held; bytes = r.bytes; packets = count })
takes r p used skip count next none adds more =
    let new : Reading = record { format = next; skip = skip; held = drop used r.held; bytes = r.bytes; packets = count } in
    record {
      reads = λ all packets i. subst (λ (x : List ℕ). IsReading x (packets ++ option_to_list p) new) (sym (append-nil all)) (record {
        passed = i.passed ++ take used r.held;
        whole = moved all i.passed r.held used i.whole;
        are_items = λ tail g e.
            let front = take used r.held in
            let x = i.are_items [] (λ k. omega arith) (sym none) in (
              x.0 ++ (front ++ tail) ∷ [],
              joined-last x.0 (front ++ tail) ∙ ap (λ (y : List ℕ). y ++ (front ++ tail)) (x.1 ∙ append-nil i.passed) ∙ sym (append_assoc i.passed front tail),
              adds Unknown x.0 packets tail g e x.2,
            );
        bytes = i.bytes;
        count = let within : r.packets ≤ most = omega (arith, i.count) in omega (arith, more within, i.count, length-append packets (option_to_list p));
      });
    }

-- more bytes are read
pub reads_more : (r : Reading) (bytes : List ℕ) → GoesOn r bytes [] (with_bytes r bytes)
reads_more r bytes = record {
  reads = λ all packets i. subst (λ (x : List Captured). IsReading (all ++ bytes) x (with_bytes r bytes))
      (sym (append-nil packets)) (record {
        passed = i.passed;
        whole = ap (λ (x : List ℕ). x ++ bytes) i.whole ∙ append_assoc i.passed r.held bytes;
        are_items = i.are_items;
        bytes = omega (arith, i.bytes, length-append all bytes);
        count = i.count;
      });
}
