-- What is seen of a reader.
use Rattle.std.proofs.Common.{◌≡◌, ℕ, ◌+◌, ◌≤◌, min, List, [], ◌++◌, length, drop, refl, sym, ap, subst, ◌∙◌, arith, Option, Result}
use Rattle.std.proofs.lemmas.List.{append-nil, drop_all}
use Rattle.bt_pcap.specs.Formats.{Unknown, Captured}
use Rattle.bt_pcap.specs.Captures.{IsCapture}
use Rattle.bt_pcap.specs.Laws.{joined}
use Rattle.bt_pcap.specs.declared.fault.FileFault.{FileFault}
use Rattle.bt_capture.specs.declared.walk.Walk.{Walk}
use Rattle.bt_capture.specs.Readings.{Reading, most, IsReading, Hands, Repeats, with_bytes}
use Rattle.bt_capture.specs.Walks.{walk_state}

-- more bytes stand after those that are left
pub read_more : (w : Walk) (buffer new x : List ℕ) (bytes total : ℕ) (old : Reading) → walk_state w buffer bytes ≡ old → new ≡ drop w.at buffer ++ x
    → total ≡ min (bytes + length x) most → walk_state (record w { at = 0 }) new total ≡ with_bytes old x
read_more w buffer new x bytes total old is more sum =
    let from = walk_state w buffer bytes in
    let P : List ℕ → ℕ → Type 0 = λ h n. record { format = from.format; skip = from.skip; held = h; bytes = n; packets = from.packets } ≡ with_bytes from x in
    let e : P new total = subst (λ h. P h total) (sym more) (subst (λ n. P (drop w.at buffer ++ x) n) (sym sum) refl) in
    e ∙ ap (λ r. with_bytes r x) is

pub read_none : (w : Walk) (buffer new : List ℕ) (bytes : ℕ) (old : Reading) → walk_state w buffer bytes ≡ old → new ≡ drop w.at buffer
    → walk_state (record w { at = 0 }) new bytes ≡ old
read_none w buffer new bytes old is same =
    let from = walk_state w buffer bytes in
    let P : List ℕ → Type 0 = λ h. record { format = from.format; skip = from.skip; held = h; bytes = bytes; packets = from.packets } ≡ from in
    let e : P new = subst P (sym same) refl in
    e ∙ is

-- a packet is handed out of the buffer
pub handed : (w new : Walk) (bytes buffer : List ℕ) (n : ℕ) (old : Reading) (r : Result (Option Captured) FileFault)
    → bytes ≡ buffer → walk_state w buffer n ≡ old
    → Hands (walk_state w bytes n) r (walk_state new bytes n) → Hands old r (walk_state new buffer n)
handed w new bytes buffer n old r e is h =
    subst (λ s. Hands s r (walk_state new buffer n)) is (subst (λ b. Hands (walk_state w b n) r (walk_state new b n)) e h)

pub repeated : {A : Type 0} (w new : Walk) (bytes buffer : List ℕ) (n : ℕ) (old : Reading) (r : Result A FileFault)
    → bytes ≡ buffer → walk_state w buffer n ≡ old
    → Repeats (walk_state w bytes n) r (walk_state new bytes n) → Repeats old r (walk_state new buffer n)
repeated w new bytes buffer n old r e is h =
    subst (λ s. Repeats s r (walk_state new buffer n)) is (subst (λ b. Repeats (walk_state w b n) r (walk_state new b n)) e h)

-- after the last item the file is items
pub all_items : (r : Reading) (all : List ℕ) (packets : List Captured) → IsReading all packets r → r.skip ≡ 0 → r.held ≡ []
    → (items : List (List ℕ)) × (joined items ≡ all) × IsCapture Unknown items packets r.format
all_items r all packets i none nothing =
    let x = i.are_items [] (λ k. omega arith) (sym none) in
    let whole : all ≡ i.passed = i.whole ∙ ap (λ (h : List ℕ). i.passed ++ h) nothing ∙ append-nil i.passed in
    (x.0, x.1 ∙ append-nil i.passed ∙ sym whole, x.2)

pub nothing_held : (w : Walk) (buffer : List ℕ) (n : ℕ) (r : Reading) → walk_state w buffer n ≡ r → length buffer ≤ w.at → r.held ≡ []
nothing_held w buffer n r is le = sym (ap (λ s. s.held) is) ∙ drop_all w.at buffer le

pub nothing_skipped : (w : Walk) (buffer : List ℕ) (n : ℕ) (r : Reading) → walk_state w buffer n ≡ r → w.skip ≤ 0 → r.skip ≡ 0
nothing_skipped w buffer n r is le = let none : w.skip ≡ 0 = omega (arith, le) in sym (ap (λ s. s.skip) is) ∙ none
