-- How a walk goes on.
use Rattle.std.proofs.Common.{◌≡◌, ℕ, ◌+◌, ◌≤◌, ◌<◌, min, List, [], length, drop, sym, ap, subst, ◌∙◌, arith, inl, inr, Option}
use Rattle.std.specs.Option.{option_to_list}
use Rattle.std.proofs.lemmas.List.{length-drop, drop-drop, drop_all}
use Rattle.bt_pcap.specs.Numbers.{AreBytes}
use Rattle.bt_pcap.specs.Formats.{Format, Captured}
use Rattle.bt_pcap.specs.Files.{format_of}
use Rattle.bt_pcap.specs.Captures.{Adds, IsInside}
use Rattle.bt_pcap.specs.Faults.{HasFault}
use Rattle.bt_pcap.specs.Reading.{Faulty, next_item}
use Rattle.bt_pcap.specs.declared.file.CaptureFile.{CaptureFile}
use Rattle.bt_pcap.specs.declared.fault.FileFault.{FileFault}
use Rattle.bt_pcap.proofs.NumberLaws.{AreBytes-drop}
use Rattle.bt_capture.specs.declared.walk.Walk.{Walk}
use Rattle.bt_capture.specs.Readings.{Reading, most, GoesOn, Waits, IsFaulty}
use Rattle.bt_capture.specs.Walks.{walk_state, IsPassed}
use Rattle.bt_capture.proofs.Going.{passes, takes}

-- bytes of the last item are passed over
pub pass_goes : (bytes : List ℕ) (old new : Walk) → AreBytes bytes → old.at ≤ length bytes → IsPassed (length bytes) old new → (total : ℕ)
    → GoesOn (walk_state old bytes total) [] [] (walk_state new bytes total)
pass_goes bytes old new f le p total =
    let within : p.n ≤ length (drop old.at bytes) = omega (arith, length-drop old.at bytes, p.over, p.within) in
    let file : format_of old.file ≡ format_of new.file = ap format_of (sym p.file) in
    let held : drop p.n (drop old.at bytes) ≡ drop new.at bytes = drop-drop p.n old.at bytes ∙ ap (λ (k : ℕ). drop k bytes) (sym p.over) in
    let count : old.packets ≡ new.packets = sym p.packets in
    let from = walk_state old bytes total in
    let P : Format → List ℕ → ℕ → Type 0 = λ x h n. GoesOn from [] [] (record { format = x; skip = new.skip; held = h; bytes = total; packets = n }) in
    subst (λ n. P (format_of new.file) (drop new.at bytes) n) count
    (subst (λ h. P (format_of new.file) h old.packets) held
    (subst (λ x. P x (drop p.n (drop old.at bytes)) old.packets) file (passes from p.n new.skip (AreBytes-drop old.at bytes f) within p.left)))

-- after them more bytes are needed, if some are left
pub pass_waits : (bytes : List ℕ) (old new : Walk) → IsPassed (length bytes) old new → 0 < new.skip → (total : ℕ) → Waits (walk_state new bytes total)
pass_waits bytes old new p more total =
    let over : length bytes ≤ new.at = elim p.all [ inl none ↦ absurd (omega (arith, none)) | inr all ↦ omega (arith, all) ] in
    let none : drop new.at bytes ≡ [] = drop_all new.at bytes over in
    record { few = omega (arith, ap (length {A = ℕ}) none); inside = inl (more, none) }

pub pass_at_item : (len : ℕ) (old new : Walk) → IsPassed len old new → new.skip ≤ 0 → new.skip ≡ 0
pass_at_item len old new p le = omega arith

-- an item is taken
pub item_taken : (bytes : List ℕ) (w : Walk) (file : CaptureFile) (p : Option Captured) (used skip count : ℕ) → w.skip ≡ 0
    → Adds (format_of w.file) (drop w.at bytes) p used skip (format_of file)
    → (w.packets ≤ most → count ≡ min (w.packets + length (option_to_list p)) most) → (total : ℕ)
    → GoesOn (walk_state w bytes total) [] (option_to_list p)
    (record { format = format_of file; skip = skip; held = drop (w.at + used) bytes; bytes = total; packets = count })
item_taken bytes w file p used skip count none adds more total =
    let from = walk_state w bytes total in
    let P : List ℕ → Type 0 = λ h.
    GoesOn from [] (option_to_list p) (record { format = format_of file; skip = skip; held = h; bytes = total; packets = count }) in
    subst P (drop-drop used w.at bytes) (takes from p used skip count (format_of file) none adds more)

-- more bytes are needed
pub inside_waits : (r : Reading) → r.skip ≡ 0 → IsInside r.format r.held → Waits r
inside_waits r none i = record { few = i.few; inside = inr (none, i) }

pub faulty : (r : Reading) (f : FileFault) → r.skip ≡ 0 → next_item r.format r.held ≡ Faulty f → HasFault r.format r.held f → IsFaulty r f
faulty r f none answer fault = record { at_item = none; answer = answer; fault = fault }

-- a step found no item: what is known is the same
pub stays : (bytes : List ℕ) (old mid : Walk) (file : CaptureFile) → AreBytes bytes → old.at ≤ length bytes → IsPassed (length bytes) old mid
    → format_of file ≡ format_of mid.file → (total : ℕ) → GoesOn (walk_state old bytes total) [] [] (walk_state (record mid { file = file }) bytes total)
stays bytes old mid file f le p same total =
    let P : Format → Type 0 = λ x. GoesOn (walk_state old bytes total) [] []
    (record { format = x; skip = mid.skip; held = drop mid.at bytes; bytes = total; packets = mid.packets }) in
    subst P (sym same) (pass_goes bytes old mid f le p total)

-- ---- faults

-- before a fault nothing is passed over
pub pass_faulty : (bytes : List ℕ) (old mid : Walk) (total : ℕ) (f : FileFault) → IsPassed (length bytes) old mid → IsFaulty (walk_state old bytes total) f
    → (mid.skip ≡ 0) × (next_item (format_of mid.file) (drop mid.at bytes) ≡ Faulty f) × (walk_state mid bytes total ≡ walk_state old bytes total)
pass_faulty bytes old mid total f p i =
    let none : p.n ≡ 0 = omega (arith, p.left, i.at_item) in
    let left : mid.skip ≡ old.skip = omega (arith, none, p.left) in
    let at : mid.at ≡ old.at = omega (arith, none, p.over) in
    let file : format_of mid.file ≡ format_of old.file = ap format_of p.file in
    let held : drop mid.at bytes ≡ drop old.at bytes = ap (λ (k : ℕ). drop k bytes) at in
    let count : mid.packets ≡ old.packets = p.packets in
    let answer : next_item (format_of mid.file) (drop mid.at bytes) ≡ Faulty f =
    ap (λ s. next_item s (drop mid.at bytes)) file ∙ ap (next_item (format_of old.file)) held ∙ i.answer in
    (left ∙ i.at_item, answer, (cc))
