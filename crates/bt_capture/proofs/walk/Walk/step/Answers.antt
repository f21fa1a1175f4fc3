use Rattle.std.proofs.Common.{◌≡◌, ◌<◌, ◌-◌, take, Option, Err, ℕ, List, [], ◌∷◌, length, drop, Some, None, sym, subst, arith, ap, ◌∙◌}
use Rattle.std.proofs.lemmas.List.{take_rest}
use Rattle.bt_pcap.specs.Formats.{Format, Captured}
use Rattle.bt_pcap.specs.Files.{format_of}
use Rattle.bt_pcap.specs.Steps.{captured}
use Rattle.bt_pcap.specs.Captures.{Adds, IsInside}
use Rattle.bt_pcap.specs.Faults.{HasFault}
use Rattle.bt_pcap.specs.Reading.{Answer, Item, Undecided, Faulty, next_item}
use Rattle.bt_pcap.specs.declared.fault.FileFault.{FileFault}
use Rattle.bt_capture.specs.declared.walk.Walk.{Walk}
use Rattle.bt_capture.specs.Readings.{GoesOn}
use Rattle.bt_capture.specs.Walks.{walk_state}
use Rattle.bt_capture.proofs.Going.{goes_both, item_uses}
use Rattle.bt_capture.proofs.Walking.{pass_goes, pass_waits, item_taken, inside_waits, faulty, stays, pass_faulty}
use Rattle.bt_capture.proofs.walk.Walk.step.Goals as goal

pub returns-then-self-gt0-clause-steps : goal.returns-then-self-gt0-clause-steps
returns-then-self-gt0-clause-steps c total =
    let bytes = c.args.bytes.now in (
      pass_goes bytes c.args.self.now c.pass.new.self (λ i. omega (arith, c.type_inv.bytes i)) c.requires c.pass.ensures total,
      pass_waits bytes c.args.self.now c.pass.new.self c.pass.ensures c.if-self-gt0.true total,
    )

pub returns-in-Ok-Packet-clause-steps : goal.returns-in-Ok-Packet-clause-steps
returns-in-Ok-Packet-clause-steps c total =
    let bytes = c.args.bytes.now in
    let mid = c.pass.new.self in
    let from = walk_state c.args.self.now bytes total in
    let packet = captured c.in-Ok-Packet.packet in
    let P : Walk → Type 0 = λ w. GoesOn from [] (packet ∷ []) (walk_state w bytes total) in
    let Q : List ℕ → Type 0 = λ b. Adds (format_of mid.file) b (Some packet) c.in-Ok-Packet.used c.in-Ok-Packet.skip (format_of c.step.new.self) in
    let adds : Q (drop mid.at bytes) = subst Q (take_rest bytes mid.at) (rw c.in-Ok-Packet.field-0-is at c.in-Ok-Packet.ensures.goes_on) in
    subst P (sym c.go_on.ensures) (goes_both from (walk_state mid bytes total) _ [] [] [] (packet ∷ [])
    (pass_goes bytes c.args.self.now mid (λ i. omega (arith, c.type_inv.bytes i)) c.requires c.pass.ensures total)
    (item_taken bytes mid c.step.new.self (Some packet) c.in-Ok-Packet.used c.in-Ok-Packet.skip _ (omega (arith, c.if-self-gt0.false)) adds
    (λ within. omega arith) total))

pub returns-in-Ok-Passed-clause-steps : goal.returns-in-Ok-Passed-clause-steps
returns-in-Ok-Passed-clause-steps c total =
    let bytes = c.args.bytes.now in
    let mid = c.pass.new.self in
    let from = walk_state c.args.self.now bytes total in
    let P : Walk → Type 0 = λ w. GoesOn from [] [] (walk_state w bytes total) in
    let Q : List ℕ → Type 0 = λ b. Adds (format_of mid.file) b None c.in-Ok-Passed.used c.in-Ok-Passed.skip (format_of c.step.new.self) in
    let adds : Q (drop mid.at bytes) = subst Q (take_rest bytes mid.at) (rw c.in-Ok-Passed.field-0-is at c.in-Ok-Passed.ensures.goes_on) in
    subst P (sym c.go_on-in-Ok-Passed.ensures) (goes_both from (walk_state mid bytes total) _ [] [] [] []
    (pass_goes bytes c.args.self.now mid (λ i. omega (arith, c.type_inv.bytes i)) c.requires c.pass.ensures total)
    (item_taken bytes mid c.step.new.self None c.in-Ok-Passed.used c.in-Ok-Passed.skip _ (omega (arith, c.if-self-gt0.false)) adds
    (λ within. omega (arith, within)) total))

pub returns-in-Ok-Passed-clause-moves : goal.returns-in-Ok-Passed-clause-moves
returns-in-Ok-Passed-clause-moves c =
    let told = rw c.in-Ok-Passed.field-0-is at c.in-Ok-Passed.ensures.answers in
    let some : 0 < c.in-Ok-Passed.used = item_uses _ _ _ _ _ _ told in
    omega (arith, ap (λ (w : Walk). w.at) c.go_on-in-Ok-Passed.ensures)

pub returns-in-Ok-More-clause-steps : goal.returns-in-Ok-More-clause-steps
returns-in-Ok-More-clause-steps c total =
    let bytes = c.args.bytes.now in
    let mid = c.pass.new.self in
    let told = rw c.in-Ok-More.field-0-is at c.in-Ok-More.ensures.answers in
    let same : format_of c.step.new.self ≡ format_of mid.file = told.0 in
    let P : _ → List ℕ → Type 0 = λ s b. IsInside s b in (
      stays bytes c.args.self.now mid c.step.new.self (λ i. omega (arith, c.type_inv.bytes i)) c.requires c.pass.ensures same total,
      inside_waits (walk_state (record mid { file = c.step.new.self }) bytes total) (omega (arith, c.if-self-gt0.false))
          (subst (λ s. P s (drop mid.at bytes)) (sym same) (subst (P (format_of mid.file)) (take_rest bytes mid.at) told.1)),
    )

pub returns-in-Err-clause-steps : goal.returns-in-Err-clause-steps
returns-in-Err-clause-steps c total =
    let bytes = c.args.bytes.now in
    let mid = c.pass.new.self in
    let same : format_of c.step.new.self ≡ format_of mid.file = c.in-Err.ensures.answers.0 in
    let rest = take_rest bytes mid.at in
    let f = c.in-Err.fault in
    let P : _ → List ℕ → Type 0 = λ s b. HasFault s b f in
    let answer : next_item (format_of c.step.new.self) (drop mid.at bytes) ≡ Faulty f =
    ap (λ s. next_item s (drop mid.at bytes)) same ∙ ap (next_item (format_of mid.file)) (sym rest) ∙ c.in-Err.ensures.value.0 in (
      stays bytes c.args.self.now mid c.step.new.self (λ i. omega (arith, c.type_inv.bytes i)) c.requires c.pass.ensures same total,
      faulty (walk_state (record mid { file = c.step.new.self }) bytes total) f (omega (arith, c.if-self-gt0.false)) answer
          (subst (λ s. P s (drop mid.at bytes)) (sym same) (subst (P (format_of mid.file)) rest c.in-Err.ensures.answers.1)),
    )

-- the answer at what is left of the bytes
answer_at : (s : Format) (bytes : List ℕ) (at : ℕ) (a : Answer) → next_item s (take (length bytes - at) (drop at bytes)) ≡ a → next_item s (drop at bytes) ≡ a
answer_at s bytes at a e = ap (next_item s) (sym (take_rest bytes at)) ∙ e

no_item : (a : Answer) (p : Option Captured) (n : ℕ) (t : Format) (f : FileFault) → a ≡ Item p n t → a ≡ Faulty f → ⊥
no_item a p n t f d e = cc

no_more : (a : Answer) (f : FileFault) → a ≡ Undecided → a ≡ Faulty f → ⊥
no_more a f d e = cc

one_fault : (a : Answer) (f g : FileFault) → a ≡ Faulty f → a ≡ Faulty g → f ≡ g
one_fault a f g d e = cc

pub returns-then-self-gt0-clause-again : goal.returns-then-self-gt0-clause-again
returns-then-self-gt0-clause-again c total f i =
    let p = pass_faulty c.args.bytes.now c.args.self.now c.pass.new.self total f c.pass.ensures i in
    absurd (omega (arith, p.0, c.if-self-gt0.true))

pub returns-in-Ok-Packet-clause-again : goal.returns-in-Ok-Packet-clause-again
returns-in-Ok-Packet-clause-again c total f i =
    let bytes = c.args.bytes.now in
    let mid = c.pass.new.self in
    let p = pass_faulty bytes c.args.self.now mid total f c.pass.ensures i in
    let told = rw c.in-Ok-Packet.field-0-is at c.in-Ok-Packet.ensures.value in
    absurd (no_item _ _ _ _ f (answer_at (format_of mid.file) bytes mid.at _ told.0) p.1)

pub returns-in-Ok-Passed-clause-again : goal.returns-in-Ok-Passed-clause-again
returns-in-Ok-Passed-clause-again c total f i =
    let bytes = c.args.bytes.now in
    let mid = c.pass.new.self in
    let p = pass_faulty bytes c.args.self.now mid total f c.pass.ensures i in
    let told = rw c.in-Ok-Passed.field-0-is at c.in-Ok-Passed.ensures.value in
    absurd (no_item _ _ _ _ f (answer_at (format_of mid.file) bytes mid.at _ told.0) p.1)

pub returns-in-Ok-More-clause-again : goal.returns-in-Ok-More-clause-again
returns-in-Ok-More-clause-again c total f i =
    let bytes = c.args.bytes.now in
    let mid = c.pass.new.self in
    let p = pass_faulty bytes c.args.self.now mid total f c.pass.ensures i in
    let told = rw c.in-Ok-More.field-0-is at c.in-Ok-More.ensures.value in
    absurd (no_more _ f (answer_at (format_of mid.file) bytes mid.at _ told.0) p.1)

pub returns-in-Err-clause-again : goal.returns-in-Err-clause-again
returns-in-Err-clause-again c total f i =
    let bytes = c.args.bytes.now in
    let mid = c.pass.new.self in
    let p = pass_faulty bytes c.args.self.now mid total f c.pass.ensures i in
    let P : Format → Type 0 = λ x.
    record { format = x; skip = mid.skip; held = drop mid.at bytes; bytes = total; packets = mid.packets } ≡ walk_state c.args.self.now bytes total in (
      ap Err (one_fault _ _ _ (answer_at (format_of mid.file) bytes mid.at _ c.in-Err.ensures.value.0) p.1),
      subst P (sym c.in-Err.ensures.answers.0) p.2,
    )
