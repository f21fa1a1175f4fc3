use Rattle.std.proofs.Common.{◌≡◌, [], ◌∷◌, Result, Ok, Err, sym, subst, ap, ◌∙◌}
use Rattle.bt_pcap.specs.Steps.{captured}
use Rattle.bt_pcap.specs.declared.fault.FileFault.{FileFault}
use Rattle.bt_capture.specs.Readings.{Reading, IsFaulty}
use Rattle.bt_capture.specs.Walks.{walk_state}
use Rattle.bt_capture.proofs.Going.{goes_both}
use Rattle.bt_capture.proofs.walk.Walk.give.Goals as goal

-- a state that is the same has the same fault
still : (old mid : Reading) (f : FileFault) → (IsFaulty old f → mid ≡ old) → IsFaulty old f → IsFaulty mid f
still old mid f same i = let P : Reading → Type 0 = λ r. IsFaulty r f in subst P (sym (same i)) i

no_fault : {A : Type 0} (a : A) (f : FileFault) → ◌≡◌ {A = Result A FileFault} (Ok a) (Err f) → ⊥
no_fault a f e = cc

same_fault : {A : Type 0} (f g : FileFault) → ◌≡◌ {A = Result A FileFault} (Err f) (Err g) → f ≡ g
same_fault f g e = cc

pub returns-in-Ok-Packet-clause-hands : goal.returns-in-Ok-Packet-clause-hands
returns-in-Ok-Packet-clause-hands c total =
    let bytes = c.args.bytes.now in
    let told = rw c.in-Ok-Packet.field-0-is at (c.in-Ok-Packet.ensures.steps total) in
    goes_both (walk_state c.args.self.now bytes total) (walk_state c.items.self bytes total) (walk_state c.step.new.self bytes total) [] [] []
    (captured c.in-Ok-Packet.packet ∷ []) (c.items.invariant.goes total) told

pub returns-in-Ok-Packet-clause-again : goal.returns-in-Ok-Packet-clause-again
returns-in-Ok-Packet-clause-again c total f i =
    let bytes = c.args.bytes.now in
    let told = c.in-Ok-Packet.ensures.again total f
    (still (walk_state c.args.self.now bytes total) (walk_state c.items.self bytes total) f (c.items.invariant.again total f) i) in
    absurd (no_fault _ f told.0)

pub items-preserved : goal.items-preserved
items-preserved c =
    let bytes = c.args.bytes.now in
    record {
      within = c.step.ensures.within;
      goes = λ total. goes_both (walk_state c.args.self.now bytes total) (walk_state c.items.self bytes total)
          (walk_state c.step.new.self bytes total) [] [] [] []
          (c.items.invariant.goes total) (rw c.in-Ok-Passed.field-0-is at (c.in-Ok-Passed.ensures.steps total));
      again = λ total f i. absurd (no_fault _ f (c.in-Ok-Passed.ensures.again total f
          (still (walk_state c.args.self.now bytes total) (walk_state c.items.self bytes total) f (c.items.invariant.again total f) i)).0);
    }

pub returns-in-Ok-More-clause-hands : goal.returns-in-Ok-More-clause-hands
returns-in-Ok-More-clause-hands c total =
    let bytes = c.args.bytes.now in
    let told = rw c.in-Ok-More.field-0-is at (c.in-Ok-More.ensures.steps total) in (
      goes_both (walk_state c.args.self.now bytes total) (walk_state c.items.self bytes total) (walk_state c.step.new.self bytes total) [] [] [] []
          (c.items.invariant.goes total) told.0,
      told.1,
    )

pub returns-in-Ok-More-clause-again : goal.returns-in-Ok-More-clause-again
returns-in-Ok-More-clause-again c total f i =
    let bytes = c.args.bytes.now in
    let told = c.in-Ok-More.ensures.again total f
    (still (walk_state c.args.self.now bytes total) (walk_state c.items.self bytes total) f (c.items.invariant.again total f) i) in
    absurd (no_fault _ f told.0)

pub returns-in-Err-clause-hands : goal.returns-in-Err-clause-hands
returns-in-Err-clause-hands c total =
    let bytes = c.args.bytes.now in
    let told = c.in-Err.ensures.steps total in (
      goes_both (walk_state c.args.self.now bytes total) (walk_state c.items.self bytes total) (walk_state c.step.new.self bytes total) [] [] [] []
          (c.items.invariant.goes total) told.0,
      told.1,
    )

pub returns-in-Err-clause-again : goal.returns-in-Err-clause-again
returns-in-Err-clause-again c total f i =
    let bytes = c.args.bytes.now in
    let told = c.in-Err.ensures.again total f
    (still (walk_state c.args.self.now bytes total) (walk_state c.items.self bytes total) f (c.items.invariant.again total f) i) in
    (ap Err (same_fault _ _ told.0), told.1 ∙ c.items.invariant.again total f i)
