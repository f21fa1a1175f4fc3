use Rattle.std.proofs.Common.{◌≡◌, ℕ, ◌+◌, ◌-◌, ◌*◌, ◌<◌, Some, None, true, false, List, length, take, drop, min, slice_get, refl, sym, ap, subst, ◌∙◌}
use Rattle.std.proofs.Common.{arith, length-drop}
use Rattle.std.proofs.lemmas.List.{take_min}
use Rattle.bt_ext.specs.Metadata.{block_count}
use Rattle.bt_metadata.specs.Assemblies.{AssemblyState, held_block}
use Rattle.bt_metadata.specs.Sound.{IsAssembly, holds_at}
use Rattle.bt_metadata.specs.declared.assembly.Status.{Status}
use Rattle.bt_metadata.proofs.Lengths.{block_starts}
use Rattle.bt_metadata.proofs.Parts.{is_assembly}
use Rattle.bt_metadata.proofs.Slots.{block-slots, no_block-slots, held_within}
use Rattle.bt_metadata.proofs.Written.{held-settled}
use Rattle.bt_metadata.proofs.assembly.Assembly.block.Goals as goal

-- up to the end, where that comes first
cut : (d : List ℕ) (at end : ℕ) → at < length d → end ≡ min (at + 16384) (length d) → take (end - at) (drop at d) ≡ take 16384 (drop at d)
cut d at end h e =
    let n : end - at ≡ min 16384 (length (drop at d)) = omega (arith, e, length-drop at d) in
    ap (λ k. take k (drop at d)) n ∙ take_min 16384 (drop at d)

starts : (ss now : List Status) (n piece : ℕ) → now ≡ ss → length ss ≡ block_count n → holds_at (slice_get now piece) ≡ true → 16384 * piece < n
starts ss now n piece v c h = block_starts n piece (subst (λ m. piece < m) c (subst (λ x. piece < length x) v (held_within now piece h)))

pub returns-then-not-is_held-clause-value : goal.returns-then-not-is_held-clause-value
returns-then-not-is_held-clause-value g c =
    let inside = c.self.inside in
    let none : holds_at (slice_get inside.states.items c.args.piece) ≡ false = ap (λ ss. holds_at (slice_get ss c.args.piece)) (sym c.deref.ensures.value)
    ∙ sym c.is_held.ensures ∙ c.if-not-is_held.true in
    subst (λ (a : AssemblyState). None ≡ held_block a c.args.piece) c.self.view_is
    (sym (no_block-slots inside.states.items inside.bytes.whole c.args.piece none))

pub returns-then-not-is_held-clause-assembly : goal.returns-then-not-is_held-clause-assembly
returns-then-not-is_held-clause-assembly g c =
    let inside = c.self.inside in
    let sound = c.self.invariant in
    subst IsAssembly c.self.view_is (is_assembly inside.info_hash inside.bytes.whole inside.states.items sound.least sound.most sound.count sound.asked)

pub part-requires-clause-order : goal.part-requires-clause-order
part-requires-clause-order g c =
    let inside = c.self.inside in
    let h : 16384 * c.args.piece < length inside.bytes.whole = starts inside.states.items c.deref.result.now (length inside.bytes.whole) c.args.piece
    c.deref.ensures.value c.self.invariant.count (sym c.is_held.ensures ∙ c.if-not-is_held.false) in
    omega (arith, h, c.min.ensures, c.len.ensures)

pub part-requires-clause-written : goal.part-requires-clause-written
part-requires-clause-written g c =
    let inside = c.self.inside in
    let held : holds_at (slice_get inside.states.items c.args.piece) ≡ true = ap (λ ss. holds_at (slice_get ss c.args.piece)) (sym c.deref.ensures.value)
    ∙ sym c.is_held.ensures ∙ c.if-not-is_held.false in
    omega (arith, c.self.invariant.written c.args.piece (held-settled inside.states.items c.args.piece held), c.min.ensures, c.len.ensures)

pub returns-clause-value : goal.returns-clause-value
returns-clause-value g c =
    let inside = c.self.inside in
    let d = inside.bytes.whole in
    let at : ℕ = 16384 * c.args.piece in
    let held : holds_at (slice_get inside.states.items c.args.piece) ≡ true = ap (λ ss. holds_at (slice_get ss c.args.piece)) (sym c.deref.ensures.value)
    ∙ sym c.is_held.ensures ∙ c.if-not-is_held.false in
    let h : at < length d = starts inside.states.items inside.states.items (length d) c.args.piece refl c.self.invariant.count held in
    let l : c.len.result ≡ length d = c.len.ensures in
    ap (λ (x : List ℕ). Some x) (c.part.ensures ∙ cut d at c.min.result h (c.min.ensures ∙ ap (min (at + 16384)) l))
    ∙ sym (block-slots inside.states.items d c.args.piece held) ∙ ap (λ (a : AssemblyState). held_block a c.args.piece) c.self.view_is

pub returns-clause-assembly : goal.returns-clause-assembly
returns-clause-assembly g c =
    let inside = c.self.inside in
    let sound = c.self.invariant in
    subst IsAssembly c.self.view_is (is_assembly inside.info_hash inside.bytes.whole inside.states.items sound.least sound.most sound.count sound.asked)
