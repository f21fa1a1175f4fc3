use Rattle.std.proofs.Common.{◌≡◌, ℕ, ◌-◌, ◌*◌, ◌<◌, None, Some, length, set, min, refl, ap, subst, sym, ◌∙◌, arith}
use Rattle.std.proofs.lemmas.List.{length-set}
use Rattle.std.proofs.lemmas.Result.{err_from_is_err_and}
use Rattle.bt_ext.specs.Metadata.{block_count, block_len}
use Rattle.bt_metadata.specs.declared.assembly.BlockError.{BlockError}
use Rattle.bt_metadata.specs.declared.assembly.Status.TheVariants as status
use Rattle.bt_metadata.specs.declared.assembly.Tally.{Tally}
use Rattle.bt_metadata.specs.Assemblies.{AssemblyState, data_error, with_data}
use Rattle.bt_metadata.specs.Sound.{state_of, error_at, IsTallied, after_hold, AreWritten}
use Rattle.bt_metadata.proofs.Lengths.{block_len_is, block_starts}
use Rattle.bt_metadata.proofs.Slots.{paste, length-paste}
use Rattle.bt_metadata.proofs.States.{refused_is, wrong_total_is, wrong_size_is, nothing_wrong, held_is, not_held}
use Rattle.bt_metadata.proofs.Tallies.{none_at, one_asked, tallied-hold}
use Rattle.bt_metadata.proofs.Written.{written-settled}
use Rattle.bt_metadata.proofs.assembly.Assembly.data.Goals as goal

same_rest : (n piece size k : ℕ) → size ≡ n → k ≡ piece → min 16384 (size - 16384 * k) ≡ min 16384 (n - 16384 * piece)
same_rest n piece size k e f = rw (e, f) refl

measured : (n piece count size k : ℕ) → size ≡ n → k ≡ piece → piece < count → count ≡ block_count n → min 16384 (size - 16384 * k) ≡ block_len n piece
measured n piece count size k e f l c = same_rest n piece size k e f ∙ block_len_is n piece (subst (λ x. piece < x) c l)

pub returns-in_err-k-clause-value : goal.returns-in_err-k-clause-value
returns-in_err-k-clause-value g c =
    let piece = c.args.piece in
    let total = c.args.total in
    let b = c.args.block.now in
    let o = err_from_is_err_and c.from_residual.result c.from_residual.ensures.1 in
    let e : error_at c.self.inside.states.items piece ≡ Some c.in_err-k.field-0.0 = ap (λ ss. error_at ss piece) (sym c.deref.ensures.value)
    ∙ c.in_err-k.ensures in
    rw (o.1) (ap (λ (a : AssemblyState). data_error a piece total b) (sym c.self.view_is)
    ∙ refused_is c.self.inside.info_hash c.self.inside.bytes.whole b c.self.inside.states.items piece total c.in_err-k.field-0.0 e
    ∙ ap (λ (x : BlockError). Some x) (sym o.2))

pub returns-in_err-k-clause-state : goal.returns-in_err-k-clause-state
returns-in_err-k-clause-state g c =
    let piece = c.args.piece in
    let total = c.args.total in
    let b = c.args.block.now in
    let h = c.self.inside.info_hash in
    let d = c.self.inside.bytes.whole in
    let ss = c.self.inside.states.items in
    let x = c.in_err-k.field-0.0 in
    let e : error_at ss piece ≡ Some x = ap (λ ss. error_at ss piece) (sym c.deref.ensures.value) ∙ c.in_err-k.ensures in
    subst (λ (a : AssemblyState). a ≡ with_data a piece total b) c.self.view_is (not_held h d b ss piece total x (refused_is h d b ss piece total x e))

pub returns-then-total-size-clause-value : goal.returns-then-total-size-clause-value
returns-then-total-size-clause-value g c =
    let piece = c.args.piece in
    let total = c.args.total in
    let b = c.args.block.now in
    let d = c.self.inside.bytes.whole in
    let e : error_at c.self.inside.states.items piece ≡ None = ap (λ ss. error_at ss piece) (sym c.deref.ensures.value) ∙ c.in_ok-k.ensures.2 in
    let l : c.len-size.result ≡ length d = c.len-size.ensures in
    ap (λ (a : AssemblyState). data_error a piece total b) (sym c.self.view_is)
    ∙ wrong_total_is c.self.inside.info_hash d b c.self.inside.states.items piece total e (λ t. c.if-total-size.true (t ∙ sym l))

pub returns-then-block-min-clause-value : goal.returns-then-block-min-clause-value
returns-then-block-min-clause-value g c =
    let piece = c.args.piece in
    let total = c.args.total in
    let b = c.args.block.now in
    let d = c.self.inside.bytes.whole in
    let ss = c.self.inside.states.items in
    let e : error_at ss piece ≡ None = ap (λ ss. error_at ss piece) (sym c.deref.ensures.value) ∙ c.in_ok-k.ensures.2 in
    let l : c.len-size.result ≡ length d = c.len-size.ensures in
    let t : total ≡ length d = c.if-total-size.false ∙ l in
    let k : c.in_ok-k.k ≡ piece = c.in_ok-k.ensures.0 in
    let i : piece < length ss = omega (arith, k, c.in_ok-k.ensures.1, ap length c.deref.ensures.value) in
    let m : c.min.result ≡ block_len (length d) piece = c.min.ensures ∙ measured (length d) piece (length ss) c.len-size.result c.in_ok-k.k l k i
    c.self.invariant.count in
    ap (λ (a : AssemblyState). data_error a piece total b) (sym c.self.view_is)
    ∙ wrong_size_is c.self.inside.info_hash d b ss piece total e t (λ n. c.if-block-min.true (n ∙ sym m))

pub returns-clause-value : goal.returns-clause-value
returns-clause-value g c =
    let piece = c.args.piece in
    let total = c.args.total in
    let b = c.args.block.now in
    let d = c.self.inside.bytes.whole in
    let ss = c.self.inside.states.items in
    let e : error_at ss piece ≡ None = ap (λ ss. error_at ss piece) (sym c.deref.ensures.value) ∙ c.in_ok-k.ensures.2 in
    let l : c.len-size.result ≡ length d = c.len-size.ensures in
    let k : c.in_ok-k.k ≡ piece = c.in_ok-k.ensures.0 in
    let i : piece < length ss = omega (arith, k, c.in_ok-k.ensures.1, ap length c.deref.ensures.value) in
    let m : c.min.result ≡ block_len (length d) piece = c.min.ensures ∙ measured (length d) piece (length ss) c.len-size.result c.in_ok-k.k l k i
    c.self.invariant.count in
    ap (λ (a : AssemblyState). data_error a piece total b) (sym c.self.view_is)
    ∙ nothing_wrong c.self.inside.info_hash d b ss piece total e (c.if-total-size.false ∙ l) (c.if-block-min.false ∙ m)

pub returns-clause-state : goal.returns-clause-state
returns-clause-state g c =
    let piece = c.args.piece in
    let total = c.args.total in
    let b = c.args.block.now in
    let h = c.self.inside.info_hash in
    let d = c.self.inside.bytes.whole in
    let ss = c.self.inside.states.items in
    let e : error_at ss piece ≡ None = ap (λ ss. error_at ss piece) (sym c.deref.ensures.value) ∙ c.in_ok-k.ensures.2 in
    let l : c.len-size.result ≡ length d = c.len-size.ensures in
    let k : c.in_ok-k.k ≡ piece = c.in_ok-k.ensures.0 in
    let i : piece < length ss = omega (arith, k, c.in_ok-k.ensures.1, ap length c.deref.ensures.value) in
    let n : length b ≡ min 16384 (length d - 16384 * piece) = c.if-block-min.false ∙ c.min.ensures ∙ same_rest (length d) piece c.len-size.result
    c.in_ok-k.k l k in
    let m : length b ≡ block_len (length d) piece = n ∙ block_len_is (length d) piece (subst (λ x. piece < x) c.self.invariant.count i) in
    let w : c.write.new.self.whole ≡ paste d (16384 * piece) b = c.write.ensures.whole ∙ ap (λ j. paste d (16384 * j) b) k in
    ap (λ x. state_of h x (set ss c.in_ok-k.k status.Held)) w ∙ ap (λ j. state_of h (paste d (16384 * piece) b) (set ss j status.Held)) k
    ∙ held_is h d b ss piece total i c.self.invariant.count n (nothing_wrong h d b ss piece total e (c.if-total-size.false ∙ l) m)
    ∙ ap (λ (a : AssemblyState). with_data a piece total b) c.self.view_is

pub hold-requires-clause-asked : goal.hold-requires-clause-asked
hold-requires-clause-asked g c =
    let inside = c.self.inside in
    one_asked inside.tally inside.states.items c.in_ok-k.k c.self.invariant.tallied
    (none_at c.deref.ensures.value c.in_ok-k.ensures.0 c.in_ok-k.ensures.2)

pub invariant_of-self : goal.invariant_of-self
invariant_of-self g c =
    let inside = c.self.inside in
    let ss = inside.states.items in
    let j = c.in_ok-k.k in
    let none = none_at c.deref.ensures.value c.in_ok-k.ensures.0 c.in_ok-k.ensures.2 in
    let right : IsTallied (after_hold inside.tally) (set ss j status.Held) = tallied-hold inside.tally ss j c.self.invariant.tallied none in
    let d = inside.bytes.whole in
    let b = c.args.block.now in
    let i : j < block_count (length d) = omega (arith, c.in_ok-k.ensures.1, ap length c.deref.ensures.value, c.self.invariant.count) in
    let a : 16384 * j < length d = block_starts (length d) j i in
    let n : length b ≡ min 16384 (length d - 16384 * j) = omega (arith, c.if-block-min.false, c.min.ensures, c.len-size.ensures) in
    let f : length c.write.new.self.whole ≡ length d = ap length c.write.ensures.whole ∙ length-paste d b (16384 * j) (omega arith) in
    let w : AreWritten (set ss j status.Held) (length d) c.write.new.self.written = written-settled ss j (length d) inside.bytes.written
    c.write.new.self.written status.Held c.self.invariant.written (omega (arith, c.write.ensures.written)) (omega (arith, c.write.ensures.written)) in
    record {
      least = omega (arith, f, c.self.invariant.least);
      most = rw f c.self.invariant.most;
      count = length-set ss j status.Held ∙ c.self.invariant.count ∙ ap block_count (sym f);
      asked = omega (arith, right.asked, c.self.invariant.asked, c.self.invariant.tallied.asked);
      tallied = subst (λ (t : Tally). IsTallied t (set ss j status.Held)) (sym c.hold.ensures) right;
      written = subst (λ m. AreWritten (set ss j status.Held) m c.write.new.self.written) (sym f) w;
    }
