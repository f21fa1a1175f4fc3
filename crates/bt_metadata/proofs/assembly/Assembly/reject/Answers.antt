use Rattle.std.proofs.Common.{◌≡◌, ◌+◌, ◌*◌, ◌<◌, ◌≤◌, None, Some, length, set, min, ap, subst, sym, ◌∙◌, arith}
use Rattle.std.proofs.lemmas.List.{length-set}
use Rattle.std.proofs.lemmas.Result.{err_from_is_err_and}
use Rattle.bt_metadata.specs.declared.assembly.BlockError.{BlockError}
use Rattle.bt_metadata.specs.declared.assembly.Status.TheVariants as status
use Rattle.bt_metadata.specs.declared.assembly.Tally.{Tally}
use Rattle.bt_metadata.specs.Assemblies.{AssemblyState, piece_error, with_reject}
use Rattle.bt_ext.specs.Metadata.{block_count}
use Rattle.bt_metadata.specs.Blocks.{max_metadata}
use Rattle.bt_metadata.specs.Sound.{state_of, error_at, AreWritten, IsTallied, after_reject}
use Rattle.bt_metadata.proofs.States.{error_is, rejected_is, not_rejected}
use Rattle.bt_metadata.proofs.Tallies.{none_at, one_asked, tallied-reject}
use Rattle.bt_metadata.proofs.Written.{written-settled}
use Rattle.bt_metadata.proofs.assembly.Assembly.reject.Goals as goal

pub returns-in_err-place-clause-value : goal.returns-in_err-place-clause-value
returns-in_err-place-clause-value g c =
    let piece = c.args.piece in
    let o = err_from_is_err_and c.from_residual.result c.from_residual.ensures.1 in
    let e : error_at c.self.inside.states.items piece ≡ Some c.in_err-place.field-0.0 = ap (λ ss. error_at ss piece) (sym c.deref.ensures.value)
    ∙ c.in_err-place.ensures in
    rw (o.1) (ap (λ (a : AssemblyState). piece_error a piece) (sym c.self.view_is) ∙ error_is c.self.inside.info_hash c.self.inside.bytes.whole
    c.self.inside.states.items piece ∙ e ∙ ap (λ (x : BlockError). Some x) (sym o.2))

pub returns-in_err-place-clause-state : goal.returns-in_err-place-clause-state
returns-in_err-place-clause-state g c =
    let piece = c.args.piece in
    let e : error_at c.self.inside.states.items piece ≡ Some c.in_err-place.field-0.0 = ap (λ ss. error_at ss piece) (sym c.deref.ensures.value)
    ∙ c.in_err-place.ensures in
    subst (λ (a : AssemblyState). a ≡ with_reject a piece) c.self.view_is
    (not_rejected c.self.inside.info_hash c.self.inside.bytes.whole c.self.inside.states.items piece c.in_err-place.field-0.0 e)

pub returns-clause-value : goal.returns-clause-value
returns-clause-value g c =
    let piece = c.args.piece in
    let e : error_at c.self.inside.states.items piece ≡ None = ap (λ ss. error_at ss piece) (sym c.deref.ensures.value) ∙ c.in_ok-place.ensures.2 in
    ap (λ (a : AssemblyState). piece_error a piece) (sym c.self.view_is) ∙ error_is c.self.inside.info_hash c.self.inside.bytes.whole
    c.self.inside.states.items piece ∙ e

pub returns-clause-state : goal.returns-clause-state
returns-clause-state g c =
    let piece = c.args.piece in
    let h = c.self.inside.info_hash in
    let d = c.self.inside.bytes.whole in
    let ss = c.self.inside.states.items in
    let e : error_at ss piece ≡ None = ap (λ ss. error_at ss piece) (sym c.deref.ensures.value) ∙ c.in_ok-place.ensures.2 in
    ap (λ xs. state_of h c.reject_asked.new.bytes.whole xs) c.reject_asked.ensures.states
    ∙ ap (λ w. state_of h w (set ss c.in_ok-place.place status.Rejected)) c.reject_asked.ensures.whole
    ∙ ap (λ k. state_of h d (set ss k status.Rejected)) c.in_ok-place.ensures.0 ∙ rejected_is h d ss piece e ∙ ap (λ (a : AssemblyState). with_reject a piece)
    c.self.view_is

pub reject_asked-requires-clause-asked : goal.reject_asked-requires-clause-asked
reject_asked-requires-clause-asked g c =
    let inside = c.self.inside in
    one_asked inside.tally inside.states.items c.in_ok-place.place c.self.invariant.tallied
    (none_at c.deref.ensures.value c.in_ok-place.ensures.0 c.in_ok-place.ensures.2)

pub invariant_of-self : goal.invariant_of-self
invariant_of-self g c =
    let inside = c.self.inside in
    let ss = inside.states.items in
    let k = c.in_ok-place.place in
    let none = none_at c.deref.ensures.value c.in_ok-place.ensures.0 c.in_ok-place.ensures.2 in
    let right : IsTallied (after_reject inside.tally) (set ss k status.Rejected) = tallied-reject inside.tally ss k c.self.invariant.tallied none in
    let after = c.reject_asked.new in
    let same = sym c.reject_asked.ensures.whole in
    let end : min (16384 * k + 16384) (length inside.bytes.whole) ≤ after.bytes.written = omega (arith, c.reject_asked.ensures.written) in
    let all : AreWritten (set ss k status.Rejected) (length inside.bytes.whole) after.bytes.written = written-settled ss k (length inside.bytes.whole)
    inside.bytes.written after.bytes.written status.Rejected c.self.invariant.written (omega (arith, c.reject_asked.ensures.written)) end in
    record {
      least = subst (λ w. 0 < length w) same c.self.invariant.least;
      most = subst (λ w. length w ≤ max_metadata) same c.self.invariant.most;
      count = rw c.reject_asked.ensures.states (length-set ss k status.Rejected ∙ c.self.invariant.count ∙ ap (λ w. block_count (length w)) same);
      asked = rw c.reject_asked.ensures.states (omega (arith, right.asked, c.self.invariant.asked, c.self.invariant.tallied.asked));
      tallied = rw c.reject_asked.ensures.states (subst (λ (t : Tally). IsTallied t (set ss k status.Rejected)) (sym c.reject_asked.ensures.tally) right);
      written =
          rw c.reject_asked.ensures.states (subst (λ w. AreWritten (set ss k status.Rejected) (length w) after.bytes.written) same all);
    }
