use Rattle.std.proofs.Common.{◌≡◌, ◌++◌, length, take, drop, map, count_by, ap, subst, ◌∙◌, sym, List, arith}
use Rattle.std.proofs.lemmas.List.{length-map}
use Rattle.bt_metadata.specs.declared.assembly.Status.{Status}
use Rattle.bt_metadata.specs.declared.assembly.Tally.{Tally}
use Rattle.bt_metadata.specs.Assemblies.{disconnected}
use Rattle.bt_metadata.specs.Sound.{state_of, asks, kept_status, IsTallied, after_forget, AreWritten}
use Rattle.bt_metadata.proofs.Lengths.{whole_slice}
use Rattle.bt_metadata.proofs.States.{disconnected_is}
use Rattle.bt_metadata.proofs.Tallies.{tallied-forget}
use Rattle.bt_metadata.proofs.Written.{written-kept}
use Rattle.bt_metadata.proofs.assembly.Assembly.disconnect.Goals as goal

pub returns : goal.returns
returns g c =
    let ss = c.self.inside.states in
    let e = c.forget.ensures ∙ ap (map kept_status) c.deref_mut.ensures.value in
    let l = ss.ok.0 ∙ sym (ap length e ∙ length-map ss.items kept_status) in
    ap (λ (xs : List Status). state_of c.self.inside.info_hash c.self.inside.bytes.whole xs) (whole_slice ss.len c.forget.new.states ss.items l ∙ e)
    ∙ disconnected_is c.self.inside.info_hash c.self.inside.bytes.whole ss.items ∙ ap disconnected c.self.view_is

pub invariant_of-self : goal.invariant_of-self
invariant_of-self g c =
    let ss = c.self.inside.states in
    let e = c.forget.ensures ∙ ap (map kept_status) c.deref_mut.ensures.value in
    let n : length c.forget.new.states ≡ length ss.items = ap length e ∙ length-map ss.items kept_status in
    let w = whole_slice ss.len c.forget.new.states ss.items (ss.ok.0 ∙ sym n) in
    let now = take ss.len (c.forget.new.states ++ drop (length c.forget.new.states) ss.items) in
    let kept : now ≡ map kept_status ss.items = w ∙ e in
    let before : IsTallied (after_forget c.self.inside.tally) (map kept_status ss.items) = tallied-forget c.self.inside.tally ss.items c.self.invariant.tallied in
    let right : IsTallied c.forget-2.new.self now = subst (λ (t : Tally). IsTallied t now) (sym c.forget-2.ensures) (subst (λ (xs : List Status).
    IsTallied (after_forget c.self.inside.tally) xs) (sym kept) before) in
    let none : count_by asks now ≡ 0 = sym right.asked ∙ ap (λ (t : Tally). t.asked) c.forget-2.ensures in
    record {
      least = c.self.invariant.least;
      most = c.self.invariant.most;
      count = ap length w ∙ n ∙ c.self.invariant.count;
      asked = omega (arith, none);
      tallied = right;
      written = subst (λ (xs : List Status). AreWritten xs (length c.self.inside.bytes.whole) c.self.inside.bytes.written) (sym kept)
          (written-kept ss.items (length c.self.inside.bytes.whole) c.self.inside.bytes.written c.self.invariant.written);
    }
