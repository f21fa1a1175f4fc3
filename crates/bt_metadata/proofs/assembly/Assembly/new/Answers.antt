use Rattle.std.proofs.Common.{◌≡◌, ℕ, List, length, replicate, count_by, ap, subst, sym, ◌∙◌, arith, rules}
use Rattle.std.proofs.lemmas.List.{length-replicate}
use Rattle.bt_ext.specs.Metadata.{block_count}
use Rattle.bt_metadata.specs.declared.assembly.Status.{Status}
use Rattle.bt_metadata.specs.declared.assembly.Status.TheVariants as status
use Rattle.bt_metadata.specs.declared.assembly.Tally.{Tally}
use Rattle.bt_metadata.specs.Sound.{asks, IsTallied, no_tally, AreWritten}
use Rattle.bt_metadata.specs.Arrivals.{Arrival}
use Rattle.bt_metadata.proofs.States.{started_is}
use Rattle.bt_metadata.proofs.Tallies.{tallied-lacking}
use Rattle.bt_metadata.proofs.Written.{written-lacking}
use Rattle.bt_metadata.proofs.assembly.Assembly.new.Goals as goal

pub returns-clause-ok : goal.returns-clause-ok
returns-clause-ok g c =
    started_is c.args.info_hash c.in_ok-new.field-0.whole c.in_ok-vec.field-0.items c.args.size c.block_count.result
    (ap (λ (a : Arrival). a.whole) c.in_ok-new.ensures) (c.in_ok-vec.ensures.items_if_clones_equal (λ y e. e)) c.block_count.ensures

pub returns-in_err-new-clause-size : goal.returns-in_err-new-clause-size
returns-in_err-new-clause-size g c = search rules

pub returns-in_err-vec-clause-size : goal.returns-in_err-vec-clause-size
returns-in_err-vec-clause-size g c = search rules

pub invariant_of-result : goal.invariant_of-result
invariant_of-result g c =
    let a = c.in_ok-new.field-0 in
    let ss = c.in_ok-vec.field-0.items in
    let n = c.block_count.result in
    let l : length a.whole ≡ c.args.size = ap (λ (a : Arrival). length a.whole) c.in_ok-new.ensures ∙ length-replicate {A = ℕ} c.args.size 0 in
    let e : ss ≡ replicate n status.Lacking = c.in_ok-vec.ensures.items_if_clones_equal (λ y e. e) in
    let start : IsTallied no_tally (replicate n status.Lacking) = tallied-lacking n in
    let right : IsTallied c.new-2.result ss = subst (λ (t : Tally). IsTallied t ss) (sym c.new-2.ensures) (subst (λ (xs : List Status). IsTallied no_tally xs) (sym e) start) in
    let none : count_by asks ss ≡ 0 = sym right.asked ∙ ap (λ (t : Tally). t.asked) c.new-2.ensures in
    record {
      least = omega (arith, l, c.if-size-eq0.false);
      most = omega (arith, l, c.if-size.false);
      count = ap length e ∙ length-replicate n status.Lacking ∙ c.block_count.ensures ∙ ap block_count (sym l);
      asked = omega (arith, none);
      tallied = right;
      written = subst (λ (xs : List Status). AreWritten xs (length a.whole) a.written) (sym e) (written-lacking n (length a.whole) a.written);
    }

pub returns-clause-size : goal.returns-clause-size
returns-clause-size g c = search rules
