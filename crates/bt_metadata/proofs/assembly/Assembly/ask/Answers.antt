use Rattle.std.proofs.Common.{◌≡◌, ℕ, ◌<◌, ◌≤◌, Option, None, Some, List, length, count_by, position, nat_lt, if◌then◌else◌, set, refl, ap, subst, sym, ◌∙◌, arith}
use Rattle.std.proofs.lemmas.Bool.{le-ltb, lt-ltb}
use Rattle.std.proofs.lemmas.List.{length-set}
use Rattle.bt_metadata.specs.declared.assembly.Status.{Status}
use Rattle.bt_metadata.specs.declared.assembly.Status.TheVariants as status
use Rattle.bt_metadata.specs.declared.assembly.Tally.{Tally}
use Rattle.bt_metadata.specs.Blocks.{window}
use Rattle.bt_metadata.specs.Assemblies.{AssemblyState, ask_of, asking, with_slots}
use Rattle.bt_metadata.specs.Sound.{asks, lacks, IsTallied, after_ask}
use Rattle.bt_metadata.proofs.States.{ask_is, asked_is}
use Rattle.bt_metadata.proofs.Tallies.{tallied-ask, tallied-passed}
use Rattle.bt_metadata.proofs.Written.{written-set}
use Rattle.bt_metadata.proofs.assembly.Assembly.ask.Goals as goal

-- where some are asked, and where none is
busy : (ss : List Status) (n : ℕ) → n ≡ count_by asks ss → window ≤ n → (if nat_lt (count_by asks ss) window then position lacks ss else None) ≡ None
busy ss n e h = ap (λ t. if t then position lacks ss else None) (le-ltb (count_by asks ss) window (omega (arith, e, h)))

free : (ss : List Status) (n : ℕ) → n ≡ count_by asks ss → n < window → (if nat_lt (count_by asks ss) window then position lacks ss else None)
    ≡ position lacks ss
free ss n e h = ap (λ t. if t then position lacks ss else None) (lt-ltb (count_by asks ss) window (omega (arith, e, h)))

-- what the search found
none_lacks : {ss now : List Status} {found : Option ℕ} → now ≡ ss → found ≡ None → found ≡ position lacks now → None ≡ position lacks ss
none_lacks v e f = sym e ∙ f ∙ ap (λ xs. position lacks xs) v

pub returns-then-self-ge-WINDOW-clause-value : goal.returns-then-self-ge-WINDOW-clause-value
returns-then-self-ge-WINDOW-clause-value g c =
    let ss = c.self.inside.states.items in
    sym (ap (λ (a : AssemblyState). ask_of a.slots) (sym c.self.view_is) ∙ ask_is c.self.inside.bytes.whole ss
    ∙ busy ss c.self.inside.tally.asked c.self.invariant.tallied.asked c.if-self-ge-WINDOW.true)

pub first_lacking-requires : goal.first_lacking-requires
first_lacking-requires g c = subst (λ (ss : List Status). IsTallied c.self.inside.tally ss) (sym c.deref.ensures.value) c.self.invariant.tallied

pub returns-in_default-clause-value : goal.returns-in_default-clause-value
returns-in_default-clause-value g c =
    let ss = c.self.inside.states.items in
    let l : c.self.inside.tally.asked < window = omega (arith, c.if-self-ge-WINDOW.false) in
    none_lacks c.deref.ensures.value c.in_default.is c.first_lacking.ensures.first
    ∙ sym (ap (λ (a : AssemblyState). ask_of a.slots) (sym c.self.view_is) ∙ ask_is c.self.inside.bytes.whole ss
    ∙ free ss c.self.inside.tally.asked c.self.invariant.tallied.asked l)

pub returns-clause-value : goal.returns-clause-value
returns-clause-value g c =
    let ss = c.self.inside.states.items in
    let l : c.self.inside.tally.asked < window = omega (arith, c.if-self-ge-WINDOW.false) in
    let p : Some c.in-Some.k ≡ position lacks ss = c.in-Some.ensures.first ∙ ap (λ xs. position lacks xs) c.deref.ensures.value in
    p ∙ sym (ap (λ (a : AssemblyState). ask_of a.slots) (sym c.self.view_is) ∙ ask_is c.self.inside.bytes.whole ss
    ∙ free ss c.self.inside.tally.asked c.self.invariant.tallied.asked l)

pub returns-clause-state : goal.returns-clause-state
returns-clause-state g c =
    let k = c.in-Some.k in
    asked_is c.self.inside.info_hash c.self.inside.bytes.whole c.self.inside.states.items k
    ∙ ap (λ (a : AssemblyState). with_slots a (asking (Some k) a.slots)) c.self.view_is

pub invariant_of-self : goal.invariant_of-self
invariant_of-self g c =
    let inside = c.self.inside in
    let none = sym (none_lacks c.deref.ensures.value c.in_default.is c.first_lacking.ensures.first) in
    record {
      least = c.self.invariant.least;
      most = c.self.invariant.most;
      count = c.self.invariant.count;
      asked = c.self.invariant.asked;
      tallied =
          tallied-passed inside.tally inside.states.items c.len-self-inside.result c.self.invariant.tallied none
          (c.len-self-inside.ensures ∙ inside.states.ok.0);
      written = c.self.invariant.written;
    }

pub invariant_of-self-2 : goal.invariant_of-self-2
invariant_of-self-2 g c =
    let ss = c.self.inside.states.items in
    let tally = c.self.inside.tally in
    let k = c.in-Some.k in
    let p : Some k ≡ position lacks ss = c.in-Some.ensures.first ∙ ap (λ xs. position lacks xs) c.deref.ensures.value in
    let right : IsTallied (after_ask tally k) (set ss k status.Asked) = tallied-ask tally ss k c.self.invariant.tallied (sym p) in
    record {
      least = c.self.invariant.least;
      most = c.self.invariant.most;
      count = length-set ss k status.Asked ∙ c.self.invariant.count;
      asked = omega (arith, right.asked, c.if-self-ge-WINDOW.false);
      tallied = subst (λ (t : Tally). IsTallied t (set ss k status.Asked)) (sym c.ask.ensures) right;
      written = written-set ss k (length c.self.inside.bytes.whole) c.self.inside.bytes.written status.Asked refl c.self.invariant.written;
    }
