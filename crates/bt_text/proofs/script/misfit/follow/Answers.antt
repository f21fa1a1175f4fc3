use Rattle.std.proofs.Common.{◌≡◌, ◌∙◌, ℕ, List, ◌+◌, ◌≤◌, ◌++◌, ◌∷◌, [], length, drop, refl, rules, subst}
use Rattle.std.proofs.lemmas.List.{take_rest}
use Rattle.bt_text.specs.ScriptReading.{word_of}
use Rattle.bt_text.specs.Misfits.{IsCompleted}
use Rattle.bt_text.specs.declared.script.misfit.Expected.{Expected}
use Rattle.bt_text.specs.declared.script.misfit.Expected.TheVariants.{Handshake}
use Rattle.bt_text.proofs.Misfits.{completed_is, is_line, missing_word, more_words, not_completed, one_more, spaced, wrong}
use Rattle.bt_text.proofs.ScriptWords.{ends_after}
use Rattle.bt_text.proofs.script.misfit.follow.Goals as goal

pub returns-in_default : goal.returns-in_default
returns-in_default c =
    let at : c.len.result ≡ length c.loop-k.front.items = search rules in
    missing_word Handshake (record { whole = c.loop-k.invariant.whole; completed = c.loop-k.invariant.completed; here = at }) c.loop-k-test.true
    c.in_default.ensures.cases

pub returns-then-not-branch : goal.returns-then-not-branch
returns-then-not-branch c =
    let at : c.len.result ≡ length c.loop-k.front.items = search rules in
    let new : c.extend_from_slice.new.self.items ≡ (c.loop-k.front.items ++ (32 ∷ [])) ++ word_of c.in-Some.tail.now = search rules in
    let more : c.as_slice.result.now ≡ c.extend_from_slice.new.self.items = c.as_slice.ensures.value in
    wrong Handshake (record { whole = c.loop-k.invariant.whole; completed = c.loop-k.invariant.completed; here = at }) c.loop-k-test.true
    (spaced c.in-Some.ensures.cases.0 c.loop-k.invariant.ends) (more ∙ new)
    (subst (λ (l : List Expected). IsCompleted c.args.first c.as_slice.result.now l → ⊥) (take_rest c.args.expected.now (c.loop-k.k + 1))
    (not_completed c.args.first _ _ c.in_ok-is_completed.field-0 c.if-not-branch.true c.in_ok-is_completed.ensures))

pub loop-k-preserved : goal.loop-k-preserved
loop-k-preserved c =
    let at : length c.loop-k.front.items ≡ length c.loop-k.front.items = refl in
    let new : c.extend_from_slice.new.self.items ≡ (c.loop-k.front.items ++ (32 ∷ [])) ++ word_of c.in-Some.tail.now = search rules in
    record {
      whole = one_more {es = c.args.expected.now} {k = c.loop-k.k}
          (record { whole = c.loop-k.invariant.whole; completed = c.loop-k.invariant.completed; here = at })
          (spaced c.in-Some.ensures.cases.0 c.loop-k.invariant.ends) new c.split_word.ensures.rest;
      completed = subst (λ (t : List ℕ). IsCompleted c.args.first t (drop (c.loop-k.k + 1) c.args.expected.now)) c.as_slice.ensures.value
          (subst (λ (l : List Expected). IsCompleted c.args.first c.as_slice.result.now l) (take_rest c.args.expected.now (c.loop-k.k + 1))
          (completed_is c.args.first _ _ c.in_ok-is_completed.field-0 c.if-not-branch.false c.in_ok-is_completed.ensures));
      ends = rw c.split_word.ensures.rest (ends_after c.in-Some.tail.now);
    }

pub returns-then-is_empty : goal.returns-then-is_empty
returns-then-is_empty c =
    let ended : length c.args.expected.now ≤ c.loop-k.k = search rules in
    let whole = c.loop-k.invariant.whole in
    is_line {rest = c.loop-k.rest.now} (record { whole = whole; completed = c.loop-k.invariant.completed; here = refl }) ended (search rules)

pub returns : goal.returns
returns c =
    let at : c.len-2.result ≡ length c.loop-k.front.items = search rules in
    let ended : length c.args.expected.now ≤ c.loop-k.k = search rules in
    more_words c.loop-k.rest.now (record { whole = c.loop-k.invariant.whole; completed = c.loop-k.invariant.completed; here = at }) ended
    c.loop-k.invariant.ends (search rules)
