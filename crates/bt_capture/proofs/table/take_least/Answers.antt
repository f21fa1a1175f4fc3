use Rattle.std.proofs.Common.{◌≡◌, ◌∙◌, [], ◌∷◌, ◌++◌, ◌-◌, append_assoc, List, length, take, ap, sym, subst}
use Rattle.std.specs.Option.{option_to_list}
use Rattle.lru.specs.LruCache.{LruCache}
use Rattle.bt_capture.specs.Tables.{Held}
use Rattle.bt_capture.specs.declared.pair.Pair.{Pair}
use Rattle.bt_capture.proofs.Entries.{front_and_last, none_last, no_more}
use Rattle.bt_capture.proofs.Parts.{popped, not_popped, popped_front}
use Rattle.bt_capture.proofs.table.take_least.Goals as goal

pub returns-in-Some-clause-oldest : goal.returns-in-Some-clause-oldest
returns-in-Some-clause-oldest c =
    let es : List (Pair × Held) = c.args.others.now.entries in
    let fs : List (Pair × Held) = c.args.silent.now.entries in
    let e : Pair × Held = c.in-Some.oldest in
    let P : LruCache Pair Held → Type 0 = λ l. es ++ fs ≡ (es ++ l.entries) ++ e ∷ [] in
    subst P (sym c.in-Some.ensures.entries)
    (ap (λ (l : List (Pair × Held)). es ++ l) (front_and_last fs e c.in-Some.ensures.value) ∙ sym (append_assoc es (take (length fs - 1) fs) (e ∷ [])))

pub returns-in-None-clause-oldest : goal.returns-in-None-clause-oldest
returns-in-None-clause-oldest c =
    let es : List (Pair × Held) = c.args.others.now.entries in
    let fs : List (Pair × Held) = c.args.silent.now.entries in
    let fs' : List (Pair × Held) = c.pop_lru.new.self.entries in
    let es' : List (Pair × Held) = c.pop_lru-in-None.new.self.entries in
    let o = c.pop_lru-in-None.result in
    let P : LruCache Pair Held → Type 0 = λ l. es ≡ l.entries ++ option_to_list o in
    popped_front es fs es' fs' o (none_last fs c.in-None.ensures.value)
    (ap (λ (l : LruCache Pair Held). l.entries) c.in-None.ensures.entries ∙ no_more fs c.in-None.ensures.value)
    (subst P (sym c.pop_lru-in-None.ensures.entries) (popped es o c.pop_lru-in-None.ensures.value))

pub returns-in-None-clause-empty : goal.returns-in-None-clause-empty
returns-in-None-clause-empty c none =
    let es : List (Pair × Held) = c.args.others.now.entries in
    ap (λ (l : List (Pair × Held)). l ++ c.args.silent.now.entries) (not_popped es c.pop_lru-in-None.result c.pop_lru-in-None.ensures.value none)
    ∙ none_last c.args.silent.now.entries c.in-None.ensures.value
