use Rattle.std.proofs.Common.{◌≡◌, ◌∙◌, None, ap, sym, subst, List, [], ◌∷◌, ◌++◌, ◌-◌, ◌^◌}
use Rattle.std.specs.List.{cons_option}
use Rattle.std.specs.List.Sorted.{IsPermutation}
use Rattle.std.specs.Map.{lookup}
use Rattle.std.proofs.lemmas.List.Sorted.{IsPermutation-append_right}
use Rattle.lru.specs.LruCache.{LruCache}
use Rattle.bt_capture.specs.declared.pair.Pair.{Pair}
use Rattle.bt_capture.specs.Tables.{IsApart, Held, same_pair}
use Rattle.bt_capture.proofs.Entries.{apart_first, apart_rest, apart_put, apart_moved}
use Rattle.bt_capture.proofs.table.Table.put.Goals as goal

pub keep_either-requires-clause-absent : goal.keep_either-requires-clause-absent
keep_either-requires-clause-absent c =
    let e : Pair × Held = (c.in-Some.last, c.in-Some.other) in
    apart_first e (c.self.inside.others.entries ++ c.self.inside.silent.entries) (rw (sym c.in-Some.ensures.value) at c.self.invariant.0)

pub invariant_of-self-in-Some : goal.invariant_of-self-in-Some
invariant_of-self-in-Some c =
    let es : List (Pair × Held) = c.self.inside.others.entries ++ c.self.inside.silent.entries in
    let es' : List (Pair × Held) = c.keep_either.new.others.entries ++ c.keep_either.new.silent.entries in
    let e : Pair × Held = (c.in-Some.last, c.in-Some.other) in
    let new : Pair × Held = (c.args.pair, c.args.connection) in
    let Q : List (Pair × Held) → Type 0 = λ t. lookup (same_pair c.args.pair) t ≡ None in
    let none : Q (e ∷ es) = subst Q (sym (ap (λ o. cons_option o es) c.in-Some.ensures.value ∙ c.self.view_is)) c.requires in
    let apart : IsApart (new ∷ e ∷ es) = apart_put new (e ∷ es) none (rw (sym c.in-Some.ensures.value) at c.self.invariant.0) in (
      apart_moved (new ∷ e ∷ es) (new ∷ es') (IsPermutation-append_right (new ∷ []) (e ∷ es) es' c.in_ok-keep_either-in-Some.ensures.kept) apart,
      c.in_ok-keep_either-in-Some.ensures.cap ∙ c.self.invariant.1,
      c.in_ok-keep_either-in-Some.ensures.silent_cap ∙ c.self.invariant.2,
    )

pub invariant_of-self : goal.invariant_of-self
invariant_of-self c =
    let es : List (Pair × Held) = c.self.inside.others.entries ++ c.self.inside.silent.entries in
    let e : Pair × Held = (c.in-Some.last, c.in-Some.other) in
    let P : LruCache Pair Held → LruCache Pair Held → Type 0 = λ t u. IsApart (t.entries ++ u.entries) × (t.cap ≡ 2 ^ 64 - 1) × (u.cap ≡ 2 ^ 64 - 1) in
    let old : P c.self.inside.others c.self.inside.silent =
    (apart_rest e es (rw (sym c.in-Some.ensures.value) at c.self.invariant.0), c.self.invariant.1, c.self.invariant.2) in
    rw c.take.ensures.after (subst (λ t. P t c.keep_either.new.silent) (sym c.in_err-keep_either-in-Some.ensures.same.0)
    (subst (λ u. P c.self.inside.others u) (sym c.in_err-keep_either-in-Some.ensures.same.1) old))

pub invariant_of-self-in-None : goal.invariant_of-self-in-None
invariant_of-self-in-None c =
    let es : List (Pair × Held) = c.self.inside.others.entries ++ c.self.inside.silent.entries in
    let new : Pair × Held = (c.args.pair, c.args.connection) in
    let Q : List (Pair × Held) → Type 0 = λ t. lookup (same_pair c.args.pair) t ≡ None in
    let none : Q es = subst Q (sym (ap (λ o. cons_option o es) c.in-None.ensures.value ∙ c.self.view_is)) c.requires in
    (apart_put new es none (rw (sym c.in-None.ensures.value) at c.self.invariant.0), c.self.invariant.1, c.self.invariant.2)

pub returns-in_ok-keep_either-in-Some-clause-put : goal.returns-in_ok-keep_either-in-Some-clause-put
returns-in_ok-keep_either-in-Some-clause-put c =
    let es : List (Pair × Held) = c.self.inside.others.entries ++ c.self.inside.silent.entries in
    let es' : List (Pair × Held) = c.keep_either.new.others.entries ++ c.keep_either.new.silent.entries in
    let e : Pair × Held = (c.in-Some.last, c.in-Some.other) in
    let new : Pair × Held = (c.args.pair, c.args.connection) in
    let is : e ∷ es ≡ c.args.self.now = ap (λ o. cons_option o es) c.in-Some.ensures.value ∙ c.self.view_is in
    let P : List (Pair × Held) → Type 0 = λ l. IsPermutation (new ∷ l) (new ∷ es') in
    subst P is (IsPermutation-append_right (new ∷ []) (e ∷ es) es' c.in_ok-keep_either-in-Some.ensures.kept)
