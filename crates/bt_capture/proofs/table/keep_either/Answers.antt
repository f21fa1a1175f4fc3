use Rattle.std.proofs.Common.{◌++◌, ◌∷◌, List, sym, subst}
use Rattle.std.specs.List.Sorted.{IsPermutation}
use Rattle.lru.specs.LruCache.{LruCache}
use Rattle.bt_capture.specs.Tables.{Held, same_pair}
use Rattle.bt_capture.specs.declared.pair.Pair.{Pair}
use Rattle.bt_capture.proofs.Parts.{none_front, none_back, on_ok, put_back}
use Rattle.bt_capture.proofs.table.keep_either.Goals as goal

pub keep-requires-clause-absent : goal.keep-requires-clause-absent
keep-requires-clause-absent c = none_front (same_pair c.args.pair) c.args.others.now.entries c.args.silent.now.entries c.requires.absent

pub keep-requires-else-deref-clause-absent : goal.keep-requires-else-deref-clause-absent
keep-requires-else-deref-clause-absent c = none_back (same_pair c.args.pair) c.args.others.now.entries c.args.silent.now.entries c.requires.absent

pub returns-else-deref-clause-kept : goal.returns-else-deref-clause-kept
returns-else-deref-clause-kept c =
    let es : List (Pair × Held) = c.args.others.now.entries in
    let fs : List (Pair × Held) = c.args.silent.now.entries in
    let e : Pair × Held = (c.args.pair, c.args.connection) in
    let P : LruCache Pair Held → Type 0 = λ l. IsPermutation (e ∷ (es ++ fs)) (es ++ l.entries) in
    on_ok c.keep-else-deref.result (λ is. subst P (sym is) (put_back e es fs)) c.keep-else-deref.ensures.kept
