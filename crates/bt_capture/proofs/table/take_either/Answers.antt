use Rattle.std.proofs.Common.{◌∙◌, ◌++◌, List, ap, sym}
use Rattle.lru.specs.LruCache.{LruCache}
use Rattle.bt_capture.specs.Tables.{Held, same_pair}
use Rattle.bt_capture.specs.declared.pair.Pair.{Pair}
use Rattle.bt_capture.proofs.Entries.{lookup_kept}
use Rattle.bt_capture.proofs.Parts.{found_front, found_back, gone_front, gone_back}
use Rattle.bt_capture.proofs.table.take_either.Goals as goal

pub returns-in-Some-clause-found : goal.returns-in-Some-clause-found
returns-in-Some-clause-found c =
    found_front (same_pair c.args.pair) c.args.others.now.entries c.args.silent.now.entries c.in-Some.connection c.in-Some.ensures.value

pub returns-in-Some-clause-rest : goal.returns-in-Some-clause-rest
returns-in-Some-clause-rest c =
    ap (λ (l : LruCache Pair Held). l.entries ++ c.args.silent.now.entries) c.in-Some.ensures.entries
    ∙ gone_front (same_pair c.args.pair) c.args.others.now.entries c.args.silent.now.entries c.in-Some.connection c.in-Some.ensures.value

pub returns-in-None-clause-found : goal.returns-in-None-clause-found
returns-in-None-clause-found c =
    c.pop-in-None.ensures.value ∙ sym (found_back (same_pair c.args.pair) c.args.others.now.entries c.args.silent.now.entries (sym c.in-None.ensures.value))

pub returns-in-None-clause-rest : goal.returns-in-None-clause-rest
returns-in-None-clause-rest c =
    let es : List (Pair × Held) = c.args.others.now.entries in
    let fs : List (Pair × Held) = c.args.silent.now.entries in
    let p = c.args.pair in
    ap (λ (l : LruCache Pair Held). l.entries ++ c.pop-in-None.new.self.entries) c.in-None.ensures.entries
    ∙ ap (λ (l : List (Pair × Held)). l ++ c.pop-in-None.new.self.entries) (lookup_kept p es (sym c.in-None.ensures.value))
    ∙ ap (λ (l : LruCache Pair Held). es ++ l.entries) c.pop-in-None.ensures.entries
    ∙ gone_back (same_pair p) es fs (sym c.in-None.ensures.value)
