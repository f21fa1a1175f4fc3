use Rattle.std.proofs.Common.{ℕ, ◌≤◌, List, ◌++◌, length, take, ap, arith, rules}
use Rattle.std.proofs.lemmas.List.{places, take-take}
use Rattle.bt_rows.proofs.FrontBytes.{take_front}
use Rattle.bt_rows.proofs.fronts.put_first.Goals as goal

pub returns-clause-text : goal.returns-clause-text
returns-clause-text c count few =
    let short : count ≤ length c.copy_from_slice.new.self = search (rules, places) in
    rw (
      take_front c.args.at _ count c.args.text.now c.copy_from_slice.new.self (omega arith) short,
      c.copy_from_slice.ensures.after,
    )
    (ap (λ (l : List ℕ). take c.args.at c.args.text.now ++ l) (take-take count c.args.many c.args.bytes.now few))
