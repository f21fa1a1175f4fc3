use Rattle.bt_bencode.proofs.noted.check_sorted_pairs_and_int.Goals as goal

pub returns-clause-pairs : goal.returns-clause-pairs
returns-clause-pairs c = c.pairs_if_any.ensures _ c.in_ok-dict.ensures.first

pub returns-clause-int : goal.returns-clause-int
returns-clause-int c = c.int_if_any.ensures _ c.in_ok-dict.ensures.second
