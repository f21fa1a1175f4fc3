use Rattle.bt_bencode.proofs.noted.check_sorted_ints.Goals as goal

pub returns-clause-three : goal.returns-clause-three
returns-clause-three c = c.int_found-third.ensures _ c.in_ok-dict.ensures.third
