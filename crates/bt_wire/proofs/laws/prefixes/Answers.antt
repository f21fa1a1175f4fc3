use Rattle.std.proofs.Common.{sym, subst, List, ℕ, ◌++◌, None}
use Rattle.bt_wire.specs.Faults.{IsFault}
use Rattle.bt_wire.proofs.SpellLaws.{none_begins}
use Rattle.bt_wire.proofs.WindowLaws.{fault-spell, fault_stays, one_fault}
use Rattle.bt_wire.proofs.laws.prefixes.Goals as goal

pub returns-clause-fault : goal.returns-clause-fault
returns-clause-fault c = fault_stays

pub returns-clause-last : goal.returns-clause-last
returns-clause-last c = λ d o s b x y f m lt e said same.
    let P : List ℕ → Type 0 = λ z. IsFault d o s z None in
    let none : IsFault d o s (b ++ x) None = subst P (sym same) (fault-spell d o s m y lt said) in
    let bad = one_fault d o s (b ++ x) _ _ (fault_stays d o s b x f e) none in
    absurd cc

pub returns-clause-spelling : goal.returns-clause-spelling
returns-clause-spelling c = λ d o p s t m n x y lt q r e. none_begins x y lt q r e
