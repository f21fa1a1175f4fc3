-- That spans are apart has one proof.
use Rattle.std.specs.Prelude.{ℕ, ◌+◌, List, [], ◌∷◌}
use Rattle.std.specs.Coded.{Unit-prop}
use Rattle.std.proofs.Props.{props}
use Rattle.bt_tcp.specs.declared.covered.Span.{Span}
use Rattle.bt_tcp.specs.Covered.{AreApart}

pub AreApart-prop : (least : ℕ) (spans : List Span) → IsProp (AreApart least spans)
AreApart-prop least [] = Unit-prop
AreApart-prop least (s ∷ spans) = let there = AreApart-prop (s.to + 1) spans in hlevel (props, there)
