-- For the invariant alone: the values of an end's fields.
use Rattle.bt_end.specs.Halves.{HalfState}
use Rattle.bt_end.specs.Reactors.{end_of}
use Rattle.bt_end.specs.Sturdy.{IsEnd}
use Rattle.bt_end.specs.declared.end.End.TheInside.{Inside}

abbrev pub half_of : {A : Type 0} → Inside A → HalfState
half_of a = record { end = end_of a.reactor; feed = a.feed; outbox = a.reactor.outbox.bytes }

abbrev pub IsSound : {A : Type 0} → Inside A → Type 0
IsSound a = IsEnd (half_of a)
