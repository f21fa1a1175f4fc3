-- A payload under an id has one fault or none.
use Rattle.std.proofs.Common.{◌≡◌, ℕ, Option, Some, None, List, refl, ap, sym, ◌∙◌}
use Rattle.bt_bencode.proofs.LawProofs.{one_place}
use Rattle.bt_ext.specs.Payloads.{IsExt}
use Rattle.bt_ext.specs.Faults.{IsFault, HasNoDict, HasWrongLength, fault_of}
use Rattle.bt_ext.specs.declared.ids.Registered.{Registered}
use Rattle.bt_ext.specs.declared.ids.Rules.{Rules}
use Rattle.bt_ext.specs.declared.ext.Ext.{Ext}
use Rattle.bt_ext.specs.declared.ext.ViewError.{ViewError}
use Rattle.bt_ext.specs.declared.ext.ViewError.TheVariants as error
use Rattle.bt_ext.proofs.OneExt.{same_ext, no_value, no_index, not_both}
use Rattle.bt_ext.proofs.Allowed.{faultless}

-- a fault is that of a value, or there is no value
OfValue : Registered → Rules → ℕ → List ℕ → Option ViewError → Type 0
OfValue reg r id p a = (e : Ext) × IsExt reg e id p × (fault_of r e ≡ a)

OfNone : Registered → ℕ → List ℕ → Option ViewError → Type 0
OfNone reg id p a = (at : ℕ) × HasNoDict reg id p at × (a ≡ Some (error.BadBencode at))

OfLength : Registered → ℕ → List ℕ → Option ViewError → Type 0
OfLength reg id p a = HasWrongLength reg id p × (a ≡ Some error.BadExtLength)

-- why a payload under an id has this fault or none
data Why (reg : Registered) (r : Rules) (id : ℕ) (p : List ℕ) (a : Option ViewError) : Type 0 where
  of_value : OfValue reg r id p a → Why reg r id p a
  of_none : OfNone reg id p a → Why reg r id p a
  of_length : OfLength reg id p a → Why reg r id p a

split : (reg : Registered) (r : Rules) (id : ℕ) (p : List ℕ) (a : Option ViewError) → IsFault reg r id p a → Why reg r id p a
unfolding OfValue OfNone OfLength
split reg r id p None h = of_value (h.0, h.1.is, faultless r h.0 h.1.allowed)
split reg r id p (Some error.BadExtLength) h = of_length (h, refl)
split reg r id p (Some (error.BadBencode at)) h = of_none (at, h, refl)
split reg r id p (Some (error.Unsorted at)) h = of_value (h.value, h.is, h.faulty)
split reg r id p (Some error.BadField) h = of_value (h.value, h.is, h.faulty)
split reg r id p (Some (error.BadBlock at)) h = of_value (h.value, h.is, h.faulty)

join : (reg : Registered) (r : Rules) (id : ℕ) (p : List ℕ) (a b : Option ViewError) → Why reg r id p a → Why reg r id p b → a ≡ b
unfolding OfValue OfNone OfLength
join reg r id p a b (of_value x) (of_value y) = let e = same_ext reg x.0 y.0 id p x.1 y.1 in sym x.2 ∙ ap (fault_of r) e ∙ y.2
join reg r id p a b (of_value x) (of_none y) = absurd (no_value reg x.0 id p y.1.needed y.1.none x.1)
join reg r id p a b (of_value x) (of_length y) = absurd (no_index reg x.0 id p y.0 x.1)
join reg r id p a b (of_none x) (of_value y) = absurd (no_value reg y.0 id p x.1.needed x.1.none y.1)
join reg r id p a b (of_none x) (of_none y) = x.2 ∙ ap (λ (n : ℕ). Some (error.BadBencode n)) (one_place p x.0 y.0 x.1.place y.1.place) ∙ sym y.2
join reg r id p a b (of_none x) (of_length y) = absurd (not_both reg id x.0 p x.1 y.0)
join reg r id p a b (of_length x) (of_value y) = absurd (no_index reg y.0 id p x.0 y.1)
join reg r id p a b (of_length x) (of_none y) = absurd (not_both reg id y.0 p y.1 x.0)
join reg r id p a b (of_length x) (of_length y) = x.1 ∙ sym y.1

pub one_fault : (reg : Registered) (r : Rules) (id : ℕ) (p : List ℕ) (a b : Option ViewError) → IsFault reg r id p a → IsFault reg r id p b → a ≡ b
one_fault reg r id p a b h k = join reg r id p a b (split reg r id p a h) (split reg r id p b k)
