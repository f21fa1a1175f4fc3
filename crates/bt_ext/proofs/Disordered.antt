-- A dictionary whose keys are out of order, under an id that needs a dictionary.
use Rattle.std.proofs.Common.{◌≡◌, ℕ, ◌==◌, ◌||◌, List, ◌++◌, Option, Some, None, Bool, true, false, refl, ap, sym, arith}
use Rattle.std.proofs.lemmas.Grind.{common_steps}
use Rattle.bt_bencode.specs.Trees.{dictionary, Pairs}
use Rattle.bt_bencode.specs.Bencoding.{ben, Fits}
use Rattle.bt_bencode.specs.Keys.{unsorted}
use Rattle.bt_bencode.specs.declared.tree.Value.TheVariants as value
use Rattle.bt_ext.specs.Ids.{metadata_id, needs_dict, is_id, is_metadata}
use Rattle.bt_ext.specs.Faults.{HasFault, first_of, unsorted_fault}
use Rattle.bt_ext.specs.declared.ids.Registered.{Registered}
use Rattle.bt_ext.specs.declared.ids.Rules.TheVariants as rules
use Rattle.bt_ext.specs.declared.ext.Ext.TheVariants as ext
use Rattle.bt_ext.specs.declared.ext.ViewError.{ViewError}
use Rattle.bt_ext.specs.declared.ext.ViewError.TheVariants as error

same_id : (n id : ℕ) → (n == id) ≡ true → n ≡ id
same_id n id h = grind (arith, common_steps)

named : (o : Option ℕ) (id : ℕ) → is_id o id ≡ true → o ≡ Some id
named None id h = absurd (cc)
named (Some n) id h = ap (λ (k : ℕ). Some k) (same_id n id h)

-- keys out of order are the first fault
first : (o : Option ℕ) (at : ℕ) (other : Option ViewError) → o ≡ Some at → first_of (unsorted_fault o) other ≡ Some (error.Unsorted at)
first o at other h = rw h refl

by_id : (reg : Registered) (id : ℕ) (b : Bool) (payload rest : List ℕ) (ps : Pairs) (at : ℕ) → (id == 0) ≡ b → (b || is_metadata reg id) ≡ true
    → Fits (dictionary ps) → payload ≡ ben (dictionary ps) ++ rest → unsorted (dictionary ps) ≡ Some at
    → HasFault reg rules.Bep id payload (error.Unsorted at)
by_id reg id true payload rest ps at e n fits is order = record {
  value = ext.Handshake (value.Dict ps) rest;
  is = record { named = ap (λ (k : ℕ). Some k) (sym (same_id id 0 e)); fits = (ps, refl, fits); spelled = is };
  faulty = first (unsorted (dictionary ps)) at _ order;
}
by_id reg id false payload rest ps at e n fits is order = record {
  value = ext.Metadata (value.Dict ps) rest;
  is = record { named = named (metadata_id reg) id n; fits = (ps, refl, fits); spelled = is };
  faulty = first (unsorted (dictionary ps)) at _ order;
}

pub refused : (reg : Registered) (id : ℕ) (payload rest : List ℕ) (ps : Pairs) (at : ℕ) → needs_dict reg id ≡ true
    → Fits (dictionary ps) → payload ≡ ben (dictionary ps) ++ rest → unsorted (dictionary ps) ≡ Some at
    → HasFault reg rules.Bep id payload (error.Unsorted at)
refused reg id payload rest ps at needed fits is order = by_id reg id (id == 0) payload rest ps at refl needed fits is order
