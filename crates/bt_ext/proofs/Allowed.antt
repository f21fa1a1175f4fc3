-- What the rules allow is what has no fault.
use Rattle.std.proofs.Common.{◌≡◌, ◌↔◌, ℕ, Bool, true, false, not, Option, Some, None, option_and_then, length, refl, ap}
use Rattle.bt_bencode.specs.Trees.{Tree}
use Rattle.bt_bencode.specs.Keys.{IsSorted}
use Rattle.bt_bencode.specs.Views.{tree_of}
use Rattle.bt_bencode.proofs.LawProofs.{sorted_has_none}
use Rattle.bt_ext.specs.Fields.{has_bad_field}
use Rattle.bt_ext.specs.Metadata.{kind_of, is_block_ok, is_malformed}
use Rattle.bt_ext.specs.Faults.{Allows, fault_of, first_of, fault_if, unsorted_fault, handshake_fault_of, metadata_fault_of, reason_by, reason_of}
use Rattle.bt_ext.specs.declared.ids.Rules.{Rules}
use Rattle.bt_ext.specs.declared.ids.Rules.TheVariants as rules
use Rattle.bt_ext.specs.declared.ext.Ext.{Ext}
use Rattle.bt_ext.specs.declared.ext.Ext.TheVariants as ext
use Rattle.bt_ext.specs.declared.ext.ViewError.{ViewError}
use Rattle.bt_ext.specs.declared.ext.ViewError.TheVariants as error

neither : (a b : Option ViewError) → first_of a b ≡ None → (a ≡ None) × (b ≡ None)
neither (Some e) b h = absurd (cc)
neither None b h = (refl, h)

sorted : (o : Option ℕ) → unsorted_fault o ≡ None → o ≡ None
sorted None h = refl
sorted (Some n) h = absurd (cc)

holds_not : (b : Bool) (e : ViewError) → fault_if b e ≡ None → b ≡ false
holds_not true e h = absurd (cc)
holds_not false e h = refl

holds : (b : Bool) (e : ViewError) → fault_if (not b) e ≡ None → b ≡ true
holds true e h = refl
holds false e h = absurd (cc)

handshake : (t : Tree) → handshake_fault_of t ≡ None → IsSorted t × (has_bad_field t ≡ false)
handshake t h =
    let n = neither _ _ h in
    ((sorted_has_none t).0 (sorted _ n.0), holds_not _ _ n.1)

metadata : (t : Tree) (n : ℕ) → metadata_fault_of t n ≡ None → IsSorted t × (is_malformed (kind_of t) ≡ false) × (is_block_ok (kind_of t) n ≡ true)
metadata t n h =
    let a = neither _ _ h in
    let b = neither _ _ a.1 in
    ((sorted_has_none t).0 (sorted _ a.0), holds_not _ _ b.0, holds _ _ b.1)

pub allowed : (r : Rules) (e : Ext) → fault_of r e ≡ None → Allows r e
allowed rules.Free e h = tt
allowed rules.Bep (ext.Handshake v x) h = handshake (tree_of v) h
allowed rules.Bep (ext.Metadata v x) h = metadata (tree_of v) (length x) h
allowed rules.Bep (ext.DontHave i) h = tt
allowed rules.Bep (ext.Raw i x) h = tt

pub faultless : (r : Rules) (e : Ext) → Allows r e → fault_of r e ≡ None
faultless rules.Free e h = refl
faultless rules.Bep (ext.Handshake v x) h = rw ((sorted_has_none (tree_of v)).1 h.0, h.1) refl
faultless rules.Bep (ext.Metadata v x) h = rw ((sorted_has_none (tree_of v)).1 h.0, h.1, h.2) refl
faultless rules.Bep (ext.DontHave i) h = refl
faultless rules.Bep (ext.Raw i x) h = refl

pub both : (r : Rules) (e : Ext) → Allows r e ↔ (fault_of r e ≡ None)
both r e = (faultless r e, allowed r e)

-- ---- a reason for a refusal
one_of_two : (o : Option ℕ) (b : Bool) → option_and_then reason_by (first_of (unsorted_fault o) (fault_if b error.BadField)) ≡ None
    → first_of (unsorted_fault o) (fault_if b error.BadField) ≡ None
one_of_two (Some at) b h = absurd (cc)
one_of_two None true h = absurd (cc)
one_of_two None false h = refl

one_of_three : (o : Option ℕ) (b c : Bool) (n : ℕ) → option_and_then reason_by
    (first_of (unsorted_fault o) (first_of (fault_if b error.BadField) (fault_if c (error.BadBlock n)))) ≡ None
    → first_of (unsorted_fault o) (first_of (fault_if b error.BadField) (fault_if c (error.BadBlock n))) ≡ None
one_of_three (Some at) b c n h = absurd (cc)
one_of_three None true c n h = absurd (cc)
one_of_three None false true n h = absurd (cc)
one_of_three None false false n h = refl

no_reason : (r : Rules) (e : Ext) → reason_of r e ≡ None → fault_of r e ≡ None
no_reason rules.Free e h = refl
no_reason rules.Bep (ext.Handshake v x) h = one_of_two _ _ h
no_reason rules.Bep (ext.Metadata v x) h = one_of_three _ _ _ _ h
no_reason rules.Bep (ext.DontHave i) h = refl
no_reason rules.Bep (ext.Raw i x) h = refl

pub allowed-no_reason : (r : Rules) (e : Ext) → Allows r e ↔ (reason_of r e ≡ None)
allowed-no_reason r e = ((λ h. ap (option_and_then reason_by) (faultless r e h)), (λ h. allowed r e (no_reason r e h)))
