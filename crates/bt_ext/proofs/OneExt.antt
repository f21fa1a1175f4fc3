-- An extended id and its payload are those of one value.
use Rattle.std.proofs.Common.{◌≡◌, ℕ, ◌<◌, ◌^◌, ◌||◌, Option, Some, None, option_and_then, Bool, true, false, List, ◌++◌, refl, ap, sym, ◌∙◌, subst, length}
use Rattle.std.proofs.Common.{length-append, take, arith, ◌==◌, if◌then◌else◌}
use Rattle.std.proofs.Math.Seq.{take-append_seam}
use Rattle.std.proofs.lemmas.Grind.{common_steps}
use Rattle.bt_bencode.specs.Payloads.{BeginsWithNone}
use Rattle.bt_bencode.specs.Trees.{dictionary, Pairs}
use Rattle.bt_bencode.specs.Bencoding.{ben, BeginsWith, Fits}
use Rattle.bt_bencode.proofs.LawProofs.{none_begins}
use Rattle.bt_bencode.specs.Views.{tree_of}
use Rattle.bt_bencode.specs.declared.tree.Value.{Value}
use Rattle.std.specs.Int.{w32, from_be_bytes}
use Rattle.std.proofs.lemmas.Nat.{from_be_bytes-to_be_bytes_4}
use Rattle.bt_ext.specs.Ids.{metadata_id, donthave_id, needs_dict, is_known, is_id, is_metadata, is_donthave, apart_from, extension_id}
use Rattle.bt_ext.specs.Payloads.{IsExt, IsDict, index_bytes}
use Rattle.bt_ext.specs.Faults.{HasNoDict, HasWrongLength}
use Rattle.bt_ext.specs.declared.ids.Registered.{Registered}
use Rattle.bt_ext.specs.declared.ext.Ext.{Ext}
use Rattle.bt_ext.specs.declared.ext.Ext.TheVariants as ext

-- a dictionary and what follows it
same_parts : (v w : Value) (x y payload : List ℕ) → IsDict v → IsDict w → payload ≡ ben (tree_of v) ++ x → payload ≡ ben (tree_of w) ++ y → (v ≡ w) × (x ≡ y)
same_parts v w x y payload dv dw ev ew =
    let left = ev ∙ ap (λ (u : Value). ben (tree_of u) ++ x) dv.1 in
    let right = ew ∙ ap (λ (u : Value). ben (tree_of u) ++ y) dw.1 in
    let s = none_begins (dictionary dv.0) (dictionary dw.0) x y dv.2 dw.2 (sym left ∙ right) in
    let tree = s.0 in
    let first = dv.1 in
    let second = dw.1 in
    (cc, s.1)

kept : (b : Bool) (i id : ℕ) → (if b then None else Some i) ≡ Some id → (i ≡ id) × (b ≡ false)
kept true i id h = absurd (cc)
kept false i id h = (cc, refl)

-- ---- what each value's extended id is

-- no registered id is 0
not_zero : (o : Option ℕ) → option_and_then extension_id o ≡ Some 0 → ⊥
not_zero None h = cc
not_zero (Some n) h =
    let k = kept (n == 0) n 0 h in
    let e : (0 == 0) ≡ false = subst (λ (m : ℕ). (m == 0) ≡ false) k.0 k.1 in
    cc

-- an id that is there and apart from another
apart_is : (other o : Option ℕ) (id : ℕ) → option_and_then (apart_from other) o ≡ Some id → (o ≡ Some id) × (is_id other id ≡ false)
apart_is other None id h = absurd (cc)
apart_is other (Some n) id h =
    let k = kept (is_id other n) n id h in
    (ap Some k.0, subst (λ (m : ℕ). is_id other m ≡ false) k.0 k.1)

-- the id is one under which a value of this kind is spelled
zero : (reg : Registered) (id : ℕ) → Some 0 ≡ Some id → needs_dict reg id ≡ true
zero reg id h = let e : 0 ≡ id = cc in subst (λ (n : ℕ). needs_dict reg n ≡ true) e refl

of_metadata : (reg : Registered) (id : ℕ) → metadata_id reg ≡ Some id → needs_dict reg id ≡ true
of_metadata reg id h = rw h (grind (arith, common_steps))

same_is : (o : Option ℕ) (id : ℕ) → o ≡ Some id → is_id o id ≡ true
same_is o id h = rw h (grind (arith, common_steps))

of_donthave : (reg : Registered) (id : ℕ) → donthave_id reg ≡ Some id → (is_donthave reg id ≡ true) × (needs_dict reg id ≡ false)
of_donthave reg id h =
    let a = apart_is (metadata_id reg) (option_and_then extension_id reg.donthave) id h in
    (same_is (donthave_id reg) id h, both_false (id == 0) (is_metadata reg id) (positive reg.donthave id a.0) a.1)
  where
    both_false : (a b : Bool) → a ≡ false → b ≡ false → (a || b) ≡ false
    both_false a b e f = rw (e, f) refl

    positive : (o : Option ℕ) (n : ℕ) → option_and_then extension_id o ≡ Some n → (n == 0) ≡ false
    positive None n e = absurd (cc)
    positive (Some m) n e = let k = kept (m == 0) m n e in subst (λ (l : ℕ). (l == 0) ≡ false) k.0 k.1

of_raw : (reg : Registered) (i id : ℕ) → (if is_known reg i then None else Some i) ≡ Some id
    → (i ≡ id) × (needs_dict reg id ≡ false) × (is_donthave reg id ≡ false)
of_raw reg i id h =
    let k = kept (is_known reg i) i id h in
    let n = neither (needs_dict reg id) (is_donthave reg id) (subst (λ (n : ℕ). is_known reg n ≡ false) k.0 k.1) in
    (k.0, n.0, n.1)
  where
    neither : (a b : Bool) → (a || b) ≡ false → (a ≡ false) × (b ≡ false)
    neither true b e = absurd (cc)
    neither false b e = (refl, e)

-- ---- ids of two kinds differ

-- an id of a dictionary is no other's
pub dict_or_donthave : (reg : Registered) (id : ℕ) → needs_dict reg id ≡ true → donthave_id reg ≡ Some id → ⊥
dict_or_donthave reg id d h = let other = (of_donthave reg id h).1 in cc

pub dict_or_raw : (reg : Registered) (i id : ℕ) → needs_dict reg id ≡ true → (if is_known reg i then None else Some i) ≡ Some id → ⊥
dict_or_raw reg i id d h = let other = (of_raw reg i id h).1 in cc

donthave_or_raw : (reg : Registered) (i id : ℕ) → donthave_id reg ≡ Some id → (if is_known reg i then None else Some i) ≡ Some id → ⊥
donthave_or_raw reg i id d h = let one = (of_donthave reg id d).0 in let other = (of_raw reg i id h).2 in cc

zero_or_registered : (reg : Registered) (id : ℕ) → Some 0 ≡ Some id → metadata_id reg ≡ Some id → ⊥
zero_or_registered reg id h r = not_zero reg.metadata (r ∙ sym h)

-- ---- one value

same_index : (i j : ℕ) (p : List ℕ) → i < 2 ^ 32 → j < 2 ^ 32 → p ≡ index_bytes i → p ≡ index_bytes j → i ≡ j
same_index i j p hi hj ei ej = sym (from_be_bytes-to_be_bytes_4 i hi) ∙ ap (from_be_bytes w32) (sym ei ∙ ej) ∙ from_be_bytes-to_be_bytes_4 j hj

pub same_ext : (reg : Registered) (e f : Ext) (id : ℕ) (payload : List ℕ) → IsExt reg e id payload → IsExt reg f id payload → e ≡ f
same_ext reg (ext.Handshake v x) (ext.Handshake w y) id p he hf = let s = same_parts v w x y p he.fits hf.fits he.spelled hf.spelled in let a = s.0 in
    let b = s.1 in cc
same_ext reg (ext.Handshake v x) (ext.Metadata w y) id p he hf = absurd (zero_or_registered reg id he.named hf.named)
same_ext reg (ext.Handshake v x) (ext.DontHave j) id p he hf = absurd (dict_or_donthave reg id (zero reg id he.named) hf.named)
same_ext reg (ext.Handshake v x) (ext.Raw j q) id p he hf = absurd (dict_or_raw reg j id (zero reg id he.named) hf.named)
same_ext reg (ext.Metadata v x) (ext.Handshake w y) id p he hf = absurd (zero_or_registered reg id hf.named he.named)
same_ext reg (ext.Metadata v x) (ext.Metadata w y) id p he hf = let s = same_parts v w x y p he.fits hf.fits he.spelled hf.spelled in let a = s.0 in let b =
    s.1 in cc
same_ext reg (ext.Metadata v x) (ext.DontHave j) id p he hf = absurd (dict_or_donthave reg id (of_metadata reg id he.named) hf.named)
same_ext reg (ext.Metadata v x) (ext.Raw j q) id p he hf = absurd (dict_or_raw reg j id (of_metadata reg id he.named) hf.named)
same_ext reg (ext.DontHave i) (ext.Handshake w y) id p he hf = absurd (dict_or_donthave reg id (zero reg id hf.named) he.named)
same_ext reg (ext.DontHave i) (ext.Metadata w y) id p he hf = absurd (dict_or_donthave reg id (of_metadata reg id hf.named) he.named)
same_ext reg (ext.DontHave i) (ext.DontHave j) id p he hf = ap ext.DontHave (same_index i j p he.fits hf.fits he.spelled hf.spelled)
same_ext reg (ext.DontHave i) (ext.Raw j q) id p he hf = absurd (donthave_or_raw reg j id he.named hf.named)
same_ext reg (ext.Raw i x) (ext.Handshake w y) id p he hf = absurd (dict_or_raw reg i id (zero reg id hf.named) he.named)
same_ext reg (ext.Raw i x) (ext.Metadata w y) id p he hf = absurd (dict_or_raw reg i id (of_metadata reg id hf.named) he.named)
same_ext reg (ext.Raw i x) (ext.DontHave j) id p he hf = absurd (donthave_or_raw reg i id hf.named he.named)
same_ext reg (ext.Raw i x) (ext.Raw j y) id p he hf =
    let first = (of_raw reg i id he.named).0 in
    let second = (of_raw reg j id hf.named).0 in
    let third = he.spelled in
    let fourth = hf.spelled in
    cc

pub begins_with : (ps : Pairs) (x payload : List ℕ) → Fits (dictionary ps) → payload ≡ ben (dictionary ps) ++ x
    → BeginsWith payload ps (length (ben (dictionary ps)))
begins_with ps x payload fits is =
    let long = ap length is ∙ length-append (ben (dictionary ps)) x in
    record {
      within = omega arith;
      spells = record { fits = fits; spelled = ap (λ (b : List ℕ). take (length (ben (dictionary ps))) b) is ∙ take-append_seam (ben (dictionary ps)) x };
    }

begins : (v : Value) (x payload : List ℕ) → IsDict v → payload ≡ ben (tree_of v) ++ x → BeginsWithNone payload → ⊥
begins v x payload d e none =
    none d.0 (length (ben (dictionary d.0))) (begins_with d.0 x payload d.2 (e ∙ ap (λ (u : Value). ben (tree_of u) ++ x) d.1))

-- a payload without the dictionary that its id needs is that of no value
pub no_value : (reg : Registered) (e : Ext) (id : ℕ) (payload : List ℕ) → needs_dict reg id ≡ true → BeginsWithNone payload → IsExt reg e id payload → ⊥
no_value reg (ext.Handshake v x) id p needs none h = begins v x p h.fits h.spelled none
no_value reg (ext.Metadata v x) id p needs none h = begins v x p h.fits h.spelled none
no_value reg (ext.DontHave i) id p needs none h = dict_or_donthave reg id needs h.named
no_value reg (ext.Raw i q) id p needs none h = dict_or_raw reg i id needs h.named

-- so is one of another length than a piece index
pub no_index : (reg : Registered) (e : Ext) (id : ℕ) (payload : List ℕ) → HasWrongLength reg id payload → IsExt reg e id payload → ⊥
no_index reg (ext.Handshake v x) id p wrong h = dict_or_donthave reg id (zero reg id h.named) wrong.named
no_index reg (ext.Metadata v x) id p wrong h = dict_or_donthave reg id (of_metadata reg id h.named) wrong.named
no_index reg (ext.DontHave i) id p wrong h = wrong.size (ap length h.spelled)
no_index reg (ext.Raw i q) id p wrong h = donthave_or_raw reg i id wrong.named h.named

-- and no payload is both
pub not_both : (reg : Registered) (id at : ℕ) (payload : List ℕ) → HasNoDict reg id payload at → HasWrongLength reg id payload → ⊥
not_both reg id at p none wrong = dict_or_donthave reg id none.needed wrong.named
