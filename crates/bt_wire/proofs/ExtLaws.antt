-- Extended payloads: the places of their faults are within them, and what the rules' first reason says.
use Rattle.std.proofs.Common.{◌≡◌, ℕ, ◌+◌, ◌≤◌, Bool, true, false, cond, not, List, [], ◌∷◌, ◌++◌, length, Option, Some, None, ap, subst, arith}
use Rattle.std.specs.Prelude.{IfSome, ⊤}
use Rattle.std.proofs.lemmas.List.{length-append}
use Rattle.bt_bencode.specs.Trees.{Tree, integer, string, list, dictionary, Trees, no_trees, tree, Pairs, no_pairs, pair}
use Rattle.bt_bencode.specs.Bencoding.{ben, ben_all, ben_pairs, ben_string}
use Rattle.bt_bencode.specs.Keys.{is_above, first_of_two, unsorted, unsorted_all, unsorted_pairs}
use Rattle.bt_bencode.specs.Views.{tree_of}
use Rattle.bt_ext.specs.declared.ids.Registered.{Registered}
use Rattle.bt_ext.specs.declared.ids.Rules.{Rules}
use Rattle.bt_ext.specs.declared.ids.Rules.TheVariants as rules
use Rattle.bt_ext.specs.declared.ext.Ext.{Ext}
use Rattle.bt_ext.specs.declared.ext.Ext.TheVariants as ext
use Rattle.bt_ext.specs.declared.ext.ViewError.{ViewError}
use Rattle.bt_ext.specs.declared.ext.ViewError.TheVariants as error
use Rattle.bt_ext.specs.Metadata.{kind_of, is_block_ok, is_malformed}
use Rattle.bt_ext.specs.Fields.{has_bad_field}
use Rattle.bt_ext.specs.Payloads.{payload_of}
use Rattle.bt_ext.specs.Faults.{first_of, fault_if, unsorted_fault, fault_of, Refuses, HasFault}
use Rattle.bt_wire.specs.Parts.{place_in}

-- ---- a key out of order stands within the tree's spelling

abbrev Within : Option ℕ → ℕ → Type 0
Within o n = IfSome o (λ k. k ≤ n)

two_within : (o p : Option ℕ) (k a b n : ℕ) → Within o a → Within p b → a ≤ n → k + b ≤ n → Within (first_of_two o k p) n
two_within None None k a b n h g le l = tt
two_within None (Some j) k a b n h g le l = omega arith
two_within (Some i) p k a b n h g le l = omega arith

pair_within : (t : Bool) (o : Option ℕ) (n : ℕ) → Within o n → Within (cond t o (Some 0)) n
pair_within true o n h = h
pair_within false o n h = omega arith

mutual
  within : (t : Tree) → Within (unsorted t) (length (ben t))
  within (integer z) = tt
  within (string s) = tt
  within (list ts) = two_within None (unsorted_all ts) 1 0 (length (ben_all ts)) (length (ben (list ts))) tt (within_all ts) (omega arith)
      (omega (arith, length-append (ben_all ts) (101 ∷ [])))
  within (dictionary ps) = two_within None (unsorted_pairs None ps) 1 0 (length (ben_pairs ps)) (length (ben (dictionary ps))) tt (within_pairs None ps)
      (omega arith) (omega (arith, length-append (ben_pairs ps) (101 ∷ [])))

  within_all : (ts : Trees) → Within (unsorted_all ts) (length (ben_all ts))
  within_all no_trees = tt
  within_all (tree t ts) = two_within (unsorted t) (unsorted_all ts) (length (ben t)) (length (ben t)) (length (ben_all ts)) (length (ben_all (tree t ts)))
      (within t) (within_all ts) (omega (arith, length-append (ben t) (ben_all ts))) (omega (arith, length-append (ben t) (ben_all ts)))

  within_pairs : (last : Option (List ℕ)) (ps : Pairs) → Within (unsorted_pairs last ps) (length (ben_pairs ps))
  within_pairs last no_pairs = tt
  within_pairs last (pair k t ps) =
      let key : ℕ = length (ben_string k) in
      let all : length (ben_pairs (pair k t ps)) ≡ key + (length (ben t) + length (ben_pairs ps)) =
      omega (arith, length-append (ben_string k) (ben t ++ ben_pairs ps), length-append (ben t) (ben_pairs ps)) in
      pair_within (is_above last k) _ _ (two_within None (first_of_two (unsorted t) (length (ben t)) (unsorted_pairs (Some k) ps)) key 0
      (length (ben t) + length (ben_pairs ps)) (length (ben_pairs (pair k t ps))) tt
      (two_within (unsorted t) (unsorted_pairs (Some k) ps) (length (ben t)) (length (ben t)) (length (ben_pairs ps))
      (length (ben t) + length (ben_pairs ps)) (within t) (within_pairs (Some k) ps) (omega arith) (omega arith))
      (omega arith) (omega (arith, all)))

more : (o : Option ℕ) (a n : ℕ) → Within o a → a ≤ n → Within o n
more None a n h le = tt
more (Some k) a n h le = omega arith

-- ---- so do all faults of a payload

-- a fault is one of the value's
abbrev IsPlaced : ℕ → Option ViewError → Type 0
IsPlaced n None = ⊤
IsPlaced n (Some f) = place_in f ≤ n

first_placed : (n : ℕ) (a b : Option ViewError) → IsPlaced n a → IsPlaced n b → IsPlaced n (first_of a b)
first_placed n None b h g = g
first_placed n (Some f) b h g = h

if_placed : (n : ℕ) (t : Bool) (f : ViewError) → place_in f ≤ n → IsPlaced n (fault_if t f)
if_placed n true f le = le
if_placed n false f le = tt

unsorted_placed : (n : ℕ) (o : Option ℕ) → Within o n → IsPlaced n (unsorted_fault o)
unsorted_placed n None h = tt
unsorted_placed n (Some at) h = h

fault_placed : (r : Rules) (e : Ext) → IsPlaced (length (payload_of e)) (fault_of r e)
fault_placed rules.Free e = tt
fault_placed rules.Bep (ext.DontHave index) = tt
fault_placed rules.Bep (ext.Raw id payload) = tt
fault_placed rules.Bep (ext.Handshake dict rest) =
    let t = tree_of dict in
    let le : length (ben t) ≤ length (ben t ++ rest) = omega (arith, length-append (ben t) rest) in
    first_placed _ (unsorted_fault (unsorted t)) _ (unsorted_placed _ (unsorted t) (more (unsorted t) (length (ben t)) _ (within t) le))
    (if_placed _ (has_bad_field t) error.BadField (omega arith))
fault_placed rules.Bep (ext.Metadata dict rest) =
    let t = tree_of dict in
    let le : length (ben t) ≤ length (ben t ++ rest) = omega (arith, length-append (ben t) rest) in
    first_placed _ (unsorted_fault (unsorted t)) _ (unsorted_placed _ (unsorted t) (more (unsorted t) (length (ben t)) _ (within t) le))
    (first_placed _ (fault_if (is_malformed (kind_of t)) error.BadField) _ (if_placed _ (is_malformed (kind_of t)) error.BadField (omega arith))
    (if_placed _ (not (is_block_ok (kind_of t) (length rest))) (error.BadBlock (length (ben t))) le))

has_placed : (reg : Registered) (r : Rules) (id : ℕ) (p : List ℕ) (f : ViewError) → HasFault reg r id p f → place_in f ≤ length p
has_placed reg r id p f h =
    let P : Option ViewError → Type 0 = λ o. IsPlaced (length (payload_of h.value)) o in
    let le : place_in f ≤ length (payload_of h.value) = subst P h.faulty (fault_placed r h.value) in
    omega (arith, le, ap length h.is.spelled)

pub refused_within : (reg : Registered) (r : Rules) (id : ℕ) (p : List ℕ) (f : ViewError) → Refuses reg r id p f → place_in f ≤ length p
refused_within reg r id p error.BadExtLength h = omega arith
refused_within reg r id p (error.BadBencode at) h = h.place.within
refused_within reg r id p (error.Unsorted at) h = has_placed reg r id p (error.Unsorted at) h
refused_within reg r id p error.BadField h = omega arith
refused_within reg r id p (error.BadBlock at) h = has_placed reg r id p (error.BadBlock at) h

-- ---- the first reason

-- a value's fault is none of its bencoding or its length
abbrev pub IsOfValue : Option ViewError → Type 0
IsOfValue None = ⊤
IsOfValue (Some error.BadExtLength) = ⊥
IsOfValue (Some (error.BadBencode at)) = ⊥
IsOfValue (Some (error.Unsorted at)) = ⊤
IsOfValue (Some error.BadField) = ⊤
IsOfValue (Some (error.BadBlock at)) = ⊤

first_value : (a b : Option ViewError) → IsOfValue a → IsOfValue b → IsOfValue (first_of a b)
first_value None b h g = g
first_value (Some f) b h g = h

if_value : (t : Bool) (f : ViewError) → IsOfValue (Some f) → IsOfValue (fault_if t f)
if_value true f h = h
if_value false f h = tt

unsorted_value : (o : Option ℕ) → IsOfValue (unsorted_fault o)
unsorted_value None = tt
unsorted_value (Some at) = tt

pub fault_of_value : (r : Rules) (e : Ext) → IsOfValue (fault_of r e)
fault_of_value rules.Free e = tt
fault_of_value rules.Bep (ext.DontHave index) = tt
fault_of_value rules.Bep (ext.Raw id payload) = tt
fault_of_value rules.Bep (ext.Handshake dict rest) =
    let t = tree_of dict in
    first_value (unsorted_fault (unsorted t)) _ (unsorted_value (unsorted t)) (if_value (has_bad_field t) error.BadField tt)
fault_of_value rules.Bep (ext.Metadata dict rest) =
    let t = tree_of dict in
    first_value (unsorted_fault (unsorted t)) _ (unsorted_value (unsorted t))
    (first_value (fault_if (is_malformed (kind_of t)) error.BadField) _ (if_value (is_malformed (kind_of t)) error.BadField tt)
    (if_value (not (is_block_ok (kind_of t) (length rest))) (error.BadBlock (length (ben t))) tt))
