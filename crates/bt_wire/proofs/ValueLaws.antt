-- Why a value may not be sent.
use Rattle.std.proofs.Common.{◌≡◌, ℕ, ◌^◌, ◌≤◌, ◌<◌, List, [], ◌++◌, map, length, Option, Some, None, refl, sym, ap, subst, ◌∙◌, arith, inr, true}
use Rattle.std.proofs.lemmas.List.{append-nil}
use Rattle.std.specs.Prelude.{MatchOption, option_and_then, option_map}
use Rattle.bt_ext.specs.declared.ext.Ext.{Ext}
use Rattle.bt_ext.specs.declared.ext.ViewError.{ViewError}
use Rattle.bt_ext.specs.declared.ext.ViewError.TheVariants as error
use Rattle.bt_ext.specs.declared.ext.ExtReason.{ExtReason}
use Rattle.bt_ext.specs.declared.ext.ExtReason.TheVariants as reason
use Rattle.bt_ext.specs.declared.ids.Registered.{Registered}
use Rattle.bt_ext.specs.declared.ids.Rules.{Rules}
use Rattle.bt_ext.specs.Payloads.{IsExt, HasSpelling}
use Rattle.bt_ext.specs.Faults.{Allows, fault_of, reason_by, reason_of}
use Rattle.bt_ext.specs.Faults as ext
use Rattle.bt_ext.proofs.Allowed.{allowed, faultless}
use Rattle.bt_wire.specs.declared.fault.Reason.{Reason}
use Rattle.bt_wire.specs.declared.context.Context.{Context}
use Rattle.bt_wire.specs.declared.context.Order.{Order}
use Rattle.bt_wire.specs.declared.fault.Refused.{Refused}
use Rattle.bt_wire.specs.Messages.{Message}
use Rattle.bt_wire.specs.declared.message.Message.TheVariants as m
use Rattle.bt_wire.specs.Ids.{kind_of}
use Rattle.bt_wire.specs.Messages.{Fields, id_of, fields_of, body, spell, IsShaped, AreInRange, IsIdInRange, IsInRange}
use Rattle.bt_wire.specs.Tables.{first_fault}
use Rattle.bt_wire.specs.Faults.{is_strict, is_whole, has_id, window, id_rules, id_row, header_fault, said_ext_id, said_payload, placed_by, index_fault}
use Rattle.bt_wire.specs.Faults.{IsWindowFault, in_fields, in_payload, in_bytes, in_index, IsFault, early, whole}
use Rattle.bt_wire.specs.Legal.{IsLegal, IsAllowed, IsRefusedFor}
use Rattle.bt_wire.specs.Rules.{broken_any}
use Rattle.bt_wire.specs.Parts.{broken_field, reason_from, IsJudged, IsJudgedExt, fine, beyond, faulty}
use Rattle.bt_wire.proofs.RuleLaws.{AreKept, unbroken, unbroken_kept, none_broken, legal_unbroken, fields_sound, sound_fields}
use Rattle.bt_wire.proofs.RowLaws.{first_fault-none}
use Rattle.bt_wire.proofs.HeaderLaws.{none_by_id, id_empty}
use Rattle.bt_wire.proofs.SpellLaws.{said_length-spell, spelled_first, right_row, spelled_ext}
use Rattle.bt_wire.proofs.ExtLaws.{IsOfValue, fault_of_value}
use Rattle.bt_wire.proofs.WindowLaws.{fine_index, index_fine, early_header, never, no_body, broken-spell, limited-spell, rows-spell, id_spell, extended_rows}

-- ---- what the rules on the id say

keep_alive_kept : (c : Context) (o : Order) (msg : Message) → id_of msg ≡ None → AreKept c o msg
keep_alive_kept c o m.KeepAlive e = record {
  agreed = refl;
  sized = tt;
  known = never (is_strict c);
  in_time = never (is_strict c);
  opened = never (is_strict c);
}
keep_alive_kept c o msg e = absurd cc

kept_in : (c : Context) (o : Order) (m : Message) (i : Option ℕ) → IsShaped c m → id_of m ≡ i → broken_any c o i (length (body c m)) ≡ None → AreKept c o m
kept_in c o m None shaped e none = keep_alive_kept c o m e
kept_in c o m (Some n) shaped e none = unbroken_kept c o m n (right_row c m n shaped e) e (unbroken c o (kind_of n) (length (body c m)) none)

pub kept_by : (c : Context) (o : Order) (m : Message) → IsShaped c m → broken_any c o (id_of m) (length (body c m)) ≡ None → AreKept c o m
kept_by c o m shaped none = kept_in c o m (id_of m) shaped refl none

-- a value whose rules are kept may be sent
pub legal_by : (c : Context) (o : Order) (m : Message) → IsShaped c m → length (body c m) ≤ c.limit → AreKept c o m
    → broken_field c.pieces (length (body c m)) (fields_of c m) ≡ None → IsAllowed c m → IsLegal c o m
legal_by c o m shaped short kept none allowed =
    let sound = fields_sound c.pieces (length (body c m)) (fields_of c m) none in
    record {
      shaped = shaped;
      short = short;
      agreed = kept.agreed;
      indexed = sound.indexed;
      sized = kept.sized;
      spare = sound.spare;
      known = kept.known;
      in_time = kept.in_time;
      opened = kept.opened;
      allowed = allowed;
    }

-- ---- one that breaks a rule may not

illegal_in : (c : Context) (o : Order) (m : Message) (i : Option ℕ) (f : Refused) → id_of m ≡ i → broken_any c o i (length (body c m)) ≡ Some f
    → IsLegal c o m → ⊥
illegal_in c o m None f e broken legal = absurd cc
illegal_in c o m (Some n) f e broken legal =
    let none = none_broken c o (kind_of n) (length (body c m)) (legal_unbroken c o m n (right_row c m n legal.shaped e) e legal) in
    absurd (let bad = sym none ∙ broken in cc)

pub illegal_id : (c : Context) (o : Order) (m : Message) (f : Refused) → broken_any c o (id_of m) (length (body c m)) ≡ Some f → IsLegal c o m → ⊥
illegal_id c o m f broken legal = illegal_in c o m (id_of m) f refl broken legal

pub illegal_fields : (c : Context) (o : Order) (m : Message) (n : ℕ) (f : Refused) → broken_field c.pieces n (fields_of c m) ≡ Some f → IsLegal c o m → ⊥
illegal_fields c o m n f broken legal = absurd (let bad = sym (sound_fields c.pieces n (fields_of c m) legal.indexed legal.spare) ∙ broken in cc)

-- ---- and its spelling has that fault

rows_in : (c : Context) (o : Order) (m : Message) (i : Option ℕ) (f : Option Refused) → length (body c m) < 2 ^ 32 → id_of m ≡ i
    → broken_any c o i (length (body c m)) ≡ f → first_fault (map (id_row c o (spell c m ++ [])) id_rules) ≡ f
rows_in c o m None f lt e broken = first_fault-none (map (id_row c o (spell c m ++ [])) id_rules)
    (none_by_id c o (spell c m ++ []) id_rules (id_empty (spell c m ++ []) (said_length-spell c m [] lt ∙ no_body c m e))) ∙ broken
rows_in c o m (Some n) f lt e broken = broken-spell c o m [] n lt e ∙ broken

header_of_value : (c : Context) (o : Order) (m : Message) (f : Option Refused) → length (body c m) < 2 ^ 32 → length (body c m) ≤ c.limit
    → broken_any c o (id_of m) (length (body c m)) ≡ f → header_fault c o (spell c m) ≡ f
header_of_value c o m f lt short broken = ap (header_fault c o) (sym (append-nil (spell c m))) ∙ limited-spell c o m [] lt short
    ∙ rows_in c o m (id_of m) f lt refl broken

pub refused_id : (c : Context) (o : Order) (m : Message) (f : Refused) → length (body c m) < 2 ^ 32 → length (body c m) ≤ c.limit
    → broken_any c o (id_of m) (length (body c m)) ≡ Some f → IsFault c o 0 (spell c m) (Some f)
refused_id c o m f lt short broken = early f (early_header c o 0 (spell c m) (omega arith) ∙ header_of_value c o m (Some f) lt short broken) refl

whole_value : (c : Context) (o : Order) (m : Message) (f : Option Refused) → length (body c m) < 2 ^ 32 → length (body c m) ≤ c.limit
    → broken_any c o (id_of m) (length (body c m)) ≡ None → IsWindowFault c (spell c m) f → IsFault c o 0 (spell c m) f
whole_value c o m f lt short none p =
    let first = spelled_first c m [] lt in
    let here = append-nil (spell c m) in
    let P : List ℕ → Type 0 = λ x. IsWindowFault c x f in
    whole (early_header c o 0 (spell c m) (omega arith) ∙ header_of_value c o m None lt short none) (ap is_whole (sym here) ∙ first.whole)
    (subst P (sym (ap window (sym here) ∙ first.window)) p)

pub refused_fields : (c : Context) (o : Order) (m : Message) (f : Refused) → IsShaped c m → IsInRange c m → length (body c m) < 2 ^ 32
    → length (body c m) ≤ c.limit → broken_any c o (id_of m) (length (body c m)) ≡ None
    → broken_field c.pieces (length (body c m)) (fields_of c m) ≡ Some f → IsFault c o 0 (spell c m) (Some f)
refused_fields c o m f shaped range lt short none broken = whole_value c o m (Some f) lt short none (in_fields f (rows-spell c m shaped range lt ∙ broken) refl)

-- ---- what the rules say of an extended value

value_refused : (reg : Registered) (r : Rules) (e : Ext) (id : ℕ) (p : List ℕ) (f : ViewError) → IsExt reg e id p → fault_of r e ≡ Some f
    → ext.Refuses reg r id p f
value_refused reg r e id p error.BadExtLength x h = let P : Option ViewError → Type 0 = λ o. IsOfValue o in absurd (subst P h (fault_of_value r e))
value_refused reg r e id p (error.BadBencode at) x h = let P : Option ViewError → Type 0 = λ o. IsOfValue o in absurd (subst P h (fault_of_value r e))
value_refused reg r e id p (error.Unsorted at) x h = record { value = e; is = x; faulty = h }
value_refused reg r e id p error.BadField x h = record { value = e; is = x; faulty = h }
value_refused reg r e id p (error.BadBlock at) x h = record { value = e; is = x; faulty = h }

ext_refused : (c : Context) (o : Order) (e : Ext) (f : ViewError) → HasSpelling c.reg e → length (body c (m.Extended e)) < 2 ^ 32
    → length (body c (m.Extended e)) ≤ c.limit → broken_any c o (Some 20) (length (body c (m.Extended e))) ≡ None
    → fault_of c.rules e ≡ Some f → IsFault c o 0 (spell c (m.Extended e)) (Some (placed_by f))
ext_refused c o e f shaped lt short none h =
    let w = spell c (m.Extended e) in
    let there : has_id w ≡ true = ap has_id (sym (append-nil w)) ∙ id_spell c (m.Extended e) [] 20 lt refl in
    whole_value c o (m.Extended e) (Some (placed_by f)) lt short none
    (in_payload (extended_rows c w refl) (rw there refl) (in_bytes f (value_refused c.reg c.rules e (said_ext_id w) (said_payload w) f
    (spelled_ext c.reg e shaped) h) refl))

-- an index that isn't below the known piece count
index_refused : (c : Context) (o : Order) (e : Ext) (f : Refused) → HasSpelling c.reg e → length (body c (m.Extended e)) < 2 ^ 32
    → length (body c (m.Extended e)) ≤ c.limit → broken_any c o (Some 20) (length (body c (m.Extended e))) ≡ None
    → Allows c.rules e → index_fault c.pieces e ≡ Some f → IsFault c o 0 (spell c (m.Extended e)) (Some f)
index_refused c o e f shaped lt short none allowed h =
    let w = spell c (m.Extended e) in
    let there : has_id w ≡ true = ap has_id (sym (append-nil w)) ∙ id_spell c (m.Extended e) [] 20 lt refl in
    whole_value c o (m.Extended e) (Some f) lt short none
    (in_payload (extended_rows c w refl) (rw there refl) (in_index e (record { is = spelled_ext c.reg e shaped; allowed = allowed }) (sym h)))

-- the rules' answer on a value of which nothing else is wrong
record IsAnswered (c : Context) (o : Order) (msg : Message) (r : Reason) : Type 0 where
  pub illegal : IsLegal c o msg → ⊥
  pub refused : (at : ℕ) × IsFault c o 0 (spell c msg) (Some (record { at = at; reason = r }))

answered : (c : Context) (o : Order) (msg : Message) (r : Reason) → IsShaped c msg → length (body c msg) < 2 ^ 32 → length (body c msg) ≤ c.limit
    → broken_any c o (id_of msg) (length (body c msg)) ≡ None → IsJudged c msg (Some r) → IsAnswered c o msg r
answered c o (m.Extended e) r shaped lt short none (fine a i is) = absurd cc
answered c o (m.Extended e) r shaped lt short none (beyond f a i is) =
    let P : Reason → Type 0 = λ x. IsFault c o 0 (spell c (m.Extended e)) (Some (record { at = f.at; reason = x })) in
    let same : f.reason ≡ r = cc in
    record {
      illegal = λ legal. absurd (let none = index_fine c.pieces e legal.allowed.1 in let bad = sym none ∙ i in cc);
      refused = (f.at, subst P same (index_refused c o e f shaped lt short none a i));
    }
answered c o (m.Extended e) r shaped lt short none (faulty f h is) =
    let P : Reason → Type 0 = λ x. IsFault c o 0 (spell c (m.Extended e)) (Some (record { at = (placed_by f).at; reason = x })) in
    let same : (placed_by f).reason ≡ r = cc in
    record {
      illegal = λ legal. absurd (let clean = faultless c.rules e legal.allowed.0 in let bad = sym clean ∙ h in cc);
      refused = ((placed_by f).at, subst P same (ext_refused c o e f shaped lt short none h));
    }
answered c o msg r shaped lt short none j = absurd cc

allowed_by : (c : Context) (msg : Message) → IsJudged c msg None → IsAllowed c msg
allowed_by c (m.Extended e) (fine a i is) = (a, fine_index c.pieces e i)
allowed_by c (m.Extended e) (beyond f a i is) = absurd cc
allowed_by c (m.Extended e) (faulty f h is) = absurd cc
allowed_by c msg j = tt

pub judged : (c : Context) (o : Order) (msg : Message) (r : Option Reason) → IsShaped c msg → length (body c msg) < 2 ^ 32 → length (body c msg) ≤ c.limit
    → broken_any c o (id_of msg) (length (body c msg)) ≡ None → broken_field c.pieces (length (body c msg)) (fields_of c msg) ≡ None
    → IsJudged c msg r → MatchOption r (IsLegal c o msg) (λ reason. (IsLegal c o msg → ⊥) × IsRefusedFor c o msg reason)
judged c o msg None shaped lt short none fields j = legal_by c o msg shaped short (kept_by c o msg shaped none) fields (allowed_by c msg j)
judged c o msg (Some r) shaped lt short none fields j = let a = answered c o msg r shaped lt short none j in (a.illegal, inr (lt, a.refused))

-- no reason is given where the rules allow the value
no_reason : (f : Option ViewError) → IsOfValue f → None ≡ option_and_then reason_by f → f ≡ None
no_reason None v h = refl
no_reason (Some error.BadExtLength) v h = absurd v
no_reason (Some (error.BadBencode at)) v h = absurd v
no_reason (Some (error.Unsorted at)) v h = absurd cc
no_reason (Some error.BadField) v h = absurd cc
no_reason (Some (error.BadBlock at)) v h = absurd cc

pub unrefused : (r : Rules) (e : Ext) → None ≡ reason_of r e → Allows r e
unrefused r e h = allowed r e (no_reason (fault_of r e) (fault_of_value r e) h)

-- the reason of an index
index_by : (c : Context) (e : Ext) (r : Option Reason) (o : Option Refused) → Allows c.rules e → index_fault c.pieces e ≡ o
    → r ≡ option_map (λ (f : Refused). f.reason) o → IsJudgedExt c e r
index_by c e r None a i h = fine a i h
index_by c e r (Some f) a i h = beyond f a i h

pub index_judged : (c : Context) (e : Ext) (r : Option Reason) → None ≡ reason_of c.rules e
    → r ≡ option_map (λ (f : Refused). f.reason) (index_fault c.pieces e) → IsJudgedExt c e r
index_judged c e r none h = index_by c e r (index_fault c.pieces e) (unrefused c.rules e none) refl h

-- and that of the rules
judged_by : (c : Context) (e : Ext) (f : Option ViewError) (x : ExtReason) → fault_of c.rules e ≡ f → Some x ≡ option_and_then reason_by f
    → IsJudgedExt c e (Some (reason_from x))
judged_by c e None x is h = absurd cc
judged_by c e (Some error.BadExtLength) x is h = absurd cc
judged_by c e (Some (error.BadBencode at)) x is h = absurd cc
judged_by c e (Some (error.Unsorted at)) x is h =
    let same : x ≡ reason.Unsorted = cc in faulty (error.Unsorted at) is (ap (λ (y : ExtReason). Some (reason_from y)) same)
judged_by c e (Some error.BadField) x is h =
    let same : x ≡ reason.BadField = cc in faulty error.BadField is (ap (λ (y : ExtReason). Some (reason_from y)) same)
judged_by c e (Some (error.BadBlock at)) x is h =
    let same : x ≡ reason.BadBlock = cc in faulty (error.BadBlock at) is (ap (λ (y : ExtReason). Some (reason_from y)) same)

pub reason_judged : (c : Context) (e : Ext) (x : ExtReason) (r : Reason) → Some x ≡ reason_of c.rules e → r ≡ reason_from x → IsJudgedExt c e (Some r)
reason_judged c e x r h is =
    let P : Reason → Type 0 = λ s. IsJudgedExt c e (Some s) in
    subst P (sym is) (judged_by c e (fault_of c.rules e) x refl h)

-- ---- what calls gave

pub same_id : (c : Context) (o : Order) (m : Message) (n : ℕ) (i : Option ℕ) (r : Option Refused) → n ≡ length (body c m) → i ≡ id_of m → r
    ≡ broken_any c o i n → broken_any c o (id_of m) (length (body c m)) ≡ r
same_id c o m n i r size id e = ap (broken_any c o (id_of m)) (sym size) ∙ ap (λ (k : Option ℕ). broken_any c o k n) (sym id) ∙ sym e

pub same_field : (c : Context) (m : Message) (n : ℕ) (f : Fields) (r : Option Refused) → n ≡ length (body c m) → f ≡ fields_of c m → r
    ≡ broken_field c.pieces n f → broken_field c.pieces (length (body c m)) (fields_of c m) ≡ r
same_field c m n f r size fields e = ap (λ (k : ℕ). broken_field c.pieces k (fields_of c m)) (sym size) ∙ ap (broken_field c.pieces n) (sym fields) ∙ sym e

pub in_range : (c : Context) (m : Message) (i : Option ℕ) (f : Fields) → i ≡ id_of m → IsIdInRange i → f ≡ fields_of c m → AreInRange f → IsInRange c m
in_range c m i f id small fields range =
    let P : Option ℕ → Type 0 = λ k. IsIdInRange k in
    let Q : Fields → Type 0 = λ g. AreInRange g in
    record { id = subst P id small; fields = subst Q fields range }
