-- A legal message stays legal in a context that differs in what it doesn't use; and a message is judged one way.
use Rattle.std.proofs.Common.{◌≡◌, ℕ, suc, ◌^◌, ◌<◌, ◌≤◌, ◌⊎◌, inl, inr, Bool, true, false, ◌&&◌, ◌||◌, eqb, if◌then◌else◌, List, [], ◌++◌, length, Option}
use Rattle.std.proofs.Common.{Some, None, refl, sym, ap, subst, ◌∙◌, arith}
use Rattle.std.proofs.lemmas.Bool.{le-leb}
use Rattle.std.proofs.lemmas.List.{append-nil}
use Rattle.std.specs.Prelude.{IfSome, IsSome, unwrap_or}
use Rattle.bt_ext.specs.Ids.{metadata_id, donthave_id, is_id, is_metadata, is_donthave}
use Rattle.bt_ext.specs.Payloads.{ext_id, index_of, payload_of}
use Rattle.bt_ext.specs.declared.ext.Ext.{Ext}
use Rattle.bt_ext.specs.declared.ext.Ext.TheVariants as ext
use Rattle.bt_ext.specs.declared.ids.Registered.{Registered}
use Rattle.bt_wire.specs.declared.context.Context.{Context}
use Rattle.bt_wire.specs.declared.context.Order.{Order}
use Rattle.bt_wire.specs.Messages.{Message}
use Rattle.bt_wire.specs.declared.message.Message.TheVariants as m
use Rattle.bt_wire.specs.declared.fault.Fault.TheVariants as fault
use Rattle.bt_wire.specs.declared.fault.Reason.{Reason}
use Rattle.bt_wire.specs.declared.fault.Refused.{Refused}
use Rattle.bt_wire.specs.Bitfields.{has_spare}
use Rattle.bt_wire.specs.Contexts.{UsesNoMetadataId, UsesNoDontHaveId, piece_in, PiecesSuit, IdsSuit, moved, LegalElsewhere, LegalIsNotRefused, RefusalIsOne}
use Rattle.bt_wire.specs.Faults.{allows, field_size, is_beyond, is_index_beyond, is_strict}
use Rattle.bt_wire.specs.Faults.{IsFault}
use Rattle.bt_wire.specs.Legal.{IsLegal, IsAllowed, IsRefusedFor}
use Rattle.bt_wire.specs.Messages.{Fields, extended, fields_of, index_in, field_in, is_payload, id_of, framed, spell_fields, spell, IsShaped, IsInRange}
use Rattle.bt_wire.specs.Numbers.{be32}
use Rattle.bt_wire.proofs.WindowLaws.{one_fault, fault-spell}

-- ---- the fields are the same

off : (b : Bool) → (b ≡ false) ⊎ (b ≡ false) → b ≡ false
off b (inl e) = e
off b (inr e) = e

-- an id that had no meaning has none where each test gives what it gave, or false
raw_id : (zero m d m' d' : Bool) (id : ℕ) → IsSome (if (zero || m) || d then None else Some id) → (m' ≡ m) ⊎ (m' ≡ false) → (d' ≡ d) ⊎ (d' ≡ false)
    → (if (zero || m') || d' then None else Some id) ≡ (if (zero || m) || d then None else Some id)
raw_id true m d m' d' id h e f = absurd cc
raw_id false true d m' d' id h e f = absurd cc
raw_id false false true m' d' id h e f = absurd cc
raw_id false false false m' d' id h e f = rw (off m' e, off d' f) refl

-- an id's test is the same, or false
suits : (new old : Option ℕ) (id : ℕ) → (new ≡ old) ⊎ (is_id new id ≡ false) → (is_id new id ≡ is_id old id) ⊎ (is_id new id ≡ false)
suits new old id (inl same) = inl (ap (λ (o : Option ℕ). is_id o id) same)
suits new old id (inr other) = inr other

same_or : (a b : Option ℕ) → (a ≡ b) ⊎ ⊥ → a ≡ b
same_or a b (inl e) = e
same_or a b (inr h) = absurd h

same_id : (old new : Registered) (e : Ext) → IsSome (ext_id old e) → (metadata_id new ≡ metadata_id old) ⊎ UsesNoMetadataId new (m.Extended e)
    → (donthave_id new ≡ donthave_id old) ⊎ UsesNoDontHaveId new (m.Extended e) → ext_id new e ≡ ext_id old e
same_id old new (ext.Handshake dict rest) h s t = refl
same_id old new (ext.Metadata dict rest) h s t = same_or (metadata_id new) (metadata_id old) s
same_id old new (ext.DontHave index) h s t = same_or (donthave_id new) (donthave_id old) t
same_id old new (ext.Raw id payload) h s t =
    raw_id (eqb id 0) (is_metadata old id) (is_donthave old id) (is_metadata new id) (is_donthave new id) id h
    (suits (metadata_id new) (metadata_id old) id s) (suits (donthave_id new) (donthave_id old) id t)

same_fields : (c : Context) (msg : Message) (p : Option ℕ) (r : Registered) → IsShaped c msg → IdsSuit c msg r → fields_of (moved c p r) msg ≡ fields_of c msg
same_fields c (m.Extended e) p r shaped s = ap (λ (o : Option ℕ). extended (unwrap_or o 0) (payload_of e)) (same_id c.reg r e shaped.0 s.metadata s.donthave)
same_fields c m.KeepAlive p r shaped s = refl
same_fields c m.Choke p r shaped s = refl
same_fields c m.Unchoke p r shaped s = refl
same_fields c m.Interested p r shaped s = refl
same_fields c m.NotInterested p r shaped s = refl
same_fields c (m.Have i) p r shaped s = refl
same_fields c (m.Bitfield bits) p r shaped s = refl
same_fields c (m.Request i b l) p r shaped s = refl
same_fields c (m.Piece i b bytes) p r shaped s = refl
same_fields c (m.Cancel i b l) p r shaped s = refl
same_fields c (m.Port n) p r shaped s = refl
same_fields c (m.Suggest i) p r shaped s = refl
same_fields c m.HaveAll p r shaped s = refl
same_fields c m.HaveNone p r shaped s = refl
same_fields c (m.Reject i b l) p r shaped s = refl
same_fields c (m.AllowedFast i) p r shaped s = refl
same_fields c (m.Unknown n bytes) p r shaped s = refl

same_shape : (c : Context) (msg : Message) (p : Option ℕ) (r : Registered) → IsShaped c msg → IdsSuit c msg r → IsShaped (moved c p r) msg
same_shape c (m.Extended e) p r shaped s = (subst (λ (o : Option ℕ). IsSome o) (sym (same_id c.reg r e shaped.0 s.metadata s.donthave)) shaped.0, shaped.1)
same_shape c (m.Unknown n bytes) p r shaped s = shaped
same_shape c other p r shaped s = tt

-- ---- the pieces

no_index : (o : Option ℕ) → IfSome o (λ index. is_beyond None index ≡ false)
no_index None = tt
no_index (Some i) = refl

no_size : (o : Option (List ℕ)) → IfSome o (λ bits. allows (field_size None) (suc (length bits)) ≡ true)
no_size None = tt
no_size (Some bits) = le-leb 1 (suc (length bits)) (omega arith)

no_spare : (o : Option (List ℕ)) → IfSome o (λ bits. has_spare None bits ≡ false)
no_spare None = tt
no_spare (Some bits) = refl

record KeepsPieces (p : Option ℕ) (f : Fields) : Type 0 where
  indexed : IfSome (index_in f) (λ index. is_beyond p index ≡ false)
  sized : IfSome (field_in f) (λ bits. allows (field_size p) (suc (length bits)) ≡ true)
  spare : IfSome (field_in f) (λ bits. has_spare p bits ≡ false)

-- a message without a piece index has none in its fields
index_by : (c : Context) (msg : Message) → piece_in c msg ≡ None → index_in (fields_of c msg) ≡ None
index_by c (m.Extended e) h = refl
index_by c msg h = h

-- the index of an extended value, where the piece count changes so
none_beyond : (o : Option ℕ) → is_index_beyond None o ≡ false
none_beyond None = refl
none_beyond (Some i) = refl

same_beyond : (c : Context) (e : Ext) (p : Option ℕ) → PiecesSuit c (m.Extended e) p → is_index_beyond c.pieces (index_of e) ≡ false
    → is_index_beyond p (index_of e) ≡ false
same_beyond c e p (inl same) h = subst (λ (o : Option ℕ). is_index_beyond o (index_of e) ≡ false) (sym same) h
same_beyond c e p (inr (inl none)) h = subst (λ (o : Option ℕ). is_index_beyond o (index_of e) ≡ false) (sym none) (none_beyond (index_of e))
same_beyond c e p (inr (inr plain)) h = subst (λ (o : Option ℕ). is_index_beyond p o ≡ false) (sym plain.0) refl

keeps : (c : Context) (msg : Message) (p : Option ℕ) → KeepsPieces c.pieces (fields_of c msg) → PiecesSuit c msg p → KeepsPieces p (fields_of c msg)
keeps c msg p k (inl same) = subst (λ (o : Option ℕ). KeepsPieces o (fields_of c msg)) (sym same) k
keeps c msg p k (inr (inl none)) =
    subst (λ (o : Option ℕ). KeepsPieces o (fields_of c msg)) (sym none) (record {
      indexed = no_index (index_in (fields_of c msg));
      sized = no_size (field_in (fields_of c msg));
      spare = no_spare (field_in (fields_of c msg));
    })
keeps c msg p k (inr (inr plain)) = record {
  indexed = subst (λ (o : Option ℕ). IfSome o (λ index. is_beyond p index ≡ false)) (sym (index_by c msg plain.0)) tt;
  sized = subst (λ (o : Option (List ℕ)). IfSome o (λ bits. allows (field_size p) (suc (length bits)) ≡ true)) (sym plain.1) tt;
  spare = subst (λ (o : Option (List ℕ)). IfSome o (λ bits. has_spare p bits ≡ false)) (sym plain.1) tt;
}

pub same_spelling : (c : Context) (msg : Message) (p : Option ℕ) (r : Registered) → IsShaped c msg → IdsSuit c msg r → spell (moved c p r) msg ≡ spell c msg
same_spelling c msg p r shaped s =
    ap (λ (f : Fields). be32 (length (framed (id_of msg) (spell_fields f))) ++ framed (id_of msg) (spell_fields f)) (same_fields c msg p r shaped s)

pub legal_elsewhere : LegalElsewhere
legal_elsewhere c o msg p r pieces ids h =
    let f : fields_of (moved c p r) msg ≡ fields_of c msg = same_fields c msg p r h.shaped ids in
    let k : KeepsPieces p (fields_of (moved c p r) msg) =
    subst (λ (x : Fields). KeepsPieces p x) (sym f) (keeps c msg p (record { indexed = h.indexed; sized = h.sized; spare = h.spare }) pieces) in (
      record {
        shaped = same_shape c msg p r h.shaped ids;
        short = subst (λ (x : Fields). length (framed (id_of msg) (spell_fields x)) ≤ c.limit) (sym f) h.short;
        agreed = h.agreed;
        indexed = k.indexed;
        sized = k.sized;
        spare = k.spare;
        known = subst (λ (x : Fields). (is_strict c && is_payload x) ≡ false) (sym f) h.known;
        in_time = h.in_time;
        opened = h.opened;
        allowed = same_allowed msg pieces h.allowed;
      },
      same_spelling c msg p r h.shaped ids,
    )
  where
    same_allowed : (x : Message) → PiecesSuit c x p → IsAllowed c x → IsAllowed (moved c p r) x
    same_allowed (m.Extended e) s a = (a.0, same_beyond c e p s a.1)
    same_allowed other s a = tt

-- ---- one judgement

faultless : (c : Context) (o : Order) (msg : Message) → c.limit < 2 ^ 32 → IsInRange c msg → IsLegal c o msg → IsFault c o 0 (spell c msg) None
faultless c o msg lt range h = subst (λ (b : List ℕ). IsFault c o 0 b None) (append-nil (spell c msg))
    (fault-spell c o 0 msg [] lt (record { in_range = range; legal = h; start = omega arith }))

legal_or_refused : (c : Context) (o : Order) (msg : Message) (reason : Reason) → c.limit < 2 ^ 32 → IsInRange c msg → IsLegal c o msg
    → IsRefusedFor c o msg reason → ⊥
legal_or_refused c o msg reason lt range h (inl long) = omega (arith, h.short, long.0)
legal_or_refused c o msg reason lt range h (inr k) =
    let same = one_fault c o 0 (spell c msg) None (Some (record { at = k.1.0; reason = reason })) (faultless c o msg lt range h) k.1.1 in
    cc

pub legal_is_not_refused : LegalIsNotRefused
legal_is_not_refused c o msg fault.Shape lt range h k = k h.shaped
legal_is_not_refused c o msg (fault.Reason reason) lt range h k = legal_or_refused c o msg reason lt range h k.1

same_reason : (c : Context) (o : Order) (msg : Message) (r s : Reason) → IsRefusedFor c o msg r → IsRefusedFor c o msg s → r ≡ s
same_reason c o msg r s (inl h) (inl k) = h.1 ∙ sym k.1
same_reason c o msg r s (inl h) (inr k) = absurd (omega (arith, h.0, k.0))
same_reason c o msg r s (inr h) (inl k) = absurd (omega (arith, h.0, k.0))
same_reason c o msg r s (inr h) (inr k) =
    let f : Refused = record { at = h.1.0; reason = r } in
    let g : Refused = record { at = k.1.0; reason = s } in
    ap (λ (x : Refused). x.reason) (some_same f g (one_fault c o 0 (spell c msg) (Some f) (Some g) h.1.1 k.1.1))
  where
    some_same : (x y : Refused) → Some x ≡ Some y → x ≡ y
    some_same x y e = cc

pub refusal_is_one : RefusalIsOne
refusal_is_one c o msg fault.Shape fault.Shape h k = refl
refusal_is_one c o msg fault.Shape (fault.Reason s) h k = absurd (h k.0)
refusal_is_one c o msg (fault.Reason r) fault.Shape h k = absurd (k h.0)
refusal_is_one c o msg (fault.Reason r) (fault.Reason s) h k = ap fault.Reason (same_reason c o msg r s h.1 k.1)
