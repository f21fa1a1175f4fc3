-- An end that is made of a config is a new one.
use Rattle.std.proofs.Common.{◌≡◌, ℕ, ◌^◌, ◌<◌, Bool, true, false, ◌||◌, ltb, eqb, if◌then◌else◌, List, [], length, Option, Some, None, IfSome, is_none}
use Rattle.std.proofs.Common.{refl, subst, ap}
use Rattle.std.proofs.lemmas.Bool.{ltb-false}
use Rattle.std.specs.Prelude.{unwrap_or}
use Rattle.std.specs.Option.{ForSome}
use Rattle.std.specs.Global.{Global}
use Rattle.bt_ext.proofs.Entries.{above_0}
use Rattle.bt_ext.specs.Ids.{metadata_id, donthave_id}
use Rattle.bt_metadata.specs.Blocks.{max_metadata}
use Rattle.bt_end.specs.Configs.{config_error, is_bad_limit, is_bad_role, end_for, part_for}
use Rattle.bt_session.specs.LinkLaws.{source_of, IsMetadata, IsFirstPart, IsNew, AreMatched}
use Rattle.bt_session.specs.Reports.{DoMatch}
use Rattle.bt_end.specs.declared.config.Config.{Config}
use Rattle.bt_end.specs.declared.config.EndError.TheVariants.{BadLimit, BadConfig, BadSize}
use Rattle.bt_end.specs.declared.config.Role.{Role}
use Rattle.bt_end.specs.declared.config.Role.TheVariants.{Watch, Serve, Share, Fetch, FetchUpTo}

no_error : (x y z : Bool) → (if x then Some BadLimit else (if y then Some BadConfig else (if z then Some BadSize else None))) ≡ None → (x ≡ false)
    × (y ≡ false) × (z ≡ false)
no_error true y z e = absurd cc
no_error false true z e = absurd cc
no_error false false true e = absurd cc
no_error false false false e = (refl, refl, refl)

neither : (x y : Bool) → (x || y) ≡ false → (x ≡ false) × (y ≡ false)
neither true y e = absurd cc
neither false y e = (refl, e)

above_zero : (n : ℕ) → eqb n 0 ≡ false → 0 < n
above_zero n e = above_0 n e

sized_items : (items : List ℕ) → (eqb (length items) 0 || ltb max_metadata (length items)) ≡ false → IsMetadata items
sized_items items e =
    let parts = neither (eqb (length items) 0) (ltb max_metadata (length items)) e in
    record { least = above_zero (length items) parts.0; most = ltb-false max_metadata (length items) parts.1 }

sized : (role : Role Global) → is_bad_role role ≡ false → ForSome (source_of (part_for role)) (λ metadata. IsMetadata metadata)
sized Watch e m h = absurd cc
sized Fetch e m h = absurd cc
sized (FetchUpTo most) e m h = absurd cc
sized (Serve metadata) e m h =
    let same : metadata.items ≡ m = cc in
    subst (λ (x : List ℕ). IsMetadata x) same (sized_items metadata.items e)
sized (Share metadata) e m h =
    let same : metadata.value.items ≡ m = cc in
    subst (λ (x : List ℕ). IsMetadata x) same (sized_items metadata.value.items e)

first : (role : Role Global) → IsFirstPart (part_for role)
first Watch = tt
first (Serve metadata) = tt
first (Share metadata) = tt
first Fetch = tt
first (FetchUpTo most) = tt

hash_length : (o : Option (List ℕ)) → is_none o ≡ false → IfSome o (λ h. length h ≡ 20) → (o ≡ Some (unwrap_or o [])) × (length (unwrap_or o []) ≡ 20)
hash_length (Some h) e l = (refl, l)
hash_length None e l = absurd cc

some_within : (o : Option ℕ) → IfSome o (λ n. n < 256) → ForSome o (λ n. n < 256)
some_within (Some m) h n e = let same : m ≡ n = cc in subst (λ (x : ℕ). x < 256) same h
some_within None h n e = absurd cc

pub new_of : (c : Config Global) → length c.peer_id ≡ 20 → c.own.reserved.0 < 2 ^ 64 → IfSome c.own.info_hash (λ h. length h ≡ 20)
    → IfSome (metadata_id c.own.reg) (λ n. n < 256) → IfSome (donthave_id c.own.reg) (λ n. n < 256) → config_error c ≡ None → IsNew (end_for c)
new_of c peer reserved hash metadata donthave e =
    let none = no_error (is_bad_limit c.own.limit) (is_none c.own.info_hash) (is_bad_role c.role) e in
    let limits = neither (ltb c.own.limit 32768) (ltb 1048576 c.own.limit) none.0 in
    let h = hash_length c.own.info_hash none.1 hash in
    record {
      is = record {
        handshake = record { reserved = reserved; info_hash = h.1; peer_id = peer };
        hash = h.0;
        reserved = refl;
        least = ltb-false c.own.limit 32768 limits.0;
        most = ltb-false 1048576 c.own.limit limits.1;
        ids = record { metadata = some_within (metadata_id c.own.reg) metadata; donthave = some_within (donthave_id c.own.reg) donthave };
        serves = sized c.role none.2;
      };
      unopened = refl;
      part = first c.role;
    }

pub matched_ends : (c d : Config Global) → DoMatch c d → AreMatched (end_for c) (end_for d)
matched_ends c d h = record {
  hash = ap (λ (o : Option (List ℕ)). unwrap_or o []) h.alike.hash;
  limit = h.alike.limit;
  rules = h.alike.rules;
  pieces = h.alike.pieces;
}
