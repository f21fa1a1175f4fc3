-- The ends of `loop` are an end that serves metadata and an end that fetches it.
use Rattle.std.proofs.Common.{◌≡◌, ℕ, ◌<◌, ◌≤◌, Bool, true, false, ◌||◌, eqb, ltb, List, length, codes, Some, refl, subst, arith}
use Rattle.std.proofs.lemmas.Bool.{ltb-false}
use Rattle.std.specs.Option.{ForSome}
use Rattle.sha1.specs.Sha1.{sha1, digest_bytes}
use Rattle.bt_ext.specs.declared.ids.Rules.{Rules}
use Rattle.bt_ext.specs.Ids.{HaveBytes, metadata_only}
use Rattle.bt_ext.proofs.Entries.{above_0}
use Rattle.bt_metadata.specs.Blocks.{window, max_metadata}
use Rattle.bt_end.specs.declared.config.Announce.TheVariants.{Silent}
use Rattle.bt_end.specs.Configs.{is_bad_size}
use Rattle.bt_end.specs.Ends.{EndState, Part, Serving, Awaiting, unopened}
use Rattle.bt_session.specs.LinkLaws.{IsMetadata, IsFirstPart, IsNew, source_of}
use Rattle.bt_session.specs.FetchLaws.{IsFetchPair}
use Rattle.bt_loop.specs.Loops.{own_by, handshake_by}

abbrev pub serving_end : Rules → ℕ → List ℕ → EndState
serving_end rules limit metadata =
    unopened (own_by rules limit (sha1 metadata) 3) (handshake_by (sha1 metadata) (codes "-BT0001-LLLLLLLLLLLL")) Silent window (Serving metadata)

abbrev pub fetching_end : Rules → ℕ → List ℕ → EndState
fetching_end rules limit hash = unopened (own_by rules limit hash 9) (handshake_by hash (codes "-BT0001-RRRRRRRRRRRR")) Silent window (Awaiting max_metadata)

same_byte : (n k : ℕ) → n < 256 → Some n ≡ Some k → k < 256
same_byte n k lt e = let same : n ≡ k = cc in omega (arith, lt, same)

left_ids : HaveBytes (metadata_only (Some 3))
left_ids = record { metadata = λ k e. same_byte 3 k (omega arith) e; donthave = λ k e. absurd cc }

right_ids : HaveBytes (metadata_only (Some 9))
right_ids = record { metadata = λ k e. same_byte 9 k (omega arith) e; donthave = λ k e. absurd cc }

digest_length : (metadata : List ℕ) → length (sha1 metadata) ≡ 20
unfolding sha1 digest_bytes
digest_length metadata = refl

neither : (x y : Bool) → (x || y) ≡ false → (x ≡ false) × (y ≡ false)
neither true y e = absurd (cc)
neither false y e = (refl, e)

sized : (metadata : List ℕ) → is_bad_size (length metadata) ≡ false → IsMetadata metadata
sized metadata e =
    let parts = neither (eqb (length metadata) 0) (ltb max_metadata (length metadata)) e in
    record { least = above_0 (length metadata) parts.0; most = ltb-false max_metadata (length metadata) parts.1 }

pub not_long : (metadata : List ℕ) → is_bad_size (length metadata) ≡ false → length metadata ≤ max_metadata
not_long metadata e = (sized metadata e).most

new_end : {id : ℕ} (rules : Rules) (limit : ℕ) (hash peer : List ℕ) (part : Part) → (32768 ≤ limit) × (limit ≤ 1048576)
    → (length hash ≡ 20) × (length peer ≡ 20) → HaveBytes (metadata_only (Some id)) → ForSome (source_of part) (λ m. IsMetadata m) → IsFirstPart part
    → IsNew (unopened (own_by rules limit hash id) (handshake_by hash peer) Silent window part)
new_end rules limit hash peer part limits lengths ids serves first = record {
  is = record {
    handshake = record { reserved = omega arith; info_hash = lengths.0; peer_id = lengths.1 };
    hash = refl;
    reserved = refl;
    least = limits.0;
    most = limits.1;
    ids = ids;
    serves = serves;
  };
  unopened = refl;
  part = first;
}

pub loop_pair : (rules : Rules) (limit : ℕ) (metadata : List ℕ) → 32768 ≤ limit → limit ≤ 1048576
    → is_bad_size (length metadata) ≡ false
    → IsFetchPair metadata (serving_end rules limit metadata) (fetching_end rules limit (sha1 metadata))
loop_pair rules limit metadata least most size = record {
  left = new_end rules limit (sha1 metadata) (codes "-BT0001-LLLLLLLLLLLL") (Serving metadata) (least, most) (digest_length metadata, refl) left_ids
      (λ m e. let same : metadata ≡ m = cc in subst IsMetadata same (sized metadata size)) tt;
  right = new_end rules limit (sha1 metadata) (codes "-BT0001-RRRRRRRRRRRR") (Awaiting max_metadata) (least, most) (digest_length metadata, refl) right_ids
      (λ m e. absurd (cc)) tt;
  matched = record { hash = refl; limit = refl; rules = refl; pieces = tt };
  serves = refl;
  awaits = refl;
  hash = refl;
  left_extended = refl;
  right_extended = refl;
  left_id = refl;
  right_id = refl;
  least = omega arith;
  most = omega arith;
}
