-- What an end writes fits, is allowed, and tells what it was made of.
use Rattle.std.proofs.Common.{◌≡◌, ℕ, pos, ◌<◌, ◌≤◌, ◌^◌, List, [], ◌++◌, length, true, false, Option, Some, None, nat_le, codes, refl, arith}
use Rattle.std.specs.Prelude.{FitsSigned}
use Rattle.std.specs.Option.{ForSome}
use Rattle.std.specs.Int.{w64}
use Rattle.std.proofs.lemmas.Int.{fits_signed_from_abs}
use Rattle.std.proofs.lemmas.Grind.{common_steps}
use Rattle.bt_bencode.specs.Trees.{dictionary, nesting}
use Rattle.bt_bencode.specs.Bencoding.{Fits, PairsInRange}
use Rattle.bt_bencode.specs.Keys.{PairsAreSorted}
use Rattle.bt_ext.specs.Ids.{HaveBytes, metadata_name, donthave_name, metadata_id, donthave_id}
use Rattle.bt_ext.specs.declared.ids.Registered.{Registered}
use Rattle.bt_ext.specs.Fields.{size_of, has_bad_id, has_bad_field}
use Rattle.bt_ext.specs.Metadata.{is_block_ok}
use Rattle.bt_ext.specs.Payloads.{HasParts}
use Rattle.bt_ext.specs.Faults.{Allows}
use Rattle.bt_ext.specs.Tables.{told_of, told_by, told}
use Rattle.bt_ext.specs.Made.{IsMade, message_pairs, message_of, m_pairs, size_pairs, handshake_pairs, handshake_of, handshake_tree}
use Rattle.bt_ext.specs.declared.metadata.Kind.{Kind}
use Rattle.bt_ext.specs.declared.metadata.Kind.TheVariants as kind
use Rattle.bt_ext.specs.declared.ids.Rules.TheVariants as rules
use Rattle.bt_ext.proofs.MadeKinds.{kind_made}

number : (n : ℕ) → n < 2 ^ 63 → FitsSigned w64 (pos n)
number n h = fits_signed_from_abs w64 (pos n) h

-- ---- metadata messages
pub message-fits : (k : Kind) → IsMade k → Fits (dictionary (message_pairs k))
message-fits (kind.Request piece) h = record {
  in_range = (omega arith, number 0 (omega arith), (omega arith, number piece (omega arith), tt));
  nested = omega arith;
}
message-fits (kind.Data piece total) h = record {
  in_range = (
    omega arith,
    number 1 (omega arith),
    (omega arith, number piece (omega (arith, h.0)), (omega arith, number total h.2, tt)),
  );
  nested = omega arith;
}
message-fits (kind.Reject piece) h = record {
  in_range = (omega arith, number 2 (omega arith), (omega arith, number piece (omega arith), tt));
  nested = omega arith;
}
message-fits kind.Other h = absurd h
message-fits kind.Malformed h = absurd h

message-allowed : (k : Kind) (rest : List ℕ) → IsMade k → is_block_ok k (length rest) ≡ true → Allows rules.Bep (message_of k rest)
message-allowed (kind.Request piece) rest h ok = (
  (refl, tt, (refl, tt, tt)),
  rw (kind_made (kind.Request piece) h) refl,
  rw (kind_made (kind.Request piece) h) ok,
)
message-allowed (kind.Data piece total) rest h ok = (
  (refl, tt, (refl, tt, (refl, tt, tt))),
  rw (kind_made (kind.Data piece total) h) refl,
  rw (kind_made (kind.Data piece total) h) ok,
)
message-allowed (kind.Reject piece) rest h ok = ((refl, tt, (refl, tt, tt)), rw (kind_made (kind.Reject piece) h) refl, rw (kind_made (kind.Reject piece) h) ok)
message-allowed kind.Other rest h ok = absurd h
message-allowed kind.Malformed rest h ok = absurd h

pub message-right : (k : Kind) (rest : List ℕ) → IsMade k → is_block_ok k (length rest) ≡ true → HasParts (message_of k rest)
    × Allows rules.Bep (message_of k rest)
message-right k rest h ok = ((message_pairs k, refl, message-fits k h), message-allowed k rest h ok)

-- ---- extended handshakes
byte : (n : ℕ) → n < 256 → nat_le n 255 ≡ true
byte n h = grind (arith, common_steps)

byte_number : (n : ℕ) → n < 256 → FitsSigned w64 (pos n)
byte_number n h = number n (omega arith)

m-range : (m d : Option ℕ) → ForSome m (λ n. n < 256) → ForSome d (λ n. n < 256) → PairsInRange (m_pairs m d)
m-range None None h k = tt
m-range (Some i) None h k = (omega arith, byte_number i (h i refl), tt)
m-range None (Some j) h k = (omega arith, byte_number j (k j refl), tt)
m-range (Some i) (Some j) h k = (omega arith, byte_number j (k j refl), (omega arith, byte_number i (h i refl), tt))

size-range : (size : Option ℕ) → ForSome size (λ n. n < 2 ^ 63) → PairsInRange (size_pairs size)
size-range None h = tt
size-range (Some n) h = (omega arith, number n (h n refl), tt)

nested : (m d size : Option ℕ) → nesting (dictionary (handshake_pairs m d size)) ≤ 32
nested None None None = omega arith
nested None None (Some n) = omega arith
nested None (Some j) None = omega arith
nested None (Some j) (Some n) = omega arith
nested (Some i) None None = omega arith
nested (Some i) None (Some n) = omega arith
nested (Some i) (Some j) None = omega arith
nested (Some i) (Some j) (Some n) = omega arith

m-sorted : (m d : Option ℕ) → PairsAreSorted None (m_pairs m d)
m-sorted None None = tt
m-sorted (Some i) None = (refl, tt, tt)
m-sorted None (Some j) = (refl, tt, tt)
m-sorted (Some i) (Some j) = (refl, tt, (refl, tt, tt))

size-sorted : (size : Option ℕ) → PairsAreSorted (Some (codes "m")) (size_pairs size)
size-sorted None = tt
size-sorted (Some n) = (refl, tt, tt)

good_ids : (m d : Option ℕ) → ForSome m (λ n. n < 256) → ForSome d (λ n. n < 256) → has_bad_id (m_pairs m d) ≡ false
good_ids None None h k = refl
good_ids (Some i) None h k = rw (byte i (h i refl)) refl
good_ids None (Some j) h k = rw (byte j (k j refl)) refl
good_ids (Some i) (Some j) h k = rw (byte i (h i refl), byte j (k j refl)) refl

good_fields : (m d size : Option ℕ) → ForSome m (λ n. n < 256) → ForSome d (λ n. n < 256)
    → has_bad_field (dictionary (handshake_pairs m d size)) ≡ false
good_fields m d None h k = rw (good_ids m d h k) refl
good_fields m d (Some n) h k = rw (good_ids m d h k) refl

pub handshake-fits : (reg : Registered) (size : Option ℕ) → HaveBytes reg → ForSome size (λ n. n < 2 ^ 63) → Fits (handshake_tree reg size)
handshake-fits reg size h k =
    let m = metadata_id reg in
    let d = donthave_id reg in
    record { in_range = (omega arith, m-range m d h.metadata h.donthave, size-range size k); nested = nested m d size }

pub handshake-right : (reg : Registered) (size : Option ℕ) → HaveBytes reg → ForSome size (λ n. n < 2 ^ 63) → HasParts (handshake_of reg size)
    × Allows rules.Bep (handshake_of reg size)
handshake-right reg size h k =
    let m = metadata_id reg in
    let d = donthave_id reg in (
      (handshake_pairs m d size, refl, handshake-fits reg size h k),
      ((refl, m-sorted m d, size-sorted size), good_fields m d size h.metadata h.donthave),
    )

m-tells : (m d : Option ℕ) → ForSome m (λ n. n < 256) → ForSome d (λ n. n < 256)
    → told_by [] (m_pairs m d) ≡ told donthave_name d ++ told metadata_name m
m-tells None None h k = refl
m-tells (Some i) None h k = rw (byte i (h i refl)) refl
m-tells None (Some j) h k = rw (byte j (k j refl)) refl
m-tells (Some i) (Some j) h k = rw (byte i (h i refl), byte j (k j refl)) refl

size-tells : (m d size : Option ℕ) → size_of (dictionary (handshake_pairs m d size)) ≡ size
size-tells m d None = refl
size-tells m d (Some n) = refl

pub handshake-tells : (reg : Registered) (size : Option ℕ) → HaveBytes reg
    → (told_of (handshake_tree reg size) ≡ told donthave_name (donthave_id reg) ++ told metadata_name (metadata_id reg))
    × (size_of (handshake_tree reg size) ≡ size)
handshake-tells reg size h = (m-tells (metadata_id reg) (donthave_id reg) h.metadata h.donthave, size-tells (metadata_id reg) (donthave_id reg) size)
