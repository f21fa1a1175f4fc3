-- Worked examples of the message link, against the definitions alone.
use Rattle.std.proofs.Common.{◌≡◌, ℕ, ◌<◌, List, [], ◌∷◌, length, map, take, replicate, Option, Some, None, refl, subst, arith}
use Rattle.std.specs.Fmt.{digits}
use Rattle.sha1.specs.Sha1.{sha1, digest_bytes}
use Rattle.bt_ext.specs.Ids.{metadata_only}
use Rattle.bt_ext.specs.declared.ids.Rules.TheVariants as rules
use Rattle.bt_wire.specs.declared.context.Own.{Own}
use Rattle.bt_wire.specs.declared.handshake.Handshake.{Handshake}
use Rattle.bt_end.specs.Ends.{EndState, Serving, Awaiting, unopened}
use Rattle.bt_session.specs.FetchLaws.{IsFetchPair}
use Rattle.bt_session.specs.LinkLaws.{IsMetadata}
use Rattle.bt_session.specs.MessageLinks.{link_of, after_all, AreOutcomes, Connection, connections_of}
use Rattle.bt_end.specs.declared.config.Announce.TheVariants as announce
use Rattle.bt_session.specs.declared.link.Outcome.{Outcome}
use Rattle.bt_session.specs.declared.link.Outcome.TheVariants as outcome
use Rattle.bt_session.specs.declared.link.Side.TheVariants.{Left, Right}
use Rattle.bt_session.specs.declared.link.Step.{Step}
use Rattle.bt_session.specs.declared.link.Step.TheVariants as step

hash : List ℕ
hash = 169 ∷ 153 ∷ 62 ∷ 54 ∷ 71 ∷ 6 ∷ 129 ∷ 106 ∷ 186 ∷ 62 ∷ 37 ∷ 113 ∷ 120 ∷ 80 ∷ 194 ∷ 108 ∷ 156 ∷ 208 ∷ 216 ∷ 157 ∷ []

abbrev own : Option ℕ → Own
own id = record { reserved = record { 0 = 1048581 }; info_hash = Some hash; pieces = None; reg = metadata_only id; rules = rules.Free; limit = 262144 }

abbrev hand : Own → Handshake
hand o = record { reserved = o.reserved; info_hash = hash; peer_id = replicate 20 65 }

abbrev serving : EndState
serving = unopened (own (Some 3)) (hand (own (Some 3))) announce.Silent 8 (Serving (97 ∷ 98 ∷ 99 ∷ []))

abbrev fetching : EndState
fetching = unopened (own (Some 9)) (hand (own (Some 9))) announce.Silent 8 (Awaiting 67108864)

-- Metadata of three bytes is fetched, on a second connection, since the first is lost before its block is handled. What is sent
-- on each has 68, 49 and 50 bytes, and 68, 30 and 31.
abbrev steps : List Step
steps =
    step.Deliver Right 68 ∷ step.Turn Right ∷ step.Deliver Left 98 ∷ step.Turn Left ∷ step.Turn Left ∷ step.Deliver Right 49 ∷ step.Turn
    Right ∷ step.Deliver Left 31 ∷ step.Turn Left ∷ step.Deliver Right 20 ∷ step.Reset
    ∷ step.Deliver Right 68 ∷ step.Turn Right ∷ step.Deliver Left 98 ∷ step.Turn Left ∷ step.Turn Left ∷ step.Deliver Right 49 ∷ step.Turn
    Right ∷ step.Deliver Left 31 ∷ step.Turn Left ∷ step.Deliver Right 50 ∷ step.Turn Right ∷ []

abbrev outcomes : List Outcome
outcomes =
    outcome.Delivered 68 ∷ outcome.Handled ∷ outcome.Delivered 98 ∷ outcome.Handled ∷ outcome.Handled ∷ outcome.Delivered
    49 ∷ outcome.Handled ∷ outcome.Delivered 31 ∷ outcome.Handled ∷ outcome.Delivered 20 ∷ outcome.Reset
    ∷ outcome.Delivered 68 ∷ outcome.Handled ∷ outcome.Delivered 98 ∷ outcome.Handled ∷ outcome.Handled ∷ outcome.Delivered
    49 ∷ outcome.Handled ∷ outcome.Delivered 31 ∷ outcome.Handled ∷ outcome.Delivered 50 ∷ outcome.Handled ∷ []

two_connections : AreOutcomes (link_of serving fetching) steps outcomes
unfolding digits hash
two_connections = (
  refl,
  (
    refl,
    (
      refl,
      (
        refl,
        (
          refl,
          (
            refl,
            (
              refl,
              (refl, (refl, (refl, (refl, (refl, (refl, (refl, (refl, (refl, (refl, (refl, (refl, (refl, (refl, (refl, tt))))))))))))))),
            ),
          ),
        ),
      ),
    ),
  ),
)

abbrev counts : Connection → List ℕ
counts c = length c.left_sent ∷ length c.right_sent ∷ length c.left_handled ∷ length c.right_handled ∷ []

-- but for the last turn, which wants a SHA-1
sent_and_handled : map counts (connections_of (after_all (link_of serving fetching) (take 21 steps) outcomes))
    ≡ (3 ∷ 3 ∷ 3 ∷ 2 ∷ []) ∷ (3 ∷ 3 ∷ 3 ∷ 2 ∷ []) ∷ []
unfolding digits hash
sent_and_handled = refl

-- ---- a fetch

-- any metadata can be served and fetched
abbrev known_by : List ℕ → Option ℕ → Own
known_by metadata id = record (own id) { info_hash = Some (sha1 metadata) }

abbrev hand_for : List ℕ → Handshake
hand_for metadata = record { reserved = record { 0 = 1048581 }; info_hash = sha1 metadata; peer_id = replicate 20 65 }

abbrev server_of : List ℕ → EndState
server_of metadata = unopened (known_by metadata (Some 3)) (hand_for metadata) announce.Nothing 8 (Serving metadata)

abbrev fetcher_of : List ℕ → EndState
fetcher_of metadata = unopened (known_by metadata (Some 9)) (hand_for metadata) announce.Nothing 8 (Awaiting 67108864)

digest_length : (metadata : List ℕ) → length (sha1 metadata) ≡ 20
unfolding sha1 digest_bytes
digest_length metadata = refl

same_byte : (n k : ℕ) → n < 256 → Some n ≡ Some k → k < 256
same_byte n k lt e = let same : n ≡ k = cc in omega (arith, lt)

same_metadata : (metadata other : List ℕ) → IsMetadata metadata → Some metadata ≡ Some other → IsMetadata other
same_metadata metadata other h e = let same : metadata ≡ other = cc in subst (λ (m : List ℕ). IsMetadata m) same h

fetch_pair : (metadata : List ℕ) → IsMetadata metadata → IsFetchPair metadata (server_of metadata) (fetcher_of metadata)
fetch_pair metadata sized = record {
  left = record {
    is = record {
      handshake = record { reserved = omega arith; info_hash = digest_length metadata; peer_id = refl };
      hash = refl;
      reserved = refl;
      least = omega arith;
      most = omega arith;
      ids = record { metadata = λ k e. same_byte 3 k (omega arith) e; donthave = λ k e. absurd cc };
      serves = λ m e. same_metadata metadata m sized e;
    };
    unopened = refl;
    part = tt;
  };
  right = record {
    is = record {
      handshake = record { reserved = omega arith; info_hash = digest_length metadata; peer_id = refl };
      hash = refl;
      reserved = refl;
      least = omega arith;
      most = omega arith;
      ids = record { metadata = λ k e. same_byte 9 k (omega arith) e; donthave = λ k e. absurd cc };
      serves = λ m e. absurd cc;
    };
    unopened = refl;
    part = tt;
  };
  matched = record { hash = refl; limit = refl; rules = refl; pieces = tt };
  serves = refl;
  awaits = refl;
  hash = refl;
  left_extended = refl;
  right_extended = refl;
  left_id = refl;
  right_id = refl;
  least = omega arith;
  most = omega arith;
}
