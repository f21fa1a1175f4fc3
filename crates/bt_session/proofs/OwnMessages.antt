-- The messages that an end makes itself are legal where the other end reads them.
use Rattle.std.proofs.Common.{◌≡◌, ℕ, ◌+◌, ◌*◌, ◌^◌, ◌<◌, ◌≤◌, true, min, List, [], ◌∷◌, ◌++◌, length, drop, pos, Option, Some, None, refl, sym, ap, ◌∙◌, arith}
use Rattle.std.proofs.lemmas.List.{length-append, length-take, length-drop}
use Rattle.std.proofs.lemmas.Bool.{lt-ltb, eq-eqb}
use Rattle.std.proofs.lemmas.Fmt.{length-decimal-le}
use Rattle.std.specs.Option.{ForSome}
use Rattle.std.specs.Prelude.{unwrap_or, codes}
use Rattle.std.specs.Fmt.{decimal}
use Rattle.bt_bencode.specs.Trees.{integer, dictionary, Pairs, no_pairs, pair}
use Rattle.bt_bencode.specs.Bencoding.{ben, ben_pairs}
use Rattle.bt_ext.specs.Faults.{Allows}
use Rattle.bt_ext.specs.Ids.{HaveBytes, metadata_name, donthave_name, metadata_id, donthave_id}
use Rattle.bt_ext.specs.Made.{IsMade, message_of, handshake_of, message_pairs, handshake_pairs, id_pair, m_pairs, size_pairs, typed}
use Rattle.bt_ext.specs.Metadata.{block_count, block_len, is_block_ok}
use Rattle.bt_ext.specs.Payloads.{HasSpelling, index_of, payload_of}
use Rattle.bt_ext.specs.declared.ext.Ext.{Ext}
use Rattle.bt_ext.specs.declared.ids.Registered.{Registered}
use Rattle.bt_ext.specs.declared.ids.Rules.{Rules}
use Rattle.bt_ext.specs.declared.ids.Rules.TheVariants as rules
use Rattle.bt_ext.specs.declared.metadata.Kind.{Kind}
use Rattle.bt_ext.specs.declared.metadata.Kind.TheVariants as kind
use Rattle.bt_ext.proofs.MadeRight.{message-right, handshake-right}
use Rattle.bt_wire.specs.declared.context.Context.{Context}
use Rattle.bt_wire.specs.declared.context.Order.{Order}
use Rattle.bt_wire.specs.declared.message.Message.TheVariants as m
use Rattle.bt_wire.specs.Faults.{is_strict}
use Rattle.bt_wire.specs.Legal.{IsLegal}
use Rattle.bt_wire.specs.Numbers.{be32}
use Rattle.bt_wire.proofs.WindowLaws.{never}
use Rattle.bt_metadata.specs.Blocks.{block, block_size}
use Rattle.bt_session.proofs.LinkInvariant.{IsFor}
use Rattle.bt_metadata.proofs.Lengths.{block_len_is}

-- ---- any extended value

allowed_by : (r : Rules) (e : Ext) → Allows rules.Bep e → Allows r e
allowed_by rules.Free e h = tt
allowed_by rules.Bep e h = h

pub own_legal : (d : Context) (o : Order) (e : Ext) → d.ext ≡ true → HasSpelling d.reg e → Allows rules.Bep e → index_of e ≡ None
    → 2 + length (payload_of e) ≤ d.limit → IsLegal d o (m.Extended e)
own_legal d o e agreed shaped allowed none short = record {
  shaped = shaped;
  short = omega arith;
  agreed = agreed;
  indexed = tt;
  sized = tt;
  spare = tt;
  known = never (is_strict d);
  in_time = never (is_strict d);
  opened = never (is_strict d);
  allowed = (allowed_by d.rules e allowed, rw none refl);
}

-- ---- how long their dictionaries are

small : (n : ℕ) → n < 2 ^ 63 → length (decimal n) ≤ 20
small n lt = length-decimal-le 20 n (omega arith) (omega arith) (omega arith)

pair_length : (k : List ℕ) (n : ℕ) (ps : Pairs) → length k < 64 → n < 2 ^ 63 → length (ben_pairs (pair k (integer (pos n)) ps)) ≤ 43 + length k + length
    (ben_pairs ps)
pair_length k n ps short lt =
    omega (
      arith,
      small n lt,
      small (length k) (omega arith),
      length-append (decimal (length k)) (58 ∷ k),
      length-append (decimal (length k) ++ 58 ∷ k) (ben (integer (pos n)) ++ ben_pairs ps),
      length-append (ben (integer (pos n))) (ben_pairs ps),
      length-append (decimal n) (101 ∷ []),
    )

dict_length : (ps : Pairs) → length (ben (dictionary ps)) ≡ 2 + length (ben_pairs ps)
dict_length ps = omega (arith, length-append (ben_pairs ps) (101 ∷ []))

typed_length : (msg_type piece : ℕ) (ps : Pairs) → msg_type < 2 ^ 63 → piece < 2 ^ 32 → length (ben_pairs (typed msg_type piece ps)) ≤ 99 + length
    (ben_pairs ps)
typed_length t k ps lt lk =
    omega (
      arith,
      pair_length (codes "msg_type") t (pair (codes "piece") (integer (pos k)) ps) (omega arith) lt,
      pair_length (codes "piece") k ps (omega arith) (omega arith),
    )

pub message_length : (k : Kind) (rest : List ℕ) → IsMade k → length (payload_of (message_of k rest)) ≤ 160 + length rest
message_length (kind.Request piece) rest h =
    omega (
      arith,
      length-append (ben (dictionary (message_pairs (kind.Request piece)))) rest,
      dict_length (message_pairs (kind.Request piece)),
      typed_length 0 piece no_pairs (omega arith) h,
    )
message_length (kind.Data piece total) rest h =
    omega (
      arith,
      length-append (ben (dictionary (message_pairs (kind.Data piece total)))) rest,
      dict_length (message_pairs (kind.Data piece total)),
      typed_length 1 piece (pair (codes "total_size") (integer (pos total)) no_pairs) (omega arith) h.0,
      pair_length (codes "total_size") total no_pairs (omega arith) h.2,
    )
message_length (kind.Reject piece) rest h =
    omega (
      arith,
      length-append (ben (dictionary (message_pairs (kind.Reject piece)))) rest,
      dict_length (message_pairs (kind.Reject piece)),
      typed_length 2 piece no_pairs (omega arith) h,
    )
message_length kind.Other rest h = absurd h
message_length kind.Malformed rest h = absurd h

sizes_length : (size : Option ℕ) → ForSome size (λ n. n < 2 ^ 63) → length (ben_pairs (size_pairs size)) ≤ 56
sizes_length None h = omega arith
sizes_length (Some n) h = omega (arith, pair_length (codes "metadata_size") n no_pairs (omega arith) (h n refl))

id_length : (name : List ℕ) (id : Option ℕ) (ps : Pairs) → length name < 64 → ForSome id (λ n. n < 256)
    → length (ben_pairs (id_pair name id ps)) ≤ 43 + length name + length (ben_pairs ps)
id_length name None ps short h = omega arith
id_length name (Some n) ps short h = let b = h n refl in omega (arith, pair_length name n ps short (omega arith))

ids_length : (metadata donthave : Option ℕ) → ForSome metadata (λ n. n < 256) → ForSome donthave (λ n. n < 256)
    → length (ben_pairs (m_pairs metadata donthave)) ≤ 108
ids_length metadata donthave h k = omega (
  arith,
  id_length donthave_name donthave (id_pair metadata_name metadata no_pairs) (omega arith) k,
  id_length metadata_name metadata no_pairs (omega arith) h,
)

fields_length : (metadata donthave size : Option ℕ) → ForSome metadata (λ n. n < 256) → ForSome donthave (λ n. n < 256) → ForSome size (λ n. n < 2 ^ 63)
    → length (ben_pairs (handshake_pairs metadata donthave size)) ≤ 200
fields_length metadata donthave size h i k =
    omega (
      arith,
      length-append (decimal 1 ++ 58 ∷ codes "m") (ben (dictionary (m_pairs metadata donthave)) ++ ben_pairs (size_pairs size)),
      length-append (decimal 1) (58 ∷ codes "m"),
      small 1 (omega arith),
      length-append (ben (dictionary (m_pairs metadata donthave))) (ben_pairs (size_pairs size)),
      dict_length (m_pairs metadata donthave),
      ids_length metadata donthave h i,
      sizes_length size k,
    )

pub greeting_length : (reg : Registered) (size : Option ℕ) → HaveBytes reg → ForSome size (λ n. n < 2 ^ 63) → length (payload_of (handshake_of reg size)) ≤ 220
greeting_length reg size h k =
    let ps : Pairs = handshake_pairs (metadata_id reg) (donthave_id reg) size in
    omega (arith, length-append (ben (dictionary ps)) [], dict_length ps, fields_length (metadata_id reg) (donthave_id reg) size h.metadata h.donthave k)

-- ---- for the other end

-- the extended handshake is read under any ids
pub greeting_for : (c d : Context) (o : Order) (reg : Registered) (size : Option ℕ) → c.ext ≡ true → 32768 ≤ c.limit → d.ext ≡ true → 32768 ≤ d.limit
    → HaveBytes reg → ForSome size (λ n. n < 2 ^ 63) → IsFor c d o (m.Extended (handshake_of reg size))
greeting_for c d o reg size own room agreed least h k =
    let right = handshake-right reg size h k in
    record {
      said = record {
        in_range = record { id = omega arith; fields = omega arith };
        legal = own_legal c o (handshake_of reg size) own (refl, right.0) right.1
            refl (omega (arith, greeting_length reg size h k));
        start = omega arith;
      };
      in_range = record { id = omega arith; fields = omega arith };
      legal = own_legal d o (handshake_of reg size) agreed (refl, right.0) right.1 refl (omega (arith, greeting_length reg size h k));
      same = refl;
    }

-- metadata messages that are sent in c, under this id, may be read in d
pub record MayTell (c d : Context) (id : ℕ) : Type 0 where
  pub own : c.ext ≡ true
  pub room : 32768 ≤ c.limit
  pub agreed : d.ext ≡ true
  pub least : 32768 ≤ d.limit
  pub sender : metadata_id c.reg ≡ Some id
  pub reader : metadata_id d.reg ≡ Some id
  pub byte : id < 256

-- a metadata message is read under the id that the sender names
pub message_for : {c d : Context} {id : ℕ} → MayTell c d id → (o : Order) (k : Kind) (rest : List ℕ) → IsMade k → is_block_ok k (length rest) ≡ true
    → length rest ≤ 16384 → IsFor c d o (m.Extended (message_of k rest))
message_for {c} {d} may o k rest made ok size =
    let right = message-right k rest made ok in
    record {
      said = record {
        in_range = record { id = omega arith; fields = rw may.sender may.byte };
        legal = own_legal c o (message_of k rest) may.own (rw may.sender refl, right.0)
            right.1 refl (omega (arith, message_length k rest made));
        start = omega arith;
      };
      in_range = record { id = omega arith; fields = rw may.reader may.byte };
      legal = own_legal d o (message_of k rest) may.agreed (rw may.reader refl, right.0) right.1 refl (omega (arith, message_length k rest made));
      same = ap (λ (o : Option ℕ). be32 (length (20 ∷ unwrap_or o 0 ∷ payload_of (message_of k rest)))
          ++ 20 ∷ unwrap_or o 0 ∷ payload_of (message_of k rest)) (may.sender ∙ sym may.reader);
    }

pub block_length : (metadata : List ℕ) (k : ℕ) → k < block_count (length metadata) → length (block metadata k) ≡ block_len (length metadata) k
block_length metadata k h =
    length-take block_size (drop (block_size * k) metadata) ∙ ap (min block_size) (length-drop (block_size * k) metadata) ∙ block_len_is (length metadata) k h

-- a block of metadata is right, and no longer than a block may be
pub block_right : (metadata : List ℕ) (k : ℕ) → k < block_count (length metadata) → (is_block_ok (kind.Data k (length metadata)) (length (block metadata k))
    ≡ true) × (length (block metadata k) ≤ 16384)
block_right metadata k h = (
  rw (lt-ltb k (block_count (length metadata)) h) (eq-eqb (length (block metadata k)) (block_len (length metadata) k) (block_length metadata k h)),
  omega (arith, length-take block_size (drop (block_size * k) metadata)),
)
