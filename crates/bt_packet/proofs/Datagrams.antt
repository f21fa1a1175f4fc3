-- Packets of uTP: what is read stands in the frame, and what stands in the frame is read.
use Rattle.std.proofs.Common.{◌≡◌, ℕ, zero, suc, ◌+◌, ◌-◌, ◌<◌, ◌≤◌, ◌==◌, nat_le, nat_lt, true, false, if◌then◌else◌, List, [], ◌∷◌, ◌++◌, length, take}
use Rattle.std.proofs.Common.{Option, Some, None, option_map, option_and_then, ap, sym, ◌∙◌, refl, subst, arith, le-ltb, eqb-true, length-append}
use Rattle.std.proofs.Math.Seq.{take-append_seam}
use Rattle.std.proofs.lemmas.Bool.{lt-leb}
use Rattle.bt_packet.specs.Bytes.{after}
use Rattle.bt_packet.specs.Ip.{Contents, carried}
use Rattle.bt_packet.specs.Tcp.{port_of}
use Rattle.bt_packet.specs.Segments.{Follows}
use Rattle.bt_packet.specs.Utp.{UtpPacket, UtpExtension, chain, with_extension, kind_of, may_carry, headed, if_carried, said_by, after_header, after_kind}
use Rattle.bt_packet.specs.Utp.{packet_in, utp, utp_in, utp_of}
use Rattle.bt_packet.specs.Datagrams.{Udp, udp_bytes, Header, header_bytes, first_of, chained, AreExtensions, said, IsUtpPacket, data_size, IsUtpIn}
use Rattle.bt_packet.specs.Datagrams.{IsUtpOf, IsUtpTold, ChainHasToFit}
use Rattle.bt_packet.specs.declared.address.Address.{Address}
use Rattle.bt_packet.specs.declared.utp.UtpKind.{UtpKind}
use Rattle.bt_packet.proofs.Chains.{chain_end, chain_next, first_extension}
use Rattle.bt_packet.proofs.Found.{branch, if_none, if_some, map_some, then_some, some_is, no_some, after_found, payload_found}
use Rattle.bt_packet.proofs.FoundTcp.{carried_found}
use Rattle.bt_packet.proofs.Frames.{after_append}
use Rattle.bt_packet.proofs.Read.{payload_read}
use Rattle.bt_packet.proofs.ReadAll.{carried_read}

-- ---- extensions

pub chain_read : (n : ℕ) (es : List UtpExtension) (rest : List ℕ) → AreExtensions es → length (chained es 0 rest) ≤ n
    → chain n (first_of es 0) (chained es 0 rest) ≡ Some (es, rest)
chain_read n [] rest are h = chain_end n rest
chain_read zero (e ∷ es) rest are h = absurd (omega arith)
chain_read (suc n) (e ∷ es) rest are h =
    let next : List ℕ = chained es 0 rest in
    let first : UtpExtension = first_extension e.kind (length e.content) (e.content ++ next) in
    let content : take (length e.content) (e.content ++ next) ≡ e.content = take-append_seam e.content next in
    let same : first ≡ e = ap (λ x. record e { content = x }) content in
    let l : length next ≤ n = omega (arith, length-append e.content (chained es 0 rest)) in
    chain_next n e.kind (first_of es 0) (length e.content) (e.content ++ next) are.0
    ∙ ap (option_and_then (λ left. option_map (with_extension first) (chain n (first_of es 0) left)))
    (after_append (length e.content) e.content next refl)
    ∙ ap (λ x. option_map (with_extension x) (chain n (first_of es 0) next)) same
    ∙ ap (option_map (with_extension e)) (chain_read n es rest are.1 l)

after_none : (n : ℕ) (bytes : List ℕ) → length bytes < n → after n bytes ≡ None
after_none n bytes h = let l : nat_le n (length bytes) ≡ false = lt-leb n (length bytes) h in rw l refl

chain_too_long : (n : ℕ) (es : List UtpExtension) (kind next says : ℕ) (rest : List ℕ) → AreExtensions es → (kind == 0) ≡ false → length rest < says
    → length (chained es kind (next ∷ says ∷ rest)) ≤ n → chain n (first_of es kind) (chained es kind (next ∷ says ∷ rest)) ≡ None
chain_too_long zero [] kind next says rest are k long h = absurd (omega arith)
chain_too_long (suc n) [] kind next says rest are k long h =
    chain_next n kind next says rest k
    ∙ ap (option_and_then (λ left. option_map (with_extension (first_extension kind says rest)) (chain n next left))) (after_none says rest long)
chain_too_long zero (e ∷ es) kind next says rest are k long h = absurd (omega arith)
chain_too_long (suc n) (e ∷ es) kind next says rest are k long h =
    let more : List ℕ = chained es kind (next ∷ says ∷ rest) in
    let first : UtpExtension = first_extension e.kind (length e.content) (e.content ++ more) in
    let l : length more ≤ n = omega (arith, length-append e.content (chained es kind (next ∷ says ∷ rest))) in
    chain_next n e.kind (first_of es kind) (length e.content) (e.content ++ more) are.0
    ∙ ap (option_and_then (λ left. option_map (with_extension first) (chain n (first_of es kind) left)))
    (after_append (length e.content) e.content more refl)
    ∙ ap (option_map (with_extension first)) (chain_too_long n es kind next says rest are.1 k long l)

length_chained : (es : List UtpExtension) (rest : List ℕ) → length (chained es 0 rest) ≡ length (chained es 0 []) + length rest
length_chained [] rest = omega arith
length_chained (e ∷ es) rest =
    omega (arith, length_chained es rest, length-append e.content (chained es 0 rest), length-append e.content (chained es 0 []))

-- the extensions of a chain stand in its bytes
pub record IsChain (kind : ℕ) (bytes : List ℕ) (c : List UtpExtension × List ℕ) : Type 0 where
  pub first : kind ≡ first_of c.0 0
  pub is : bytes ≡ chained c.0 0 c.1
  pub are : AreExtensions c.0

ended : (kind : ℕ) (bytes : List ℕ) (c : List UtpExtension × List ℕ) → (if kind == 0 then Some ([], bytes) else None) ≡ Some c → IsChain kind bytes c
ended kind bytes c e =
    branch (kind == 0) (Some ([], bytes)) None (Some c) e
    (λ z f. (let same : ([], bytes) ≡ c = some_is ([], bytes) c f in
    subst (IsChain kind bytes) same (record { first = eqb-true kind 0 z; is = refl; are = tt })))
    (λ n f. absurd (no_some c f))

with_one : (kind next size : ℕ) (rest left : List ℕ) (c : List UtpExtension × List ℕ) → (kind == 0) ≡ false → Follows size rest left
    → IsChain next left c → IsChain kind (next ∷ size ∷ rest) (with_extension (first_extension kind size rest) c)
with_one kind next size rest left c n f i =
    let content : take size rest ≡ f.header = ap (take size) f.is ∙ ap (λ x. take x (f.header ++ left)) (sym f.size) ∙ take-append_seam f.header left in
    record {
      first = refl;
      is = rw (content, f.size, ← i.first, ← i.is, ← f.is) refl;
      are = (n, i.are);
    }

pub chain_found : (n kind : ℕ) (bytes : List ℕ) (c : List UtpExtension × List ℕ) → chain n kind bytes ≡ Some c → IsChain kind bytes c
unfolding chain
chain_found zero kind bytes c e = ended kind bytes c e
chain_found (suc n) kind [] c e = ended kind [] c e
chain_found (suc n) kind (next ∷ []) c e = ended kind (next ∷ []) c e
chain_found (suc n) kind (next ∷ size ∷ rest) c e =
    branch (kind == 0) _ _ (Some c) e
    (λ z f. ended kind (next ∷ size ∷ rest) c (rw z f))
    (λ z f. then_some (λ left. option_map (with_extension (first_extension kind size rest)) (chain n next left)) (after size rest) c f
    (λ left is g. map_some (with_extension (first_extension kind size rest)) (chain n next left) c g
    (λ more reads same. subst (IsChain kind (next ∷ size ∷ rest)) same
    (with_one kind next size rest left more z (after_found size rest left is) (chain_found n next left more reads)))))

-- ---- packets

if_carried_is : (p : UtpPacket) → may_carry p.kind p.size ≡ true → if_carried p ≡ Some p
if_carried_is p h = rw h refl

packet_read : (source target : Address) (size : ℕ) (bytes : List ℕ) (p : UtpPacket) → IsUtpPacket source target size bytes p
    → packet_in source target size bytes ≡ Some p
packet_read source target size bytes p i =
    let h : Header = i.h in
    let es : List UtpExtension = i.extensions in
    let rest : List ℕ = chained es 0 p.payload in
    let all : List ℕ = header_bytes h (first_of es 0) rest in
    let enough : nat_lt (length all) 20 ≡ false = le-ltb (length all) 20 (omega arith) in
    let reads : chain (length rest) (first_of es 0) rest ≡ Some (es, p.payload) = chain_read (length rest) es p.payload i.are_extensions (omega arith) in
    let left : size - 20 - (length rest - length p.payload) ≡ p.size = omega (arith, length_chained es p.payload, i.left) in
    let made : headed source target p.kind (take 20 all) (size - 20 - (length rest - length p.payload)) (said_by (es, p.payload)) ≡ p =
    ap (λ x. said source target h p.kind es p.payload x) left ∙ sym i.says in
    ap (packet_in source target size) i.is
    ∙ ap (λ x. if x then None else after_kind source target (take 20 all) (size - 20) rest) enough
    ∙ ap (option_and_then (λ kind. after_header source target kind (take 20 all) (size - 20) rest)) i.kind
    ∙ ap (option_and_then (λ c. if_carried (headed source target p.kind (take 20 all) (size - 20 - (length rest - length c.1)) (said_by c)))) reads
    ∙ ap if_carried made ∙ if_carried_is p i.may_carry

made : (source target : Address) (size : ℕ) (h : Header) (extension : ℕ) (rest : List ℕ) (p : UtpPacket) (kind : UtpKind) (c : List UtpExtension × List ℕ)
    → kind_of h.first ≡ Some kind → IsChain extension rest c
    → if_carried (headed source target kind (take 20 (header_bytes h extension [])) (size - 20 - (length rest - length c.1)) (said_by c)) ≡ Some p
    → IsUtpPacket source target size (header_bytes h extension rest) p
made source target size h extension rest p kind c is i e =
    let x : UtpPacket = headed source target kind (take 20 (header_bytes h extension [])) (size - 20 - (length rest - length c.1)) (said_by c) in
    let w : (may_carry x.kind x.size ≡ true) × (x ≡ p) = if_some (may_carry x.kind x.size) x p e in
    subst (IsUtpPacket source target size (header_bytes h extension rest)) w.1 (record {
      h = h;
      extensions = c.0;
      is = ap (λ y. header_bytes h y rest) i.first ∙ ap (header_bytes h (first_of c.0 0)) i.is;
      are_extensions = i.are;
      kind = is;
      left = omega (arith, ap length i.is, length_chained c.0 c.1);
      may_carry = w.0;
      says = refl;
    })

headed_found : (source target : Address) (size : ℕ) (h : Header) (extension : ℕ) (rest : List ℕ) (p : UtpPacket)
    → after_kind source target (take 20 (header_bytes h extension [])) (size - 20) rest ≡ Some p
    → IsUtpPacket source target size (header_bytes h extension rest) p
headed_found source target size h extension rest p e =
    then_some (λ kind. after_header source target kind (take 20 (header_bytes h extension [])) (size - 20) rest) (kind_of h.first) p e
    (λ kind is f. then_some (λ c. if_carried (headed source target kind (take 20 (header_bytes h extension []))
    (size - 20 - (length rest - length c.1)) (said_by c))) (chain (length rest) extension rest) p f
    (λ c reads g. made source target size h extension rest p kind c is (chain_found (length rest) extension rest c reads) g))

packet_found : (source target : Address) (size : ℕ) (bytes : List ℕ) (p : UtpPacket) → packet_in source target size bytes ≡ Some p
    → IsUtpPacket source target size bytes p
packet_found source target size
    (first ∷ x ∷ i ∷ j ∷ t0 ∷ t1 ∷ t2 ∷ t3 ∷ d0 ∷ d1 ∷ d2 ∷ d3 ∷ w0 ∷ w1 ∷ w2 ∷ w3 ∷ n0 ∷ n1 ∷ a0 ∷ a1 ∷ rest) p e =
    let h : Header = record {
      first = first;
      i0 = i;
      i1 = j;
      t0 = t0;
      t1 = t1;
      t2 = t2;
      t3 = t3;
      d0 = d0;
      d1 = d1;
      d2 = d2;
      d3 = d3;
      w0 = w0;
      w1 = w1;
      w2 = w2;
      w3 = w3;
      n0 = n0;
      n1 = n1;
      a0 = a0;
      a1 = a1;
    } in
    let w = if_none (nat_lt (length (header_bytes h x rest)) 20) (after_kind source target (take 20 (header_bytes h x [])) (size - 20) rest) p e in
    headed_found source target size h x rest p w.1
packet_found source target size bytes p e =
    absurd (no_some p e)

-- ---- datagrams

utp_in_read : (c : Contents) (p : UtpPacket) → IsUtpIn c p → utp_in c ≡ Some p
utp_in_read c p i =
    let u : Udp = i.u in
    let enough : nat_lt (length (udp_bytes u i.rest)) 8 ≡ false = le-ltb (length (udp_bytes u i.rest)) 8 (omega arith) in
    let source : Address = port_of c.source u.s0 u.s1 in
    let target : Address = port_of c.target u.d0 u.d1 in
    let size : ℕ = data_size u c.size in
    let reads : utp c.source c.target c.size (udp_bytes u i.rest) ≡ packet_in source target size (take size i.rest) =
    ap (λ x. if x then None else packet_in source target size (take size i.rest)) enough in
    ap (λ x. if x == 17 then utp c.source c.target c.size c.payload else None) i.protocol
    ∙ ap (utp c.source c.target c.size) i.is ∙ reads
    ∙ ap (packet_in source target size) (payload_read size i.rest i.data' i.has_data) ∙ packet_read source target size i.data' p i.has_packet

-- a datagram, and a packet in its data
pub record IsDatagram (c : Contents) (p : UtpPacket) : Type 0 where
  pub u : Udp
  pub rest : List ℕ
  pub is : c.payload ≡ udp_bytes u rest
  pub has : IsUtpPacket (port_of c.source u.s0 u.s1) (port_of c.target u.d0 u.d1) (data_size u c.size) (take (data_size u c.size) rest) p

datagram_found : (c : Contents) (bytes : List ℕ) (p : UtpPacket) → c.payload ≡ bytes → utp c.source c.target c.size bytes ≡ Some p → IsDatagram c p
datagram_found c (s0 ∷ s1 ∷ d0 ∷ d1 ∷ l0 ∷ l1 ∷ k0 ∷ k1 ∷ rest) p is e =
    let u : Udp = record {
      s0 = s0;
      s1 = s1;
      d0 = d0;
      d1 = d1;
      l0 = l0;
      l1 = l1;
      k0 = k0;
      k1 = k1;
    } in
    let source : Address = port_of c.source s0 s1 in
    let target : Address = port_of c.target d0 d1 in
    let w = if_none (nat_lt (length (udp_bytes u rest)) 8) (packet_in source target (data_size u c.size) (take (data_size u c.size) rest)) p e in
    record { u = u; rest = rest; is = is; has = packet_found source target (data_size u c.size) (take (data_size u c.size) rest) p w.1 }
datagram_found c bytes p is e = absurd (no_some p e)

utp_in_found : (c : Contents) (p : UtpPacket) → utp_in c ≡ Some p → IsUtpIn c p
utp_in_found c p e =
    branch (c.protocol == 17) _ _ (Some p) e
    (λ udp f. (let d : IsDatagram c p = datagram_found c c.payload p refl f in record {
      u = d.u;
      rest = d.rest;
      data' = take (data_size d.u c.size) d.rest;
      protocol = eqb-true c.protocol 17 udp;
      is = d.is;
      has_data = payload_found (data_size d.u c.size) d.rest;
      has_packet = d.has;
    }))
    (λ other f. absurd (no_some p f))

-- ---- all

pub utp_read : (link : ℕ) (bytes : List ℕ) (wire : ℕ) (p : UtpPacket) → IsUtpOf link bytes wire p → utp_of link bytes wire ≡ Some p
utp_read link bytes wire p i = ap (option_and_then utp_in) (carried_read link bytes wire i.contents i.carried_by) ∙ utp_in_read i.contents p i.has_packet

pub utp_found : (link : ℕ) (bytes : List ℕ) (wire : ℕ) (p : UtpPacket) → utp_of link bytes wire ≡ Some p → IsUtpOf link bytes wire p
utp_found link bytes wire p is =
    then_some utp_in (carried link bytes wire) p is
    (λ c has says. record { contents = c; carried_by = carried_found link bytes wire c has; has_packet = utp_in_found c p says })

pub utp_told : (link : ℕ) (bytes : List ℕ) (wire : ℕ) (o : Option UtpPacket) → o ≡ utp_of link bytes wire → IsUtpTold link bytes wire o
utp_told link bytes wire (Some p) e = utp_found link bytes wire p (sym e)
utp_told link bytes wire None e = λ (p : UtpPacket) (is : IsUtpOf link bytes wire p). no_some p (e ∙ utp_read link bytes wire p is)

none_then : (o : Option UtpKind) (f : UtpKind → Option UtpPacket) → ((kind : UtpKind) → f kind ≡ None) → option_and_then f o ≡ None
none_then None f h = refl
none_then (Some kind) f h = h kind

pub too_long : ChainHasToFit
too_long source target size h es kind next says rest are k long =
    let more : List ℕ = chained es kind (next ∷ says ∷ rest) in
    let all : List ℕ = header_bytes h (first_of es kind) more in
    let enough : nat_lt (length all) 20 ≡ false = le-ltb (length all) 20 (omega arith) in
    let none : chain (length more) (first_of es kind) more ≡ None = chain_too_long (length more) es kind next says rest are k long (omega arith) in
    ap (λ x. if x then None else after_kind source target (take 20 all) (size - 20) more) enough
    ∙ none_then (kind_of h.first) (λ kind. after_header source target kind (take 20 all) (size - 20) more)
    (λ found. ap (option_and_then (λ c. if_carried (headed source target found (take 20 all) (size - 20 - (length more - length c.1)) (said_by c)))) none)
