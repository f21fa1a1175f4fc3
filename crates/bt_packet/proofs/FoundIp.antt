-- What is read of a packet stands in it.
use Rattle.std.proofs.Common.{◌≡◌, ℕ, zero, suc, ◌+◌, ◌-◌, ◌*◌, ◌/◌, ◌≤◌, ◌==◌, ◌||◌, nat_lt, Bool, true, false, List, [], ◌∷◌, ◌++◌, length, take, drop}
use Rattle.std.proofs.Common.{Option, Some, None, option_and_then, option_map, if◌then◌else◌, ap, sym}
use Rattle.std.proofs.Common.{◌∙◌, refl, arith, inl, inr, ltb-false, eqb-true, append-nil}
use Rattle.std.proofs.Math.ListN.{drop_of_length-le}
use Rattle.std.proofs.lemmas.Bool.{cases_Bool, cases_lt}
use Rattle.std.proofs.lemmas.List.{take-append-drop, length-take-le, length-drop, drop-drop}
use Rattle.bt_packet.specs.Bytes.{word, after}
use Rattle.bt_packet.specs.Ip.{Contents, is_fragment, total_of, ipv4, ipv4_header, ipv4_payload, ipv4_carried, ipv4_whole}
use Rattle.bt_packet.specs.Ip.{is_extension, is_whole, content_size, past, upper, ipv6, ipv6_carried, ipv6_whole, ip, ip_after, innermost, outer, carried}
use Rattle.bt_packet.specs.Links.{packet_in}
use Rattle.bt_packet.specs.Tcp.{TcpSegment, tcp, segment_in, segment_of}
use Rattle.bt_packet.specs.Frames.{Extension, first_of, extended, AreExtensions, Tcp, tcp_bytes, said}
use Rattle.bt_packet.specs.Segments.{Follows, IsPayload, IsV4, IsV6, IsIp, version_4, version_6, HasOptions, IsTcpSegment, IsCarriedBy, IsSegmentOf}
use Rattle.bt_packet.specs.declared.address.Host.{Host}
use Rattle.bt_packet.specs.declared.address.Host.TheVariants.{V4, V6}
use Rattle.bt_packet.proofs.Extensions.{whole_front}
use Rattle.bt_packet.proofs.Found.{if_none, map_some, then_some, after_found, payload_found, branch, no_some, some_is}

-- ---- version 4

neither : (a b : Bool) → (a || b) ≡ false → (a ≡ false) × (b ≡ false)
neither true b e = absurd cc
neither false b e = (refl, e)

-- options, and a payload
record Body (header total : ℕ) (rest payload : List ℕ) : Type 0 where
  options : List ℕ
  more : List ℕ
  is : rest ≡ options ++ more
  header_is : header ≡ 20 + length options
  within : header ≤ total
  cut : IsPayload (total - header) more payload

body_found : (header total : ℕ) (rest payload : List ℕ) → ipv4_payload header total rest ≡ Some payload → Body header total rest payload
unfolding ipv4_payload
body_found header total rest payload e =
    let p : ((nat_lt header 20 || nat_lt total header) ≡ false) × (option_map (take (total - header)) (after (header - 20) rest) ≡ Some payload) =
    if_none (nat_lt header 20 || nat_lt total header) (option_map (take (total - header)) (after (header - 20) rest)) payload e in
    let q : (nat_lt header 20 ≡ false) × (nat_lt total header ≡ false) = neither (nat_lt header 20) (nat_lt total header) p.0 in
    let least : 20 ≤ header = ltb-false header 20 q.0 in
    let most : header ≤ total = ltb-false total header q.1 in
    map_some (take (total - header)) (after (header - 20) rest) payload p.1
    (λ more is t. (let f : Follows (header - 20) rest more = after_found (header - 20) rest more is in
    let size : length f.header ≡ header - 20 = f.size in
    record { options = f.header; more = more; is = f.is; header_is = omega arith; within = most; cut = rw (← t) (payload_found (total - header) more) }))

pub ipv4_found : (wire : ℕ) (p : List ℕ) (c : Contents) → ipv4 wire p ≡ Some c → (first : ℕ) (rest : List ℕ) → p ≡ first ∷ rest → first / 16 ≡ 4 → IsV4 wire p c
unfolding ipv4
ipv4_found wire (a ∷ b ∷ t0 ∷ t1 ∷ e ∷ f ∷ g ∷ h ∷ i ∷ j ∷ k ∷ l ∷ m ∷ n ∷ o ∷ p ∷ q ∷ r ∷ s ∷ t ∷ rest) c is first more same version =
    let header : ℕ = ipv4_header a in
    let total' : ℕ = total_of (word t0 t1) wire in
    let source : Host = V4 (m ∷ n ∷ o ∷ p ∷ []) in
    let target : Host = V4 (q ∷ r ∷ s ∷ t ∷ []) in
    let w : (is_fragment (word g h) ≡ false) × (ipv4_whole header total' j source target rest ≡ Some c) =
    if_none (is_fragment (word g h)) (ipv4_whole header total' j source target rest) c is in
    map_some (ipv4_carried j source target (total' - header)) (ipv4_payload header total' rest) c w.1
    (λ payload pays says. (let y : Body header total' rest payload = body_found header total' rest payload pays in
    let head : first ≡ a = cc in
    let size : total' - header ≡ c.size = ap (λ (x : Contents). x.size) says in
    let total : total' ≡ 20 + length y.options + c.size = omega (arith, y.header_is, y.within, size) in
    let held : payload ≡ c.payload = ap (λ (x : Contents). x.payload) says in
    let cut : IsPayload c.size y.more c.payload = rw (← size, ← held) y.cut in
    record {
      h = record {
        first = a;
        service = b;
        t0 = t0;
        t1 = t1;
        i0 = e;
        i1 = f;
        f0 = g;
        f1 = h;
        time_to_live = i;
        protocol = j;
        k0 = k;
        k1 = l;
        s0 = m;
        s1 = n;
        s2 = o;
        s3 = p;
        d0 = q;
        d1 = r;
        d2 = s;
        d3 = t;
        options = y.options;
      };
      rest = y.more;
      is = ap (λ (x : List ℕ). a ∷ b ∷ t0 ∷ t1 ∷ e ∷ f ∷ g ∷ h ∷ i ∷ j ∷ k ∷ l ∷ m ∷ n ∷ o ∷ p ∷ q ∷ r ∷ s ∷ t ∷ x) y.is;
      version = rw (← head) version;
      header_length = y.header_is;
      total_length = total;
      no_fragment = w.0;
      payload = cut;
      protocol = sym (ap (λ (x : Contents). x.protocol) says);
      source = sym (ap (λ (x : Contents). x.source) says);
      target = sym (ap (λ (x : Contents). x.target) says);
    }))
ipv4_found wire _ c is first more same version = absurd (no_some c is)

-- ---- version 6

record Chain (protocol : ℕ) (bytes : List ℕ) (last : ℕ) (rest : List ℕ) : Type 0 where
  extensions : List Extension
  is : bytes ≡ extended extensions last rest
  first : protocol ≡ first_of extensions last
  are : AreExtensions extensions
  ends : is_extension last ≡ false

no_more : (protocol : ℕ) (bytes : List ℕ) (p : ℕ × List ℕ)
    → (let found : ℕ × List ℕ = (protocol, bytes) in (if is_extension protocol then None else Some found) ≡ Some p) → Chain protocol bytes p.0 p.1
no_more protocol bytes q e =
    let found : ℕ × List ℕ = (protocol, bytes) in
    let p : (is_extension protocol ≡ false) × (Some found ≡ Some q) = if_none (is_extension protocol) (Some found) q e in
    let same : found ≡ q = some_is found q p.1 in
    let a : protocol ≡ q.0 = ap (λ (x : ℕ × List ℕ). x.0) same in
    record { extensions = []; is = ap (λ (x : ℕ × List ℕ). x.1) same; first = a; are = tt; ends = rw (← a) p.0 }

if_then : {A : Type 0} (b : Bool) (x : Option A) (y : A) → (if b then x else None) ≡ Some y → (b ≡ true) × (x ≡ Some y)
if_then true x y e = (refl, e)
if_then false x y e = absurd cc

one_header : (protocol next words : ℕ) (more tail : List ℕ) (last : ℕ) (rest : List ℕ) → is_extension protocol ≡ true → is_whole protocol more ≡ true
    → Follows (content_size protocol words) more tail → Chain next tail last rest → Chain protocol (next ∷ words ∷ more) last rest
one_header protocol next words more tail last rest ext whole f k = record {
  extensions = record { kind = protocol; words = words; content = f.header } ∷ k.extensions;
  is = ap (λ (x : List ℕ). next ∷ words ∷ x) (f.is ∙ ap (λ (x : List ℕ). f.header ++ x) k.is)
      ∙ ap (λ (x : ℕ). x ∷ words ∷ (f.header ++ extended k.extensions last rest)) k.first;
  first = refl;
  are = (ext, f.size, sym (whole_front protocol words f.header tail f.size) ∙ sym (ap (is_whole protocol) f.is) ∙ whole, k.are);
  ends = k.ends;
}

chain_found : (n protocol : ℕ) (bytes : List ℕ) (p : ℕ × List ℕ) → upper n protocol bytes ≡ Some p → Chain protocol bytes p.0 p.1
unfolding upper
chain_found zero protocol bytes p e = no_more protocol bytes p e
chain_found (suc n) protocol [] p e = no_more protocol [] p e
chain_found (suc n) protocol (a ∷ []) p e = no_more protocol (a ∷ []) p e
chain_found (suc n) protocol (next ∷ words ∷ more) p e =
    elim (cases_Bool (is_extension protocol)) [
      | inl ext ↦ (let e' : option_and_then (upper n next) (past protocol words more) ≡ Some p = rw ext at e in
          then_some (upper n next) (past protocol words more) p e'
          (λ tail is t. (let q : (is_whole protocol more ≡ true) × (after (content_size protocol words) more ≡ Some tail) =
          if_then (is_whole protocol more) (after (content_size protocol words) more) tail is in
          one_header protocol next words more tail p.0 p.1 ext q.0 (after_found (content_size protocol words) more tail q.1) (chain_found n next tail p t))))
      | inr other ↦ (let found : ℕ × List ℕ = (protocol, next ∷ words ∷ more) in let e' : Some found ≡ Some p = rw other at e in
          no_more protocol (next ∷ words ∷ more) p (rw other e'))
    ]

pub ipv6_found : (wire : ℕ) (p : List ℕ) (c : Contents) → ipv6 wire p ≡ Some c → (first : ℕ) (rest : List ℕ) → p ≡ first ∷ rest → first / 16 ≡ 6 → IsV6 wire p c
unfolding ipv6
ipv6_found wire (a ∷ b ∷ f0 ∷ f1 ∷ l0 ∷ l1 ∷ next ∷ limit ∷ rest) c is first more same version =
    let size : ℕ = total_of (word l0 l1) (wire - 40) in
    let payload : List ℕ = take size (drop 32 rest) in
    let source : List ℕ = take 16 rest in
    let target : List ℕ = take 16 (drop 16 rest) in
    let w : (nat_lt (length rest) 32 ≡ false) × (ipv6_whole next (V6 source) (V6 target) size payload ≡ Some c) =
    if_none (nat_lt (length rest) 32) (ipv6_whole next (V6 source) (V6 target) size payload) c is in
    let long : 32 ≤ length rest = ltb-false (length rest) 32 w.0 in
    let head : first ≡ a = cc in
    let cut' : drop 16 rest ≡ target ++ drop 32 rest = sym (take-append-drop 16 (drop 16 rest)) ∙ ap (λ (x : List ℕ). target ++ x) (drop-drop 16 16 rest) in
    let cut : rest ≡ source ++ (target ++ drop 32 rest) = sym (take-append-drop 16 rest) ∙ ap (λ (x : List ℕ). source ++ x) cut' in
    map_some (ipv6_carried (V6 source) (V6 target) size payload) (upper (length payload) next payload) c w.1
    (λ q found says. (let k : Chain next payload q.0 q.1 = chain_found (length payload) next payload q found in
    let last : q.0 ≡ c.protocol = ap (λ (x : Contents). x.protocol) says in
    let above : q.1 ≡ c.payload = ap (λ (x : Contents). x.payload) says in
    let left : size - (length payload - length q.1) ≡ c.size = ap (λ (x : Contents). x.size) says in
    record {
      h = record { first = a; class = b; f0 = f0; f1 = f1; l0 = l0; l1 = l1; limit = limit; source = source; target = target };
      extensions = k.extensions;
      size = size;
      rest = drop 32 rest;
      payload = payload;
      is = ap (λ (x : List ℕ). a ∷ b ∷ f0 ∷ f1 ∷ l0 ∷ l1 ∷ next ∷ limit ∷ x) cut
          ∙ ap (λ (x : ℕ). a ∷ b ∷ f0 ∷ f1 ∷ l0 ∷ l1 ∷ x ∷ limit ∷ (source ++ (target ++ drop 32 rest))) (k.first ∙ ap (first_of k.extensions) last);
      version = rw (← head) version;
      payload_length = refl;
      has_payload = payload_found size (drop 32 rest);
      begins = k.is ∙ ap (λ (x : ℕ). extended k.extensions x q.1) last ∙ ap (extended k.extensions c.protocol) above;
      are_extensions = k.are;
      ends = rw (← last) k.ends;
      left = sym left ∙ ap (λ (x : List ℕ). size - (length payload - length x)) above;
      source_length = length-take-le 16 rest (omega arith);
      target_length = length-take-le 16 (drop 16 rest) (omega (arith, length-drop 16 rest));
      source = sym (ap (λ (x : Contents). x.source) says);
      target = sym (ap (λ (x : Contents). x.target) says);
    }))
ipv6_found wire _ c is first more same version = absurd (no_some c is)

-- ---- either

pub ip_found : (wire : ℕ) (p : List ℕ) (c : Contents) → ip wire p ≡ Some c → IsIp wire p c
unfolding ip
ip_found wire [] c is = absurd (no_some c is)
ip_found wire (first ∷ rest) c is =
    branch (first / 16 == 4) _ _ (Some c) is
    (λ v f. version_4 (ipv4_found wire (first ∷ rest) c f first rest refl (eqb-true (first / 16) 4 v)))
    (λ v f. branch (first / 16 == 6) _ _ (Some c) f
    (λ v f. version_6 (ipv6_found wire (first ∷ rest) c f first rest refl (eqb-true (first / 16) 6 v)))
    (λ v f. absurd (no_some c f)))
