-- Packets in packets: what is within is shorter, is read, and stands there.
use Rattle.std.proofs.Common.{◌≡◌, ℕ, zero, suc, ◌+◌, ◌-◌, ◌*◌, ◌<◌, ◌≤◌, ◌==◌, Bool, true, false, List, [], ◌∷◌, ◌++◌, length, if◌then◌else◌}
use Rattle.std.proofs.Common.{Option, Some, None, option_and_then, option_map, ap, sym, ◌∙◌, refl, arith, inl, inr, eqb-true, eq-eqb, length-append}
use Rattle.std.proofs.lemmas.Bool.{cases_Bool, or_cases}
use Rattle.bt_packet.specs.Bytes.{word, after}
use Rattle.bt_packet.specs.Links.{gre}
use Rattle.bt_packet.specs.Ip.{Contents, authenticated, ipv4_carried, ip, ip_after, is_ip_in_ip, tunnelled, is_wrapped, unwrap, unwrapped, innermost}
use Rattle.bt_packet.specs.Frames.{Tag, tagged, Label, stacked, ipv4_bytes, ipv6_bytes, first_of}
use Rattle.bt_packet.specs.Segments.{Follows, IsLabelled, IsPpp, two, one, IsSession, IsNetwork, direct, labelled, in_session, IsTyped, IsPayload, whole, cut}
use Rattle.bt_packet.specs.Segments.{IsBridged, frame, another, IsGre, IsTunnelled, ip_in_ip, in_gre, IsAuthenticated, IsWithin, in_authentication, in_tunnel}
use Rattle.bt_packet.specs.Segments.{AreWithin, IsV4, IsV6, IsIp, version_4, version_6}
use Rattle.bt_packet.proofs.Frames.{length_extended}
use Rattle.bt_packet.proofs.Found.{then_some, map_some, no_some, some_is, branch, after_found, gre_found}
use Rattle.bt_packet.proofs.FoundIp.{ip_found}
use Rattle.bt_packet.proofs.Read.{after_read, gre_read, ip_read}
use Rattle.bt_packet.proofs.Tunnels.{unwrapped_plain}

-- ---- what is within is shorter

follows_length : (n : ℕ) (bytes rest : List ℕ) → Follows n bytes rest → length rest ≤ length bytes
follows_length n bytes rest f = omega (arith, ap length f.is, length-append f.header rest)

tagged_length : (tags : List Tag) (rest : List ℕ) → length rest ≤ length (tagged tags rest)
tagged_length [] rest = omega arith
tagged_length (t ∷ tags) rest = let l : length rest ≤ length (tagged tags rest) = tagged_length tags rest in omega (arith, l)

stacked_length : (ls : List Label) (rest : List ℕ) → length rest ≤ length (stacked ls rest)
stacked_length [] rest = omega arith
stacked_length (l ∷ ls) rest = let k : length rest ≤ length (stacked ls rest) = stacked_length ls rest in omega (arith, k)

ppp_length : (bytes packet : List ℕ) → IsPpp bytes packet → length packet ≤ length bytes
ppp_length bytes packet (two a is h) = omega (arith, ap length is)
ppp_length bytes packet (one a is h) = omega (arith, ap length is)

network_length : (type : ℕ) (bytes packet : List ℕ) → IsNetwork type bytes packet → length packet ≤ length bytes
network_length type bytes packet (direct h is) = omega (arith, ap length is)
network_length type bytes packet (labelled h i) =
    omega (arith, ap length i.is, stacked_length i.above (stacked (i.last ∷ []) packet), stacked_length (i.last ∷ []) packet)
network_length type bytes packet (in_session e i) = omega (arith, ap length i.is, ppp_length i.rest packet i.has_packet)

typed_length : (bytes packet : List ℕ) → IsTyped bytes packet → length packet + 2 ≤ length bytes
typed_length bytes packet i =
    omega (arith, ap length i.is, tagged_length i.tags (i.a ∷ i.b ∷ i.rest), network_length (word i.a i.b) i.rest packet i.network)

bridged_length : (a b : ℕ) (bytes packet : List ℕ) → IsBridged a b bytes packet → length packet ≤ length bytes
bridged_length a b bytes packet (frame rest w f t) = omega (arith, follows_length 12 bytes rest f, typed_length rest packet t)
bridged_length a b bytes packet (another w t) = omega (arith, typed_length (a ∷ b ∷ bytes) packet t)

tunnelled_length : (protocol : ℕ) (payload packet : List ℕ) → IsTunnelled protocol payload packet → length packet ≤ length payload
tunnelled_length protocol payload packet (ip_in_ip h is) = omega (arith, ap length is)
tunnelled_length protocol payload packet (in_gre e i) =
    omega (arith, ap length i.is, follows_length _ i.more i.rest i.fields, bridged_length i.a i.b i.rest packet i.bridged)

payload_length : (size : ℕ) (bytes payload : List ℕ) → IsPayload size bytes payload → length payload ≤ length bytes
payload_length size bytes payload (whole padding is l) = omega (arith, ap length is, length-append payload padding)
payload_length size bytes payload (cut is h) = omega (arith, ap length is)

ip_length : (wire : ℕ) (p : List ℕ) (c : Contents) → IsIp wire p c → length c.payload < length p
ip_length wire p c (version_4 i) =
    omega (arith, ap length i.is, length-append i.h.options i.rest, payload_length c.size i.rest c.payload i.payload)
ip_length wire p c (version_6 i) =
    omega (
      arith,
      ap length i.is,
      length-append i.h.source (i.h.target ++ i.rest),
      length-append i.h.target i.rest,
      payload_length i.size i.rest i.payload i.has_payload,
      ap length i.begins,
      length_extended i.extensions c.protocol c.payload,
    )

within_length : (o c : Contents) → IsWithin o c → length c.payload < length o.payload
within_length o c (in_authentication e i) = omega (arith, ap length i.is, follows_length _ i.more c.payload i.header)
within_length o c (in_tunnel packet t i) = omega (arith, tunnelled_length o.protocol o.payload packet t, ip_length _ packet c i)

-- ---- it is read

tunnel_is : (protocol : ℕ) (payload packet : List ℕ) → IsTunnelled protocol payload packet
    → (is_wrapped protocol ≡ true) × ((protocol == 51) ≡ false) × (tunnelled protocol payload ≡ Some packet)
tunnel_is protocol payload packet (ip_in_ip h e) =
    elim (or_cases (protocol == 4) (protocol == 41) h) [
      | inl f ↦ (let n : protocol ≡ 4 = eqb-true protocol 4 f in (rw n refl, rw n refl, rw n (ap (λ (x : List ℕ). Some x) e)))
      | inr f ↦ (let n : protocol ≡ 41 = eqb-true protocol 41 f in (rw n refl, rw n refl, rw n (ap (λ (x : List ℕ). Some x) e)))
    ]
tunnel_is protocol payload packet (in_gre n i) = (rw n refl, rw n refl, rw n (gre_read payload packet i))

behind : (o : Contents) (next words : ℕ) (more : List ℕ)
    → authenticated o (next ∷ words ∷ more)
    ≡ option_map (ipv4_carried next o.source o.target (o.size - (4 * words + 8))) (after (4 * words + 6) more)
unfolding authenticated
behind o next words more = refl

authenticated_read : (o c : Contents) → IsAuthenticated o c → authenticated o o.payload ≡ Some c
authenticated_read o c i =
    ap (authenticated o) i.is ∙ behind o c.protocol i.words i.more
    ∙ ap (option_map (ipv4_carried c.protocol o.source o.target (o.size - (4 * i.words + 8)))) (after_read (4 * i.words + 6) i.more c.payload i.header)
    ∙ rw (← i.left, ← i.source, ← i.target) refl

within_read : (o c : Contents) → IsWithin o c → (is_wrapped o.protocol ≡ true) × (unwrap o ≡ Some c)
within_read o c (in_authentication e i) = (rw e refl, (let f : (o.protocol == 51) ≡ true = eq-eqb o.protocol 51 e in rw f (authenticated_read o c i)))
within_read o c (in_tunnel packet t i) =
    let x : (is_wrapped o.protocol ≡ true) × ((o.protocol == 51) ≡ false) × (tunnelled o.protocol o.payload ≡ Some packet) =
    tunnel_is o.protocol o.payload packet t in
    (x.0, rw x.1 (ap (option_and_then (ip_after o.size o.payload)) x.2 ∙ ip_read _ packet c i))

unwrapped_step : (n : ℕ) (c : Contents) → is_wrapped c.protocol ≡ true → unwrapped (suc n) c ≡ option_and_then (unwrapped n) (unwrap c)
unfolding unwrapped
unwrapped_step n c wrapped = rw wrapped refl

pub unwrapped_read : (n : ℕ) (o : Contents) (between : List Contents) (c : Contents) → AreWithin o between c → is_wrapped c.protocol ≡ false
    → length o.payload ≤ n → unwrapped n o ≡ Some c
unwrapped_read n o [] c is plain h = ap (unwrapped n) is ∙ unwrapped_plain n c plain
unwrapped_read zero o (i ∷ more) c is plain h = absurd (omega (arith, within_length o i is.0))
unwrapped_read (suc n) o (i ∷ more) c is plain h =
    let x : (is_wrapped o.protocol ≡ true) × (unwrap o ≡ Some i) = within_read o i is.0 in
    let l : length i.payload < length o.payload = within_length o i is.0 in
    unwrapped_step n o x.0 ∙ ap (option_and_then (unwrapped n)) x.1 ∙ unwrapped_read n i more c is.1 plain (omega arith)

-- ---- it stands there

authenticated_found : (o : Contents) (p : List ℕ) (c : Contents) → o.payload ≡ p → authenticated o p ≡ Some c → IsAuthenticated o c
unfolding authenticated
authenticated_found o (next ∷ words ∷ more) c same e =
    map_some (ipv4_carried next o.source o.target (o.size - (4 * words + 8))) (after (4 * words + 6) more) c e
    (λ rest is says. (let held : rest ≡ c.payload = ap (λ (x : Contents). x.payload) says in
    let first : next ≡ c.protocol = ap (λ (x : Contents). x.protocol) says in
    record {
      words = words;
      more = more;
      is = same ∙ ap (λ (x : ℕ). x ∷ words ∷ more) first;
      header = rw (← held) (after_found (4 * words + 6) more rest is);
      left = sym (ap (λ (x : Contents). x.size) says);
      source = sym (ap (λ (x : Contents). x.source) says);
      target = sym (ap (λ (x : Contents). x.target) says);
    }))
authenticated_found o (a ∷ []) c same e = absurd (no_some c e)
authenticated_found o [] c same e = absurd (no_some c e)

only : (protocol : ℕ) → is_wrapped protocol ≡ true → (protocol == 47) ≡ false → (protocol == 51) ≡ false → is_ip_in_ip protocol ≡ true
only protocol wrapped a b =
    elim (or_cases (is_ip_in_ip protocol) _ wrapped) [
      | inl l ↦ l
      | inr r ↦ elim (or_cases (protocol == 47) (protocol == 51) r)
          [ inl x ↦ (let z : true ≡ false = sym x ∙ a in absurd cc) | inr x ↦ (let z : true ≡ false = sym x ∙ b in absurd cc) ]
    ]

tunnel_found : (protocol : ℕ) (payload packet : List ℕ) → is_wrapped protocol ≡ true → (protocol == 51) ≡ false → tunnelled protocol payload ≡ Some packet
    → IsTunnelled protocol payload packet
tunnel_found protocol payload packet wrapped other e =
    branch (protocol == 47) _ _ (Some packet) e
    (λ l f. in_gre (eqb-true protocol 47 l) (gre_found payload packet f))
    (λ l f. ip_in_ip (only protocol wrapped l other) (some_is payload packet f))

within_found : (o c : Contents) → is_wrapped o.protocol ≡ true → unwrap o ≡ Some c → IsWithin o c
within_found o c wrapped e =
    branch (o.protocol == 51) _ _ (Some c) e
    (λ l f. in_authentication (eqb-true o.protocol 51 l) (authenticated_found o o.payload c refl f))
    (λ l f. then_some (ip_after o.size o.payload) (tunnelled o.protocol o.payload) c f
    (λ packet is t. in_tunnel packet (tunnel_found o.protocol o.payload packet wrapped l is) (ip_found _ packet c t)))

out_of_turns : (c : Contents) → is_wrapped c.protocol ≡ true → unwrapped zero c ≡ None
unfolding unwrapped
out_of_turns c wrapped = rw wrapped refl

-- it is c itself
at_once : (n : ℕ) (o c : Contents) → is_wrapped o.protocol ≡ false → unwrapped n o ≡ Some c
    → (between : List Contents) × AreWithin o between c × (is_wrapped c.protocol ≡ false)
at_once n o c plain e = let same : o ≡ c = some_is o c (sym (unwrapped_plain n o plain) ∙ e) in ([], same, rw (← same) plain)

pub unwrapped_found : (n : ℕ) (o c : Contents) → unwrapped n o ≡ Some c
    → (between : List Contents) × AreWithin o between c × (is_wrapped c.protocol ≡ false)
unwrapped_found zero o c e =
    elim (cases_Bool (is_wrapped o.protocol)) [ inl w ↦ absurd (no_some c (sym (out_of_turns o w) ∙ e)) | inr plain ↦ at_once zero o c plain e ]
unwrapped_found (suc n) o c e =
    elim (cases_Bool (is_wrapped o.protocol)) [
      | inl w ↦ then_some (unwrapped n) (unwrap o) c (sym (unwrapped_step n o w) ∙ e)
          (λ i is t. (let x : (between : List Contents) × AreWithin i between c × (is_wrapped c.protocol ≡ false) = unwrapped_found n i c t in
          (i ∷ x.0, (within_found o i w is, x.1), x.2)))
      | inr plain ↦ at_once (suc n) o c plain e
    ]

-- ---- how often doesn't matter

shorter : (o c : Contents) → is_wrapped o.protocol ≡ true → unwrap o ≡ Some c → length c.payload < length o.payload
shorter o c wrapped e = within_length o c (within_found o c wrapped e)

is_none : (x : Option Contents) → ((d : Contents) → x ≡ Some d → ⊥) → x ≡ None
is_none None h = refl
is_none (Some d) h = absurd (h d refl)

nothing_in : (n : ℕ) (c : Contents) → is_wrapped c.protocol ≡ true → length c.payload ≤ 0 → unwrapped n c ≡ None
nothing_in zero c w h = out_of_turns c w
nothing_in (suc n) c w h =
    let none : unwrap c ≡ None = is_none (unwrap c) (λ d e. omega (arith, h, shorter c d w e)) in
    unwrapped_step n c w ∙ ap (option_and_then (unwrapped n)) none

either : (n m : ℕ) (c : Contents) → length c.payload ≤ 0 → unwrapped n c ≡ unwrapped m c
either n m c h =
    elim (cases_Bool (is_wrapped c.protocol)) [
      | inl w ↦ nothing_in n c w h ∙ sym (nothing_in m c w h)
      | inr plain ↦ unwrapped_plain n c plain ∙ sym (unwrapped_plain m c plain)
    ]

bind_same : (f g : Contents → Option Contents) (o : Option Contents) → ((d : Contents) → o ≡ Some d → f d ≡ g d) → option_and_then f o ≡ option_and_then g o
bind_same f g None h = refl
bind_same f g (Some d) h = h d refl

enough : (k n m : ℕ) (c : Contents) → length c.payload ≤ k → length c.payload ≤ n → length c.payload ≤ m → unwrapped n c ≡ unwrapped m c
enough zero n m c hk hn hm = either n m c hk
enough (suc k) zero m c hk hn hm = either zero m c hn
enough (suc k) (suc n) zero c hk hn hm = either (suc n) zero c hm
enough (suc k) (suc n) (suc m) c hk hn hm =
    elim (cases_Bool (is_wrapped c.protocol)) [
      | inl w ↦ unwrapped_step n c w
          ∙ bind_same (unwrapped n) (unwrapped m) (unwrap c)
          (λ d e. (let s : length d.payload < length c.payload = shorter c d w e in
          enough k n m d (omega (arith, s, hk)) (omega (arith, s, hn)) (omega (arith, s, hm))))
          ∙ sym (unwrapped_step m c w)
      | inr plain ↦ unwrapped_plain (suc n) c plain ∙ sym (unwrapped_plain (suc m) c plain)
    ]

step_of : (n : ℕ) (c d : Contents) → n ≡ length c.payload → is_wrapped c.protocol ≡ true → unwrap c ≡ Some d → unwrapped n c ≡ unwrapped (length d.payload) d
step_of zero c d e w is = absurd (omega (arith, e, shorter c d w is))
step_of (suc n) c d e w is =
    unwrapped_step n c w ∙ ap (option_and_then (unwrapped n)) is
    ∙ enough (length d.payload) n (length d.payload) d (omega arith) (omega (arith, e, shorter c d w is)) (omega arith)

pub innermost_step : (c d : Contents) → is_wrapped c.protocol ≡ true → Some d ≡ unwrap c → innermost c ≡ innermost d
innermost_step c d w is = step_of (length c.payload) c d refl w (sym is)

none_of : (n : ℕ) (c : Contents) → is_wrapped c.protocol ≡ true → None ≡ unwrap c → None ≡ unwrapped n c
none_of zero c w is = sym (out_of_turns c w)
none_of (suc n) c w is = sym (unwrapped_step n c w ∙ ap (option_and_then (unwrapped n)) (sym is))

pub innermost_none : (c : Contents) → is_wrapped c.protocol ≡ true → None ≡ unwrap c → None ≡ innermost c
innermost_none c w is = none_of (length c.payload) c w is

pub innermost_shorter : (c d : Contents) → is_wrapped c.protocol ≡ true → Some d ≡ unwrap c → length d.payload < length c.payload
innermost_shorter c d w is = shorter c d w (sym is)
