-- What stands in a frame is read.
use Rattle.std.proofs.Common.{◌≡◌, ℕ, zero, suc, ◌+◌, ◌-◌, ◌*◌, ◌/◌, ◌%◌, ◌≤◌, ◌==◌, nat_lt, true, false, List, [], ◌∷◌, ◌++◌, length, take, drop}
use Rattle.std.proofs.Common.{Some, option_and_then, option_map, ap, sym, ◌∙◌, refl, arith, inl, inr, eqb-true, eq-eqb, ne_eqb, le-ltb, length-append, take_all}
use Rattle.std.proofs.Math.Seq.{drop-append_seam, take-append_seam}
use Rattle.std.proofs.Math.ListN.{drop_of_length-le}
use Rattle.std.proofs.lemmas.Bool.{or_cases}
use Rattle.std.proofs.lemmas.List.{drop-drop}
use Rattle.bt_packet.specs.Bytes.{word, low_word, low_long_word, after}
use Rattle.bt_packet.specs.Links.{is_tag, is_ip, is_mpls, is_bottom, unlabelled, is_ppp_ip, ppp_low, ppp, unframed, session, network}
use Rattle.bt_packet.specs.Links.{after_type, typed, cooked as cooked_of, is_loopback, is_raw, is_ppp, packet_in, is_gre, gre_fields, bridged, gre}
use Rattle.bt_packet.specs.Links.{is_plain_data, fourth_address, qos_control, snap, sequenced, wireless as wireless_of, radiotap as radiotap_of}
use Rattle.bt_packet.specs.Links.{padded, attributes, all_attributes, plain_packet_in, tapped as tapped_of}
use Rattle.bt_packet.specs.Ip.{Contents, ipv4, ipv4_payload, ipv4_carried, upper, ipv6, ipv6_carried, ipv6_whole, ip}
use Rattle.bt_packet.specs.Tcp.{TcpSegment, tcp, segment_in}
use Rattle.bt_packet.specs.Frames.{Label, stacked, AreAbove, Ipv4, ipv4_bytes, ipv4_source, ipv4_target, Ipv6, ipv6_bytes, first_of, Tcp, tcp_bytes, said}
use Rattle.bt_packet.specs.Segments.{Follows, IsLabelled, IsPpp, two, one, IsFramed, framed, bare, IsSession, IsNetwork, direct, labelled, in_session}
use Rattle.bt_packet.specs.Segments.{IsTyped, IsCooked, IsPacket, IsPayload, ethernet, cooked}
use Rattle.bt_packet.specs.Segments.{cooked_2, loopback, raw, point_to_point, over_ethernet, whole, cut}
use Rattle.bt_packet.specs.Segments.{IsSnap, IsWireless, IsRadiotap, Attribute, in_a_row, AreOthers, IsLogged, wireless, radiotap, logged}
use Rattle.bt_packet.specs.Segments.{IsTapped, IsInFrame, plain_frame, tapped}
use Rattle.bt_packet.specs.Segments.{IsBridged, frame, another, IsGre, IsV4, IsV6, IsIp, version_4, version_6, HasOptions, IsTcpSegment}
use Rattle.bt_packet.specs.declared.address.Host.{Host}
use Rattle.bt_packet.specs.declared.address.Host.TheVariants.{V6}
use Rattle.bt_packet.proofs.Types.{after_network}
use Rattle.bt_packet.proofs.Frames.{after_append, tags_read, payload_given, extensions_read}

-- ---- links

pub after_read : (n : ℕ) (bytes rest : List ℕ) → Follows n bytes rest → after n bytes ≡ Some rest
after_read n bytes rest f = rw f.is (after_append n f.header rest f.size)

-- ---- MPLS and PPP

labels_read : (above : List Label) (last : Label) (packet : List ℕ) → AreAbove above → is_bottom last.bits ≡ true
    → unlabelled (stacked above (stacked (last ∷ []) packet)) ≡ Some packet
unfolding unlabelled
labels_read [] last packet are e = rw e refl
labels_read (l ∷ above) last packet are e = rw are.0 (labels_read above last packet are.1 e)

labelled_read : (bytes packet : List ℕ) → IsLabelled bytes packet → unlabelled bytes ≡ Some packet
labelled_read bytes packet i = ap unlabelled i.is ∙ labels_read i.above i.last packet i.are_above i.is_last

low_read : (a : ℕ) (packet : List ℕ) → is_ppp_ip a ≡ true → ppp_low (a ∷ packet) ≡ Some packet
unfolding ppp_low
low_read a packet h = rw h refl

-- its first byte is neither 0 nor that of a frame like HDLC's
no_frame : (a : ℕ) → is_ppp_ip a ≡ true → ((a == 0) ≡ false) × ((a == 0xff) ≡ false)
no_frame a h =
    elim (or_cases (a == 0x21) (a == 0x57) h) [
      | inl e ↦ (let n : a ≡ 0x21 = eqb-true a 0x21 e in (rw n refl, rw n refl))
      | inr e ↦ (let n : a ≡ 0x57 = eqb-true a 0x57 e in (rw n refl, rw n refl))
    ]

ppp_read : (bytes packet : List ℕ) → IsPpp bytes packet → ppp bytes ≡ Some packet
unfolding ppp
ppp_read bytes packet (two a is h) = rw is (low_read a packet h)
ppp_read bytes packet (one a is h) = rw (is, (no_frame a h).0) (low_read a packet h)

bare_is : (a : ℕ) (rest : List ℕ) → (a == 0xff) ≡ false → unframed (a ∷ rest) ≡ a ∷ rest
unfolding unframed
bare_is a [] e = refl
bare_is a (b ∷ rest) e = rw e refl

bare_read : (bytes packet : List ℕ) → IsPpp bytes packet → unframed bytes ≡ bytes
bare_read bytes packet (two a is h) = rw is (bare_is 0 (a ∷ packet) refl)
bare_read bytes packet (one a is h) = rw is (bare_is a packet (no_frame a h).1)

framed_is : (rest : List ℕ) → unframed (0xff ∷ 0x03 ∷ rest) ≡ rest
unfolding unframed
framed_is rest = refl

framed_read : (bytes packet : List ℕ) → IsFramed bytes packet → ppp (unframed bytes) ≡ Some packet
framed_read bytes packet (framed rest is p) = ap (λ (x : List ℕ). ppp (unframed x)) is ∙ ap ppp (framed_is rest) ∙ ppp_read rest packet p
framed_read bytes packet (bare p) = ap ppp (bare_read bytes packet p) ∙ ppp_read bytes packet p

session_is : (s0 s1 l0 l1 : ℕ) (rest : List ℕ) → session (0x11 ∷ 0x00 ∷ s0 ∷ s1 ∷ l0 ∷ l1 ∷ rest) ≡ ppp rest
unfolding session
session_is s0 s1 l0 l1 rest = refl

session_read : (bytes packet : List ℕ) → IsSession bytes packet → session bytes ≡ Some packet
session_read bytes packet i = ap session i.is ∙ session_is i.s0 i.s1 i.l0 i.l1 i.rest ∙ ppp_read i.rest packet i.has_packet

-- ---- types

network_read : (type : ℕ) (bytes packet : List ℕ) → IsNetwork type bytes packet → network type bytes ≡ Some packet
unfolding network
network_read type bytes packet (direct h e) = rw h (ap (λ (x : List ℕ). Some x) e)
network_read type bytes packet (labelled h i) =
    elim (or_cases (type == 0x8847) (type == 0x8848) h) [
      | inl e ↦ (let n : type ≡ 0x8847 = eqb-true type 0x8847 e in rw n (labelled_read bytes packet i))
      | inr e ↦ (let n : type ≡ 0x8848 = eqb-true type 0x8848 e in rw n (labelled_read bytes packet i))
    ]
network_read type bytes packet (in_session e i) = rw e (session_read bytes packet i)

-- it is no tag
no_tag : (type : ℕ) (bytes packet : List ℕ) → IsNetwork type bytes packet → is_tag type ≡ false
no_tag type bytes packet (direct h is) =
    elim (or_cases (type == 0x0800) (type == 0x86dd) h)
    [ inl e ↦ (let n : type ≡ 0x0800 = eqb-true type 0x0800 e in rw n refl) | inr e ↦ (let n : type ≡ 0x86dd = eqb-true type 0x86dd e in rw n refl) ]
no_tag type bytes packet (labelled h i) =
    elim (or_cases (type == 0x8847) (type == 0x8848) h)
    [ inl e ↦ (let n : type ≡ 0x8847 = eqb-true type 0x8847 e in rw n refl) | inr e ↦ (let n : type ≡ 0x8848 = eqb-true type 0x8848 e in rw n refl) ]
no_tag type bytes packet (in_session e i) = rw e refl

typed_is : (a b : ℕ) (rest : List ℕ) → typed (a ∷ b ∷ rest) ≡ after_type (word a b) rest
unfolding typed
typed_is a b rest = refl

typed_read : (bytes packet : List ℕ) → IsTyped bytes packet → typed bytes ≡ Some packet
typed_read bytes packet i =
    let type : ℕ = word i.a i.b in
    ap typed i.is ∙ tags_read i.tags i.a i.b i.rest i.are_tags ∙ typed_is i.a i.b i.rest
    ∙ after_network type i.rest (no_tag type i.rest packet i.network) ∙ network_read type i.rest packet i.network

cooked_is : (a b : ℕ) (more : List ℕ) → cooked_of (a ∷ b ∷ more) ≡ option_and_then (after_type (word a b)) (after 18 more)
unfolding cooked_of
cooked_is a b more = refl

cooked_read : (bytes packet : List ℕ) → IsCooked bytes packet → cooked_of bytes ≡ Some packet
cooked_read bytes packet i =
    ap cooked_of i.is ∙ cooked_is i.a i.b i.more ∙ ap (option_and_then (after_type (word i.a i.b))) (after_read 18 i.more i.rest i.header)
    ∙ sym (typed_is i.a i.b i.rest) ∙ typed_read (i.a ∷ i.b ∷ i.rest) packet i.typed

loopback_read : (link : ℕ) (bytes : List ℕ) → is_loopback link ≡ true → plain_packet_in link bytes ≡ after 4 bytes
loopback_read link bytes h =
    elim (or_cases (link == 0) (link == 108) h)
    [ inl e ↦ (let n : link ≡ 0 = eqb-true link 0 e in rw n refl) | inr e ↦ (let n : link ≡ 108 = eqb-true link 108 e in rw n refl) ]

raw_read : (link : ℕ) (bytes : List ℕ) → is_raw link ≡ true → plain_packet_in link bytes ≡ Some bytes
raw_read link bytes h =
    elim (or_cases (link == 12) _ h) [
      | inl e ↦ (let n : link ≡ 12 = eqb-true link 12 e in rw n refl)
      | inr f ↦ elim (or_cases (link == 14) _ f) [
        | inl e ↦ (let n : link ≡ 14 = eqb-true link 14 e in rw n refl)
        | inr g ↦ elim (or_cases (link == 101) _ g) [
          | inl e ↦ (let n : link ≡ 101 = eqb-true link 101 e in rw n refl)
          | inr k ↦ elim (or_cases (link == 228) (link == 229) k)
              [ inl e ↦ (let n : link ≡ 228 = eqb-true link 228 e in rw n refl) | inr e ↦ (let n : link ≡ 229 = eqb-true link 229 e in rw n refl) ]
        ]
      ]
    ]

ppp_frame_read : (link : ℕ) (bytes : List ℕ) → is_ppp link ≡ true → plain_packet_in link bytes ≡ ppp (unframed bytes)
ppp_frame_read link bytes h =
    elim (or_cases (link == 9) (link == 50) h)
    [ inl e ↦ (let n : link ≡ 9 = eqb-true link 9 e in rw n refl) | inr e ↦ (let n : link ≡ 50 = eqb-true link 50 e in rw n refl) ]

-- ---- 802.11

snap_is : (rest : List ℕ) → snap (0xaa ∷ 0xaa ∷ 0x03 ∷ 0 ∷ 0 ∷ 0 ∷ rest) ≡ typed rest
unfolding snap
snap_is rest = refl

snap_read : (bytes packet : List ℕ) → IsSnap bytes packet → snap bytes ≡ Some packet
snap_read bytes packet i = ap snap i.is ∙ snap_is i.rest ∙ typed_read i.rest packet i.typed

sequenced_is : (fields a b : ℕ) (tail rest : List ℕ) → (a % 16 == 0) ≡ true → after fields tail ≡ Some rest → sequenced fields (a ∷ b ∷ tail) ≡ snap rest
unfolding sequenced
sequenced_is fields a b tail rest e f = rw (e, f) refl

wireless_is : (control flags : ℕ) (more rest : List ℕ) → is_plain_data control flags ≡ true → after 20 more ≡ Some rest
    → wireless_of (control ∷ flags ∷ more) ≡ sequenced (fourth_address flags + qos_control control flags) rest
unfolding wireless_of
wireless_is control flags more rest e f = rw (e, f) refl

wireless_read : (bytes packet : List ℕ) → IsWireless bytes packet → wireless_of bytes ≡ Some packet
wireless_read bytes packet i =
    let fields : ℕ = fourth_address i.flags + qos_control i.control i.flags in
    ap wireless_of i.is
    ∙ wireless_is i.control i.flags i.more (i.number ∷ i.sequence ∷ i.tail) i.is_data (after_read 20 i.more (i.number ∷ i.sequence ∷ i.tail) i.addresses)
    ∙ sequenced_is fields i.number i.sequence i.tail i.rest i.is_first (after_read fields i.tail i.rest i.fields) ∙ snap_read i.rest packet i.has_snap

radiotap_is : (b c d : ℕ) (more : List ℕ) → radiotap_of (0 ∷ b ∷ c ∷ d ∷ more) ≡ option_and_then wireless_of (after (low_word c d) (0 ∷ b ∷ c ∷ d ∷ more))
unfolding radiotap_of
radiotap_is b c d more = refl

radiotap_read : (bytes packet : List ℕ) → IsRadiotap bytes packet → radiotap_of bytes ≡ Some packet
radiotap_read bytes packet i =
    ap radiotap_of i.is ∙ radiotap_is i.b i.c i.d i.more ∙ ap (λ (x : List ℕ). option_and_then wireless_of (after (low_word i.c i.d) x)) (sym i.is)
    ∙ ap (option_and_then wireless_of) (after_read (low_word i.c i.d) bytes i.rest i.header) ∙ wireless_read i.rest packet i.frame

-- ---- NFLOG

pub payload_read : (size : ℕ) (bytes payload : List ℕ) → IsPayload size bytes payload → take size bytes ≡ payload
payload_read size bytes payload (whole padding is l) = rw (is, ← l) (take-append_seam payload padding)
payload_read size bytes payload (cut is h) = rw is (take_all size payload (omega arith))

row_length : (others : List Attribute) (rest : List ℕ) → length rest ≤ length (in_a_row others rest)
row_length [] rest = omega arith
row_length (x ∷ xs) rest = let l : length rest ≤ length (in_a_row xs rest) = row_length xs rest in omega (arith, l, length-append x.value (in_a_row xs rest))

attribute_last : (n a b c d : ℕ) (rest packet : List ℕ) → nat_lt (low_word a b) 4 ≡ false → (low_word c d == 9) ≡ true
    → take (low_word a b - 4) rest ≡ packet → attributes (suc n) (a ∷ b ∷ c ∷ d ∷ rest) ≡ Some packet
unfolding attributes
attribute_last n a b c d rest packet l e t = rw (l, e, t) refl

attribute_other : (n a b c d : ℕ) (rest tail : List ℕ) → nat_lt (low_word a b) 4 ≡ false → (low_word c d == 9) ≡ false
    → after (padded (low_word a b) - 4) rest ≡ Some tail → attributes (suc n) (a ∷ b ∷ c ∷ d ∷ rest) ≡ attributes n tail
unfolding attributes
attribute_other n a b c d rest tail l e t = rw (l, e, t) refl

row_read : (n : ℕ) (others : List Attribute) (a b c d : ℕ) (rest packet : List ℕ) → AreOthers others → nat_lt (low_word a b) 4 ≡ false
    → (low_word c d == 9) ≡ true → take (low_word a b - 4) rest ≡ packet → length (in_a_row others (a ∷ b ∷ c ∷ d ∷ rest)) ≤ n
    → attributes n (in_a_row others (a ∷ b ∷ c ∷ d ∷ rest)) ≡ Some packet
row_read zero others a b c d rest packet are l e t h = absurd (omega (arith, h, row_length others (a ∷ b ∷ c ∷ d ∷ rest)))
row_read (suc n) [] a b c d rest packet are l e t h = attribute_last n a b c d rest packet l e t
row_read (suc n) (x ∷ xs) a b c d rest packet are l e t h =
    let tail : List ℕ = in_a_row xs (a ∷ b ∷ c ∷ d ∷ rest) in
    attribute_other n x.a x.b x.c x.d (x.value ++ tail) tail are.0 are.1 (after_append (padded (low_word x.a x.b) - 4) x.value tail are.2)
    ∙ row_read n xs a b c d rest packet are.3 l e t (omega (arith, h, length-append x.value tail))

logged_read : (bytes packet : List ℕ) → IsLogged bytes packet → option_and_then all_attributes (after 4 bytes) ≡ Some packet
logged_read bytes packet i =
    ap (option_and_then all_attributes) (after_read 4 bytes i.attributes i.header)
    ∙ ap (attributes (length i.attributes)) i.is
    ∙ row_read (length i.attributes) i.others i.a i.b i.c i.d i.rest packet i.are_others i.has_length i.has_packet
    (payload_read (low_word i.a i.b - 4) i.rest packet i.payload) (omega (arith, ap length i.is))

-- ----

packet_read : (link : ℕ) (bytes packet : List ℕ) → IsPacket link bytes packet → plain_packet_in link bytes ≡ Some packet
packet_read link bytes packet (ethernet rest l f t) =
    ap (λ (x : ℕ). plain_packet_in x bytes) l ∙ ap (option_and_then typed) (after_read 12 bytes rest f) ∙ typed_read rest packet t
packet_read link bytes packet (cooked rest l f t) =
    ap (λ (x : ℕ). plain_packet_in x bytes) l ∙ ap (option_and_then typed) (after_read 14 bytes rest f) ∙ typed_read rest packet t
packet_read link bytes packet (cooked_2 l i) = ap (λ (x : ℕ). plain_packet_in x bytes) l ∙ cooked_read bytes packet i
packet_read link bytes packet (loopback l f) = loopback_read link bytes l ∙ after_read 4 bytes packet f
packet_read link bytes packet (raw l e) = raw_read link bytes l ∙ ap (λ (x : List ℕ). Some x) e
packet_read link bytes packet (point_to_point l f) = ppp_frame_read link bytes l ∙ framed_read bytes packet f
packet_read link bytes packet (over_ethernet l i) = ap (λ (x : ℕ). plain_packet_in x bytes) l ∙ session_read bytes packet i
packet_read link bytes packet (wireless l i) = ap (λ (x : ℕ). plain_packet_in x bytes) l ∙ wireless_read bytes packet i
packet_read link bytes packet (radiotap l i) = ap (λ (x : ℕ). plain_packet_in x bytes) l ∙ radiotap_read bytes packet i
packet_read link bytes packet (logged l i) = ap (λ (x : ℕ). plain_packet_in x bytes) l ∙ logged_read bytes packet i

-- ---- PKTAP

tapped_is : (a b c d e f g h i j k l : ℕ) (more rest : List ℕ)
    → after (low_long_word a b c d) (a ∷ b ∷ c ∷ d ∷ e ∷ f ∷ g ∷ h ∷ i ∷ j ∷ k ∷ l ∷ more) ≡ Some rest
    → tapped_of (a ∷ b ∷ c ∷ d ∷ e ∷ f ∷ g ∷ h ∷ i ∷ j ∷ k ∷ l ∷ more) ≡ plain_packet_in (low_long_word i j k l) rest
unfolding tapped_of
tapped_is a b c d e f g h i j k l more rest s = rw s refl

tapped_read : (bytes packet : List ℕ) → IsTapped bytes packet → tapped_of bytes ≡ Some packet
tapped_read bytes packet i =
    ap tapped_of i.is
    ∙ tapped_is i.a i.b i.c i.d i.e i.f i.g i.h i.i i.j i.k i.l i.more i.rest
    (sym (ap (after (low_long_word i.a i.b i.c i.d)) i.is) ∙ after_read (low_long_word i.a i.b i.c i.d) bytes i.rest i.header)
    ∙ packet_read (low_long_word i.i i.j i.k i.l) i.rest packet i.frame

pub frame_read : (link : ℕ) (bytes packet : List ℕ) → IsInFrame link bytes packet → packet_in link bytes ≡ Some packet
frame_read link bytes packet (plain_frame l i) = rw l (packet_read link bytes packet i)
frame_read link bytes packet (tapped l i) = rw l (tapped_read bytes packet i)

-- ---- GRE

bridged_read : (a b : ℕ) (bytes packet : List ℕ) → IsBridged a b bytes packet → bridged (word a b) bytes ≡ Some packet
unfolding bridged
bridged_read a b bytes packet (frame rest w f t) = rw w (ap (option_and_then typed) (after_read 12 bytes rest f) ∙ typed_read rest packet t)
bridged_read a b bytes packet (another w t) = rw w (sym (typed_is a b bytes) ∙ typed_read (a ∷ b ∷ bytes) packet t)

gre_is : (first second a b : ℕ) (more rest : List ℕ) → is_gre first second ≡ true → after (gre_fields first) more ≡ Some rest
    → gre (first ∷ second ∷ a ∷ b ∷ more) ≡ bridged (word a b) rest
unfolding gre
gre_is first second a b more rest e f = rw (e, f) refl

pub gre_read : (bytes packet : List ℕ) → IsGre bytes packet → gre bytes ≡ Some packet
gre_read bytes packet i =
    ap gre i.is ∙ gre_is i.first i.second i.a i.b i.more i.rest i.version (after_read (gre_fields i.first) i.more i.rest i.fields)
    ∙ bridged_read i.a i.b i.rest packet i.bridged

-- ---- packets

v4_read : (wire : ℕ) (p : List ℕ) (c : Contents) → IsV4 wire p c → ip wire p ≡ Some c
unfolding ip ipv4
v4_read wire p c i =
    let h : Ipv4 = i.h in
    let left : 20 + length h.options + c.size - (20 + length h.options) ≡ c.size = omega arith in
    let pays : ipv4_payload (20 + length h.options) (20 + length h.options + c.size) (h.options ++ i.rest) ≡ Some (take c.size i.rest) =
    payload_given _ _ h.options i.rest c.size refl refl in
    let said_by : ip wire (ipv4_bytes h i.rest) ≡ Some (ipv4_carried h.protocol (ipv4_source h) (ipv4_target h) c.size (take c.size i.rest)) =
    rw (i.version, i.no_fragment, i.total_length, i.header_length, pays, left) refl in
    ap (ip wire) i.is ∙ said_by ∙ rw (payload_read c.size i.rest c.payload i.payload, ← i.protocol, ← i.source, ← i.target) refl

v6_read : (wire : ℕ) (p : List ℕ) (c : Contents) → IsV6 wire p c → ip wire p ≡ Some c
unfolding ip ipv6
v6_read wire p c i =
    let h : Ipv6 = i.h in
    let next : ℕ = first_of i.extensions c.protocol in
    let all : List ℕ = h.source ++ (h.target ++ i.rest) in
    let four : (h.first / 16 == 4) ≡ false = ne_eqb (h.first / 16) 4 (λ z. omega (arith, i.version)) in
    let six : (h.first / 16 == 6) ≡ true = eq-eqb (h.first / 16) 6 i.version in
    let long : nat_lt (length all) 32 ≡ false =
    le-ltb (length all) 32 (omega (arith, i.source_length, i.target_length, length-append h.source (h.target ++ i.rest), length-append h.target i.rest)) in
    let a : take 16 all ≡ h.source = rw (← i.source_length) (take-append_seam h.source (h.target ++ i.rest)) in
    let b : drop 16 all ≡ h.target ++ i.rest = rw (← i.source_length) (drop-append_seam h.source (h.target ++ i.rest)) in
    let f : take 16 (h.target ++ i.rest) ≡ h.target = rw (← i.target_length) (take-append_seam h.target i.rest) in
    let d : drop 16 (h.target ++ i.rest) ≡ i.rest = rw (← i.target_length) (drop-append_seam h.target i.rest) in
    let e : drop 32 all ≡ i.rest = sym (drop-drop 16 16 all) ∙ ap (drop 16) b ∙ d in
    let held : take i.size i.rest ≡ i.payload = payload_read i.size i.rest i.payload i.has_payload in
    let goes : ip wire (ipv6_bytes h next i.rest) ≡ ipv6_whole next (V6 h.source) (V6 h.target) i.size i.payload =
    rw (four, six, i.payload_length, long, a, b, f, e, held) refl in
    let chain : upper (length i.payload) next i.payload ≡ Some (c.protocol, c.payload) =
    ap (λ (x : List ℕ). upper (length i.payload) next x) i.begins
    ∙ extensions_read (length i.payload) c.protocol i.extensions c.payload i.ends i.are_extensions (omega (arith, ap length i.begins)) in
    ap (ip wire) i.is ∙ goes ∙ ap (option_map (ipv6_carried (V6 h.source) (V6 h.target) i.size i.payload)) chain ∙ rw (← i.left, ← i.source, ← i.target) refl

pub ip_read : (wire : ℕ) (p : List ℕ) (c : Contents) → IsIp wire p c → ip wire p ≡ Some c
ip_read wire p c (version_4 i) = v4_read wire p c i
ip_read wire p c (version_6 i) = v6_read wire p c i

-- ---- TCP

options_read : (header : ℕ) (options payload : List ℕ) → HasOptions header options payload
    → (5 * 4 ≤ header) × (drop (header - 20) (options ++ payload) ≡ payload)
options_read header options payload (inl e) =
    let o : header - 20 ≡ length options = omega arith in (omega arith, rw o (drop-append_seam options payload))
options_read header options payload (inr h) =
    let n : payload ≡ [] = h.1 in
    let l : length (options ++ payload) ≤ header - 20 = omega (arith, h.0, length-append options payload, ap length n) in
    (omega (arith, h.0), drop_of_length-le (options ++ payload) l ∙ sym n)

tcp_given : (source target : Host) (size : ℕ) (t : Tcp) (payload : List ℕ) → HasOptions (4 * (t.offset / 16)) t.options payload
    → tcp source target size (tcp_bytes t payload) ≡ Some (said source target t payload (size - 4 * (t.offset / 16)))
unfolding tcp
tcp_given source target size t payload o =
    let header : ℕ = 4 * (t.offset / 16) in
    let p : (5 * 4 ≤ header) × (drop (header - 20) (t.options ++ payload) ≡ payload) = options_read header t.options payload o in
    let high : nat_lt (t.offset / 16) 5 ≡ false = le-ltb (t.offset / 16) 5 (omega (arith, p.0)) in
    rw (high, p.1) refl

pub segment_in_read : (c : Contents) (s : TcpSegment) → IsTcpSegment c s → segment_in c ≡ Some s
segment_in_read c s i =
    let six : (c.protocol == 6) ≡ true = eq-eqb c.protocol 6 i.protocol in
    rw six (ap (tcp c.source c.target c.size) i.is ∙ tcp_given c.source c.target c.size i.t s.payload i.options ∙ ap (λ (x : TcpSegment). Some x) (sym i.says))
