-- Frames are read as what they say.
use Rattle.std.proofs.Common.{◌≡◌, ℕ, zero, suc, ◌+◌, ◌-◌, ◌*◌, ◌/◌, ◌≤◌, ◌==◌, nat_le, nat_lt, true, false, List, [], ◌∷◌, ◌++◌, length, take, drop, Some}
use Rattle.std.proofs.Common.{option_and_then, option_map, ap, sym, ◌∙◌, refl, arith, le-leb, le-ltb, length-append, append_assoc, ne_eqb, eq-eqb, take_all}
use Rattle.std.proofs.lemmas.List.{drop-drop}
use Rattle.std.proofs.Math.Seq.{drop-append_seam, take-append_seam}
use Rattle.bt_packet.proofs.Types.{after_network}
use Rattle.bt_packet.proofs.Extensions.{upper_above, upper_next, past_append}
use Rattle.bt_packet.proofs.Tunnels.{unwrapped_plain}
use Rattle.bt_packet.specs.Bytes.{word, after}
use Rattle.bt_packet.specs.Links.{is_tag, network, after_type, typed, packet_in}
use Rattle.bt_packet.specs.Ip.{ipv4, ipv4_payload, ipv4_carried, total_of, ipv6, ipv6_whole, ipv6_carried, ip, upper, is_extension, ip_after, content_size}
use Rattle.bt_packet.specs.Ip.{is_wrapped, innermost, outer, carried}
use Rattle.bt_packet.specs.Tcp.{tcp, segment_in, segment_of}
use Rattle.bt_packet.specs.Frames.{Tag, tagged, AreTags, Ipv4, ipv4_bytes, IsIpv4, ipv4_source, ipv4_target, ipv4_frame}
use Rattle.bt_packet.specs.Frames.{Ipv6, ipv6_frame, Extension, first_of, extended, AreExtensions, ipv6_bytes, IsIpv6}
use Rattle.bt_packet.specs.Frames.{Tcp, tcp_bytes, IsTcp, said, Ipv4IsRead, CutIsRead, Ipv6IsRead}
use Rattle.bt_packet.specs.declared.address.Host.{Host}
use Rattle.bt_packet.specs.declared.address.Host.TheVariants.{V6}

-- ---- Ethernet

pub after_append : (n : ℕ) (a b : List ℕ) → length a ≡ n → after n (a ++ b) ≡ Some b
after_append n a b e =
    let d : drop n (a ++ b) ≡ b = rw (← e) (drop-append_seam a b) in
    let l : nat_le n (length (a ++ b)) ≡ true = le-leb n (length (a ++ b)) (omega (arith, length-append a b)) in rw (l, d) refl

typed_tag : (a b c d e f : ℕ) (rest : List ℕ) → is_tag (word a b) ≡ true → typed (a ∷ b ∷ c ∷ d ∷ e ∷ f ∷ rest) ≡ typed (e ∷ f ∷ rest)
unfolding typed after_type
typed_tag a b c d e f rest h = rw h refl

pub tags_read : (tags : List Tag) (a b : ℕ) (packet : List ℕ) → AreTags tags → typed (tagged tags (a ∷ b ∷ packet)) ≡ typed (a ∷ b ∷ packet)
tags_read [] a b packet are = refl
tags_read (t ∷ []) a b packet are = typed_tag t.t0 t.t1 t.c0 t.c1 a b packet are.0
tags_read (t ∷ u ∷ tags) a b packet are =
    typed_tag t.t0 t.t1 t.c0 t.c1 u.t0 u.t1 (u.c0 ∷ u.c1 ∷ tagged tags (a ∷ b ∷ packet)) are.0 ∙ tags_read (u ∷ tags) a b packet are.1

typed_ipv4 : (packet : List ℕ) → typed (0x08 ∷ 0x00 ∷ packet) ≡ Some packet
unfolding typed network
typed_ipv4 packet = after_network 0x0800 packet refl

typed_ipv6 : (packet : List ℕ) → typed (0x86 ∷ 0xdd ∷ packet) ≡ Some packet
unfolding typed network
typed_ipv6 packet = after_network 0x86dd packet refl

-- addresses and tags before a packet
ethernet_read : (addresses : List ℕ) (tags : List Tag) (a b : ℕ) (packet : List ℕ) → length addresses ≡ 12 → AreTags tags
    → packet_in 1 (addresses ++ tagged tags (a ∷ b ∷ packet)) ≡ typed (a ∷ b ∷ packet)
ethernet_read addresses tags a b packet e are =
    ap (option_and_then typed) (after_append 12 addresses (tagged tags (a ∷ b ∷ packet)) e) ∙ tags_read tags a b packet are

-- ---- TCP

tcp_given : (source target : Host) (size : ℕ) (t : Tcp) (rest : List ℕ) → IsTcp t
    → tcp source target size (tcp_bytes t rest) ≡ Some (said source target t rest (size - (20 + length t.options)))
unfolding tcp
tcp_given source target size t rest e =
    let high : nat_lt (t.offset / 16) 5 ≡ false = le-ltb (t.offset / 16) 5 (omega arith) in
    let o : 4 * (t.offset / 16) - 20 ≡ length t.options = omega arith in
    rw (high, o, drop-append_seam t.options rest, e) refl

pub tcp_pad : (t : Tcp) (a b : List ℕ) → tcp_bytes t (a ++ b) ≡ tcp_bytes t a ++ b
tcp_pad t a b = rw (append_assoc t.options a b) refl

pub length_tcp : (t : Tcp) (rest : List ℕ) → length (tcp_bytes t rest) ≡ 20 + length t.options + length rest
length_tcp t rest = omega (arith, length-append t.options rest)

-- ---- version 4

pub payload_given : (header total : ℕ) (options rest : List ℕ) (size : ℕ) → header ≡ 20 + length options → total ≡ 20 + length options + size
    → ipv4_payload header total (options ++ rest) ≡ Some (take size rest)
unfolding ipv4_payload
payload_given header total options rest size h t =
    let a : nat_lt header 20 ≡ false = le-ltb header 20 (omega arith) in
    let b : nat_lt total header ≡ false = le-ltb total header (omega arith) in
    let c : after (header - 20) (options ++ rest) ≡ Some rest = after_append (header - 20) options rest (omega arith) in
    let d : total - header ≡ size = omega arith in
    rw (a, b, d) (ap (option_map (take size)) c)

pub total_given : (say wire k : ℕ) → say ≡ 20 + k → total_of say wire ≡ say
total_given say wire k e = let n : (say == 0) ≡ false = ne_eqb say 0 (λ z. omega arith) in rw n refl

ipv4_given : (h : Ipv4) (size wire : ℕ) (rest : List ℕ) → IsIpv4 h size
    → ip wire (ipv4_bytes h rest) ≡ Some (ipv4_carried h.protocol (ipv4_source h) (ipv4_target h) size (take size rest))
unfolding ip ipv4
ipv4_given h size wire rest is =
    let header : ℕ = 20 + length h.options in
    let total : total_of (word h.t0 h.t1) wire ≡ header + size =
    total_given (word h.t0 h.t1) wire (length h.options + size) (omega (arith, is.total_length)) ∙ is.total_length in
    let left : header + size - header ≡ size = omega arith in
    let p : ipv4_payload header (header + size) (h.options ++ rest) ≡ Some (take size rest) = payload_given _ _ h.options rest size refl refl in
    rw (is.version, is.whole, total, is.header_length, p, left) refl

-- what TCP makes of a packet of IPv4
segment_given : (addresses : List ℕ) (tags : List Tag) (h : Ipv4) (t : Tcp) (rest payload : List ℕ) (size wire : ℕ) → length addresses ≡ 12 → AreTags tags
    → IsIpv4 h (20 + length t.options + size) → h.protocol ≡ 6 → IsTcp t → take (20 + length t.options + size) (tcp_bytes t rest) ≡ tcp_bytes t payload
    → segment_of 1 (ipv4_frame addresses tags h t rest) wire ≡ Some (said (ipv4_source h) (ipv4_target h) t payload size)
segment_given addresses tags h t rest payload size wire e are is six tcp_is cut =
    let bytes : List ℕ = ipv4_frame addresses tags h t rest in
    let packet : List ℕ = ipv4_bytes h (tcp_bytes t rest) in
    let p : packet_in 1 bytes ≡ Some packet = ethernet_read addresses tags 0x08 0x00 packet e are ∙ typed_ipv4 packet in
    let o : outer 1 bytes wire ≡ Some (ipv4_carried h.protocol (ipv4_source h) (ipv4_target h) (20 + length t.options + size) (tcp_bytes t payload)) =
    ap (option_and_then (ip_after wire bytes)) p ∙ ipv4_given h (20 + length t.options + size) _ (tcp_bytes t rest) is
    ∙ ap (λ (x : List ℕ). Some (ipv4_carried h.protocol (ipv4_source h) (ipv4_target h) (20 + length t.options + size) x)) cut in
    let plain : is_wrapped h.protocol ≡ false = rw six refl in
    let c : carried 1 bytes wire ≡ Some (ipv4_carried h.protocol (ipv4_source h) (ipv4_target h) (20 + length t.options + size) (tcp_bytes t payload)) =
    ap (option_and_then innermost) o ∙ unwrapped_plain _ _ plain in
    let left : 20 + length t.options + size - (20 + length t.options) ≡ size = omega arith in
    ap (option_and_then segment_in) c ∙ rw (six, tcp_given (ipv4_source h) (ipv4_target h) (20 + length t.options + size) t payload tcp_is, left) refl

pub ipv4_read : Ipv4IsRead
ipv4_read addresses tags h t payload padding wire e are is six tcp_is =
    let l : length (tcp_bytes t payload) ≡ 20 + length t.options + length payload = length_tcp t payload in
    let cut : take (length (tcp_bytes t payload)) (tcp_bytes t (payload ++ padding)) ≡ tcp_bytes t payload =
    ap (take (length (tcp_bytes t payload))) (tcp_pad t payload padding) ∙ take-append_seam (tcp_bytes t payload) padding in
    segment_given addresses tags h t (payload ++ padding) payload (length payload) wire e are (rw (← l) is) six tcp_is (rw (← l) cut)

pub cut_read : CutIsRead
cut_read addresses tags h t captured lost wire e are is six tcp_is =
    let l : length (tcp_bytes t (captured ++ lost)) ≡ 20 + length t.options + length (captured ++ lost) = length_tcp t (captured ++ lost) in
    let m : length (tcp_bytes t captured) ≡ 20 + length t.options + length captured = length_tcp t captured in
    segment_given addresses tags h t captured captured (length (captured ++ lost)) wire e are (rw (← l) is) six tcp_is
    (take_all (20 + length t.options + length (captured ++ lost)) (tcp_bytes t captured) (omega (arith, length-append captured lost)))

-- ---- version 6

pub extensions_read : (n last : ℕ) (es : List Extension) (rest : List ℕ) → is_extension last ≡ false → AreExtensions es → length (extended es last rest) ≤ n
    → upper n (first_of es last) (extended es last rest) ≡ Some (last, rest)
extensions_read n last [] rest ends are h = upper_above n last rest ends
extensions_read zero last (e ∷ es) rest ends are h = absurd (omega arith)
extensions_read (suc n) last (e ∷ es) rest ends are h =
    let next : List ℕ = extended es last rest in
    let l : length next ≤ n = omega (arith, length-append e.content (extended es last rest)) in
    upper_next n e.kind (first_of es last) e.words (e.content ++ next) are.0
    ∙ ap (option_and_then (upper n (first_of es last)))
    (past_append e.kind e.words e.content next are.1 are.2 ∙ after_append (content_size e.kind e.words) e.content next are.1)
    ∙ extensions_read n last es rest ends are.3 l

extended_pad : (es : List Extension) (last : ℕ) (a b : List ℕ) → extended es last (a ++ b) ≡ extended es last a ++ b
extended_pad [] last a b = refl
extended_pad (e ∷ es) last a b = rw (extended_pad es last a b, append_assoc e.content (extended es last a) b) refl

pub length_extended : (es : List Extension) (last : ℕ) (rest : List ℕ) → length rest ≤ length (extended es last rest)
length_extended [] last rest = omega arith
length_extended (e ∷ es) last rest =
    let l : length rest ≤ length (extended es last rest) = length_extended es last rest in omega (arith, length-append e.content (extended es last rest))

ipv6_given : (h : Ipv6) (next size wire : ℕ) (rest : List ℕ) → IsIpv6 h size
    → ip wire (ipv6_bytes h next rest) ≡ ipv6_whole next (V6 h.source) (V6 h.target) size (take size rest)
unfolding ip ipv6
ipv6_given h next size wire rest is =
    let four : (h.first / 16 == 4) ≡ false = ne_eqb (h.first / 16) 4 (λ z. omega (arith, is.version)) in
    let six : (h.first / 16 == 6) ≡ true = eq-eqb (h.first / 16) 6 is.version in
    let total : total_of (word h.l0 h.l1) (wire - 40) ≡ size = rw (is.payload_length, is.said) refl in
    let long : nat_lt (length (h.source ++ (h.target ++ rest))) 32 ≡ false =
    le-ltb _ 32 (omega (arith, is.from, is.to, length-append h.source (h.target ++ rest), length-append h.target rest)) in
    let a : take 16 (h.source ++ (h.target ++ rest)) ≡ h.source = rw (← is.from) (take-append_seam h.source (h.target ++ rest)) in
    let b : drop 16 (h.source ++ (h.target ++ rest)) ≡ h.target ++ rest = rw (← is.from) (drop-append_seam h.source (h.target ++ rest)) in
    let c : take 16 (h.target ++ rest) ≡ h.target = rw (← is.to) (take-append_seam h.target rest) in
    let d : drop 16 (h.target ++ rest) ≡ rest = rw (← is.to) (drop-append_seam h.target rest) in
    let e : drop 32 (h.source ++ (h.target ++ rest)) ≡ rest = sym (drop-drop 16 16 (h.source ++ (h.target ++ rest))) ∙ ap (drop 16) b ∙ d in
    rw (four, six, total, long, a, b, c, e) refl

pub ipv6_read : Ipv6IsRead
ipv6_read addresses tags h es t payload padding wire e are is exts tcp_is =
    let X : List ℕ = extended es 6 (tcp_bytes t payload) in
    let bytes : List ℕ = ipv6_frame addresses tags h es t (payload ++ padding) in
    let rest : List ℕ = extended es 6 (tcp_bytes t (payload ++ padding)) in
    let packet : List ℕ = ipv6_bytes h (first_of es 6) rest in
    let l : length (tcp_bytes t payload) ≡ 20 + length t.options + length payload = length_tcp t payload in
    let m : length (tcp_bytes t payload) ≤ length X = length_extended es 6 (tcp_bytes t payload) in
    let p : packet_in 1 bytes ≡ Some packet = ethernet_read addresses tags 0x86 0xdd packet e are ∙ typed_ipv6 packet in
    let cut : take (length X) rest ≡ X =
    ap (λ (x : List ℕ). take (length X) (extended es 6 x)) (tcp_pad t payload padding)
    ∙ ap (take (length X)) (extended_pad es 6 (tcp_bytes t payload) padding)
    ∙ take-append_seam X padding in
    let o : outer 1 bytes wire ≡ Some (ipv6_carried (V6 h.source) (V6 h.target) (length X) X (6, tcp_bytes t payload)) =
    ap (option_and_then (ip_after wire bytes)) p ∙ ipv6_given h (first_of es 6) (length X) _ rest is
    ∙ ap (ipv6_whole (first_of es 6) (V6 h.source) (V6 h.target) (length X)) cut
    ∙ ap (option_map (ipv6_carried (V6 h.source) (V6 h.target) (length X) X)) (extensions_read (length X) 6 es (tcp_bytes t payload) refl exts (omega arith)) in
    let c : carried 1 bytes wire ≡ Some (ipv6_carried (V6 h.source) (V6 h.target) (length X) X (6, tcp_bytes t payload)) =
    ap (option_and_then innermost) o ∙ unwrapped_plain _ _ refl in
    let left : length X - (length X - length (tcp_bytes t payload)) - (20 + length t.options) ≡ length payload = omega arith in
    ap (option_and_then segment_in) c ∙ tcp_given (V6 h.source) (V6 h.target) (length X - (length X - length (tcp_bytes t payload))) t payload tcp_is
    ∙ ap (λ (x : ℕ). Some (said (V6 h.source) (V6 h.target) t payload x)) left
