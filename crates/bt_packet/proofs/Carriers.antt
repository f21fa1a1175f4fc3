-- Packets after labels of MPLS, in PPP over Ethernet and in GRE are read as what they say.
use Rattle.std.proofs.Common.{◌≡◌, ℕ, ◌+◌, ◌-◌, ◌*◌, ◌/◌, true, false, List, [], ◌∷◌, ◌++◌, length, ap, sym, refl, arith, inl, append-nil}
use Rattle.bt_packet.specs.Bytes.{word}
use Rattle.bt_packet.specs.Links.{is_gre, gre_fields}
use Rattle.bt_packet.specs.Ip.{Contents, ipv4_carried, is_wrapped}
use Rattle.bt_packet.specs.Frames.{Tag, tagged, AreTags, Label, stacked, Ipv4, ipv4_bytes, IsIpv4, ipv4_source, ipv4_target, Tcp, tcp_bytes, IsTcp, said}
use Rattle.bt_packet.specs.Frames.{gre_bytes, MplsIsRead, PppoeIsRead, GreIsRead}
use Rattle.bt_packet.specs.Segments.{IsNetwork, direct, labelled, in_session, two, IsInFrame, plain_frame, ethernet, whole, IsV4, IsIp, version_4, IsTcpSegment}
use Rattle.bt_packet.specs.Segments.{another, IsGre, in_gre, IsWithin, in_tunnel, IsSegmentOf}
use Rattle.bt_packet.specs.declared.address.Host.{Host}
use Rattle.bt_packet.proofs.Frames.{length_tcp, tcp_pad, total_given}
use Rattle.bt_packet.proofs.ReadAll.{segment_read}

-- a packet of IPv4 with a payload, and padding
v4_is : (h : Ipv4) (payload rest padding : List ℕ) (wire : ℕ) → IsIpv4 h (length payload) → rest ≡ payload ++ padding
    → IsIp wire (ipv4_bytes h rest) (ipv4_carried h.protocol (ipv4_source h) (ipv4_target h) (length payload) payload)
v4_is h payload rest padding wire is e = version_4 (record {
  h = h;
  rest = rest;
  is = refl;
  version = is.version;
  header_length = is.header_length;
  total_length = rw (total_given (word h.t0 h.t1) wire (length h.options + length payload) (omega (arith, is.total_length))) is.total_length;
  no_fragment = is.whole;
  payload = whole padding e refl;
  protocol = refl;
  source = refl;
  target = refl;
})

tcp_is : (protocol : ℕ) (source target : Host) (t : Tcp) (payload : List ℕ) → protocol ≡ 6 → IsTcp t
    → IsTcpSegment (ipv4_carried protocol source target (length (tcp_bytes t payload)) (tcp_bytes t payload)) (said source target t payload (length payload))
tcp_is protocol source target t payload six e = record {
  t = t;
  protocol = six;
  is = refl;
  options = inl e;
  says = ap (λ (x : ℕ). said source target t payload x) (omega (arith, e, length_tcp t payload));
}

-- addresses, tags and a type before what the type says
ethernet_is : (addresses : List ℕ) (tags : List Tag) (a b : ℕ) (rest packet : List ℕ) → length addresses ≡ 12 → AreTags tags → IsNetwork (word a b) rest packet
    → IsInFrame 1 (addresses ++ tagged tags (a ∷ b ∷ rest)) packet
ethernet_is addresses tags a b rest packet e are n =
    plain_frame refl (ethernet (tagged tags (a ∷ b ∷ rest)) refl (record { header = addresses; is = refl; size = e })
    (record { tags = tags; a = a; b = b; rest = rest; is = refl; are_tags = are; network = n }))

-- a frame whose packet of IPv4 carries a segment
segment_is : (bytes : List ℕ) (h : Ipv4) (t : Tcp) (payload padding : List ℕ) (wire : ℕ) → IsIpv4 h (length (tcp_bytes t payload)) → h.protocol ≡ 6 → IsTcp t
    → IsInFrame 1 bytes (ipv4_bytes h (tcp_bytes t (payload ++ padding)))
    → IsSegmentOf 1 bytes wire (said (ipv4_source h) (ipv4_target h) t payload (length payload))
segment_is bytes h t payload padding wire is six tcp packet =
    let c : Contents = ipv4_carried h.protocol (ipv4_source h) (ipv4_target h) (length (tcp_bytes t payload)) (tcp_bytes t payload) in
    let plain : is_wrapped h.protocol ≡ false = rw six refl in
    record {
      contents = c;
      carried_by = record {
        packet = ipv4_bytes h (tcp_bytes t (payload ++ padding));
        has_packet = packet;
        outermost = c;
        has_contents = v4_is h (tcp_bytes t payload) (tcp_bytes t (payload ++ padding)) padding _ is (tcp_pad t payload padding);
        between = [];
        within = refl;
        innermost = plain;
      };
      has_segment = tcp_is h.protocol (ipv4_source h) (ipv4_target h) t payload six tcp;
    }

pub mpls_read : MplsIsRead
mpls_read addresses tags above last h t payload padding wire e are are_above is_last is six tcp =
    segment_read 1 _ wire _ (segment_is _ h t payload padding wire is six tcp
    (ethernet_is addresses tags 0x88 0x47 (stacked above (stacked (last ∷ []) (ipv4_bytes h (tcp_bytes t (payload ++ padding))))) _ e are
    (labelled refl (record { above = above; last = last; is = refl; are_above = are_above; is_last = is_last }))))

pub pppoe_read : PppoeIsRead
pppoe_read addresses tags s0 s1 l0 l1 h t payload padding wire e are is six tcp =
    let packet : List ℕ = ipv4_bytes h (tcp_bytes t (payload ++ padding)) in
    segment_read 1 _ wire _ (segment_is _ h t payload padding wire is six tcp
    (ethernet_is addresses tags 0x88 0x64 (0x11 ∷ 0x00 ∷ s0 ∷ s1 ∷ l0 ∷ l1 ∷ 0x00 ∷ 0x21 ∷ packet) packet e are
    (in_session refl (record { s0 = s0; s1 = s1; l0 = l0; l1 = l1; rest = 0x00 ∷ 0x21 ∷ packet; is = refl; has_packet = two 0x21 refl refl }))))

gre_is : (first second : ℕ) (fields packet : List ℕ) → is_gre first second ≡ true → length fields ≡ gre_fields first
    → IsGre (gre_bytes first second fields packet) packet
gre_is first second fields packet version size = record {
  first = first;
  second = second;
  a = 0x08;
  b = 0x00;
  more = fields ++ packet;
  rest = packet;
  is = refl;
  version = version;
  fields = record { header = fields; is = refl; size = size };
  bridged = another refl (record { tags = []; a = 0x08; b = 0x00; rest = packet; is = refl; are_tags = tt; network = direct refl refl });
}

pub gre_read : GreIsRead
gre_read addresses tags o h first second fields t payload padding wire e are is_o gre version size is six tcp =
    let packet : List ℕ = ipv4_bytes h (tcp_bytes t payload) in
    let held : List ℕ = gre_bytes first second fields packet in
    let plain : is_wrapped h.protocol ≡ false = rw six refl in
    segment_read 1 _ wire _ (record {
      contents = ipv4_carried h.protocol (ipv4_source h) (ipv4_target h) (length (tcp_bytes t payload)) (tcp_bytes t payload);
      carried_by = record {
        packet = ipv4_bytes o (held ++ padding);
        has_packet = ethernet_is addresses tags 0x08 0x00 (ipv4_bytes o (held ++ padding)) (ipv4_bytes o (held ++ padding)) e are (direct refl refl);
        outermost = ipv4_carried o.protocol (ipv4_source o) (ipv4_target o) (length held) held;
        has_contents = v4_is o held (held ++ padding) padding _ is_o refl;
        between = ipv4_carried h.protocol (ipv4_source h) (ipv4_target h) (length (tcp_bytes t payload)) (tcp_bytes t payload) ∷ [];
        within = (
          in_tunnel packet (in_gre gre (gre_is first second fields packet version size))
              (v4_is h (tcp_bytes t payload) (tcp_bytes t payload) [] _ is (sym (append-nil (tcp_bytes t payload)))),
          refl,
        );
        innermost = plain;
      };
      has_segment = tcp_is h.protocol (ipv4_source h) (ipv4_target h) t payload six tcp;
    })
