-- What is read stands in the frame.
use Rattle.std.proofs.Common.{◌≡◌, ℕ, zero, suc, ◌+◌, ◌-◌, ◌%◌, ◌++◌, ◌<◌, ◌≤◌, ◌==◌}
use Rattle.std.proofs.Common.{nat_le, nat_lt, Bool, true, false, ◌&&◌, List, [], ◌∷◌, length, take, drop}
use Rattle.std.proofs.Common.{Option, Some, None, option_and_then, option_map, if◌then◌else◌, ap, sym, ◌∙◌, refl, arith, inl, inr, leb-true, eqb-true}
use Rattle.std.proofs.lemmas.Bool.{cases_Bool, cases_lt}
use Rattle.std.proofs.lemmas.List.{take-append-drop, length-take-le, take_all}
use Rattle.bt_packet.specs.Bytes.{word, low_word, low_long_word, after}
use Rattle.bt_packet.specs.Links.{is_tag, is_ip, is_mpls, is_bottom, unlabelled, is_ppp_ip, ppp_low, ppp, unframed, session, network}
use Rattle.bt_packet.specs.Links.{after_type, typed, cooked as cooked_of, is_loopback, is_raw, is_ppp, packet_in, is_gre, gre_fields, bridged, gre}
use Rattle.bt_packet.specs.Links.{is_plain_data, fourth_address, qos_control, is_snap, snap, sequenced, wireless as wireless_of, radiotap as radiotap_of}
use Rattle.bt_packet.specs.Links.{padded, attributes, all_attributes, plain_packet_in, tapped as tapped_of}
use Rattle.bt_packet.specs.Segments.{Follows, IsLabelled, IsPpp, two, one, IsFramed, framed, bare, IsSession, IsNetwork, direct, labelled, in_session}
use Rattle.bt_packet.specs.Segments.{IsTyped, IsCooked, IsPacket, IsPayload, ethernet, cooked}
use Rattle.bt_packet.specs.Segments.{cooked_2, loopback, raw, point_to_point, over_ethernet, whole, cut}
use Rattle.bt_packet.specs.Segments.{IsSnap, IsWireless, IsRadiotap, Attribute, in_a_row, AreOthers, IsLogged, wireless, radiotap, logged}
use Rattle.bt_packet.specs.Segments.{IsTapped, IsInFrame, plain_frame, tapped, IsBridged, frame, another, IsGre}
use Rattle.bt_packet.proofs.Types.{after_network, cut_tag}

-- ---- options

pub if_none : {A : Type 0} (b : Bool) (x : Option A) (y : A) → (if b then None else x) ≡ Some y → (b ≡ false) × (x ≡ Some y)
if_none true x y e = absurd cc
if_none false x y e = (refl, e)

pub map_some : {A B P : Type 0} (f : A → B) (o : Option A) (y : B) → option_map f o ≡ Some y → ((x : A) → o ≡ Some x → f x ≡ y → P) → P
map_some f None y e k = absurd cc
map_some f (Some x) y e k = k x refl cc

pub then_some : {A B P : Type 0} (f : A → Option B) (o : Option A) (y : B) → option_and_then f o ≡ Some y → ((x : A) → o ≡ Some x → f x ≡ Some y → P) → P
then_some f None y e k = absurd cc
then_some f (Some x) y e k = k x refl e

pub if_some : {A : Type 0} (b : Bool) (x y : A) → (if b then Some x else None) ≡ Some y → (b ≡ true) × (x ≡ y)
if_some true x y e = (refl, cc)
if_some false x y e = absurd cc

pub some_is : {A : Type 0} (x y : A) → Some x ≡ Some y → x ≡ y
some_is x y e = cc

pub no_some : {A : Type 0} (x : A) → None ≡ Some x → ⊥
no_some x e = cc

pub branch : {A P : Type 0} (b : Bool) (x y z : A) → (if b then x else y) ≡ z → (b ≡ true → x ≡ z → P) → (b ≡ false → y ≡ z → P) → P
branch true x y z e k l = k refl e
branch false x y z e k l = l refl e

both : (a b : Bool) → (a && b) ≡ true → (a ≡ true) × (b ≡ true)
both true b e = (refl, e)
both false b e = absurd cc

-- ---- bytes

pub after_found : (n : ℕ) (bytes rest : List ℕ) → after n bytes ≡ Some rest → Follows n bytes rest
after_found n bytes rest e =
    let p : (nat_le n (length bytes) ≡ true) × (drop n bytes ≡ rest) = if_some (nat_le n (length bytes)) (drop n bytes) rest e in
    let l : n ≤ length bytes = leb-true n (length bytes) p.0 in
    record { header = take n bytes; is = rw (← p.1) (sym (take-append-drop n bytes)); size = length-take-le n bytes l }

pub payload_found : (size : ℕ) (bytes : List ℕ) → IsPayload size bytes (take size bytes)
payload_found size bytes =
    elim (cases_lt (length bytes) size) [
      | inl h ↦ (let t : take size bytes ≡ bytes = take_all size bytes (omega arith) in cut (sym t) (rw t h))
      | inr h ↦ whole (drop size bytes) (sym (take-append-drop size bytes)) (length-take-le size bytes h)
    ]

-- ---- types

labels_found : (bytes packet : List ℕ) → unlabelled bytes ≡ Some packet → IsLabelled bytes packet
unfolding unlabelled
labels_found (a ∷ b ∷ c ∷ d ∷ rest) packet e =
    branch (is_bottom c) _ _ (Some packet) e
    (λ l f. record {
      above = [];
      last = record { a = a; b = b; bits = c; time_to_live = d };
      is = ap (λ (x : List ℕ). a ∷ b ∷ c ∷ d ∷ x) (some_is rest packet f);
      are_above = tt;
      is_last = l;
    })
    (λ l f. (let i : IsLabelled rest packet = labels_found rest packet f in record {
      above = record { a = a; b = b; bits = c; time_to_live = d } ∷ i.above;
      last = i.last;
      is = ap (λ (x : List ℕ). a ∷ b ∷ c ∷ d ∷ x) i.is;
      are_above = (l, i.are_above);
      is_last = i.is_last;
    }))
labels_found _ packet e = absurd (no_some packet e)

low_found : (bytes packet : List ℕ) → ppp_low bytes ≡ Some packet → (a : ℕ) × (bytes ≡ a ∷ packet) × (is_ppp_ip a ≡ true)
unfolding ppp_low
low_found (a ∷ rest) packet e =
    let p : (is_ppp_ip a ≡ true) × (rest ≡ packet) = if_some (is_ppp_ip a) rest packet e in (a, ap (λ (x : List ℕ). a ∷ x) p.1, p.0)
low_found [] packet e = absurd (no_some packet e)

ppp_found : (bytes packet : List ℕ) → ppp bytes ≡ Some packet → IsPpp bytes packet
unfolding ppp
ppp_found (z ∷ rest) packet e =
    branch (z == 0) _ _ (Some packet) e
    (λ l f. (let p : (a : ℕ) × (rest ≡ a ∷ packet) × (is_ppp_ip a ≡ true) = low_found rest packet f in
    two p.0 (ap (λ (x : List ℕ). z ∷ x) p.1 ∙ ap (λ (x : ℕ). x ∷ p.0 ∷ packet) (eqb-true z 0 l)) p.2))
    (λ l f. (let p : (a : ℕ) × (z ∷ rest ≡ a ∷ packet) × (is_ppp_ip a ≡ true) = low_found (z ∷ rest) packet f in one p.0 p.1 p.2))
ppp_found [] packet e = absurd (no_some packet e)

framed_found : (bytes packet : List ℕ) → ppp (unframed bytes) ≡ Some packet → IsFramed bytes packet
unfolding unframed
framed_found (a ∷ b ∷ rest) packet e =
    elim (cases_Bool ((a == 0xff) && (b == 0x03))) [
      | inl l ↦ (let f : ppp rest ≡ Some packet = rw l at e in
          let p : ((a == 0xff) ≡ true) × ((b == 0x03) ≡ true) = both (a == 0xff) (b == 0x03) l in
          framed rest
          (ap (λ (x : ℕ). x ∷ b ∷ rest) (eqb-true a 0xff p.0) ∙ ap (λ (x : ℕ). 0xff ∷ x ∷ rest) (eqb-true b 0x03 p.1)) (ppp_found rest packet f))
      | inr l ↦ (let f : ppp (a ∷ b ∷ rest) ≡ Some packet = rw l at e in bare (ppp_found (a ∷ b ∷ rest) packet f))
    ]
framed_found (a ∷ []) packet e = bare (ppp_found (a ∷ []) packet e)
framed_found [] packet e = bare (ppp_found [] packet e)

session_found : (bytes packet : List ℕ) → session bytes ≡ Some packet → IsSession bytes packet
unfolding session
session_found (a ∷ b ∷ c ∷ d ∷ f ∷ g ∷ rest) packet e =
    branch ((a == 0x11) && (b == 0)) _ _ (Some packet) e
    (λ l k. (let p : ((a == 0x11) ≡ true) × ((b == 0) ≡ true) = both (a == 0x11) (b == 0) l in record {
      s0 = c;
      s1 = d;
      l0 = f;
      l1 = g;
      rest = rest;
      is = ap (λ (x : ℕ). x ∷ b ∷ c ∷ d ∷ f ∷ g ∷ rest) (eqb-true a 0x11 p.0) ∙ ap (λ (x : ℕ). 0x11 ∷ x ∷ c ∷ d ∷ f ∷ g ∷ rest) (eqb-true b 0 p.1);
      has_packet = ppp_found rest packet k;
    }))
    (λ l k. absurd (no_some packet k))
session_found _ packet e = absurd (no_some packet e)

network_found : (type : ℕ) (bytes packet : List ℕ) → network type bytes ≡ Some packet → IsNetwork type bytes packet
unfolding network
network_found type bytes packet e =
    branch (is_ip type) _ _ (Some packet) e
    (λ l f. direct l (some_is bytes packet f))
    (λ l f. branch (is_mpls type) _ _ (Some packet) f
    (λ l f. labelled l (labels_found bytes packet f))
    (λ l f. branch (type == 0x8864) _ _ (Some packet) f
    (λ l f. in_session (eqb-true type 0x8864 l) (session_found bytes packet f)) (λ l f. absurd (no_some packet f))))

plain : (a b : ℕ) (rest packet : List ℕ) → is_tag (word a b) ≡ false → typed (a ∷ b ∷ rest) ≡ Some packet → IsTyped (a ∷ b ∷ rest) packet
unfolding typed
plain a b rest packet other e = record {
  tags = [];
  a = a;
  b = b;
  rest = rest;
  is = refl;
  are_tags = tt;
  network = network_found (word a b) rest packet (sym (after_network (word a b) rest other) ∙ e);
}

short : (a b : ℕ) (rest packet : List ℕ) → length rest < 4 → typed (a ∷ b ∷ rest) ≡ Some packet → IsTyped (a ∷ b ∷ rest) packet
unfolding typed
short a b rest packet h e =
    elim (cases_Bool (is_tag (word a b)))
    [ inl tag ↦ (let same : None ≡ Some packet = sym (cut_tag (word a b) rest tag h) ∙ e in absurd cc) | inr other ↦ plain a b rest packet other e ]

one_more : (a b c d : ℕ) (rest packet : List ℕ) → is_tag (word a b) ≡ true → IsTyped rest packet → IsTyped (a ∷ b ∷ c ∷ d ∷ rest) packet
one_more a b c d rest packet tag i = record {
  tags = record { t0 = a; t1 = b; c0 = c; c1 = d } ∷ i.tags;
  a = i.a;
  b = i.b;
  is = ap (λ (x : List ℕ). a ∷ b ∷ c ∷ d ∷ x) i.is;
  rest = i.rest;
  are_tags = (tag, i.are_tags);
  network = i.network;
}

over_tag : (a b c d e f : ℕ) (rest : List ℕ) → is_tag (word a b) ≡ true → typed (a ∷ b ∷ c ∷ d ∷ e ∷ f ∷ rest) ≡ typed (e ∷ f ∷ rest)
unfolding typed after_type
over_tag a b c d e f rest h = rw h refl

pub typed_found : (bytes packet : List ℕ) → typed bytes ≡ Some packet → IsTyped bytes packet
unfolding typed
typed_found [] packet e = absurd cc
typed_found (a ∷ []) packet e = absurd cc
typed_found (a ∷ b ∷ []) packet e = short a b [] packet (omega arith) e
typed_found (a ∷ b ∷ c ∷ []) packet e = short a b (c ∷ []) packet (omega arith) e
typed_found (a ∷ b ∷ c ∷ d ∷ []) packet e = short a b (c ∷ d ∷ []) packet (omega arith) e
typed_found (a ∷ b ∷ c ∷ d ∷ f ∷ []) packet e = short a b (c ∷ d ∷ f ∷ []) packet (omega arith) e
typed_found (a ∷ b ∷ c ∷ d ∷ f ∷ g ∷ rest) packet e =
    elim (cases_Bool (is_tag (word a b))) [
      | inl tag ↦ one_more a b c d (f ∷ g ∷ rest) packet tag (typed_found (f ∷ g ∷ rest) packet (sym (over_tag a b c d f g rest tag) ∙ e))
      | inr other ↦ plain a b (c ∷ d ∷ f ∷ g ∷ rest) packet other e
    ]

after_typed : (a b : ℕ) (rest packet : List ℕ) → after_type (word a b) rest ≡ Some packet → typed (a ∷ b ∷ rest) ≡ Some packet
unfolding typed
after_typed a b rest packet t = t

cooked_found : (bytes packet : List ℕ) → cooked_of bytes ≡ Some packet → IsCooked bytes packet
unfolding cooked_of
cooked_found [] packet e = absurd cc
cooked_found (a ∷ []) packet e = absurd cc
cooked_found (a ∷ b ∷ more) packet e =
    then_some (after_type (word a b)) (after 18 more) packet e
    (λ rest is t. record {
      a = a;
      b = b;
      more = more;
      rest = rest;
      is = refl;
      header = after_found 18 more rest is;
      typed = typed_found (a ∷ b ∷ rest) packet (after_typed a b rest packet t);
    })

-- ---- 802.11

snap_found : (bytes packet : List ℕ) → snap bytes ≡ Some packet → IsSnap bytes packet
unfolding snap
snap_found (a ∷ b ∷ c ∷ d ∷ e ∷ f ∷ rest) packet s =
    branch (is_snap a b c d e f) _ _ (Some packet) s
    (λ l k. (let x1 : ((a == 0xaa) ≡ true) × (((b == 0xaa) && ((c == 0x03) && ((d == 0) && ((e == 0) && (f == 0))))) ≡ true) = both (a == 0xaa) _ l in
    let x2 : ((b == 0xaa) ≡ true) × (((c == 0x03) && ((d == 0) && ((e == 0) && (f == 0)))) ≡ true) = both (b == 0xaa) _ x1.1 in
    let x3 : ((c == 0x03) ≡ true) × (((d == 0) && ((e == 0) && (f == 0))) ≡ true) = both (c == 0x03) _ x2.1 in
    let x4 : ((d == 0) ≡ true) × (((e == 0) && (f == 0)) ≡ true) = both (d == 0) _ x3.1 in
    let x5 : ((e == 0) ≡ true) × ((f == 0) ≡ true) = both (e == 0) (f == 0) x4.1 in
    record {
      rest = rest;
      is = ap (λ (x : ℕ). x ∷ b ∷ c ∷ d ∷ e ∷ f ∷ rest) (eqb-true a 0xaa x1.0)
          ∙ ap (λ (x : ℕ). 0xaa ∷ x ∷ c ∷ d ∷ e ∷ f ∷ rest) (eqb-true b 0xaa x2.0)
          ∙ ap (λ (x : ℕ). 0xaa ∷ 0xaa ∷ x ∷ d ∷ e ∷ f ∷ rest) (eqb-true c 0x03 x3.0)
          ∙ ap (λ (x : ℕ). 0xaa ∷ 0xaa ∷ 0x03 ∷ x ∷ e ∷ f ∷ rest) (eqb-true d 0 x4.0)
          ∙ ap (λ (x : ℕ). 0xaa ∷ 0xaa ∷ 0x03 ∷ 0 ∷ x ∷ f ∷ rest) (eqb-true e 0 x5.0)
          ∙ ap (λ (x : ℕ). 0xaa ∷ 0xaa ∷ 0x03 ∷ 0 ∷ 0 ∷ x ∷ rest) (eqb-true f 0 x5.1);
      typed = typed_found rest packet k;
    }))
    (λ l k. absurd (no_some packet k))
snap_found _ packet s = absurd (no_some packet s)

-- sequence control, fields, and LLC
record Sequenced (fields : ℕ) (bytes packet : List ℕ) : Type 0 where
  number : ℕ
  sequence : ℕ
  tail : List ℕ
  rest : List ℕ
  is : bytes ≡ number ∷ sequence ∷ tail
  first : (number % 16 == 0) ≡ true
  follows : Follows fields tail rest
  has_snap : IsSnap rest packet

sequenced_found : (fields : ℕ) (bytes packet : List ℕ) → sequenced fields bytes ≡ Some packet → Sequenced fields bytes packet
unfolding sequenced
sequenced_found fields (a ∷ b ∷ tail) packet e =
    branch (a % 16 == 0) _ _ (Some packet) e
    (λ l k. then_some snap (after fields tail) packet k
    (λ rest is s. record {
      number = a;
      sequence = b;
      tail = tail;
      rest = rest;
      is = refl;
      first = l;
      follows = after_found fields tail rest is;
      has_snap = snap_found rest packet s;
    }))
    (λ l k. absurd (no_some packet k))
sequenced_found fields (a ∷ []) packet e = absurd (no_some packet e)
sequenced_found fields [] packet e = absurd (no_some packet e)

wireless_found : (bytes packet : List ℕ) → wireless_of bytes ≡ Some packet → IsWireless bytes packet
unfolding wireless_of
wireless_found (control ∷ flags ∷ more) packet e =
    branch (is_plain_data control flags) _ _ (Some packet) e
    (λ l k. then_some (sequenced (fourth_address flags + qos_control control flags)) (after 20 more) packet k
    (λ x is s. (let q : Sequenced (fourth_address flags + qos_control control flags) x packet =
    sequenced_found (fourth_address flags + qos_control control flags) x packet s in
    let f : Follows 20 more x = after_found 20 more x is in record {
      control = control;
      flags = flags;
      more = more;
      number = q.number;
      sequence = q.sequence;
      tail = q.tail;
      rest = q.rest;
      is = refl;
      is_data = l;
      addresses = record { header = f.header; is = f.is ∙ ap (λ (y : List ℕ). f.header ++ y) q.is; size = f.size };
      is_first = q.first;
      fields = q.follows;
      has_snap = q.has_snap;
    })))
    (λ l k. absurd (no_some packet k))
wireless_found (a ∷ []) packet e = absurd (no_some packet e)
wireless_found [] packet e = absurd (no_some packet e)

radiotap_found : (bytes packet : List ℕ) → radiotap_of bytes ≡ Some packet → IsRadiotap bytes packet
unfolding radiotap_of
radiotap_found (a ∷ b ∷ c ∷ d ∷ more) packet e =
    branch (a == 0) _ _ (Some packet) e
    (λ l k. then_some wireless_of (after (low_word c d) (a ∷ b ∷ c ∷ d ∷ more)) packet k
    (λ rest is s. record {
      b = b;
      c = c;
      d = d;
      more = more;
      rest = rest;
      is = ap (λ (x : ℕ). x ∷ b ∷ c ∷ d ∷ more) (eqb-true a 0 l);
      header = after_found (low_word c d) (a ∷ b ∷ c ∷ d ∷ more) rest is;
      frame = wireless_found rest packet s;
    }))
    (λ l k. absurd (no_some packet k))
radiotap_found _ packet e = absurd (no_some packet e)

-- ---- NFLOG

-- attributes, of which the last one is the packet
record Logged (bytes packet : List ℕ) : Type 0 where
  others : List Attribute
  a : ℕ
  b : ℕ
  c : ℕ
  d : ℕ
  rest : List ℕ
  is : bytes ≡ in_a_row others (a ∷ b ∷ c ∷ d ∷ rest)
  are_others : AreOthers others
  has_length : nat_lt (low_word a b) 4 ≡ false
  has_packet : (low_word c d == 9) ≡ true
  payload : IsPayload (low_word a b - 4) rest packet

this_one : (a b c d : ℕ) (rest packet : List ℕ) → nat_lt (low_word a b) 4 ≡ false → (low_word c d == 9) ≡ true → take (low_word a b - 4) rest ≡ packet
    → Logged (a ∷ b ∷ c ∷ d ∷ rest) packet
this_one a b c d rest packet l n e = record {
  others = [];
  a = a;
  b = b;
  c = c;
  d = d;
  rest = rest;
  is = refl;
  are_others = tt;
  has_length = l;
  has_packet = n;
  payload = rw (← e) (payload_found (low_word a b - 4) rest);
}

later_one : (a b c d : ℕ) (more tail packet : List ℕ) → nat_lt (low_word a b) 4 ≡ false → (low_word c d == 9) ≡ false
    → Follows (padded (low_word a b) - 4) more tail → Logged tail packet → Logged (a ∷ b ∷ c ∷ d ∷ more) packet
later_one a b c d more tail packet l n f k = record {
  others = record { a = a; b = b; c = c; d = d; value = f.header } ∷ k.others;
  a = k.a;
  b = k.b;
  c = k.c;
  d = k.d;
  rest = k.rest;
  is = ap (λ (x : List ℕ). a ∷ b ∷ c ∷ d ∷ x) (f.is ∙ ap (λ (x : List ℕ). f.header ++ x) k.is);
  are_others = (l, n, f.size, k.are_others);
  has_length = k.has_length;
  has_packet = k.has_packet;
  payload = k.payload;
}

attributes_found : (n : ℕ) (bytes packet : List ℕ) → attributes n bytes ≡ Some packet → Logged bytes packet
unfolding attributes
attributes_found zero bytes packet e = absurd (no_some packet e)
attributes_found (suc n) (a ∷ b ∷ c ∷ d ∷ rest) packet e =
    branch (nat_lt (low_word a b) 4) _ _ (Some packet) e
    (λ l k. absurd (no_some packet k))
    (λ l k. branch (low_word c d == 9) _ _ (Some packet) k
    (λ nine f. this_one a b c d rest packet l nine (some_is (take (low_word a b - 4) rest) packet f))
    (λ other f. then_some (attributes n) (after (padded (low_word a b) - 4) rest) packet f
    (λ tail is t. later_one a b c d rest tail packet l other (after_found (padded (low_word a b) - 4) rest tail is) (attributes_found n tail packet t))))
attributes_found (suc n) _ packet e = absurd (no_some packet e)

logged_found : (bytes packet : List ℕ) → option_and_then all_attributes (after 4 bytes) ≡ Some packet → IsLogged bytes packet
logged_found bytes packet e =
    then_some all_attributes (after 4 bytes) packet e
    (λ x is t. (let k : Logged x packet = attributes_found (length x) x packet t in record {
      attributes = x;
      header = after_found 4 bytes x is;
      others = k.others;
      a = k.a;
      b = k.b;
      c = k.c;
      d = k.d;
      rest = k.rest;
      is = k.is;
      are_others = k.are_others;
      has_length = k.has_length;
      has_packet = k.has_packet;
      payload = k.payload;
    }))

-- ----

packet_found : (link : ℕ) (bytes packet : List ℕ) → plain_packet_in link bytes ≡ Some packet → IsPacket link bytes packet
packet_found link bytes packet e =
    branch (link == 1) _ _ (Some packet) e
    (λ l f. then_some typed (after 12 bytes) packet f
    (λ rest is t. ethernet rest (eqb-true link 1 l) (after_found 12 bytes rest is) (typed_found rest packet t)))
    (λ l f. branch (link == 113) _ _ (Some packet) f
    (λ l f. then_some typed (after 14 bytes) packet f
    (λ rest is t. cooked rest (eqb-true link 113 l) (after_found 14 bytes rest is) (typed_found rest packet t)))
    (λ l f. branch (link == 276) _ _ (Some packet) f
    (λ l f. cooked_2 (eqb-true link 276 l) (cooked_found bytes packet f))
    (λ l f. branch (is_loopback link) _ _ (Some packet) f
    (λ l f. loopback l (after_found 4 bytes packet f))
    (λ l f. branch (is_raw link) _ _ (Some packet) f
    (λ l f. raw l (some_is bytes packet f))
    (λ l f. branch (is_ppp link) _ _ (Some packet) f
    (λ l f. point_to_point l (framed_found bytes packet f))
    (λ l f. branch (link == 51) _ _ (Some packet) f
    (λ l f. over_ethernet (eqb-true link 51 l) (session_found bytes packet f))
    (λ l f. branch (link == 105) _ _ (Some packet) f
    (λ l f. wireless (eqb-true link 105 l) (wireless_found bytes packet f))
    (λ l f. branch (link == 127) _ _ (Some packet) f
    (λ l f. radiotap (eqb-true link 127 l) (radiotap_found bytes packet f))
    (λ l f. branch (link == 239) _ _ (Some packet) f
    (λ l f. logged (eqb-true link 239 l) (logged_found bytes packet f)) (λ l f. absurd (no_some packet f)))))))))))

-- ---- PKTAP

tapped_found : (bytes packet : List ℕ) → tapped_of bytes ≡ Some packet → IsTapped bytes packet
unfolding tapped_of
tapped_found (a ∷ b ∷ c ∷ d ∷ e ∷ f ∷ g ∷ h ∷ i ∷ j ∷ k ∷ l ∷ more) packet s =
    then_some (plain_packet_in (low_long_word i j k l)) (after (low_long_word a b c d) (a ∷ b ∷ c ∷ d ∷ e ∷ f ∷ g ∷ h ∷ i ∷ j ∷ k ∷ l ∷ more)) packet s
    (λ rest is t. record {
      a = a;
      b = b;
      c = c;
      d = d;
      e = e;
      f = f;
      g = g;
      h = h;
      i = i;
      j = j;
      k = k;
      l = l;
      more = more;
      rest = rest;
      is = refl;
      header = after_found (low_long_word a b c d) (a ∷ b ∷ c ∷ d ∷ e ∷ f ∷ g ∷ h ∷ i ∷ j ∷ k ∷ l ∷ more) rest is;
      frame = packet_found (low_long_word i j k l) rest packet t;
    })
tapped_found _ packet s = absurd (no_some packet s)

pub frame_found : (link : ℕ) (bytes packet : List ℕ) → packet_in link bytes ≡ Some packet → IsInFrame link bytes packet
frame_found link bytes packet e =
    branch (link == 258) _ _ (Some packet) e
    (λ l f. tapped (eqb-true link 258 l) (tapped_found bytes packet f)) (λ l f. plain_frame l (packet_found link bytes packet f))

-- ---- GRE

bridged_found : (a b : ℕ) (rest packet : List ℕ) → bridged (word a b) rest ≡ Some packet → IsBridged a b rest packet
unfolding bridged
bridged_found a b rest packet e =
    branch (word a b == 0x6558) _ _ (Some packet) e
    (λ l f. then_some typed (after 12 rest) packet f
    (λ more is t. frame more (eqb-true (word a b) 0x6558 l) (after_found 12 rest more is) (typed_found more packet t)))
    (λ l f. another l (typed_found (a ∷ b ∷ rest) packet (after_typed a b rest packet f)))

pub gre_found : (bytes packet : List ℕ) → gre bytes ≡ Some packet → IsGre bytes packet
unfolding gre
gre_found (first ∷ second ∷ a ∷ b ∷ more) packet e =
    branch (is_gre first second) _ _ (Some packet) e
    (λ l k. then_some (bridged (word a b)) (after (gre_fields first) more) packet k
    (λ rest is t. record {
      first = first;
      second = second;
      a = a;
      b = b;
      more = more;
      rest = rest;
      is = refl;
      version = l;
      fields = after_found (gre_fields first) more rest is;
      bridged = bridged_found a b rest packet t;
    }))
    (λ l k. absurd (no_some packet k))
gre_found _ packet e = absurd (no_some packet e)
