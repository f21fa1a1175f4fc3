-- What is read of a segment stands in it, and so what is read of a frame.
use Rattle.std.proofs.Common.{◌≡◌, ℕ, ◌+◌, ◌-◌, ◌*◌, ◌/◌, ◌≤◌, ◌==◌, nat_lt, List, [], ◌∷◌, ◌++◌, length, take, drop, false}
use Rattle.std.proofs.Common.{Some, None, ap, sym, ◌∙◌, refl, arith, inl, inr, ltb-false, eqb-true, append-nil}
use Rattle.std.proofs.Math.ListN.{drop_of_length-le}
use Rattle.std.proofs.lemmas.Bool.{cases_lt}
use Rattle.std.proofs.lemmas.List.{take-append-drop, length-take-le}
use Rattle.bt_packet.specs.Ip.{Contents, ip_after, is_wrapped, innermost, outer, carried}
use Rattle.bt_packet.specs.Links.{packet_in}
use Rattle.bt_packet.specs.Tcp.{TcpSegment, tcp, segment_in, segment_of}
use Rattle.bt_packet.specs.Frames.{Tcp, tcp_bytes, said}
use Rattle.bt_packet.specs.Segments.{HasOptions, IsTcpSegment, AreWithin, IsCarriedBy, IsSegmentOf}
use Rattle.bt_packet.specs.declared.address.Host.{Host}
use Rattle.bt_packet.proofs.Found.{if_none, then_some, frame_found, branch, no_some, some_is}
use Rattle.bt_packet.proofs.FoundIp.{ip_found}
use Rattle.bt_packet.proofs.Within.{unwrapped_found}

-- ---- TCP

-- options, or some of them
pub options_found : (header : ℕ) (rest : List ℕ) → 20 ≤ header
    → (options : List ℕ) × (rest ≡ options ++ drop (header - 20) rest) × HasOptions header options (drop (header - 20) rest)
options_found header rest least =
    elim (cases_lt (length rest) (header - 20)) [
      | inl h ↦ (let none : drop (header - 20) rest ≡ [] = drop_of_length-le rest (omega arith) in
          (rest, rw none (sym (append-nil rest)), inr (omega arith, none)))
      | inr h ↦ (take (header - 20) rest, sym (take-append-drop (header - 20) rest), inl (omega (arith, length-take-le (header - 20) rest h)))
    ]

with_data : (header : ℕ) (options x y : List ℕ) → x ≡ y → HasOptions header options x → HasOptions header options y
with_data header options x y e h = rw (← e) h

pub tcp_found : (source target : Host) (size : ℕ) (p : List ℕ) (s : TcpSegment) → tcp source target size p ≡ Some s
    → (t : Tcp) × (p ≡ tcp_bytes t s.payload) × HasOptions (4 * (t.offset / 16)) t.options s.payload
    × (s ≡ said source target t s.payload (size - 4 * (t.offset / 16)))
unfolding tcp
tcp_found source target size (a ∷ b ∷ c ∷ d ∷ e ∷ f ∷ g ∷ h ∷ i ∷ j ∷ k ∷ l ∷ m ∷ n ∷ o ∷ p ∷ q ∷ r ∷ u ∷ v ∷ rest) s is =
    let header : ℕ = 4 * (m / 16) in
    let data' : List ℕ = drop (header - 20) rest in
    let bare : Tcp = record {
      s0 = a;
      s1 = b;
      d0 = c;
      d1 = d;
      n0 = e;
      n1 = f;
      n2 = g;
      n3 = h;
      a0 = i;
      a1 = j;
      a2 = k;
      a3 = l;
      offset = m;
      bits = n;
      w0 = o;
      w1 = p;
      k0 = q;
      k1 = r;
      u0 = u;
      u1 = v;
      options = [];
    } in
    let w : (nat_lt (m / 16) 5 ≡ false) × (Some (said source target bare data' (size - header)) ≡ Some s) =
    if_none (nat_lt (m / 16) 5) (Some (said source target bare data' (size - header))) s is in
    let same : said source target bare data' (size - header) ≡ s = some_is (said source target bare data' (size - header)) s w.1 in
    let held : data' ≡ s.payload = ap (λ (x : TcpSegment). x.payload) same in
    let least : 5 ≤ m / 16 = ltb-false (m / 16) 5 w.0 in
    let x : (options : List ℕ) × (rest ≡ options ++ data') × HasOptions header options data' = options_found header rest (omega arith) in (
      record bare { options = x.0 },
      ap (λ (y : List ℕ). a ∷ b ∷ c ∷ d ∷ e ∷ f ∷ g ∷ h ∷ i ∷ j ∷ k ∷ l ∷ m ∷ n ∷ o ∷ p ∷ q ∷ r ∷ u ∷ v ∷ y) (x.1 ∙ ap (λ (y : List ℕ). x.0 ++ y) held),
      with_data header x.0 data' s.payload held x.2,
      sym same ∙ ap (λ (y : List ℕ). said source target bare y (size - header)) held,
    )
tcp_found source target size _ s is = absurd (no_some s is)

pub segment_in_found : (c : Contents) (s : TcpSegment) → segment_in c ≡ Some s → IsTcpSegment c s
segment_in_found c s is =
    branch (c.protocol == 6) _ _ (Some s) is
    (λ six f. (let x : (t : Tcp) × (c.payload ≡ tcp_bytes t s.payload) × HasOptions (4 * (t.offset / 16)) t.options s.payload
    × (s ≡ said c.source c.target t s.payload (c.size - 4 * (t.offset / 16))) = tcp_found c.source c.target c.size c.payload s f in
    record { t = x.0; protocol = eqb-true c.protocol 6 six; is = x.1; options = x.2; says = x.3 }))
    (λ other f. absurd (no_some s f))

-- ---- all

pub carried_found : (link : ℕ) (bytes : List ℕ) (wire : ℕ) (c : Contents) → carried link bytes wire ≡ Some c → IsCarriedBy link bytes wire c
carried_found link bytes wire c is =
    then_some innermost (outer link bytes wire) c is
    (λ o has inner. then_some (ip_after wire bytes) (packet_in link bytes) o has
    (λ packet found reads. (let w : (between : List Contents) × AreWithin o between c × (is_wrapped c.protocol ≡ false) =
    unwrapped_found (length o.payload) o c inner in record {
      packet = packet;
      has_packet = frame_found link bytes packet found;
      outermost = o;
      has_contents = ip_found (wire - (length bytes - length packet)) packet o reads;
      between = w.0;
      within = w.1;
      innermost = w.2;
    })))

pub segment_found : (link : ℕ) (bytes : List ℕ) (wire : ℕ) (s : TcpSegment) → segment_of link bytes wire ≡ Some s → IsSegmentOf link bytes wire s
segment_found link bytes wire s is =
    then_some segment_in (carried link bytes wire) s is
    (λ c has says. record { contents = c; carried_by = carried_found link bytes wire c has; has_segment = segment_in_found c s says })
