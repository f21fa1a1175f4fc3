-- The streams of the two sides, after one more packet.
use Rattle.std.proofs.Common.{◌≡◌, ℕ, ◌+◌, ◌-◌, ◌%◌, ◌^◌, ◌<◌, ◌≤◌, Bool, true, false, ◌&&◌, ◌||◌, not, if◌then◌else◌, Option, Some, None, List, [], ◌∷◌, ◌++◌}
use Rattle.std.proofs.Common.{refl, sym, ◌∙◌, ap, subst, arith, inl, inr, append_assoc, append-nil}
use Rattle.std.proofs.lemmas.Bool.{cases_Bool, and_parts, or_cases}
use Rattle.std.proofs.lemmas.Grind.{common_steps}
use Rattle.bt_packet.specs.declared.utp.UtpKind.{UtpKind}
use Rattle.bt_packet.specs.declared.utp.UtpKind.TheVariants.{Data, Fin, State, Reset, Syn}
use Rattle.bt_order.specs.declared.direction.Direction.{Direction}
use Rattle.bt_order.specs.declared.link.Came.{Came}
use Rattle.bt_order.specs.declared.link.Turned.{Turned}
use Rattle.bt_order.specs.declared.link.Link.{Link}
use Rattle.bt_order.specs.Numbers.{IsNearestNumber}
use Rattle.bt_order.specs.Streams.{Packet, packet_at, payloads}
use Rattle.bt_order.specs.Held.{held_at, packet_with}
use Rattle.bt_order.specs.Directions.{IsDirectionOf, TakesNumber, Stays, is_open}
use Rattle.bt_order.specs.States.{is_fresh, gap_of}
use Rattle.bt_order.specs.Links.{IsBegun, told_first, is_answer, is_first_data, may_correct, payload_of, is_fin, TurnsBy, StaysLink, Carries, CarriesBy}
use Rattle.bt_order.proofs.Taking.{open_state}
use Rattle.bt_utp.specs.declared.connection.Connection.{Connection}
use Rattle.bt_utp.specs.Channels.{is_from_initiator}
use Rattle.bt_utp.specs.Taken.{Taken, IsTurn, link_kind}
use Rattle.bt_utp.specs.Turnings.{AreTurned, packets_of}
use Rattle.bt_utp.specs.SideStreams.{is_of_side, bytes_of, is_numbered, IsLeftOut, AreSent, IsSideStream, AreSideStreams, RunsAreStreams, ConnectionsAreStreams}
use Rattle.bt_utp.specs.SideStreams.AreSent.{none, learnt, left_out, sent}

-- ---- numbers

at_nearest : (first near number : ℕ) → 65536 ≤ near → number < 2 ^ 16
    → IsNearestNumber first near number (near - 32768 + (number + 65536 - (first + near - 32768) % 65536) % 65536)
at_nearest first near number h g = record { has = omega (arith, h, g); above = omega (arith, h, g); below = omega (arith, h, g) }

-- ---- what one more packet adds

bytes_more : (side : Bool) (c : Connection) (xs : List Taken) (x : Taken)
    → bytes_of side c (xs ++ x ∷ []) ≡ bytes_of side c xs ++ (if is_of_side side c x then x.bytes else [])
bytes_more side c [] x = append-nil (if is_of_side side c x then x.bytes else [])
bytes_more side c (y ∷ ys) x =
    ap (λ l. (if is_of_side side c y then y.bytes else []) ++ l) (bytes_more side c ys x)
    ∙ sym (append_assoc (if is_of_side side c y then y.bytes else []) (bytes_of side c ys) (if is_of_side side c x then x.bytes else []))

-- It stays when a packet adds nothing.
same_stream : (side : Bool) (c : Connection) (xs : List Taken) (x : Taken) (d : Direction) → IsSideStream side c xs d
    → (if is_of_side side c x then x.bytes else []) ≡ [] → IsLeftOut side c x → IsSideStream side c (xs ++ x ∷ []) d
same_stream side c xs x d h e out = record {
  packets = h.packets;
  are_sent = left_out xs h.packets x h.are_sent out;
  direction = subst (λ l. IsDirectionOf h.packets l d)
      (sym (bytes_more side c xs x ∙ ap (λ l. bytes_of side c xs ++ l) e ∙ append-nil (bytes_of side c xs))) h.direction;
}

stays_stream : (side : Bool) (c : Connection) (xs : List Taken) (d d' : Direction) → IsSideStream side c xs d → Stays d [] d' [] → IsSideStream side c xs d'
stays_stream side c xs d d' h s = record {
  packets = h.packets;
  are_sent = subst (λ n. AreSent side c n xs h.packets) (sym s.start.first) h.are_sent;
  direction = s.kept h.packets (bytes_of side c xs) h.direction;
}

-- A packet of the type ST_DATA or ST_FIN that the direction took
module _ (side : Bool) (c : Connection) (xs : List Taken) (x : Taken) (d d' : Direction) (came : Came) (room : ℕ) (h : IsSideStream side c xs d)
    (own : is_of_side side c x ≡ true) (numbered : is_numbered x.packet.kind ≡ true) (number : came.number ≡ x.packet.number)
    (kind : came.kind ≡ link_kind x.packet.kind) (bytes : came.bytes.now ≡ x.packet.payload) (size : came.size ≡ x.packet.size)
    (small : x.packet.number < 2 ^ 16) where
  own_bytes : bytes_of side c (xs ++ x ∷ []) ≡ bytes_of side c xs ++ x.bytes
  own_bytes = bytes_more side c xs x ∙ ap (λ b. bytes_of side c xs ++ (if b then x.bytes else [])) own

  took : (has_room : Bool) → TakesNumber came.number (payload_of came) room has_room d [] d' x.bytes → x.turned.is_missing ≡ gap_of d' || not has_room
      → IsSideStream side c (xs ++ x ∷ []) d'
  took true takes says =
      let i : ℕ = d.next - 32768 + (came.number + 65536 - (d.first + d.next - 32768) % 65536) % 65536 in
      let near = at_nearest d.first d.next came.number d.low (subst (λ n. n < 2 ^ 16) (sym number) small) in
      let t = takes i near in
      record {
        packets = h.packets ++ packet_with i (payload_of came) ∷ [];
        are_sent = subst (λ n. AreSent side c n (xs ++ x ∷ []) (h.packets ++ packet_with i (payload_of came) ∷ [])) (sym t.start.first)
            (sent xs h.packets x (packet_with i (payload_of came)) h.are_sent (record {
              sender = own;
              numbered = numbered;
              number = near.has ∙ number;
              fin = ap is_fin kind;
              bytes = bytes;
              size = size;
            }));
        direction = subst (λ l. IsDirectionOf (h.packets ++ packet_with i (payload_of came) ∷ []) l d')
            (ap (λ l. bytes_of side c xs ++ l) (sym t.is) ∙ sym own_bytes) (t.taken h.packets (bytes_of side c xs) h.direction);
      }
  took false leaves says =
      let s = leaves.stays in
      let none_more : (if is_of_side side c x then x.bytes else []) ≡ [] = ap (λ b. if b then x.bytes else []) own ∙ s.is in
      let same = same_stream side c xs x d h none_more (inr (inr (says ∙ grind (arith, common_steps)))) in
      record {
        packets = same.packets;
        are_sent = subst (λ n. AreSent side c n (xs ++ x ∷ []) same.packets) (sym s.start.first) same.are_sent;
        direction = s.kept same.packets (bytes_of side c (xs ++ x ∷ [])) same.direction;
      }

-- ---- the initiator

initiator_same : (came : Came) (room : ℕ) (old new : Link) (bytes : List ℕ) (t : Turned) → came.is_initiator ≡ false
    → Carries came room old [] new bytes t → new.initiator ≡ old.initiator
initiator_same came room old new bytes t n g = elim (cases_Bool old.is_known) [
  | inl y ↦
      let s = subst (λ b. CarriesBy b old.is_known came room old [] new bytes g.step) n g.taken in
      let s' = subst (λ b. CarriesBy false b came room old [] new bytes g.step) y s in
      s'.1
  | inr m ↦
      let s = subst (λ b. CarriesBy b old.is_known came room old [] new bytes g.step) n g.taken in
      let s' = subst (λ b. CarriesBy false b came room old [] new bytes g.step) m s in
      s'.2
]

module _ (c : Connection) (xs : List Taken) (x : Taken) (came : Came) (old new : Link) (side_is : came.is_initiator ≡ is_from_initiator c x.packet)
    (kind : came.kind ≡ link_kind x.packet.kind) (number : came.number ≡ x.packet.number) (bytes : came.bytes.now ≡ x.packet.payload)
    (size : came.size ≡ x.packet.size) (small : x.packet.number < 2 ^ 16) (h : IsSideStream true c xs old.initiator) where
  no_bytes : x.bytes ≡ [] → (b : Bool) → (if b then x.bytes else []) ≡ []
  no_bytes e true = e
  no_bytes e false = refl

  silent : is_numbered x.packet.kind ≡ false → x.bytes ≡ [] → new.initiator ≡ old.initiator → IsSideStream true c (xs ++ x ∷ []) new.initiator
  silent k e same =
      subst (IsSideStream true c (xs ++ x ∷ [])) (sym same)
      (same_stream true c xs x old.initiator h (no_bytes e (is_from_initiator c x.packet)) (inr (inl k)))

  carried : is_numbered x.packet.kind ≡ true → Carries came x.room old [] new x.bytes x.turned → IsSideStream true c (xs ++ x ∷ []) new.initiator
  carried k g = elim (cases_Bool came.is_initiator) [
    | inl y ↦
        let s = subst (λ b. CarriesBy b old.is_known came x.room old [] new x.bytes g.step) y g.taken in
        took true c xs x old.initiator new.initiator came x.room h (sym side_is ∙ y) k number kind bytes size small
        s.0.has_room s.0.taken (ap (λ t. t.is_missing) g.turned ∙ s.0.missing)
    | inr n ↦ subst (IsSideStream true c (xs ++ x ∷ [])) (sym (initiator_same came x.room old new x.bytes x.turned n g))
        (same_stream true c xs x old.initiator h (ap (λ b. if b then x.bytes else []) (sym side_is ∙ n)) (inl (sym side_is ∙ n)))
  ]

  initiator_by : (k : UtpKind) → x.packet.kind ≡ k → TurnsBy (link_kind k) came x.room old [] new x.bytes x.turned
      → IsSideStream true c (xs ++ x ∷ []) new.initiator
  initiator_by Data e g = carried (ap is_numbered e) g
  initiator_by Fin e g = carried (ap is_numbered e) g
  initiator_by State e g = silent (ap is_numbered e) g.1 g.0.initiator
  initiator_by Reset e g = silent (ap is_numbered e) g.1 (ap (λ l. l.initiator) g.0.same)
  initiator_by Syn e g = silent (ap is_numbered e) g.2 (ap (λ l. l.initiator) g.1)

-- ---- the acceptor

record IsHeard (c : Connection) (xs : List Taken) (link : Link) : Type 0 where
  known : link.is_known ≡ true → IsSideStream false c xs link.acceptor
  unknown : link.is_known ≡ false → bytes_of false c xs ≡ []

fresh_none : (d : Direction) (ps : List Packet) (out : List ℕ) → IsDirectionOf ps out d → is_fresh d ≡ true → out ≡ []
fresh_none d ps out h fresh =
    let opened : is_open d.course ≡ true = grind (arith, common_steps) in
    let first : d.next ≡ 65536 = grind (arith, common_steps) in
    let none : d.next - 65536 ≡ 0 = omega (arith, first) in
    let s = open_state (packet_at ps) out d.course d.next (held_at d.held) opened h.state in
    s.0.is ∙ ap (λ n. payloads (packet_at ps) n 65536) none

not_false : (b : Bool) → not b ≡ true → b ≡ false
not_false true h = cc
not_false false h = refl

both_kinds : (b : Bool) → b ≡ true → b ≡ false → ⊥
both_kinds b h g = cc

-- the acceptor's first number, if the initiator's first ST_DATA tells it
abbrev by_data : Link → Came → Option ℕ
by_data link came =
    if is_first_data link.syn came && may_correct link.is_known link.has_sent link.acceptor then Some ((came.acked + 1) % 2 ^ 16) else None

-- A packet that tells the first number comes before any byte.
nothing_yet : (c : Connection) (xs : List Taken) (link : Link) (came : Came) (n : ℕ) → IsHeard c xs link → told_first link came ≡ Some n
    → bytes_of false c xs ≡ []
nothing_yet c xs link came n h told = elim (cases_Bool link.is_known) [
  | inr m ↦ h.unknown m
  | inl y ↦ elim (cases_Bool (is_answer link.syn came)) [
    | inl a ↦
        let e : None ≡ Some n =
        sym (ap (λ b. if b then None else Some came.number) y)
        ∙ sym (ap (λ b. if b then (if link.is_known then None else Some came.number) else by_data link came) a) ∙ told in
        cc
    | inr a ↦
        let rest : by_data link came ≡ Some n =
        sym (ap (λ b. if b then (if link.is_known then None else Some came.number) else by_data link came) a) ∙ told in
        elim (cases_Bool (is_first_data link.syn came && may_correct link.is_known link.has_sent link.acceptor)) [
          | inr m ↦
              let e : None ≡ Some n =
              sym (ap (λ b. if b then Some ((came.acked + 1) % 2 ^ 16) else None) m) ∙ rest in
              cc
          | inl p ↦
              let may = (and_parts (is_first_data link.syn came) (may_correct link.is_known link.has_sent link.acceptor) p).1 in
              elim (or_cases (not link.is_known) (is_fresh link.acceptor) (and_parts (not link.has_sent) (not link.is_known || is_fresh link.acceptor) may).1) [
                | inl u ↦ h.unknown (not_false link.is_known u)
                | inr f ↦ let s = h.known y in fresh_none link.acceptor s.packets (bytes_of false c xs) s.direction f
              ]
        ]
  ]
]

module _ (c : Connection) (xs : List Taken) (x : Taken) (came : Came) (old new : Link) (side_is : came.is_initiator ≡ is_from_initiator c x.packet)
    (kind : came.kind ≡ link_kind x.packet.kind) (number : came.number ≡ x.packet.number) (bytes : came.bytes.now ≡ x.packet.payload)
    (size : came.size ≡ x.packet.size) (small : x.packet.number < 2 ^ 16) (h : IsHeard c xs old) where
  bytes_same : (if not (is_from_initiator c x.packet) then x.bytes else []) ≡ [] → bytes_of false c (xs ++ x ∷ []) ≡ bytes_of false c xs
  bytes_same e = bytes_more false c xs x ∙ ap (λ l. bytes_of false c xs ++ l) e ∙ append-nil (bytes_of false c xs)

  heard_same : (if not (is_from_initiator c x.packet) then x.bytes else []) ≡ [] → IsLeftOut false c x → new.acceptor ≡ old.acceptor
      → new.is_known ≡ old.is_known → IsHeard c (xs ++ x ∷ []) new
  heard_same e out same known = record {
    known = λ y. subst (IsSideStream false c (xs ++ x ∷ [])) (sym same) (same_stream false c xs x old.acceptor (h.known (sym known ∙ y)) e out);
    unknown = λ n. bytes_same e ∙ h.unknown (sym known ∙ n);
  }

  heard_begun : (if not (is_from_initiator c x.packet) then x.bytes else []) ≡ [] → IsLeftOut false c x → (o : Option ℕ) → told_first old came ≡ o
      → IsBegun o old.acceptor old.is_known new.acceptor new.is_known → IsHeard c (xs ++ x ∷ []) new
  heard_begun e out None told g = heard_same e out g.0 g.1
  heard_begun e out (Some n) told g = record {
    known = λ y. record {
      packets = [];
      are_sent = learnt (xs ++ x ∷ []) refl;
      direction = subst (λ l. IsDirectionOf [] l new.acceptor) (sym (bytes_same e ∙ nothing_yet c xs old came n h told)) g.0.none;
    };
    unknown = λ m. absurd (both_kinds new.is_known g.1 m);
  }

  none_if : x.bytes ≡ [] → (b : Bool) → (if b then x.bytes else []) ≡ []
  none_if e true = e
  none_if e false = refl

  heard_carried : is_numbered x.packet.kind ≡ true → Carries came x.room old [] new x.bytes x.turned → IsHeard c (xs ++ x ∷ []) new
  heard_carried k g = elim (cases_Bool came.is_initiator) [
    | inl y ↦
        let s = subst (λ b. CarriesBy b old.is_known came x.room old [] new x.bytes g.step) y g.taken in
        let other : not (is_from_initiator c x.packet) ≡ false = ap not (sym side_is ∙ y) in
        heard_begun (ap (λ b. if b then x.bytes else []) other) (inl other) (told_first old came) refl s.1
    | inr n ↦
        let s = subst (λ b. CarriesBy b old.is_known came x.room old [] new x.bytes g.step) n g.taken in
        let own : not (is_from_initiator c x.packet) ≡ true = ap not (sym side_is ∙ n) in
        elim (cases_Bool old.is_known) [
          | inl y ↦
              let s' = subst (λ b. CarriesBy false b came x.room old [] new x.bytes g.step) y s in
              record {
                known = λ z. took false c xs x old.acceptor new.acceptor came x.room (h.known y) own k number kind bytes size small
                    s'.0.has_room s'.0.taken (ap (λ t. t.is_missing) g.turned ∙ s'.0.missing);
                unknown = λ m. absurd (both_kinds new.is_known s'.2 m);
              }
          | inr m ↦
              let s' = subst (λ b. CarriesBy false b came x.room old [] new x.bytes g.step) m s in
              record {
                known = λ z. absurd (both_kinds new.is_known z s'.4);
                unknown = λ z. bytes_same (none_if s'.1 (not (is_from_initiator c x.packet))) ∙ h.unknown m;
              }
        ]
  ]

  heard_by : (k : UtpKind) → x.packet.kind ≡ k → TurnsBy (link_kind k) came x.room old [] new x.bytes x.turned → IsHeard c (xs ++ x ∷ []) new
  heard_by Data e g = heard_carried (ap is_numbered e) g
  heard_by Fin e g = heard_carried (ap is_numbered e) g
  heard_by State e g =
      heard_begun (none_if g.1 (not (is_from_initiator c x.packet))) (inr (inl (ap is_numbered e))) (told_first old came) refl g.0.first
  heard_by Reset e g =
      heard_same (none_if g.1 (not (is_from_initiator c x.packet))) (inr (inl (ap is_numbered e))) (ap (λ l. l.acceptor) g.0.same)
      (ap (λ l. l.is_known) g.0.same)
  heard_by Syn e g =
      heard_same (none_if g.2 (not (is_from_initiator c x.packet))) (inr (inl (ap is_numbered e))) (ap (λ l. l.acceptor) g.1) (ap (λ l. l.is_known) g.1)

-- ---- both, over a run

-- A link after packets, by what holds of its two directions
streams_of : (c : Connection) (xs : List Taken) (l : Link) → IsSideStream true c xs l.initiator → IsHeard c xs l → AreSideStreams c xs l
streams_of c xs l h g = record { initiator = h; acceptor = g.known; unknown = g.unknown }

stay_streams : (c : Connection) (xs : List Taken) (l l' : Link) → AreSideStreams c xs l → StaysLink l [] l' [] → AreSideStreams c xs l'
stay_streams c xs l l' h s = record {
  initiator = stays_stream true c xs l.initiator l'.initiator h.initiator s.initiator;
  acceptor = λ y. stays_stream false c xs l.acceptor l'.acceptor (h.acceptor (sym s.known ∙ y)) s.acceptor;
  unknown = λ n. h.unknown (sym s.known ∙ n);
}

turn_streams : (c : Connection) (xs : List Taken) (x : Taken) (l l' : Link) → AreSideStreams c xs l → IsTurn c x l l' → AreSideStreams c (xs ++ x ∷ []) l'
turn_streams c xs x l l' h t =
    let turns = subst (λ k. TurnsBy k t.came x.room l [] l' x.bytes x.turned) t.is.kind t.turns in
    let heard : IsHeard c xs l = record { known = h.acceptor; unknown = h.unknown } in
    streams_of c (xs ++ x ∷ []) l'
    (initiator_by c xs x t.came l l' t.is.initiator t.is.kind t.is.number t.is.bytes t.is.size t.is.fits h.initiator x.packet.kind refl turns)
    (heard_by c xs x t.came l l' t.is.initiator t.is.kind t.is.number t.is.bytes t.is.size t.is.fits heard x.packet.kind refl turns)

run_streams : (c : Connection) (zs xs : List Taken) (l l' : Link) → AreSideStreams c zs l → AreTurned c l xs l' → AreSideStreams c (zs ++ xs) l'
run_streams c zs [] l l' h t = subst (λ ys. AreSideStreams c ys l') (sym (append-nil zs)) (stay_streams c zs l l' h t)
run_streams c zs (x ∷ xs) l l' h t =
    let one = turn_streams c zs x t.0 t.1 (stay_streams c zs l t.0 h t.2) t.3 in
    subst (λ ys. AreSideStreams c ys l') (append_assoc zs (x ∷ []) xs) (run_streams c (zs ++ x ∷ []) xs t.1 l' one t.4)

pub runs_are_streams : RunsAreStreams
runs_are_streams c xs link run =
    let new = run.1 in
    let begun : AreSideStreams c [] run.0 = record {
      initiator = record { packets = []; are_sent = none; direction = new.initiator.none };
      acceptor = λ y. absurd (both_kinds run.0.is_known y new.known);
      unknown = λ n. refl;
    } in
    run_streams c [] xs run.0 link begun run.2

pub connections_are_streams : ConnectionsAreStreams
connections_are_streams t xs s are n less =
    let o = are.all n less in
    (o.0, o.1, (o.2.0, runs_are_streams o.0 (packets_of n xs) o.2.0 o.2.1))
