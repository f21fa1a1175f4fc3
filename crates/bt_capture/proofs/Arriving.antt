-- The segments of packets, after one packet more.
use Rattle.std.proofs.Common.{◌≡◌, ◌∙◌, ℕ, ◌+◌, ◌-◌, ◌^◌, ◌≤◌, min, List, [], ◌∷◌, ◌++◌, length, append-nil, append_assoc, Option, Some, None}
use Rattle.std.proofs.Common.{Bool, Result, Ok, Err, refl, sym, ap, subst, arith, inl, inr}
use Rattle.std.specs.List.{All}
use Rattle.std.proofs.lemmas.List.{length-append}
use Rattle.std.proofs.lemmas.List.Elements.{All-append, All-cons, All-nil}
use Rattle.bt_packet.specs.Tcp.{TcpSegment}
use Rattle.bt_packet.specs.Utp.{UtpPacket}
use Rattle.bt_pcap.specs.Formats.{Captured}
use Rattle.bt_talk.specs.declared.closing.When.{When}
use Rattle.bt_utp.specs.declared.connection.Connection.{Connection}
use Rattle.bt_utp.specs.declared.connection.Told.{Told}
use Rattle.bt_utp.specs.declared.links.Links.{Links}
use Rattle.bt_utp.specs.Channels.{Table, no_connections, connection_of}
use Rattle.bt_utp.specs.Taken.{Taken, taken_by}
use Rattle.bt_utp.specs.Turnings.{AreLinked, IsOfNone, IsTold}
use Rattle.bt_io.specs.Seen.{TargetSeen}
use Rattle.bt_packet.specs.declared.unread.Unread.{Unread}
use Rattle.bt_capture.specs.declared.connections.Connections.{Connections}
use Rattle.bt_capture.specs.declared.run.Run.{Run}
use Rattle.bt_capture.specs.Following.{Follows, Goes, Since}
use Rattle.bt_capture.specs.Arrivals.{AreArrivals, AreTurnedAll, Arrival, Clock, HaveCome, IsArrival, IsTurnedArrival}
use Rattle.bt_capture.specs.Arrivals.{after_seen, clock_of, seen_of, table_after, turned_arrival, turned_segment, when_of, with_packet}
use Rattle.bt_capture.specs.Runs.{ComeTo, TakesPackets, TakesSeen, since_first}
use Rattle.bt_capture.proofs.Reported.{stops_of}
use Rattle.bt_capture.proofs.Steps.{follows_later, stops_later}
use Rattle.bt_capture.specs.Sights.{Seen, SawSegment, SawUtp, SawOther}

table_more : (t : Table) (packets : List Captured) (p : Captured) → table_after t (packets ++ p ∷ []) ≡ after_seen (table_after t packets) (seen_of p)
table_more t [] p = refl
table_more t (q ∷ qs) p = table_more (after_seen t (seen_of q)) qs p

arrivals_on : (n : ℕ) (t : Table) (packets : List Captured) (p : Captured) (xs more : List Taken) (came new : List Arrival) → AreArrivals n t packets xs came
    → IsArrival (table_after t packets) (seen_of p) (when_of (n + length packets) p) more new
    → AreArrivals n t (packets ++ p ∷ []) (xs ++ more) (came ++ new)
arrivals_on n t [] p xs more came new i a =
    let same : n + length {A = Captured} [] ≡ n = omega arith in
    let xs_are : more ≡ xs ++ more = ap (λ (l : List Taken). l ++ more) (sym i.0) in
    let came_are : new ≡ came ++ new = ap (λ (l : List Arrival). l ++ new) (sym i.1) in
    let now = subst (λ m. IsArrival t (seen_of p) (when_of m p) more new) same a in
    let both = subst (λ l. IsArrival t (seen_of p) (when_of n p) l (came ++ new)) xs_are
    (subst (λ l. IsArrival t (seen_of p) (when_of n p) more l) came_are now) in
    (xs ++ more, [], came ++ new, [], sym (append-nil (xs ++ more)), sym (append-nil (came ++ new)), both, (refl, refl))
arrivals_on n t (q ∷ qs) p xs more came new i a =
    let same : n + length (q ∷ qs) ≡ (n + 1) + length qs = omega arith in
    let now = subst (λ m. IsArrival (table_after t (q ∷ qs)) (seen_of p) (when_of m p) more new) same a in (
      i.0,
      i.1 ++ more,
      i.2,
      i.3 ++ new,
      ap (λ (l : List Taken). l ++ more) i.4 ∙ append_assoc i.0 i.1 more,
      ap (λ (l : List Arrival). l ++ new) i.5 ∙ append_assoc i.2 i.3 new,
      i.6,
      arrivals_on (n + 1) (after_seen t (seen_of q)) qs p i.1 more i.3 new i.7 now,
    )

-- The next packet's arrivals are those of a packet with this number.
arrivals_next : (packets : List Captured) (p : Captured) (number : ℕ) (xs more : List Taken) (came new : List Arrival)
    → number ≡ min (length packets + 1) (2 ^ 64 - 1) → AreArrivals 0 no_connections packets xs came
    → IsArrival (table_after no_connections packets) (seen_of p) (record { nanos = p.nanos; packet = number }) more new
    → AreArrivals 0 no_connections (packets ++ p ∷ []) (xs ++ more) (came ++ new)
arrivals_next packets p number xs more came new e i a =
    let same : number ≡ min (0 + length packets + 1) (2 ^ 64 - 1) = omega (arith, e) in
    arrivals_on 0 no_connections packets p xs more came new i
    (subst (λ m. IsArrival (table_after no_connections packets) (seen_of p) (record { nanos = p.nanos; packet = m }) more new) same a)

pub come_more : (packets : List Captured) (p : Captured) (number : ℕ) (came new : List Arrival) (old links : Links) (more : List Taken)
    → number ≡ min (length packets + 1) (2 ^ 64 - 1) → (i : ComeTo packets came old)
    → IsArrival (table_after no_connections packets) (seen_of p) (record { nanos = p.nanos; packet = number }) more new
    → AreLinked (after_seen (table_after no_connections packets) (seen_of p)) (i.taken ++ more) links → ComeTo (packets ++ p ∷ []) (came ++ new) links
come_more packets p number came new old links more e i a linked = record {
  taken = i.taken ++ more;
  are = arrivals_next packets p number i.taken more came new e i.are a;
  linked = subst (λ t. AreLinked t (i.taken ++ more) links) (sym (table_more no_connections packets p)) linked;
}

pub have_more : (packets : List Captured) (p : Captured) (number : ℕ) (came new : List Arrival) (old : Links) (more : List Taken)
    → number ≡ min (length packets + 1) (2 ^ 64 - 1) → (i : ComeTo packets came old)
    → IsArrival (table_after no_connections packets) (seen_of p) (record { nanos = p.nanos; packet = number }) more new
    → AreTurnedAll (after_seen (table_after no_connections packets) (seen_of p)) (i.taken ++ more) → HaveCome (packets ++ p ∷ []) (came ++ new)
have_more packets p number came new old more e i a all = record {
  taken = i.taken ++ more;
  are = arrivals_next packets p number i.taken more came new e i.are a;
  turned = subst (λ t. AreTurnedAll t (i.taken ++ more)) (sym (table_more no_connections packets p)) all;
}

pub turned_all : (t : Table) (xs : List Taken) (links : Links) → AreLinked t xs links → AreTurnedAll t xs
turned_all t xs links i = record { all = i.all; none = i.none }

pub have_come : (packets : List Captured) (came : List Arrival) (links : Links) → ComeTo packets came links → HaveCome packets came
have_come packets came links i = record { taken = i.taken; are = i.are; turned = turned_all (table_after no_connections packets) i.taken links i.linked }

pub come_nothing : (links : Links) → AreLinked no_connections [] links → ComeTo [] [] links
come_nothing links i = record { taken = []; are = (refl, refl); linked = i }

-- Nothing came of no packet.
pub none_came : (packets : List Captured) (came : List Arrival) (links : Links) → ComeTo packets came links → packets ≡ [] → came ≡ []
none_came [] came links i e = i.are.1
none_came (p ∷ ps) came links i e = cc

-- ---- none came after a packet

within_turned : (o : Option Connection) (d : UtpPacket) (w : When) (most : ℕ) (xs : List Taken) (came : List Arrival) → w.packet ≤ most
    → IsTurnedArrival o d w xs came → All (λ x. x.when.packet ≤ most) came
within_turned None d w most xs came le i =
    let P : Arrival → Type 0 = λ x. x.when.packet ≤ most in
    subst (λ l. All P l) (sym i.1) (All-nil P)
within_turned (Some c) d w most xs came le i =
    let P : Arrival → Type 0 = λ x. x.when.packet ≤ most in
    subst (λ l. All P l) (sym i.4) (All-cons P (turned_arrival i.0 w) [] le (All-nil P))

within_seen : (t : Table) (s : Seen) (w : When) (most : ℕ) (xs : List Taken) (came : List Arrival) → w.packet ≤ most → IsArrival t s w xs came
    → All (λ x. x.when.packet ≤ most) came
within_seen t (SawSegment s) w most xs came le i =
    let P : Arrival → Type 0 = λ x. x.when.packet ≤ most in
    subst (λ l. All P l) (sym i.1) (All-cons P (record { segment = s; when = w; link = None }) [] le (All-nil P))
within_seen t (SawUtp d) w most xs came le i = within_turned (connection_of t d) d w most xs came le i
within_seen t (SawOther why) w most xs came le i =
    let P : Arrival → Type 0 = λ x. x.when.packet ≤ most in
    subst (λ l. All P l) (sym i.1) (All-nil P)

within_after : (n : ℕ) (t : Table) (packets : List Captured) (xs : List Taken) (came : List Arrival) (most : ℕ)
    → min (n + length packets) (2 ^ 64 - 1) ≤ most → AreArrivals n t packets xs came → All (λ x. x.when.packet ≤ most) came
within_after n t [] xs came most le i =
    let P : Arrival → Type 0 = λ x. x.when.packet ≤ most in
    subst (λ l. All P l) (sym i.1) (All-nil P)
within_after n t (p ∷ ps) xs came most le i =
    let P : Arrival → Type 0 = λ x. x.when.packet ≤ most in
    let low : min (n + 1) (2 ^ 64 - 1) ≤ most = omega (arith, le) in
    subst (λ l. All P l) (sym i.5) (All-append P i.2 i.3 (within_seen t (seen_of p) (when_of n p) most i.0 i.2 low i.6)
    (within_after (n + 1) (after_seen t (seen_of p)) ps i.1 i.3 most (omega (arith, le)) i.7))

-- No segment comes after the last packet.
pub all_within : (packets : List Captured) (p : Captured) (number : ℕ) (came : List Arrival) (links : Links)
    → number ≡ min (length packets + 1) (2 ^ 64 - 1) → ComeTo (packets ++ p ∷ []) came links → All (λ x. x.when.packet ≤ number) came
all_within packets p number came links e i =
    within_after 0 no_connections (packets ++ p ∷ []) i.taken came number (omega (arith, e, length-append packets (p ∷ []))) i.are

-- None came after the next packet.
pub all_until : (packets : List Captured) (number : ℕ) (came : List Arrival) (links : Links) → number ≡ min (length packets + 1) (2 ^ 64 - 1)
    → ComeTo packets came links → All (λ x. x.when.packet ≤ number) came
all_until packets number came links e i = within_after 0 no_connections packets i.taken came number (omega (arith, e)) i.are

-- ---- what was seen is taken

pub saw_segment : {E : Type 0} (start : Since) (now : TargetSeen) (clock : Clock) (t : Table) (xs : List Taken) (came : List Arrival) (s : TcpSegment) (w : When)
    (run : Run) (r : Result (Unit {0}) E) → AreLinked t xs run.links
    → Goes start now clock (came ++ record { segment = s; when = w; link = None } ∷ []) run.connections.table run.connections r
    → TakesSeen start now clock t xs came (SawSegment s) w run r
saw_segment start now clock t xs came s w run (Ok x) linked i =
    ([], record { segment = s; when = w; link = None } ∷ [], (refl, refl), subst (λ l. AreLinked t l run.links) (sym (append-nil xs)) linked, i)
saw_segment start now clock t xs came s w run (Err e) linked i =
    inr (
      [],
      record { segment = s; when = w; link = None } ∷ [],
      (refl, refl),
      subst (λ l. AreTurnedAll t l) (sym (append-nil xs)) (turned_all t xs run.links linked),
      i,
    )

-- A packet without a segment came.
no_segment : (start : Since) (now : TargetSeen) (clock : Clock) (came : List Arrival) (w : When) (all : Connections)
    → Follows start now clock came all.table all → Follows start now (with_packet w clock) (came ++ []) all.table all
no_segment start now clock came w all i =
    let later = with_packet w clock in
    subst (λ l. Follows start now later l all.table all) (sym (append-nil came))
    (follows_later start now clock later (w ∷ []) came all.table all refl (omega arith) i)

pub saw_other : (E : Type 0) (start : Since) (now : TargetSeen) (clock : Clock) (t : Table) (xs : List Taken) (came : List Arrival) (why : Unread) (w : When)
    (run : Run) → AreLinked t xs run.links → Follows start now clock came run.connections.table run.connections
    → TakesSeen {E = E} start now (with_packet w clock) t xs came (SawOther why) w run (Ok tt)
saw_other E start now clock t xs came why w run linked i =
    ([], [], (refl, refl), subst (λ l. AreLinked t l run.links) (sym (append-nil xs)) linked, no_segment start now clock came w run.connections i)

-- A packet of uTP is of no connection.
pub saw_none : (E : Type 0) (start : Since) (now : TargetSeen) (clock : Clock) (t : Table) (xs : List Taken) (came : List Arrival) (d : UtpPacket) (w : When)
    (run : Run) → IsOfNone t xs d run.links → Follows start now clock came run.connections.table run.connections
    → TakesSeen {E = E} start now (with_packet w clock) t xs came (SawUtp d) w run (Ok tt)
saw_none E start now clock t xs came d w run n i =
    let P : Option Connection → Type 0 = λ o. IsTurnedArrival o d w [] [] in
    let Q : List Taken → Type 0 = λ l. AreLinked (after_seen t (SawUtp d)) l run.links in
    ([], [], subst P (sym n.none) (refl, refl), subst Q (sym (append-nil xs)) n.linked, no_segment start now clock came w run.connections i)

-- Memory ran out before it was turned.
pub saw_failed : {E : Type 0} (start : Since) (now : TargetSeen) (clock : Clock) (t : Table) (xs : List Taken) (came : List Arrival) (s : Seen) (w : When)
    (run : Run) (e : E) → Follows start now clock came run.connections.table run.connections
    → TakesSeen start now (with_packet w clock) t xs came s w run (Err e)
saw_failed start now clock t xs came s w run e i =
    inl (stops_later start now clock (with_packet w clock) (w ∷ []) came run.connections refl (stops_of start now came run.connections.table run.connections i))

turned_by : {E : Type 0} (start : Since) (now : TargetSeen) (clock : Clock) (t : Table) (xs : List Taken) (came : List Arrival) (d : UtpPacket) (w : When)
    (x : Taken) (run : Run) (r : Result (Unit {0}) E) → IsTurnedArrival (connection_of t d) d w (x ∷ []) (turned_arrival x w ∷ [])
    → AreLinked (after_seen t (SawUtp d)) (xs ++ x ∷ []) run.links
    → Goes start now clock (came ++ turned_arrival x w ∷ []) run.connections.table run.connections r
    → TakesSeen start now clock t xs came (SawUtp d) w run r
turned_by start now clock t xs came d w x run (Ok y) is linked i = (x ∷ [], turned_arrival x w ∷ [], is, linked, i)
turned_by start now clock t xs came d w x run (Err e) is linked i =
    inr (x ∷ [], turned_arrival x w ∷ [], is, turned_all (after_seen t (SawUtp d)) (xs ++ x ∷ []) run.links linked, i)

-- A packet of uTP was turned.
pub saw_turned : {E : Type 0} (start : Since) (now : TargetSeen) (clock : Clock) (t : Table) (xs : List Taken) (came : List Arrival) (d : UtpPacket) (w : When)
    (room : ℕ) (told : Told) (run : Run) (r : Result (Unit {0}) E) → IsTold t xs d room told run.links
    → Goes start now clock (came ++ record {
      segment = turned_segment told.connection told.is_initiator told.turned run.links.bytes.items;
      when = w;
      link = Some told.connection.number;
    } ∷ []) run.connections.table run.connections r
    → TakesSeen start now clock t xs came (SawUtp d) w run r
saw_turned start now clock t xs came d w room told run r i goes =
    let x = taken_by d room run.links.bytes.items told in
    let all = run.connections in
    let G : Bool → Type 0 = λ b. Goes start now clock (came ++ record {
      segment = turned_segment told.connection b told.turned run.links.bytes.items;
      when = w;
      link = Some told.connection.number;
    } ∷ []) all.table all r in
    let P : Option Connection → Type 0 = λ o. IsTurnedArrival o d w (x ∷ []) (turned_arrival x w ∷ []) in
    turned_by start now clock t xs came d w x run r (subst P (sym i.connection) (x, refl, refl, refl, refl)) i.linked (subst G i.initiator goes)

-- ---- a packet is taken

pub took_all : {E : Type 0} (target now : TargetSeen) (packets : List Captured) (came : List Arrival) (run : Run) (r : Result (Unit {0}) E)
    → ComeTo packets came run.links → Goes (since_first target packets) now (clock_of packets) came run.connections.table run.connections r
    → TakesPackets target now packets run r
took_all target now packets came run (Ok x) come i = (came, come, i)
took_all target now packets came run (Err e) come i = (came, inl (have_come packets came run.links come), i)
