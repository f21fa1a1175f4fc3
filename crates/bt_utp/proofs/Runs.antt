-- Packets that a link turned, after one more.
use Rattle.std.proofs.Common.{◌≡◌, ◌≢◌, ℕ, ◌∷◌, ◌++◌, List, [], refl, ◌∙◌, ap, subst, arith, if◌then◌else◌}
use Rattle.std.specs.Prelude.{◌==◌}
use Rattle.std.proofs.lemmas.Bool.{eq-eqb, ne_eqb}
use Rattle.std.proofs.lemmas.List.Elements.{filter-append}
use Rattle.bt_packet.specs.declared.utp.UtpKind.TheVariants.{Syn}
use Rattle.bt_order.specs.declared.direction.Direction.{Direction}
use Rattle.bt_order.specs.declared.link.Kind.{Kind}
use Rattle.bt_order.specs.declared.link.Turned.{Turned}
use Rattle.bt_order.specs.declared.link.Came.{Came}
use Rattle.bt_order.specs.declared.link.Link.{Link}
use Rattle.bt_order.specs.Directions.{Stays}
use Rattle.bt_order.specs.Links.{StaysLink, TurnsBy, counted}
use Rattle.bt_utp.specs.declared.connection.Connection.{Connection}
use Rattle.bt_utp.specs.Taken.{Taken, IsTurn, link_kind}
use Rattle.bt_utp.specs.Turnings.{AreTurned, IsNewLink, IsRun, packets_of}

own_stay : (d : Direction) → Stays d [] d []
own_stay d = record { is = refl; start = record { first = refl; base = refl }; counted = refl; kept = λ ps out h. h }

pub stay : (l : Link) → StaysLink l [] l []
stay l = record {
  initiator = own_stay l.initiator;
  acceptor = own_stay l.acceptor;
  known = refl;
  sent = refl;
  answered = refl;
  syn = refl;
  reset = refl;
}

own_stays_on : (a b c : Direction) → Stays a [] b [] → Stays b [] c [] → Stays a [] c []
own_stays_on a b c h g = record {
  is = refl;
  start = record { first = g.start.first ∙ h.start.first; base = g.start.base ∙ h.start.base };
  counted = g.counted ∙ h.counted;
  kept = λ ps out i. g.kept ps out (h.kept ps out i);
}

stays_on : (a b c : Link) → StaysLink a [] b [] → StaysLink b [] c [] → StaysLink a [] c []
stays_on a b c h g = record {
  initiator = own_stays_on a.initiator b.initiator c.initiator h.initiator g.initiator;
  acceptor = own_stays_on a.acceptor b.acceptor c.acceptor h.acceptor g.acceptor;
  known = g.known ∙ h.known;
  sent = g.sent ∙ h.sent;
  answered = g.answered ∙ h.answered;
  syn = g.syn ∙ h.syn;
  reset = g.reset ∙ h.reset;
}

turned_more : (c : Connection) (l : Link) (xs : List Taken) (x : Taken) (m m' : Link) → AreTurned c l xs m → IsTurn c x m m'
    → AreTurned c l (xs ++ x ∷ []) m'
turned_more c l [] x m m' h turn = (m, m', h, turn, stay m')
turned_more c l (y ∷ ys) x m m' h turn = (h.0, h.1, h.2, h.3, turned_more c h.1 ys x m m' h.4 turn)

turned_stays : (c : Connection) (l : Link) (xs : List Taken) (m m' : Link) → AreTurned c l xs m → StaysLink m [] m' [] → AreTurned c l xs m'
turned_stays c l [] m m' h same = stays_on l m m' h same
turned_stays c l (y ∷ ys) m m' h same = (h.0, h.1, h.2, h.3, turned_stays c h.1 ys m m' h.4 same)

pub run_more : (c : Connection) (xs : List Taken) (x : Taken) (m m' : Link) → IsRun c xs m → IsTurn c x m m' → IsRun c (xs ++ x ∷ []) m'
run_more c xs x m m' h turn = (h.0, h.1, turned_more c h.0 xs x m m' h.2 turn)

pub run_stays : (c : Connection) (xs : List Taken) (m m' : Link) → IsRun c xs m → StaysLink m [] m' [] → IsRun c xs m'
run_stays c xs m m' h same = (h.0, h.1, turned_stays c h.0 xs m m' h.2 same)

pub run_first : (c : Connection) (x : Taken) (m m' : Link) → IsNewLink c.syn m → IsTurn c x m m' → IsRun c (x ∷ []) m'
run_first c x m m' new turn = (m, new, (m, m', stay m, turn, stay m'))

-- ---- the packets of a connection

append_none : (xs : List Taken) → xs ++ [] ≡ xs
append_none [] = refl
append_none (x ∷ xs) = ap (λ l. x ∷ l) (append_none xs)

pub of_same : (n : ℕ) (xs : List Taken) (x : Taken) → x.connection.number ≡ n → packets_of n (xs ++ x ∷ []) ≡ packets_of n xs ++ x ∷ []
of_same n xs x h =
    filter-append (λ x. x.connection.number == n) xs (x ∷ [])
    ∙ ap (λ t. packets_of n xs ++ (if t then x ∷ [] else [])) (eq-eqb x.connection.number n h)

pub of_other : (n : ℕ) (xs : List Taken) (x : Taken) → x.connection.number ≢ n → packets_of n (xs ++ x ∷ []) ≡ packets_of n xs
of_other n xs x h =
    filter-append (λ x. x.connection.number == n) xs (x ∷ [])
    ∙ ap (λ t. packets_of n xs ++ (if t then x ∷ [] else [])) (ne_eqb x.connection.number n h)
    ∙ append_none (packets_of n xs)

-- ---- a SYN changes nothing

by_syn : (k : Kind) (came : Came) (room : ℕ) (l l' : Link) (bytes : List ℕ) (t : Turned) → k ≡ link_kind Syn → TurnsBy k came room l [] l' bytes t → l' ≡ l
by_syn k came room l l' bytes t e h = (subst (λ k. TurnsBy k came room l [] l' bytes t) e h).1

pub syn_same : (c : Connection) (x : Taken) (l l' : Link) → x.packet.kind ≡ Syn → IsTurn c x l l' → l' ≡ l
syn_same c x l l' e h = by_syn h.came.kind h.came x.room l l' x.bytes x.turned (h.is.kind ∙ ap link_kind e) h.turns

pub new_holds_none : (syn : ℕ) (l : Link) → IsNewLink syn l → counted l ≡ 0
new_holds_none syn l h = omega (arith, h.initiator.empty, h.acceptor.empty)
