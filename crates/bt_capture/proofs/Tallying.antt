-- Packets of which nothing is read, after one more.
use Rattle.std.proofs.Common.{◌≡◌, ◌∙◌, ℕ, ◌+◌, ◌-◌, ◌^◌, ◌==◌, min, not, Bool, true, false, if◌then◌else◌, List, [], ◌∷◌, ◌++◌, length, length-append, Some, None}
use Rattle.std.proofs.Common.{refl, sym, ap, arith, inl, inr, append-nil}
use Rattle.std.specs.List.{filter}
use Rattle.std.proofs.lemmas.Grind.{flat_map-append}
use Rattle.std.proofs.lemmas.Bool.{cases_Bool, eq-eqb, ne_eqb}
use Rattle.std.proofs.lemmas.List.Elements.{filter-append}
use Rattle.bt_packet.specs.declared.unread.Unread.{Unread}
use Rattle.bt_packet.specs.declared.unread.Unread.TheVariants.{LinkType, EtherType, Fragment, Other}
use Rattle.bt_capture.specs.declared.unread.Tally.{Tally}
use Rattle.bt_pcap.specs.Formats.{Captured}
use Rattle.bt_capture.specs.Sights.{seen_in}
use Rattle.bt_capture.specs.Unread.{tally, so_many, link_types, ether_types, is_fragment, unread_packets, why_in, whys}
use Rattle.bt_capture.specs.declared.unread.UnreadPackets.{UnreadPackets}

one : {A : Type 0} (test : A → Bool) (x : A) → length (filter test (x ∷ [])) ≡ (if test x then 1 else 0)
one test x = elim (cases_Bool (test x)) [ inl e ↦ rw e refl | inr e ↦ rw e refl ]

pub more : {A : Type 0} (test : A → Bool) (xs : List A) (x : A) → so_many test (xs ++ x ∷ []) ≡ min (length (filter test xs) + (if test x then 1 else 0)) (2 ^ 64 - 1)
more test xs x =
    ap (λ (k : ℕ). min k (2 ^ 64 - 1)) (ap length (filter-append test xs (x ∷ [])) ∙ length-append (filter test xs) (filter test (x ∷ []))
    ∙ ap (λ (k : ℕ). length (filter test xs) + k) (one test x))

pub one_more : {A : Type 0} (test : A → Bool) (xs : List A) (x : A) → test x ≡ true → so_many test (xs ++ x ∷ []) ≡ min (so_many test xs + 1) (2 ^ 64 - 1)
one_more test xs x e = more test xs x ∙ rw e (omega arith)

pub as_many : {A : Type 0} (test : A → Bool) (xs : List A) (x : A) → test x ≡ false → so_many test (xs ++ x ∷ []) ≡ so_many test xs
as_many test xs x e = more test xs x ∙ rw e (omega arith)

self_kind : (k : ℕ) → (k == k) ≡ true
self_kind k = eq-eqb k k refl

pub first_kind : (kinds : List ℕ) (kind : ℕ) (t : Tally) → t ≡ tally kinds → t.kind ≡ None
    → record { kind = Some kind; count = 1; others = t.others } ≡ tally (kinds ++ kind ∷ [])
first_kind [] kind t is none = rw is (rw (self_kind kind) refl)
first_kind (k ∷ ks) kind t is none = cc

pub same_kind : (kinds : List ℕ) (kind first : ℕ) (t : Tally) (n : ℕ) → t ≡ tally kinds → t.kind ≡ Some first → first ≡ kind
    → n ≡ min (t.count + 1) (2 ^ 64 - 1) → record { kind = t.kind; count = n; others = t.others } ≡ tally (kinds ++ kind ∷ [])
same_kind [] kind first t n is some same count = cc
same_kind (k ∷ ks) kind first t n is some same count =
    let e : k ≡ first = cc in
    let here : (k == kind) ≡ true = eq-eqb k kind (e ∙ same) in
    let other : not (k == kind) ≡ false = rw here refl in
    let m = count ∙ ap (λ (u : Tally). min (u.count + 1) (2 ^ 64 - 1)) is ∙ sym (one_more (λ j. k == j) (k ∷ ks) kind here) in
    rw m (rw is (rw (as_many (λ j. not (k == j)) (k ∷ ks) kind other) refl))

pub other_kind : (kinds : List ℕ) (kind first : ℕ) (t : Tally) (n : ℕ) → t ≡ tally kinds → t.kind ≡ Some first → (first ≡ kind → ⊥)
    → n ≡ min (t.others + 1) (2 ^ 64 - 1) → record { kind = t.kind; count = t.count; others = n } ≡ tally (kinds ++ kind ∷ [])
other_kind [] kind first t n is some same count = cc
other_kind (k ∷ ks) kind first t n is some same count =
    let e : k ≡ first = cc in
    let here : (k == kind) ≡ false = ne_eqb k kind (λ it. same (sym e ∙ it)) in
    let other : not (k == kind) ≡ true = rw here refl in
    let m = count ∙ ap (λ (u : Tally). min (u.others + 1) (2 ^ 64 - 1)) is ∙ sym (one_more (λ j. not (k == j)) (k ∷ ks) kind other) in
    rw m (rw is (rw (as_many (λ j. k == j) (k ∷ ks) kind here) refl))

pub link_types_more : (ws : List Unread) (w : Unread) → link_types (ws ++ w ∷ []) ≡ link_types ws ++ link_types (w ∷ [])
unfolding link_types
link_types_more [] w = refl
link_types_more (LinkType link ∷ ws) w = ap (λ l. link ∷ l) (link_types_more ws w)
link_types_more (EtherType type ∷ ws) w = link_types_more ws w
link_types_more (Fragment ∷ ws) w = link_types_more ws w
link_types_more (Other ∷ ws) w = link_types_more ws w

pub ether_types_more : (ws : List Unread) (w : Unread) → ether_types (ws ++ w ∷ []) ≡ ether_types ws ++ ether_types (w ∷ [])
unfolding ether_types
ether_types_more [] w = refl
ether_types_more (LinkType link ∷ ws) w = ether_types_more ws w
ether_types_more (EtherType type ∷ ws) w = ap (λ l. type ∷ l) (ether_types_more ws w)
ether_types_more (Fragment ∷ ws) w = ether_types_more ws w
ether_types_more (Other ∷ ws) w = ether_types_more ws w

pub after_link_type : (ws : List Unread) (link : ℕ) (u : UnreadPackets) (t : Tally) → u ≡ unread_packets ws
    → ((kinds : List ℕ) → u.link_types ≡ tally kinds → t ≡ tally (kinds ++ link ∷ []))
    → record { link_types = t; ether_types = u.ether_types; fragments = u.fragments } ≡ unread_packets (ws ++ LinkType link ∷ [])
unfolding link_types ether_types
after_link_type ws link u t is counted =
    let m = counted (link_types ws) (ap (λ (v : UnreadPackets). v.link_types) is) ∙ ap tally (sym (link_types_more ws (LinkType link))) in
    let e = ap (λ (v : UnreadPackets). v.ether_types) is ∙ ap tally (sym (append-nil (ether_types ws)) ∙ sym (ether_types_more ws (LinkType link))) in
    let f = ap (λ (v : UnreadPackets). v.fragments) is ∙ sym (as_many is_fragment ws (LinkType link) refl) in
    rw m (rw e (rw f refl))

pub after_ether_type : (ws : List Unread) (type : ℕ) (u : UnreadPackets) (t : Tally) → u ≡ unread_packets ws
    → ((kinds : List ℕ) → u.ether_types ≡ tally kinds → t ≡ tally (kinds ++ type ∷ []))
    → record { link_types = u.link_types; ether_types = t; fragments = u.fragments } ≡ unread_packets (ws ++ EtherType type ∷ [])
unfolding link_types ether_types
after_ether_type ws type u t is counted =
    let m = counted (ether_types ws) (ap (λ (v : UnreadPackets). v.ether_types) is) ∙ ap tally (sym (ether_types_more ws (EtherType type))) in
    let e = ap (λ (v : UnreadPackets). v.link_types) is ∙ ap tally (sym (append-nil (link_types ws)) ∙ sym (link_types_more ws (EtherType type))) in
    let f = ap (λ (v : UnreadPackets). v.fragments) is ∙ sym (as_many is_fragment ws (EtherType type) refl) in
    rw m (rw e (rw f refl))

pub after_fragment : (ws : List Unread) (u : UnreadPackets) (n : ℕ) → u ≡ unread_packets ws → n ≡ min (u.fragments + 1) (2 ^ 64 - 1)
    → record { link_types = u.link_types; ether_types = u.ether_types; fragments = n } ≡ unread_packets (ws ++ Fragment ∷ [])
unfolding link_types ether_types
after_fragment ws u n is count =
    let l = ap (λ (v : UnreadPackets). v.link_types) is ∙ ap tally (sym (append-nil (link_types ws)) ∙ sym (link_types_more ws Fragment)) in
    let e = ap (λ (v : UnreadPackets). v.ether_types) is ∙ ap tally (sym (append-nil (ether_types ws)) ∙ sym (ether_types_more ws Fragment)) in
    let f = count ∙ ap (λ (v : UnreadPackets). min (v.fragments + 1) (2 ^ 64 - 1)) is ∙ sym (one_more is_fragment ws Fragment refl) in
    rw l (rw e (rw f refl))

pub after_other : (ws : List Unread) (u : UnreadPackets) → u ≡ unread_packets ws → u ≡ unread_packets (ws ++ Other ∷ [])
unfolding link_types ether_types
after_other ws u is =
    let l = ap tally (sym (append-nil (link_types ws)) ∙ sym (link_types_more ws Other)) in
    let e = ap tally (sym (append-nil (ether_types ws)) ∙ sym (ether_types_more ws Other)) in
    is ∙ rw l (rw e (rw (as_many is_fragment ws Other refl) refl))

pub whys_more : (packets : List Captured) (p : Captured) → whys (packets ++ p ∷ []) ≡ whys packets ++ why_in (seen_in p.link p.bytes p.original)
whys_more packets p =
    flat_map-append (λ q. why_in (seen_in q.link q.bytes q.original)) packets (p ∷ [])
    ∙ ap (λ l. whys packets ++ l) (append-nil (why_in (seen_in p.link p.bytes p.original)))
