-- Whether a packet is known after the awaited one.
use Rattle.std.proofs.Common.{◌≡◌, ℕ, ◌≤◌, true, false, List, Option, Some, None, sym, subst, ap, ◌∙◌, arith, inl, inr}
use Rattle.std.specs.Option.{IsSome}
use Rattle.std.proofs.lemmas.Bool.{cases_eq, cases_lt}
use Rattle.bt_order.specs.Streams.{Packet, packet_at, is_last, IsGoing, is_cut_last, IsAwaited, HasGap}
use Rattle.bt_order.specs.Directions.{IsReached, IsEnded, HoldsFrom}
use Rattle.bt_order.proofs.Passing.{open_last, ended_last}

not_some : (o : Option Packet) → o ≡ None → IsSome o → ⊥
not_some None e s = cc
not_some (Some p) e s = cc

not_going : (o : Option Packet) → o ≡ None → IsGoing o → ⊥
not_going None e g = g
not_going (Some p) e g = cc

awaited_by : (ps : List Packet) (out : List ℕ) (next : ℕ) → IsReached (packet_at ps) out next → packet_at ps next ≡ None → IsAwaited ps next
awaited_by ps out next r e = record { first = r.first; there = r.there; none = e }

-- only one is awaited
one_awaited : (ps : List Packet) (n m : ℕ) → IsAwaited ps n → IsAwaited ps m → n ≤ m
one_awaited ps n m a b = elim (cases_lt m n) [
  | inl less ↦ absurd (not_going (packet_at ps m) b.none (a.there m b.first less))
  | inr least ↦ least
]

-- Something is held only after the awaited packet.
pub held_is_gap : (ps : List Packet) (out : List ℕ) (next : ℕ) (held : ℕ → Option Packet)
    → IsReached (packet_at ps) out next × HoldsFrom next (packet_at ps) held
    → packet_at ps next ≡ None → (i : ℕ) → IsSome (held i) → HasGap ps
held_is_gap ps out next held s none i some = elim (cases_lt i next) [
  | inl less ↦ absurd (not_some (held i) (s.1.none i less) some)
  | inr least ↦
      let there : IsSome (packet_at ps i) = subst IsSome (s.1.later i least) some in
      let apart : i ≡ next → ⊥ = (λ e. not_some (packet_at ps i) (ap (packet_at ps) e ∙ none) there) in
      inl (next, awaited_by ps out next s.0 none, (i, omega (arith, least, apart), there))
]

pub none_is_no_gap : (ps : List Packet) (out : List ℕ) (next : ℕ) (held : ℕ → Option Packet)
    → IsReached (packet_at ps) out next × HoldsFrom next (packet_at ps) held
    → packet_at ps next ≡ None → ((i : ℕ) → held i ≡ None) → HasGap ps → ⊥
none_is_no_gap ps out next held s none empty gap =
    let mine = awaited_by ps out next s.0 none in
    elim gap [
      | inl g ↦
          let le = one_awaited ps next g.0 mine g.1 in
          let i = g.2.0 in
          not_some (packet_at ps i) (sym (s.1.later i (omega (arith, le, g.2.1))) ∙ empty i) g.2.2
      | inr c ↦ let last : false ≡ true = sym (ap is_cut_last (open_last ps out next s.0 none)) ∙ c in cc
    ]

ends_there : (o : Option Packet) (p : Packet) → o ≡ Some p → is_last p ≡ true → IsGoing o → ⊥
ends_there None p e l g = g
ends_there (Some q) p e l g = let same : q ≡ p = cc in let f : is_last p ≡ false = subst (λ (r : Packet). is_last r ≡ false) same g in cc

pub finished_has_no_gap : (ps : List Packet) (out : List ℕ) (next : ℕ) → IsEnded (packet_at ps) out next false → HasGap ps → ⊥
finished_has_no_gap ps out next r gap = elim gap [
  | inl g ↦
      let n = g.0 in
      elim (cases_lt r.place n) [
        | inl less ↦ ends_there (packet_at ps r.place) r.last r.ended r.ends (g.1.there r.place r.first less)
        | inr least ↦ elim (cases_eq n r.place) [
          | inl e ↦ let none : Some r.last ≡ None = sym r.ended ∙ ap (packet_at ps) (sym e) ∙ g.1.none in cc
          | inr apart ↦ not_going (packet_at ps n) g.1.none (r.there n g.1.first (omega (arith, least, apart)))
        ]
      ]
  | inr c ↦ let last : false ≡ true = sym (ap is_cut_last (ended_last ps out next false r) ∙ r.tells) ∙ c in cc
]

pub cut_is_gap : (ps : List Packet) (out : List ℕ) (next : ℕ) → IsEnded (packet_at ps) out next true → HasGap ps
cut_is_gap ps out next r = inr (ap is_cut_last (ended_last ps out next true r) ∙ r.tells)
