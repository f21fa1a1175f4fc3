-- A block whose packet lacks its interface names none of the section's.
use Rattle.std.proofs.Common.{◌≡◌, ℕ, ◌+◌, ◌-◌, ◌≤◌, true, false, min, List, [], ◌∷◌, length, take, drop, refl, sym, ap, subst, ◌∙◌, arith, inl}
use Rattle.std.proofs.Common.{inr, Option, None}
use Rattle.std.proofs.lemmas.Bool.{cases_lt}
use Rattle.std.proofs.lemmas.List.{length-drop}
use Rattle.bt_pcap.specs.declared.numbers.Order.{Order}
use Rattle.bt_pcap.specs.declared.interfaces.Interface.{Interface}
use Rattle.bt_pcap.specs.Numbers.{number16, number32, AreBytes}
use Rattle.bt_pcap.specs.Formats.{Captured}
use Rattle.bt_pcap.specs.Faults.{NamesNone, enhanced, obsolete, simple}
use Rattle.bt_pcap.specs.Reading.{lacks, read_packet, least, body_of}
use Rattle.bt_pcap.proofs.NumberLaws.{AreBytes-drop, number32-take, number32-lt, number32-u32, split32, number16-take, number16-lt, number16-u16, split16}
use Rattle.bt_pcap.proofs.NumberLaws.{drop-front}
use Rattle.bt_pcap.proofs.BodyLaws.{eq_cases, least_2, least_6, least_at, packet_of_other}
use Rattle.bt_pcap.proofs.BodyAgain.{other_lacks}
use Rattle.bt_pcap.proofs.Described.{on_2, on_3, on_6, past_2, past_3, past_6}

-- the numbers that a body begins with are those of the bytes after the block's first eight
first_32 : (order : Order) (total : ℕ) (b : List ℕ) → 16 ≤ total → number32 order (body_of total b) ≡ number32 order (drop 8 b)
first_32 order total b le =
    let m = min total 1048604 in
    let d : drop 8 (take m b) ≡ take (m - 8) (drop 8 b) = drop-front 8 m b (omega arith) in
    number32-take order (total - 12) (drop 8 (take m b)) (omega arith)
    ∙ (ap (number32 order) d ∙ number32-take order (m - 8) (drop 8 b) (omega arith))

first_16 : (order : Order) (total : ℕ) (b : List ℕ) → 16 ≤ total → number16 order (body_of total b) ≡ number16 order (drop 8 b)
first_16 order total b le =
    let m = min total 1048604 in
    let d : drop 8 (take m b) ≡ take (m - 8) (drop 8 b) = drop-front 8 m b (omega arith) in
    number16-take order (total - 12) (drop 8 (take m b)) (omega arith)
    ∙ (ap (number16 order) d ∙ number16-take order (m - 8) (drop 8 b) (omega arith))

none : (known : List Interface) → length known ≤ 0 → known ≡ []
none [] le = refl
none (i ∷ known) le = absurd (omega (arith, le))

both : (kind : ℕ) (packet : Option Captured) → lacks kind packet ≡ true → lacks kind packet ≡ false → ⊥
both kind packet t f = cc

pub names_none : (order : Order) (known : List Interface) (kind total : ℕ) (b : List ℕ) → 12 ≤ total → least kind ≤ total - 12
    → min total 1048604 ≤ length b → AreBytes b → lacks kind (read_packet order known kind (body_of total b)) ≡ true
    → NamesNone order known kind (drop 8 b)
names_none order known kind total b lo fits enough bytes is =
    let body = body_of total b in
    let after = AreBytes-drop 8 b bytes in
    let at : (k : ℕ) → kind ≡ k → lacks k (read_packet order known k body) ≡ true =
    λ k e. subst (λ (x : ℕ). lacks x (read_packet order known x body) ≡ true) e is in
    elim (eq_cases kind 6) [
      | inl e ↦
          let le : 20 ≤ total - 12 = least_6 (total - 12) (least_at 6 kind (total - 12) e fits) in
          let n = first_32 order total b (omega arith) in
          elim (cases_lt (number32 order body) (length known)) [
            | inl lt ↦ absurd (both 6 (read_packet order known 6 body) (at 6 e) (on_6 order known body lt))
            | inr ge ↦ enhanced (number32 order (drop 8 b)) (drop 4 (drop 8 b)) e (split32 order (drop 8 b) (omega (arith, length-drop 8 b)) after)
                (number32-lt order (drop 8 b) after) (omega (arith, n, ge))
          ]
      | inr n6 ↦ elim (eq_cases kind 2) [
        | inl e ↦
            let le : 20 ≤ total - 12 = least_2 (total - 12) (least_at 2 kind (total - 12) e fits) in
            let n = first_16 order total b (omega arith) in
            elim (cases_lt (number16 order body) (length known)) [
              | inl lt ↦ absurd (both 2 (read_packet order known 2 body) (at 2 e) (on_2 order known body lt))
              | inr ge ↦ obsolete (number16 order (drop 8 b)) (drop 2 (drop 8 b)) e (split16 order (drop 8 b) (omega (arith, length-drop 8 b)) after)
                  (number16-lt order (drop 8 b) after) (omega (arith, n, ge))
            ]
        | inr n2 ↦ elim (eq_cases kind 3) [
          | inl e ↦ elim (cases_lt 0 (length known)) [
            | inl lt ↦ absurd (both 3 (read_packet order known 3 body) (at 3 e) (on_3 order known body lt))
            | inr ge ↦ simple e (none known ge)
          ]
          | inr n3 ↦
              absurd (both kind (read_packet order known kind body) is
              (ap (lacks kind) (packet_of_other order known kind body n2 n3 n6) ∙ other_lacks kind n2 n3 n6))
        ]
      ]
    ]

lacking : (kind k : ℕ) (order : Order) (known : List Interface) (body : List ℕ) → kind ≡ k → read_packet order known k body ≡ None → lacks k None ≡ true
    → lacks kind (read_packet order known kind body) ≡ true
lacking kind k order known body e p l =
    subst (λ (x : ℕ). lacks x (read_packet order known x body) ≡ true) (sym e) (ap (lacks k) p ∙ l)

pub lacks_again : (order : Order) (known : List Interface) (kind total : ℕ) (b : List ℕ) → 12 + least kind ≤ total
    → NamesNone order known kind (drop 8 b) → lacks kind (read_packet order known kind (body_of total b)) ≡ true
lacks_again order known kind total b fits (enhanced number rest e whole small ge) =
    let le : 20 ≤ total - 12 = least_6 (total - 12) (least_at 6 kind (total - 12) e (omega arith)) in
    let n = first_32 order total b (omega arith) in
    let m : number32 order (drop 8 b) ≡ number = ap (number32 order) whole ∙ number32-u32 order number rest small in
    lacking kind 6 order known (body_of total b) e (past_6 order known (body_of total b) (omega (arith, n, m, ge))) refl
lacks_again order known kind total b fits (obsolete number rest e whole small ge) =
    let le : 20 ≤ total - 12 = least_2 (total - 12) (least_at 2 kind (total - 12) e (omega arith)) in
    let n = first_16 order total b (omega arith) in
    let m : number16 order (drop 8 b) ≡ number = ap (number16 order) whole ∙ number16-u16 order number rest small in
    lacking kind 2 order known (body_of total b) e (past_2 order known (body_of total b) (omega (arith, n, m, ge))) refl
lacks_again order known kind total b fits (simple e none_known) =
    lacking kind 3 order known (body_of total b) e (past_3 order known (body_of total b) (omega (arith, ap (length {A = Interface}) none_known))) refl
