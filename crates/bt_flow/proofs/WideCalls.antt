-- What calls on a window with far bytes promise.
use Rattle.std.proofs.Common.{◌≡◌, ℕ, ◌+◌, ◌<◌, List, [], ◌∷◌, sym, ap, subst, ◌∙◌, arith, Option}
use Rattle.std.specs.Prelude.{Bool, true, Some, None}
use Rattle.bt_tcp.specs.Segments.{Segment, or_else, byte_in}
use Rattle.bt_flow.specs.Memory as ring
use Rattle.bt_flow.specs.Views.{HandsSome}
use Rattle.bt_flow.specs.Wide.{either_of, AppendsAll, TakesAll}
use Rattle.bt_flow.specs.declared.window.Window.{Window}
use Rattle.bt_flow.proofs.WideProofs.{Moves, moves_all, taken_all, hands_far, none_after, one-here}

never : (o : Option ℕ) (b : ℕ) → or_else o (Some b) ≡ None → ⊥
never None b e = absurd (cc)
never (Some x) b e = absurd (cc)

-- A byte at the next place is handed out.
one_more : (next b : ℕ) (near : ℕ → Option ℕ) (more : List ℕ) (next' : ℕ) (near' : ℕ → Option ℕ)
    → Moves (record { place = next; bytes = b ∷ [] }) next near more next' near' → next < next'
one_more next b near [] next' near' m = absurd (
    let s : Segment = record { place = next; bytes = b ∷ [] } in
    let e : next' + 0 ≡ next = omega (arith, m.next_is) in
    let here : byte_in s (next' + 0) ≡ Some b = ap (byte_in s) e ∙ one-here next (Some b) in
    never (near 0) b (ap (or_else (near 0)) (sym here) ∙ sym (m.rest 0) ∙ m.ends))
one_more next b near (x ∷ more) next' near' m = omega (arith, m.next_is)

-- A far byte was put through the ring.
pub record HandsFar (w : Window) (far : ℕ → Option ℕ) (given : List ℕ) (is : Bool) (next' : ℕ) (near' : ℕ → Option ℕ) (given' : List ℕ) : Type 0 where
  pub is_true : is ≡ true
  pub some : HandsSome (ring.next_of w) (either_of (ring.seen w) far (ring.next_of w)) given next' (either_of near' far next') given'
  pub none : near' 0 ≡ None
  pub grows : ring.next_of w < next'

pub far_handed : (w : Window) (at b : ℕ) (far : ℕ → Option ℕ) (given : List ℕ) (is : Bool) (next' : ℕ) (near' : ℕ → Option ℕ) (given' : List ℕ)
    → at ≡ ring.next_of w → far (ring.next_of w) ≡ Some b → TakesAll at (b ∷ []) (ring.next_of w) (ring.seen w) given is next' near' given'
    → HandsFar w far given is next' near' given'
far_handed w at b far given is next' near' given' e f t =
    let n : ℕ = ring.next_of w in
    let t1 = subst (λ k. TakesAll k (b ∷ []) n (ring.seen w) given is next' near' given') e t in
    let both = taken_all n (b ∷ []) n (ring.seen w) given is next' near' given' (omega arith) t1 in
    record {
      is_true = both.0;
      some = hands_far w b far given next' near' given' f both.1;
      none = none_after n (b ∷ []) w both.1.more next' near' both.1.taken;
      grows = one_more n b (ring.seen w) both.1.more next' near' (moves_all n (b ∷ []) w given next' near' given' both.1);
    }

-- What was ready was appended.
pub emptied : (w : Window) (at : ℕ) (given : List ℕ) (is : Bool) (next' : ℕ) (near' : ℕ → Option ℕ) (given' : List ℕ)
    → at ≡ ring.next_of w → TakesAll at [] (ring.next_of w) (ring.seen w) given is next' near' given'
    → (is ≡ true) × AppendsAll (ring.next_of w) [] (ring.next_of w) (ring.seen w) given next' near' given'
emptied w at given is next' near' given' e t =
    let n : ℕ = ring.next_of w in
    taken_all n [] n (ring.seen w) given is next' near' given' (omega arith)
    (subst (λ k. TakesAll k [] n (ring.seen w) given is next' near' given') e t)
