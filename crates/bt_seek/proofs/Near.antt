-- The best of some nodes and one more.
use Rattle.std.proofs.Common.{◌≡◌, ℕ, ◌+◌, ◌<◌, length, take, get_or, subst, sym, List, [], ◌∷◌, ◌++◌, Option, Some, None, Bool, true, false, not, refl, arith}
use Rattle.std.specs.Prelude.{◌&&◌, nat_lt, if◌then◌else◌}
use Rattle.std.proofs.lemmas.Bool.{and_parts, lt-ltb, ltb-true}
use Rattle.std.proofs.lemmas.List.{take_more}
use Rattle.std.proofs.lemmas.List.Elements.{All-push, All-weaker, Contains-append_left, Contains-push}
use Rattle.bt_dht.specs.Distances.{distance_of}
use Rattle.bt_seek.specs.declared.node.Known.{Known}
use Rattle.bt_seek.specs.Nodes.{IsBest, better_of, is_nearer, is_nearer_id}

not_true : (b : Bool) → (b ≡ true → ⊥) → b ≡ false
not_true true f = absurd (f refl)
not_true false f = refl

not_self : (hash : List ℕ) (x : Option (List ℕ)) → is_nearer_id hash x x ≡ false
not_self hash None = refl
not_self hash (Some a) =
    not_true (nat_lt (distance_of a hash) (distance_of a hash)) (λ e. omega (arith, ltb-true (distance_of a hash) (distance_of a hash) e))

nearer_trans : (hash : List ℕ) (x y z : Option (List ℕ)) → is_nearer_id hash x y ≡ true → is_nearer_id hash y z ≡ true → is_nearer_id hash x z ≡ true
nearer_trans hash None None z p q = absurd (cc)
nearer_trans hash None (Some y) None p q = absurd (cc)
nearer_trans hash None (Some y) (Some z) p q = refl
nearer_trans hash (Some x) None z p q = absurd (cc)
nearer_trans hash (Some x) (Some y) None p q = absurd (cc)
nearer_trans hash (Some x) (Some y) (Some z) p q =
    lt-ltb (distance_of x hash) (distance_of z hash) (omega (
      arith,
      ltb-true (distance_of x hash) (distance_of y hash) p,
      ltb-true (distance_of y hash) (distance_of z hash) q,
    ))

clash : (b : Bool) → b ≡ true → b ≡ false → ⊥
clash b p q = absurd (cc)

none_nearer : (hash : List ℕ) (m n b : Known) → is_nearer hash n b ≡ true → is_nearer hash m b ≡ false → is_nearer hash m n ≡ false
none_nearer hash m n b p q =
    not_true (is_nearer hash m n) (λ e. clash (is_nearer hash m b) (nearer_trans hash m.id n.id b.id e p) q)

first_best : (hash : List ℕ) (xs : List Known) (n : Known) (t : Bool) → n.is_asked ≡ t → IsBest hash xs None → IsBest hash (xs ++ n ∷ []) (if t then None else Some n)
first_best hash xs n true e h = All-push (λ (m : Known). m.is_asked ≡ true) xs n h e
first_best hash xs n false e h = (
  Contains-push xs n,
  e,
  All-push (λ (m : Known). m.is_asked ≡ false → is_nearer hash m n ≡ false) xs n
      (All-weaker (λ (m : Known). m.is_asked ≡ true) (λ (m : Known). m.is_asked ≡ false → is_nearer hash m n ≡ false)
      (λ m a f. absurd (clash m.is_asked a f)) xs h) (λ _. not_self hash n.id),
)

asked_not : (t : Bool) → not t ≡ true → t ≡ false
asked_not true e = absurd (cc)
asked_not false e = refl

near_of : (t s : Bool) → (not t && s) ≡ false → t ≡ false → s ≡ false
near_of true s e f = absurd (cc)
near_of false true e f = e
near_of false false e f = refl

next_best : (hash : List ℕ) (xs : List Known) (b n : Known) (t : Bool) → (not n.is_asked && is_nearer hash n b) ≡ t → IsBest hash xs (Some b) → IsBest hash (xs ++ n ∷ []) (if t then Some n else Some b)
next_best hash xs b n true e h =
    let parts = and_parts (not n.is_asked) (is_nearer hash n b) e in (
      Contains-push xs n,
      asked_not n.is_asked parts.0,
      All-push (λ (m : Known). m.is_asked ≡ false → is_nearer hash m n ≡ false) xs n
          (All-weaker (λ (m : Known). m.is_asked ≡ false → is_nearer hash m b ≡ false) (λ (m : Known). m.is_asked ≡ false → is_nearer hash m n ≡ false)
          (λ m f a. none_nearer hash m n b parts.1 (f a)) xs h.2) (λ _. not_self hash n.id),
    )
next_best hash xs b n false e h = (
  Contains-append_left xs (n ∷ []) b h.0,
  h.1,
  All-push (λ (m : Known). m.is_asked ≡ false → is_nearer hash m b ≡ false) xs n h.2 (λ a. near_of n.is_asked (is_nearer hash n b) e a),
)

pub best_more : (hash : List ℕ) (xs : List Known) (best : Option Known) (n : Known) → IsBest hash xs best → IsBest hash (xs ++ n ∷ []) (better_of hash best n)
best_more hash xs None n h = first_best hash xs n n.is_asked refl h
best_more hash xs (Some b) n h = next_best hash xs b n (not n.is_asked && is_nearer hash n b) refl h

pub best_step : (hash : List ℕ) (xs ys : List Known) (i : ℕ) (d : Known) (best r : Option Known) → ys ≡ xs → i < length ys → r ≡ better_of hash best (get_or ys i d) → IsBest hash (take i xs) best → IsBest hash (take (i + 1) xs) r
best_step hash xs ys i d best r same l e h =
    let front : IsBest hash (take i ys) best = subst (λ (zs : List Known). IsBest hash (take i zs) best) (sym same) h in
    let more : IsBest hash (take i ys ++ get_or ys i d ∷ []) r =
    subst (λ (b : Option Known). IsBest hash (take i ys ++ get_or ys i d ∷ []) b) (sym e) (best_more hash (take i ys) best (get_or ys i d) front) in
    subst (λ (zs : List Known). IsBest hash (take (i + 1) zs) r) same
    (subst (λ (zs : List Known). IsBest hash zs r) (sym (take_more ys i d l)) more)
