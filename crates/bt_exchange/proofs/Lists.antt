-- Lists that grow, at one call after another.
use Rattle.std.proofs.Common.{◌≡◌, ◌&&◌, Bool, true, List, [], ◌∷◌, ◌++◌, Option, Some, None, refl, sym, ap, subst, ◌∙◌}
use Rattle.std.proofs.Math.Bool.{and-true}
use Rattle.std.proofs.lemmas.List.{append-nil, append_assoc}
use Rattle.std.proofs.lemmas.List.Folds.{list_all-append}
use Rattle.std.specs.List.{list_all}
use Rattle.bt_exchange.specs.Lists.{IsAdded, AreAdded}

pub added_none : {A : Type 0} → (is_so : A → Bool) (o : Option (List A)) → AreAdded is_so o o true
added_none is_so None = tt
added_none is_so (Some xs) = ([], sym (append-nil xs), refl)

pub added_same : {A : Type 0} → (is_so : A → Bool) (a b : Option (List A)) → b ≡ a → AreAdded is_so a b true
added_same is_so a b e = subst (λ x. AreAdded is_so a x true) (sym e) (added_none is_so a)

pub added_one : {A : Type 0} → (is_so : A → Bool) (a b : Option (List A)) (x : A) (all : Bool) → IsAdded a b x → is_so x ≡ all → AreAdded is_so a b all
added_one is_so None b x all h s = tt
added_one is_so (Some xs) None x all h s = absurd h
added_one is_so (Some xs) (Some ys) x all h s = (x ∷ [], h, and-true (is_so x) ∙ s)

pub added_both : {A : Type 0} → (is_so : A → Bool) (a b c : Option (List A)) (p q : Bool) → AreAdded is_so a b p → AreAdded is_so b c q
    → AreAdded is_so a c (p && q)
added_both is_so None b c p q h k = tt
added_both is_so (Some xs) None c p q h k = absurd h
added_both is_so (Some xs) (Some ys) None p q h k = absurd k
added_both {A} is_so (Some xs) (Some ys) (Some zs) p q h k = (
  h.0 ++ k.0,
  k.1 ∙ ap (λ (l : List A). l ++ k.0) h.1 ∙ append_assoc xs h.0 k.0,
  list_all-append is_so h.0 k.0 ∙ ap (λ (x : Bool). x && list_all is_so k.0) h.2 ∙ ap (λ (x : Bool). p && x) k.2,
)

-- each of those before is so
pub added_on : {A : Type 0} → (is_so : A → Bool) (a b c : Option (List A)) (q : Bool) → AreAdded is_so a b true → AreAdded is_so b c q
    → AreAdded is_so a c q
added_on is_so a b c q h k = added_both is_so a b c true q h k

-- each of those after is so
pub added_after : {A : Type 0} → (is_so : A → Bool) (a b c : Option (List A)) (p : Bool) → AreAdded is_so a b p → AreAdded is_so b c true
    → AreAdded is_so a c p
added_after is_so a b c p h k = subst (λ x. AreAdded is_so a c x) (and-true p) (added_both is_so a b c p true h k)
