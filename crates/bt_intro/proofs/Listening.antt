-- What is heard of items, and of further ones.
use Rattle.std.proofs.Common.{◌≡◌, ◌∙◌, ℕ, ◌+◌, Bool, true, false, List, [], ◌∷◌, ◌++◌, length, Option, Some, None, refl, sym, ap, subst, arith, length-append}
use Rattle.std.specs.Prelude.{◌||◌, option_map}
use Rattle.bt_ext.specs.Ids.{metadata_name, donthave_name}
use Rattle.bt_wire.specs.declared.handshake.Handshake.{Handshake}
use Rattle.bt_wire.specs.declared.item.Item.{Item}
use Rattle.bt_wire.specs.declared.item.Item.TheVariants as items
use Rattle.bt_wire.specs.declared.reserved.Reserved.{Reserved}
use Rattle.bt_feed.specs.Pumps.{Took}
use Rattle.bt_jobs.specs.Others.{or_else, first_of, reserved_of, id_of, first_id, announced, own_of_other}
use Rattle.bt_intro.specs.declared.listener.Listener.{Listener}
use Rattle.bt_intro.specs.Names.{or_before}
use Rattle.bt_intro.specs.Listening.{handshake_of, is_extended, has_extended, client_of, last_client, IsHeard, Hears}

or_none : {A : Type 0} (o : Option A) → or_else o None ≡ o
or_none None = refl
or_none (Some a) = refl

or_both : {A : Type 0} (a b c : Option A) → or_else (or_else a b) c ≡ or_else a (or_else b c)
or_both None b c = refl
or_both (Some x) b c = refl

first_both : {A : Type 0} (f : Item → Option A) (xs ys : List (ℕ × Item)) → first_of f (xs ++ ys) ≡ or_else (first_of f xs) (first_of f ys)
first_both f [] ys = refl
first_both f (x ∷ xs) ys = ap (λ o. or_else (f x.1) o) (first_both f xs ys) ∙ sym (or_both (f x.1) (first_of f xs) (first_of f ys))

first_snoc : {A : Type 0} (f : Item → Option A) (xs : List (ℕ × Item)) (x : ℕ × Item) → first_of f (xs ++ (x ∷ [])) ≡ or_else (first_of f xs) (f x.1)
first_snoc f xs x = first_both f xs (x ∷ []) ∙ ap (λ o. or_else (first_of f xs) o) (or_none (f x.1))

any_swap : (a b c : Bool) → a || (b || c) ≡ b || (a || c)
any_swap true true c = refl
any_swap true false c = refl
any_swap false b c = refl

extended_snoc : (xs : List (ℕ × Item)) (x : ℕ × Item) → has_extended (xs ++ (x ∷ [])) ≡ is_extended x.1 || has_extended xs
extended_snoc [] x = refl
extended_snoc (y ∷ ys) x = ap (λ b. is_extended y.1 || b) (extended_snoc ys x) ∙ any_swap (is_extended y.1) (is_extended x.1) (has_extended ys)

before_empty : (a : List ℕ) → or_before [] a ≡ a
before_empty [] = refl
before_empty (b ∷ bs) = refl

before_both : (a b c : List ℕ) → or_before (or_before a b) c ≡ or_before a (or_before b c)
before_both a b [] = refl
before_both a b (c ∷ cs) = refl

client_snoc : (xs : List (ℕ × Item)) (x : ℕ × Item) → last_client (xs ++ (x ∷ [])) ≡ or_before (last_client xs) (client_of x.1)
client_snoc [] x = sym (before_empty (client_of x.1))
client_snoc (y ∷ ys) x = ap (λ b. or_before (client_of y.1) b) (client_snoc ys x) ∙ sym (before_both (client_of y.1) (last_client ys) (client_of x.1))

-- an item more
heard_one : (xs : List (ℕ × Item)) (x : ℕ × Item) (l m : Listener) → IsHeard xs l → Hears l x m → IsHeard (xs ++ (x ∷ [])) m
heard_one xs x l m h more = record {
  handshake = more.handshake ∙ ap (λ o. or_else o (handshake_of x.1)) h.handshake ∙ sym (first_snoc handshake_of xs x);
  metadata = more.metadata ∙ ap (λ o. or_else o (id_of metadata_name x.1)) h.metadata ∙ sym (first_snoc (id_of metadata_name) xs x);
  donthave = more.donthave ∙ ap (λ o. or_else o (id_of donthave_name x.1)) h.donthave ∙ sym (first_snoc (id_of donthave_name) xs x);
  extended = more.extended ∙ ap (λ b. is_extended x.1 || b) h.extended ∙ sym (extended_snoc xs x);
  client = more.client ∙ ap (λ b. or_before b (client_of x.1)) h.client ∙ sym (client_snoc xs x);
  items = let size : length (xs ++ (x ∷ [])) ≡ length xs + 1 = length-append xs (x ∷ []) in omega (arith, more.items, h.items);
}

snoc_on : (xs ys : List (ℕ × Item)) (x : ℕ × Item) → (xs ++ (x ∷ [])) ++ ys ≡ xs ++ (x ∷ ys)
snoc_on [] ys x = refl
snoc_on (y ∷ xs) ys x = ap (λ zs. y ∷ zs) (snoc_on xs ys x)

append_nil : (xs : List (ℕ × Item)) → xs ++ [] ≡ xs
append_nil [] = refl
append_nil (x ∷ xs) = ap (λ zs. x ∷ zs) (append_nil xs)

-- items more
pub heard_more : (xs ys : List (ℕ × Item)) (l m : Listener) → IsHeard xs l → Took Hears l ys m → IsHeard (xs ++ ys) m
heard_more xs [] l m h took =
    subst (λ (zs : List (ℕ × Item)). IsHeard zs m) (sym (append_nil xs)) (subst (λ (n : Listener). IsHeard xs n) (sym took) h)
heard_more xs (y ∷ ys) l m h took =
    subst (λ (zs : List (ℕ × Item)). IsHeard zs m) (snoc_on xs ys y)
    (heard_more (xs ++ (y ∷ [])) ys took.0 m (heard_one xs y l took.0 h took.1) took.2)

or_mapped : (a b : Option Handshake) → option_map (λ (h : Handshake). h.reserved) (or_else a b) ≡ or_else (option_map (λ (h : Handshake). h.reserved) a)
    (option_map (λ (h : Handshake). h.reserved) b)
or_mapped None b = refl
or_mapped (Some x) b = refl

reserved_in : (i : Item) → reserved_of i ≡ option_map (λ (h : Handshake). h.reserved) (handshake_of i)
reserved_in (items.Handshake h) = refl
reserved_in (items.Message m) = refl

reserved_first : (xs : List (ℕ × Item)) → first_of reserved_of xs ≡ option_map (λ (h : Handshake). h.reserved) (first_of handshake_of xs)
reserved_first [] = refl
reserved_first (x ∷ xs) =
    ap (λ (o : Option Reserved). or_else o (first_of reserved_of xs)) (reserved_in x.1)
    ∙ ap (λ (o : Option Reserved). or_else (option_map (λ (h : Handshake). h.reserved) (handshake_of x.1)) o) (reserved_first xs)
    ∙ sym (or_mapped (handshake_of x.1) (first_of handshake_of xs))

-- the answer of a listener
pub announced_as : (xs : List (ℕ × Item)) (l : Listener) → IsHeard xs l
    → announced (option_map (λ (h : Handshake). h.reserved) l.handshake) l.metadata l.donthave ≡ own_of_other xs
announced_as xs l h =
    ap (λ (o : Option Handshake). announced (option_map (λ (k : Handshake). k.reserved) o) l.metadata l.donthave) h.handshake
    ∙ ap (λ (o : Option Reserved). announced o l.metadata l.donthave) (sym (reserved_first xs))
    ∙ ap (λ (o : Option ℕ). announced (first_of reserved_of xs) o l.donthave) h.metadata
    ∙ ap (λ (o : Option ℕ). announced (first_of reserved_of xs) (first_id metadata_name xs) o) h.donthave
