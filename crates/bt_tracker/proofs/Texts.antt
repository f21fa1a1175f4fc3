-- The front of bytes, and texts of ASCII.
use Rattle.std.proofs.Common.{◌≡◌, ℕ, zero, suc, ◌<◌, ◌≤◌, ◌&&◌, Bool, true, false, cond, List, [], ◌∷◌, Option, Some, None, length, take}
use Rattle.std.proofs.Common.{refl, sym, subst, arith}
use Rattle.std.proofs.lemmas.Grind.{common_steps}
use Rattle.std.proofs.lemmas.List.{take_all}
use Rattle.std.specs.List.{before_first, list_all, position, position_or_len}
use Rattle.std.specs.Prelude.{nat_le, nat_lt, if◌then◌else◌, MatchOption}
use Rattle.std.specs.Str.{IsAscii}
use Rattle.std.specs.Char.{is_ascii_digit}
use Rattle.bt_tracker.specs.Urls.{has_host, host_end, host_in, is_address_byte, is_bracketed, is_name_byte}

abbrev IsCut : (ℕ → Bool) → List ℕ → Option ℕ → Type 0
IsCut p xs r = MatchOption r (xs ≡ before_first p xs) (λ n. (take n xs ≡ before_first p xs) × (n ≤ length xs))

cut_by : (p : ℕ → Bool) (xs : List ℕ) (b : Bool) → nat_lt (position_or_len p xs) (length xs) ≡ b
    → IsCut p xs (cond b (Some (position_or_len p xs)) None)
cut_by p xs true e = (refl, grind (arith, e))
cut_by p xs false e = sym (take_all (position_or_len p xs) xs (grind (arith, e)))

cut : (p : ℕ → Bool) (xs : List ℕ) (r : Option ℕ) → r ≡ position p xs → IsCut p xs r
cut p xs r h = let P : Option ℕ → Type 0 = IsCut p xs in subst P (sym h) (cut_by p xs _ refl)

pub front_found : (p : ℕ → Bool) (xs : List ℕ) (n : ℕ) → Some n ≡ position p xs → (take n xs ≡ before_first p xs) × (n ≤ length xs)
front_found p xs n h = cut p xs (Some n) h

pub front_all : (p : ℕ → Bool) (xs : List ℕ) → None ≡ position p xs → xs ≡ before_first p xs
front_all p xs h = cut p xs None h

both : (a b : Bool) → a && b ≡ true → (a ≡ true) × (b ≡ true)
both true b h = (refl, h)
both false b h = absurd (cc)

ascii_by : (p : ℕ → Bool) → ((b : ℕ) → p b ≡ true → b < 128) → (bs : List ℕ) → list_all p bs ≡ true → IsAscii bs
ascii_by p small [] h i = grind (arith, common_steps)
ascii_by p small (b ∷ bs) h zero = small b (both (p b) (list_all p bs) h).0
ascii_by p small (b ∷ bs) h (suc i) = ascii_by p small bs (both (p b) (list_all p bs) h).1 i

small_digit : (b : ℕ) → is_ascii_digit b ≡ true → b < 128
small_digit b h = grind arith

small_name : (b : ℕ) → is_name_byte b ≡ true → b < 128
small_name b h = grind arith

small_address : (b : ℕ) → is_address_byte b ≡ true → b < 128
small_address b h = grind arith

pub digits_are_ascii : (bs : List ℕ) → list_all is_ascii_digit bs ≡ true → IsAscii bs
digits_are_ascii bs h = ascii_by is_ascii_digit small_digit bs h

host_by : (b : Bool) (bs : List ℕ) → (if b then list_all is_address_byte bs else list_all is_name_byte bs) ≡ true → IsAscii bs
host_by true bs h = ascii_by is_address_byte small_address bs h
host_by false bs h = ascii_by is_name_byte small_name bs h

pub host_is_ascii : (a : List ℕ) → has_host a ≡ true → IsAscii (host_in a)
host_is_ascii a h =
    let bytes = if is_bracketed a then list_all is_address_byte (host_in a) else list_all is_name_byte (host_in a) in
    let closed = both (nat_lt 0 (length (host_in a))) (nat_le (host_end a) (length a) && bytes) h in
    host_by (is_bracketed a) (host_in a) (both (nat_le (host_end a) (length a)) bytes closed.1).1
