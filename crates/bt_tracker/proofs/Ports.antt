-- What `parse` reads of decimal digits.
use Rattle.std.proofs.Common.{◌≡◌, ℕ, ◌<◌, ◌^◌, List, true, Result, Ok, Err, Option, length, subst, sym, rules}
use Rattle.std.proofs.lemmas.Str.Parse.{IsNumeralModel, numerals_by_value, parse_digits}
use Rattle.std.specs.Char.{is_ascii_digit}
use Rattle.std.specs.List.{list_all}
use Rattle.std.specs.Option.{SomeIff}
use Rattle.std.specs.Result.{OkIff, result_ok}
use Rattle.std.specs.Str.Parse.{digits_value, ParsesUnsigned}

own : IsNumeralModel (λ t. list_all is_ascii_digit t ≡ true) (digits_value 10)
own = numerals_by_value _ (search rules)

pub parsed_number : {E : Type 0} (t : List ℕ) (r : Result ℕ E) → list_all is_ascii_digit t ≡ true → ParsesUnsigned 16 10 t r
    → OkIff r ((0 < length t) × (digits_value 10 t < 2 ^ 16)) (digits_value 10 t)
parsed_number t r e h = parse_digits own 16 t r h e

as_some : {E : Type 0} (P : Type 0) (v : ℕ) (r : Result ℕ E) → OkIff r P v → SomeIff (result_ok r) P v
as_some P v (Ok x) h = h
as_some P v (Err e) h = h

-- the number of a text that has these digits
pub number_by : {E : Type 0} (digits text : List ℕ) (r : Result ℕ E) (o : Option ℕ) → text ≡ digits → list_all is_ascii_digit digits ≡ true
    → ParsesUnsigned 16 10 text r → o ≡ result_ok r → SomeIff o ((0 < length digits) × (digits_value 10 digits < 2 ^ 16)) (digits_value 10 digits)
number_by digits text r o same all parsed is =
    let P : List ℕ → Type 0 = λ t. ParsesUnsigned 16 10 t r in
    let Q : Option ℕ → Type 0 = λ y. SomeIff y ((0 < length digits) × (digits_value 10 digits < 2 ^ 16)) (digits_value 10 digits) in
    let number = parsed_number digits r all (subst P same parsed) in
    subst Q (sym is) (as_some ((0 < length digits) × (digits_value 10 digits < 2 ^ 16)) (digits_value 10 digits) r number)
