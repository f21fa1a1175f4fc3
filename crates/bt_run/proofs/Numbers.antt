-- What `parse` reads of decimal digits.
use Rattle.std.proofs.Common.{◌≡◌, ℕ, ◌<◌, ◌^◌, List, true, false, None, Result, Ok, Err, length, rules, refl}
use Rattle.std.proofs.lemmas.Str.Parse.{IsNumeralModel, numerals_by_value, parse_digits}
use Rattle.std.specs.Char.{is_ascii_digit}
use Rattle.std.specs.List.{list_all}
use Rattle.std.specs.Result.{result_ok, OkIff}
use Rattle.std.specs.Str.Parse.{digits_value, ParsesUnsigned}
use Rattle.bt_run.specs.Options.{number_of}

own : IsNumeralModel (λ t. list_all is_ascii_digit t ≡ true) (digits_value 10)
own = numerals_by_value _ (search rules)

ok_iff : {E : Type 0} (t : List ℕ) (r : Result ℕ E) → list_all is_ascii_digit t ≡ true → OkIff r ((0 < length t) × (digits_value 10 t < 2 ^ 32))
    (digits_value 10 t) → result_ok r ≡ number_of t
ok_iff t (Ok x) e h = search rules
ok_iff t (Err x) e h = search rules

pub parsed_number : {E : Type 0} (t : List ℕ) (r : Result ℕ E) → list_all is_ascii_digit t ≡ true → ParsesUnsigned 32 10 t r → result_ok r ≡ number_of t
parsed_number t r e h = ok_iff t r e (parse_digits own 32 t r h e)

pub other_text : (t : List ℕ) → list_all is_ascii_digit t ≡ false → number_of t ≡ None
other_text t e = rw e refl
