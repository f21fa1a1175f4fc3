-- What `parse` reads of decimal digits.
use Rattle.std.proofs.Common.{◌≡◌, ℕ, ◌<◌, ◌^◌, List, true, Result, Ok, Err, length, rules}
use Rattle.std.proofs.lemmas.Str.Parse.{IsNumeralModel, numerals_by_value, parse_digits}
use Rattle.std.specs.Prelude.{is_ok}
use Rattle.std.specs.Char.{is_ascii_digit}
use Rattle.std.specs.List.{list_all}
use Rattle.std.specs.Result.{OkIff}
use Rattle.std.specs.Str.Parse.{digits_value, ParsesUnsigned}
use Rattle.bt_magnet.specs.Peers.{is_port}

own : IsNumeralModel (λ t. list_all is_ascii_digit t ≡ true) (digits_value 10)
own = numerals_by_value _ (search rules)

ok_iff : {E : Type 0} (t : List ℕ) (r : Result ℕ E) → list_all is_ascii_digit t ≡ true → OkIff r ((0 < length t) × (digits_value 10 t < 2 ^ 16))
    (digits_value 10 t) → is_ok r ≡ is_port t
ok_iff t (Ok x) e h = search rules
ok_iff t (Err x) e h = search rules

pub parsed_port : {E : Type 0} (t : List ℕ) (r : Result ℕ E) → list_all is_ascii_digit t ≡ true → ParsesUnsigned 16 10 t r → is_ok r ≡ is_port t
parsed_port t r e h = ok_iff t r e (parse_digits own 16 t r h e)
