-- Times and optional numbers as text.
use Rattle.std.specs.Prelude.{ℕ, ◌+◌, ◌/◌, ◌%◌, List, [], ◌∷◌, ◌++◌, Option, Some, None, codes, decimal}

-- the last digit
abbrev pub digit : ℕ → ℕ
digit n = 48 + n % 10

-- the two digits of a number below 100, the four of one below 10,000
abbrev pub two_digits : ℕ → List ℕ
two_digits n = (48 + n / 10) ∷ (48 + n % 10) ∷ []

abbrev pub four_digits : ℕ → List ℕ
four_digits n = two_digits (n / 100) ++ two_digits (n % 100)

-- the last six digits
abbrev pub six_digits : ℕ → List ℕ
six_digits n = digit (n / 100000) ∷ digit (n / 10000) ∷ digit (n / 1000) ∷ digit (n / 100) ∷ digit (n / 10) ∷ digit n ∷ []

-- nanoseconds as seconds with six digits after the point; what is left is cut
abbrev pub time_text : ℕ → List ℕ
time_text nanoseconds = decimal (nanoseconds / 1000000000) ++ (codes "." ++ six_digits (nanoseconds / 1000))

-- words and a number, if there is a number
abbrev pub option_text : List ℕ → Option ℕ → List ℕ
option_text words None = []
option_text words (Some n) = words ++ decimal n
