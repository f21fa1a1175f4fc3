-- What the words of the command line say, by name.
use Rattle.std.specs.Prelude.{Bool, ℕ, List, [], unwrap_or, codes, option_map}
use Rattle.std.specs.Str.{bytes_eq}
use Rattle.clap.specs.declared.parser.matches.Found.{Found}
use Rattle.clap.specs.Matches.{first_value, matched_of, raw_values}

-- the texts of all words of this name
abbrev pub words_in : Found → List ℕ → List (List ℕ)
words_in f name = unwrap_or (option_map raw_values (matched_of f name)) []

abbrev pub text_in : Found → List ℕ → List ℕ → List ℕ
text_in f name default = unwrap_or (first_value f name) default

-- a flag is given
abbrev pub flag_in : Found → List ℕ → Bool
flag_in f name = bytes_eq (text_in f name []) (codes "true")
