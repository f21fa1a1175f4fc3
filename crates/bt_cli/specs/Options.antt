-- What the words of the command line say: the options, the files and the command that `clap` found.
use Rattle.std.specs.Prelude.{◌≡◌, ◌==◌, ℕ, ◌&&◌, ◌||◌, not, Bool, true, false, List, [], ◌∷◌, ◌++◌, map, string_bytes, is_some, unwrap_or, codes, Some, option_map}
use Rattle.std.specs.Str.{bytes_eq}
use Rattle.clap.specs.declared.parser.matches.Found.{Found}
use Rattle.clap.specs.Matches.{first_value, matched_of, raw_values}
use Rattle.bt_wire.specs.declared.context.Own.{Own}
use Rattle.bt_run.specs.declared.commands.Given.{Given}
use Rattle.bt_run.specs.declared.commands.Job.{Job}
use Rattle.bt_run.specs.declared.commands.Job.TheVariants.{Check}
use Rattle.bt_run.specs.declared.commands.Notice.TheVariants.{Usage}
use Rattle.bt_run.specs.declared.commands.Request.{Request}
use Rattle.bt_run.specs.declared.values.Written.{Written}
use Rattle.bt_run.specs.Commands.{as_json, job_of}
use Rattle.bt_run.specs.Options.{IsReceiver, hints_in, limit_in, rules_in}
use Rattle.bt_peers.specs.Searches.{IsPeersAsked}
use Rattle.bt_cli.specs.Wanted.{IsCaptureRequested, IsFetchAsked, IsServeAsked}
use Rattle.bt_cli.specs.declared.commands.Asked.{Asked}
use Rattle.bt_cli.specs.declared.commands.Asked.TheVariants.{Run, Link, Capture, Fetch, Peers, Serve, Told, Loop}

-- ---- the texts

-- each option has the text that was found under its name
pub record IsWritten (f : Found) (w : Written) : Type 0 where
  pub reserved : option_map (λ s. s.now) w.reserved ≡ first_value f (codes "reserved")
  pub pieces : option_map (λ s. s.now) w.pieces ≡ first_value f (codes "pieces")
  pub metadata_id : option_map (λ s. s.now) w.metadata_id ≡ first_value f (codes "metadata-id")
  pub donthave_id : option_map (λ s. s.now) w.donthave_id ≡ first_value f (codes "donthave-id")
  pub info_hash : option_map (λ s. s.now) w.info_hash ≡ first_value f (codes "info-hash")
  pub rules : option_map (λ s. s.now) w.rules ≡ first_value f (codes "rules")
  pub limit : option_map (λ s. s.now) w.limit ≡ first_value f (codes "limit")

-- what of the receiver is given, by the options that were found
abbrev pub given_in : Found → Given
given_in f = record {
  reserved = is_some (first_value f (codes "reserved"));
  metadata_id = is_some (first_value f (codes "metadata-id"));
  donthave_id = is_some (first_value f (codes "donthave-id"));
}

-- the texts of all files that were found
abbrev pub files_in : Found → List (List ℕ)
files_in f = unwrap_or (option_map raw_values (matched_of f (codes "FILE"))) []

-- `--json` was found
abbrev pub json_in : Found → Bool
json_in f = bytes_eq (unwrap_or (first_value f (codes "json")) []) (codes "true")

-- the command with this name does the job, for the receiver that the options found in f describe
abbrev pub IsChosen : List ℕ → Found → Job → Own → Type 0
IsChosen name f job own = (option_map (as_json (json_in f)) (job_of name) ≡ Some job) × ((w : Written) × IsWritten f w × IsReceiver job w own)

-- the command with this name asks for this, with the options and files found in f
pub record IsRequested (name : List ℕ) (f : Found) (r : Request) : Type 0 where
  pub chosen : IsChosen name f r.job r.own
  pub given : r.given ≡ given_in f
  pub other : option_map string_bytes r.other ≡ first_value f (codes "other")
  pub hints : hints_in (first_value f (codes "hints")) ≡ Some r.hints
  pub files : map string_bytes r.files.items ≡ files_in f

-- what the command with this name asks for, with the options and files found in f; a text where they are wrong
abbrev pub IsAskedBy : List ℕ → Found → Asked → Type 0
IsAskedBy name f (Run r) = IsRequested name f r
IsAskedBy name f (Link files) = (bytes_eq name (codes "link") ≡ true) × (map string_bytes files.items ≡ files_in f)
IsAskedBy name f (Capture request) = (bytes_eq name (codes "capture") ≡ true) × IsCaptureRequested f request
IsAskedBy name f (Loop rules limit) =
    (bytes_eq name (codes "loop") ≡ true) × (rules_in Check (first_value f (codes "rules")) ≡ Some rules)
    × (limit_in (first_value f (codes "limit")) ≡ Some limit)
IsAskedBy name f (Fetch job) = (bytes_eq name (codes "fetch") ≡ true) × IsFetchAsked f job
IsAskedBy name f (Peers job) = (bytes_eq name (codes "peers") ≡ true) × IsPeersAsked f job
IsAskedBy name f (Serve job) = (bytes_eq name (codes "serve") ≡ true) × IsServeAsked f job
IsAskedBy name f (Told notice text) = notice ≡ Usage

-- ---- the words

abbrev pub is_text_option : List ℕ → Bool
is_text_option w = bytes_eq w (codes "-h") || (bytes_eq w (codes "--help") || (bytes_eq w (codes "-V") || bytes_eq w (codes "--version")))

-- a word that begins with '-' and asks for no text: a command is missing before it
abbrev pub lacks_command : List ℕ → Bool
lacks_command [] = false
lacks_command (c ∷ cs) = (c == 45) && not (is_text_option (c ∷ cs))

abbrev pub lacks_first : List (List ℕ) → Bool
lacks_first [] = false
lacks_first (w ∷ ws) = lacks_command w

-- ---- the texts of the program's own

abbrev pub mistake_words : List ℕ → List ℕ → List ℕ
mistake_words usage what =
    codes "error: " ++ (what ++ (codes "\n\nUsage: " ++ (usage ++ codes "\n\nFor more information, try '--help'.\n")))

abbrev pub version_words : List ℕ → List ℕ
version_words sources = codes "bt_tool 0.2.0 (sources " ++ (sources ++ codes ")\n")
