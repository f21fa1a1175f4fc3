-- What the options of `fetch`, `serve` and `capture` say.
use Rattle.std.specs.Prelude.{◌≡◌, ◌==◌, ◌&&◌, ◌||◌, not, length, ℕ, Bool, false, List, [], map, string_bytes, is_some, codes, Option, Some, None, option_map}
use Rattle.std.specs.Net.Grammar.{IsSocketText}
use Rattle.clap.specs.declared.parser.matches.Found.{Found}
use Rattle.clap.specs.Matches.{first_value}
use Rattle.bt_ext.specs.declared.ids.Rules.{Rules}
use Rattle.bt_ext.specs.declared.ids.Rules.TheVariants.{Free}
use Rattle.bt_magnet.specs.Links.{IsMagnet}
use Rattle.bt_peers.specs.Searches.{IsSearchAsked}
use Rattle.bt_peers.specs.Words.{flag_in, text_in, words_in}
use Rattle.bt_run.specs.Options.{number_in, rules_of, value_of}
use Rattle.bt_fetch.specs.declared.wish.Wish.{Wish}
use Rattle.bt_remarks.specs.declared.events.Side.{Side}
use Rattle.bt_capture.specs.declared.ending.CaptureJob.{CaptureJob}
use Rattle.bt_cli.specs.Chosen.{IsChoiceAsked, is_choosing}
use Rattle.bt_cli.specs.Streams.{direction_in}
use Rattle.bt_cli.specs.declared.capture.CaptureRequest.{CaptureRequest}
use Rattle.bt_cli.specs.declared.fetch.FetchJob.{FetchJob}
use Rattle.bt_cli.specs.declared.serve.ServeJob.{ServeJob}

-- ---- an option: its default where it isn't given, and none where its text is no value of it

abbrev pub number_or : ℕ → ℕ → ℕ → Option (List ℕ) → Option ℕ
number_or low high default t = value_of default (number_in low high) t

abbrev pub peer_rules_in : Option (List ℕ) → Option Rules
peer_rules_in t = value_of Free rules_of t

abbrev pub end_limit_in : Option (List ℕ) → Option ℕ
end_limit_in t = number_or 32768 1048576 262144 t

abbrev pub timeout_in : Option (List ℕ) → Option ℕ
timeout_in t = number_or 1 86400 30 t

abbrev pub window_in : Option (List ℕ) → Option (Option ℕ)
window_in t = value_of None (λ s. option_map (λ n. Some n) (number_in 1 8 s)) t

abbrev pub max_size_in : Option (List ℕ) → Option ℕ
max_size_in t = number_or 1 67108864 67108864 t

abbrev pub at_once_in : Option (List ℕ) → Option ℕ
at_once_in t = number_or 1 256 16 t

abbrev pub exit_after_in : Option (List ℕ) → Option (Option ℕ)
exit_after_in t = value_of None (λ s. option_map (λ n. Some n) (number_in 1 4294967295 s)) t

abbrev pub max_connections_in : Option (List ℕ) → Option ℕ
max_connections_in t = number_or 1 1024 64 t

abbrev pub capture_pieces_in : Option (List ℕ) → Option (Option ℕ)
capture_pieces_in t = value_of None (λ s. option_map (λ n. Some n) (number_in 0 4294967295 s)) t

abbrev pub capture_limit_in : Option (List ℕ) → Option ℕ
capture_limit_in t = number_or 1 1048576 262144 t

abbrev pub capture_stream_in : Option (List ℕ) → Option (Option (ℕ × Side))
capture_stream_in t = value_of None (λ s. option_map (λ d. Some d) (direction_in s)) t

-- ---- `fetch`

-- the options say how it is fetched
pub record IsWished (f : Found) (w : Wish) : Type 0 where
  pub rules : peer_rules_in (first_value f (codes "rules")) ≡ Some w.rules
  pub limit : end_limit_in (first_value f (codes "limit")) ≡ Some w.limit
  pub timeout : timeout_in (first_value f (codes "timeout")) ≡ Some w.patience
  pub window : window_in (first_value f (codes "window")) ≡ Some w.window
  pub max_size : max_size_in (first_value f (codes "max-size")) ≡ Some w.most

-- peers are searched: no peer and no list of peers is named, or a tracker or a node is
abbrev pub is_seeking : ℕ → Bool → ℕ → ℕ → Bool
is_seeking peers has_list trackers nodes = ((peers == 0) && not has_list) || (not (trackers == 0) || not (nodes == 0))

-- the link says what is fetched and names peers, and so do the words
pub record IsFetchAsked (f : Found) (job : FetchJob) : Type 0 where
  pub wish : IsWished f job.wish
  pub link : IsMagnet (text_in f (codes "INFOHASH") []) job.magnet
  pub hash : job.wish.info_hash ≡ job.magnet.info_hash
  pub peers : map string_bytes job.peers.items ≡ words_in f (codes "ADDRESS")
  pub list : option_map string_bytes job.list ≡ first_value f (codes "peers")
  pub torrent : job.torrent ≡ flag_in f (codes "torrent")
  pub at_once : at_once_in (first_value f (codes "at-once")) ≡ Some job.at_once
  pub json : job.json ≡ flag_in f (codes "json")
  pub search : IsSearchAsked f job.search
  pub seeks : job.seeks ≡ is_seeking (length job.peers.items) (is_some job.list) (length job.search.trackers.items) (length job.search.nodes.items)

-- ---- `serve`

pub record IsServeAsked (f : Found) (job : ServeJob) : Type 0 where
  pub file : string_bytes job.file ≡ text_in f (codes "FILE") []
  pub listen : IsSocketText (text_in f (codes "listen") (codes "127.0.0.1:0")) job.listen
  pub rules : peer_rules_in (first_value f (codes "rules")) ≡ Some job.rules
  pub limit : end_limit_in (first_value f (codes "limit")) ≡ Some job.limit
  pub timeout : timeout_in (first_value f (codes "timeout")) ≡ Some job.patience
  pub exit_after : exit_after_in (first_value f (codes "exit-after")) ≡ Some job.connections
  pub max_connections : max_connections_in (first_value f (codes "max-connections")) ≡ Some job.at_once

-- ---- `capture`

-- both options are given
abbrev pub are_given : Found → List ℕ → List ℕ → Bool
are_given f one other = is_some (first_value f one) && is_some (first_value f other)

-- the options say how the capture is judged and told; a torrent's file isn't read yet
pub record IsCaptureAsked (f : Found) (job : CaptureJob) : Type 0 where
  pub pieces : capture_pieces_in (first_value f (codes "pieces")) ≡ Some job.terms.pieces
  pub apart : are_given f (codes "pieces") (codes "torrent") ≡ false
  pub limit : capture_limit_in (first_value f (codes "limit")) ≡ Some job.terms.limit
  pub torrent : job.terms.torrent ≡ None
  pub json : job.json ≡ flag_in f (codes "json")
  pub show : job.show ≡ flag_in f (codes "show")
  pub stream : capture_stream_in (first_value f (codes "stream")) ≡ Some job.stream
  pub alone : is_some job.stream && (job.show || job.json) ≡ false
  pub choice : IsChoiceAsked f job.choice
  pub unchosen : is_choosing job.choice && (job.show || is_some job.stream) ≡ false

pub record IsCaptureRequested (f : Found) (r : CaptureRequest) : Type 0 where
  pub job : IsCaptureAsked f r.job
  pub torrent : option_map string_bytes r.torrent ≡ first_value f (codes "torrent")
  pub files : map string_bytes r.files.items ≡ words_in f (codes "FILE")
  pub strict : r.is_strict ≡ flag_in f (codes "strict-status")
