-- What the words of `peers` ask for, what it says at its end, and its exit status.
use Rattle.std.specs.Prelude.{◌≡◌, ◌==◌, ℕ, Bool, List, [], if◌then◌else◌, map, string_bytes, codes, Result, Ok, Err}
use Rattle.clap.specs.declared.parser.matches.Found.{Found}
use Rattle.bt_text.specs.declared.ended.ToolFault.TheVariants as fault
use Rattle.bt_magnet.specs.Links.{IsMagnet}
use Rattle.bt_finding.specs.declared.finding.FindError.{FindError}
use Rattle.bt_finding.specs.declared.finding.FindError.TheVariants.{Write, Memory}
use Rattle.bt_run.specs.Endings.{fault_status, fault_words}
use Rattle.bt_peers.specs.Words.{flag_in, text_in, words_in}
use Rattle.bt_peers.specs.declared.search.PeersJob.{PeersJob}
use Rattle.bt_peers.specs.declared.search.SearchJob.{SearchJob}

-- the options say who is asked
pub record IsSearchAsked (f : Found) (job : SearchJob) : Type 0 where
  pub trackers : map string_bytes job.trackers.items ≡ words_in f (codes "tracker")
  pub nodes : map string_bytes job.nodes.items ≡ words_in f (codes "dht")
  pub no_trackers : job.no_trackers ≡ flag_in f (codes "no-trackers")
  pub no_dht : job.no_dht ≡ flag_in f (codes "no-dht")
  pub local : job.is_local ≡ flag_in f (codes "local")

-- the link says whose peers are searched
pub record IsPeersAsked (f : Found) (job : PeersJob) : Type 0 where
  pub link : IsMagnet (text_in f (codes "INFOHASH") []) job.magnet
  pub search : IsSearchAsked f job.search

-- a fault has its line, but for an output that nobody reads
abbrev pub peers_words : Bool → Result ℕ FindError → List ℕ
peers_words gone (Ok n) = []
peers_words gone (Err Write) = fault_words gone [] fault.Write
peers_words gone (Err Memory) = fault_words gone [] fault.Memory

-- 0 if there is a peer, 1 if there is none, and a fault's status
abbrev pub peers_status : Bool → Result ℕ FindError → ℕ
peers_status gone (Ok n) = if n == 0 then 1 else 0
peers_status gone (Err Write) = fault_status gone fault.Write
peers_status gone (Err Memory) = fault_status gone fault.Memory
