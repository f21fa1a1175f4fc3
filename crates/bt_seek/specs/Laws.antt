-- Laws of runs: what a search that has gone so sends and finds, whatever the network does.
use Rattle.std.specs.Prelude.{◌≡◌, ◌≤◌, Bool, List, ◌++◌, length, count_by}
use Rattle.std.specs.declared.net.socket_addr.SocketAddr.{SocketAddr}
use Rattle.bt_seek.specs.Addresses.{is_same}
use Rattle.bt_seek.specs.Mails.{Mail}
use Rattle.bt_seek.specs.Courses.{Course, start}
use Rattle.bt_seek.specs.Names.{Names}
use Rattle.bt_seek.specs.Runs.{IsRun}

-- at most 256 datagrams, and 5 to an address
pub record IsSparing (c : Course) : Type 0 where
  pub total : length c.sent ≤ 256
  pub each : (a : SocketAddr) → count_by (λ b. is_same a b) c.sent ≤ 5

abbrev pub Spares : Type 0
Spares = (names : Names) (is_local : Bool) (mails : List Mail) (c : Course) → IsRun names (start is_local) mails c → IsSparing c

-- at most 200 peers
abbrev pub FindsFew : Type 0
FindsFew = (names : Names) (is_local : Bool) (mails : List Mail) (c : Course) → IsRun names (start is_local) mails c → length c.peers ≤ 200

-- peers are only added, after those that are there
abbrev pub Grows : Type 0
Grows = (names : Names) (b c : Course) (mails : List Mail) → IsRun names b mails c → (rest : List SocketAddr) × (c.peers ≡ b.peers ++ rest)

-- A log has one course, whoever was named: what is asked, who was told of and which peers were found is a function of the log.
abbrev pub HasOneCourse : Type 0
HasOneCourse = (n m : Names) (is_local : Bool) (mails : List Mail) (c d : Course)
    → IsRun n (start is_local) mails c → IsRun m (start is_local) mails d → c ≡ d
