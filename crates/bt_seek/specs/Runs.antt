-- A whole search: its mail from the beginning, and what it knows after it.
use Rattle.std.specs.Prelude.{◌≡◌, ◌<◌, true, List, [], ◌∷◌, Option, Some, None, ⊤}
use Rattle.std.specs.declared.net.socket_addr.SocketAddr.{SocketAddr}
use Rattle.bt_tracker.specs.declared.announce.Event.TheVariants as event
use Rattle.bt_seek.specs.Mails.{Mail, Sent, Asked, Stopped, Heard, Answered, Failed, Clock}
use Rattle.bt_seek.specs.Courses.{Course, start, at_time, may_send, with_sent, with_asked, answered}
use Rattle.bt_seek.specs.Answers.{IsRead, ArePagePeers, Reply, heard_by}
use Rattle.bt_seek.specs.Names.{Names}
use Rattle.bt_seek.specs.Questions.{IsAsking, IsPageAsked}

-- a search, as its callers see it: who asks whom, and what it knows
pub record Seeking : Type 0 where
  pub names : Names
  pub course : Course

-- Before a mail that came the search knows c, and after it d.
abbrev pub IsTaken : Course → Mail → Course → Type 0
-- A datagram that came changes nothing, unless it is the answer to an open question.
IsTaken c (Heard from datagram) d = (reply : Option Reply) × IsRead from datagram reply × (d ≡ heard_by from reply c)
IsTaken c (Answered page answer) d = (told : List SocketAddr) × ArePagePeers answer told × (d ≡ answered page told c)
IsTaken c (Failed page) d = d ≡ answered page [] c
IsTaken c (Clock now) d = d ≡ at_time now c
IsTaken c (Sent to question datagram) d = ⊥
IsTaken c (Asked page question) d = ⊥
IsTaken c (Stopped page question) d = ⊥

-- Before a mail the search knows c, and after it d.
abbrev pub Step : Names → Course → Mail → Course → Type 0
-- A datagram is sent only to who was named or told, and only while there are few: 256 in all, 5 to a tracker, 2 to a node.
Step names c (Sent to question datagram) d =
    IsAsking names c to question.kind question.id datagram × (may_send to question.kind c ≡ true) × (d ≡ with_sent to question c)
-- Each page is asked once, in order, and may be told afterwards that this peer has stopped.
Step names c (Asked page question) d = (page ≡ c.begun) × IsPageAsked names event.Started page question × (d ≡ with_asked page c)
Step names c (Stopped page question) d = (page < c.begun) × IsPageAsked names event.Stopped page question × (d ≡ c)
Step names c (Heard from datagram) d = IsTaken c (Heard from datagram) d
Step names c (Answered page answer) d = IsTaken c (Answered page answer) d
Step names c (Failed page) d = IsTaken c (Failed page) d
Step names c (Clock now) d = IsTaken c (Clock now) d

abbrev pub IsRun : Names → Course → List Mail → Course → Type 0
IsRun names c [] d = d ≡ c
IsRun names c (mail ∷ mails) d = (e : Course) × Step names c mail e × IsRun names e mails d

-- what the search knows is what its log tells, if the log is known
abbrev pub IsTold : Option (List Mail) → Names → Course → Type 0
IsTold None names c = ⊤
IsTold (Some mails) names c = IsRun names (start c.is_local) mails c
