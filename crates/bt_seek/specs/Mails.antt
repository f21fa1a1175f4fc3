-- The mail of a search, as its post saw it.
use Rattle.std.specs.Prelude.{ℕ, List, [], ◌∷◌, ◌++◌, take, Option, Some, None}
use Rattle.std.specs.declared.net.socket_addr.SocketAddr.{SocketAddr}
use Rattle.bt_seek.specs.declared.question.Question.{Question}
use Rattle.bt_seek.specs.declared.post.Came.{Came}
use Rattle.bt_seek.specs.declared.post.Came.TheVariants as came

pub data Mail : Type 0 where
  -- a datagram went out, which asks this
  Sent : SocketAddr → Question → List ℕ → Mail
  -- a page, which is a tracker over HTTP, was asked
  Asked : ℕ → List ℕ → Mail
  -- a page was told that this peer has stopped
  Stopped : ℕ → List ℕ → Mail
  -- a datagram came from this address
  Heard : SocketAddr → List ℕ → Mail
  -- a page's whole answer came
  Answered : ℕ → List ℕ → Mail
  -- a page can't be asked, or its answer broke off
  Failed : ℕ → Mail
  -- the clock was read, in milliseconds
  Clock : ℕ → Mail

-- the log with one mail more, if it is known
abbrev pub added : Option (List Mail) → Mail → Option (List Mail)
added None mail = None
added (Some mails) mail = Some (mails ++ mail ∷ [])

-- the mail that came, whose bytes stand at the buffer's front
abbrev pub mail_of : Came → List ℕ → Mail
mail_of (came.Datagram from length) buffer = Heard from (take length buffer)
mail_of (came.Page page length) buffer = Answered page (take length buffer)
mail_of (came.Failed page) buffer = Failed page

abbrev pub received : Option (List Mail) → Option Came → List ℕ → Option (List Mail)
received log None buffer = log
received log (Some it) buffer = added log (mail_of it buffer)

-- how many bytes came
abbrev pub length_of : Came → ℕ
length_of (came.Datagram from length) = length
length_of (came.Page page length) = length
length_of (came.Failed page) = 0
