-- What a side of the link does is a step of the link.
use Rattle.std.proofs.Common.{◌≡◌, ℕ, ◌≤◌, ◌||◌, ◌&&◌, min, List, [], ◌∷◌, ◌++◌, length, Result, Ok, Err, IfOk, nat_le, is_none, is_some, refl, sym, ap}
use Rattle.std.proofs.Common.{subst, ◌∙◌, arith, length-append, ◌+◌, ◌<◌, take, get_or, add-one}
use Rattle.std.proofs.lemmas.List.{length-take-le}
use Rattle.std.proofs.Math.Seq.{take-suc}
use Rattle.bt_wire.specs.Messages.{Message}
use Rattle.bt_wire.specs.Messages.{IsInRange}
use Rattle.bt_feed.specs.Answers.{standing}
use Rattle.bt_io.specs.declared.outbox.Memory.{Memory}
use Rattle.bt_end.specs.Ends.{EndState}
use Rattle.bt_session.specs.LinkLaws.{IsWritten, AreWritten, IsShortRun, most_steps}
use Rattle.bt_session.proofs.Links.{queued_may_be_sent}
use Rattle.bt_end.specs.Halves.{high_water, is_own_made, tells_pieces}
use Rattle.bt_session.specs.ByteLinks as B
use Rattle.bt_session.specs.MessageLinks as M
use Rattle.bt_session.specs.MessageLinks.{bare}
use Rattle.bt_session.specs.Nodes.{IsNodeOf, MayHandle}
use Rattle.bt_session.specs.Reports.{IsConnectionOf, AreConnectionsOf}
use Rattle.bt_session.specs.Runs.{IsLinkOf, EachMayHandle, AreNew}
use Rattle.bt_session.specs.declared.link.Outcome.{Outcome}
use Rattle.bt_session.specs.declared.link.Outcome.TheVariants as outcome
use Rattle.bt_session.specs.declared.link.Side.{Side}
use Rattle.bt_session.specs.declared.link.Side.TheVariants.{Left, Right}
use Rattle.bt_wire.specs.declared.item.Item.{Item}
use Rattle.bt_end.specs.declared.end.SayError.TheVariants as say_error
use Rattle.bt_session.specs.declared.link.Step.{Step}
use Rattle.bt_session.specs.declared.link.Step.TheVariants as step
use Rattle.bt_session.specs.declared.node.Node.{Node}
use Rattle.bt_session.specs.declared.run.Connection.{Connection}
use Rattle.bt_session.specs.declared.run.Link.{Link}
use Rattle.bt_session.proofs.LinkSteps.{unsaid_none, belief_range}

-- what a step of the link n gives, and leaves as m
abbrev pub Steps : Link → Step → Outcome → Link → Type 0
Steps n s o m = (l : B.Link) → IsLinkOf n l → EachMayHandle l → (k : B.Link) × B.IsStep l s o k × IsLinkOf m k

abbrev pub Goes : Link → Step → Outcome → Link → Type 0
Goes n s o m = (l : B.Link) → IsLinkOf n l → (k : B.Link) × B.IsStep l s o k × IsLinkOf m k

-- ---- turns

abbrev pub Turned : Node → Node → Outcome → Type 0
Turned n m o = (x : B.Node) → IsNodeOf n x → MayHandle x → (y : B.Node) × B.TurnGives x o y × IsNodeOf m (B.fed y)

pub turn_left : (n : Link) (m : Node) (r : Result Outcome Memory) → IfOk r (λ o. Turned n.left m o)
    → IfOk r (λ o. Steps n (step.Turn Left) o (record n { left = m }))
turn_left n m (Err e) f = tt
turn_left n m (Ok o) f = λ l h w.
    let t = f l.left h.left w.0 in (
      record l { left = B.fed t.0 },
      (record { own = B.fed t.0; other = l.right }, (t.0, t.1, refl), refl),
      record { left = t.2; right = h.right; past = h.past },
    )

pub turn_right : (n : Link) (m : Node) (r : Result Outcome Memory) → IfOk r (λ o. Turned n.right m o)
    → IfOk r (λ o. Steps n (step.Turn Right) o (record n { right = m }))
turn_right n m (Err e) f = tt
turn_right n m (Ok o) f = λ l h w.
    let t = f l.right h.right w.1 in
    (record l { right = B.fed t.0 }, (record { own = B.fed t.0; other = l.left }, (t.0, t.1, refl), refl), record { left = h.left; right = t.2; past = h.past })

-- ---- sayings

pub may_be_recorded : (x : B.Node) (msg : Message) → IsInRange bare msg → B.MayBeRecorded x msg
may_be_recorded x msg range may =
    let e = x.half.end in
    let tests = unsaid_none (is_none e.context || is_some (standing x.half.feed)) (nat_le high_water (length x.half.outbox)) (is_own_made msg)
    (tells_pieces e msg && is_none e.own.pieces) may.0 in
    record { in_range = belief_range e msg tests.1 range; legal = may.1; start = omega arith }

abbrev pub Said : Node → Node → Message → Outcome → Type 0
Said n m msg o = (x : B.Node) → IsNodeOf n x → B.MayBeRecorded x msg → (y : B.Node) × B.SayGives x msg o y × IsNodeOf m y

pub say_left : (n : Link) (m : Node) (msg : Message) (r : Result Outcome Memory) → IsInRange bare msg → IfOk r (λ o. Said n.left m msg o)
    → IfOk r (λ o. Goes n (step.Say Left msg) o (record n { left = m }))
say_left n m msg (Err e) range f = tt
say_left n m msg (Ok o) range f = λ l h.
    let t = f l.left h.left (may_be_recorded l.left msg range) in
    (record l { left = t.0 }, (record { own = t.0; other = l.right }, (t.1, refl), refl), record { left = t.2; right = h.right; past = h.past })

pub say_right : (n : Link) (m : Node) (msg : Message) (r : Result Outcome Memory) → IsInRange bare msg → IfOk r (λ o. Said n.right m msg o)
    → IfOk r (λ o. Goes n (step.Say Right msg) o (record n { right = m }))
say_right n m msg (Err e) range f = tt
say_right n m msg (Ok o) range f = λ l h.
    let t = f l.right h.right (may_be_recorded l.right msg range) in
    (record l { right = t.0 }, (record { own = t.0; other = l.left }, (t.1, refl), refl), record { left = h.left; right = t.2; past = h.past })

-- ---- deliveries

abbrev pub Delivered : Node → Node → ℕ → ℕ → Node → Node → Type 0
Delivered n other count k m later = (p : B.Pair) → IsNodeOf n p.own → IsNodeOf other p.other → (k ≡ min count (length p.other.half.outbox))
    × IsNodeOf m (B.delivers p k).own × IsNodeOf later (B.delivers p k).other

pub deliver_left : (n : Link) (m later : Node) (count k : ℕ) → Delivered n.left n.right count k m later
    → Goes n (step.Deliver Left count) (outcome.Delivered k) (record n { left = m; right = later })
deliver_left n m later count k f = λ l h.
    let p : B.Pair = record { own = l.left; other = l.right } in
    let t = f p h.left h.right in (
      record l { left = (B.delivers p k).own; right = (B.delivers p k).other },
      (B.delivers p k, (ap outcome.Delivered t.0, ap (λ (j : ℕ). B.delivers p j) t.0), refl),
      record { left = t.1; right = t.2; past = h.past },
    )

pub deliver_right : (n : Link) (m later : Node) (count k : ℕ) → Delivered n.right n.left count k m later
    → Goes n (step.Deliver Right count) (outcome.Delivered k) (record n { left = later; right = m })
deliver_right n m later count k f = λ l h.
    let p : B.Pair = record { own = l.right; other = l.left } in
    let t = f p h.right h.left in (
      record l { left = (B.delivers p k).other; right = (B.delivers p k).own },
      (B.delivers p k, (ap outcome.Delivered t.0, ap (λ (j : ℕ). B.delivers p j) t.0), refl),
      record { left = t.2; right = t.1; past = h.past },
    )

-- ---- connections

pub both : {X : Type 0} (a b c d : X) → a ≡ c → b ≡ d → a ∷ b ∷ [] ≡ c ∷ d ∷ []
both {X} a b c d e f = ap (λ (x : X). x ∷ b ∷ []) e ∙ ap (λ (x : X). c ∷ x ∷ []) f

pub connections_more : (cs : List Connection) (ds : List M.Connection) (c : Connection) (d : M.Connection) → AreConnectionsOf cs ds → IsConnectionOf c d
    → AreConnectionsOf (cs ++ c ∷ []) (ds ++ d ∷ [])
connections_more [] [] c d h k = (k, tt)
connections_more [] (e ∷ ds) c d h k = absurd h
connections_more (b ∷ cs) [] c d h k = absurd h
connections_more (b ∷ cs) (e ∷ ds) c d h k = (h.0, connections_more cs ds c d h.1 k)

-- ---- one step more

steps_more : (l : B.Link) (ss : List Step) (os : List Outcome) (k : B.Link) (s : Step) (o : Outcome) (next : B.Link) → B.AreSteps l ss os k
    → B.IsStep k s o next → B.AreSteps l (ss ++ s ∷ []) (os ++ o ∷ []) next
steps_more l [] [] k s o next h step = (next, subst (λ (x : B.Link). B.IsStep x s o next) h step, refl)
steps_more l [] (p ∷ os) k s o next h step = absurd h
steps_more l (t ∷ ss) [] k s o next h step = absurd h
steps_more l (t ∷ ss) (p ∷ os) k s o next h step = (h.0, h.1, steps_more h.0 ss os k s o next h.2 step)

-- ---- counts

-- at most n items were handled at either end
abbrev IsHandled : ℕ → B.Link → Type 0
IsHandled n l = (length l.left.handled ≤ n) × (length l.right.handled ≤ n)

turn_counts : (x y : B.Node) (o : Outcome) → B.TurnGives x o y → length y.handled ≤ length x.handled + 1
turn_counts x y outcome.Handled h = omega (arith, ap (λ (z : B.Node). length z.handled) h.2, length-append x.handled (h.0 ∷ []))
turn_counts x y outcome.Idle h = omega (arith, ap (λ (z : B.Node). length z.handled) h.1)
turn_counts x y outcome.Busy h = omega (arith, ap (λ (z : B.Node). length z.handled) h.1)
turn_counts x y (outcome.Refused r) h = omega (arith, ap (λ (z : B.Node). length z.handled) h.1)
turn_counts x y outcome.Said h = absurd h
turn_counts x y (outcome.NotSaid e) h = absurd h
turn_counts x y (outcome.Delivered n) h = absurd h
turn_counts x y outcome.Reset h = absurd h

say_rests : (x y : B.Node) (msg : Message) (o : Outcome) → B.SayGives x msg o y → y.handled ≡ x.handled
say_rests x y msg outcome.Said h = ap (λ (z : B.Node). z.handled) h.1
say_rests x y msg (outcome.NotSaid say_error.NotOpen) h = ap (λ (z : B.Node). z.handled) h.1
say_rests x y msg (outcome.NotSaid say_error.Busy) h = ap (λ (z : B.Node). z.handled) h.1
say_rests x y msg (outcome.NotSaid say_error.Extended) h = ap (λ (z : B.Node). z.handled) h.1
say_rests x y msg (outcome.NotSaid say_error.PiecesUnknown) h = ap (λ (z : B.Node). z.handled) h.1
say_rests x y msg (outcome.NotSaid (say_error.Illegal f)) h = ap (λ (z : B.Node). z.handled) h.1
say_rests x y msg (outcome.NotSaid say_error.Memory) h = absurd h
say_rests x y msg outcome.Handled h = absurd h
say_rests x y msg outcome.Idle h = absurd h
say_rests x y msg outcome.Busy h = absurd h
say_rests x y msg (outcome.Refused r) h = absurd h
say_rests x y msg (outcome.Delivered n) h = absurd h
say_rests x y msg outcome.Reset h = absurd h

-- a step of one side
side_counts : (s : Side) (l : B.Link) (q : B.Pair) (n : ℕ) → IsHandled n l → length q.own.handled ≤ length (B.seen_from s l).own.handled + 1
    → q.other.handled ≡ (B.seen_from s l).other.handled → IsHandled (n + 1) (B.with_pair s l q)
side_counts Left l q n h g r = (omega (arith, h.0, g), omega (arith, h.1, ap (length {A = Item}) r))
side_counts Right l q n h g r = (omega (arith, h.0, ap (length {A = Item}) r), omega (arith, h.1, g))

step_counts : (l k : B.Link) (s : Step) (o : Outcome) (n : ℕ) → B.IsStep l s o k → IsHandled n l → IsHandled (n + 1) k
step_counts l k (step.Turn s) o n is h =
    let p : B.Pair = B.seen_from s l in
    let g : length is.0.own.handled ≤ length p.own.handled + 1 =
    omega (arith, turn_counts p.own is.1.0 o is.1.1, ap (λ (q : B.Pair). length q.own.handled) is.1.2) in
    subst (λ (x : B.Link). IsHandled (n + 1) x) (sym is.2) (side_counts s l is.0 n h g (ap (λ (q : B.Pair). q.other.handled) is.1.2))
step_counts l k (step.Say s msg) o n is h =
    let p : B.Pair = B.seen_from s l in
    let g : length is.0.own.handled ≤ length p.own.handled + 1 = omega (arith, ap (length {A = Item}) (say_rests p.own is.0.own msg o is.1.0)) in
    subst (λ (x : B.Link). IsHandled (n + 1) x) (sym is.2) (side_counts s l is.0 n h g (ap (λ (x : B.Node). x.handled) is.1.1))
step_counts l k (step.Deliver s m) o n is h =
    let p : B.Pair = B.seen_from s l in
    let g : length is.0.own.handled ≤ length p.own.handled + 1 = omega (arith, ap (λ (q : B.Pair). length q.own.handled) is.1.1) in
    subst (λ (x : B.Link). IsHandled (n + 1) x) (sym is.2) (side_counts s l is.0 n h g (ap (λ (q : B.Pair). q.other.handled) is.1.1))
step_counts l k step.Reset o n is h = subst (λ (x : B.Link). IsHandled (n + 1) x) (sym is.1) (omega arith, omega arith)

steps_count : (l k : B.Link) (ss : List Step) (os : List Outcome) (n : ℕ) → B.AreSteps l ss os k → IsHandled n l → IsHandled (n + length ss) k
steps_count l k [] [] n is h = subst (λ (x : B.Link). IsHandled (n + 0) x) (sym is) (omega (arith, h.0), omega (arith, h.1))
steps_count l k [] (o ∷ os) n is h = absurd is
steps_count l k (s ∷ ss) [] n is h = absurd is
steps_count l k (s ∷ ss) (o ∷ os) n is h =
    let more : IsHandled (n + 1 + length ss) k = steps_count is.0 k ss os (n + 1) is.2 (step_counts l is.0 s o n is.1 h) in
    (omega (arith, more.0), omega (arith, more.1))

-- ---- a list at a place

take_more : (i : ℕ) (ss : List Step) (s : Step) → i < length ss → s ≡ get_or ss i s → take (i + 1) ss ≡ take i ss ++ s ∷ []
take_more i ss s lt e = rw (add-one i) (take-suc ss i s lt ∙ ap (λ (x : Step). take i ss ++ x ∷ []) (sym e))

written_more : (ss : List Step) (s : Step) → AreWritten ss → IsWritten s → AreWritten (ss ++ s ∷ [])
written_more [] s h is = (is, tt)
written_more (t ∷ ss) s h is = (h.0, written_more ss s h.1 is)

pub written_at : (i : ℕ) (ss : List Step) (s : Step) → i < length ss → s ≡ get_or ss i s → AreWritten (take i ss) → IsWritten s → AreWritten (take (i + 1) ss)
written_at i ss s lt here so_far is = subst (λ (x : List Step). AreWritten x) (sym (take_more i ss s lt here)) (written_more (take i ss) s so_far is)

-- a step of a list, and the ones before it
pub record IsPlace (i : ℕ) (ss : List Step) (s : Step) : Type 0 where
  pub within : i < length ss
  pub few : length ss ≤ most_steps
  pub here : s ≡ get_or ss i s
  pub written : AreWritten (take i ss)

-- the steps lead from the first link to n
abbrev pub LeadTo : Link → List Step → List Outcome → Link → Type 0
LeadTo first ss os n = (a b : EndState) → AreNew a b → IsLinkOf first (B.link_of a b) → (k : B.Link) × B.AreSteps (B.link_of a b) ss os k × IsLinkOf n k

-- the step leads from n to m
abbrev pub Leads : Link → Step → Outcome → Link → Type 0
Leads n s o m = (l : B.Link) → IsLinkOf n l → EachMayHandle l → (k : B.Link) × B.IsStep l s o k × IsLinkOf m k

-- what is done so far, and the next step
pub done_at : {i : ℕ} {ss : List Step} {s : Step} {first n m : Link} (os : List Outcome) {new : List Outcome} (o : Outcome) → IsPlace i ss s
    → new ≡ os ++ o ∷ []
    → LeadTo first (take i ss) os n → Leads n s o m → LeadTo first (take (i + 1) ss) new m
done_at {i} {ss} {s} {first} {n} {m} os {new} o at pushed so_far next a b news h =
    let d = so_far a b news h in
    let long : length (take i ss) ≤ most_steps = omega (arith, at.within, at.few, length-take-le i ss (omega (arith, at.within))) in
    let short : IsShortRun a b (take i ss) = record { left = news.left; right = news.right; matched = news.matched; written = at.written; few = long } in
    let queues = queued_may_be_sent a b (take i ss) os d.0 short d.1 in
    let counts : IsHandled (0 + length (take i ss)) d.0 = steps_count (B.link_of a b) d.0 (take i ss) os 0 d.1 (omega arith, omega arith) in
    let may : EachMayHandle d.0 = (
      record { queues = queues.0; count = omega (arith, counts.0, long) },
      record { queues = queues.1; count = omega (arith, counts.1, long) },
    ) in
    let t = next d.0 d.2 may in
    let more = steps_more (B.link_of a b) (take i ss) os d.0 s o t.0 d.1 t.1 in (
      t.0,
      subst (λ (x : List Step). B.AreSteps (B.link_of a b) x new t.0) (sym (take_more i ss s at.within at.here))
          (subst (λ (x : List Outcome). B.AreSteps (B.link_of a b) (take i ss ++ s ∷ []) x t.0) (sym pushed) more),
      t.2,
    )
