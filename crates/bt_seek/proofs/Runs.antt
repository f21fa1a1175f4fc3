-- A run goes on by one mail, and is one of more names too.
use Rattle.std.proofs.Common.{◌≡◌, ℕ, List, [], ◌∷◌, ◌++◌, Option, Some, None, Bool, true, false, refl, ap, sym, subst, ◌∙◌}
use Rattle.std.specs.Prelude.{if◌then◌else◌, ◌||◌, slice_get}
use Rattle.std.specs.declared.net.socket_addr.SocketAddr.{SocketAddr}
use Rattle.bt_tracker.specs.declared.announce.Event.{Event}
use Rattle.bt_tracker.specs.declared.announce.Event.TheVariants as event
use Rattle.bt_seek.specs.declared.question.Kind.{Kind}
use Rattle.bt_seek.specs.declared.question.Kind.TheVariants as kind
use Rattle.bt_seek.specs.declared.search.Ids.{Ids}
use Rattle.bt_seek.specs.Addresses.{has}
use Rattle.bt_seek.specs.Mails.{Mail, Sent, Asked, Stopped, Heard, Answered, Failed, Clock, added}
use Rattle.bt_seek.specs.Courses.{Course, start, closed, counts, page_closed, is_page_open}
use Rattle.bt_seek.specs.Answers.{Reply, heard_by}
use Rattle.bt_seek.specs.Names.{Names, Site}
use Rattle.bt_seek.specs.Questions.{IsAsking, IsPageAsked}
use Rattle.bt_seek.specs.Runs.{Step, IsTaken, IsRun, IsTold}

if_local : (b : Bool) (x y : Course) → x.is_local ≡ y.is_local → (if b then x else y).is_local ≡ y.is_local
if_local true x y e = e
if_local false x y e = refl

heard_local : (reply : Option Reply) (from : _) (c : Course) → (heard_by from reply c).is_local ≡ c.is_local
heard_local None from c = refl
heard_local (Some r) from c = if_local (counts from r.id r.saying c) (closed from r.saying c) c refl

-- what may be named stays as it is
step_local : (names : Names) (m : Mail) (c d : Course) → Step names c m d → d.is_local ≡ c.is_local
step_local names (Sent to q bytes) c d s = ap (λ (x : Course). x.is_local) s.2
step_local names (Asked page bytes) c d s = ap (λ (x : Course). x.is_local) s.2
step_local names (Stopped page bytes) c d s = ap (λ (x : Course). x.is_local) s.2
step_local names (Heard from bytes) c d s = ap (λ (x : Course). x.is_local) s.2 ∙ heard_local s.0 from c
step_local names (Answered page bytes) c d s =
    ap (λ (x : Course). x.is_local) s.2 ∙ if_local (is_page_open page c) (page_closed page s.0 c) c refl
step_local names (Failed page) c d s = ap (λ (x : Course). x.is_local) s ∙ if_local (is_page_open page c) (page_closed page [] c) c refl
step_local names (Clock now) c d s = ap (λ (x : Course). x.is_local) s

run_more : (names : Names) (mails : List Mail) (b c d : Course) (m : Mail) → IsRun names b mails c → Step names c m d → IsRun names b (mails ++ m ∷ []) d
run_more names [] b c d m h s = (d, subst (λ (x : Course). Step names x m d) h s, refl)
run_more names (x ∷ mails) b c d m h s = (h.0, h.1, run_more names mails h.0 c d m h.2 s)

told_more : (log : Option (List Mail)) (names : Names) (c d : Course) (m : Mail) → IsTold log names c → Step names c m d → IsTold (added log m) names d
told_more None names c d m h s = tt
told_more (Some mails) names c d m h s =
    subst (λ (b : Bool). IsRun names (start b) (mails ++ m ∷ []) d) (sym (step_local names m c d s)) (run_more names mails (start c.is_local) c d m h s)

pub told_step : (log new : Option (List Mail)) (names : Names) (c d : Course) (m : Mail) → new ≡ added log m → Step names c m d → IsTold log names c → IsTold new names d
told_step log new names c d m e s h = subst (λ (l : Option (List Mail)). IsTold l names d) (sym e) (told_more log names c d m h s)

pub taken_step : (names : Names) (m : Mail) (c d : Course) → IsTaken c m d → Step names c m d
taken_step names (Sent to q bytes) c d s = absurd s
taken_step names (Asked page bytes) c d s = absurd s
taken_step names (Stopped page bytes) c d s = absurd s
taken_step names (Heard from bytes) c d s = s
taken_step names (Answered page bytes) c d s = s
taken_step names (Failed page) c d s = s
taken_step names (Clock now) c d s = s

-- ---- more names

pub record IsMore (n m : Names) : Type 0 where
  pub ids : m.ids ≡ n.ids
  pub trackers : (a : SocketAddr) → has n.trackers a ≡ true → has m.trackers a ≡ true
  pub nodes : (a : SocketAddr) → has n.nodes a ≡ true → has m.nodes a ≡ true
  pub pages : (page : ℕ) (s : Site) → slice_get n.pages page ≡ Some s → slice_get m.pages page ≡ Some s

either : (a b c : Bool) → (a ≡ true → b ≡ true) → (a || c) ≡ true → (b || c) ≡ true
either a true c h e = refl
either false false c h e = e
either true false c h e = absurd (cc (h refl))

asking_more : (n m : Names) (c : Course) (to : SocketAddr) (k : Kind) (id bytes : List ℕ) → IsMore n m → IsAsking n c to k id bytes → IsAsking m c to k id bytes
asking_more n m c to kind.Connect id bytes h s = (h.trackers to s.0, s.1)
asking_more n m c to kind.Announce id bytes h s =
    subst (λ (i : Ids). IsAsking (record n { ids = i }) c to kind.Announce id bytes) (sym h.ids) s
asking_more n m c to kind.Stop id bytes h s =
    subst (λ (i : Ids). IsAsking (record n { ids = i }) c to kind.Stop id bytes) (sym h.ids) s
asking_more n m c to kind.Nodes id bytes h s =
    let t = subst (λ (i : Ids). IsAsking (record n { ids = i }) c to kind.Nodes id bytes) (sym h.ids) s in
    (either (has n.nodes to) (has m.nodes to) (has c.nodes to) (h.nodes to) t.0, t.1)

page_more : (n m : Names) (e : Event) (page : ℕ) (bytes : List ℕ) → IsMore n m → IsPageAsked n e page bytes → IsPageAsked m e page bytes
page_more n m e page bytes h s =
    let t = subst (λ (i : Ids). IsPageAsked (record n { ids = i }) e page bytes) (sym h.ids) s in
    (t.0, h.pages page t.0 t.1, t.2)

step_names : (n m : Names) (x : Mail) (c d : Course) → IsMore n m → Step n c x d → Step m c x d
step_names n m (Sent to q bytes) c d h s = (asking_more n m c to q.kind q.id bytes h s.0, s.1, s.2)
step_names n m (Asked page bytes) c d h s = (s.0, page_more n m event.Started page bytes h s.1, s.2)
step_names n m (Stopped page bytes) c d h s = (s.0, page_more n m event.Stopped page bytes h s.1, s.2)
step_names n m (Heard from bytes) c d h s = s
step_names n m (Answered page bytes) c d h s = s
step_names n m (Failed page) c d h s = s
step_names n m (Clock now) c d h s = s

run_names : (n m : Names) (mails : List Mail) (b c : Course) → IsMore n m → IsRun n b mails c → IsRun m b mails c
run_names n m [] b c h r = r
run_names n m (x ∷ mails) b c h r = (r.0, step_names n m x b r.0 h r.1, run_names n m mails r.0 c h r.2)

pub told_names : (log : Option (List Mail)) (n m : Names) (c : Course) → IsMore n m → IsTold log n c → IsTold log m c
told_names None n m c h t = t
told_names (Some mails) n m c h t = run_names n m mails (start c.is_local) c h t
