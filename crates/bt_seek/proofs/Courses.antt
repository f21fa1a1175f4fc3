-- A log has one course.
use Rattle.std.proofs.Common.{◌≡◌, ℕ, ◌<◌, ◌≤◌, ◌⊎◌, inl, inr, List, [], ◌∷◌, ◌++◌, Option, Some, None, Bool, true, false, refl, ap, sym, subst, ◌∙◌, get_or, length, arith}
use Rattle.std.specs.Prelude.{codes, if◌then◌else◌}
use Rattle.std.specs.Str.{bytes_eq}
use Rattle.std.specs.Option.{option_map_or}
use Rattle.std.proofs.lemmas.Slice.Eq.{bytes_eq-Decides}
use Rattle.std.specs.declared.net.socket_addr.SocketAddr.{SocketAddr}
use Rattle.httparse.proofs.GrammarLemmas.{response_unique}
use Rattle.bt_address.specs.Compact.{size_of}
use Rattle.bt_address.specs.declared.compact.Family.TheVariants as family
use Rattle.bt_bencode.specs.Trees.{Tree, Pairs, dictionary}
use Rattle.bt_bencode.specs.Bencoding.{BeginsWith, Spells}
use Rattle.bt_bencode.specs.OneSpelling.{one_spelled}
use Rattle.bt_bencode.proofs.LawProofs.{one_dictionary}
use Rattle.bt_tracker.specs.Udp.{field, number_at, has_form}
use Rattle.bt_tracker.specs.HttpAnswers.{IsBody, IsHttpAnswer, IsNoHttpAnswer, IsTold}
use Rattle.bt_tracker.specs.declared.answer.HttpAnswer.{HttpAnswer}
use Rattle.bt_tracker.specs.declared.answer.HttpAnswer.TheVariants as http
use Rattle.bt_tracker.specs.declared.answer.HttpError.{HttpError}
use Rattle.bt_tracker.specs.declared.answer.HttpError.TheVariants as error
use Rattle.bt_dht.specs.Messages.{Told, Failed as Failing, answer_in, failure_in, has_kind, peers_in, string_at, transaction_of}
use Rattle.bt_seek.specs.Answers.{AreIn, AreNodes, AreOf, ArePagePeers, AreToldBy, IsMessage, IsNodeRead, IsNodes, IsRead, IsTrackers, Reply, family_of, heard_by}
use Rattle.bt_seek.specs.Courses.{Course, Saying, Connection, Peers, Refusal, Values, Failure, answered, start}
use Rattle.bt_seek.specs.Laws.{HasOneCourse}
use Rattle.bt_seek.specs.Mails.{Mail, Sent, Asked, Stopped, Heard, Answered, Failed, Clock}
use Rattle.bt_seek.specs.Names.{Names}
use Rattle.bt_seek.specs.Runs.{IsRun, Step}
use Rattle.bt_seek.proofs.Items.{in_same, nodes_same, of_same}

-- ---- trackers

trackers_same : (from : SocketAddr) (bytes : List ℕ) (s t : Saying) → IsTrackers from bytes s → IsTrackers from bytes t → s ≡ t
trackers_same from bytes (Connection c) (Connection d) h k = ap Connection (h.1 ∙ sym k.1)
trackers_same from bytes (Connection c) (Peers ps) h k = absurd (omega (arith, h.0, k.0))
trackers_same from bytes (Connection c) Refusal h k = absurd (omega (arith, h.0, k))
trackers_same from bytes (Peers ps) (Connection d) h k = absurd (omega (arith, h.0, k.0))
trackers_same from bytes (Peers ps) (Peers qs) h k = ap Peers (in_same (family_of from) _ ps qs h.1 k.1)
trackers_same from bytes (Peers ps) Refusal h k = absurd (omega (arith, h.0, k))
trackers_same from bytes Refusal (Connection d) h k = absurd (omega (arith, h, k.0))
trackers_same from bytes Refusal (Peers qs) h k = absurd (omega (arith, h, k.0))
trackers_same from bytes Refusal Refusal h k = refl
trackers_same from bytes (Values ns ps) t h k = absurd h
trackers_same from bytes Failure t h k = absurd h
trackers_same from bytes (Connection c) (Values ns ps) h k = absurd k
trackers_same from bytes (Connection c) Failure h k = absurd k
trackers_same from bytes (Peers qs) (Values ns ps) h k = absurd k
trackers_same from bytes (Peers qs) Failure h k = absurd k
trackers_same from bytes Refusal (Values ns ps) h k = absurd k
trackers_same from bytes Refusal Failure h k = absurd k

-- ---- nodes

one_kind : (t : Option (List ℕ)) (a b : List ℕ) → option_map_or (λ s. bytes_eq s a) t false ≡ true → option_map_or (λ s. bytes_eq s b) t false ≡ true → a ≡ b
one_kind None a b h k = absurd (cc (h))
one_kind (Some s) a b h k = sym ((bytes_eq-Decides s a).0 h) ∙ (bytes_eq-Decides s b).0 k

if_true : {X : Type 0} (b : Bool) (x : Option X) (y : X) → (if b then x else None) ≡ Some y → b ≡ true
if_true true x y e = refl
if_true false x y e = absurd (cc (e))

apart : codes "r" ≡ codes "e" → ⊥
apart e = let head : 114 ≡ 101 = ap (λ (xs : List ℕ). get_or xs 0 0) e in omega (arith, head)

one_answer : (t : Tree) (a : Told) (f : Failing) → answer_in t ≡ Some a → failure_in t ≡ Some f → ⊥
one_answer t a f h k =
    apart (one_kind (string_at (codes "y") t) (codes "r") (codes "e") (if_true (has_kind (codes "r") t) _ a h) (if_true (has_kind (codes "e") t) _ f k))

said_same : (t : Tree) (x y : Saying) → IsNodes t x → IsNodes t y → x ≡ y
said_same t (Values ns ps) (Values ms qs) (a, h, n, p) (b, k, m, q) =
    let same : a ≡ b = cc (h, k) in
    let nodes = nodes_same b.nodes b.nodes6 ns ms (subst (λ (x : Told). AreNodes x.nodes x.nodes6 ns) same n) m in
    let peers = of_same (peers_in b.values) ps qs (subst (λ (x : Told). AreOf (peers_in x.values) ps) same p) q in
    (λ i. Values (nodes i) (peers i))
said_same t (Values ns ps) Failure (a, h, n, p) (f, k) = absurd (one_answer t a f h k)
said_same t Failure (Values ns ps) (f, k) (a, h, n, p) = absurd (one_answer t a f h k)
said_same t Failure Failure h k = refl
said_same t (Connection c) y h k = absurd h
said_same t (Peers ps) y h k = absurd h
said_same t Refusal y h k = absurd h
said_same t (Values ns ps) (Connection c) h k = absurd k
said_same t (Values ns ps) (Peers qs) h k = absurd k
said_same t (Values ns ps) Refusal h k = absurd k
said_same t Failure (Connection c) h k = absurd k
said_same t Failure (Peers qs) h k = absurd k
said_same t Failure Refusal h k = absurd k

message_same : (t : Tree) (a b : Reply) → IsMessage t (Some a) → IsMessage t (Some b) → a ≡ b
message_same t a b (i, four, s) (j, also, u) =
    let id : a.id ≡ b.id = cc (i, j) in
    let saying = said_same t a.saying b.saying s u in (λ k. record { id = id k; saying = saying k })

nothing_said : (t : Tree) (s : Saying) → IsNodes t s → answer_in t ≡ None → failure_in t ≡ None → ⊥
nothing_said t (Values ns ps) (x, e, n, p) a f = absurd (cc (e, a))
nothing_said t Failure (x, e) a f = absurd (cc (e, f))
nothing_said t (Connection c) h a f = h
nothing_said t (Peers ps) h a f = h
nothing_said t Refusal h a f = h

no_message : (t : Tree) (a : Reply) → IsMessage t (Some a) → IsMessage t None → ⊥
no_message t a (i, four, s) none = let n = none a.id i four in nothing_said t a.saying s n.0 n.1

node_read_same : (bytes : List ℕ) (a b : Reply) → IsNodeRead bytes (Some a) → IsNodeRead bytes (Some b) → a ≡ b
node_read_same bytes a b (ps, s, m) (qs, u, n) =
    message_same (dictionary qs) a b (subst (λ (x : Pairs). IsMessage (dictionary x) (Some a)) (one_spelled bytes ps qs s u) m) n

no_reply : (bytes : List ℕ) (a : Reply) → IsNodeRead bytes (Some a) → IsNodeRead bytes None → ⊥
no_reply bytes a (ps, s, m) none = no_message (dictionary ps) a m (none ps s)

-- ---- datagrams

clash : (b : Bool) → b ≡ true → b ≡ false → ⊥
clash b p q = absurd (cc (p, q))

read_same : (from : SocketAddr) (bytes : List ℕ) (r s : Option Reply) → IsRead from bytes r → IsRead from bytes s → r ≡ s
read_same from bytes None None h k = refl
read_same from bytes (Some a) (Some b) (inl (f, i, s)) (inl (g, j, u)) =
    let id = i ∙ sym j in
    let saying = trackers_same from bytes a.saying b.saying s u in (λ k. Some (record { id = id k; saying = saying k }))
read_same from bytes (Some a) (Some b) (inl (f, i, s)) (inr (g, u)) = absurd (clash (has_form bytes) f g)
read_same from bytes (Some a) (Some b) (inr (f, s)) (inl (g, j, u)) = absurd (clash (has_form bytes) g f)
read_same from bytes (Some a) (Some b) (inr (f, s)) (inr (g, u)) = ap Some (node_read_same bytes a b s u)
read_same from bytes (Some a) None (inl (f, i, s)) (g, u) = absurd (clash (has_form bytes) f g)
read_same from bytes (Some a) None (inr (f, s)) (g, u) = absurd (no_reply bytes a s u)
read_same from bytes None (Some b) (f, s) (inl (g, j, u)) = absurd (clash (has_form bytes) g f)
read_same from bytes None (Some b) (f, s) (inr (g, u)) = absurd (no_reply bytes b u s)

-- ---- pages

same_body : (answer b c : List ℕ) → IsBody answer b → IsBody answer c → b ≡ c
same_body answer b c (h, r, few, ok) (k, q, less, fine) = (response_unique answer h k b c r q).1

told_by_same : (ps : Pairs) (i j : HttpAnswer) (x y : List SocketAddr) → IsTold ps i → IsTold ps j → AreToldBy i x → AreToldBy j y → x ≡ y
told_by_same ps (http.Failure v) (http.Failure w) x y t u a z = a ∙ sym z
told_by_same ps (http.Failure v) (http.Peers v4 v6) x y t (m, f4, f6) a z = absurd (cc (t, m))
told_by_same ps (http.Peers v4 v6) (http.Failure w) x y (n, e4, e6) u a z = absurd (cc (n, u))
told_by_same ps (http.Peers v4 v6) (http.Peers w4 w6) x y (n, e4, e6) (m, f4, f6) (a, b, ia, ib, e) (c, d, ic, jd, f) =
    let four = in_same family.V4 w4.now a c (subst (λ (v : List ℕ). AreIn family.V4 v a) (e4 ∙ sym f4) ia) ic in
    let six = in_same family.V6 w6.now b d (subst (λ (v : List ℕ). AreIn family.V6 v b) (e6 ∙ sym f6) ib) jd in
    e ∙ ap (λ v. v ++ b) four ∙ ap (λ v. c ++ v) six ∙ sym f

told_same : (answer : List ℕ) (i j : HttpAnswer) (x y : List SocketAddr) → IsHttpAnswer answer i → IsHttpAnswer answer j → AreToldBy i x → AreToldBy j y → x ≡ y
told_same answer i j x y (b, ps, n, l, h, d, t) (c, qs, m, k, g, e, u) a z =
    let begins = subst (λ (v : List ℕ). BeginsWith v ps n) (same_body answer b c h g) d in
    let same = (one_dictionary c ps qs n m begins e).0 in
    told_by_same qs i j x y (subst (λ (v : Pairs). IsTold v i) same t) u a z

no_answer : (answer : List ℕ) (i : HttpAnswer) (e : HttpError) → IsHttpAnswer answer i → IsNoHttpAnswer answer e → ⊥
no_answer answer i error.Long (b, ps, n, l, h, d, t) k = absurd (omega (arith, l, k))
no_answer answer i error.Head (b, ps, n, l, (head, r, few, ok), d, t) k = k head b r few ok
no_answer answer i error.Body (b, ps, n, l, h, d, t) (c, g, none) =
    none ps n (subst (λ (v : List ℕ). BeginsWith v ps n) (same_body answer b c h g) d)

pages_same : (answer : List ℕ) (x y : List SocketAddr) → ArePagePeers answer x → ArePagePeers answer y → x ≡ y
pages_same answer x y (inl (i, h, a)) (inl (j, k, b)) = told_same answer i j x y h k a b
pages_same answer x y (inl (i, h, a)) (inr (e, k, b)) = absurd (no_answer answer i e h k)
pages_same answer x y (inr (e, h, a)) (inl (j, k, b)) = absurd (no_answer answer j e k h)
pages_same answer x y (inr (e, h, a)) (inr (f, k, b)) = a ∙ sym b

-- ---- runs

step_same : (n m : Names) (x : Mail) (c d e : Course) → Step n c x d → Step m c x e → d ≡ e
step_same n m (Sent to q bytes) c d e s t = s.2 ∙ sym t.2
step_same n m (Asked page bytes) c d e s t = s.2 ∙ sym t.2
step_same n m (Stopped page bytes) c d e s t = s.2 ∙ sym t.2
step_same n m (Heard from bytes) c d e (r, h, p) (s, k, q) =
    p ∙ ap (λ (z : Option Reply). heard_by from z c) (read_same from bytes r s h k) ∙ sym q
step_same n m (Answered page bytes) c d e (x, h, p) (y, k, q) =
    p ∙ ap (λ (z : List SocketAddr). answered page z c) (pages_same bytes x y h k) ∙ sym q
step_same n m (Failed page) c d e s t = s ∙ sym t
step_same n m (Clock now) c d e s t = s ∙ sym t

run_same : (n m : Names) (mails : List Mail) (b c d : Course) → IsRun n b mails c → IsRun m b mails d → c ≡ d
run_same n m [] b c d r q = r ∙ sym q
run_same n m (x ∷ mails) b c d (e, s, r) (f, t, q) =
    run_same n m mails f c d (subst (λ (z : Course). IsRun n z mails c) (step_same n m x b e f s t) r) q

pub one_course : HasOneCourse
one_course n m is_local mails c d r q = run_same n m mails (start is_local) c d r q
