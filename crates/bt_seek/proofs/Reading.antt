-- What the parts of a datagram say, and the question of a datagram that is sent.
use Rattle.std.proofs.Common.{◌≡◌, ℕ, ◌+◌, ◌≤◌, List, [], ◌∷◌, ◌++◌, Option, Some, None, true, refl, ap, sym, subst, ◌∙◌, length, take, drop, append_assoc, arith}
use Rattle.std.proofs.lemmas.Grind.{flat_map-append}
use Rattle.std.proofs.lemmas.List.{append-nil, drop-take, length-take-le, take-append-drop, take-take}
use Rattle.std.specs.List.{flat_map}
use Rattle.bt_address.specs.Compact.{compact_of}
use Rattle.bt_dht.specs.declared.node.Node.{Node}
use Rattle.std.specs.declared.net.socket_addr.SocketAddr.{SocketAddr}
use Rattle.bt_bencode.specs.Trees.{Tree, dictionary}
use Rattle.bt_bencode.specs.OneSpelling.{one_spelled}
use Rattle.bt_bencode.specs.Views.{tree_of}
use Rattle.bt_bencode.specs.declared.tree.Value.{Value}
use Rattle.bt_tracker.specs.Udp.{IsAnswer}
use Rattle.bt_tracker.specs.declared.udp.UdpAnswer.{UdpAnswer}
use Rattle.bt_tracker.specs.declared.udp.UdpAnswer.TheVariants as udp
use Rattle.bt_dht.specs.Datagrams.{IsReadAs}
use Rattle.bt_dht.specs.Messages.{IsBody, answer_in, failure_in, told, told_failure, transaction_of}
use Rattle.bt_dht.specs.declared.answer.Body.{Body}
use Rattle.bt_dht.specs.declared.answer.Body.TheVariants as body
use Rattle.bt_dht.specs.declared.answer.Message.{Message}
use Rattle.bt_seek.specs.Answers.{AreIn, info_of, IsMessage, IsNodeRead, IsNodes, IsTrackers, Reply, family_of}
use Rattle.bt_seek.specs.Courses.{Saying, Values, Failure}
use Rattle.bt_seek.specs.Courses.{Course}
use Rattle.bt_seek.specs.Names.{Names}
use Rattle.bt_seek.specs.Questions.{IsAsking, datagram_by, is_known, kind_by}
use Rattle.bt_seek.specs.Replies.{IsBodySaid, IsMessageOf, IsSaidBy}
use Rattle.bt_seek.specs.declared.question.Kind.{Kind}
use Rattle.bt_seek.specs.declared.search.Ask.{Ask}
use Rattle.bt_seek.specs.declared.search.Ask.TheVariants as ask

-- ---- trackers

pub trackers_said : (from : SocketAddr) (id bytes : List ℕ) (a : UdpAnswer) (s : Saying) → IsAnswer id a bytes → IsSaidBy from a s → IsTrackers from bytes s
trackers_said from id bytes (udp.Connected c) s h e = subst (λ (x : Saying). IsTrackers from bytes x) (sym e) (h.0, h.2)
trackers_said from id bytes (udp.Announced interval leechers seeders peers) s h e =
    subst (λ (x : Saying). IsTrackers from bytes x) (sym e.2) (h.0, subst (λ (b : List ℕ). AreIn (family_of from) b e.0) h.5 e.1)
trackers_said from id bytes (udp.Error text) s h e = subst (λ (x : Saying). IsTrackers from bytes x) (sym e) h.0

-- ---- nodes

nodes_said : (t : Tree) (b : Body) (s : Saying) → IsBody t b → IsBodySaid b (Some s) → IsNodes t s
nodes_said t (body.Answer a) s h e =
    let same : s ≡ Values e.0 e.1 = cc (e.4) in
    subst (λ (x : Saying). IsNodes t x) (sym same) (told a, h, e.2, e.3)
nodes_said t (body.Error f) s h e =
    let same : s ≡ Failure = cc (e) in
    subst (λ (x : Saying). IsNodes t x) (sym same) (told_failure f, h)
nodes_said t body.Other s h e = absurd (cc (e))

none_said : (t : Tree) (b : Body) → IsBody t b → IsBodySaid b None → (answer_in t ≡ None) × (failure_in t ≡ None)
none_said t (body.Answer a) h e = absurd (cc (e.4))
none_said t (body.Error f) h e = absurd (cc (e))
none_said t body.Other h e = h

pub message_said : (t : Tree) (m : Message) (r : Option Reply) → Some m.transaction.now ≡ transaction_of t → IsBody t m.body → IsMessageOf m r → IsMessage t r
message_said t m (Some r) e h s = (sym e ∙ ap Some (sym s.0), s.1, nodes_said t m.body r.saying h s.2)
message_said t m None e h s = λ id f four.
    let same : m.transaction.now ≡ id = cc (e, f) in
    none_said t m.body h (s (subst (λ (x : List ℕ). length x ≡ 4) (sym same) four))

pub no_message : (t : Tree) → None ≡ transaction_of t → IsMessage t None
no_message t e = λ id f four. absurd (cc (e, f))

pub node_read : (bytes : List ℕ) (v : Value) (r : Option Reply) → IsReadAs bytes (Some v) → IsMessage (tree_of v) r → IsNodeRead bytes r
node_read bytes v (Some r) h m = (h.0, h.2, subst (λ (t : Tree). IsMessage t (Some r)) h.1 m)
node_read bytes v None h m = λ ps s.
    subst (λ (t : Tree). IsMessage t None) (h.1 ∙ ap dictionary (one_spelled bytes h.0 ps h.2 s)) m

-- ---- questions

pub asking : (names : Names) (c : Course) (to : SocketAddr) (a : Ask) (id bytes : List ℕ) (k : Kind) → k ≡ kind_by a → is_known names c to a ≡ true → bytes ≡ datagram_by names.ids a id → IsAsking names c to k id bytes
asking names c to ask.Connect id bytes k e h b = subst (λ (x : Kind). IsAsking names c to x id bytes) (sym e) (h, b)
asking names c to (ask.Announce x) id bytes k e h b = subst (λ (y : Kind). IsAsking names c to y id bytes) (sym e) (x, h, b)
asking names c to (ask.Stop x) id bytes k e h b = subst (λ (y : Kind). IsAsking names c to y id bytes) (sym e) (x, h, b)
asking names c to ask.Nodes id bytes k e h b = subst (λ (x : Kind). IsAsking names c to x id bytes) (sym e) (h, b)

-- ---- nodes of an answer

two_parts : (m n : ℕ) (xs : List ℕ) → take m xs ++ take n (drop m xs) ≡ take (m + n) xs
two_parts m n xs =
    ap (λ y. y ++ take n (drop m xs)) (sym (take-take m (m + n) xs (omega arith)))
    ∙ ap (λ y. take m (take (m + n) xs) ++ y) (sym (drop-take m n xs)) ∙ take-append-drop m (take (m + n) xs)

three_parts : (m n : ℕ) (xs : List ℕ) → (take m xs ++ take n (drop m xs)) ++ drop (m + n) xs ≡ xs
three_parts m n xs = ap (λ y. y ++ drop (m + n) xs) (two_parts m n xs) ∙ take-append-drop (m + n) xs

pub infos_more : (size : ℕ) (nodes : List Node) (n : Node) (rest more infos : List ℕ) → flat_map info_of nodes ++ rest ≡ infos → n.id ≡ take 20 rest → compact_of n.address ≡ take size (drop 20 rest) → more ≡ drop (20 + size) rest → flat_map info_of (nodes ++ n ∷ []) ++ more ≡ infos
infos_more size nodes n rest more infos h i a m =
    let front : info_of n ≡ take 20 rest ++ take size (drop 20 rest) = ap (λ x. x ++ compact_of n.address) i ∙ ap (λ x. take 20 rest ++ x) a in
    let whole : info_of n ++ more ≡ rest =
    ap (λ x. x ++ more) front ∙ ap (λ x. (take 20 rest ++ take size (drop 20 rest)) ++ x) m ∙ three_parts 20 size rest in
    ap (λ x. x ++ more) (flat_map-append info_of nodes (n ∷ []))
    ∙ ap (λ x. (flat_map info_of nodes ++ x) ++ more) (append-nil (info_of n))
    ∙ append_assoc (flat_map info_of nodes) (info_of n) more ∙ ap (λ x. flat_map info_of nodes ++ x) whole ∙ h

pub id_whole : (size : ℕ) (id rest : List ℕ) → id ≡ take 20 rest → 20 + size ≤ length rest → length id ≡ 20
id_whole size id rest e l = ap length e ∙ length-take-le 20 rest (omega (arith, l))
