-- What runs keep.
use Rattle.std.proofs.Common.{◌≡◌, ℕ, ◌+◌, ◌≤◌, ◌<◌, List, [], ◌∷◌, ◌++◌, Option, Some, None, Bool, true, false, not, refl, ap, sym, subst, ◌∙◌, arith, length, count_by, length-append, append_assoc, nat_lt}
use Rattle.std.specs.Prelude.{if◌then◌else◌, ◌==◌}
use Rattle.std.specs.List.{list_any}
use Rattle.std.specs.declared.net.socket_addr.SocketAddr.{SocketAddr}
use Rattle.std.specs.declared.net.socket_addr.SocketAddr.TheVariants.{V4, V6}
use Rattle.std.specs.Net.Addr.{ipv4_octets, ipv6_octets}
use Rattle.std.specs.Net.Socket.{v4_ip, v4_port, v6_ip, v6_port}
use Rattle.std.specs.Prelude.{cond}
use Rattle.std.specs.Str.{bytes_eq}
use Rattle.std.proofs.lemmas.Bool.{and_parts, eqb-true, ltb-true}
use Rattle.std.proofs.lemmas.List.{append-nil}
use Rattle.std.proofs.lemmas.List.Sums.{sum_by-append}
use Rattle.std.proofs.lemmas.Slice.Eq.{bytes_eq-Decides}
use Rattle.bt_seek.specs.declared.question.Kind.{Kind}
use Rattle.bt_seek.specs.declared.question.Kind.TheVariants as kind
use Rattle.bt_seek.specs.declared.question.Question.{Question}
use Rattle.bt_address.specs.Takeable.{is_takeable}
use Rattle.bt_seek.specs.Addresses.{found_in, is_new_peer, is_same, is_same_ip, with_peer}
use Rattle.bt_seek.specs.Mails.{Mail, Sent, Asked, Stopped, Heard, Answered, Failed, Clock}
use Rattle.bt_seek.specs.Courses.{Course, start, closed, counts, peers_told, answered, page_closed, is_page_open, may_send, most_to, with_sent}
use Rattle.bt_seek.specs.Answers.{Reply, heard_by}
use Rattle.bt_seek.specs.Laws.{FindsFew, Grows, IsSparing, Spares}
use Rattle.bt_seek.specs.Names.{Names}
use Rattle.bt_seek.specs.Runs.{Step, IsRun}

-- ---- peers

few_if : (t : Bool) (peers : List SocketAddr) (a : SocketAddr) → (t ≡ true → length peers < 200) → length peers ≤ 200 → length (if t then peers ++ a ∷ [] else peers) ≤ 200
few_if true peers a h m = let l = h refl in omega (arith, l, length-append peers (a ∷ []))
few_if false peers a h m = m

new_is_few : (b : Bool) (peers : List SocketAddr) (a : SocketAddr) → is_new_peer b peers a ≡ true → length peers < 200
new_is_few b peers a e =
    let takes = and_parts (is_takeable b a) _ e in
    let fresh = and_parts (not (list_any (λ x. is_same a x) peers)) _ takes.1 in
    let room = and_parts (nat_lt (length peers) 200) (nat_lt (count_by (λ x. is_same_ip a x) peers) 4) fresh.1 in
    ltb-true (length peers) 200 room.0

found_few : (b : Bool) (told peers : List SocketAddr) → length peers ≤ 200 → length (found_in b peers told) ≤ 200
found_few b [] peers m = m
found_few b (a ∷ told) peers m = found_few b told (with_peer b peers a) (few_if (is_new_peer b peers a) peers a (new_is_few b peers a) m)

cond_few : (t : Bool) (x y : Course) → length x.peers ≤ 200 → length y.peers ≤ 200 → length ((if t then x else y).peers) ≤ 200
cond_few true x y hx hy = hx
cond_few false x y hx hy = hy

heard_few : (reply : Option Reply) (from : SocketAddr) (c : Course) → length c.peers ≤ 200 → length (heard_by from reply c).peers ≤ 200
heard_few None from c m = m
heard_few (Some r) from c m =
    cond_few (counts from r.id r.saying c) (closed from r.saying c) c (found_few c.is_local (peers_told r.saying) c.peers m) m

page_few : (page : ℕ) (told : List SocketAddr) (c : Course) → length c.peers ≤ 200 → length (answered page told c).peers ≤ 200
page_few page told c m = cond_few (is_page_open page c) (page_closed page told c) c (found_few c.is_local told c.peers m) m

few_at : (c d : Course) → d ≡ c → length c.peers ≤ 200 → length d.peers ≤ 200
few_at c d e m = subst (λ (x : Course). length x.peers ≤ 200) (sym e) m

step_few : (names : Names) (mail : Mail) (c d : Course) → Step names c mail d → length c.peers ≤ 200 → length d.peers ≤ 200
step_few names (Sent to q bytes) c d s m = few_at _ d s.2 m
step_few names (Asked page bytes) c d s m = few_at _ d s.2 m
step_few names (Stopped page bytes) c d s m = few_at _ d s.2 m
step_few names (Heard from bytes) c d s m = few_at _ d s.2 (heard_few s.0 from c m)
step_few names (Answered page bytes) c d s m = few_at _ d s.2 (page_few page s.0 c m)
step_few names (Failed page) c d s m = few_at _ d s (page_few page [] c m)
step_few names (Clock now) c d s m = few_at _ d s m

run_few : (names : Names) (mails : List Mail) (b c : Course) → IsRun names b mails c → length b.peers ≤ 200 → length c.peers ≤ 200
run_few names [] b c r m = few_at b c r m
run_few names (mail ∷ mails) b c r m = run_few names mails r.0 c r.2 (step_few names mail b r.0 r.1 m)

pub few : FindsFew
few names is_local mails c r = run_few names mails (start is_local) c r (omega arith)

-- ---- growth

pub record IsMore (b c : List SocketAddr) : Type 0 where
  pub rest : List SocketAddr
  pub is : c ≡ b ++ rest

same_more : (b : List SocketAddr) → IsMore b b
same_more b = record { rest = []; is = sym (append-nil b) }

more_more : (a b c : List SocketAddr) → IsMore a b → IsMore b c → IsMore a c
more_more a b c h k = record { rest = h.rest ++ k.rest; is = k.is ∙ ap (λ x. x ++ k.rest) h.is ∙ append_assoc a h.rest k.rest }

more_if : (t : Bool) (peers : List SocketAddr) (a : SocketAddr) → IsMore peers (if t then peers ++ a ∷ [] else peers)
more_if true peers a = record { rest = a ∷ []; is = refl }
more_if false peers a = same_more peers

found_more : (b : Bool) (told peers : List SocketAddr) → IsMore peers (found_in b peers told)
found_more b [] peers = same_more peers
found_more b (a ∷ told) peers = more_more _ _ _ (more_if (is_new_peer b peers a) peers a) (found_more b told (with_peer b peers a))

cond_more : (t : Bool) (x y : Course) → IsMore y.peers x.peers → IsMore y.peers (if t then x else y).peers
cond_more true x y h = h
cond_more false x y h = same_more y.peers

heard_more : (reply : Option Reply) (from : SocketAddr) (c : Course) → IsMore c.peers (heard_by from reply c).peers
heard_more None from c = same_more c.peers
heard_more (Some r) from c =
    cond_more (counts from r.id r.saying c) (closed from r.saying c) c (found_more c.is_local (peers_told r.saying) c.peers)

page_more : (page : ℕ) (told : List SocketAddr) (c : Course) → IsMore c.peers (answered page told c).peers
page_more page told c = cond_more (is_page_open page c) (page_closed page told c) c (found_more c.is_local told c.peers)

more_at : (b c d : Course) → d ≡ c → IsMore b.peers c.peers → IsMore b.peers d.peers
more_at b c d e h = subst (λ (x : Course). IsMore b.peers x.peers) (sym e) h

step_more : (names : Names) (mail : Mail) (c d : Course) → Step names c mail d → IsMore c.peers d.peers
step_more names (Sent to q bytes) c d s = more_at c (with_sent to q c) d s.2 (same_more c.peers)
step_more names (Asked page bytes) c d s = more_at c _ d s.2 (same_more c.peers)
step_more names (Stopped page bytes) c d s = more_at c c d s.2 (same_more c.peers)
step_more names (Heard from bytes) c d s = more_at c _ d s.2 (heard_more s.0 from c)
step_more names (Answered page bytes) c d s = more_at c _ d s.2 (page_more page s.0 c)
step_more names (Failed page) c d s = more_at c _ d s (page_more page [] c)
step_more names (Clock now) c d s = more_at c _ d s (same_more c.peers)

run_more : (names : Names) (mails : List Mail) (b c : Course) → IsRun names b mails c → IsMore b.peers c.peers
run_more names [] b c r = more_at b b c r (same_more b.peers)
run_more names (mail ∷ mails) b c r = more_more _ _ _ (step_more names mail b r.0 r.1) (run_more names mails r.0 c r.2)

pub grows : Grows
grows names b c mails r = let h = run_more names mails b c r in (h.rest, h.is)

-- ---- sparing

count_if : (b : Bool) (k n : ℕ) → (b ≡ true → k < n) → k ≤ n → k + cond b 1 0 ≤ n
count_if true k n h m = let l = h refl in omega (arith, l)
count_if false k n h m = omega (arith, m)

count_more : (p : SocketAddr → Bool) (xs : List SocketAddr) (x : SocketAddr) (n : ℕ) → (p x ≡ true → count_by p xs < n) → count_by p xs ≤ n → count_by p (xs ++ x ∷ []) ≤ n
count_more p xs x n h m = omega (arith, sum_by-append (λ y. cond (p y) 1 0) xs (x ∷ []), count_if (p x) (count_by p xs) n h m)

same_as : (a b x : SocketAddr) → is_same a b ≡ true → is_same a x ≡ is_same b x
same_as (V4 a) (V4 b) (V4 x) e =
    let parts = and_parts (bytes_eq (ipv4_octets (v4_ip a)) (ipv4_octets (v4_ip b))) (v4_port a == v4_port b) e in
    let ip = (bytes_eq-Decides (ipv4_octets (v4_ip a)) (ipv4_octets (v4_ip b))).0 parts.0 in
    let port = eqb-true (v4_port a) (v4_port b) parts.1 in
    rw (ip, port) refl
same_as (V6 a) (V6 b) (V6 x) e =
    let parts = and_parts (bytes_eq (ipv6_octets (v6_ip a)) (ipv6_octets (v6_ip b))) (v6_port a == v6_port b) e in
    let ip = (bytes_eq-Decides (ipv6_octets (v6_ip a)) (ipv6_octets (v6_ip b))).0 parts.0 in
    let port = eqb-true (v6_port a) (v6_port b) parts.1 in
    rw (ip, port) refl
same_as (V4 a) (V4 b) (V6 x) e = refl
same_as (V6 a) (V6 b) (V4 x) e = refl
same_as (V4 a) (V6 b) x e = absurd (cc ((and_parts false (v4_port a == v6_port b) e).0))
same_as (V6 a) (V4 b) x e = absurd (cc ((and_parts false (v6_port a == v4_port b) e).0))

at_most_five : (k : Kind) → most_to k ≤ 5
at_most_five kind.Connect = omega arith
at_most_five kind.Announce = omega arith
at_most_five kind.Stop = omega arith
at_most_five kind.Nodes = omega arith

same_count : (a to : SocketAddr) (xs : List SocketAddr) → is_same a to ≡ true → count_by (λ b. is_same a b) xs ≡ count_by (λ b. is_same to b) xs
same_count a to xs e = ap (λ (p : SocketAddr → Bool). count_by p xs) (λ i b. same_as a to b e i)

sent_sparing : (to : SocketAddr) (q : Question) (c : Course) → may_send to q.kind c ≡ true → IsSparing c → IsSparing (with_sent to q c)
sent_sparing to q c may h =
    let parts = and_parts (nat_lt (length c.sent) 256) (nat_lt (count_by (λ b. is_same to b) c.sent) (most_to q.kind)) may in
    let room = ltb-true (length c.sent) 256 parts.0 in
    let few = ltb-true (count_by (λ b. is_same to b) c.sent) (most_to q.kind) parts.1 in
    record {
      total = omega (arith, room, length-append c.sent (to ∷ []));
      each = λ a. count_more (λ b. is_same a b) c.sent to 5 (λ e. omega (arith, few, at_most_five q.kind, same_count a to c.sent e)) (h.each a);
    }

sparing_at : (c d : Course) → d.sent ≡ c.sent → IsSparing c → IsSparing d
sparing_at c d e h = record {
  total = subst (λ (x : List SocketAddr). length x ≤ 256) (sym e) h.total;
  each = λ a. subst (λ (x : List SocketAddr). count_by (λ b. is_same a b) x ≤ 5) (sym e) (h.each a);
}

cond_sent : (t : Bool) (x y : Course) → x.sent ≡ y.sent → (if t then x else y).sent ≡ y.sent
cond_sent true x y e = e
cond_sent false x y e = refl

heard_sent : (reply : Option Reply) (from : SocketAddr) (c : Course) → (heard_by from reply c).sent ≡ c.sent
heard_sent None from c = refl
heard_sent (Some r) from c = cond_sent (counts from r.id r.saying c) (closed from r.saying c) c refl

sent_of : (c d : Course) → d ≡ c → d.sent ≡ c.sent
sent_of c d e = ap (λ (x : Course). x.sent) e

step_sparing : (names : Names) (mail : Mail) (c d : Course) → Step names c mail d → IsSparing c → IsSparing d
step_sparing names (Sent to q bytes) c d s h = sparing_at (with_sent to q c) d (sent_of _ d s.2) (sent_sparing to q c s.1 h)
step_sparing names (Asked page bytes) c d s h = sparing_at c d (sent_of _ d s.2) h
step_sparing names (Stopped page bytes) c d s h = sparing_at c d (sent_of _ d s.2) h
step_sparing names (Heard from bytes) c d s h = sparing_at c d (sent_of _ d s.2 ∙ heard_sent s.0 from c) h
step_sparing names (Answered page bytes) c d s h =
    sparing_at c d (sent_of _ d s.2 ∙ cond_sent (is_page_open page c) (page_closed page s.0 c) c refl) h
step_sparing names (Failed page) c d s h = sparing_at c d (sent_of _ d s ∙ cond_sent (is_page_open page c) (page_closed page [] c) c refl) h
step_sparing names (Clock now) c d s h = sparing_at c d (sent_of _ d s) h

run_sparing : (names : Names) (mails : List Mail) (b c : Course) → IsRun names b mails c → IsSparing b → IsSparing c
run_sparing names [] b c r h = sparing_at b c (sent_of b c r) h
run_sparing names (mail ∷ mails) b c r h = run_sparing names mails r.0 c r.2 (step_sparing names mail b r.0 r.1 h)

pub sparing : Spares
sparing names is_local mails c r = run_sparing names mails (start is_local) c r (record { total = omega arith; each = λ a. omega arith })
