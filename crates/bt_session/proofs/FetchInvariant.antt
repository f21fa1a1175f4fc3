-- What is so of the link all along, while one end fetches from one that serves.
use Rattle.std.proofs.Common.{◌≡◌, ℕ, ◌+◌, ◌*◌, ◌<◌, ◌≤◌, Bool, true, false, List, [], ◌∷◌, ◌++◌, length, map, drop, Option, Some, None, slice_get, refl}
use Rattle.std.proofs.Common.{sym, ap, subst, ◌∙◌, arith}
use Rattle.std.proofs.lemmas.List.{append-nil, append_assoc, drop-append-le, length-append, length-map, map-append}
use Rattle.bt_ext.specs.Metadata.{block_count}
use Rattle.bt_wire.specs.declared.handshake.Handshake.{Handshake}
use Rattle.bt_wire.specs.declared.item.Item.{Item}
use Rattle.bt_wire.specs.declared.item.Item.TheVariants as items
use Rattle.bt_wire.specs.Messages.{Message}
use Rattle.bt_metadata.specs.Blocks.{max_metadata}
use Rattle.bt_end.specs.Ends.{EndState, Reaction, Part, Awaiting, served_size, react, request_for}
use Rattle.bt_session.specs.FetchLaws.{IsFetchPair}
use Rattle.bt_session.specs.LinkLaws.{source_of, IsMetadata}
use Rattle.bt_session.specs.MessageLinks.{Node, size, total, sends, handles, first}
use Rattle.bt_session.proofs.FetchParts.{lacking, AreBelow}
use Rattle.bt_session.proofs.FetchReactions.{Heard, Unheard, Opened, Known, greeting_message, data_message, AreNotices, AreShort}
use Rattle.bt_session.proofs.FetchReactions.{greeting_short, data_short, requests_short, notices_short, IsServer, IsFetcher, notices, notices_right}
use Rattle.bt_session.proofs.FetchReactions.{opens, server_opens, server_learns, server_replies, server_rests, at_notice}
use Rattle.bt_session.proofs.FetchReactions.{fetcher_opens, fetcher_learns, fetcher_takes, fetcher_rests, IsAsked, IsAsBefore, Asks}
use Rattle.bt_session.proofs.UnderWay.{total-append, next_parts}

-- ---- what one end sent

abbrev pub is_open : Heard → Bool
is_open Unheard = false
is_open Opened = true
is_open Known = true

-- how many items an end sends at most besides blocks and requests: its handshake, and then its extended handshake and a notice
abbrev pub greetings : Heard → ℕ
greetings Unheard = 1
greetings Opened = 3
greetings Known = 3

-- What the other end hasn't handled of what an end sent: the handshake; once the end is open its greeting; and then these messages.
abbrev pub Pending : Item → Message → Bool → Heard → List Message → List Item → Type 0
Pending hand greet false Unheard rest is = (rest ≡ []) × (is ≡ hand ∷ [])
Pending hand greet false Opened rest is = (rest ≡ []) × (is ≡ [])
Pending hand greet false Known rest is = ⊥
Pending hand greet true Unheard rest is = is ≡ hand ∷ items.Message greet ∷ map items.Message rest
Pending hand greet true Opened rest is = is ≡ items.Message greet ∷ map items.Message rest
Pending hand greet true Known rest is = is ≡ map items.Message rest

pub record Way (hand : Item) (greet : Message) (opened : Bool) (heard : Heard) (rest : List Message) (sent : List Item) (handled : ℕ) : Type 0 where
  pub pending : Pending hand greet opened heard rest (drop handled sent)
  pub within : handled ≤ length sent
  pub short : AreShort sent
  pub bytes : total sent + 16542 ≤ 16610 * length sent

-- the next item, and what follows it
pub record IsNext (sent : List Item) (handled : ℕ) (i : Item) : Type 0 where
  pub first : drop handled sent ≡ i ∷ drop (handled + 1) sent
  pub within : handled < length sent

-- ---- more is sent

short_more : (is js : List Item) → AreShort is → AreShort js → AreShort (is ++ js)
short_more [] js h k = k
short_more (i ∷ is) js h k = (h.0, short_more is js h.1 k)

pub short_total : (is : List Item) → AreShort is → total is ≤ 16610 * length is
short_total [] h = omega arith
short_total (i ∷ is) h = omega (arith, h.0, short_total is h.1)

pending_more : (hand : Item) (greet : Message) (heard : Heard) (rest xs : List Message) (is : List Item) → Pending hand greet true heard rest is
    → Pending hand greet true heard (rest ++ xs) (is ++ map items.Message xs)
pending_more hand greet Unheard rest xs is h =
    ap (λ (js : List Item). js ++ map items.Message xs) h
    ∙ ap (λ (js : List Item). hand ∷ items.Message greet ∷ js) (sym (map-append items.Message rest xs))
pending_more hand greet Opened rest xs is h =
    ap (λ (js : List Item). js ++ map items.Message xs) h ∙ ap (λ (js : List Item). items.Message greet ∷ js) (sym (map-append items.Message rest xs))
pending_more hand greet Known rest xs is h = ap (λ (js : List Item). js ++ map items.Message xs) h ∙ sym (map-append items.Message rest xs)

bytes_more : (sent js : List Item) → total sent + 16542 ≤ 16610 * length sent → AreShort js → total (sent ++ js) + 16542 ≤ 16610 * length (sent ++ js)
bytes_more sent js h k = omega (arith, h, total-append sent js, length-append sent js, short_total js k)

way_more : (hand : Item) (greet : Message) (heard : Heard) (rest : List Message) (sent : List Item) (handled : ℕ) (xs : List Message)
    → Way hand greet true heard rest sent handled → AreShort (map items.Message xs)
    → Way hand greet true heard (rest ++ xs) (sent ++ map items.Message xs) handled
way_more hand greet heard rest sent handled xs w short = record {
  pending = subst (λ (is : List Item). Pending hand greet true heard (rest ++ xs) is) (sym (drop-append-le handled sent (map items.Message xs) w.within))
      (pending_more hand greet heard rest xs (drop handled sent) w.pending);
  within = omega (arith, w.within, length-append sent (map items.Message xs));
  short = short_more sent (map items.Message xs) w.short short;
  bytes = bytes_more sent (map items.Message xs) w.bytes short;
}

pub no_rest : (xs ys : List Message) → xs ++ ys ≡ [] → ys ≡ []
no_rest [] ys e = e
no_rest (x ∷ xs) ys e = absurd cc

pending_opens : (hand : Item) (greet : Message) (heard : Heard) (old ys xs : List Message) (is : List Item) → Pending hand greet false heard (old ++ ys) is
    → Pending hand greet true heard (xs ++ ys) (is ++ map items.Message (greet ∷ xs))
pending_opens hand greet Unheard old ys xs is h =
    ap (λ (js : List Item). js ++ map items.Message (greet ∷ xs)) h.1
    ∙ ap (λ (zs : List Message). hand ∷ items.Message greet ∷ map items.Message zs)
    (sym (ap (λ (zs : List Message). xs ++ zs) (no_rest old ys h.0) ∙ append-nil xs))
pending_opens hand greet Opened old ys xs is h =
    ap (λ (js : List Item). js ++ map items.Message (greet ∷ xs)) h.1
    ∙ ap (λ (zs : List Message). items.Message greet ∷ map items.Message zs)
    (sym (ap (λ (zs : List Message). xs ++ zs) (no_rest old ys h.0) ∙ append-nil xs))
pending_opens hand greet Known old ys xs is h = absurd h

-- an end opens
way_opens : (hand : Item) (greet : Message) (heard : Heard) (old ys : List Message) (sent : List Item) (handled : ℕ) (xs : List Message)
    → Way hand greet false heard (old ++ ys) sent handled → AreShort (map items.Message (greet ∷ xs))
    → Way hand greet true heard (xs ++ ys) (sent ++ map items.Message (greet ∷ xs)) handled
way_opens hand greet heard old ys sent handled xs w short = record {
  pending = subst (λ (is : List Item). Pending hand greet true heard (xs ++ ys) is)
      (sym (drop-append-le handled sent (map items.Message (greet ∷ xs)) w.within))
      (pending_opens hand greet heard old ys xs (drop handled sent) w.pending);
  within = omega (arith, w.within, length-append sent (map items.Message (greet ∷ xs)));
  short = short_more sent (map items.Message (greet ∷ xs)) w.short short;
  bytes = bytes_more sent (map items.Message (greet ∷ xs)) w.bytes short;
}

-- ---- an item is handled

way_handled : {hand : Item} {greet : Message} {opened : Bool} {before : Heard} (heard : Heard) {old : List Message} (rest : List Message) {sent : List Item}
    {handled : ℕ} {i : Item}
    → Way hand greet opened before old sent handled → IsNext sent handled i → Pending hand greet opened heard rest (drop (handled + 1) sent)
    → Way hand greet opened heard rest sent (handled + 1)
way_handled heard rest w n h = record {
  pending = h;
  within = omega (arith, n.within);
  short = w.short;
  bytes = w.bytes;
}

-- what is under way begins with the next item
at_next : (hand : Item) (greet : Message) (opened : Bool) (heard : Heard) (rest : List Message) (sent : List Item) (handled : ℕ) (i : Item)
    → Way hand greet opened heard rest sent handled → IsNext sent handled i → Pending hand greet opened heard rest (i ∷ drop (handled + 1) sent)
at_next hand greet opened heard rest sent handled i w n = subst (λ (is : List Item). Pending hand greet opened heard rest is) n.first w.pending

pending_hand : (hand : Item) (greet : Message) (opened : Bool) (rest : List Message) (i : Item) (is : List Item)
    → Pending hand greet opened Unheard rest (i ∷ is) → (i ≡ hand) × Pending hand greet opened Opened rest is
pending_hand hand greet false rest i is h = let e : i ∷ is ≡ hand ∷ [] = h.1 in (cc, (h.0, cc))
pending_hand hand greet true rest i is h = (cc, cc)

pending_greet : (hand : Item) (greet : Message) (opened : Bool) (rest : List Message) (i : Item) (is : List Item)
    → Pending hand greet opened Opened rest (i ∷ is) → (i ≡ items.Message greet) × Pending hand greet opened Known rest is
pending_greet hand greet false rest i is h = let e : i ∷ is ≡ [] = h.1 in absurd cc
pending_greet hand greet true rest i is h = (cc, cc)

pending_rest : (hand : Item) (greet : Message) (opened : Bool) (rest : List Message) (is : List Item) → Pending hand greet opened Known rest is
    → is ≡ map items.Message rest
pending_rest hand greet false rest is h = absurd h
pending_rest hand greet true rest is h = h

pending_later : (hand : Item) (greet : Message) (opened : Bool) (old rest : List Message) (js is : List Item) → Pending hand greet opened Known old js
    → is ≡ map items.Message rest → Pending hand greet opened Known rest is
pending_later hand greet false old rest js is h e = absurd h
pending_later hand greet true old rest js is h e = e

-- ---- the invariant

-- The part p of the end that fetches. The blocks `answered`, whose requests were answered, haven't come yet, nor the blocks `waiting`, whose
-- requests are under way. In all, `asked` blocks were asked for.
abbrev pub PartIs : Heard → List ℕ → EndState → Part → List ℕ → List ℕ → ℕ → Type 0
PartIs Unheard metadata b p answered waiting asked = (p ≡ Awaiting max_metadata) × (answered ≡ []) × (waiting ≡ []) × (asked ≡ 0)
PartIs Opened metadata b p answered waiting asked = (p ≡ Awaiting max_metadata) × (answered ≡ []) × (waiting ≡ []) × (asked ≡ 0)
PartIs Known metadata b p answered waiting asked =
    IsAsked metadata b.window p (answered ++ waiting) × (asked + lacking p ≡ block_count (length metadata))

-- The end x serves, the end y fetches. x_stage is what x handled of y's items, and y_stage what y handled of x's. Under way are these
-- notices, the blocks `answered`, and requests for the blocks `waiting`. In all, y asked for `asked` blocks.
pub record Sides (metadata : List ℕ) (a b : EndState) (x_stage y_stage : Heard) (x_notices y_notices : List Message) (answered waiting : List ℕ) (asked : ℕ)
    (x y : Node) : Type 0 where
  pub server : IsServer metadata a x_stage x.end
  pub fetcher : IsFetcher b y_stage y.end
  pub part : PartIs y_stage metadata b y.end.part answered waiting asked
  pub going : Way (items.Handshake a.handshake) (greeting_message a.own.reg (Some (length metadata))) (is_open x_stage) y_stage
      (x_notices ++ map (data_message metadata) answered) x.sent x.handled
  pub coming : Way (items.Handshake b.handshake) (greeting_message b.own.reg None) (is_open y_stage) x_stage (y_notices ++ map request_for waiting) y.sent
      y.handled
  pub server_notices : AreNotices x_notices
  pub fetcher_notices : AreNotices y_notices
  pub server_few : length x_notices ≤ 1
  pub fetcher_few : length y_notices ≤ 1
  pub answered_below : AreBelow (block_count (length metadata)) answered
  pub waiting_below : AreBelow (block_count (length metadata)) waiting
  pub answers : length x.sent + length waiting ≤ greetings x_stage + asked
  pub requests : length y.sent ≤ greetings y_stage + asked

pub record Inv (metadata : List ℕ) (a b : EndState) (x y : Node) : Type 0 where
  pub x_stage : Heard
  pub y_stage : Heard
  pub x_notices : List Message
  pub y_notices : List Message
  pub answered : List ℕ
  pub waiting : List ℕ
  pub asked : ℕ
  pub sides : Sides metadata a b x_stage y_stage x_notices y_notices answered waiting asked x y

sides_inv : {metadata : List ℕ} {a b : EndState} (x_stage y_stage : Heard) (x_notices y_notices : List Message) (answered waiting : List ℕ) (asked : ℕ)
    {x y : Node} → Sides metadata a b x_stage y_stage x_notices y_notices answered waiting asked x y → Inv metadata a b x y
sides_inv x_stage y_stage x_notices y_notices answered waiting asked s = record {
  x_stage = x_stage;
  y_stage = y_stage;
  x_notices = x_notices;
  y_notices = y_notices;
  answered = answered;
  waiting = waiting;
  asked = asked;
  sides = s;
}

-- ---- what is known of the pair

pub pair_sized : (metadata : List ℕ) (a b : EndState) → IsFetchPair metadata a b → IsMetadata metadata
pair_sized metadata a b p = p.left.is.serves metadata (ap source_of p.serves)

server_greets : (metadata : List ℕ) (a b : EndState) → IsFetchPair metadata a b
    → size (items.Message (greeting_message a.own.reg (Some (length metadata)))) ≤ 16610
server_greets metadata a b p =
    let sized : IsMetadata metadata = pair_sized metadata a b p in
    greeting_short a.own.reg (Some (length metadata)) p.left.is.ids (λ k e. let same : length metadata ≡ k = cc in omega (arith, sized.most))

fetcher_greets : (metadata : List ℕ) (a b : EndState) → IsFetchPair metadata a b → size (items.Message (greeting_message b.own.reg None)) ≤ 16610
fetcher_greets metadata a b p = greeting_short b.own.reg None p.right.is.ids (λ k e. absurd cc)

below_more : (n : ℕ) (ks js : List ℕ) → AreBelow n ks → AreBelow n js → AreBelow n (ks ++ js)
below_more n [] js h k = k
below_more n (x ∷ ks) js h k = (h.0, below_more n ks js h.1 k)

-- ---- a turn of the end that serves

-- the end x has handled the next item of y, becomes e and sends these messages
abbrev pub turned : Node → EndState → List Message → Node
turned x e xs = record x { end = e; sent = x.sent ++ map items.Message xs }

abbrev pub heard_more : Node → Node
heard_more y = record y { handled = y.handled + 1 }

-- where it sends nothing
silent : (metadata : List ℕ) (a b : EndState) (x y : Node) (e : EndState) (xs : List Message) → xs ≡ [] → Inv metadata a b (record x { end = e }) y
    → Inv metadata a b (turned x e xs) y
silent metadata a b x y e xs none i =
    subst (λ (js : List Item). Inv metadata a b (record x { end = e; sent = js }) y)
    (sym (ap (λ (zs : List Message). x.sent ++ map items.Message zs) none ∙ append-nil x.sent)) i

server_first : {metadata : List ℕ} {a b : EndState} {y_stage : Heard} {x_notices y_notices : List Message} {answered waiting : List ℕ} {asked : ℕ} {x y : Node}
    {i : Item} → IsFetchPair metadata a b → Sides metadata a b Unheard y_stage x_notices y_notices answered waiting asked x y → IsNext y.sent y.handled i
    → Inv metadata a b (sends x (react x.end i)) (heard_more y)
server_first {metadata} {a} {b} {y_stage} {x_notices} {y_notices} {answered} {waiting} {asked} {x} {y} {i} p s n =
    let hand : Item = items.Handshake b.handshake in
    let greet : Message = greeting_message b.own.reg None in
    let own : Message = greeting_message a.own.reg (Some (length metadata)) in
    let rest : List Message = y_notices ++ map request_for waiting in
    let first = pending_hand hand greet (is_open y_stage) rest i (drop (y.handled + 1) y.sent)
    (at_next hand greet (is_open y_stage) Unheard rest y.sent y.handled i s.coming n) in
    let r : Reaction = react x.end hand in
    let new : List Message = notices x.end b.handshake.reserved in
    let right = notices_right x.end b.handshake.reserved in
    let queued : r.queued ≡ own ∷ new = opens a b x.end (Some (length metadata)) s.server.own p.right.is.reserved p.left_extended
    (ap served_size s.server.part) in
    subst (λ (j : Item). Inv metadata a b (sends x (react x.end j)) (heard_more y)) (sym first.0)
    (subst (λ (xs : List Message). Inv metadata a b (turned x r.end xs) (heard_more y)) (sym queued)
    (sides_inv Opened y_stage new y_notices answered waiting asked (record {
      server = server_opens metadata a b x.end s.server;
      fetcher = s.fetcher;
      part = s.part;
      going = way_opens (items.Handshake a.handshake) own y_stage x_notices (map (data_message metadata) answered) x.sent x.handled new s.going
          (server_greets metadata a b p, notices_short new right.0);
      coming = way_handled Opened rest s.coming n first.1;
      server_notices = right.0;
      fetcher_notices = s.fetcher_notices;
      server_few = right.1;
      fetcher_few = s.fetcher_few;
      answered_below = s.answered_below;
      waiting_below = s.waiting_below;
      answers = omega (arith, s.answers, right.1, length-append x.sent (map items.Message (own ∷ new)), length-map new items.Message);
      requests = s.requests;
    })))

server_second : {metadata : List ℕ} {a b : EndState} {y_stage : Heard} {x_notices y_notices : List Message} {answered waiting : List ℕ} {asked : ℕ}
    {x y : Node} {i : Item} → IsFetchPair metadata a b → Sides metadata a b Opened y_stage x_notices y_notices answered waiting asked x y
    → IsNext y.sent y.handled i → Inv metadata a b (sends x (react x.end i)) (heard_more y)
server_second {metadata} {a} {b} {y_stage} {x_notices} {y_notices} {answered} {waiting} {asked} {x} {y} {i} p s n =
    let hand : Item = items.Handshake b.handshake in
    let greet : Message = greeting_message b.own.reg None in
    let rest : List Message = y_notices ++ map request_for waiting in
    let first = pending_greet hand greet (is_open y_stage) rest i (drop (y.handled + 1) y.sent)
    (at_next hand greet (is_open y_stage) Opened rest y.sent y.handled i s.coming n) in
    let r : Reaction = react x.end (items.Message greet) in
    let learns = server_learns metadata a b x.end None s.server p.right.is.ids p.right_id in
    subst (λ (j : Item). Inv metadata a b (sends x (react x.end j)) (heard_more y)) (sym first.0)
    (silent metadata a b x (heard_more y) r.end r.queued learns.1
    (sides_inv Known y_stage x_notices y_notices answered waiting asked (record {
      server = learns.0;
      fetcher = s.fetcher;
      part = s.part;
      going = s.going;
      coming = way_handled Known rest s.coming n first.1;
      server_notices = s.server_notices;
      fetcher_notices = s.fetcher_notices;
      server_few = s.server_few;
      fetcher_few = s.fetcher_few;
      answered_below = s.answered_below;
      waiting_below = s.waiting_below;
      answers = s.answers;
      requests = s.requests;
    })))

part_answered : (metadata : List ℕ) (b : EndState) (y_stage : Heard) (q : Part) (answered ks : List ℕ) (k asked : ℕ)
    → PartIs y_stage metadata b q answered (k ∷ ks) asked → PartIs y_stage metadata b q (answered ++ k ∷ []) ks asked
part_answered metadata b Unheard q answered ks k asked h = let none : k ∷ ks ≡ [] = h.2 in absurd cc
part_answered metadata b Opened q answered ks k asked h = let none : k ∷ ks ≡ [] = h.2 in absurd cc
part_answered metadata b Known q answered ks k asked h =
    (subst (λ (js : List ℕ). IsAsked metadata b.window q js) (sym (append_assoc answered (k ∷ []) ks)) h.0, h.1)

one_more_data : (metadata : List ℕ) (xs : List Message) (answered : List ℕ) (k : ℕ)
    → (xs ++ map (data_message metadata) answered) ++ data_message metadata k ∷ [] ≡ xs ++ map (data_message metadata) (answered ++ k ∷ [])
one_more_data metadata xs answered k =
    append_assoc xs (map (data_message metadata) answered) (data_message metadata k ∷ [])
    ∙ ap (λ (ys : List Message). xs ++ ys) (sym (map-append (data_message metadata) answered (k ∷ [])))

server_third : {metadata : List ℕ} {a b : EndState} {y_stage : Heard} {x_notices : List Message} (y_notices : List Message) {answered : List ℕ}
    (waiting : List ℕ) {asked : ℕ} {x y : Node}
    {i : Item} → IsFetchPair metadata a b → Sides metadata a b Known y_stage x_notices y_notices answered waiting asked x y → IsNext y.sent y.handled i
    → i ∷ drop (y.handled + 1) y.sent ≡ map items.Message (y_notices ++ map request_for waiting)
    → Inv metadata a b (sends x (react x.end i)) (heard_more y)
server_third [] [] p s n e = absurd cc
server_third {metadata} {a} {b} {y_stage} {x_notices} (z ∷ zs) {answered} waiting {asked} {x} {y} {i} p s n e =
    let hand : Item = items.Handshake b.handshake in
    let greet : Message = greeting_message b.own.reg None in
    let rest : List Message = zs ++ map request_for waiting in
    let same : i ≡ items.Message z = cc in
    let later : drop (y.handled + 1) y.sent ≡ map items.Message rest = cc in
    let r : Reaction = react x.end (items.Message z) in
    let h : IsAsBefore x.end r = at_notice x.end z s.fetcher_notices.0 in
    subst (λ (j : Item). Inv metadata a b (sends x (react x.end j)) (heard_more y)) (sym same)
    (silent metadata a b x (heard_more y) r.end r.queued h.queued
    (sides_inv Known y_stage x_notices zs answered waiting asked (record {
      server = server_rests metadata a x.end r s.server h;
      fetcher = s.fetcher;
      part = s.part;
      going = s.going;
      coming = way_handled Known rest s.coming n
          (pending_later hand greet (is_open y_stage) (z ∷ rest) rest (drop y.handled y.sent) (drop (y.handled + 1) y.sent) s.coming.pending later);
      server_notices = s.server_notices;
      fetcher_notices = s.fetcher_notices.1;
      server_few = s.server_few;
      fetcher_few = omega (arith, s.fetcher_few);
      answered_below = s.answered_below;
      waiting_below = s.waiting_below;
      answers = s.answers;
      requests = s.requests;
    })))
server_third {metadata} {a} {b} {y_stage} {x_notices} [] {answered} (k ∷ ks) {asked} {x} {y} {i} p s n e =
    let hand : Item = items.Handshake b.handshake in
    let greet : Message = greeting_message b.own.reg None in
    let rest : List Message = map request_for ks in
    let data_k : Message = data_message metadata k in
    let same : i ≡ items.Message (request_for k) = cc in
    let later : drop (y.handled + 1) y.sent ≡ map items.Message rest = cc in
    let r : Reaction = react x.end (items.Message (request_for k)) in
    let sized : IsMetadata metadata = pair_sized metadata a b p in
    let replies = server_replies metadata a x.end k s.server sized s.waiting_below.0 in
    subst (λ (j : Item). Inv metadata a b (sends x (react x.end j)) (heard_more y)) (sym same)
    (subst (λ (xs : List Message). Inv metadata a b (turned x r.end xs) (heard_more y)) (sym replies.1)
    (sides_inv Known y_stage x_notices [] (answered ++ k ∷ []) ks asked (record {
      server = replies.0;
      fetcher = s.fetcher;
      part = part_answered metadata b y_stage y.end.part answered ks k asked s.part;
      going = subst (λ (xs : List Message). Way (items.Handshake a.handshake) (greeting_message a.own.reg (Some (length metadata))) true y_stage xs
          (x.sent ++ map items.Message (data_k ∷ [])) x.handled) (one_more_data metadata x_notices answered k)
          (way_more (items.Handshake a.handshake) (greeting_message a.own.reg (Some (length metadata))) y_stage
          (x_notices ++ map (data_message metadata) answered) x.sent x.handled (data_k ∷ []) s.going
          (data_short metadata k sized s.waiting_below.0, tt));
      coming = way_handled Known rest s.coming n
          (pending_later hand greet (is_open y_stage) (request_for k ∷ rest) rest (drop y.handled y.sent) (drop (y.handled + 1) y.sent) s.coming.pending later);
      server_notices = s.server_notices;
      fetcher_notices = tt;
      server_few = s.server_few;
      fetcher_few = s.fetcher_few;
      answered_below = below_more (block_count (length metadata)) answered (k ∷ []) s.answered_below (s.waiting_below.0, tt);
      waiting_below = s.waiting_below.1;
      answers = omega (arith, s.answers, length-append x.sent (map items.Message (data_k ∷ [])));
      requests = s.requests;
    })))

server_handles : {metadata : List ℕ} {a b : EndState} (x_stage : Heard) {y_stage : Heard} {x_notices y_notices : List Message} {answered waiting : List ℕ}
    {asked : ℕ}
    {x y : Node} {i : Item} → IsFetchPair metadata a b → Sides metadata a b x_stage y_stage x_notices y_notices answered waiting asked x y
    → IsNext y.sent y.handled i → Inv metadata a b (sends x (react x.end i)) (heard_more y)
server_handles Unheard p s n =
    server_first p s n
server_handles Opened p s n =
    server_second p s n
server_handles {b} Known {y_stage} {y_notices} {waiting} {y} p s n =
    let hand : Item = items.Handshake b.handshake in
    let greet : Message = greeting_message b.own.reg None in
    let rest : List Message = y_notices ++ map request_for waiting in
    server_third y_notices waiting p s n
    (sym n.first ∙ pending_rest hand greet (is_open y_stage) rest (drop y.handled y.sent) s.coming.pending)

-- ---- a turn of the end that fetches

quiet_fetcher : (metadata : List ℕ) (a b : EndState) (x y : Node) (e : EndState) (xs : List Message) → xs ≡ [] → Inv metadata a b x (record y { end = e })
    → Inv metadata a b x (turned y e xs)
quiet_fetcher metadata a b x y e xs none i =
    subst (λ (js : List Item). Inv metadata a b x (record y { end = e; sent = js }))
    (sym (ap (λ (zs : List Message). y.sent ++ map items.Message zs) none ∙ append-nil y.sent)) i

fetcher_first : {metadata : List ℕ} {a b : EndState} {x_stage : Heard} {x_notices y_notices : List Message} {answered waiting : List ℕ} {asked : ℕ}
    {x y : Node} {i : Item} → IsFetchPair metadata a b → Sides metadata a b x_stage Unheard x_notices y_notices answered waiting asked x y
    → IsNext x.sent x.handled i → Inv metadata a b (heard_more x) (sends y (react y.end i))
fetcher_first {metadata} {a} {b} {x_stage} {x_notices} {y_notices} {answered} {waiting} {asked} {x} {y} {i} p s n =
    let hand : Item = items.Handshake a.handshake in
    let greet : Message = greeting_message a.own.reg (Some (length metadata)) in
    let own : Message = greeting_message b.own.reg None in
    let rest : List Message = x_notices ++ map (data_message metadata) answered in
    let first = pending_hand hand greet (is_open x_stage) rest i (drop (x.handled + 1) x.sent)
    (at_next hand greet (is_open x_stage) Unheard rest x.sent x.handled i s.going n) in
    let r : Reaction = react y.end hand in
    let new : List Message = notices y.end a.handshake.reserved in
    let right = notices_right y.end a.handshake.reserved in
    let queued : r.queued ≡ own ∷ new = opens b a y.end None s.fetcher.own p.left.is.reserved p.right_extended (ap served_size s.part.0) in
    subst (λ (j : Item). Inv metadata a b (heard_more x) (sends y (react y.end j))) (sym first.0)
    (subst (λ (xs : List Message). Inv metadata a b (heard_more x) (turned y r.end xs)) (sym queued)
    (sides_inv x_stage Opened x_notices new answered waiting asked (record {
      server = s.server;
      fetcher = fetcher_opens a b y.end s.fetcher;
      part = s.part;
      going = way_handled Opened rest s.going n first.1;
      coming = way_opens (items.Handshake b.handshake) own x_stage y_notices (map request_for waiting) y.sent y.handled new s.coming
          (fetcher_greets metadata a b p, notices_short new right.0);
      server_notices = s.server_notices;
      fetcher_notices = right.0;
      server_few = s.server_few;
      fetcher_few = right.1;
      answered_below = s.answered_below;
      waiting_below = s.waiting_below;
      answers = s.answers;
      requests = omega (arith, s.requests, right.1, length-append y.sent (map items.Message (own ∷ new)), length-map new items.Message);
    })))

-- what is so before the end asks for more
record IsReady (metadata : List ℕ) (a b : EndState) (x_stage : Heard) (x_notices y_notices : List Message) (answered waiting : List ℕ) (asked lacked : ℕ)
    (x y : Node) : Type 0 where
  server : IsServer metadata a x_stage x.end
  count : asked + lacked ≡ block_count (length metadata)
  going : Way (items.Handshake a.handshake) (greeting_message a.own.reg (Some (length metadata))) (is_open x_stage) Known
      (x_notices ++ map (data_message metadata) answered) x.sent (x.handled + 1)
  coming : Way (items.Handshake b.handshake) (greeting_message b.own.reg None) true x_stage (y_notices ++ map request_for waiting) y.sent y.handled
  server_notices : AreNotices x_notices
  fetcher_notices : AreNotices y_notices
  server_few : length x_notices ≤ 1
  fetcher_few : length y_notices ≤ 1
  answered_below : AreBelow (block_count (length metadata)) answered
  waiting_below : AreBelow (block_count (length metadata)) waiting
  answers : length x.sent + length waiting ≤ greetings x_stage + asked
  requests : length y.sent ≤ 3 + asked

more_requests : (xs : List Message) (waiting more : List ℕ) → (xs ++ map request_for waiting) ++ map request_for more ≡ xs ++ map request_for (waiting ++ more)
more_requests xs waiting more =
    append_assoc xs (map request_for waiting) (map request_for more)
    ∙ ap (λ (ys : List Message). xs ++ ys) (sym (map-append request_for waiting more))

asks_inv : {metadata : List ℕ} {a b : EndState} {x_stage : Heard} {x_notices y_notices : List Message} {answered waiting old : List ℕ} {asked lacked : ℕ}
    {x y : Node} {r : Reaction} → IsFetchPair metadata a b → IsReady metadata a b x_stage x_notices y_notices answered waiting asked lacked x y
    → Asks metadata b old lacked r → old ≡ answered ++ waiting → Inv metadata a b (heard_more x) (sends y r)
asks_inv {metadata} {a} {b} {x_stage} {x_notices} {y_notices} {answered} {waiting} {old} {asked} {lacked} {x} {y} {r} p s h same =
    let more : List ℕ = h.more in
    let sized : IsMetadata metadata = pair_sized metadata a b p in
    let short : AreShort (map items.Message (map request_for more)) =
    requests_short (block_count (length metadata)) more (omega (arith, sized.most)) h.below in
    subst (λ (xs : List Message). Inv metadata a b (heard_more x) (turned y r.end xs)) (sym h.queued)
    (sides_inv x_stage Known x_notices y_notices answered (waiting ++ more) (asked + length more)
    (record {
      server = s.server;
      fetcher = h.fetcher;
      part = (
        subst (λ (ks : List ℕ). IsAsked metadata b.window r.end.part ks)
            (ap (λ (ks : List ℕ). ks ++ more) same ∙ append_assoc answered waiting more) h.part,
        omega (arith, h.lacks, s.count),
      );
      going = s.going;
      coming = subst (λ (xs : List Message). Way (items.Handshake b.handshake) (greeting_message b.own.reg None) true x_stage xs
          (y.sent ++ map items.Message (map request_for more)) y.handled) (more_requests y_notices waiting more)
          (way_more (items.Handshake b.handshake) (greeting_message b.own.reg None) x_stage (y_notices ++ map request_for waiting) y.sent y.handled
          (map request_for more) s.coming short);
      server_notices = s.server_notices;
      fetcher_notices = s.fetcher_notices;
      server_few = s.server_few;
      fetcher_few = s.fetcher_few;
      answered_below = s.answered_below;
      waiting_below = below_more (block_count (length metadata)) waiting more s.waiting_below h.below;
      answers = omega (arith, s.answers, length-append waiting more);
      requests = omega (
        arith,
        s.requests,
        length-append y.sent (map items.Message (map request_for more)),
        length-map (map request_for more) items.Message,
        length-map more request_for,
      );
    }))

none_asked : (answered waiting : List ℕ) → answered ≡ [] → waiting ≡ [] → [] ≡ answered ++ waiting
none_asked answered waiting e f = sym (ap (λ (ks : List ℕ). ks ++ waiting) e ∙ f)

fetcher_second : {metadata : List ℕ} {a b : EndState} {x_stage : Heard} {x_notices y_notices : List Message} {answered waiting : List ℕ} {asked : ℕ}
    {x y : Node} {i : Item} → IsFetchPair metadata a b → Sides metadata a b x_stage Opened x_notices y_notices answered waiting asked x y
    → IsNext x.sent x.handled i → Inv metadata a b (heard_more x) (sends y (react y.end i))
fetcher_second {metadata} {a} {b} {x_stage} {x_notices} {y_notices} {answered} {waiting} {asked} {x} {y} {i} p s n =
    let hand : Item = items.Handshake a.handshake in
    let greet : Message = greeting_message a.own.reg (Some (length metadata)) in
    let rest : List Message = x_notices ++ map (data_message metadata) answered in
    let first = pending_greet hand greet (is_open x_stage) rest i (drop (x.handled + 1) x.sent)
    (at_next hand greet (is_open x_stage) Opened rest x.sent x.handled i s.going n) in
    let r : Reaction = react y.end (items.Message greet) in
    let asks = fetcher_learns p (pair_sized metadata a b p) s.fetcher s.part.0 in
    let ready : IsReady metadata a b x_stage x_notices y_notices answered waiting asked (block_count (length metadata)) x y = record {
      server = s.server;
      count = omega (arith, s.part.3);
      going = way_handled Known rest s.going n first.1;
      coming = s.coming;
      server_notices = s.server_notices;
      fetcher_notices = s.fetcher_notices;
      server_few = s.server_few;
      fetcher_few = s.fetcher_few;
      answered_below = s.answered_below;
      waiting_below = s.waiting_below;
      answers = s.answers;
      requests = s.requests;
    } in
    subst (λ (j : Item). Inv metadata a b (heard_more x) (sends y (react y.end j))) (sym first.0)
    (asks_inv {r = r} p ready asks (none_asked answered waiting s.part.1 s.part.2))

fetcher_third : {metadata : List ℕ} {a b : EndState} {x_stage : Heard} (x_notices : List Message) {y_notices : List Message} (answered : List ℕ)
    {waiting : List ℕ} {asked : ℕ}
    {x y : Node} {i : Item} → IsFetchPair metadata a b → Sides metadata a b x_stage Known x_notices y_notices answered waiting asked x y
    → IsNext x.sent x.handled i → i ∷ drop (x.handled + 1) x.sent ≡ map items.Message (x_notices ++ map (data_message metadata) answered)
    → Inv metadata a b (heard_more x) (sends y (react y.end i))
fetcher_third [] [] p s n e = absurd cc
fetcher_third {metadata} {a} {b} {x_stage} (z ∷ zs) {y_notices} answered {waiting} {asked} {x} {y} {i} p s n e =
    let hand : Item = items.Handshake a.handshake in
    let greet : Message = greeting_message a.own.reg (Some (length metadata)) in
    let rest : List Message = zs ++ map (data_message metadata) answered in
    let same : i ≡ items.Message z = cc in
    let later : drop (x.handled + 1) x.sent ≡ map items.Message rest = cc in
    let r : Reaction = react y.end (items.Message z) in
    let h : IsAsBefore y.end r = at_notice y.end z s.server_notices.0 in
    subst (λ (j : Item). Inv metadata a b (heard_more x) (sends y (react y.end j))) (sym same)
    (quiet_fetcher metadata a b (heard_more x) y r.end r.queued h.queued
    (sides_inv x_stage Known zs y_notices answered waiting asked (record {
      server = s.server;
      fetcher = fetcher_rests b y.end r s.fetcher h;
      part = subst (λ (q : Part). PartIs Known metadata b q answered waiting asked) (sym h.part) s.part;
      going = way_handled Known rest s.going n
          (pending_later hand greet (is_open x_stage) (z ∷ rest) rest (drop x.handled x.sent) (drop (x.handled + 1) x.sent) s.going.pending later);
      coming = s.coming;
      server_notices = s.server_notices.1;
      fetcher_notices = s.fetcher_notices;
      server_few = omega (arith, s.server_few);
      fetcher_few = s.fetcher_few;
      answered_below = s.answered_below;
      waiting_below = s.waiting_below;
      answers = s.answers;
      requests = s.requests;
    })))
fetcher_third {metadata} {a} {b} {x_stage} [] {y_notices} (k ∷ ks) {waiting} {asked} {x} {y} {i} p s n e =
    let hand : Item = items.Handshake a.handshake in
    let greet : Message = greeting_message a.own.reg (Some (length metadata)) in
    let rest : List Message = map (data_message metadata) ks in
    let same : i ≡ items.Message (data_message metadata k) = cc in
    let later : drop (x.handled + 1) x.sent ≡ map items.Message rest = cc in
    let r : Reaction = react y.end (items.Message (data_message metadata k)) in
    let asks = fetcher_takes metadata b y.end k (ks ++ waiting) s.fetcher s.part.0 (pair_sized metadata a b p) s.answered_below.0 p.right_id p.most in
    let ready : IsReady metadata a b x_stage [] y_notices ks waiting asked (lacking y.end.part) x y = record {
      server = s.server;
      count = s.part.1;
      going = way_handled Known rest s.going n
          (pending_later hand greet (is_open x_stage) (data_message metadata k ∷ rest) rest (drop x.handled x.sent) (drop (x.handled + 1) x.sent)
          s.going.pending later);
      coming = s.coming;
      server_notices = tt;
      fetcher_notices = s.fetcher_notices;
      server_few = s.server_few;
      fetcher_few = s.fetcher_few;
      answered_below = s.answered_below.1;
      waiting_below = s.waiting_below;
      answers = s.answers;
      requests = s.requests;
    } in
    subst (λ (j : Item). Inv metadata a b (heard_more x) (sends y (react y.end j))) (sym same)
    (asks_inv {r = r} p ready asks refl)

fetcher_handles : {metadata : List ℕ} {a b : EndState} {x_stage : Heard} (y_stage : Heard) {x_notices y_notices : List Message} {answered waiting : List ℕ}
    {asked : ℕ}
    {x y : Node} {i : Item} → IsFetchPair metadata a b → Sides metadata a b x_stage y_stage x_notices y_notices answered waiting asked x y
    → IsNext x.sent x.handled i → Inv metadata a b (heard_more x) (sends y (react y.end i))
fetcher_handles Unheard p s n =
    fetcher_first p s n
fetcher_handles Opened p s n =
    fetcher_second p s n
fetcher_handles {metadata} {a} {x_stage} Known {x_notices} {answered} {x} p s n =
    let hand : Item = items.Handshake a.handshake in
    let greet : Message = greeting_message a.own.reg (Some (length metadata)) in
    let rest : List Message = x_notices ++ map (data_message metadata) answered in
    fetcher_third x_notices answered p s n
    (sym n.first ∙ pending_rest hand greet (is_open x_stage) rest (drop x.handled x.sent) s.going.pending)

-- ---- turns

is_next : (sent : List Item) (handled : ℕ) (i : Item) → slice_get sent handled ≡ Some i → IsNext sent handled i
is_next sent handled i e = let h = next_parts handled sent i e in record { first = h.0; within = h.2 }

pub server_turns : (metadata : List ℕ) (a b : EndState) (x y : Node) (o : Option Item) → IsFetchPair metadata a b → Inv metadata a b x y
    → slice_get y.sent y.handled ≡ o
    → Inv metadata a b (handles (record { own = x; other = y }) o).own (handles (record { own = x; other = y }) o).other
server_turns metadata a b x y None p v e = v
server_turns metadata a b x y (Some i) p v e =
    server_handles v.x_stage p v.sides (is_next y.sent y.handled i e)

pub fetcher_turns : (metadata : List ℕ) (a b : EndState) (x y : Node) (o : Option Item) → IsFetchPair metadata a b → Inv metadata a b x y
    → slice_get x.sent x.handled ≡ o
    → Inv metadata a b (handles (record { own = y; other = x }) o).other (handles (record { own = y; other = x }) o).own
fetcher_turns metadata a b x y None p v e = v
fetcher_turns metadata a b x y (Some i) p v e =
    fetcher_handles v.y_stage p v.sides (is_next x.sent x.handled i e)

-- ---- the start, and deliveries

-- what is delivered makes no difference
pub delivered_inv : (metadata : List ℕ) (a b : EndState) (x y : Node) (m n : ℕ) → Inv metadata a b x y
    → Inv metadata a b (record x { delivered = m }) (record y { delivered = n })
delivered_inv metadata a b x y m n v =
    let s = v.sides in
    sides_inv v.x_stage v.y_stage v.x_notices v.y_notices v.answered v.waiting v.asked
    (record {
      server = s.server;
      fetcher = s.fetcher;
      part = s.part;
      going = s.going;
      coming = s.coming;
      server_notices = s.server_notices;
      fetcher_notices = s.fetcher_notices;
      server_few = s.server_few;
      fetcher_few = s.fetcher_few;
      answered_below = s.answered_below;
      waiting_below = s.waiting_below;
      answers = s.answers;
      requests = s.requests;
    })

way_starts : (h : Handshake) (greet : Message) → Way (items.Handshake h) greet false Unheard [] (items.Handshake h ∷ []) 0
way_starts h greet = record { pending = (refl, refl); within = omega arith; short = (omega arith, tt); bytes = omega arith }

pub inv_starts : (metadata : List ℕ) (a b : EndState) → IsFetchPair metadata a b → Inv metadata a b (first a) (first b)
inv_starts metadata a b p =
    sides_inv Unheard Unheard [] [] [] [] 0 (record {
      server = record { own = refl; part = p.serves; table = ap (λ (e : EndState). e.table) p.left.unopened };
      fetcher = record { own = refl; window = refl; hash = refl; table = ap (λ (e : EndState). e.table) p.right.unopened };
      part = (p.awaits, refl, refl, refl);
      going = way_starts a.handshake (greeting_message a.own.reg (Some (length metadata)));
      coming = way_starts b.handshake (greeting_message b.own.reg None);
      server_notices = tt;
      fetcher_notices = tt;
      server_few = omega arith;
      fetcher_few = omega arith;
      answered_below = tt;
      waiting_below = tt;
      answers = omega arith;
      requests = omega arith;
    })
