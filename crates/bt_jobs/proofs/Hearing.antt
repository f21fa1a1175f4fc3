-- What is heard of a stream turn by turn.
use Rattle.std.proofs.Common.{◌≡◌, ℕ, ◌+◌, ◌⊎◌, Bool, true, false, List, [], ◌∷◌, ◌++◌, length, Option, Some, None, Result, Ok, Err, refl, sym, ap, subst}
use Rattle.std.proofs.Common.{◌∙◌, arith, inl, inr}
use Rattle.std.specs.Prelude.{IsSome, ok_or, if◌then◌else◌}
use Rattle.std.proofs.KnownBytes.{Consumes-nil, Consumes-trans}
use Rattle.std.specs.Io.KnownBytes.{Consumes}
use Rattle.bt_ext.specs.Ids.{metadata_name, donthave_name}
use Rattle.bt_wire.specs.declared.fault.Reason.TheVariants.{EndInside}
use Rattle.bt_wire.specs.declared.item.Item.{Item}
use Rattle.bt_wire.specs.declared.item.Refusal.{Refusal}
use Rattle.bt_wire.specs.declared.reserved.Reserved.{Reserved}
use Rattle.bt_wire.specs.Laws.{VerdictIsOne, RefusalStays, ItemsStay}
use Rattle.bt_wire.specs.Streams.{Outcome, IsVerdict, refusal_at_end, is_complete, end_inside}
use Rattle.bt_feed.specs.declared.stage.Stage.TheVariants as stage
use Rattle.bt_feed.specs.declared.view.Finish.TheVariants as finish
use Rattle.bt_feed.specs.Feeds.{FeedState}
use Rattle.bt_feed.specs.Laws.{verdict_at_end}
use Rattle.bt_feed.specs.Pumps.{Took, IsPumped}
use Rattle.bt_feed.specs.Stages.{stopped}
use Rattle.bt_feed.specs.Transcripts.{with_items}
use Rattle.bt_feed.proofs.Coming.{open_comes}
use Rattle.bt_feed.proofs.Reading.{hand_open}
use Rattle.bt_text.specs.declared.ended.ToolFault.{ToolFault}
use Rattle.bt_text.specs.declared.ended.ToolFault.TheVariants as faults
use Rattle.bt_io.specs.Counts.{Grew}
use Rattle.bt_io.specs.Seen.{SourceSeen, EndRead, ReadFailed}
use Rattle.bt_jobs.specs.Printed.{SoFar, so_far}
use Rattle.bt_jobs.specs.declared.other.Announced.{Announced}
use Rattle.bt_jobs.specs.declared.other.Listener.{Listener}
use Rattle.bt_jobs.specs.declared.other.OtherError.{OtherError}
use Rattle.bt_jobs.specs.declared.other.OtherError.TheVariants.{NoHandshake, Fault}
use Rattle.bt_jobs.specs.Others.{or_else, first_of, reserved_of, id_of, first_id, IsUnknown, announced, own_of_other, reader_of_other, IsSaidBy, IsSaidIn}
use Rattle.bt_jobs.specs.Others.{IsLearnt, IsHeard, Hears, IsListening, IsSettled, IsTurnHeard, IsFaultOfOther, IsOpenAfter}
use Rattle.bt_jobs.proofs.Printing.{total, read_more, starts, refused_by}

-- ---- the first value in items

or_none : {A : Type 0} (o : Option A) → or_else o None ≡ o
or_none None = refl
or_none (Some a) = refl

or_both : {A : Type 0} (a b c : Option A) → or_else (or_else a b) c ≡ or_else a (or_else b c)
or_both None b c = refl
or_both (Some x) b c = refl

or_known : {A : Type 0} (o p : Option A) → IsSome o → or_else o p ≡ o
or_known None p h = absurd cc
or_known (Some a) p h = refl

first_both : {A : Type 0} (f : Item → Option A) (xs ys : List (ℕ × Item)) → first_of f (xs ++ ys) ≡ or_else (first_of f xs) (first_of f ys)
first_both f [] ys = refl
first_both f (x ∷ xs) ys = ap (λ o. or_else (f x.1) o) (first_both f xs ys) ∙ sym (or_both (f x.1) (first_of f xs) (first_of f ys))

-- ---- a listener

hears : (l m : Listener) (xs : List (ℕ × Item)) → Took Hears l xs m → (m.reserved ≡ or_else l.reserved (first_of reserved_of xs))
    × (m.metadata ≡ or_else l.metadata (first_id metadata_name xs)) × (m.donthave ≡ or_else l.donthave (first_id donthave_name xs))
hears l m [] h = (
  ap (λ (k : Listener). k.reserved) h ∙ sym (or_none l.reserved),
  ap (λ (k : Listener). k.metadata) h ∙ sym (or_none l.metadata),
  ap (λ (k : Listener). k.donthave) h ∙ sym (or_none l.donthave),
)
hears l m (x ∷ xs) h =
    let rest = hears h.0 m xs h.2 in (
      rest.0 ∙ ap (λ (o : Option Reserved). or_else o (first_of reserved_of xs)) h.1.0 ∙ or_both l.reserved (reserved_of x.1) (first_of reserved_of xs),
      rest.1 ∙ ap (λ (o : Option ℕ). or_else o (first_id metadata_name xs)) h.1.1 ∙ or_both l.metadata (id_of metadata_name x.1) (first_id metadata_name xs),
      rest.2 ∙ ap (λ (o : Option ℕ). or_else o (first_id donthave_name xs)) h.1.2 ∙ or_both l.donthave (id_of donthave_name x.1) (first_id donthave_name xs),
    )

heard_more : (xs ys : List (ℕ × Item)) (l m : Listener) → IsHeard xs l → Took Hears l ys m → IsHeard (xs ++ ys) m
heard_more xs ys l m h took =
    let more = hears l m ys took in (
      more.0 ∙ ap (λ (o : Option Reserved). or_else o (first_of reserved_of ys)) h.0 ∙ sym (first_both reserved_of xs ys),
      more.1 ∙ ap (λ (o : Option ℕ). or_else o (first_id metadata_name ys)) h.1 ∙ sym (first_both (id_of metadata_name) xs ys),
      more.2 ∙ ap (λ (o : Option ℕ). or_else o (first_id donthave_name ys)) h.2 ∙ sym (first_both (id_of donthave_name) xs ys),
    )

-- where all is known, further items change nothing
heard_still : (xs ys : List (ℕ × Item)) (l : Listener) → IsHeard xs l → IsSome l.reserved → IsSome l.metadata → IsSome l.donthave → IsHeard (xs ++ ys) l
heard_still xs ys l h bits id other = (
  h.0 ∙ sym (or_known (first_of reserved_of xs) (first_of reserved_of ys) (subst IsSome h.0 bits)) ∙ sym (first_both reserved_of xs ys),
  h.1 ∙ sym (or_known (first_id metadata_name xs) (first_id metadata_name ys) (subst IsSome h.1 id)) ∙ sym (first_both (id_of metadata_name) xs ys),
  h.2 ∙ sym (or_known (first_id donthave_name xs) (first_id donthave_name ys) (subst IsSome h.2 other)) ∙ sym (first_both (id_of donthave_name) xs ys),
)

said_as : (xs : List (ℕ × Item)) (o : Option Announced) → own_of_other xs ≡ o → IsSaidBy xs (ok_or o NoHandshake)
said_as xs None e = e
said_as xs (Some a) e = e

said_by : (xs : List (ℕ × Item)) (l : Listener) (r : Result Announced OtherError) → IsHeard xs l → r ≡ ok_or (announced l.reserved l.metadata l.donthave)
    NoHandshake
    → IsSaidBy xs r
said_by xs l r h is =
    let same : own_of_other xs ≡ announced l.reserved l.metadata l.donthave =
    ap (λ (o : Option Reserved). announced o (first_id metadata_name xs) (first_id donthave_name xs)) (sym h.0)
    ∙ ap (λ (o : Option ℕ). announced l.reserved o (first_id donthave_name xs)) (sym h.1) ∙ ap (λ (o : Option ℕ). announced l.reserved l.metadata o)
    (sym h.2) in
    subst (IsSaidBy xs) (sym is) (said_as xs (announced l.reserved l.metadata l.donthave) same)

-- ---- a turn

-- A pump into the listener `l` has stopped. It read `bytes`, which went to the feed, and `lost`; it gave `given` to the listener, which is `m` then, and
-- the outcome is `now`.
pub record IsPumpHeard (so : SoFar) (f g : FeedState) (before after : SourceSeen) (l m : Listener) : Type 0 where
  pub listening : IsListening so.bytes so.items f l
  pub bytes : List ℕ
  pub lost : List ℕ
  pub given : List (ℕ × Item)
  pub now : Outcome
  pub consumed : Consumes before.left after.left (bytes ++ lost)
  pub took : Took Hears l given m
  pub pumped : IsPumped f bytes lost given g now

heard_all : (so : SoFar) (f g : FeedState) (before after : SourceSeen) (l m : Listener) → (h : IsPumpHeard so f g before after l m)
    → IsHeard (so.items ++ h.now.items) m
heard_all so f g before after l m h =
    subst (λ (zs : List (ℕ × Item)). IsHeard (so.items ++ zs) m) (sym h.pumped.items) (heard_more so.items h.given l m h.listening.heard h.took)

total_heard : (so : SoFar) (f g : FeedState) (before after : SourceSeen) (l m : Listener) → (h : IsPumpHeard so f g before after l m)
    → IsVerdict reader_of_other (so.bytes ++ (h.bytes ++ h.lost)) (with_items so.items h.now)
total_heard so f g before after l m h = total reader_of_other so.bytes so.items f g h.bytes h.lost h.given h.now h.listening.read h.pumped

pub ended : (so : SoFar) (f g : FeedState) (before after : SourceSeen) (l m : Listener) → (h : IsPumpHeard so f g before after l m)
    → (IsSome h.now.refusal ⊎ EndRead before after) → IsTurnHeard so before after g m (Ok true)
ended so f g before after l m h s =
    (h.bytes ++ h.lost, with_items so.items h.now, h.consumed, total_heard so f g before after l m h, heard_all so f g before after l m h, inr s)

pub turned : (so : SoFar) (f g : FeedState) (before after : SourceSeen) (l m : Listener) (k : Bool) → (h : IsPumpHeard so f g before after l m)
    → (k ≡ true → IsSome m.reserved × IsSome m.metadata × IsSome m.donthave) × (k ≡ false → IsUnknown m.reserved m.metadata m.donthave)
    → (h.lost ≡ []) × (h.now.refusal ≡ None) → IsTurnHeard so before after g m (Ok k)
turned so f g before after l m false h known free = (
  h.bytes ++ h.lost,
  h.given,
  h.consumed,
  record {
    read = read_more free.0 free.1 h.listening.read h.pumped;
    heard = heard_more so.items h.given l m h.listening.heard h.took;
    unknown = known.1 refl;
    now = with_items so.items h.now;
    is = total_heard so f g before after l m h;
    unrefused = free.1;
  },
)
turned so f g before after l m true h known free = (
  h.bytes ++ h.lost,
  with_items so.items h.now,
  h.consumed,
  total_heard so f g before after l m h,
  heard_all so f g before after l m h,
  inl (known.0 refl),
)

refused_inside : (o : Option Refusal) (c : Bool) (e r : Refusal) → (elim o [ Some q ↦ Some q | None ↦ if c then None else Some e ]) ≡ Some r → IsSome o
    ⊎ (r.reason ≡ e.reason)
refused_inside (Some q) c e r is = inl refl
refused_inside None true e r is = absurd cc
refused_inside None false e r is = let same : e ≡ r = cc in inr (ap (λ (q : Refusal). q.reason) (sym same))

-- a refusal is one that stays, or stands at the stream's end alone
pub refused_or_ended : (E : Type 0) (v : Outcome) (r : Refusal) → verdict_at_end v ≡ Err (finish.Refused r) → (r.reason ≡ EndInside → E) → IsSome v.refusal ⊎ E
refused_or_ended E v r e at_end =
    elim (refused_inside v.refusal (is_complete v) (end_inside v) r (refused_by (refusal_at_end v) (v.start + length v.tail) r e)) [
      | inl some ↦ inl some
      | inr inside ↦ inr (at_end inside)
    ]

-- ---- the turns

pub record IsListeningTo (left left' : Option (List ℕ)) (f : FeedState) (l : Listener) : Type 0 where
  pub bytes : List ℕ
  pub items : List (ℕ × Item)
  pub consumed : Consumes left left' bytes
  pub listening : IsListening bytes items f l

pub listening_first : (left : Option (List ℕ)) (f : FeedState) (l : Listener) → f ≡ record {
  stage = stage.Handshake reader_of_other;
  held = [];
  refused = None;
} → IsHeard [] l → IsListeningTo left left f l
listening_first left f l e h =
    record {
      bytes = [];
      items = [];
      consumed = Consumes-nil left;
      listening = record {
        read = starts reader_of_other f (omega arith) e;
        heard = h;
        unknown = inl h.0;
        now = stopped (stage.Handshake reader_of_other) [] None;
        is = open_comes (stage.Handshake reader_of_other) [] (omega arith)
            (hand_open reader_of_other);
        unrefused = refl;
      };
    }

pub listening_more : (left : Option (List ℕ)) (before after : SourceSeen) (f g : FeedState) (l m : Listener) → (t : IsListeningTo left before.left f l)
    → IsTurnHeard (so_far t.bytes t.items) before after g m (Ok false) → IsListeningTo left after.left g m
listening_more left before after f g l m t n = record {
  bytes = t.bytes ++ n.0;
  items = t.items ++ n.1;
  consumed = Consumes-trans left before.left after.left t.bytes n.0 t.consumed n.2;
  listening = n.3;
}

-- what holds of the verdict of every stream
pub record AreLaws : Type 0 where
  pub one : VerdictIsOne
  pub refused : RefusalStays
  pub items : ItemsStay

-- what was heard is the answer
settled : {D E : Type 0} {r : Result Announced OtherError} (b : List ℕ) (v : Outcome) (l : Listener) → AreLaws
    → IsVerdict reader_of_other b v → IsHeard v.items l → IsSettled D l v → (D → E)
    → r ≡ ok_or (announced l.reserved l.metadata l.donthave) NoHandshake → ((later : List ℕ) → IsSaidIn (b ++ later) r) ⊎ (E × IsSaidIn b r)
settled {r} b v l laws is h (inl known) to answer = inl (λ later w isw.
    let s = laws.items reader_of_other b later v w (omega arith) is isw in
    subst (λ (xs : List (ℕ × Item)). IsSaidBy xs r) (sym s.1) (said_by (v.items ++ s.0) l r (heard_still v.items s.0 l h known.0 known.1 known.2) answer))
settled {r} b v l laws is h (inr (inl some)) to answer = inl (λ later w isw.
    let same : w ≡ record v { tail = v.tail ++ later } = laws.one reader_of_other (b ++ later) w (record v { tail = v.tail ++ later }) (omega arith) isw
    (laws.refused reader_of_other b later v (omega arith) is some) in
    subst (λ (u : Outcome). IsSaidBy u.items r) (sym same) (said_by v.items l r h answer))
settled {r} b v l laws is h (inr (inr d)) to answer = inr (
  to d,
  λ w isw. subst (λ (u : Outcome). IsSaidBy u.items r) (laws.one reader_of_other b v w (omega arith) is isw) (said_by v.items l r h answer),
)

pub learnt : {f : FeedState} {l : Listener} {r : Result Announced OtherError} (start before after : SourceSeen) (g : FeedState) (m : Listener) → AreLaws
    → (t : IsListeningTo start.left before.left f l) → IsTurnHeard (so_far t.bytes t.items) before after g m (Ok true)
    → (EndRead before after → EndRead start after) → r ≡ ok_or (announced m.reserved m.metadata m.donthave) NoHandshake → IsLearnt start after r
learnt start before after g m laws t n to answer = (
  t.bytes ++ n.0,
  Consumes-trans start.left before.left after.left t.bytes n.0 t.consumed n.2,
  settled (t.bytes ++ n.0) n.1 m laws n.3 n.4 n.5 to answer,
)

-- a fault says nothing
pub not_learnt : (before after : SourceSeen) (b : List ℕ) (f : ToolFault) → Consumes before.left after.left b → IsLearnt before after (Err (Fault f))
not_learnt before after b f c = (b, c, inl (λ later v is. tt))

pub fault_of_turn : (start before after : SourceSeen) (f g : FeedState) (l m : Listener) (e : ToolFault)
    → (t : IsListeningTo start.left before.left f l) → IsTurnHeard (so_far t.bytes t.items) before after g m (Err e) → IsLearnt start after (Err (Fault e))
fault_of_turn start before after f g l m e t n =
    not_learnt start after (t.bytes ++ n.0) e (Consumes-trans start.left before.left after.left t.bytes n.0 t.consumed n.1)

answer_has_no_fault : (o : Option Announced) (before after : SourceSeen) → after.failed ≡ before.failed → IsFaultOfOther (ok_or o NoHandshake) before after
answer_has_no_fault None before after calm = calm
answer_has_no_fault (Some a) before after calm = calm

pub no_fault : (o : Option Announced) (r : Result Announced OtherError) (before after : SourceSeen) → r ≡ ok_or o NoHandshake
    → after.failed ≡ before.failed → IsFaultOfOther r before after
no_fault o r before after e calm =
    subst (λ (a : Result Announced OtherError). IsFaultOfOther a before after) (sym e) (answer_has_no_fault o before after calm)

pub grew_since : (a b c : ℕ) → b ≡ a → Grew b c → Grew a c
grew_since a b c e g = subst (λ (n : ℕ). Grew n c) e g

pub read_failed : (f : ToolFault) (before after : SourceSeen) → f ≡ faults.Read → ReadFailed before after → IsFaultOfOther (Err (Fault f)) before after
read_failed f before after e g = subst (λ (x : ToolFault). IsFaultOfOther (Err (Fault x)) before after) (sym e) g

-- ---- what is read

unknown_items : (xs : List (ℕ × Item)) (l : Listener) → IsHeard xs l → IsUnknown l.reserved l.metadata l.donthave
    → IsUnknown (first_of reserved_of xs) (first_id metadata_name xs) (first_id donthave_name xs)
unknown_items xs l h (inl e) = inl (sym h.0 ∙ e)
unknown_items xs l h (inr (inl e)) = inr (inl (sym h.1 ∙ e))
unknown_items xs l h (inr (inr e)) = inr (inr (sym h.2 ∙ e))

-- where the listener waits, what was read leaves the answer open
pub waits : (left left' : Option (List ℕ)) (f : FeedState) (l : Listener) → VerdictIsOne → IsListeningTo left left' f l → IsOpenAfter left left'
waits left left' f l one t =
    let s = t.listening in (
      t.bytes,
      t.consumed,
      λ v is.
          let same : s.read.now ≡ v = one reader_of_other t.bytes s.read.now v (omega arith) s.read.is is in
          let as_now : v ≡ s.now = one reader_of_other t.bytes v s.now (omega arith) is s.is in (
            (rw (sym s.read.items ∙ ap (λ (w : Outcome). w.items) same) at (unknown_items t.items l s.heard s.unknown)),
            ap (λ (w : Outcome). w.refusal) as_now ∙ s.unrefused,
          ),
    )

-- before the first read
pub nothing_read : (left : Option (List ℕ)) → VerdictIsOne → IsOpenAfter left left
nothing_read left one =
    let f : FeedState = record { stage = stage.Handshake reader_of_other; held = []; refused = None } in
    let l : Listener = record { reserved = None; metadata = None; donthave = None; items = 0 } in
    waits left left f l one (listening_first left f l refl (refl, refl, refl))
