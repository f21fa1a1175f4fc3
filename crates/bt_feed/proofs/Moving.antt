-- What moves from a source through a feed into a sink.
use Rattle.std.proofs.Common.{◌≡◌, ℕ, ◌+◌, ◌≤◌, Bool, true, false, if◌then◌else◌, List, [], ◌∷◌, ◌++◌, length, take, drop, Option, Some, None, Result, Ok}
use Rattle.std.proofs.Common.{Err, refl, sym, ap, subst, inl, inr, ◌∙◌, arith}
use Rattle.std.proofs.lemmas.List.{append-nil, append_assoc, length-drop, take_all, take-append-drop}
use Rattle.std.proofs.Math.Seq.{take-add}
use Rattle.std.specs.Io.KnownBytes.{Consumes}
use Rattle.bt_io.specs.Seen.{SourceSeen}
use Rattle.bt_wire.specs.declared.item.Item.{Item}
use Rattle.bt_wire.specs.declared.item.Refusal.{Refusal}
use Rattle.bt_feed.specs.Stages.{start_of, number_of, limit_of, is_closed, IsItem, stage_after, Spells, Comes, stopped}
use Rattle.bt_feed.specs.Feeds.{FeedState, taken, pushed}
use Rattle.bt_feed.specs.Answers.{IsAnswer, after, finish_of, unless_refused}
use Rattle.bt_feed.specs.Transcripts.{with_items}
use Rattle.bt_feed.specs.Pumps.{Took, IsMissed, IsGiven, IsFed, IsPumped, IsPumpEnd, IsOpenTo, IsEnd, IsPieceEnd, IsVerdictAtEnd, IsEndOf, IsSinkFault}
use Rattle.bt_feed.specs.Laws.{verdict_at_end}
use Rattle.bt_feed.specs.Progress.{IsFeed}
use Rattle.bt_feed.specs.declared.pumping.PumpError.{PumpError}
use Rattle.bt_feed.specs.declared.sink.SinkFault.{SinkFault}
use Rattle.bt_feed.specs.declared.pumping.PumpError.TheVariants as error
use Rattle.bt_feed.specs.declared.stage.Stage.{Stage}
use Rattle.bt_feed.specs.declared.stage.Stage.TheVariants as stage
use Rattle.bt_feed.proofs.Closed.{fault_more, fault_closed, open_parts}
use Rattle.bt_feed.proofs.FeedLaws.{finish_verdict}
use Rattle.bt_feed.proofs.Reasons.{no_fault_ends}
use Rattle.bt_wire.specs.Streams.{Outcome, is_complete, end_inside}
use Rattle.bt_wire.specs.declared.fault.Reason.TheVariants.{EndInside}
use Rattle.bt_feed.specs.declared.view.Finish.TheVariants as finish
use Rattle.bt_wire.specs.declared.item.Item.TheVariants as items
use Rattle.std.specs.Prelude.{IfSome}
use Rattle.bt_feed.proofs.Coming.{item_comes, fault_comes, open_comes}
use Rattle.bt_feed.proofs.Reading.{IsPushed, taken_all}

-- ---- items

pub took_both : {S : Type 0} (R : S → ℕ × Item → S → Type 0) (a b c : S) (xs ys : List (ℕ × Item)) → Took R a xs b → Took R b ys c → Took R a (xs ++ ys) c
took_both R a b c [] ys p q = subst (λ s. Took R s ys c) p q
took_both R a b c (x ∷ xs) ys p q = (p.0, p.1, took_both R p.0 b c xs ys p.2 q)

pub took_more : {S : Type 0} (R : S → ℕ × Item → S → Type 0) (a b c : S) (xs : List (ℕ × Item)) (x : ℕ × Item) → Took R a xs b → R b x c
    → Took R a (xs ++ x ∷ []) c
took_more R a b c xs x p q = took_both R a b c xs (x ∷ []) p (c, q, refl)

pub missed_more : {S : Type 0} (takes : S → ℕ × Item → S → Type 0) (misses : S → ℕ × Item → SinkFault → S → Type 0) (e : SinkFault) (a b c : S)
    (xs ys : List (ℕ × Item)) → Took takes a xs b → IsMissed takes misses e b ys c → IsMissed takes misses e a (xs ++ ys) c
missed_more takes misses e a b c xs ys p q =
    (xs ++ q.0, q.1, q.2, ap (λ (l : List (ℕ × Item)). xs ++ l) q.3 ∙ sym (append_assoc xs q.0 (q.1 ∷ [])), took_both takes a b q.2 xs q.0 p q.4, q.5)

pub given_more : {S : Type 0} (A : Type 0) (takes : S → ℕ × Item → S → Type 0) (misses : S → ℕ × Item → SinkFault → S → Type 0) (a b c : S)
    (xs ys : List (ℕ × Item)) (e : PumpError)
    → Took takes a xs b → IsGiven {A = A} takes misses b ys c (Err e) → IsGiven {A = ℕ} takes misses a (xs ++ ys) c (Err e)
given_more A takes misses a b c xs ys (error.Refused r) p q = took_both takes a b c xs ys p q
given_more A takes misses a b c xs ys error.ReadFault p q = took_both takes a b c xs ys p q
given_more A takes misses a b c xs ys error.Turns p q = took_both takes a b c xs ys p q
given_more A takes misses a b c xs ys (error.Sink e) p q = missed_more takes misses e a b c xs ys p q

pub given_end : {S : Type 0} (takes : S → ℕ × Item → S → Type 0) (misses : S → ℕ × Item → SinkFault → S → Type 0) (a b : S) (xs : List (ℕ × Item))
    (f : FeedState) (r : Result ℕ PumpError) → IsEndOf f r → Took takes a xs b → IsGiven takes misses a xs b r
given_end takes misses a b xs f (Ok n) h p = p
given_end takes misses a b xs f (Err (error.Refused r)) h p = p
given_end takes misses a b xs f (Err (error.Sink e)) h p = absurd h.verdict
given_end takes misses a b xs f (Err error.ReadFault) h p = p
given_end takes misses a b xs f (Err error.Turns) h p = p

-- ---- bytes through a feed

-- items that follow others
pub spells_both : (t : Stage) (xs : List (ℕ × Item)) (a : List ℕ) (u : Stage) (held : List ℕ) (ys : List (ℕ × Item)) (b : List ℕ) (w : Stage) (rest : List ℕ)
    → Spells t xs a u held → Spells u ys (held ++ b) w rest → Spells t (xs ++ ys) (a ++ b) w rest
spells_both t [] a u held ys b w rest p q =
    let P : Stage → Type 0 = λ s. Spells s ys (a ++ b) w rest in
    let Q : List ℕ → Type 0 = λ l. Spells u ys (l ++ b) w rest in
    subst P p.0 (subst Q (sym p.1) q)
spells_both t (x ∷ xs) a u held ys b w rest p q =
    let later = p.1.1 in
    let parts : a ++ b ≡ p.1.0 ++ (later ++ b) = ap (λ (l : List ℕ). l ++ b) p.1.2 ∙ append_assoc p.1.0 later b in
    (p.0, (p.1.0, later ++ b, parts, p.1.3, spells_both (stage_after t (length p.1.0) x.1) xs later u held ys b w rest p.1.4 q))

pub fed_none : (f : FeedState) → IsFed f [] [] f
fed_none f = record { comes = λ later v k. k; spells = (refl, append-nil f.held) }

pub fed_both : (f m g : FeedState) (a b : List ℕ) (xs ys : List (ℕ × Item)) → IsFed f a xs m → IsFed m b ys g → IsFed f (a ++ b) (xs ++ ys) g
fed_both f m g a b xs ys p q = record {
  comes = λ later v k.
      let P : List ℕ → Type 0 = λ bytes. Comes f.stage (f.held ++ bytes) (with_items (xs ++ ys) v) in
      let Q : List (ℕ × Item) → Type 0 = λ zs. Comes f.stage (f.held ++ (a ++ (b ++ later))) (record v { items = zs }) in
      subst P (sym (append_assoc a b later)) (subst Q (sym (append_assoc xs ys v.items)) (p.comes (b ++ later) (with_items ys v) (q.comes later v k)));
  spells =
      let P : List ℕ → Type 0 = λ l. Spells f.stage (xs ++ ys) l g.stage g.held in
      subst P (append_assoc f.held a b) (spells_both f.stage xs (f.held ++ a) m.stage m.held ys b g.stage g.held p.spells q.spells);
}

-- bytes alone went in
pub fed_on : (f m g : FeedState) (a b : List ℕ) (xs : List (ℕ × Item)) → IsFed f a xs m → IsFed m b [] g → IsFed f (a ++ b) xs g
fed_on f m g a b xs p q =
    let P : List (ℕ × Item) → Type 0 = λ zs. IsFed f (a ++ b) zs g in
    subst P (append-nil xs) (fed_both f m g a b xs [] p q)

-- a push moves bytes alone
pub fed_push : (f p : FeedState) (rest : List ℕ) (n : ℕ) → n ≡ taken f rest → p ≡ pushed f rest → IsFed f (take n rest) [] p
fed_push f p rest n count is =
    let P : FeedState → Type 0 = λ g. IsFed f (take n rest) [] g in
    let Q : ℕ → Type 0 = λ k. IsFed f (take k rest) [] (pushed f rest) in
    subst P (sym is) (subst Q (sym count) (record {
      comes = λ later v k. let R : List ℕ → Type 0 = λ b. Comes f.stage b v in subst R (append_assoc f.held (take (taken f rest) rest) later) k;
      spells = (refl, refl);
    }))

-- a taken item goes, with its bytes
pub fed_take : (p g : FeedState) (item : Item) → limit_of p.stage ≤ 1048576 → IsItem p.stage p.held item → g ≡ after p (Ok (Some item))
    → IsFed p [] ((start_of p.stage, item) ∷ []) g
fed_take p g item le is after_is =
    let P : FeedState → Type 0 = λ s. IsFed p [] ((start_of p.stage, item) ∷ []) s in
    subst P (sym after_is) (record {
      comes = λ later v k. item_comes p.stage p.held later item v (omega arith) is k;
      spells = (refl, (p.held, [], refl, is, (refl, refl)));
    })

-- ---- a piece

-- the bytes up to the n-th after the place
pub front : (piece rest : List ℕ) (at n : ℕ) → rest ≡ drop at piece → take at piece ++ take n rest ≡ take (at + n) piece
front piece rest at n e = ap (λ (l : List ℕ). take at piece ++ take n l) e ∙ sym (take-add at n piece)

pub fed_front : (f s p : FeedState) (piece rest : List ℕ) (at n : ℕ) (xs : List (ℕ × Item)) → IsFed f (take at piece) xs s → IsPushed s p piece rest at n
    → IsFed f (take (at + n) piece) xs p
fed_front f s p piece rest at n xs m h =
    let P : List ℕ → Type 0 = λ b. IsFed f b xs p in
    let Q : List (ℕ × Item) → Type 0 = λ zs. IsFed f (take at piece ++ take n rest) zs p in
    subst P (front piece rest at n h.rest_is) (subst Q (append-nil xs) (fed_both f s p (take at piece) (take n rest) xs [] m
    (fed_push s p rest n h.taken_is h.held_is)))

pub fed_item : {f s p g : FeedState} {piece rest : List ℕ} {at n : ℕ} {xs : List (ℕ × Item)} {answer : Result (Option Item) Refusal} {item : Item}
    → IsFed f (take at piece) xs s → IsPushed s p piece rest at n → limit_of p.stage ≤ 1048576
    → answer ≡ Ok (Some item) → IsAnswer p answer → g ≡ after p answer → IsFed f (take (at + n) piece) (xs ++ (start_of p.stage, item) ∷ []) g
fed_item {f} {s} {p} {g} {piece} {rest} {at} {n} {xs} {answer} {item} m h le e a after_is =
    let P : Result (Option Item) Refusal → Type 0 = λ x. IsAnswer p x in
    let Q : List ℕ → Type 0 = λ b. IsFed f b (xs ++ (start_of p.stage, item) ∷ []) g in
    subst Q (append-nil (take (at + n) piece)) (fed_both f p g (take (at + n) piece) [] xs ((start_of p.stage, item) ∷ [])
    (fed_front f s p piece rest at n xs m h) (fed_take p g item le (subst P e a) (after_is ∙ ap (after p) e)))

-- where the feed waits all of the piece is taken
pub fed_all : {f s p g : FeedState} {piece rest : List ℕ} {at n : ℕ} {xs : List (ℕ × Item)} {answer : Result (Option Item) Refusal} → at ≤ length piece
    → IsFed f (take at piece) xs s → IsPushed s p piece rest at n
    → answer ≡ Ok None → IsAnswer p answer → g ≡ after p answer → IsFed f piece xs g × (is_closed g.stage g.held ≡ false)
fed_all {f} {s} {p} {g} {piece} {rest} {at} {n} {xs} {answer} le m h e a after_is =
    let P : Result (Option Item) Refusal → Type 0 = λ x. IsAnswer p x in
    let opens : is_closed p.stage p.held ≡ false = subst P e a in
    let Q : FeedState → Type 0 = λ x. is_closed x.stage x.held ≡ false in
    let full : n ≡ length rest = h.taken_is ∙ taken_all s rest (subst Q h.held_is opens) in
    let same : g ≡ p = after_is ∙ ap (after p) e in
    let all : take (at + n) piece ≡ piece = take_all (at + n) piece (omega (arith, ap length h.rest_is, length-drop at piece)) in
    let R : List ℕ → Type 0 = λ b. IsFed f b xs p in
    let S : FeedState → Type 0 = λ x. IsFed f piece xs x × (is_closed x.stage x.held ≡ false) in
    subst S (sym same) (subst R all (fed_front f s p piece rest at n xs m h), opens)

-- a refusal leaves the bytes
pub fed_refused : {f s p g : FeedState} {piece rest : List ℕ} {at n : ℕ} {xs : List (ℕ × Item)} {answer : Result (Option Item) Refusal} {r : Refusal}
    → IsFed f (take at piece) xs s → IsPushed s p piece rest at n
    → answer ≡ Err r → IsAnswer p answer → g ≡ after p answer → IsFed f (take (at + n) piece) xs g × IsAnswer g (Err r)
fed_refused {f} {s} {p} {g} {piece} {rest} {at} {n} {xs} {answer} {r} m h e a after_is =
    let P : Result (Option Item) Refusal → Type 0 = λ x. IsAnswer p x in
    let S : FeedState → Type 0 = λ x. IsFed f (take (at + n) piece) xs x × IsAnswer x (Err r) in
    let before = fed_front f s p piece rest at n xs m h in
    subst S (sym (after_is ∙ ap (after p) e)) (record { comes = before.comes; spells = before.spells }, subst P e a)

-- ---- the feed's limit stays

limit_after : (t : Stage) (size : ℕ) (item : Item) → limit_of (stage_after t size item) ≡ limit_of t
limit_after (stage.Handshake own) size (items.Handshake h) = refl
limit_after (stage.Message c o s n) size (items.Message m) = refl
limit_after (stage.Handshake own) size (items.Message m) = refl
limit_after (stage.Message c o s n) size (items.Handshake h) = refl

limit_of_after : (p : FeedState) (answer : Result (Option Item) Refusal) → limit_of (after p answer).stage ≡ limit_of p.stage
limit_of_after p (Ok None) = refl
limit_of_after p (Ok (Some item)) = limit_after p.stage (length p.held) item
limit_of_after p (Err r) = refl

pub limit_kept : (p g : FeedState) (answer : Result (Option Item) Refusal) → g ≡ after p answer → limit_of p.stage ≤ 1048576 → limit_of g.stage ≤ 1048576
limit_kept p g answer e le = omega (arith, ap (λ (x : FeedState). limit_of x.stage) e, limit_of_after p answer, le)

-- ---- to the verdict

pumped : (f g : FeedState) (bytes lost : List ℕ) (xs : List (ℕ × Item)) (last : Outcome) → IsFed f bytes xs g → Comes g.stage (g.held ++ lost) last
    → last.items ≡ [] → last.number ≡ number_of g.stage → IsPumped f bytes lost xs g (with_items xs last)
pumped f g bytes lost xs last m k none same = record {
  fed = m;
  comes = m.comes lost last k;
  items = ap (λ (l : List (ℕ × Item)). xs ++ l) none ∙ append-nil xs;
  number = same;
}

pub ended_refused : (f g : FeedState) (bytes lost : List ℕ) (xs : List (ℕ × Item)) (r : Refusal) → IsFed f bytes xs g → limit_of g.stage ≤ 1048576
    → IsAnswer g (Err r) → IsPumpEnd f bytes lost xs g (Err (error.Refused r))
ended_refused f g bytes lost xs r m le a =
    let last = stopped g.stage (g.held ++ lost) (Some r) in
    let P : Refusal → Type 0 = λ x. Comes g.stage (g.held ++ lost) (stopped g.stage (g.held ++ lost) (Some x)) in
    let comes = subst P (sym a.2) (fault_comes g.stage (g.held ++ lost) a.0 (omega (arith, le)) (fault_more g.stage g.held lost a.0 a.1)) in (
      with_items xs last,
      pumped f g bytes lost xs last m comes refl refl,
      (λ e. absurd (no_fault_ends g.stage g.held a.0 a.1 (sym (ap (λ (x : Refusal). x.reason) a.2) ∙ e))),
      refl,
      inr a,
    )

pub ended_open : (f g : FeedState) (bytes : List ℕ) (xs : List (ℕ × Item)) → IsFed f bytes xs g → limit_of g.stage ≤ 1048576 → is_closed g.stage g.held
    ≡ false → (v : Outcome) × IsPumped f bytes [] xs g v × (v.refusal ≡ None)
ended_open f g bytes xs m le e =
    let held = append-nil g.held in
    let last = stopped g.stage (g.held ++ []) None in (
      with_items xs last,
      pumped f g bytes [] xs last m (open_comes g.stage (g.held ++ []) (omega (arith, le)) (ap (is_closed g.stage) held ∙ e)) refl refl,
      refl,
    )

-- where a feed waits, nothing that went into it is refused
pub open_to : (f g : FeedState) (a b : SourceSeen) (bytes : List ℕ) (xs : List (ℕ × Item)) → IsFed f bytes xs g → limit_of g.stage ≤ 1048576
    → is_closed g.stage g.held ≡ false → Consumes a.left b.left bytes → IsOpenTo f a b
open_to f g a b bytes xs m le e c =
    let o = ended_open f g bytes xs m le e in
    let P : List ℕ → Type 0 = λ b. Comes f.stage (f.held ++ b) o.0 in
    (bytes, o.0, c, subst P (append-nil bytes) o.1.comes, o.2)

ended_as : (f g : FeedState) (bytes : List ℕ) (xs : List (ℕ × Item)) (r : Result ℕ PumpError) (last : Outcome)
    → IsPumped f bytes [] xs g (with_items xs last) → IsVerdictAtEnd last r → IsEnd r → IsPumpEnd f bytes [] xs g r
ended_as f g bytes xs (Ok n) last p v e = (with_items xs last, p, refl, v)
ended_as f g bytes xs (Err (error.Refused r)) last p v e = (with_items xs last, p, (λ k. refl), v, inl e)
ended_as f g bytes xs (Err (error.Sink e)) last p v k = absurd v
ended_as f g bytes xs (Err error.ReadFault) last p v k = absurd v
ended_as f g bytes xs (Err error.Turns) last p v k = absurd v

pub ended_last : (f g : FeedState) (bytes : List ℕ) (xs : List (ℕ × Item)) (r : Result ℕ PumpError) → IsFed f bytes xs g → IsEndOf g r
    → IsPumpEnd f bytes [] xs g r
ended_last f g bytes xs r m h =
    let P : List ℕ → Type 0 = λ b. Comes g.stage b h.last in
    ended_as f g bytes xs r h.last (pumped f g bytes [] xs h.last m (subst P (sym (append-nil g.held)) h.comes) h.no_items h.number) h.verdict h.at_end

-- where a piece stops: what went into the feed, what is lost, and how it ended
pub record IsStop (f : FeedState) (before piece : List ℕ) (xs : List (ℕ × Item)) (g : FeedState) (e : PumpError) : Type 0 where
  pub bytes : List ℕ
  pub lost : List ℕ
  pub parts : before ++ piece ≡ bytes ++ lost
  pub few : length lost ≤ length piece
  pub end : IsPumpEnd f bytes lost xs g (Err e)

cut : (before piece : List ℕ) (n : ℕ) → before ++ piece ≡ (before ++ take n piece) ++ drop n piece
cut before piece n = ap (λ (l : List ℕ). before ++ l) (sym (take-append-drop n piece)) ∙ sym (append_assoc before (take n piece) (drop n piece))

pub stopped_by : (f s g : FeedState) (before piece : List ℕ) (xs ys : List (ℕ × Item)) (e : PumpError) → IsFed f before xs s → limit_of g.stage ≤ 1048576
    → IsPieceEnd s piece ys g (Err e) → IsStop f before piece (xs ++ ys) g e
stopped_by f s g before piece xs ys (error.Refused r) m le h = record {
  bytes = before ++ take h.0 piece;
  lost = drop h.0 piece;
  parts = cut before piece h.0;
  few = omega (arith, length-drop h.0 piece);
  end = ended_refused f g (before ++ take h.0 piece) (drop h.0 piece) (xs ++ ys) r (fed_both f s g before (take h.0 piece) xs ys m h.1) le h.2;
}
stopped_by f s g before piece xs ys (error.Sink e) m le h = record {
  bytes = before ++ take h.0 piece;
  lost = drop h.0 piece;
  parts = cut before piece h.0;
  few = omega (arith, length-drop h.0 piece);
  end = fed_both f s g before (take h.0 piece) xs ys m h.1;
}
stopped_by f s g before piece xs ys error.ReadFault m le h = absurd h
stopped_by f s g before piece xs ys error.Turns m le h = absurd h

pub not_at_end : (s g : FeedState) (piece : List ℕ) (ys : List (ℕ × Item)) (e : PumpError) → IsPieceEnd s piece ys g (Err e) → IsEnd (Err e) → ⊥
not_at_end s g piece ys (error.Refused r) h e = no_fault_ends g.stage g.held h.2.0 h.2.1 (sym (ap (λ (x : Refusal). x.reason) h.2.2) ∙ e)
not_at_end s g piece ys (error.Sink f) h e = absurd e
not_at_end s g piece ys error.ReadFault h e = absurd h
not_at_end s g piece ys error.Turns h e = absurd h

pub sink_fault : (e : PumpError) → IsSinkFault {A = Unit {0}} (Err e) → IsSinkFault {A = ℕ} (Err e)
sink_fault (error.Refused r) h = absurd h
sink_fault (error.Sink f) h = h
sink_fault error.ReadFault h = absurd h
sink_fault error.Turns h = absurd h

pub no_sink_fault : (e : PumpError) → IsSinkFault {A = ℕ} (Err e) → IsSinkFault {A = Unit {0}} (Err e)
no_sink_fault (error.Refused r) h = absurd h
no_sink_fault (error.Sink f) h = h
no_sink_fault error.ReadFault h = absurd h
no_sink_fault error.Turns h = absurd h

-- ---- the end

not_refused : (f : FeedState) (o : Option Refusal) → f.refused ≡ o → IfSome o (λ r. IsAnswer f (Err r)) → is_closed f.stage f.held ≡ false → f.refused ≡ None
not_refused f None e a waits = e
not_refused f (Some r) e a waits = absurd (let closed = fault_closed f.stage f.held a.0 a.1 in cc)

-- where nothing is refused before, the verdict at the end stands only there
ends_inside : (v : Outcome) (complete : Bool) (n : ℕ) (r : Refusal) → unless_refused (if complete then None else Some (end_inside v)) (Ok n)
    ≡ Err (finish.Refused r) → r.reason ≡ EndInside
ends_inside v true n r h = absurd cc
ends_inside v false n r h = let e : end_inside v ≡ r = cc in sym (ap (λ (x : Refusal). x.reason) e)

ends_only : (t : Stage) (b : List ℕ) (r : Result ℕ PumpError) → IsVerdictAtEnd (stopped t b None) r → IsEnd r
ends_only t b (Ok n) h = tt
ends_only t b (Err (error.Refused r)) h = ends_inside (stopped t b None) (is_complete (stopped t b None)) (start_of t + length b) r h
ends_only t b (Err (error.Sink e)) h = absurd h
ends_only t b (Err error.ReadFault) h = absurd h
ends_only t b (Err error.Turns) h = absurd h

-- a feed that holds no whole item has its verdict there
pub end_of_open : (f : FeedState) (r : Result ℕ PumpError) → IsFeed f → is_closed f.stage f.held ≡ false
    → ((v : Outcome) → finish_of f ≡ verdict_at_end v → IsVerdictAtEnd v r) → IsEndOf f r
end_of_open f r h e verdict =
    let last = stopped f.stage f.held None in
    let comes = open_comes f.stage f.held (omega (arith, h.limit)) e in
    let is = verdict last (finish_verdict f last (omega (arith, h.limit)) h.numbered (not_refused f f.refused refl h.refused e)
    (open_parts f.stage f.held e).1 comes) in
    record {
      last = last;
      comes = comes;
      no_items = refl;
      number = refl;
      verdict = is;
      at_end = ends_only f.stage f.held r is;
    }
