-- The outcome of messages that are handed on where they lie.
use Rattle.std.proofs.Common.{◌≡◌, ℕ, ◌+◌, ◌-◌, ◌^◌, ◌≤◌, ◌<◌, List, [], ◌∷◌, ◌++◌, length, take, drop, Option, None, Result, Ok, Err, sym, ap, subst, ◌∙◌, refl}
use Rattle.std.proofs.Common.{arith}
use Rattle.std.specs.Prelude.{IfSome, MatchResult}
use Rattle.std.specs.List.{slice_range}
use Rattle.std.proofs.lemmas.List.{append-nil, length-take-le}
use Rattle.bt_wire.specs.declared.context.Context.{Context}
use Rattle.bt_wire.specs.declared.context.Order.{Order}
use Rattle.bt_wire.specs.declared.item.Item.{Item}
use Rattle.bt_wire.specs.declared.item.Item.TheVariants as items
use Rattle.bt_wire.specs.declared.item.Refusal.{Refusal}
use Rattle.bt_wire.specs.Messages.{Message}
use Rattle.bt_wire.specs.declared.fault.Header.TheVariants as headers
use Rattle.bt_wire.specs.Headers.{header_of, IsRead}
use Rattle.bt_wire.specs.Messages.{order_after}
use Rattle.bt_feed.specs.declared.stage.Stage.{Stage}
use Rattle.bt_feed.specs.declared.stage.Stage.TheVariants as stage
use Rattle.bt_feed.specs.declared.progress.Progress.{Progress}
use Rattle.bt_feed.specs.Stages.{IsNumbered, start_of, number_of, limit_of, capacity_of, IsItem, Spells, Comes}
use Rattle.bt_feed.specs.Feeds.{FeedState, waiting, held_of, state_of}
use Rattle.bt_feed.specs.Answers.{IsAnswer}
use Rattle.bt_feed.specs.Progress.{IsPartial, HasWindow, IsProgress}
use Rattle.bt_feed.specs.Transcripts.{with_items}
use Rattle.bt_feed.specs.declared.sink.SinkFault.{SinkFault}
use Rattle.bt_feed.specs.Pumps.{Took, IsMissed, IsHanded, IsFed}
use Rattle.bt_feed.proofs.Coming.{item_comes}
use Rattle.bt_feed.proofs.Moving.{front, fed_both, missed_more, took_both, took_more}
use Rattle.bt_feed.proofs.Windows.{window_taken}

-- a message at the front of the bytes
passed_one : (c : Context) (o : Order) (s n k : ℕ) (rest : List ℕ) (m : Message) → s < 2 ^ 62 → c.limit ≤ 1048576 → k ≤ length rest → IsRead c o (take k rest) m
    → IsFed (waiting (stage.Message c o s n)) (take k rest) ((s, items.Message m) ∷ []) (waiting (stage.Message c (order_after o m) (s + k) (n + 1)))
passed_one c o s n k rest m lt le within h =
    let item : IsItem (stage.Message c o s n) (take k rest) (items.Message m) = (
      record { in_range = h.said.in_range; legal = h.said.legal; start = lt },
      sym h.spelled,
    ) in
    record {
      comes = λ later v q.
          let P : ℕ → Type 0 = λ size. Comes (stage.Message c (order_after o m) (s + size) (n + 1)) later v in
          item_comes (stage.Message c o s n) (take k rest) later (items.Message m) v (omega (arith, le)) item (subst P (sym (length-take-le k rest within)) q);
      spells =
          let R : ℕ → Type 0 = λ size. stage.Message c (order_after o m) (s + k) (n + 1) ≡ stage.Message c (order_after o m) (s + size) (n + 1) in
          (refl, (take k rest, [], sym (append-nil (take k rest)), item, (subst R (sym (length-take-le k rest within)) refl, refl)));
    }

pub front_range : (rest window : List ℕ) (k : ℕ) → window ≡ slice_range rest 0 k → window ≡ take k rest
front_range rest window k e = let same : k - 0 ≡ k = omega arith in e ∙ ap (λ (n : ℕ). take n rest) same

-- the bytes of a message at the front
pub window_there : (c : Context) (o : Order) (rest window : List ℕ) (k : ℕ) → header_of c o rest ≡ headers.Window k → k ≤ length rest → window ≡ take k rest
    → header_of c o window ≡ headers.Window (length window)
window_there c o rest window k e le is =
    let size : length window ≡ k = ap length is ∙ length-take-le k rest le in
    ap (header_of c o) is ∙ window_taken c o rest k e le ∙ ap headers.Window (sym size)

-- one more after those that the piece begins with
pub passed_more : {c : Context} {o o' : Order} {s n : ℕ} (at : ℕ) {k : ℕ} (count : ℕ) (piece : List ℕ)
    {rest window : List ℕ} {xs : List (ℕ × Item)} {m : Message} → rest ≡ drop at piece
    → window ≡ take k rest
    → IsFed (waiting (stage.Message c o s n)) (take at piece) xs (waiting (stage.Message c o' (s + at) (n + count)))
    → s + at < 2 ^ 62 → c.limit ≤ 1048576 → k ≤ length rest → IsRead c o' window m
    → IsFed (waiting (stage.Message c o s n)) (take (at + k) piece) (xs ++ (s + at, items.Message m) ∷ [])
    (waiting (stage.Message c (order_after o' m) (s + (at + k)) (n + (count + 1))))
passed_more {c} {o} {o'} {s} {n} at {k} count piece {rest} {window} {xs} {m} e is fed lt le within h =
    let W : List ℕ → Type 0 = λ b. IsRead c o' b m in
    let one = passed_one c o' (s + at) (n + count) k rest m lt le within (subst W is h) in
    let from = waiting (stage.Message c o s n) in
    let mid = waiting (stage.Message c o' (s + at) (n + count)) in
    let to = waiting (stage.Message c (order_after o' m) (s + at + k) (n + count + 1)) in
    let ys = xs ++ (s + at, items.Message m) ∷ [] in
    let P : List ℕ → Type 0 = λ b. IsFed from b ys to in
    let Q : ℕ → Type 0 = λ start. IsFed from (take (at + k) piece) ys (waiting (stage.Message c (order_after o' m) start (n + count + 1))) in
    let R : ℕ → Type 0 = λ number. IsFed from (take (at + k) piece) ys (waiting (stage.Message c (order_after o' m) (s + (at + k)) number)) in
    subst R (omega arith) (subst Q (omega arith) (subst P (front piece rest at k e) (fed_both from mid to (take at piece) (take k rest) xs
    ((s + at, items.Message m) ∷ []) fed one)))

-- as long as the sink took all
pub handed_all : {S : Type 0} (takes : S → ℕ × Item → S → Type 0) (misses : S → ℕ × Item → SinkFault → S → Type 0) (a b : S) (xs : List (ℕ × Item))
    (r : Result (Unit {0}) SinkFault) → r ≡ Ok tt → IsHanded takes misses a xs b r → Took takes a xs b
handed_all takes misses a b xs r e h =
    let P : Result (Unit {0}) SinkFault → Type 0 = λ x. IsHanded takes misses a xs b x in
    subst P e h

pub handed_more : {S : Type 0} (takes : S → ℕ × Item → S → Type 0) (misses : S → ℕ × Item → SinkFault → S → Type 0) (a b c : S) (xs : List (ℕ × Item))
    (x : ℕ × Item) (r : Result (Unit {0}) SinkFault) → r ≡ Ok tt → IsHanded takes misses a xs b r → takes b x c → IsHanded takes misses a (xs ++ x ∷ []) c r
handed_more takes misses a b c xs x r e h t =
    let P : Result (Unit {0}) SinkFault → Type 0 = λ y. IsHanded takes misses a (xs ++ x ∷ []) c y in
    subst P (sym e) (took_more takes a b c xs x (handed_all takes misses a b xs r e h) t)

-- what the answer for one item says
pub taken_at : {S : Type 0} (takes : S → ℕ × Item → S → Type 0) (misses : S → ℕ × Item → SinkFault → S → Type 0) (a b : S) (x : ℕ × Item)
    (r : Result (Unit {0}) SinkFault) → r ≡ Ok tt → MatchResult r (λ _. takes a x b) (λ e. misses a x e b) → takes a x b
taken_at takes misses a b x r is h =
    let P : Result (Unit {0}) SinkFault → Type 0 = λ y. MatchResult y (λ _. takes a x b) (λ e. misses a x e b) in
    subst P is h

pub missed_at : {S : Type 0} (takes : S → ℕ × Item → S → Type 0) (misses : S → ℕ × Item → SinkFault → S → Type 0) (a b : S) (x : ℕ × Item)
    (r : Result (Unit {0}) SinkFault) (e : SinkFault) → r ≡ Err e → MatchResult r (λ _. takes a x b) (λ f. misses a x f b) → misses a x e b
missed_at takes misses a b x r e is h =
    let P : Result (Unit {0}) SinkFault → Type 0 = λ y. MatchResult y (λ _. takes a x b) (λ f. misses a x f b) in
    subst P is h

-- none
pub passed_none : (c : Context) (o : Order) (s n : ℕ) (piece : List ℕ) → IsFed (waiting (stage.Message c o s n)) (take 0 piece) []
    (waiting (stage.Message c o (s + 0) (n + 0)))
passed_none c o s n piece =
    let from = waiting (stage.Message c o s n) in
    let P : ℕ → Type 0 = λ start. IsFed from [] [] (waiting (stage.Message c o start (n + 0))) in
    let Q : ℕ → Type 0 = λ number. IsFed from [] [] (waiting (stage.Message c o s number)) in
    subst P (omega arith) (subst Q (omega arith) (record { comes = λ later v q. q; spells = (refl, refl) }))

-- ---- a feed that messages were handed on from

pub fed_waiting : (p q : Progress) (buffer bytes : List ℕ) (t : Stage) (xs : List (ℕ × Item)) → p.stage ≡ t → held_of p buffer ≡ [] → held_of q buffer ≡ []
    → IsFed (waiting t) bytes xs (waiting q.stage) → IsFed (state_of p buffer) bytes xs (state_of q buffer)
fed_waiting p q buffer bytes t xs e none none' fed = record {
  comes = λ later v k.
      let P : List ℕ → Type 0 = λ b. Comes q.stage (b ++ later) v in
      let Q : List ℕ → Type 0 = λ b. Comes p.stage (b ++ (bytes ++ later)) (with_items xs v) in
      let R : Stage → Type 0 = λ u. Comes u (bytes ++ later) (with_items xs v) in
      subst Q (sym none) (subst R (sym e) (fed.comes later v (subst P none' k)));
  spells =
      let P : List ℕ → Type 0 = λ b. Spells p.stage xs (held_of p buffer ++ bytes) q.stage b in
      let Q : List ℕ → Type 0 = λ b. Spells p.stage xs (b ++ bytes) q.stage [] in
      let R : Stage → Type 0 = λ u. Spells u xs bytes q.stage [] in
      subst P (sym none') (subst Q (sym none) (subst R (sym e) fed.spells));
}

not_wanted : (c : Context) (o : Order) (n : ℕ) → header_of c o [] ≡ headers.Window n → ⊥
unfolding header_of
not_wanted c o n e = absurd cc

wants_none : (t : Stage) (held : List ℕ) (n : ℕ) → held ≡ [] → HasWindow t held n → ⊥
wants_none (stage.Handshake own) held n e h = omega (arith, h)
wants_none (stage.Message c o s i) held n e h =
    let P : List ℕ → Type 0 = λ b. header_of c o b ≡ headers.Window n in
    not_wanted c o n (subst P e h.1)

pub passed_sound : {p : Progress} {buffer : List ℕ} {c : Context} {o : Order} (o' : Order) {s n : ℕ} (bytes count : ℕ) → IsProgress p buffer
    → p.stage ≡ stage.Message c o s n → held_of p buffer ≡ [] → p.refused ≡ None
    → s + bytes ≤ 2 ^ 62 + 1048580 → count ≤ bytes → IsProgress (record p { stage = stage.Message c o' (s + bytes) (n + count) }) buffer
passed_sound {p} {buffer} {c} {o} o' {s} {n} bytes count h e none calm start le =
    let t = stage.Message c o' (s + bytes) (n + count) in
    let L : Stage → Type 0 = λ u. limit_of u ≤ 1048576 in
    let N : Stage → Type 0 = λ u. number_of u ≤ start_of u + 1 in
    let M : Stage → Type 0 = IsNumbered in
    let P : List ℕ → Type 0 = λ b. length b ≤ capacity_of t in
    let Q : List ℕ → Type 0 = IsPartial t in
    let R : Option Refusal → Type 0 = λ r. IfSome r (λ x. IsAnswer (state_of (record p { stage = t }) buffer) (Err x)) in
    let number : n ≤ s + 1 = subst N e h.number in
    let one : 1 ≤ n = subst M e h.numbered in
    record {
      limit = subst L e h.limit;
      start = start;
      number = omega (arith, number, le);
      numbered = omega (arith, one);
      bound = subst P (sym none) (omega arith);
      partial = subst Q (sym none) (record { opens = λ k lt. absurd (omega (arith, lt)) });
      wanted = λ lt. absurd (wants_none p.stage (held_of p buffer) p.wanted none (h.wanted lt).0);
      refused = subst R (sym calm) tt;
    }

-- ---- a piece

pub fed_passed : {f s p : FeedState} (piece : List ℕ) {rest : List ℕ} (at n : ℕ) {xs ys : List (ℕ × Item)} → rest ≡ drop at piece
    → IsFed f (take at piece) xs s → IsFed s (take n rest) ys p → IsFed f (take (at + n) piece) (xs ++ ys) p
fed_passed {f} {s} {p} piece {rest} at n {xs} {ys} e a b =
    let P : List ℕ → Type 0 = λ l. IsFed f l (xs ++ ys) p in
    subst P (front piece rest at n e) (fed_both f s p (take at piece) (take n rest) xs ys a b)

pub passed_on : {S : Type 0} (takes : S → ℕ × Item → S → Type 0) (misses : S → ℕ × Item → SinkFault → S → Type 0) {f s p : FeedState} {a b c : S}
    (piece : List ℕ) {rest : List ℕ} (at n : ℕ) {r : Result (Unit {0}) SinkFault} → r ≡ Ok tt → rest ≡ drop at piece
    → (xs : List (ℕ × Item)) × Took takes a xs b × IsFed f (take at piece) xs s
    → (ys : List (ℕ × Item)) × IsHanded takes misses b ys c r × IsFed s (take n rest) ys p
    → (xs : List (ℕ × Item)) × Took takes a xs c × IsFed f (take (at + n) piece) xs p
passed_on takes misses {f} {s} {p} {a} {b} {c} piece {rest} at n {r} e is x y =
    (x.0 ++ y.0, took_both takes a b c x.0 y.0 x.1 (handed_all takes misses b c y.0 r e y.1), fed_passed piece at n is x.2 y.2)

pub missed_by : {S : Type 0} (takes : S → ℕ × Item → S → Type 0) (misses : S → ℕ × Item → SinkFault → S → Type 0) (a b c : S) (xs ys : List (ℕ × Item))
    {r : Result (Unit {0}) SinkFault} {e : SinkFault} → r ≡ Err e → Took takes a xs b → IsHanded takes misses b ys c r
    → IsMissed takes misses e a (xs ++ ys) c
missed_by takes misses a b c xs ys {r} {e} is t h =
    let P : Result (Unit {0}) SinkFault → Type 0 = λ x. IsHanded takes misses b ys c x in
    missed_more takes misses e a b c xs ys t (subst P is h)
