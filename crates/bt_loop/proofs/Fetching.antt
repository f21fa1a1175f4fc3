-- A run of an end that serves metadata and an end that fetches it ends with the metadata.
use Rattle.std.proofs.Common.{◌≡◌, ℕ, zero, suc, ◌+◌, ◌^◌, ◌<◌, ◌≤◌, ◌⊎◌, inl, inr, min, Bool, true, false, ◌&&◌, ◌==◌, nat_le, List, [], ◌∷◌, ◌++◌}
use Rattle.std.proofs.Common.{length, drop, slice_get, Option, Some, Ok, Err, refl, sym, ap, subst, ◌∙◌, arith, append-nil}
use Rattle.std.proofs.lemmas.Bool.{eqb-true}
use Rattle.std.proofs.lemmas.List.{nil_from_length}
use Rattle.bt_ext.specs.Metadata.{block_count}
use Rattle.bt_feed.specs.Feeds.{taken}
use Rattle.bt_feed.specs.Stages.{is_closed}
use Rattle.bt_metadata.specs.Blocks.{max_metadata}
use Rattle.bt_end.specs.Ends.{EndState, metadata_of}
use Rattle.bt_end.specs.Halves.{HalfState, high_water, is_ready, is_busy, received, with_feed}
use Rattle.bt_session.specs.ByteLinks as B
use Rattle.bt_session.specs.MessageLinks as M
use Rattle.bt_session.specs.LinkLaws.{IsMetadata, IsWritten, AreWritten, IsHonestRun, source_of}
use Rattle.std.specs.Option.{ForSome}
use Rattle.bt_session.specs.FetchLaws.{IsFetchPair, IsMove, AreMoves, IsQuiet, most_bytes, FetchIsShort, FetchIsWhole, FetchIsFree}
use Rattle.bt_session.specs.declared.link.Outcome.{Outcome}
use Rattle.bt_session.specs.declared.link.Outcome.TheVariants as outcome
use Rattle.bt_session.specs.declared.link.Side.{Side}
use Rattle.bt_session.specs.declared.link.Side.TheVariants.{Left, Right}
use Rattle.bt_session.specs.declared.link.Step.{Step}
use Rattle.bt_session.specs.declared.link.Step.TheVariants as step
use Rattle.bt_session.proofs.FetchRuns.{fetch_is_short, fetch_is_whole, fetch_is_free}
use Rattle.bt_session.proofs.Links.{byte_link_is_message_link, nothing_is_refused}
use Rattle.bt_loop.specs.Rounds.{Ends, IsRound, IsWay, IsHalted, AreRounds, is_quiet}
use Rattle.bt_loop.specs.Runs.{IsClear, begun, IsEndOf, delivered, AreStepsTo, RoundsAreSteps, RunFetches}
use Rattle.bt_loop.specs.Wires.{WireSeen}
use Rattle.bt_loop.specs.declared.both.Halt.TheVariants as halt
use Rattle.bt_loop.proofs.Carried.{steps_both, moves_both, Follows, IsEmpty, IsStopped, follows_at_other, IsStopping, halt_stops, starts, way_bytes, way_clear, way_follows}
use Rattle.bt_loop.proofs.Passing.{not_both}
use Rattle.bt_loop.proofs.Counted.{counted, last_steps, last_outcomes, quiet_after}

-- ---- as many outcomes as steps

after_both : (ss ts : List Step) (os ps : List Outcome) (l : M.Link) → length ss ≡ length os
    → M.after_all l (ss ++ ts) (os ++ ps) ≡ M.after_all (M.after_all l ss os) ts ps
after_both [] ts [] ps l e = refl
after_both [] ts (o ∷ os) ps l e = absurd (omega (arith, e))
after_both (s ∷ ss) ts [] ps l e = absurd (omega (arith, e))
after_both (s ∷ ss) ts (o ∷ os) ps l e = after_both ss ts os ps (M.after l s o) (omega (arith, e))

outcomes_parts : (ss ts : List Step) (os ps : List Outcome) (l : M.Link) → length ss ≡ length os → M.AreOutcomes l (ss ++ ts) (os ++ ps)
    → M.AreOutcomes l ss os × M.AreOutcomes (M.after_all l ss os) ts ps
outcomes_parts [] ts [] ps l e h = (tt, h)
outcomes_parts [] ts (o ∷ os) ps l e h = absurd (omega (arith, e))
outcomes_parts (s ∷ ss) ts [] ps l e h = absurd (omega (arith, e))
outcomes_parts (s ∷ ss) ts (o ∷ os) ps l e h =
    let rest = outcomes_parts ss ts os ps (M.after l s o) (omega (arith, e)) h.1 in
    ((h.0, rest.0), rest.1)

same_count : (ss : List Step) (os : List Outcome) (l k : B.Link) → B.AreSteps l ss os k → length ss ≡ length os
same_count [] [] l k h = refl
same_count [] (o ∷ os) l k h = absurd h
same_count (s ∷ ss) [] l k h = absurd h
same_count (s ∷ ss) (o ∷ os) l k h = omega (arith, same_count ss os h.0 k h.2)

-- ---- few bytes

few_blocks : (metadata : List ℕ) → length metadata ≤ max_metadata → most_bytes (length metadata) < 2 ^ 62
few_blocks metadata le = let count : block_count (length metadata) ≤ 4096 = omega (arith, le) in omega (arith, count)

served_small : (metadata : List ℕ) (a b : EndState) → IsFetchPair metadata a b → length metadata ≤ max_metadata
served_small metadata a b f =
    let P : Option (List ℕ) → Type 0 = λ o. ForSome o (λ m. IsMetadata m) in
    let served : ForSome (source_of a.part) (λ m. IsMetadata m) = f.left.is.serves in
    let here : ForSome (Some metadata) (λ m. IsMetadata m) = subst P (ap source_of f.serves) served in
    (here metadata refl).most

small_at : (metadata : List ℕ) (a b : EndState) (ss : List Step) (os : List Outcome) → FetchIsShort → IsFetchPair metadata a b → AreMoves ss
    → M.IsSmall (M.after_all (M.link_of a b) ss os)
small_at metadata a b ss os short f m =
    let bytes = short metadata a b ss os f m in
    let few = few_blocks metadata (served_small metadata a b f) in
    (omega (arith, bytes, few), omega (arith, bytes, few))

-- after the steps `done`
stays_small : {metadata : List ℕ} {a b : EndState} (done : List Step) (told : List Outcome) (ss : List Step) (os : List Outcome) → FetchIsShort
    → IsFetchPair metadata a b → length done ≡ length told → AreMoves done → AreMoves ss → M.StaysSmall (M.after_all (M.link_of a b) done told) ss os
stays_small {metadata} {a} {b} done told [] os short f e d m = small_at metadata a b done told short f d
stays_small {metadata} {a} {b} done told (s ∷ ss) [] short f e d m = small_at metadata a b done told short f d
stays_small {metadata} {a} {b} done told (s ∷ ss) (o ∷ os) short f e d m =
    let l : M.Link = M.link_of a b in
    let more : AreMoves (done ++ s ∷ []) = moves_both done (s ∷ []) d (m.0, tt) in
    let count : length (done ++ s ∷ []) ≡ length (told ++ o ∷ []) = longer done told s o e in
    let rest : M.StaysSmall (M.after_all l (done ++ s ∷ []) (told ++ o ∷ [])) ss os =
    stays_small (done ++ s ∷ []) (told ++ o ∷ []) ss os short f count more m.1 in (
      small_at metadata a b done told short f d,
      subst (λ (k : M.Link). M.StaysSmall k ss os) (after_both done (s ∷ []) told (o ∷ []) l e) rest,
    )
  where
    longer : (xs : List Step) (ys : List Outcome) (s : Step) (o : Outcome) → length xs ≡ length ys → length (xs ++ s ∷ []) ≡ length (ys ++ o ∷ [])
    longer [] [] s o e = refl
    longer [] (y ∷ ys) s o e = absurd (omega (arith, e))
    longer (x ∷ xs) [] s o e = absurd (omega (arith, e))
    longer (x ∷ xs) (y ∷ ys) s o e = let h : length xs ≡ length ys = omega (arith, e) in omega (arith, longer xs ys s o h)

move_written : (s : Step) → IsMove s → IsWritten s
move_written (step.Turn s) m = tt
move_written (step.Deliver s n) m = tt
move_written (step.Say s msg) m = absurd m
move_written step.Reset m = absurd m

moves_written : (ss : List Step) → AreMoves ss → AreWritten ss
moves_written [] m = tt
moves_written (s ∷ ss) m = (move_written s m.0, moves_written ss m.1)

honest : (metadata : List ℕ) (a b : EndState) (ss : List Step) (os : List Outcome) → FetchIsShort → IsFetchPair metadata a b → AreMoves ss
    → IsHonestRun a b ss os
honest metadata a b ss os short f m = record {
  left = f.left;
  right = f.right;
  matched = f.matched;
  written = moves_written ss m;
  small = stays_small [] [] ss os short f refl tt m;
}

-- ---- no end stops

never_by : (metadata : List ℕ) (a b : EndState) (ss : List Step) (os : List Outcome) (l : B.Link) (n : ℕ) (o : Outcome) → FetchIsShort → FetchIsFree
    → IsFetchPair metadata a b → AreMoves ss → B.AreSteps (B.link_of a b) ss os l → IsStopping o → slice_get os n ≡ Some o → ⊥
never_by metadata a b ss os l n (outcome.Refused r) short free f moves are stops there =
    nothing_is_refused a b ss os l (honest metadata a b ss os short f moves) are n r there
never_by metadata a b ss os l n outcome.Busy short free f moves are stops there =
    let told = (byte_link_is_message_link a b ss os l (honest metadata a b ss os short f moves) are).0 in
    free metadata a b ss os n f moves told there
never_by metadata a b ss os l n outcome.Handled short free f moves are stops there = stops
never_by metadata a b ss os l n outcome.Idle short free f moves are stops there = stops
never_by metadata a b ss os l n outcome.Said short free f moves are stops there = stops
never_by metadata a b ss os l n (outcome.NotSaid e) short free f moves are stops there = stops
never_by metadata a b ss os l n (outcome.Delivered k) short free f moves are stops there = stops
never_by metadata a b ss os l n outcome.Reset short free f moves are stops there = stops

never_stopped : (metadata : List ℕ) (a b : EndState) → FetchIsShort → FetchIsFree → IsFetchPair metadata a b → IsStopped a b → ⊥
never_stopped metadata a b short free f st =
    never_by metadata a b st.steps st.outcomes st.link st.at st.why short free f st.moves st.are st.stops st.there

-- ---- rounds

-- After n rounds, seen from the left: nothing is on its way, and n bytes were delivered at least.
record IsThere (a b : EndState) (n : ℕ) (e : Ends) : Type 0 where
  empty : IsEmpty e.seen
  bytes : ℕ
  follows : Follows a b Left bytes e.left e.right e.left_items e.right_items
  least : n ≤ bytes

-- one of the two ways moves a byte at least
some_moved : {s u t : WireSeen} {l l' r r' x y : HalfState} {m n : ℕ} (g : IsWay Left s u l x r y n) (c : IsWay Right u t y r' x l' m)
    → is_quiet l r ≡ false → 1 ≤ way_bytes g + way_bytes c
some_moved (inl g) c some = omega (arith, g.least)
some_moved (inr g) (inl c) some = omega (arith, c.least)
some_moved (inr g) (inr c) some = absurd (not_both g c some)

round_follows : {a b : EndState} {n : ℕ} (e f : Ends) (m k : ℕ) → IsThere a b n e → IsRound e.seen f.seen e.left f.left e.right f.right m k
    → f.left_items ≡ e.left_items + m → f.right_items ≡ e.right_items + k → IsThere a b (suc n) f
round_follows {a} {b} {n} e f m k h x left right =
    let to_right = way_follows Left (follows_at_other Left h.follows) x.goes h.empty.1 in
    let clear = way_clear Left x.goes h.empty.1 h.empty.0 in
    let to_left = way_follows Right (follows_at_other Right to_right) x.comes clear.1 in
    let done = way_clear Right x.comes clear.1 clear.0 in
    let P : ℕ → ℕ → Type 0 = λ v w. Follows a b Left (h.bytes + way_bytes x.goes + way_bytes x.comes) f.left f.right v w in
    record {
      empty = done;
      bytes = h.bytes + way_bytes x.goes + way_bytes x.comes;
      follows = subst (P f.left_items) (sym right) (subst (λ (v : ℕ). P v (e.right_items + k)) (sym left) to_left);
      least = omega (arith, h.least, some_moved x.goes x.comes x.some);
    }

rounds_follow : (a b : EndState) (s : WireSeen) (n : ℕ) (new : Ends) → IsClear s → AreRounds n (begun a b s) new → IsThere a b n new
rounds_follow a b s zero new clear h =
    subst (IsThere a b 0) (sym h) (record { empty = clear; bytes = 0; follows = starts a b; least = omega arith })
rounds_follow a b s (suc n) new clear h =
    round_follows h.0 new h.2 h.3 (rounds_follow a b s n h.0 clear h.1) h.4 h.5 h.6

pub rounds_are_steps : RoundsAreSteps
rounds_are_steps a b s n new clear h =
    let there = rounds_follow a b s n new clear h in
    let f = there.follows in
    record {
      clear = there.empty;
      steps = f.reached.steps;
      outcomes = f.reached.outcomes;
      link = f.link;
      are = f.reached.are;
      moves = f.reached.moves;
      left = f.own_is;
      right = f.other_is;
      least = omega (arith, there.least, f.reached.all);
    }

halted_stops : {a b : EndState} {n : ℕ} (e f : Ends) → IsThere a b n e → IsHalted e.seen f.seen e.left f.left e.right f.right → IsStopped a b
halted_stops e f h (inl w) = halt_stops Left (follows_at_other Left h.follows) w h.empty.1
halted_stops e f h (inr w) =
    let to_right = way_follows Left (follows_at_other Left h.follows) w.4 h.empty.1 in
    let clear = way_clear Left w.4 h.empty.1 h.empty.0 in
    halt_stops Right (follows_at_other Right to_right) w.5 clear.1

-- ---- few rounds

few_rounds : (metadata : List ℕ) (a b : EndState) (n : ℕ) (new : Ends) → FetchIsShort → IsFetchPair metadata a b → AreStepsTo a b n new
    → n ≤ most_bytes (length metadata)
few_rounds metadata a b n new short f st =
    let run = honest metadata a b st.steps st.outcomes short f st.moves in
    let told = (byte_link_is_message_link a b st.steps st.outcomes st.link run st.are).0 in
    let c = counted a b st.steps st.outcomes st.moves told in
    let bytes = short metadata a b st.steps st.outcomes f st.moves in
    omega (arith, st.least, c.all, c.own_bytes, c.other_bytes, bytes)

-- ---- the end of a run

-- an end of the link with nothing to send and nothing untaken, which awaits more
record IsIdle (x : B.Node) : Type 0 where
  sent : x.half.outbox ≡ []
  untaken : x.untaken ≡ []
  awaits : is_closed x.half.feed.stage x.half.feed.held ≡ false

and_false : (x : Bool) → (x && false) ≡ false
and_false true = refl
and_false false = refl

free_of : (a : HalfState) → a.outbox ≡ [] → is_busy a ≡ false
free_of a e = ap (λ (o : List ℕ). is_ready a.feed && nat_le high_water (length o)) e ∙ and_false (is_ready a.feed)

with_held : HalfState → List ℕ → HalfState
with_held h held = with_feed h (record h.feed { held = held })

fed_none : (x : B.Node) → x.untaken ≡ [] → B.fed x ≡ x
unfolding with_held
fed_none x e =
    let F : List ℕ → B.Node = λ u. record x { half = received x.half u; untaken = drop (taken x.half.feed u) u } in
    let G : List ℕ → List ℕ → B.Node = λ h u. record x { half = with_held x.half h; untaken = u } in
    ap F e ∙ ap (λ (h : List ℕ). G h []) (append-nil x.half.feed.held) ∙ ap (G x.half.feed.held) (sym e)

no_bytes : (p : B.Pair) → p.own.untaken ≡ [] → p.other.half.outbox ≡ [] → B.delivers p 0 ≡ p
no_bytes p none empty =
    let F : List ℕ → B.Pair = λ u. record { own = B.fed (record p.own { untaken = u }); other = p.other } in
    let untaken : p.own.untaken ++ [] ≡ p.own.untaken = append-nil p.own.untaken in
    ap F untaken ∙ ap (λ (x : B.Node). record { own = x; other = p.other }) (fed_none p.own none)

idle_turn : (p : B.Pair) → IsIdle p.own → B.IsTurn p outcome.Idle p
idle_turn p idle =
    (p.own, (((free_of p.own.half idle.sent, idle.awaits), refl), refl), ap (λ (x : B.Node). record { own = x; other = p.other }) (sym (fed_none p.own idle.untaken)))

-- nothing more comes of a byte more and of a turn
last_are : {l : B.Link} → IsIdle l.left → IsIdle l.right → B.AreSteps l last_steps last_outcomes l
last_are {l} x y =
    let left : B.Pair = B.seen_from Left l in
    let right : B.Pair = B.seen_from Right l in
    let none_left : 0 ≡ min 1 (length l.right.half.outbox) = omega (arith, ap (length {A = ℕ}) y.sent) in
    let none_right : 0 ≡ min 1 (length l.left.half.outbox) = omega (arith, ap (length {A = ℕ}) x.sent) in
    let to_left : left ≡ B.delivers left (min 1 (length l.right.half.outbox)) = sym (no_bytes left x.untaken y.sent) ∙ ap (B.delivers left) none_left in
    let to_right : right ≡ B.delivers right (min 1 (length l.left.half.outbox)) =
    sym (no_bytes right y.untaken x.sent) ∙ ap (B.delivers right) none_right in
    let of_left = idle_turn left x in
    let of_right = idle_turn right y in (
      l,
      (left, (ap outcome.Delivered none_left, to_left), refl),
      (
        l,
        (right, (ap outcome.Delivered none_right, to_right), refl),
        (l, (left, of_left, refl), (l, (right, of_right, refl), refl)),
      ),
    )

idle_node : (x : B.Node) (half : HalfState) (items : ℕ) → IsEndOf half items x → half.outbox ≡ [] → is_closed half.feed.stage half.feed.held ≡ false → IsIdle x
idle_node x half items is empty awaits = record {
  sent = ap (λ (h : HalfState). h.outbox) is.half ∙ empty;
  untaken = is.untaken;
  awaits = subst (λ (h : HalfState). is_closed h.feed.stage h.feed.held ≡ false) (sym is.half) awaits;
}

outbox_empty : (a : HalfState) → (length a.outbox == 0) ≡ true → a.outbox ≡ []
outbox_empty a e = let none = eqb-true (length a.outbox) 0 e in nil_from_length a.outbox (omega (arith, none))

quiet_parts : (l r : HalfState) → is_quiet l r ≡ true → (l.outbox ≡ []) × (r.outbox ≡ [])
quiet_parts l r e = let parts = both_true (length l.outbox == 0) (length r.outbox == 0) e in (outbox_empty l parts.0, outbox_empty r parts.1)
  where
    both_true : (x y : Bool) → (x && y) ≡ true → (x ≡ true) × (y ≡ true)
    both_true true y e = (refl, e)
    both_true false y e = absurd cc

quiet_fetched : (metadata : List ℕ) (a b : EndState) (n : ℕ) (new : Ends) → FetchIsShort → FetchIsWhole → IsFetchPair metadata a b
    → IsThere a b n new → is_quiet new.left new.right ≡ true → metadata_of new.right.end.part ≡ Some metadata
quiet_fetched metadata a b n new short whole f there quiet =
    let none = quiet_parts new.left new.right quiet in
    let st = there.follows in
    let r = st.reached in
    let x : IsIdle st.link.left = idle_node st.link.left new.left new.left_items st.own_is none.0 st.own_open in
    let y : IsIdle st.link.right = idle_node st.link.right new.right new.right_items st.other_is none.1 st.other_open in
    let last = last_are x y in
    let steps : List Step = r.steps ++ last_steps in
    let outcomes : List Outcome = r.outcomes ++ last_outcomes in
    let are : B.AreSteps (B.link_of a b) steps outcomes st.link =
    steps_both r.steps last_steps r.outcomes last_outcomes (B.link_of a b) st.link st.link r.are last in
    let moves : AreMoves steps = moves_both r.steps last_steps r.moves (tt, (tt, (tt, (tt, tt)))) in
    let agree = byte_link_is_message_link a b steps outcomes st.link (honest metadata a b steps outcomes short f moves) are in
    let count = same_count r.steps r.outcomes (B.link_of a b) st.link r.are in
    let l : M.Link = M.link_of a b in
    let parts = outcomes_parts r.steps last_steps r.outcomes last_outcomes l count agree.0 in
    let c = counted a b r.steps r.outcomes r.moves parts.0 in
    let quiet_link : IsQuiet (M.after_all l steps outcomes) = subst IsQuiet (sym (after_both r.steps last_steps r.outcomes last_outcomes l count))
    (quiet_after (M.after_all l r.steps r.outcomes) (delivered r.outcomes) c parts.1) in
    let fetched : metadata_of (M.after_all l steps outcomes).right.end.part ≡ Some metadata = whole metadata a b steps outcomes f moves quiet_link in
    let part : EndState → Option (List ℕ) = λ e. metadata_of e.part in
    ap (λ (h : HalfState). part h.end) (sym st.other_is.half) ∙ ap part agree.1.right ∙ fetched

pub run_fetches : RunFetches
run_fetches metadata a b s rounds new (Ok x) f clear h =
    quiet_fetched metadata a b h.0 new fetch_is_short fetch_is_whole f (rounds_follow a b s h.0 new clear h.2) h.3
run_fetches metadata a b s rounds new (Err halt.Stopped) f clear h =
    never_stopped metadata a b fetch_is_short fetch_is_free f (halted_stops h.2 new (rounds_follow a b s h.0 h.2 clear h.3) h.4)
run_fetches metadata a b s rounds new (Err halt.Rounds) f clear h =
    few_rounds metadata a b rounds new fetch_is_short f (rounds_are_steps a b s rounds new clear h.0)
run_fetches metadata a b s rounds new (Err halt.Net) f clear h = tt
run_fetches metadata a b s rounds new (Err halt.Memory) f clear h = tt
