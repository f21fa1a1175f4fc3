-- How far a stream is judged, piece by piece.
use Rattle.std.proofs.Common.{◌≡◌, ℕ, ◌≤◌, ◌<◌, ◌^◌, false, List, [], ◌++◌, take, drop, Option, Some, None, Err, refl, sym, ap, subst, ◌∙◌, arith}
use Rattle.std.proofs.lemmas.List.{append-nil, append_assoc, take-append-drop}
use Rattle.std.specs.Prelude.{IsSome, is_some}
use Rattle.bt_wire.specs.declared.context.Own.{Own}
use Rattle.bt_wire.specs.declared.fault.Refused.{Refused as Fault}
use Rattle.bt_wire.specs.declared.item.Item.{Item}
use Rattle.bt_wire.specs.declared.item.Refusal.{Refusal}
use Rattle.bt_wire.specs.Streams.{Outcome, IsVerdict}
use Rattle.bt_wire.proofs.VerdictLaws.{verdict_only, verdict_stays, verdict_items}
use Rattle.bt_feed.specs.declared.stage.Stage.{Stage}
use Rattle.bt_feed.specs.declared.stage.Stage.TheVariants as stage
use Rattle.bt_feed.specs.Answers.{IsAnswer}
use Rattle.bt_feed.specs.Feeds.{FeedState}
use Rattle.bt_feed.specs.Pumps.{IsFed}
use Rattle.bt_feed.specs.Stages.{limit_of, early, is_all, is_closed, refusal_of, Spells, Comes, stopped}
use Rattle.bt_feed.specs.Transcripts.{with_items}
use Rattle.bt_feed.proofs.Closed.{open_by, fault_more}
use Rattle.bt_feed.proofs.Coming.{open_comes, fault_comes}
use Rattle.bt_feed.proofs.Found.{early_has}
use Rattle.bt_feed.proofs.Moving.{spells_both}
use Rattle.bt_feed.proofs.Reading.{hand_open}
use Rattle.bt_judge.specs.Readings.{ReadingState, reading_state, HasRead, IsJudged, BeginsWith, Begins, IsStanding, IsPieceTaken}
use Rattle.bt_judge.proofs.ByRules.{spells_comes}

-- ---- the beginning

pub first : (own : Own) (f : FeedState) → own.limit ≤ 1048576 → f ≡ record { stage = stage.Handshake own; held = []; refused = None }
    → IsJudged own [] [] (reading_state f None)
first own f le e =
    let P : FeedState → Type 0 = λ g. IsJudged own [] [] (reading_state g None) in
    subst P (sym e) (record {
      limit = le;
      now = stopped (stage.Handshake own) [] None;
      is = open_comes (stage.Handshake own) [] (omega (arith, le)) (hand_open own);
      items = refl;
      refusal = refl;
      held = λ _. record { read = (refl, refl); limit = le; waits = hand_open own };
      unread = record {
        front = [];
        later = [];
        parts = refl;
        rest = λ _. refl;
        verdict = stopped (stage.Handshake own) [] None;
        is = open_comes (stage.Handshake own) [] (omega (arith, le)) (hand_open own);
        items = refl;
        refusal = refl;
        start = refl;
        tail = refl;
      };
    })

-- ---- a piece more

pub fed : (own : Own) (b : List ℕ) (xs : List (ℕ × Item)) (f g : FeedState) (bytes : List ℕ) (ys : List (ℕ × Item)) → HasRead own b xs f
    → IsFed f bytes ys g → HasRead own (b ++ bytes) (xs ++ ys) g
fed own b xs f g bytes ys h m = spells_both (stage.Handshake own) xs b f.stage f.held ys bytes g.stage g.held h m.spells

pub read_verdict : (own : Own) (b : List ℕ) (xs : List (ℕ × Item)) (f : FeedState) → own.limit ≤ 1048576 → HasRead own b xs f
    → (later : List ℕ) (v : Outcome) → Comes f.stage (f.held ++ later) v → IsVerdict own (b ++ later) (with_items xs v)
read_verdict own b xs f le h later v k = spells_comes (stage.Handshake own) xs b f.stage f.held (omega (arith, le)) h later v k

pub goes_on : (own : Own) (b : List ℕ) (xs : List (ℕ × Item)) (f g : FeedState) (piece : List ℕ) (ys : List (ℕ × Item)) → own.limit ≤ 1048576
    → limit_of g.stage ≤ 1048576 → HasRead own b xs f → IsFed f piece ys g → is_closed g.stage g.held ≡ false
    → IsJudged own (b ++ piece) (xs ++ ys) (reading_state g None)
goes_on own b xs f g piece ys le limit h m waits =
    let all = fed own b xs f g piece ys h m in
    let told = read_verdict own (b ++ piece) (xs ++ ys) g le all in
    let last = stopped g.stage (g.held ++ []) None in
    let P : List ℕ → Type 0 = λ l. IsVerdict own l (with_items (xs ++ ys) last) in
    let is = subst P (append-nil (b ++ piece)) (told [] last (open_comes g.stage (g.held ++ []) (omega (arith, limit))
    (ap (is_closed g.stage) (append-nil g.held) ∙ waits))) in
    record {
      limit = le;
      now = with_items (xs ++ ys) last;
      is = is;
      items = append-nil (xs ++ ys);
      refusal = refl;
      held = λ _. record { read = all; limit = limit; waits = waits };
      unread = record {
        front = b ++ piece;
        later = [];
        parts = sym (append-nil (b ++ piece));
        rest = λ _. refl;
        verdict = with_items (xs ++ ys) last;
        is = is;
        items = append-nil (xs ++ ys);
        refusal = refl;
        start = refl;
        tail = append-nil g.held;
      };
    }

-- the verdict of what went in up to a refusal, and of what follows
refused_then : (own : Own) (b : List ℕ) (xs : List (ℕ × Item)) (f g : FeedState) (bytes : List ℕ) (ys : List (ℕ × Item)) (r : Refusal)
    → own.limit ≤ 1048576 → limit_of g.stage ≤ 1048576 → HasRead own b xs f → IsFed f bytes ys g → IsAnswer g (Err r) → (rest : List ℕ)
    → IsVerdict own ((b ++ bytes) ++ rest) (with_items (xs ++ ys) (stopped g.stage (g.held ++ rest) (Some r)))
refused_then own b xs f g bytes ys r le limit h m a rest =
    let P : Refusal → Type 0 = λ x. Comes g.stage (g.held ++ rest) (stopped g.stage (g.held ++ rest) (Some x)) in
    let comes = subst P (sym a.2) (fault_comes g.stage (g.held ++ rest) a.0 (omega (arith, limit)) (fault_more g.stage g.held rest a.0 a.1)) in
    read_verdict own (b ++ bytes) (xs ++ ys) g le (fed own b xs f g bytes ys h m) rest (stopped g.stage (g.held ++ rest) (Some r)) comes

stops : (own : Own) (b : List ℕ) (xs : List (ℕ × Item)) (f g : FeedState) (piece : List ℕ) (ys : List (ℕ × Item)) (n : ℕ) (r : Refusal)
    → own.limit ≤ 1048576 → limit_of g.stage ≤ 1048576 → HasRead own b xs f → IsFed f (take n piece) ys g → IsAnswer g (Err r)
    → IsJudged own (b ++ piece) (xs ++ ys) (reading_state g (Some r))
stops own b xs f g piece ys n r le limit h m a =
    let front = b ++ take n piece in
    let rest = drop n piece in
    let last = stopped g.stage (g.held ++ rest) (Some r) in
    let here = stopped g.stage (g.held ++ []) (Some r) in
    let parts : front ++ rest ≡ b ++ piece =
    append_assoc b (take n piece) rest ∙ ap (λ (l : List ℕ). b ++ l) (take-append-drop n piece) in
    let told = refused_then own b xs f g (take n piece) ys r le limit h m a in
    let P : List ℕ → Type 0 = λ l. IsVerdict own l (with_items (xs ++ ys) here) in
    let Q : List ℕ → Type 0 = λ l. IsVerdict own l (with_items (xs ++ ys) last) in
    record {
      limit = le;
      now = with_items (xs ++ ys) last;
      is = subst Q parts (told rest);
      items = append-nil (xs ++ ys);
      refusal = refl;
      held = λ none. absurd (let bad : Some r ≡ None = none in cc);
      unread = record {
        front = front;
        later = rest;
        parts = sym parts;
        rest = λ none. absurd (let bad : Some r ≡ None = none in cc);
        verdict = with_items (xs ++ ys) here;
        is = subst P (append-nil front) (told []);
        items = append-nil (xs ++ ys);
        refusal = refl;
        start = refl;
        tail = append-nil g.held;
      };
    }

is_refused : (o : Option Refusal) (r : Refusal) → o ≡ Some r → IsSome o
is_refused o r e = subst (λ (x : Option Refusal). IsSome x) (sym e) refl

pub takes : (own : Own) (b : List ℕ) (xs : List (ℕ × Item)) (f g : FeedState) (piece : List ℕ) (ys : List (ℕ × Item)) (o : Option Refusal)
    → own.limit ≤ 1048576 → limit_of g.stage ≤ 1048576 → HasRead own b xs f → IsPieceTaken f piece ys g o
    → IsJudged own (b ++ piece) (xs ++ ys) (reading_state g o)
takes own b xs f g piece ys None le limit h e = goes_on own b xs f g piece ys le limit h e.0 e.1
takes own b xs f g piece ys (Some r) le limit h e = stops own b xs f g piece ys e.0 r le limit h e.1 e.2

-- what follows a refusal
pub passes : (own : Own) (b : List ℕ) (xs : List (ℕ × Item)) (s : ReadingState) (more : List ℕ) → IsSome s.refused → IsJudged own b xs s
    → IsJudged own (b ++ more) (xs ++ []) s
passes own b xs s more some j =
    let limit = j.limit in
    let u = j.unread in
    let P : Option Refusal → Type 0 = λ o. IsSome o in
    record {
      limit = limit;
      now = record j.now { tail = j.now.tail ++ more };
      is = verdict_stays own b more j.now (omega (arith, limit)) j.is (subst P (sym j.refusal) some);
      items = j.items ∙ sym (append-nil xs);
      refusal = j.refusal;
      held = λ none. absurd (let bad = subst P none some in cc);
      unread = record {
        front = u.front;
        later = u.later ++ more;
        parts = ap (λ (l : List ℕ). l ++ more) u.parts ∙ append_assoc u.front u.later more;
        rest = λ none. absurd (let bad = subst P none some in cc);
        verdict = u.verdict;
        is = u.is;
        items = u.items ∙ sym (append-nil xs);
        refusal = u.refusal;
        start = u.start;
        tail = u.tail;
      };
    }

pub none_by : (o : Option Refusal) → is_some o ≡ false → o ≡ None
none_by None e = refl
none_by (Some r) e = absurd cc

-- ---- a fault of the sink

nothing_whole : (t : Stage) → is_all t [] ≡ false
nothing_whole (stage.Handshake own) = refl
nothing_whole (stage.Message c o s n) = refl

nothing_by : (t : Stage) (o : Option Fault) → limit_of t < 2 ^ 32 → early t [] ≡ o → (v : Outcome) × Comes t [] v × (v.items ≡ [])
nothing_by t (Some f) lt e = (stopped t [] (Some (refusal_of t f)), fault_comes t [] f lt (early_has t [] f e), refl)
nothing_by t None lt e = (stopped t [] None, open_comes t [] lt (open_by t [] e (nothing_whole t)), refl)

-- the verdict of bytes begins with the items that are spelled in front
pub begins : (own : Own) (b : List ℕ) (xs : List (ℕ × Item)) (u : Stage) → own.limit ≤ 1048576 → Begins own b xs u → BeginsWith own b xs
begins own b xs u le h v is =
    let limit = h.limit in
    let here = nothing_by u (early u []) (omega (arith, limit)) refl in
    let told = spells_comes (stage.Handshake own) xs h.front u [] (omega (arith, le)) h.spelled [] here.0 here.1 in
    let P : List ℕ → Type 0 = λ l. IsVerdict own l (with_items xs here.0) in
    let Q : List ℕ → Type 0 = λ l. IsVerdict own l v in
    let more = verdict_items own h.front h.rest (with_items xs here.0) v (omega (arith, le)) (subst P (append-nil h.front) told) (subst Q h.parts is) in
    (more.0, more.1 ∙ ap (λ (l : List (ℕ × Item)). l ++ more.0) (ap (λ (l : List (ℕ × Item)). xs ++ l) here.2 ∙ append-nil xs))

-- where a sink didn't take an item nothing is held
pub missed : (own : Own) (b : List ℕ) (xs : List (ℕ × Item)) (f g : FeedState) (piece : List ℕ) (ys : List (ℕ × Item)) (n : ℕ)
    → limit_of g.stage ≤ 1048576 → HasRead own b xs f → IsFed f (take n piece) ys g → g.held ≡ [] → Begins own (b ++ piece) (xs ++ ys) g.stage
missed own b xs f g piece ys n limit h m none =
    let P : List ℕ → Type 0 = λ l. Spells (stage.Handshake own) (xs ++ ys) (b ++ take n piece) g.stage l in
    record {
      front = b ++ take n piece;
      rest = drop n piece;
      parts = ap (λ (l : List ℕ). b ++ l) (sym (take-append-drop n piece)) ∙ sym (append_assoc b (take n piece) (drop n piece));
      spelled = subst P none (fed own b xs f g (take n piece) ys h m);
      limit = limit;
    }

-- ---- a refusal that stands

stands_by : (own : Own) (b : List ℕ) (xs : List (ℕ × Item)) (s : ReadingState) (o : Option Refusal) → s.refused ≡ o → IsJudged own b xs s
    → IsStanding own b o
stands_by own b xs s None e j = λ v is.
    let limit = j.limit in
    ap (λ (u : Outcome). u.refusal) (verdict_only own b v j.now (omega (arith, limit)) is j.is) ∙ j.refusal ∙ e
stands_by own b xs s (Some r) e j = λ later v is.
    let limit = j.limit in
    let stays = verdict_stays own b later j.now (omega (arith, limit)) j.is (is_refused j.now.refusal r (j.refusal ∙ e)) in
    ap (λ (u : Outcome). u.refusal) (verdict_only own (b ++ later) v (record j.now { tail = j.now.tail ++ later }) (omega (arith, limit)) is stays) ∙ j.refusal
    ∙ e

pub stands : (own : Own) (b : List ℕ) (xs : List (ℕ × Item)) (s : ReadingState) → IsJudged own b xs s → IsStanding own b s.refused
stands own b xs s j = stands_by own b xs s s.refused refl j
