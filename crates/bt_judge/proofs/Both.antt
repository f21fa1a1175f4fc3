-- A stream that is judged by both rule sets.
use Rattle.std.proofs.Common.{◌≡◌, ℕ, ◌≤◌, ◌<◌, ◌^◌, ◌+◌, ◌-◌, List, [], ◌++◌, length, take, drop, Option, Some, None, refl, sym, ap, subst, ◌∙◌, arith}
use Rattle.std.proofs.Math.Seq.{take-length}
use Rattle.std.proofs.lemmas.List.{append-nil, append_assoc, length-append, length-take, take_min, take-append-drop}
use Rattle.std.specs.Prelude.{IsSome}
use Rattle.bt_ext.specs.declared.ids.Rules.TheVariants.{Free, Bep}
use Rattle.bt_wire.specs.declared.context.Own.{Own}
use Rattle.bt_wire.specs.declared.item.Item.{Item}
use Rattle.bt_wire.specs.declared.item.Refusal.{Refusal}
use Rattle.bt_wire.specs.Streams.{Outcome, IsVerdict}
use Rattle.bt_wire.proofs.VerdictLaws.{verdict_only}
use Rattle.bt_text.specs.declared.ended.Ended.{Ended}
use Rattle.bt_feed.specs.declared.sink.SinkFault.{SinkFault}
use Rattle.bt_feed.specs.declared.stage.Stage.{Stage}
use Rattle.bt_feed.specs.declared.stage.Stage.TheVariants as stage
use Rattle.bt_feed.specs.Feeds.{FeedState, waiting}
use Rattle.bt_feed.specs.Pumps.{Took, IsFed}
use Rattle.bt_feed.specs.Stages.{start_of, limit_of, with_rules, Spells}
use Rattle.bt_feed.proofs.Moving.{took_both, missed_more}
use Rattle.bt_judge.specs.Judges.{under, IsFree, AreJudged, IsStopped}
use Rattle.bt_judge.specs.declared.judge.Judge.{Judge}
use Rattle.bt_judge.specs.Readings.{ReadingState, reading_state, HasRead, IsJudged, IsJudgedTo, Begins, IsTold, IsStanding, IsUnread, IsPieceTaken}
use Rattle.bt_judge.specs.declared.fault.JudgeFault.{JudgeFault}
use Rattle.bt_judge.specs.declared.fault.JudgeFault.TheVariants as fault
use Rattle.bt_judge.proofs.ByRules.{spells_length, spells_split, spells_free, limit_free}
use Rattle.bt_judge.proofs.Judging.{fed, takes, missed, passes}
use Rattle.bt_judge.proofs.Lenient.{lenient_verdict}

-- ---- a piece up to its refusal

taken_again : (n : ℕ) (l : List ℕ) → take (length (take n l)) l ≡ take n l
taken_again n l = ap (λ (k : ℕ). take k l) (length-take n l) ∙ take_min n l

pub front_open : (own : Own) (b : List ℕ) (xs : List (ℕ × Item)) (f g : FeedState) (bytes : List ℕ) (ys : List (ℕ × Item)) → own.limit ≤ 1048576
    → limit_of g.stage ≤ 1048576 → HasRead own b xs f → IsPieceTaken f bytes ys g None → IsJudgedTo own (b ++ bytes) (xs ++ ys) (reading_state g None)
front_open own b xs f g bytes ys le limit h e = record {
  judged = takes own b xs f g bytes ys None le limit h e;
  read = fed own b xs f g bytes ys h e.0;
  limit = limit;
}

front_length : (f g : FeedState) (piece : List ℕ) (ys : List (ℕ × Item)) → IsFed f piece ys g
    → start_of g.stage + length g.held ≡ start_of f.stage + length f.held + length piece
front_length f g piece ys m = omega (arith, spells_length f.stage ys (f.held ++ piece) g.stage g.held m.spells, length-append f.held piece)

pub front_within : (f g : FeedState) (bytes : List ℕ) (ys : List (ℕ × Item)) (r : Refusal) → IsPieceTaken f bytes ys g (Some r)
    → start_of g.stage + length g.held - (start_of f.stage + length f.held) ≤ length bytes
front_within f g bytes ys r e = omega (arith, front_length f g (take e.0 bytes) ys e.1, length-take e.0 bytes)

pub front_refused : (own : Own) (b : List ℕ) (xs : List (ℕ × Item)) (f g : FeedState) (bytes : List ℕ) (ys : List (ℕ × Item)) (r : Refusal) (n : ℕ)
    → own.limit ≤ 1048576 → limit_of g.stage ≤ 1048576 → HasRead own b xs f → IsPieceTaken f bytes ys g (Some r)
    → n ≡ start_of g.stage + length g.held - (start_of f.stage + length f.held) → IsJudgedTo own (b ++ take n bytes) (xs ++ ys) (reading_state g (Some r))
front_refused own b xs f g bytes ys r n le limit h e is =
    let piece = take e.0 bytes in
    let size : length piece ≡ n = omega (arith, front_length f g piece ys e.1, is) in
    let same : piece ≡ take n bytes = sym (taken_again e.0 bytes) ∙ ap (λ (k : ℕ). take k bytes) size in
    let F : List ℕ → Type 0 = λ l. IsFed f l ys g in
    let again : IsPieceTaken f piece ys g (Some r) = (length piece, subst F (sym (take-length piece)) e.1, e.2) in
    let P : List ℕ → Type 0 = λ l. IsJudgedTo own (b ++ l) (xs ++ ys) (reading_state g (Some r)) in
    subst P same (record { judged = takes own b xs f g piece ys (Some r) le limit h again; read = fed own b xs f g piece ys h e.1; limit = limit })

front_by : (o : Option Refusal) (own : Own) (b : List ℕ) (xs : List (ℕ × Item)) (s : ReadingState) (bytes : List ℕ) (n : ℕ) → s.refused ≡ o
    → (s.refused ≡ None → n ≡ length bytes) → IsJudged own (b ++ take n bytes) xs s → IsJudged own (b ++ bytes) xs s
front_by None own b xs s bytes n e all j =
    let P : List ℕ → Type 0 = λ l. IsJudged own (b ++ l) xs s in
    subst P (ap (λ (k : ℕ). take k bytes) (all e) ∙ take-length bytes) j
front_by (Some r) own b xs s bytes n e all j =
    let some = subst (λ (o : Option Refusal). IsSome o) (sym e) refl in
    let more = passes own (b ++ take n bytes) xs s (drop n bytes) some j in
    let P : List ℕ → List (ℕ × Item) → Type 0 = λ l ys. IsJudged own l ys s in
    let parts = append_assoc b (take n bytes) (drop n bytes) ∙ ap (λ (l : List ℕ). b ++ l) (take-append-drop n bytes) in
    subst (λ (l : List ℕ). P l xs) parts (subst (λ (ys : List (ℕ × Item)). P ((b ++ take n bytes) ++ drop n bytes) ys) (append-nil xs) more)

-- what follows the byte with which a stream is refused changes nothing
pub front_all : (own : Own) (b : List ℕ) (xs : List (ℕ × Item)) (s : ReadingState) (bytes : List ℕ) (n : ℕ) → (s.refused ≡ None → n ≡ length bytes)
    → IsJudged own (b ++ take n bytes) xs s → IsJudged own (b ++ bytes) xs s
front_all own b xs s bytes n all j = front_by s.refused own b xs s bytes n refl all j

-- ---- the item that isn't taken, by the lenient rules

-- what is read before it
pub record IsBefore (own : Own) (b : List ℕ) (xs : List (ℕ × Item)) (g : FeedState) : Type 0 where
  pub front : List ℕ
  pub parts : front ++ g.held ≡ b
  pub spelled : Spells (stage.Handshake own) xs front (with_rules Free g.stage) []
  pub limit : limit_of (with_rules Free g.stage) ≤ 1048576

pub before : (own : Own) (b : List ℕ) (xs : List (ℕ × Item)) (s : ReadingState) → IsJudgedTo own b xs s
    → IsBefore (record own { rules = Free }) b xs s.feed
before own b xs s j =
    let g = s.feed in
    let limit = j.limit in
    let split = spells_split (stage.Handshake own) xs b g.stage g.held j.read in
    record {
      front = split.0;
      parts = sym split.1;
      spelled = spells_free (stage.Handshake own) xs split.0 g.stage [] split.2;
      limit = omega (arith, limit_free g.stage, limit);
    }

pub lenient_judged : (own : Own) (b : List ℕ) (xs : List (ℕ × Item)) (g f : FeedState) (more : List (ℕ × Item)) (o : Option Refusal) → own.limit ≤ 1048576
    → limit_of f.stage ≤ 1048576 → IsBefore own b xs g → IsPieceTaken (waiting (with_rules Free g.stage)) g.held more f o
    → IsJudged own b (xs ++ more) (reading_state f o)
lenient_judged own b xs g f more o le limit h e =
    let P : List ℕ → Type 0 = λ l. IsJudged own l (xs ++ more) (reading_state f o) in
    subst P h.parts (takes own h.front xs (waiting (with_rules Free g.stage)) f g.held more o le limit h.spelled e)

pub lenient_missed : (own : Own) (b : List ℕ) (xs : List (ℕ × Item)) (g f : FeedState) (more : List (ℕ × Item)) (n : ℕ)
    → limit_of f.stage ≤ 1048576 → IsBefore own b xs g → IsFed (waiting (with_rules Free g.stage)) (take n g.held) more f → f.held ≡ []
    → (u : Stage) × Begins own b (xs ++ more) u
lenient_missed own b xs g f more n limit h m none =
    let P : List ℕ → Type 0 = λ l. Begins own l (xs ++ more) f.stage in
    (f.stage, subst P h.parts (missed own h.front xs (waiting (with_rules Free g.stage)) f g.held more n limit h.spelled m none))

pub lenient_none : (own : Own) (b : List ℕ) (xs : List (ℕ × Item)) (g : FeedState) → IsBefore own b xs g → (u : Stage) × Begins own b (xs ++ []) u
lenient_none own b xs g h =
    let P : List (ℕ × Item) → Type 0 = λ l. Begins own b l (with_rules Free g.stage) in
    let none = append-nil xs in
    (with_rules Free g.stage, subst P (sym none) (record { front = h.front; rest = g.held; parts = sym h.parts; spelled = h.spelled; limit = h.limit }))

-- ---- what both say

pub begins_free : (own : Own) (b : List ℕ) (xs : List (ℕ × Item)) (u : Stage) → Begins own b xs u
    → Begins (record own { rules = Free }) b xs (with_rules Free u)
begins_free own b xs u h =
    let limit = h.limit in
    record {
      front = h.front;
      rest = h.rest;
      parts = h.parts;
      spelled = spells_free (stage.Handshake own) xs h.front u [] h.spelled;
      limit = omega (arith, limit_free u, limit);
    }

pub begins_more : (own : Own) (b more : List ℕ) (xs : List (ℕ × Item)) (u : Stage) → Begins own b xs u → Begins own (b ++ more) xs u
begins_more own b more xs u h = record {
  front = h.front;
  rest = h.rest ++ more;
  parts = ap (λ (l : List ℕ). l ++ more) h.parts ∙ append_assoc h.front h.rest more;
  spelled = h.spelled;
  limit = h.limit;
}

pub stopped_more : {S : Type 0} (takes : S → ℕ × Item → S → Type 0) (misses : S → ℕ × Item → SinkFault → S → Type 0) (e : JudgeFault) (a b c : S)
    (xs ys : List (ℕ × Item)) → Took takes a xs b → IsStopped takes misses e b ys c → IsStopped takes misses e a (xs ++ ys) c
stopped_more takes misses (fault.Sink e) a b c xs ys p q = missed_more takes misses e a b c xs ys p q
stopped_more takes misses fault.Memory a b c xs ys p q = took_both takes a b c xs ys p q

-- ---- the lenient verdict

now_free : (own : Own) (b : List ℕ) (xs : List (ℕ × Item)) (s : ReadingState) → (j : IsJudged own b xs s) → s.refused ≡ None → j.now.refusal ≡ None
now_free own b xs s j none = j.refusal ∙ none

pub told_free : (own : Own) (b : List ℕ) (xs ys : List (ℕ × Item)) (s : ReadingState) (e : Ended) → xs ≡ ys → IsJudged (under Bep own) b ys s
    → s.refused ≡ None → IsTold (under Bep own) b ys e → IsTold (under Free own) b xs e
told_free own b xs ys s e same j none t =
    let limit = j.limit in
    let lt : own.limit < 2 ^ 32 = omega (arith, limit) in
    let one = verdict_only (under Bep own) b t.0 j.now lt t.1 j.is in
    let calm : t.0.refusal ≡ None = ap (λ (v : Outcome). v.refusal) one ∙ now_free (under Bep own) b ys s j none in
    (t.0, lenient_verdict (under Bep own) b t.0 lt t.1 calm, t.2 ∙ sym same, t.3)

pub stands_free : (own : Own) (b : List ℕ) (ys : List (ℕ × Item)) (s : ReadingState) → IsJudged (under Bep own) b ys s → s.refused ≡ None
    → IsStanding (under Free own) b None
stands_free own b ys s j none = λ v is.
    let limit = j.limit in
    let lt : own.limit < 2 ^ 32 = omega (arith, limit) in
    let calm = now_free (under Bep own) b ys s j none in
    let one = verdict_only (under Free own) b v j.now lt is (lenient_verdict (under Bep own) b j.now lt j.is calm) in
    ap (λ (w : Outcome). w.refusal) one ∙ calm

pub unread_free : (own : Own) (b : List ℕ) (xs ys : List (ℕ × Item)) (refused : Option Refusal) (from : ℕ) (bytes : List ℕ) → own.limit ≤ 1048576
    → xs ≡ ys → refused ≡ None → IsUnread (under Bep own) b ys refused from bytes → IsUnread (under Free own) b xs refused from bytes
unread_free own b xs ys refused from bytes le same none u = record {
  front = u.front;
  later = u.later;
  parts = u.parts;
  rest = u.rest;
  verdict = u.verdict;
  is = lenient_verdict (under Bep own) u.front u.verdict (omega (arith, le)) u.is (u.refusal ∙ none);
  items = u.items ∙ sym same;
  refusal = u.refusal;
  start = u.start;
  tail = u.tail;
}

-- the verdict of b as it is now
pub record IsNow (own : Own) (b : List ℕ) (xs : List (ℕ × Item)) : Type 0 where
  pub limit : own.limit ≤ 1048576
  pub now : Outcome
  pub is : IsVerdict own b now
  pub items : now.items ≡ xs

free_by : (own : Own) (b : List ℕ) (xs ys : List (ℕ × Item)) (bep : ReadingState) (o : Option ReadingState) → IsJudged (under Bep own) b ys bep
    → IsFree own b xs ys bep o → IsNow (under Free own) b xs
free_by own b xs ys bep None j h =
    let limit = j.limit in
    let calm = now_free (under Bep own) b ys bep j h.0 in
    record {
      limit = limit;
      now = j.now;
      is = lenient_verdict (under Bep own) b j.now (omega (arith, limit)) j.is calm;
      items = j.items ∙ sym h.1;
    }
free_by own b xs ys bep (Some free) j h = record { limit = h.1.limit; now = h.1.now; is = h.1.is; items = h.1.items }

pub free_now : (own : Own) (b : List ℕ) (xs ys : List (ℕ × Item)) (judge : Judge) → AreJudged own b xs ys judge → IsNow (under Free own) b xs
free_now own b xs ys judge j = free_by own b xs ys judge.bep judge.free j.bep j.free
