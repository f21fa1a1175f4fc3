-- A script that is read piece by piece.
use Rattle.std.proofs.Common.{◌≡◌, ℕ, ◌+◌, ◌-◌, ◌*◌, ◌<◌, false, List, [], ◌∷◌, ◌++◌, length, Some, Option, None, refl, sym, ap, ◌∙◌, arith, inl, inr}
use Rattle.std.proofs.Common.{length-append, Result, Ok, Err}
use Rattle.std.specs.Prelude.{IfOk}
use Rattle.std.proofs.lemmas.List.{append-nil, append_assoc, nil_from_length}
use Rattle.bt_feed.specs.Feeds.{FeedState}
use Rattle.bt_feed.specs.Stages.{start_of, number_of}
use Rattle.bt_wire.specs.declared.context.Own.{Own}
use Rattle.bt_wire.specs.Streams.{Outcome}
use Rattle.bt_text.specs.declared.ended.ScriptReason.{ScriptReason}
use Rattle.bt_text.specs.declared.ended.ScriptReason.TheVariants.{Syntax}
use Rattle.bt_text.specs.Script.{has_feed}
use Rattle.bt_jobs.specs.Packs.{ended_lines, with_last, IsSplit, IsEndedLine, AreLines, AreTaken, IsNotTaken, IsStop, IsPacked, stopped, accepted}
use Rattle.bt_jobs.specs.Packs.{is_none}
use Rattle.bt_text.specs.declared.ended.PackEnd.{PackEnd}
use Rattle.bt_text.specs.declared.ended.PackEnd.TheVariants.{Accepted, Refused}
use Rattle.bt_jobs.proofs.Printing.{verdict_length}
use Rattle.bt_jobs.specs.PackSteps.{IsPackedTo, Packing, Packer, packing, packer, IsLineEnd, IsReadSo, IsPieceRead, IsDone, IsScriptEnd}
use Rattle.bt_jobs.proofs.Packing.{taken_so_far, some_lines}
use Rattle.bt_text.proofs.ScriptBounds.{has_feed-append}
use Rattle.bt_jobs.proofs.PackText.{ended_more, ended_both, whole_both, split_of}

-- ---- the first part of the next line

pub read_rest : (own : Own) (text rest : List ℕ) (lines : List (List ℕ)) (b held new : List ℕ) (f : FeedState) → IsReadSo own text lines b held f
    → has_feed rest ≡ false → new ≡ held ++ rest → IsReadSo own (text ++ rest) lines b new f
read_rest own text rest lines b held new f h none e = record {
  split = record {
    parts = ap (λ (t : List ℕ). t ++ rest) h.split.parts ∙ append_assoc (ended_lines lines) held rest ∙ ap (λ (t : List ℕ). ended_lines lines ++ t) (sym e);
    whole = h.split.whole;
    last = ap has_feed e ∙ has_feed-append held rest h.split.last none;
  };
  packed = h.packed;
}

-- ---- a line

-- the text up to the line's feed
line_parts : (text held front line following : List ℕ) (lines : List (List ℕ)) → text ≡ ended_lines lines ++ held → line ≡ held ++ front → text
    ++ (front ++ 10 ∷ following) ≡ ended_lines lines ++ (line ++ 10 ∷ following)
line_parts text held front line following lines e is =
    ap (λ (t : List ℕ). t ++ (front ++ 10 ∷ following)) e ∙ append_assoc (ended_lines lines) held (front ++ 10 ∷ following)
    ∙ ap (λ (t : List ℕ). ended_lines lines ++ t) (sym (append_assoc held front (10 ∷ following)) ∙ ap (λ (t : List ℕ). t ++ 10 ∷ following) (sym is))

pub read_line : {own : Own} {text b held line : List ℕ} {lines : List (List ℕ)} {f g : FeedState} (front x : List ℕ) → IsReadSo own text lines b held f
    → has_feed front ≡ false → line ≡ held ++ front
    → IsPackedTo own (lines ++ line ∷ []) (b ++ x) g → IsReadSo own (text ++ (front ++ 10 ∷ [])) (lines ++ line ∷ []) (b ++ x) [] g
read_line {text} {held} {line} {lines} front x h none e packed = record {
  split = record {
    parts = line_parts text held front line [] lines h.split.parts e ∙ sym (ended_more lines line) ∙ sym (append-nil (ended_lines (lines ++ line ∷ [])));
    whole = whole_both lines (line ∷ []) h.split.whole (ap has_feed e ∙ has_feed-append held front h.split.last none, tt);
    last = refl;
  };
  packed = packed;
}

-- ---- a line that isn't taken

-- why not
abbrev pub IsRefused : Own → List (List ℕ) → List ℕ → List ℕ → ScriptReason → Type 0
IsRefused own lines b line reason = (v : Outcome) × AreTaken own lines b v × IsNotTaken own (is_none lines) line b v reason

pub too_long : (own : Own) (lines : List (List ℕ)) (b line : List ℕ) (f : FeedState) → IsPackedTo own lines b f → 2 * own.limit + 256 < length line
    → IsRefused own lines b line Syntax
too_long own lines b line f h lt =
    let s = taken_so_far own lines b f h in
    (s.0, s.1.taken, λ x n. absurd (omega (arith, n.short, lt)))

after_line : (lines ls : List (List ℕ)) (line rest : List ℕ) → with_last (lines ++ line ∷ ls) rest ≡ lines ++ line ∷ with_last ls rest
after_line lines ls line [] = refl
after_line lines ls line (c ∷ cs) = append_assoc lines (line ∷ ls) ((c ∷ cs) ∷ [])

-- the line is ended, and others may follow
pub stops_at : {own : Own} {text b held line : List ℕ} {lines : List (List ℕ)} {f : FeedState} {number : ℕ} (front following : List ℕ) (reason : ScriptReason)
    → IsReadSo own text lines b held f → has_feed front ≡ false → line ≡ held ++ front
    → number ≡ length lines → IsRefused own lines b line reason → (all : List (List ℕ)) × AreLines (text ++ (front ++ 10 ∷ following)) all
    × IsStop own all b (number + 1) reason × IsEndedLine own.limit (text ++ (front ++ 10 ∷ following)) (number + 1)
stops_at {text} {held} {line} {lines} front following reason h none e count r =
    let s = split_of following in
    let tail : line ++ 10 ∷ following ≡ ended_lines (line ∷ s.0) ++ s.1 =
    ap (λ (t : List ℕ). line ++ 10 ∷ t) s.2.parts ∙ sym (append_assoc line (10 ∷ []) (ended_lines s.0 ++ s.1))
    ∙ sym (append_assoc (line ++ 10 ∷ []) (ended_lines s.0) s.1) in
    let parts : text ++ (front ++ 10 ∷ following) ≡ ended_lines (lines ++ line ∷ s.0) ++ s.1 =
    line_parts text held front line following lines h.split.parts e ∙ ap (λ (t : List ℕ). ended_lines lines ++ t) tail
    ∙ sym (append_assoc (ended_lines lines) (ended_lines (line ∷ s.0)) s.1)
    ∙ ap (λ (t : List ℕ). t ++ s.1) (sym (ended_both lines (line ∷ s.0))) in
    let split : IsSplit (text ++ (front ++ 10 ∷ following)) (lines ++ line ∷ s.0) s.1 = record {
      parts = parts;
      whole = whole_both lines (line ∷ s.0) h.split.whole (ap has_feed e ∙ has_feed-append held front h.split.last none, s.2.whole);
      last = s.2.last;
    } in (
      with_last (lines ++ line ∷ s.0) s.1,
      (lines ++ line ∷ s.0, s.1, split, refl),
      record {
        before = lines;
        line = line;
        following = with_last s.0 s.1;
        parts = after_line lines s.0 line s.1;
        verdict = r.0;
        taken = r.1;
        count = omega (arith, count);
        not_taken = r.2;
      },
      (lines ++ line ∷ s.0, s.1, split, inl (omega (arith, count, length-append lines (line ∷ s.0)))),
    )

long_last : (lines : List (List ℕ)) (line : List ℕ) → 0 < length line → lines ++ line ∷ [] ≡ with_last lines line
long_last lines [] lt = absurd (omega arith)
long_last lines (c ∷ cs) lt = refl

-- the line isn't ended yet
pub stops_in : {own : Own} {text b held line : List ℕ} {lines : List (List ℕ)} {f : FeedState} {number : ℕ} (rest : List ℕ) (reason : ScriptReason)
    → IsReadSo own text lines b held f → has_feed rest ≡ false → line ≡ held ++ rest
    → 0 < length line → number ≡ length lines → IsRefused own lines b line reason → (all : List (List ℕ)) × AreLines (text ++ rest) all
    × IsStop own all b (number + 1) reason
stops_in {own} {text} {b} {held} {line} {lines} {f} rest reason h none e some count r = (
  lines ++ line ∷ [],
  (lines, line, (read_rest own text rest lines b held line f h none e).split, long_last lines line some),
  record {
    before = lines;
    line = line;
    following = [];
    parts = refl;
    verdict = r.0;
    taken = r.1;
    count = omega (arith, count);
    not_taken = r.2;
  },
)

-- ---- pieces

pub nothing_done : (own : Own) (text : List ℕ) (lines : List (List ℕ)) (b piece held : List ℕ) (f : FeedState) (out : List ℕ)
    → IsReadSo own text lines b held f → IsDone own text (packing lines b out) piece piece (packer held f out)
nothing_done own text lines b piece held f out h =
    record {
      done = [];
      parts = refl;
      more = [];
      named = [];
      grown = sym (append-nil out);
      read = rw (sym (append-nil text)) at (rw (sym (append-nil lines)) at (rw (sym (append-nil b)) at h));
    }

-- all of the piece
pub all_done : (own : Own) (text : List ℕ) (p : Packing) (piece rest new : List ℕ) (q : Packer) → IsDone own text p piece rest q → has_feed rest ≡ false
    → new ≡ q.line ++ rest → IsPieceRead own (text ++ piece) p (packer new q.judge q.out) None
all_done own text p piece rest new q d none e =
    let all : (text ++ d.done) ++ rest ≡ text ++ piece = append_assoc text d.done rest ∙ ap (λ (l : List ℕ). text ++ l) (sym d.parts) in (
      d.more,
      d.named,
      d.grown,
      (rw all at (read_rest own (text ++ d.done) rest (p.lines ++ d.more) (p.bytes ++ d.named) q.line new q.judge d.read none e)),
    )

-- The packer stood at `old` where a line of the piece ended; `rest` is its last part `front`, the line feed, and `following`. The answer to the line is
-- `answer`, and the packer stands at `new`.
pub record IsLineRead (own : Own) (text : List ℕ) (p : Packing) (piece following : List ℕ) (new : Packer) (answer : Option ScriptReason) : Type 0 where
  pub old : Packer
  pub rest : List ℕ
  pub front : List ℕ
  pub before : IsDone own text p piece rest old
  pub cut : rest ≡ front ++ 10 ∷ following
  pub none : has_feed front ≡ false
  pub end : IsLineEnd own (packing (p.lines ++ before.more) (p.bytes ++ before.named) old.out) (old.line ++ front) new.judge new.out answer

pub line_done : (own : Own) (text : List ℕ) (p : Packing) (piece following : List ℕ) (new : Packer) → new.line ≡ []
    → IsLineRead own text p piece following new None → IsDone own text p piece following new
line_done own text p piece following new nothing l =
    let d = l.before in
    let line = l.old.line ++ l.front in
    let up_to = l.front ++ 10 ∷ [] in
    record {
      done = d.done ++ up_to;
      parts = d.parts ∙ ap (λ (z : List ℕ). d.done ++ z) (l.cut ∙ sym (append_assoc l.front (10 ∷ []) following)) ∙ sym (append_assoc d.done up_to following);
      more = d.more ++ line ∷ [];
      named = d.named ++ l.end.0;
      grown = l.end.1 ∙ ap (λ (z : List ℕ). z ++ l.end.0) d.grown ∙ append_assoc p.out d.named l.end.0;
      read = rw nothing (rw (append_assoc p.bytes d.named l.end.0) at (rw (append_assoc p.lines d.more (line ∷ [])) at (rw (append_assoc text d.done up_to) at (read_line l.front l.end.0 d.read l.none refl l.end.2))));
    }

pub line_stops : (own : Own) (text : List ℕ) (p : Packing) (piece following : List ℕ) (new : Packer) (reason : ScriptReason)
    → IsLineRead own text p piece following new (Some reason) → IsPieceRead own (text ++ piece) p new (Some reason)
line_stops own text p piece following new reason l =
    let d = l.before in
    let number = number_of new.judge.stage in
    let stop = stops_at l.front following reason d.read l.none refl l.end.1 l.end.2 in
    let all : (text ++ d.done) ++ (l.front ++ 10 ∷ following) ≡ text ++ piece = append_assoc text d.done (l.front ++ 10 ∷ following)
    ∙ ap (λ (z : List ℕ). text ++ z) (ap (λ (z : List ℕ). d.done ++ z) (sym l.cut) ∙ sym d.parts) in
    (d.named, l.end.0 ∙ d.grown, (stop.0, rw all at stop.1, stop.2), rw all at stop.3)

-- the line isn't ended yet, and is too long
pub rest_stops : (own : Own) (text : List ℕ) (p : Packing) (piece rest new : List ℕ) (q : Packer) → IsDone own text p piece rest q → has_feed rest ≡ false
    → 2 * own.limit + 256 < length (q.line ++ rest) → IsPieceRead own (text ++ piece) p (packer new q.judge q.out) (Some Syntax)
rest_stops own text p piece rest new q d none long =
    let line = q.line ++ rest in
    let number = number_of q.judge.stage in
    let refused = too_long own (p.lines ++ d.more) (p.bytes ++ d.named) line q.judge d.read.packed long in
    let some : 0 < length line = omega (arith, long) in
    let stop = stops_in rest Syntax d.read none refl some d.read.packed.count refused in
    let split = (read_rest own (text ++ d.done) rest (p.lines ++ d.more) (p.bytes ++ d.named) q.line line q.judge d.read none refl).split in
    let all : (text ++ d.done) ++ rest ≡ text ++ piece = append_assoc text d.done rest ∙ ap (λ (l : List ℕ). text ++ l) (sym d.parts) in
    (d.named, d.grown, (stop.0, rw all at stop.1, stop.2), (rw (← all) (p.lines ++ d.more, line, split, inr (omega (arith, d.read.packed.count), long))))

-- ---- the end of a script

pub all_packed : {own : Own} {all : List (List ℕ)} {b : List ℕ} {f : FeedState} {messages bytes : ℕ} (text : List ℕ) → AreLines text all
    → IsPackedTo own all b f → is_none all ≡ false → messages ≡ number_of f.stage - 1 → bytes ≡ start_of f.stage
    → (all : List (List ℕ)) × AreLines text all × IsPacked own all b (Accepted messages bytes)
all_packed {own} {all} {b} {f} {messages} {bytes} text lines h some count size =
    let s = taken_so_far own all b f h in
    let v = s.0 in
    let long : start_of f.stage ≡ length b = omega (arith, verdict_length own b v s.1.taken.verdict, s.1.start, ap length s.1.taken.nothing_left) in
    let same : Accepted messages bytes ≡ Accepted (v.number - 1) (length b) =
    ap (λ (n : ℕ). Accepted n bytes) (count ∙ ap (λ (n : ℕ). n - 1) (sym s.1.number)) ∙ ap (λ (n : ℕ). Accepted (v.number - 1) n) (size ∙ long) in
    (all, lines, accepted v some s.1.taken same)

pub stopped_packed : {own : Own} {text line b : List ℕ} {lines : List (List ℕ)} {f : FeedState} {number : ℕ} (g : FeedState) (reason : ScriptReason)
    → IsReadSo own text lines b line f → 0 < length line → number ≡ number_of g.stage + 1 → number_of g.stage ≡ length lines
    → IsRefused own lines b line reason → (all : List (List ℕ)) × AreLines text all × IsPacked own all b (Refused number reason)
stopped_packed {text} {line} g reason h some is count r =
    let stop = stops_in [] reason h refl (sym (append-nil line)) some count r in
    (stop.0, rw (append-nil text) at stop.1, stopped (number_of g.stage + 1) reason stop.2 (ap (λ (n : ℕ). Refused n reason) is))

-- ---- what a script ends with

some_by : (lines : List (List ℕ)) → (length lines ≡ 0 → ⊥) → is_none lines ≡ false
some_by [] h = absurd (h refl)
some_by (l ∷ lines) h = refl

-- no bytes more
none_named : (own : Own) (text b out out' : List ℕ) (e : PackEnd) → out' ≡ out → (all : List (List ℕ)) × AreLines text all × IsPacked own all b e
    → IsScriptEnd own text b out out' e
none_named own text b out out' e same h =
    ([], same ∙ sym (append-nil out), (h.0, h.1, rw (sym (append-nil b)) at h.2))

pub end_empty : {own : Own} {text b line : List ℕ} {lines : List (List ℕ)} {f : FeedState} {e : PackEnd} (out : List ℕ) → IsReadSo own text lines b line f
    → length line ≡ 0 → (number_of f.stage ≡ 0 → ⊥)
    → e ≡ Accepted (number_of f.stage - 1) (start_of f.stage) → IsScriptEnd own text b out out e
end_empty {own} {text} {b} {line} {lines} {f} {e} out h none some is =
    let here = rw (nil_from_length line none) at h in
    let filled = some_by lines (λ z. some (h.packed.count ∙ z)) in
    none_named own text b out out e refl (rw (sym is) at (all_packed text (lines, [], here.split, refl) h.packed filled refl refl))

pub end_line : {own : Own} {text b line : List ℕ} {lines : List (List ℕ)} {f : FeedState} {e : PackEnd} (out out' : List ℕ) (g : FeedState)
    → IsReadSo own text lines b line f → 0 < length line → IsLineEnd own (packing lines b out) line g out' None
    → e ≡ Accepted (number_of g.stage - 1) (start_of g.stage) → IsScriptEnd own text b out out' e
end_line {own} {text} {b} {line} {lines} {f} {e} out out' g h some end is = (
  end.0,
  end.1,
  (rw (sym is) at (all_packed text (lines, line, h.split, long_last lines line some) end.2 (some_lines lines line) refl refl)),
)

pub end_stop : {own : Own} {text b line : List ℕ} {lines : List (List ℕ)} {f : FeedState} {number : ℕ} (out out' : List ℕ) (g : FeedState)
    (reason : ScriptReason) → IsReadSo own text lines b line f → 0 < length line → IsLineEnd own (packing lines b out) line g out' (Some reason)
    → number ≡ number_of g.stage → IsScriptEnd own text b out out' (Refused (number + 1) reason)
end_stop {own} {text} {b} {number} out out' g reason h some end is =
    none_named own text b out out' (Refused (number + 1) reason) end.0 (stopped_packed {number = number + 1} g reason h some (omega (arith, is)) end.1 end.2)

-- ---- what follows an answer

pub ok_more : {A E : Type 0} (P Q : A → Type 0) (r : Result A E) → ((a : A) → P a → Q a) → IfOk r P → IfOk r Q
ok_more P Q (Ok a) f h = f a h
ok_more P Q (Err e) f h = tt
