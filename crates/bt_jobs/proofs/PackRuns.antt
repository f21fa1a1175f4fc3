-- A script that is read and packed turn by turn.
use Rattle.std.proofs.Common.{◌≡◌, ℕ, ◌≤◌, List, [], ◌++◌, Option, None, Result, Ok, Err, refl, sym, ap, subst, ◌∙◌, arith, inl, inr}
use Rattle.std.proofs.lemmas.List.{append-nil, append_assoc}
use Rattle.std.proofs.KnownBytes.{Appends-nil, Appends-trans, Consumes-nil, Consumes-trans}
use Rattle.std.specs.Io.KnownBytes.{Consumes, Appends}
use Rattle.bt_feed.specs.declared.stage.Stage.TheVariants as stage
use Rattle.bt_feed.specs.Feeds.{FeedState}
use Rattle.bt_feed.specs.Stages.{stopped as left_at}
use Rattle.bt_feed.proofs.Coming.{open_comes}
use Rattle.bt_feed.proofs.Reading.{hand_open}
use Rattle.bt_wire.specs.declared.context.Own.{Own}
use Rattle.bt_wire.specs.Streams.{Outcome}
use Rattle.bt_text.specs.declared.ended.PackEnd.{PackEnd}
use Rattle.bt_text.specs.declared.ended.PackEnd.TheVariants.{Accepted, Refused}
use Rattle.bt_text.specs.declared.ended.ScriptReason.{ScriptReason}
use Rattle.bt_text.specs.declared.ended.ToolFault.{ToolFault}
use Rattle.bt_jobs.specs.Packs.{ended_lines, with_last, AreLines, AreTaken, IsPacked, empty, stopped, accepted, IsEndedLine, IsTimely, AreTakenTo}
use Rattle.bt_jobs.specs.Packs.{AreFrontLines, IsPackRun}
use Rattle.bt_jobs.specs.PackSteps.{Packer, packing, IsReadSo, IsPieceRead}
use Rattle.bt_io.specs.Seen.{SourceSeen, Devices, devices, EndRead, AppendsPrefix}
use Rattle.bt_jobs.specs.Printed.{IsWrittenOut}
use Rattle.bt_jobs.proofs.Packing.{taken_so_far}
use Rattle.bt_jobs.proofs.PackText.{ended_before, split_of}
use Rattle.bt_jobs.proofs.Printing.{front_after, all_is_front}

-- From `before` to `after` the text was read: the lines, which are taken, and `line`, the first part of the next. What the lines name is written.
pub record IsRun (own : Own) (before after : Devices) (line : List ℕ) (f : FeedState) : Type 0 where
  pub text : List ℕ
  pub lines : List (List ℕ)
  pub bytes : List ℕ
  pub consumed : Consumes before.source.left after.source.left text
  pub written : Appends before.target.held after.target.held bytes
  pub read : IsReadSo own text lines bytes line f

pub run_starts : (own : Own) (before : Devices) (line : List ℕ) (f : FeedState) → own.limit ≤ 1048576 → line ≡ [] → f
    ≡ record { stage = stage.Handshake own; held = []; refused = None } → IsRun own before before line f
run_starts own before line f le none e =
    record {
      text = [];
      lines = [];
      bytes = [];
      consumed = Consumes-nil before.source.left;
      written = Appends-nil before.target.held;
      read = rw none (rw e (record {
        split = record { parts = refl; whole = tt; last = refl };
        packed = record { named = refl; items = []; comes = λ later v k. k; empty = refl; first = refl; count = refl; limit = refl; bound = le };
      }));
    }

pub run_taken : (own : Own) (before after : Devices) (line : List ℕ) (f : FeedState) → IsRun own before after line f
    → AreTakenTo own before.source.left after.source.left
run_taken own before after line f r =
    let s = taken_so_far own r.lines r.bytes f r.read.packed in
    (r.text, r.lines, line, r.consumed, r.read.split, r.bytes, s.0, s.1.taken)

pub nothing_taken : (own : Own) (left : Option (List ℕ)) → own.limit ≤ 1048576 → AreTakenTo own left left
nothing_taken own left le =
    let v = left_at (stage.Handshake own) [] None in (
      [],
      [],
      [],
      Consumes-nil left,
      record { parts = refl; whole = tt; last = refl },
      [],
      v,
      record { named = refl; verdict = open_comes (stage.Handshake own) [] (omega (arith, le)) (hand_open own); nothing_left = refl },
    )

-- ---- fronts

-- every text has its lines
lines_of : (text : List ℕ) → (all : List (List ℕ)) × AreLines text all
lines_of text =
    let s = split_of text in
    (with_last s.0 s.1, (s.0, s.1, s.2, refl))

-- at a fault a prefix of the bytes that the taken lines name is written
fails : {own : Own} {text b line : List ℕ} {lines : List (List ℕ)} {f : FeedState} (before after : Devices) (more : List ℕ) (e : ToolFault)
    → IsReadSo own text lines b line f → Consumes before.source.left after.source.left (text ++ more)
    → AppendsPrefix before.target.held after.target.held b → IsPackRun own before after (Err e)
fails {own} {text} {b} {line} {lines} {f} before after more e h read front =
    let t = lines_of (text ++ more) in
    let s = taken_so_far own lines b f h.packed in (
      text ++ more,
      t.0,
      read,
      t.1,
      (
        lines,
        b,
        s.0,
        inl (
          line ++ more,
          ap (λ (t : List ℕ). t ++ more) h.split.parts
              ∙ append_assoc (ended_lines lines) line more,
          h.split.whole,
        ),
        s.1.taken,
        front,
      ),
    )

-- `more` was read after the run, and nothing is written
pub run_fails : (own : Own) (before mid : Devices) (source : SourceSeen) (line more : List ℕ) (f : FeedState) (e : ToolFault)
    → IsRun own before mid line f → Consumes mid.source.left source.left more → IsPackRun own before (devices source mid.target) (Err e)
run_fails own before mid source line more f e r read =
    fails before (devices source mid.target) more e r.read (Consumes-trans before.source.left mid.source.left source.left r.text more r.consumed read)
    (all_is_front before.target.held mid.target.held r.bytes r.written)

-- ---- a turn

pub out_is : (out out' x : List ℕ) → out ≡ [] → out' ≡ out ++ x → out' ≡ x
out_is out out' x none e = e ∙ ap (λ (l : List ℕ). l ++ x) none

-- A piece more was read after a run to `mid`, and the packer stands at `next`: what its `out` holds is to be written.
pub record IsPieceMore (own : Own) (before mid : Devices) (source : SourceSeen) (out : List ℕ) (next : Packer) : Type 0 where
  pub line : List ℕ
  pub judge : FeedState
  pub run : IsRun own before mid line judge
  pub piece : List ℕ
  pub consumed : Consumes mid.source.left source.left piece
  pub empty : out ≡ []
  pub read : IsPieceRead own (run.text ++ piece) (packing run.lines run.bytes out) next None

pub run_more : (own : Own) (before mid after : Devices) (out : List ℕ) (next : Packer) → IsPieceMore own before mid after.source out next
    → Appends mid.target.held after.target.held next.out → IsRun own before after next.line next.judge
run_more own before mid after out next m written =
    let r = m.run in
    let p = m.read in
    record {
      text = r.text ++ m.piece;
      lines = r.lines ++ p.0;
      bytes = r.bytes ++ p.1;
      consumed = Consumes-trans before.source.left mid.source.left after.source.left r.text m.piece r.consumed m.consumed;
      written = Appends-trans before.target.held mid.target.held after.target.held r.bytes p.1 r.written
          (subst (Appends mid.target.held after.target.held) (out_is out next.out p.1 m.empty p.2) written);
      read = p.3;
    }

-- the text of the piece can't be written
pub more_fails : (own : Own) (before mid after : Devices) (out : List ℕ) (next : Packer) (e : ToolFault)
    → IsPieceMore own before mid after.source out next → AppendsPrefix mid.target.held after.target.held next.out → IsPackRun own before after (Err e)
more_fails own before mid after out next e m front =
    let r = m.run in
    let p = m.read in
    fails before after [] e p.3 (rw (sym (append-nil (r.text ++ m.piece))) at (Consumes-trans before.source.left mid.source.left after.source.left r.text m.piece r.consumed m.consumed))
    (front_after before.target.held mid.target.held after.target.held r.bytes p.1 r.written
    (subst (AppendsPrefix mid.target.held after.target.held) (out_is out next.out p.1 m.empty p.2) front))

-- ---- the end

-- the taken lines of a packed script
taken_of : (E : Type 0) (own : Own) (text : List ℕ) (all : List (List ℕ)) (b : List ℕ) (e : PackEnd) → own.limit ≤ 1048576 → AreLines text all
    → IsTimely own.limit text E e → IsPacked own all b e → (lines : List (List ℕ)) × (v : Outcome) × AreFrontLines text E lines × AreTaken own lines b v
taken_of E own text all b e le lines timely (empty none bytes is) =
    let v = left_at (stage.Handshake own) [] None in (
      [],
      v,
      inl (text, refl, tt),
      (rw bytes (record {
        named = refl;
        verdict = open_comes (stage.Handshake own) [] (omega (arith, le))
            (hand_open own);
        nothing_left = refl;
      })),
    )
taken_of E own text all b e le lines timely (stopped number reason stop is) =
    (stop.before, stop.verdict, inl (ended_before text all stop.before stop.following stop.line lines stop.parts), stop.taken)
taken_of E own text all b e le lines timely (accepted v some taken is) =
    (all, v, inr ((rw is at timely), lines), taken)

-- The text was read, and packing `all`, its lines, ends as `e`. The bytes that they name are `first`, which is written to `held`, and `last`; writing
-- `last` answers `r`.
pub record IsRunEnd (own : Own) (before after : Devices) (e : PackEnd) (r : Result PackEnd ToolFault) : Type 0 where
  pub limit : own.limit ≤ 1048576
  pub text : List ℕ
  pub all : List (List ℕ)
  pub first : List ℕ
  pub last : List ℕ
  pub held : Option (List ℕ)
  pub consumed : Consumes before.source.left after.source.left text
  pub lines : AreLines text all
  pub packed : IsPacked own all (first ++ last) e
  pub timely : IsTimely own.limit text (EndRead before.source after.source) e
  pub before_last : Appends before.target.held held first
  pub written : IsWrittenOut e last held after.target.held r

pub packed_run : (own : Own) (before after : Devices) (e : PackEnd) (r : Result PackEnd ToolFault) → IsRunEnd own before after e r
    → IsPackRun own before after r
packed_run own before after e (Ok d) h = (
  h.text,
  h.all,
  h.consumed,
  h.lines,
  (
    h.first ++ h.last,
    (rw (sym h.written.0) at h.packed),
    Appends-trans before.target.held h.held after.target.held h.first h.last h.before_last h.written.1,
    (rw (sym h.written.0) at h.timely),
  ),
)
packed_run own before after e (Err fault) h =
    let t = taken_of (EndRead before.source after.source) own h.text h.all (h.first ++ h.last) e h.limit h.lines h.timely h.packed in (
      h.text,
      h.all,
      h.consumed,
      h.lines,
      (
        t.0,
        h.first ++ h.last,
        t.1,
        t.2,
        t.3,
        front_after before.target.held h.held after.target.held h.first h.last h.before_last h.written,
      ),
    )

pub timely_at_end : (limit : ℕ) (text : List ℕ) (E : Type 0) (e : PackEnd) → E → IsTimely limit text E e
timely_at_end limit text E (Accepted messages bytes) h = h
timely_at_end limit text E (Refused number reason) h = inr h

pub timely_line : (limit : ℕ) (text : List ℕ) (E : Type 0) (e : PackEnd) (number : ℕ) (reason : ScriptReason) → e ≡ Refused number reason
    → IsEndedLine limit text number → IsTimely limit text E e
timely_line limit text E e number reason is h =
    rw is (inl h)

pub nothing_run : (own : Own) (d : Devices) (e : ToolFault) → own.limit ≤ 1048576 → IsPackRun own d d (Err e)
nothing_run own d e le =
    let v = left_at (stage.Handshake own) [] None in (
      [],
      [],
      Consumes-nil d.source.left,
      ([], [], record { parts = refl; whole = tt; last = refl }, refl),
      (
        [],
        [],
        v,
        inl ([], refl, tt),
        record {
          named = refl;
          verdict = open_comes (stage.Handshake own) [] (omega (arith, le)) (hand_open own);
          nothing_left = refl;
        },
        all_is_front d.target.held d.target.held [] (Appends-nil d.target.held),
      ),
    )

pub no_bytes : (a b c : Option (List ℕ)) (text : List ℕ) → Consumes a b text → Consumes b c [] → Consumes a c text
no_bytes a b c text p q = subst (Consumes a c) (append-nil text) (Consumes-trans a b c text [] p q)
