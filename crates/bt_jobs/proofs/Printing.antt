-- What is written of a stream turn by turn.
use Rattle.std.proofs.Common.{◌≡◌, ℕ, ◌+◌, ◌-◌, ◌^◌, ◌<◌, ◌≤◌, ◌⊎◌, List, [], ◌∷◌, ◌++◌, length, Option, Some, None, Result, Ok, Err, refl, sym, ap, subst}
use Rattle.std.proofs.Common.{◌∙◌, arith, inl, inr}
use Rattle.std.proofs.lemmas.Bool.{cases_lt}
use Rattle.std.proofs.lemmas.List.{append-nil, append_assoc, length-append}
use Rattle.std.proofs.lemmas.Grind.{flat_map-append}
use Rattle.std.proofs.KnownBytes.{Appends-nil, Appends-trans, Consumes-nil, Consumes-trans}
use Rattle.std.specs.Io.KnownBytes.{Consumes, Appends}
use Rattle.bt_wire.specs.declared.context.Own.{Own}
use Rattle.bt_wire.specs.declared.fault.Refused.{Refused as Fault}
use Rattle.bt_wire.specs.declared.item.Item.{Item}
use Rattle.bt_wire.specs.declared.item.Refusal.{Refusal}
use Rattle.bt_wire.specs.Handshakes.{hand, hand_fault}
use Rattle.bt_wire.specs.Laws.{VerdictIsOne, ItemsStay}
use Rattle.bt_wire.specs.Streams.{Outcome, IsVerdict, IsVerdictBy, refusal_at_end}
use Rattle.bt_wire.proofs.HandLaws.{hand-length}
use Rattle.bt_feed.specs.declared.stage.Stage.TheVariants as stage
use Rattle.bt_feed.specs.declared.view.Finish.TheVariants as finish
use Rattle.bt_feed.specs.Answers.{unless_refused}
use Rattle.bt_feed.specs.Feeds.{FeedState}
use Rattle.bt_feed.specs.Laws.{verdict_at_end}
use Rattle.bt_feed.specs.Pumps.{Took, IsPumped, IsOpenTo}
use Rattle.bt_feed.specs.Stages.{number_of, stopped, Comes}
use Rattle.bt_feed.specs.Transcripts.{with_items}
use Rattle.bt_text.specs.declared.ended.Ended.{Ended}
use Rattle.bt_text.specs.declared.ended.Ended.TheVariants.{Accepted, Refused}
use Rattle.bt_text.specs.declared.ended.ToolFault.{ToolFault}
use Rattle.bt_text.specs.declared.ended.ToolFault.TheVariants as faults
use Rattle.bt_jobs.specs.declared.printer.Form.{Form}
use Rattle.bt_feed.proofs.Coming.{open_comes}
use Rattle.bt_feed.proofs.Reading.{hand_open}
use Rattle.std.specs.Prelude.{MatchResult, IfErr, OnErr}
use Rattle.bt_jobs.specs.declared.printer.Printer.{Printer}
use Rattle.bt_text.specs.Lines.{ended_by, ended_as, verdict_line}
use Rattle.bt_io.specs.Seen.{SourceSeen, TargetSeen, Devices, devices, EndRead, AppendsPrefix}
use Rattle.bt_jobs.specs.Printed.{texts, text_of, form_of, text_in, Prints, IsWrittenOut, IsFlushed, MayBeTold, IsEndOfReads, IsAllWritten, IsFrontWritten}
use Rattle.bt_jobs.specs.Printed.{IsEndOfTurn}
use Rattle.bt_jobs.specs.Printed.{Writing, nothing, items_in, prefixed, IsWritten, IsUnrefused, IsReadTo, so_far, turn_end, IsTurn, verdict_of, all_in}
use Rattle.bt_jobs.specs.Printed.{SoFar, TurnEnd}

-- ---- the text of items

pub printed : (p q : Printer) (xs : List (ℕ × Item)) → Took Prints p xs q → (form_of q ≡ form_of p)
    × ((own : Own) → text_in q ≡ text_in p ++ texts (form_of p) own xs)
printed p q [] h = (ap form_of h, λ own. ap text_in h ∙ sym (append-nil (text_in p)))
printed p q (x ∷ xs) h =
    let m = h.0 in
    let rest = printed m q xs h.2 in (
      rest.0 ∙ h.1.0,
      λ own.
          let more : text_in q ≡ text_in m ++ texts (form_of p) own xs = rest.1 own ∙ ap (λ (f : Form). text_in m ++ texts f own xs) h.1.0 in
          more ∙ ap (λ (t : List ℕ). t ++ texts (form_of p) own xs) (h.1.1 own) ∙ append_assoc (text_in p) (text_of (form_of p) own x)
          (texts (form_of p) own xs),
    )

-- ---- the verdict at the end

length_by : (o : Option Fault) (own : Own) (b : List ℕ) (v : Outcome) → IsVerdictBy o own b v → v.start + length v.tail ≡ length b
length_by (Some f) own b v h = omega (arith, ap (λ (w : Outcome). w.start + length w.tail) h)
length_by None own b v h =
    elim (cases_lt (length b) 68) [
      | inl lt ↦ omega (arith, ap (λ (w : Outcome). w.start + length w.tail) (h.0 lt))
      | inr le ↦
          let o = h.1 le in
          omega (
            arith,
            ap (λ (w : Outcome). w.start + length w.tail) o.whole,
            o.messages.start_after,
            ap length o.parts,
            length-append (hand o.handshake) o.rest,
            hand-length o.handshake o.fits,
          )
    ]

pub verdict_length : (own : Own) (b : List ℕ) (v : Outcome) → IsVerdict own b v → v.start + length v.tail ≡ length b
verdict_length own b v h = length_by (hand_fault own b) own b v h

accepted_by : (o : Option Refusal) (m n : ℕ) → unless_refused o (Ok m) ≡ Ok n → (o ≡ None) × (n ≡ m)
accepted_by (Some r) m n e = absurd cc
accepted_by None m n e = (refl, cc)

pub refused_by : (o : Option Refusal) (m : ℕ) (r : Refusal) → unless_refused o (Ok m) ≡ Err (finish.Refused r) → o ≡ Some r
refused_by (Some s) m r e = cc
refused_by None m r e = absurd cc

-- ---- a turn

-- A pump into the printer `p` has stopped, but for a sink's fault. It read `bytes`, which went to the feed, and `lost`; it gave `given` to the printer,
-- which is `printer` then, and the outcome is `now`. Writing the printer's text, for `answer`, answers `r`.
pub record IsTurned (own : Own) (so : SoFar) (f : FeedState) (before : Devices) (p : Printer) (end : TurnEnd) (answer : Option Ended)
    (r : Result (Option Ended) ToolFault) : Type 0 where
  pub one : VerdictIsOne
  pub limit : own.limit < 2 ^ 32
  pub read : IsReadTo own so.bytes so.items f
  pub empty : text_in p ≡ []
  pub bytes : List ℕ
  pub lost : List ℕ
  pub given : List (ℕ × Item)
  pub printer : Printer
  pub now : Outcome
  pub consumed : Consumes before.source.left end.devices.source.left (bytes ++ lost)
  pub took : Took Prints p given printer
  pub pumped : IsPumped f bytes lost given end.feed now
  pub flushed : IsFlushed answer (text_in printer) before.target.held end.devices.target.held (text_in end.printer) r
  pub form_is : form_of end.printer ≡ form_of printer

-- the outcome of what was read
pub total : (own : Own) (b : List ℕ) (xs : List (ℕ × Item)) (f g : FeedState) (bytes lost : List ℕ) (ys : List (ℕ × Item)) (v : Outcome)
    → IsReadTo own b xs f → IsPumped f bytes lost ys g v → IsVerdict own (b ++ (bytes ++ lost)) (with_items xs v)
total own b xs f g bytes lost ys v r p = r.comes (bytes ++ lost) v p.comes

pub read_more : {own : Own} {b bytes lost : List ℕ} {xs ys : List (ℕ × Item)} {f g : FeedState} {v : Outcome} → lost ≡ []
    → v.refusal ≡ None → IsReadTo own b xs f → IsPumped f bytes lost ys g v → IsReadTo own (b ++ (bytes ++ lost)) (xs ++ ys) g
read_more {own} {b} {bytes} {lost} {xs} {ys} {f} {g} {v} none free r p = record {
  comes = λ later w k.
      let more : b ++ (bytes ++ later) ≡ (b ++ (bytes ++ lost)) ++ later =
      sym (append_assoc b bytes later) ∙ ap (λ (l : List ℕ). (b ++ l) ++ later) (sym (append-nil bytes) ∙ ap (λ (l : List ℕ). bytes ++ l) (sym none)) in
      (rw more at (rw (sym (append_assoc xs ys w.items)) at (r.comes (bytes ++ later) (with_items ys w) (p.fed.comes later w k))));
  now = with_items xs v;
  is = total own b xs f g bytes lost ys v r p;
  items = ap (λ (l : List (ℕ × Item)). xs ++ l) p.items;
  unrefused = free;
}

text_of_turn : (own : Own) (p q : Printer) (ys : List (ℕ × Item)) → text_in p ≡ [] → Took Prints p ys q → text_in q ≡ texts (form_of p) own ys
text_of_turn own p q ys empty took = (printed p q ys took).1 own ∙ ap (λ (t : List ℕ). t ++ texts (form_of p) own ys) empty

-- at a fault a prefix of the text of these items is written in this turn
front_of_turn : (own : Own) (so : SoFar) (f : FeedState) (before : Devices) (p : Printer) (end : TurnEnd) (answer : Option Ended) (e : ToolFault)
    → (h : IsTurned own so f before p end answer (Err e)) → (w : Outcome) → IsVerdict own (so.bytes ++ (h.bytes ++ h.lost)) w
    → (zs : List (ℕ × Item)) × (w.items ≡ so.items ++ zs)
    × AppendsPrefix before.target.held end.devices.target.held (texts (form_of p) own zs)
front_of_turn own so f before p end answer e h w is =
    let all = total own so.bytes so.items f end.feed h.bytes h.lost h.given h.now h.read h.pumped in
    let same : w ≡ with_items so.items h.now = h.one own (so.bytes ++ (h.bytes ++ h.lost)) w (with_items so.items h.now) h.limit is all in (
      h.given,
      ap (λ (u : Outcome). u.items) same ∙ ap (λ (l : List (ℕ × Item)). so.items ++ l) h.pumped.items,
      subst (AppendsPrefix before.target.held end.devices.target.held) (text_of_turn own p h.printer h.given h.empty h.took) h.flushed,
    )

-- where nothing of a turn is written
pub nothing_of_turn : {own : Own} {b : List ℕ} {xs : List (ℕ × Item)} {f : FeedState} (form : Form) (more : List ℕ) (held : Option (List ℕ))
    → own.limit < 2 ^ 32 → ItemsStay → IsReadTo own b xs f
    → (w : Outcome) → IsVerdict own (b ++ more) w → (zs : List (ℕ × Item)) × (w.items ≡ xs ++ zs) × AppendsPrefix held held (texts form own zs)
nothing_of_turn {own} {b} {xs} {f} form more held lt stay r w is =
    let s = stay own b more r.now w lt r.is is in
    (s.0, s.1 ∙ ap (λ (l : List (ℕ × Item)). l ++ s.0) r.items, ([], texts form own s.0, refl, Appends-nil held))

pub goes_on : (own : Own) (so : SoFar) (f : FeedState) (before : Devices) (p : Printer) (end : TurnEnd) (r : Result (Option Ended) ToolFault)
    → (h : IsTurned own so f before p end None r) → h.lost ≡ [] → h.now.refusal ≡ None → IsTurn (form_of p) own so before end r
goes_on own so f before p end (Ok None) h none free = (
  h.bytes ++ h.lost,
  h.given,
  h.consumed,
  subst (Appends before.target.held end.devices.target.held) (text_of_turn own p h.printer h.given h.empty h.took) h.flushed.1,
  read_more none free h.read h.pumped,
  h.form_is ∙ (printed p h.printer h.given h.took).0,
  h.flushed.2,
)
goes_on own so f before p end (Ok (Some e)) h none free = absurd (let no : Some e ≡ None = h.flushed.0 in cc)
goes_on own so f before p end (Err e) h none free = (h.bytes ++ h.lost, h.consumed, front_of_turn own so f before p end None e h)

pub ends : (own : Own) (so : SoFar) (f : FeedState) (before : Devices) (p : Printer) (end : TurnEnd) (ended : Ended) (r : Result (Option Ended) ToolFault)
    → (h : IsTurned own so f before p end (Some ended) r) → ended ≡ ended_as h.now (h.now.start + length h.now.tail)
    → IsTurn (form_of p) own so before end r
ends own so f before p end ended (Ok (Some e)) h is =
    let read = so.bytes ++ (h.bytes ++ h.lost) in
    let all = total own so.bytes so.items f end.feed h.bytes h.lost h.given h.now h.read h.pumped in
    let same : e ≡ ended = let some : Some e ≡ Some ended = h.flushed.0 in cc in
    let size : h.now.start + length h.now.tail ≡ length read = verdict_length own read (with_items so.items h.now) all in (
      h.bytes ++ h.lost,
      h.given,
      h.consumed,
      subst (Appends before.target.held end.devices.target.held) (text_of_turn own p h.printer h.given h.empty h.took) h.flushed.1,
      (
        with_items so.items h.now,
        all,
        ap (λ (l : List (ℕ × Item)). so.items ++ l) h.pumped.items,
        same ∙ is ∙ ap (λ (n : ℕ). ended_as h.now n) size,
      ),
      h.form_is ∙ (printed p h.printer h.given h.took).0,
      h.flushed.2,
    )
ends own so f before p end ended (Ok None) h is = absurd (let no : None ≡ Some ended = h.flushed.0 in cc)
ends own so f before p end ended (Err e) h is = (h.bytes ++ h.lost, h.consumed, front_of_turn own so f before p end (Some ended) e h)

pub is_accepted : (v : Outcome) (g : FeedState) (number messages n : ℕ) → verdict_at_end v ≡ Ok n → v.number ≡ number_of g.stage → number
    ≡ number_of g.stage → messages ≡ number - 1 → Accepted messages n ≡ ended_as v (v.start + length v.tail)
is_accepted v g number messages n e same is less =
    let a = accepted_by (refusal_at_end v) (v.start + length v.tail) n e in
    let count : messages ≡ v.number - 1 = less ∙ ap (λ (k : ℕ). k - 1) (is ∙ sym same) in
    ap (λ (k : ℕ). Accepted k n) count ∙ ap (λ (k : ℕ). Accepted (v.number - 1) k) a.1
    ∙ ap (λ (o : Option Refusal). ended_by o v.number (v.start + length v.tail)) (sym a.0)

pub is_refused : (v : Outcome) (r : Refusal) → verdict_at_end v ≡ Err (finish.Refused r) → Refused r ≡ ended_as v (v.start + length v.tail)
is_refused v r e = ap (λ (o : Option Refusal). ended_by o v.number (v.start + length v.tail))
    (sym (refused_by (refusal_at_end v) (v.start + length v.tail) r e))

-- a fault of writing says what failed
pub write_failed : {T : Type 0} (F : Type 0) (r : Result T ToolFault) → OnErr r F → r ≡ Err faults.Write → F
write_failed F (Ok a) h e = absurd cc
write_failed F (Err x) h e = h

pub said_failed : {T : Type 0} (F : Type 0) (r : Result T ToolFault) → IfErr r (λ f. (f ≡ faults.Write) × F) → r ≡ Err faults.Write → F
said_failed F (Ok a) h e = absurd cc
said_failed F (Err x) h e = h.1

-- where the answer of a turn comes from, once its text is written
pub end_of_turn : (e : Ended) (text left : List ℕ) (held held' : Option (List ℕ)) (before after : SourceSeen) (r : Result (Option Ended) ToolFault)
    → IsFlushed (Some e) text held held' left r → IfErr r (λ f. f ≡ faults.Write) → MayBeTold (EndRead before after) e → IsEndOfTurn r before after
end_of_turn e text left held held' before after (Ok None) f fault told = absurd (let no : None ≡ Some e = f.0 in cc)
end_of_turn e text left held held' before after (Ok (Some x)) f fault told =
    let some : Some x ≡ Some e = f.0 in
    let same : x ≡ e = cc in
    subst (MayBeTold (EndRead before after)) (sym same) told
end_of_turn e text left held held' before after (Err x) f fault told = subst (λ (y : ToolFault). IsEndOfTurn (Err y) before after) (sym fault) tt

-- ---- the turns

texts_both : (form : Form) (own : Own) (xs ys : List (ℕ × Item)) → texts form own (xs ++ ys) ≡ texts form own xs ++ texts form own ys
texts_both form own xs ys = flat_map-append (text_of form own) xs ys

-- a new feed
pub starts : (own : Own) (f : FeedState) → own.limit ≤ 1048576 → f ≡ record { stage = stage.Handshake own; held = []; refused = None } → IsReadTo own [] [] f
starts own f le e =
    (rw e (record {
      comes = λ later v k. k;
      now = stopped (stage.Handshake own) [] None;
      is = open_comes (stage.Handshake own) [] (omega (arith, le)) (hand_open own);
      items = refl;
      unrefused = refl;
    }))

-- what was written before, and a turn more
pub record IsToldTo (form : Form) (own : Own) (left left' held held' : Option (List ℕ)) (f : FeedState) (p : Printer) : Type 0 where
  pub bytes : List ℕ
  pub items : List (ℕ × Item)
  pub consumed : Consumes left left' bytes
  pub written : Appends held held' (texts form own items)
  pub read : IsReadTo own bytes items f
  pub form_is : form_of p ≡ form
  pub empty : text_in p ≡ []

pub told_first : (own : Own) (left held : Option (List ℕ)) (f : FeedState) (p : Printer) → own.limit ≤ 1048576 → f
    ≡ record { stage = stage.Handshake own; held = []; refused = None } → text_in p ≡ [] → IsToldTo (form_of p) own left left held held f p
told_first own left held f p le e empty =
    record { bytes = []; items = []; consumed = Consumes-nil left; written = Appends-nil held; read = starts own f le e; form_is = refl; empty = empty }

pub told_unrefused : (form : Form) (own : Own) (left left' held held' : Option (List ℕ)) (f : FeedState) (p : Printer)
    → IsToldTo form own left left' held held' f p → IsUnrefused own left left'
told_unrefused form own left left' held held' f p t = (t.bytes, t.read.now, t.consumed, t.read.is, t.read.unrefused)

-- where nothing is read
pub nothing_unrefused : (own : Own) (left : Option (List ℕ)) → own.limit ≤ 1048576 → IsUnrefused own left left
nothing_unrefused own left le =
    ([], stopped (stage.Handshake own) [] None, Consumes-nil left, open_comes (stage.Handshake own) [] (omega (arith, le)) (hand_open own), refl)

-- where a pump into a new feed read last
pub pumped_unrefused : {R : Type 0} (seen : R → SourceSeen) (own : Own) (f : FeedState) (old new : R) → own.limit ≤ 1048576
    → f ≡ record { stage = stage.Handshake own; held = []; refused = None }
    → ((seen new).reads ≡ (seen old).reads) ⊎ ((before : R) × IsOpenTo f (seen old) (seen before) × ((seen new).reads ≤ (seen before).reads + 1))
    → (before : R) × IsUnrefused own (seen old).left (seen before).left × ((seen new).reads ≤ (seen before).reads + 1)
pumped_unrefused seen own f old new le is h =
    elim h [
      | inl e ↦ (old, nothing_unrefused own (seen old).left le, omega (arith, e))
      | inr o ↦
          (o.0, rw is at o.1, o.2)
    ]

joined : (form : Form) (own : Own) (a b c : Option (List ℕ)) (xs ys : List (ℕ × Item)) → Appends a b (texts form own xs) → Appends b c (texts form own ys)
    → Appends a c (texts form own (xs ++ ys))
joined form own a b c xs ys p q = subst (Appends a c) (sym (texts_both form own xs ys)) (Appends-trans a b c (texts form own xs) (texts form own ys) p q)

pub told_more : {form : Form} {own : Own} {left held : Option (List ℕ)} {f : FeedState} {p : Printer} (before after : Devices) (g : FeedState) (q : Printer)
    → (t : IsToldTo form own left before.source.left held before.target.held f p)
    → IsTurn (form_of p) own (so_far t.bytes t.items) before (turn_end after g q) (Ok None)
    → IsToldTo form own left after.source.left held after.target.held g q
told_more {form} {own} {left} {held} {f} {p} before after g q t n =
    let m = rw t.form_is at n in
    record {
      bytes = t.bytes ++ m.0;
      items = t.items ++ m.1;
      consumed = Consumes-trans left before.source.left after.source.left t.bytes m.0 t.consumed m.2;
      written = joined form own held before.target.held after.target.held t.items m.1 t.written m.3;
      read = m.4;
      form_is = m.5;
      empty = m.6;
    }

pub told_end : {form : Form} {own : Own} {left held : Option (List ℕ)} {f : FeedState} {p : Printer} (before after : Devices) (g : FeedState) (q : Printer)
    (e : Ended) → (t : IsToldTo form own left before.source.left held before.target.held f p)
    → IsTurn (form_of p) own (so_far t.bytes t.items) before (turn_end after g q) (Ok (Some e))
    → ((b : List ℕ) × Consumes left after.source.left b × IsAllWritten (items_in form own) own b held after.target.held e) × (text_in q ≡ [])
told_end {form} {own} {left} {held} {f} {p} before after g q e t n =
    let m = rw t.form_is at n in
    let v = m.4.0 in (
      (
        t.bytes ++ m.0,
        Consumes-trans left before.source.left after.source.left t.bytes m.0 t.consumed m.2,
        (v, m.4.1, rw (sym m.4.2) at (joined form own held before.target.held after.target.held t.items m.1 t.written m.3), m.4.3),
      ),
      m.6,
    )

-- known bytes that grew, and then by a front
pub front_after : (a b c : Option (List ℕ)) (xs ys : List ℕ) → Appends a b xs → AppendsPrefix b c ys → AppendsPrefix a c (xs ++ ys)
front_after a b c xs ys p q = (xs ++ q.0, q.1, ap (λ (l : List ℕ). xs ++ l) q.2 ∙ sym (append_assoc xs q.0 q.1), Appends-trans a b c xs q.0 p q.3)

-- a front, of something longer
front_of_more : (a b : Option (List ℕ)) (xs ys : List ℕ) → AppendsPrefix a b xs → AppendsPrefix a b (xs ++ ys)
front_of_more a b xs ys p = (p.0, p.1 ++ ys, ap (λ (l : List ℕ). l ++ ys) p.2 ∙ append_assoc p.0 p.1 ys, p.3)

pub all_is_front : (a b : Option (List ℕ)) (xs : List ℕ) → Appends a b xs → AppendsPrefix a b xs
all_is_front a b xs p = (xs, [], sym (append-nil xs), p)

pub told_fault : {form : Form} {own : Own} {f : FeedState} {p : Printer} (start before after : Devices) (g : FeedState) (q : Printer) (e : ToolFault)
    → (t : IsToldTo form own start.source.left before.source.left start.target.held before.target.held f p)
    → IsTurn (form_of p) own (so_far t.bytes t.items) before (turn_end after g q) (Err e)
    → (b : List ℕ) × Consumes start.source.left after.source.left b × IsFrontWritten (items_in form own) (items_in form own) own b start after
told_fault {form} {own} {f} {p} start before after g q e t n =
    let m = rw t.form_is at n in (
      t.bytes ++ m.0,
      Consumes-trans start.source.left before.source.left after.source.left t.bytes m.0 t.consumed m.1,
      λ w is.
          let k = m.2 w is in
          let all : texts form own t.items ++ texts form own k.0 ≡ texts form own w.items = sym (texts_both form own t.items k.0)
          ∙ ap (texts form own) (sym k.1) in
          inl (subst (AppendsPrefix start.target.held after.target.held) all (front_after start.target.held before.target.held after.target.held
          (texts form own t.items) (texts form own k.0) t.written k.2)),
    )

-- after turns without an end, what is written is a prefix
pub told_so_far : (form : Form) (own : Own) (before after : Devices) (f : FeedState) (p : Printer) → own.limit ≤ 1048576
    → VerdictIsOne → IsToldTo form own before.source.left after.source.left before.target.held after.target.held f p
    → (b : List ℕ) × Consumes before.source.left after.source.left b × IsFrontWritten (items_in form own) (items_in form own) own b before after
told_so_far form own before after f p le one t = (
  t.bytes,
  t.consumed,
  λ w is.
      let same : t.items ≡ w.items = sym t.read.items ∙ ap (λ (v : Outcome). v.items) (one own t.bytes t.read.now w (omega (arith, le)) t.read.is is) in
      inl (subst (λ xs. AppendsPrefix before.target.held after.target.held (texts form own xs)) same
      (all_is_front before.target.held after.target.held (texts form own t.items) t.written)),
)

-- ---- the verdict's line

either_front : (E P : Type 0) → P ⊎ (E × P) → P
either_front E P (inl p) = p
either_front E P (inr p) = p.1

pub front_shown : (form : Form) (own : Own) (b : List ℕ) (before after : Devices)
    → IsFrontWritten (items_in form own) (items_in form own) own b before after → IsFrontWritten (items_in form own) (all_in form own) own b before after
front_shown form own b before after h = λ w is. inl (either_front (MayBeTold (EndRead before.source after.source) (ended_as w (length b)))
    (AppendsPrefix before.target.held after.target.held (texts form own w.items)) (h w is))

-- the same outcome
written_by : (form : Form) (own : Own) (b : List ℕ) (held held' : Option (List ℕ)) (e : Ended) → own.limit < 2 ^ 32 → VerdictIsOne
    → (a : IsAllWritten (items_in form own) own b held held' e) → (w : Outcome) → IsVerdict own b w
    → Appends held held' (texts form own w.items) × (e ≡ ended_as w (length b))
written_by form own b held held' e lt one a w is =
    let same = one own b a.0 w lt a.1 is in
    subst (λ (v : Outcome). Appends held held' (texts form own v.items) × (e ≡ ended_as v (length b))) same (a.2, a.3)

pub front_shown_all : (form : Form) (own : Own) (b : List ℕ) (before after : Devices) (e : Ended) → own.limit < 2 ^ 32 → VerdictIsOne
    → IsAllWritten (items_in form own) own b before.target.held after.target.held e → IsFrontWritten (items_in form own) (all_in form own) own b before after
front_shown_all form own b before after e lt one a = λ w is.
    let here = written_by form own b before.target.held after.target.held e lt one a w is in
    inl (all_is_front before.target.held after.target.held (texts form own w.items) here.0)

-- The text of the items of b is written, to `mid`. Writing `text`, the verdict's, answers `r`, and leaves `left` of it.
pub record IsVerdictFlushed (form : Form) (own : Own) (b : List ℕ) (before after : Devices) (e : Ended) (r : Result Ended ToolFault) : Type 0 where
  pub limit : own.limit < 2 ^ 32
  pub one : VerdictIsOne
  pub mid : Option (List ℕ)
  pub text : List ℕ
  pub left : List ℕ
  pub written : IsAllWritten (items_in form own) own b before.target.held mid e
  pub is : text ≡ verdict_of form e
  pub told : MayBeTold (EndRead before.source after.source) e
  pub flushed : IsFlushed e text mid after.target.held left r

pub all_shown : (form : Form) (own : Own) (b : List ℕ) (before after : Devices) (e : Ended) (r : Result Ended ToolFault)
    → IsVerdictFlushed form own b before after e r
    → MatchResult r (IsAllWritten (all_in form own) own b before.target.held after.target.held)
    (λ _. IsFrontWritten (items_in form own) (all_in form own) own b before after)
all_shown form own b before after e (Ok d) h =
    let v = h.written.0 in
    let line : h.text ≡ verdict_of form (ended_as v (length b)) = h.is ∙ ap (verdict_of form) h.written.3 in (
      v,
      h.written.1,
      Appends-trans before.target.held h.mid after.target.held (texts form own v.items) (verdict_of form (ended_as v (length b))) h.written.2
          (subst (Appends h.mid after.target.held) line h.flushed.1),
      h.flushed.0
          ∙ h.written.3,
    )
all_shown form own b before after e (Err x) h = λ w isw.
    let here = written_by form own b before.target.held h.mid e h.limit h.one h.written w isw in
    inr (
      subst (MayBeTold (EndRead before.source after.source)) here.1 h.told,
      front_after before.target.held h.mid after.target.held (texts form own w.items) (verdict_of form (ended_as w (length b))) here.0
          (subst (AppendsPrefix h.mid after.target.held) (h.is ∙ ap (verdict_of form) here.1) h.flushed),
    )

-- ---- the verdict alone

-- nothing is written
pub nothing_checked : (w : Writing) (own : Own) (before after : SourceSeen) (target : TargetSeen) (b : List ℕ) (f : ToolFault)
    → Consumes before.left after.left b → IsWritten nothing w own (devices before target) (devices after target) (Err f)
nothing_checked w own before after target b f c = (b, c, λ v is. inl ([], [], refl, Appends-nil target.held))

-- What was read are `bytes`. They were given to a new feed, and have the outcome `now`; writing its verdict, which is `e`, answers `r`.
pub record IsVerdictSaid (p : List ℕ) (own : Own) (before after : Devices) (e : Ended) (r : Result Ended ToolFault) : Type 0 where
  pub limit : own.limit ≤ 1048576
  pub one : VerdictIsOne
  pub bytes : List ℕ
  pub feed : FeedState
  pub now : Outcome
  pub consumed : Consumes before.source.left after.source.left bytes
  pub new : feed ≡ record { stage = stage.Handshake own; held = []; refused = None }
  pub comes : Comes feed.stage (feed.held ++ bytes) now
  pub ended : e ≡ ended_as now (now.start + length now.tail)
  pub told : MayBeTold (EndRead before.source after.source) e
  pub written : IsWrittenOut e (p ++ verdict_line e) before.target.held after.target.held r

-- the verdict is that of the bytes
said_verdict : (p : List ℕ) (own : Own) (before after : Devices) (e : Ended) (r : Result Ended ToolFault) → (h : IsVerdictSaid p own before after e r)
    → IsVerdict own h.bytes h.now × (e ≡ ended_as h.now (length h.bytes))
said_verdict p own before after e r h =
    let is : IsVerdict own h.bytes h.now = rw h.new at h.comes in
    (is, h.ended ∙ ap (λ (n : ℕ). ended_as h.now n) (verdict_length own h.bytes h.now is))

pub checked_all : (p : List ℕ) (own : Own) (before after : Devices) (e : Ended) (r : Result Ended ToolFault) → IsVerdictSaid p own before after e r
    → IsWritten nothing (prefixed p) own before after r
checked_all p own before after e (Ok a) h =
    let s = said_verdict p own before after e (Ok a) h in
    (h.bytes, h.consumed, (h.now, s.0, rw s.1 at h.written.1, h.written.0 ∙ s.1))
checked_all p own before after e (Err x) h =
    let b = h.bytes in
    let s = said_verdict p own before after e (Err x) h in (
      b,
      h.consumed,
      λ w isw.
          let limit = h.limit in
          inr (rw (← h.one own b h.now w (omega (arith, limit)) s.0 isw) (rw (← s.1) (h.told, h.written))),
    )

-- the answer is this verdict, which may be told, or a write failed
pub end_of_said : (e : Ended) (text : List ℕ) (held held' : Option (List ℕ)) (F : Type 0) (before after : SourceSeen) (r : Result Ended ToolFault)
    → MayBeTold (EndRead before after) e → IsWrittenOut e text held held' r → IfErr r (λ f. (f ≡ faults.Write) × F) → IsEndOfReads r before after
end_of_said e text held held' F before after (Ok a) told out fault = subst (MayBeTold (EndRead before after)) (sym out.0) told
end_of_said e text held held' F before after (Err x) told out fault =
    subst (λ (f : ToolFault). IsEndOfReads (Err f) before after) (sym fault.0) tt

-- ---- a prefix before a line

pub written_after : (held mid held' : Option (List ℕ)) (p text : List ℕ) (e : Ended) (r : Result Ended ToolFault) → Appends held mid p
    → IsWrittenOut e text mid held' r → IsWrittenOut e (p ++ text) held held' r
written_after held mid held' p text e (Ok a) first out = (out.0, Appends-trans held mid held' p text first out.1)
written_after held mid held' p text e (Err f) first out = front_after held mid held' p text first out

pub prefix_of_both : (held held' : Option (List ℕ)) (p text : List ℕ) → AppendsPrefix held held' p → AppendsPrefix held held' (p ++ text)
prefix_of_both held held' p text h = front_of_more held held' p text h
