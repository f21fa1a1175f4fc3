-- The message of a line, and what a line says.
use Rattle.std.proofs.Common.{◌≡◌, ℕ, ◌⊎◌, Bool, true, false, List, [], ◌++◌, Option, Some, None, Result, Ok, Err, sym, ap, subst, ◌∙◌, arith, inl, inr}
use Rattle.std.specs.Prelude.{IfOk, codes, option_map, option_and_then, if◌then◌else◌}
use Rattle.std.specs.Str.{bytes_eq}
use Rattle.std.proofs.lemmas.List.{append-nil}
use Rattle.bt_wire.specs.declared.context.Order.TheVariants.{Past}
use Rattle.bt_wire.specs.declared.fault.Refused.{Refused}
use Rattle.bt_wire.specs.Messages.{Message}
use Rattle.bt_wire.specs.Faults.{IsFault, is_whole}
use Rattle.bt_wire.specs.Fronts.{IsPartial}
use Rattle.bt_wire.specs.Laws.{FaultIsFinal}
use Rattle.bt_wire.specs.Messages.{spell}
use Rattle.bt_wire.proofs.SpellLaws.{spelled_first}
use Rattle.bt_session.specs.declared.link.Side.{Side}
use Rattle.bt_session.specs.declared.link.Step.TheVariants as steps
use Rattle.bt_text.specs.Script.{IsLine, IsAnswer}
use Rattle.bt_text.specs.ScriptLaws.{LineIsOne}
use Rattle.bt_link.specs.declared.entry.Entry.{Entry}
use Rattle.bt_link.specs.declared.entry.Entry.TheVariants.{Set, Do}
use Rattle.bt_link.specs.Entries.{lenient, IsMessage, IsMessageReading, IsSpelledBy, Says, IsReading, side_of, sided_of, delivery_of, setting_in, entry_by}
use Rattle.bt_link.specs.Entries.{entry_in, cut_of, said_in}

-- ---- the message of bytes

pub not_refused : (b : List ℕ) (f : Refused) → FaultIsFinal → IsFault lenient Past 0 b (Some f) → IsSpelledBy b None
not_refused b f final fault = λ m said e. final lenient Past 0 b [] [] f m (omega arith) fault said (ap (λ (z : List ℕ). z ++ []) e)

pub not_partial : (b : List ℕ) → IsPartial lenient Past 0 b → IsSpelledBy b None
not_partial b p = λ m said e.
    let short = said.legal.short in
    let whole : is_whole b ≡ true = ap is_whole (e ∙ sym (append-nil (spell lenient m))) ∙ (spelled_first lenient m [] (omega arith)).whole in
    let both : true ≡ false = sym whole ∙ p.part in
    cc

pub no_line : (words bytes : List ℕ) (ok : Bool) → ok ≡ false → IsAnswer false words bytes ok → IsMessageReading words None
no_line words bytes true e answer = absurd cc
no_line words bytes false e answer = λ m h. answer h.bytes h.line

pub a_line : (words bytes : List ℕ) (ok : Bool) → ok ≡ true → IsAnswer false words bytes ok → IsLine false words bytes
a_line words bytes true e answer = answer
a_line words bytes false e answer = absurd cc

read_by : (words bytes : List ℕ) (r : Option Message) → LineIsOne → IsLine false words bytes → IsSpelledBy bytes r → IsMessageReading words r
read_by words bytes None one line none = λ m h. none m h.said (one false words bytes h.bytes line h.line ∙ h.spelled)
read_by words bytes (Some m) one line h = record { bytes = bytes; line = line; said = h.0; spelled = h.1 }

pub read_so : {E : Type 0} (words bytes : List ℕ) (r : Result (Option Message) E) → LineIsOne → IsLine false words bytes → IfOk r (IsSpelledBy bytes)
    → IfOk r (IsMessageReading words)
read_so words bytes (Ok r) one line h = read_by words bytes r one line h
read_so words bytes (Err e) one line h = tt

-- ---- what a line says

not_both : {A : Type 0} (o : Option A) (x : A) → o ≡ Some x → o ≡ None → ⊥
not_both None x e f = cc
not_both (Some y) x e f = cc

same_some : {A : Type 0} (x y : A) → Some x ≡ Some y → x ≡ y
same_some x y e = cc

same_words : (s t : Side) (w v : List ℕ) (o : Option (Side × List ℕ)) → o ≡ Some (s, w) → o ≡ Some (t, v) → v ≡ w
same_words s t w v o e f = ap (λ (p : Side × List ℕ). p.1) (same_some (t, v) (s, w) (sym f ∙ e))

pub nothing_said : (text words : List ℕ) (s : Side) → said_in text ≡ Some (s, words) → IsMessageReading words None → IsReading text None
nothing_said text words s e none (Set t x) h = not_both (said_in text) (s, words) e h.0
nothing_said text words s e none (Do (steps.Turn t)) h = not_both (said_in text) (s, words) e h.0
nothing_said text words s e none (Do (steps.Say t m)) h = none m (subst (λ (w : List ℕ). IsMessage w m) (same_words s t words h.0 (said_in text) e h.1) h.2)
nothing_said text words s e none (Do (steps.Deliver t n)) h = not_both (said_in text) (s, words) e h.0
nothing_said text words s e none (Do steps.Reset) h = not_both (said_in text) (s, words) e h.0

mapped : {A B : Type 0} (f : A → B) (o : Option A) (y : B) → option_map f o ≡ Some y → (x : A) × (f x ≡ y)
mapped f None y e = absurd cc
mapped f (Some x) y e = (x, cc)

chained : {A B : Type 0} (f : A → Option B) (o : Option A) (y : B) → option_and_then f o ≡ Some y → (x : A) × (f x ≡ Some y)
chained f None y e = absurd cc
chained f (Some x) y e = (x, e)

either : {A : Type 0} (b : Bool) (x y z : A) → (if b then x else y) ≡ z → (x ≡ z) ⊎ (y ≡ z)
either true x y z e = inl e
either false x y z e = inr e

-- what isn't said is no message
no_say_by : (p : List ℕ × List ℕ) (s : Side) (m : Message) → entry_by p ≡ Some (Do (steps.Say s m)) → ⊥
no_say_by p s m e =
    let say : Option Entry = Some (Do (steps.Say s m)) in
    let other : Option Entry = option_and_then (λ s. option_map (Set s) (setting_in p.1)) (side_of p.0) in
    let delivery : Option Entry = option_and_then delivery_of (sided_of p.1) in
    let turn : Option Entry = option_map (λ s. Do (steps.Turn s)) (side_of p.1) in
    elim (either (bytes_eq p.0 (codes "turn")) turn (if bytes_eq p.0 (codes "deliver") then delivery else other) say e) [
      | inl t ↦ (let w = mapped (λ (s : Side). Do (steps.Turn s)) (side_of p.1) (Do (steps.Say s m)) t in let k : Do (steps.Turn w.0)
          ≡ Do (steps.Say s m) = w.1 in cc)
      | inr o ↦
          elim (either (bytes_eq p.0 (codes "deliver")) delivery other say o) [
            | inl d ↦ (let w = chained delivery_of (sided_of p.1) (Do (steps.Say s m)) d in let v = mapped (λ (n : ℕ). Do (steps.Deliver w.0.0 n)) _
                (Do (steps.Say s m)) w.1 in let k : Do (steps.Deliver w.0.0 v.0) ≡ Do (steps.Say s m) = v.1 in cc)
            | inr x ↦ (let w = chained (λ (t : Side). option_map (Set t) (setting_in p.1)) (side_of p.0) (Do (steps.Say s m)) x in
                let v = mapped (Set w.0) (setting_in p.1) (Do (steps.Say s m)) w.1 in let k : Set w.0 v.0 ≡ Do (steps.Say s m) = v.1 in cc)
          ]
    ]

pub no_say : (text : List ℕ) (s : Side) (m : Message) → entry_in text ≡ Some (Do (steps.Say s m)) → ⊥
no_say text s m e =
    elim (either (bytes_eq text (codes "reset")) (Some (Do steps.Reset)) (option_and_then entry_by (cut_of text)) (Some (Do (steps.Say s m))) e) [
      | inl r ↦ (let k : Some (Do steps.Reset) ≡ Some (Do (steps.Say s m)) = r in cc)
      | inr o ↦ (let w = chained entry_by (cut_of text) (Do (steps.Say s m)) o in no_say_by w.0 s m w.1)
    ]

plain_none : (text : List ℕ) → said_in text ≡ None → entry_in text ≡ None → IsReading text None
plain_none text none e (Set t x) h = not_both (entry_in text) (Set t x) h.1 e
plain_none text none e (Do (steps.Turn t)) h = not_both (entry_in text) (Do (steps.Turn t)) h.1 e
plain_none text none e (Do (steps.Say t m)) h = not_both (said_in text) (t, h.0) h.1 none
plain_none text none e (Do (steps.Deliver t n)) h = not_both (entry_in text) (Do (steps.Deliver t n)) h.1 e
plain_none text none e (Do steps.Reset) h = not_both (entry_in text) (Do steps.Reset) h.1 e

plain_some : (text : List ℕ) (e : Entry) → said_in text ≡ None → entry_in text ≡ Some e → Says text e
plain_some text (Set t x) none e = (none, e)
plain_some text (Do (steps.Turn t)) none e = (none, e)
plain_some text (Do (steps.Say t m)) none e = absurd (no_say text t m e)
plain_some text (Do (steps.Deliver t n)) none e = (none, e)
plain_some text (Do steps.Reset) none e = (none, e)

plain_by : (text : List ℕ) (r : Option Entry) → said_in text ≡ None → r ≡ entry_in text → IsReading text r
plain_by text None none e = plain_none text none (sym e)
plain_by text (Some x) none e = plain_some text x none (sym e)

pub plain_so : {E : Type 0} (text : List ℕ) (r : Result (Option Entry) E) → said_in text ≡ None → IfOk r (λ e. e ≡ entry_in text) → IfOk r (IsReading text)
plain_so text (Ok r) none e = plain_by text r none e
plain_so text (Err x) none e = tt
