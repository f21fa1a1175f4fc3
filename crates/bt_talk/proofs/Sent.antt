-- The bytes that are handed out.
use Rattle.std.proofs.Common.{◌≡◌, ◌∙◌, ℕ, ◌≤◌, Bool, true, false, if◌then◌else◌, List, [], ◌++◌, append-nil}
use Rattle.std.proofs.Common.{drop, length, Option, Some, None, unwrap_or, refl, sym, ap, subst, arith}
use Rattle.std.proofs.lemmas.List.{drop-append-le}
use Rattle.bt_intro.specs.Hellos.{IsStartOf}
use Rattle.bt_packet.specs.declared.tcp.Segment.{Segment}
use Rattle.bt_flow.specs.declared.flow.Flow.{Flow}
use Rattle.bt_remarks.specs.declared.events.Side.{Side}
use Rattle.bt_remarks.specs.declared.events.Side.TheVariants.{A, B}
use Rattle.bt_remarks.specs.Said.{other}
use Rattle.bt_talk.specs.declared.sides.Sides.{Sides}
use Rattle.bt_talk.specs.declared.terms.Terms.{Terms}
use Rattle.bt_talk.specs.Pasts.{Past, HasSent, HasSentBy, IsAcked, given_of}
use Rattle.bt_talk.specs.Sent.{IsReady, IsSent, SendsOn, is_wanted}
use Rattle.bt_talk.specs.Talks.{AreSides, of_side}
use Rattle.bt_talk.proofs.Receivers.{start_within}
use Rattle.bt_talk.proofs.Talks.{acked_same, front_kept}

-- ---- a segment's bytes

pub ready_none : (opening wanted : Bool) (p q : Past) (l : List ℕ) → q.out ≡ p.out → l ≡ [] → IsReady opening wanted p q l
ready_none true wanted p q l e f = f
ready_none false true p q l e f = e ∙ sym (append-nil p.out) ∙ ap (λ (x : List ℕ). p.out ++ x) (sym f)
ready_none false false p q l e f = f

-- After the opening
pub ready_now : (wanted : Bool) (p q : Past) (more l : List ℕ) → q.out ≡ p.out ++ more → l ≡ (if wanted then more else []) → IsReady false wanted p q l
ready_now true p q more l e f = e ∙ ap (λ (x : List ℕ). p.out ++ x) (sym f)
ready_now false p q more l e f = f

unready : (opening : Bool) (p q : Past) (l : List ℕ) → IsReady opening false p q l → l ≡ []
unready true p q l r = r
unready false p q l r = r

-- If the wanted side didn't send the segment, nothing is handed out.
pub ready_kept : (opening : Bool) (side wanted : Side) (a b a' b' : Past) (l : List ℕ)
    → IsReady opening (is_wanted side (Some wanted)) (of_side side a b) (of_side side a' b') l
    → (of_side (other side) a' b').out ≡ (of_side (other side) a b).out → IsReady opening true (of_side wanted a b) (of_side wanted a' b') l
ready_kept opening A A a b a' b' l r e = r
ready_kept opening B B a b a' b' l r e = r
ready_kept opening A B a b a' b' l r e = ready_none opening true b b' l e (unready opening a a' l r)
ready_kept opening B A a b a' b' l r e = ready_none opening true a a' l e (unready opening b b' l r)

sent_front : (reset : Bool) (s : Segment) (opening : Bool) (p : Past) (flow : Flow) (q : Past) (flow' : Flow) → HasSentBy reset s opening p flow q flow'
    → opening ≡ false → q.front ≡ p.front
sent_front true s opening p flow q flow' h e = ap (λ (x : Past). x.front) h.0
sent_front false s opening p flow q flow' h e = front_kept (given_of s) opening p flow q flow' h e

-- After the opening its bytes stay.
pub fronts_kept : (s : Segment) (opening : Bool) (side wanted : Side) (a b a' b' : Past) (flow flow' : Flow)
    → HasSent s opening (of_side side a b) flow (of_side side a' b') flow' → IsAcked s (of_side (other side) a b) (of_side (other side) a' b')
    → opening ≡ false → (of_side wanted a' b').front ≡ (of_side wanted a b).front
fronts_kept s opening A A a b a' b' flow flow' h k e = sent_front s.flags.rst s opening a flow a' flow' h e
fronts_kept s opening B B a b a' b' flow flow' h k e = sent_front s.flags.rst s opening b flow b' flow' h e
fronts_kept s opening A B a b a' b' flow flow' h k e = (acked_same s b b' k).0
fronts_kept s opening B A a b a' b' flow flow' h k e = (acked_same s a a' k).0

-- ---- all that is handed out

start_fits : (p : Past) (later : List ℕ) (start : Option ℕ) → p.out ≡ p.front ++ later → IsStartOf p.front start → unwrap_or start 0 ≤ length p.out
start_fits p later None e i = omega arith
start_fits p later (Some k) e i = start_within p later k e i

-- After the opening the bytes that are ready follow.
sends_after : (p q : Past) (later more : List ℕ) → p.out ≡ p.front ++ later → q.front ≡ p.front → q.out ≡ p.out ++ more → SendsOn false p false q more
sends_after p q later more e f g before i = record {
  start = i.start;
  is_start = λ o. subst (λ (l : List ℕ). IsStartOf l i.start) (sym f) (i.is_start refl);
  is = ap (λ (l : List ℕ). l ++ more) i.is
      ∙ sym (drop-append-le (unwrap_or i.start 0) p.out more (start_fits p later i.start e (i.is_start refl)))
      ∙ ap (λ (l : List ℕ). drop (unwrap_or i.start 0) l) (sym g);
}

-- What was ready is handed out, or what came in the opening, which ends.
pub sends_on : (opening opening' : Bool) (p q : Past) (later ready more : List ℕ) → p.out ≡ p.front ++ later → IsReady opening true p q ready
    → (opening ≡ false → q.front ≡ p.front) → (opening ≡ false → opening' ≡ false) → (opening ≡ false → more ≡ ready)
    → (opening ≡ true → ready ≡ [] → IsSent opening' q more) → SendsOn opening p opening' q more
sends_on true opening' p q later ready more e r f o s h before i =
    subst (λ (l : List ℕ). IsSent opening' q l) (ap (λ (l : List ℕ). l ++ more) (sym i.is)) (h refl r)
sends_on false opening' p q later ready more e r f o s h before i =
    subst (λ (x : Bool). IsSent x q (before ++ more)) (sym (o refl))
    (sends_after p q later more e (f refl) (r ∙ ap (λ (l : List ℕ). p.out ++ l) (sym (s refl))) before i)

-- Nothing was handed out in the opening.
pub sends_first : (opening opening' : Bool) (p q : Past) (more : List ℕ) → opening ≡ true → IsSent opening' q more → SendsOn opening p opening' q more
sends_first true opening' p q more e h before i = subst (λ (l : List ℕ). IsSent opening' q l) (ap (λ (l : List ℕ). l ++ more) (sym i.is)) h
sends_first false opening' p q more e h before i = absurd (cc)

-- Nothing is handed out.
pub sends_nothing : (opening opening' : Bool) (p : Past) (more : List ℕ) → opening' ≡ opening → more ≡ [] → SendsOn opening p opening' p more
sends_nothing opening opening' p more e f before i =
    subst (λ (o : Bool). IsSent o p (before ++ more)) (sym e)
    (subst (λ (l : List ℕ). IsSent opening p l) (sym (append-nil before) ∙ ap (λ (l : List ℕ). before ++ l) (sym f)) i)

-- In the opening there is nothing.
pub sent_none : (opening : Bool) (p : Past) (bytes : List ℕ) → opening ≡ true → bytes ≡ [] → IsSent opening p bytes
sent_none true p bytes e f = record { start = None; is_start = λ n. absurd (cc); is = f }
sent_none false p bytes e f = absurd (cc)

-- What a side sent has the opening as its prefix.
pub parts_of : (terms : Terms) (side : Side) (a b : Past) (t : Sides) → AreSides terms a b t → (later : List ℕ) × ((of_side side a b).out ≡ (of_side side a b).front ++ later)
parts_of terms A a b t i = (i.a_is.later, i.a_is.front)
parts_of terms B a b t i = (i.b_is.later, i.b_is.front)
