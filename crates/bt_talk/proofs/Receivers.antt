-- Receivers and judges, by what a side has sent.
use Rattle.bt_talk.specs.declared.terms.Terms.{Terms}
use Rattle.std.proofs.Common.{◌≡◌, ◌∙◌, ℕ, ◌+◌, ◌≤◌, List, ◌++◌, length, take, drop, ◌-◌, length-drop}
use Rattle.std.proofs.Common.{Option, Some, None, unwrap_or, refl, sym, ap, subst, arith, length-append, inl, inr}
use Rattle.std.proofs.lemmas.Bool.{cases_lt}
use Rattle.std.proofs.lemmas.List.{drop-append-le, take_all}
use Rattle.bt_wire.specs.declared.context.Own.{Own}
use Rattle.bt_wire.specs.declared.item.Item.{Item}
use Rattle.bt_wire.specs.Streams.{Outcome, IsVerdict}
use Rattle.bt_wire.proofs.VerdictLaws.{verdict_only}
use Rattle.bt_jobs.specs.declared.other.Announced.{Announced}
use Rattle.bt_jobs.specs.Others.{first_of, own_of_other, reader_of_other}
use Rattle.bt_judge.specs.declared.judge.Judge.{Judge}
use Rattle.bt_judge.specs.Judges.{AreJudged}
use Rattle.bt_intro.specs.declared.settling.Receiver.{Receiver}
use Rattle.bt_wire.specs.Handshakes.{protocol}
use Rattle.bt_intro.specs.Hellos.{IsHelloAt, HasNoHello, IsFirstHello}
use Rattle.bt_intro.specs.Hearing.{IsSaid}
use Rattle.bt_intro.specs.Listening.{handshake_of}
use Rattle.bt_intro.specs.Settling.{receiver_by}
use Rattle.bt_talk.specs.Pasts.{Past}
use Rattle.bt_talk.specs.Receivers.{IsReceiver, IsJudgedBy}
use Rattle.bt_talk.specs.Terms.{limit_of, pieces_for}

-- the rest of a list is all of it
pub whole : (front : List ℕ) (k : ℕ) → k ≤ length front → take (length front - k) (drop k front) ≡ drop k front
whole front k le = take_all (length front - k) (drop k front) (omega (arith, length-drop k front))

hello_fits : (front : List ℕ) (k : ℕ) → IsHelloAt front k → k + 20 ≤ length front
hello_fits front k h = omega (arith, ap length h.parts, length-append h.before (protocol ++ h.after), length-append protocol h.after)

-- a receiver has the limit that was given
pub limited : (o s : Option Announced) (pieces : Option ℕ) (limit : ℕ) (r : Receiver) → Some r ≡ receiver_by o s pieces limit
    → Some (record { own = record r.own { limit = limit }; is_guessed = r.is_guessed }) ≡ receiver_by o s pieces limit
limited (Some said) (Some own) pieces limit r e =
    ap (λ (q : Receiver). Some (record { own = record q.own { limit = limit }; is_guessed = q.is_guessed })) (ap (λ (q : Option Receiver). unwrap_or q r) e)
limited None (Some own) pieces limit r e =
    ap (λ (q : Receiver). Some (record { own = record q.own { limit = limit }; is_guessed = q.is_guessed })) (ap (λ (q : Option Receiver). unwrap_or q r) e)
limited (Some said) None pieces limit r e = absurd (cc)
limited None None pieces limit r e = absurd (cc)

first_same : (front : List ℕ) (j k : ℕ) → IsFirstHello front j → IsFirstHello front k → j ≡ k
first_same front j k f g =
    elim (cases_lt j k) [
      | inl lt ↦ absurd (g.first j lt f.here)
      | inr le ↦ elim (cases_lt k j) [ inl lt ↦ absurd (f.first k lt g.here) | inr ge ↦ omega (arith, le, ge) ]
    ]

-- What is said has one verdict.
pub said_only : (front : List ℕ) (v w : Outcome) → IsSaid front v → IsSaid front w → v ≡ w
said_only front v w (inl a) (inl b) = a.1 ∙ sym b.1
said_only front v w (inl a) (inr b) = absurd (a.0 b.0 b.1.near b.1.here)
said_only front v w (inr a) (inl b) = absurd (b.0 a.0 a.1.near a.1.here)
said_only front v w (inr a) (inr b) =
    let e : b.0 ≡ a.0 = first_same front b.0 a.0 b.1 a.1 in
    verdict_only reader_of_other (drop a.0 front) v w (omega (arith)) a.2
    (subst (λ (k : ℕ). IsVerdict reader_of_other (drop k front) w) e b.2)

silent : (front : List ℕ) (v : Outcome) → HasNoHello front → IsSaid front v → own_of_other v.items ≡ None
silent front v n (inl s) = ap (λ (w : Outcome). own_of_other w.items) s.1
silent front v n (inr s) = absurd (n s.0 s.1.near s.1.here)

-- Without a handshake there is no receiver.
pub none_without : (terms : Terms) (p other : Past) (r : Receiver) → HasNoHello p.front → IsReceiver terms p other (Some r) → ⊥
none_without terms p other r n i =
    let e : Some r ≡ None = i.is ∙ ap (λ (o : Option Announced). receiver_by (own_of_other i.theirs.items) o
    (pieces_for terms (first_of handshake_of i.own.items)) (limit_of terms)) (silent p.front i.own n i.own_is) in
    absurd (cc)

pub receiver_same : (terms : Terms) (p q p' q' : Past) (r : Option Receiver) → p'.front ≡ p.front → q'.front ≡ q.front → IsReceiver terms p q r
    → IsReceiver terms p' q' r
receiver_same terms p q p' q' r e f i = record {
  own = i.own;
  theirs = i.theirs;
  own_is = subst (λ (l : List ℕ). IsSaid l i.own) (sym e) i.own_is;
  theirs_is = subst (λ (l : List ℕ). IsSaid l i.theirs) (sym f) i.theirs_is;
  is = i.is;
}

pub judged_same : (own : Own) (p q : Past) (judge : Judge) → q.front ≡ p.front → q.out ≡ p.out → IsJudgedBy own p judge → IsJudgedBy own q judge
judged_same own p q judge e f j = record {
  start = j.start;
  first = subst (λ (l : List ℕ). IsFirstHello l j.start) (sym e) j.first;
  free = j.free;
  bep = j.bep;
  judged = subst (λ (l : List ℕ). AreJudged own (drop j.start l) j.free j.bep judge) (sym f) j.judged;
}

pub start_within : (p : Past) (later : List ℕ) (start : ℕ) → p.out ≡ p.front ++ later → IsFirstHello p.front start → start ≤ length p.out
start_within p later start e first =
    let fits : start + 20 ≤ length p.front = hello_fits p.front start first.here in omega (arith, ap length e, length-append p.front later)

-- The bytes that follow are judged.
pub judged_more : (own : Own) (p q : Past) (later more taken : List ℕ) (free bep : List (ℕ × Item)) (old new : Judge) → p.out ≡ p.front ++ later
    → q.front ≡ p.front → q.out ≡ p.out ++ more → taken ≡ more → (j : IsJudgedBy own p old)
    → AreJudged own (drop j.start p.out ++ taken) (j.free ++ free) (j.bep ++ bep) new → (k : IsJudgedBy own q new) × (k.free ≡ j.free ++ free)
judged_more own p q later more taken free bep old new parts front out same j judged =
    let e : drop j.start (p.out ++ more) ≡ drop j.start p.out ++ more = drop-append-le j.start p.out more (start_within p later j.start parts j.first) in
    let f : drop j.start p.out ++ taken ≡ drop j.start q.out =
    ap (λ (l : List ℕ). drop j.start p.out ++ l) same ∙ sym e ∙ ap (λ (l : List ℕ). drop j.start l) (sym out) in (
      record {
        start = j.start;
        first = subst (λ (l : List ℕ). IsFirstHello l j.start) (sym front) j.first;
        free = j.free ++ free;
        bep = j.bep ++ bep;
        judged = subst (λ (l : List ℕ). AreJudged own l (j.free ++ free) (j.bep ++ bep) new) f judged;
      },
      refl,
    )
