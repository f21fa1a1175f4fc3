-- Where handshakes start in a front, and in a longer one.
use Rattle.std.proofs.Common.{◌≡◌, ◌∙◌, ℕ, ◌+◌, ◌-◌, ◌≤◌, List, ◌++◌, length, take, drop}
use Rattle.std.proofs.Common.{Option, Some, None, sym, ap, subst, append_assoc, arith, length-append, length-drop, inl, inr}
use Rattle.std.proofs.lemmas.Bool.{cases_lt}
use Rattle.std.proofs.lemmas.List.{take-append-drop, take_all}
use Rattle.std.proofs.Math.Seq.{drop-append_seam, take-append_seam, take-append-add}
use Rattle.bt_wire.specs.Handshakes.{protocol}
use Rattle.bt_intro.specs.Hellos.{IsHelloAt, IsFirstHello, HasNoHello, IsStartOf, IsFirstFrom, BeginsAsHello}

-- the rest of a list is all of it
pub whole : (front : List ℕ) (k : ℕ) → k ≤ length front → take (length front - k) (drop k front) ≡ drop k front
whole front k le = take_all (length front - k) (drop k front) (omega (arith, length-drop k front))

pub hello_fits : (front : List ℕ) (k : ℕ) → IsHelloAt front k → k + 20 ≤ length front
hello_fits front k h = omega (arith, ap length h.parts, length-append h.before (protocol ++ h.after), length-append protocol h.after)

pub hello_by_drop : (front : List ℕ) (k : ℕ) → k ≤ length front → BeginsAsHello (drop k front) → IsHelloAt front k
hello_by_drop front k le h = record {
  before = take k front;
  after = h.after;
  parts = sym (take-append-drop k front) ∙ ap (λ (r : List ℕ). take k front ++ r) h.parts;
  place = omega (arith, ap length (take-append-drop k front), length-append (take k front) (drop k front), length-drop k front);
}

pub hello_drops : (front : List ℕ) (k : ℕ) → (h : IsHelloAt front k) → drop k front ≡ protocol ++ h.after
hello_drops front k h =
    ap (λ (n : ℕ). drop n front) (sym h.place) ∙ ap (λ (l : List ℕ). drop (length h.before) l) h.parts ∙ drop-append_seam h.before (protocol ++ h.after)

-- what starts in a front starts in a longer one
pub hello_more : (front more : List ℕ) (k : ℕ) → IsHelloAt front k → IsHelloAt (front ++ more) k
hello_more front more k h = record {
  before = h.before;
  after = h.after ++ more;
  parts = ap (λ (l : List ℕ). l ++ more) h.parts ∙ append_assoc h.before (protocol ++ h.after) more
      ∙ ap (λ (l : List ℕ). h.before ++ l) (append_assoc protocol h.after more);
  place = h.place;
}

-- what starts in a longer one and has its first 20 bytes in the front starts there
pub hello_less : (front more : List ℕ) (k : ℕ) → k + 20 ≤ length front → IsHelloAt (front ++ more) k → IsHelloAt front k
hello_less front more k le h =
    let whole : List ℕ = h.before ++ protocol in
    let size : length whole ≡ k + 20 = omega (arith, length-append h.before protocol, h.place) in
    let n : ℕ = length front - length whole in
    let same : length whole + n ≡ length front = omega arith in
    let cut : take (length front) (front ++ more) ≡ front = take-append_seam front more in
    let parts : front ++ more ≡ whole ++ h.after = h.parts ∙ sym (append_assoc h.before protocol h.after) in
    let split : take (length front) (whole ++ h.after) ≡ whole ++ take n h.after =
    subst (λ (m : ℕ). take m (whole ++ h.after) ≡ whole ++ take n h.after) same (take-append-add whole h.after n) in
    record {
      before = h.before;
      after = take n h.after;
      parts = sym cut ∙ ap (λ (l : List ℕ). take (length front) l) parts ∙ split ∙ append_assoc h.before protocol (take n h.after);
      place = h.place;
    }

pub first_more : (front more : List ℕ) (k : ℕ) → IsFirstHello front k → IsFirstHello (front ++ more) k
first_more front more k h = record {
  near = h.near;
  here = hello_more front more k h.here;
  first = λ j lt at. let fits : k + 20 ≤ length front = hello_fits front k h.here in h.first j lt (hello_less front more j (omega arith) at);
}

-- a search from the last 19 bytes of what had none
pub start_more : (front more : List ℕ) (o : Option ℕ) → HasNoHello front → IsFirstFrom (front ++ more) (length front - 19) o → IsStartOf (front ++ more) o
start_more front more None none h = λ j le at.
    elim (cases_lt j (length front - 19)) [
      | inl lt ↦ none j le (hello_less front more j (omega arith) at)
      | inr ge ↦ h j ge le at
    ]
start_more front more (Some k) none h = record {
  near = h.1;
  here = h.2;
  first = λ j lt at. elim (cases_lt j (length front - 19)) [
    | inl low ↦ none j (omega (arith, h.1)) (hello_less front more j (omega arith) at)
    | inr ge ↦ h.3 j ge lt at
  ];
}
