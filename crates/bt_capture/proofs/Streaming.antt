-- The stream that is told, and its connection.
use Rattle.std.proofs.Common.{◌≡◌, ◌∙◌, ◌==◌, ℕ, ◌+◌, ◌-◌, ◌^◌, ◌<◌, ◌≤◌, min, Bool, true, List, [], ◌∷◌, ◌++◌, length, Some, None, refl, sym, ap, subst, arith}
use Rattle.std.proofs.Common.{inl, inr}
use Rattle.std.specs.List.{All, Contains}
use Rattle.std.specs.List.Sorted.{IsPermutation}
use Rattle.std.specs.Map.{lookup, remove_entry}
use Rattle.std.proofs.lemmas.Bool.{cases_Bool}
use Rattle.std.proofs.lemmas.List.Elements.{All-cons, All-head, All-nil, All-push, All-tail, Contains-append_left, Contains-append_right, Contains-push}
use Rattle.bt_remarks.specs.declared.events.Side.{Side}
use Rattle.bt_talk.specs.declared.terms.Terms.{Terms}
use Rattle.bt_capture.specs.Arrivals.{Arrival}
use Rattle.bt_capture.specs.Connections.{IsFirst}
use Rattle.bt_capture.specs.Following.{Finished, Fate, Reported, Silent, Lost, AreNumbered, IsStreaming, IsSentBy, IsStreamBy, IsStreamOf}
use Rattle.bt_capture.specs.Following.{count_over, count_open}
use Rattle.bt_capture.specs.Forms.{absent_from, is_stream, wanted_by}
use Rattle.bt_capture.specs.Sending.{HasSent, IsSending}
use Rattle.bt_capture.specs.Tables.{Held, IsApart, same_pair}
use Rattle.bt_capture.specs.declared.connection.Connection.{Connection}
use Rattle.bt_capture.specs.declared.ending.Form.{Form}
use Rattle.bt_capture.specs.declared.pair.Pair.{Pair}
use Rattle.bt_capture.proofs.Entries.{apart_first, apart_rest, same_is, same_self}
use Rattle.bt_capture.proofs.Numbers.{one_if, same_counts, same_number, begun_counts, end_counts, at_most_one}
use Rattle.bt_capture.proofs.Numbers.{none_began, one_began, counted_cons, counted_moved, counted_push}
use Rattle.bt_capture.proofs.Wants.{absent_before, next_absent, unwanted, wanted_stream, wants_other}

abbrev number_of : Finished → ℕ
number_of f = f.number

abbrev number_in : Pair × Held → ℕ
number_in e = e.1.value.number

-- Only the connection with this number adds to the stream that is told.
abbrev pub AddsFor : Form → ℕ → List ℕ → List ℕ → Type 0
AddsFor form n told told' = is_stream form ≡ true → wanted_by form n ≡ None → told' ≡ told

-- ---- one connection at a time

-- No other connection has its number.
pub alone_open : (begun : ℕ) (fs : List Finished) (p : Pair) (c : Held) (es : List (Pair × Held)) → AreNumbered begun fs ((p, c) ∷ es)
    → c.value.number < 2 ^ 64 - 1 → count_open c.value.number es ≡ 0
alone_open begun fs p c es i small =
    let n = c.value.number in
    let all = i n small in
    let cons = counted_cons number_in n (p, c) es in
    let self = same_counts n in
    let most = at_most_one begun n in
    omega (arith, all, cons, self, most)

pub alone_over : (begun : ℕ) (fs : List Finished) (p : Pair) (c : Held) (es : List (Pair × Held)) → AreNumbered begun fs ((p, c) ∷ es)
    → c.value.number < 2 ^ 64 - 1 → count_over c.value.number fs ≡ 0
alone_over begun fs p c es i small =
    let n = c.value.number in
    let all = i n small in
    let cons = counted_cons number_in n (p, c) es in
    let self = same_counts n in
    let most = at_most_one begun n in
    omega (arith, all, cons, self, most)

-- It has begun.
pub has_begun : (begun : ℕ) (fs : List Finished) (p : Pair) (c : Held) (es : List (Pair × Held)) → AreNumbered begun fs ((p, c) ∷ es)
    → c.value.number < 2 ^ 64 - 1 → c.value.number < begun
has_begun begun fs p c es i small =
    let n = c.value.number in
    let all = i n small in
    let cons = counted_cons number_in n (p, c) es in
    let self = same_counts n in
    one_began begun n (omega (arith, all, cons, self))

-- a sum with a one isn't zero
no_more : (all one rest : ℕ) → all ≡ one + rest → all ≡ 0 → one ≡ 1 → ⊥
no_more all one rest e none some = omega (arith, e, none, some)

-- another one in the table
pub other_open : (test : Pair → Bool) (es : List (Pair × Held)) (c : Held) (n : ℕ) → lookup test es ≡ Some c → count_open n es ≡ 0
    → c.value.number ≡ n → ⊥
other_open test [] c n found none same = cc
other_open test (e ∷ es) c n found none same =
    let cons = counted_cons number_in n e es in
    elim (cases_Bool (test e.0)) [
      | inl t ↦
          let is : Some e.1 ≡ Some c = rw t at found in
          let at : e.1 ≡ c = cc in
          let self : one_if (e.1.value.number == n) ≡ 1 =
          subst (λ m. one_if (e.1.value.number == m) ≡ 1) (ap (λ (h : Held). h.value.number) at ∙ same) (same_counts e.1.value.number) in
          absurd (no_more _ _ _ cons none self)
      | inr f ↦ other_open test es c n (rw f at found) (omega (arith, cons, none)) same
    ]

-- What was told for another one is as it was.
pub sending_on : (form : Form) (told told' : List ℕ) (terms : Terms) (taken more : List Arrival) (c : Connection) (n : ℕ)
    → (c.number < 2 ^ 64 - 1 → c.number ≡ n → ⊥) → AddsFor form n told told' → IsSending form told terms taken more c
    → IsSending form told' terms taken more c
sending_on form told told' terms taken more c n other adds i side small w =
    let none = wants_other form c.number n side w (other small) in
    let same : told' ≡ told = adds (wanted_stream form c.number side w) none in
    let P : List ℕ → Type 0 = λ l. HasSent side l terms taken more c in
    subst P (sym same) (i side small w)

pub sending_same : (form form' : Form) (told told' : List ℕ) (terms terms' : Terms) (taken more : List Arrival) (c : Connection) → form' ≡ form
    → told' ≡ told → terms' ≡ terms → IsSending form told terms taken more c → IsSending form' told' terms' taken more c
sending_same form form' told told' terms terms' taken more c a b d i =
    subst (λ x. IsSending x told' terms' taken more c) (sym a) (subst (λ x. IsSending form x terms' taken more c) (sym b)
    (subst (λ x. IsSending form told x taken more c) (sym d) i))

sent_on : (form : Form) (told told' : List ℕ) (terms : Terms) (from : ℕ) (f : Finished) (n : ℕ) → (f.number < 2 ^ 64 - 1 → f.number ≡ n → ⊥)
    → AddsFor form n told told' → IsSentBy form told terms from f → IsSentBy form told' terms from f
sent_on form told told' terms from f n other adds i side small w =
    let none = wants_other form f.number n side w (other small) in
    let same : told' ≡ told = adds (wanted_stream form f.number side w) none in
    let P : List ℕ → Type 0 = λ l. IsStreamOf side l terms from f in
    subst P (sym same) (i side small w)

pub all_sent_on : (form : Form) (told told' : List ℕ) (terms : Terms) (from : ℕ) (fs : List Finished) (n : ℕ)
    → (n < 2 ^ 64 - 1 → count_over n fs ≡ 0) → AddsFor form n told told' → All (IsSentBy form told terms from) fs
    → All (IsSentBy form told' terms from) fs
all_sent_on form told told' terms from [] n none adds i = All-nil (IsSentBy form told' terms from)
all_sent_on form told told' terms from (f ∷ fs) n none adds i =
    let cons = counted_cons number_of n f fs in
    let other : f.number < 2 ^ 64 - 1 → f.number ≡ n → ⊥ = λ small same.
    let below : n < 2 ^ 64 - 1 = subst (λ m. m < 2 ^ 64 - 1) same small in
    let no = none below in
    let self : one_if (f.number == n) ≡ 1 = subst (λ m. one_if (f.number == m) ≡ 1) same (same_counts f.number) in
    absurd (omega (arith, cons, no, self)) in
    All-cons (IsSentBy form told' terms from) f fs (sent_on form told told' terms from f n other adds (All-head (IsSentBy form told terms from) f fs i))
    (all_sent_on form told told' terms from fs n (λ below. let no = none below in omega (arith, cons, no)) adds
    (All-tail (IsSentBy form told terms from) f fs i))

-- ---- the connections together

pub streaming_same : (form form' : Form) (told told' : List ℕ) (terms terms' : Terms) (from from' begun begun' : ℕ) (fs : List Finished)
    (es : List (Pair × Held)) → form' ≡ form → told' ≡ told → terms' ≡ terms → from' ≡ from → begun' ≡ begun
    → IsStreaming form told terms from begun fs es → IsStreaming form' told' terms' from' begun' fs es
streaming_same form form' told told' terms terms' from from' begun begun' fs es a b c d e i =
    subst (λ x. IsStreaming x told' terms' from' begun' fs es) (sym a) (subst (λ x. IsStreaming form x terms' from' begun' fs es) (sym b)
    (subst (λ x. IsStreaming form told x from' begun' fs es) (sym c) (subst (λ x. IsStreaming form told terms x begun' fs es) (sym d)
    (subst (λ x. IsStreaming form told terms from x fs es) (sym e) i))))

-- The first one is over.
pub streaming_over : (form : Form) (told told' : List ℕ) (terms : Terms) (from begun : ℕ) (fs : List Finished) (f : Finished) (p : Pair) (c : Held)
    (es : List (Pair × Held)) → f.number ≡ c.value.number → AddsFor form c.value.number told told' → IsSentBy form told' terms from f
    → IsStreaming form told terms from begun fs ((p, c) ∷ es) → IsStreaming form told' terms from begun (fs ++ f ∷ []) es
streaming_over form told told' terms from begun fs f p c es same adds is i =
    let m = c.value.number in
    record {
      numbered = λ n small.
          let all = i.numbered n small in
          let push = counted_push number_of n fs f in
          let cons = counted_cons number_in n (p, c) es in
          let at : one_if (f.number == n) ≡ one_if (m == n) = ap (λ k. one_if (k == n)) same in
          omega (arith, all, push, cons, at);
      sent = All-push (IsSentBy form told' terms from) fs f
          (all_sent_on form told told' terms from fs m (alone_over begun fs p c es i.numbered) adds i.sent) is;
      untold = λ n absent small.
          let u = unwanted form begun n absent in
          let other : m ≡ n → ⊥ = λ e.
          let below : m < 2 ^ 64 - 1 = subst (λ k. k < 2 ^ 64 - 1) (sym e) small in
          let lt = has_begun begun fs p c es i.numbered below in
          let le = u.0 in
          absurd (omega (arith, lt, le, e)) in
          adds u.1 (u.2 m other) ∙ i.untold n absent small;
    }

-- The first one takes a segment.
pub streaming_took : (form : Form) (told told' : List ℕ) (terms : Terms) (from begun : ℕ) (fs : List Finished) (p : Pair) (c c' : Held)
    (es : List (Pair × Held)) → c'.value.number ≡ c.value.number → AddsFor form c.value.number told told'
    → IsStreaming form told terms from begun fs ((p, c) ∷ es) → IsStreaming form told' terms from begun fs ((p, c') ∷ es)
streaming_took form told told' terms from begun fs p c c' es same adds i =
    let m = c.value.number in
    record {
      numbered = λ n small.
          let all = i.numbered n small in
          let cons = counted_cons number_in n (p, c) es in
          let cons' = counted_cons number_in n (p, c') es in
          let at : one_if (c'.value.number == n) ≡ one_if (m == n) = ap (λ k. one_if (k == n)) same in
          omega (arith, all, cons, cons', at);
      sent = all_sent_on form told told' terms from fs m (alone_over begun fs p c es i.numbered) adds i.sent;
      untold = λ n absent small.
          let u = unwanted form begun n absent in
          let other : m ≡ n → ⊥ = λ e.
          let below : m < 2 ^ 64 - 1 = subst (λ k. k < 2 ^ 64 - 1) (sym e) small in
          let lt = has_begun begun fs p c es i.numbered below in
          let le = u.0 in
          absurd (omega (arith, lt, le, e)) in
          adds u.1 (u.2 m other) ∙ i.untold n absent small;
    }

-- One more begins.
pub streaming_begun : (form : Form) (told : List ℕ) (terms : Terms) (from begun begun' : ℕ) (fs : List Finished) (p : Pair) (c : Held)
    (es : List (Pair × Held)) → c.value.number ≡ begun → begun' ≡ min (begun + 1) (2 ^ 64 - 1) → IsStreaming form told terms from begun fs es
    → begun ≤ 2 ^ 64 - 1 → IsStreaming form told terms from begun' fs ((p, c) ∷ es)
streaming_begun form told terms from begun begun' fs p c es number count i most = record {
  numbered = λ n small.
      let all = i.numbered n small in
      let cons = counted_cons number_in n (p, c) es in
      let at : one_if (c.value.number == n) ≡ one_if (begun == n) = ap (λ k. one_if (k == n)) number in
      let more = begun_counts begun begun' n small count in
      omega (arith, all, cons, at, more);
  sent = i.sent;
  untold = λ n absent small. i.untold n (absent_before form begun begun' n (omega (arith, count, most)) absent) small;
}

-- Its number was none's, so nothing of its stream was told.
pub sending_begun : (form : Form) (told : List ℕ) (terms : Terms) (from begun : ℕ) (fs : List Finished) (es : List (Pair × Held)) (x : Arrival)
    (c : Connection) → c.number ≡ begun → ((side : Side) → HasSent side [] terms [] (x ∷ []) c) → IsStreaming form told terms from begun fs es
    → IsSending form told terms [] (x ∷ []) c
sending_begun form told terms from begun fs es x c number sent i side small w =
    let absent : absent_from form begun ≡ Some c.number = subst (λ k. absent_from form k ≡ Some c.number) number (next_absent form c.number side w) in
    let none : told ≡ [] = i.untold c.number absent small in
    let P : List ℕ → Type 0 = λ l. HasSent side l terms [] (x ∷ []) c in
    subst P (sym none) (sent side)

-- They are the same, in another order.
pub streaming_moved : (form : Form) (told : List ℕ) (terms : Terms) (from begun : ℕ) (fs : List Finished) (es gs : List (Pair × Held))
    → IsPermutation es gs → IsStreaming form told terms from begun fs es → IsStreaming form told terms from begun fs gs
streaming_moved form told terms from begun fs es gs same i = record {
  numbered = λ n small. let all = i.numbered n small in let moved = counted_moved number_in n es gs same in omega (arith, all, moved);
  sent = i.sent;
  untold = i.untold;
}

count_out : (test : Pair → Bool) (es : List (Pair × Held)) (c : Held) (n : ℕ) → lookup test es ≡ Some c
    → one_if (c.value.number == n) + count_open n (remove_entry test es) ≡ count_open n es
count_out test [] c n found = cc
count_out test (e ∷ es) c n found =
    let cons = counted_cons number_in n e es in
    elim (cases_Bool (test e.0)) [
      | inl t ↦
          let is : Some e.1 ≡ Some c = rw t at found in
          let at : e.1 ≡ c = cc in
          let same : one_if (e.1.value.number == n) ≡ one_if (c.value.number == n) = ap (λ (h : Held). one_if (h.value.number == n)) at in
          rw t (omega (arith, cons, same))
      | inr f ↦
          let rest = count_out test es c n (rw f at found) in
          let cons' = counted_cons number_in n e (remove_entry test es) in
          rw f (omega (arith, cons, cons', rest))
    ]

-- One is taken out, and stands first.
pub streaming_out : (form : Form) (told : List ℕ) (terms : Terms) (from begun : ℕ) (fs : List Finished) (test : Pair → Bool) (p : Pair) (c : Held)
    (es : List (Pair × Held)) → lookup test es ≡ Some c → IsStreaming form told terms from begun fs es
    → IsStreaming form told terms from begun fs ((p, c) ∷ remove_entry test es)
streaming_out form told terms from begun fs test p c es found i = record {
  numbered = λ n small.
      let all = i.numbered n small in
      let out = count_out test es c n found in
      let cons = counted_cons number_in n (p, c) (remove_entry test es) in
      omega (arith, all, out, cons);
  sent = i.sent;
  untold = i.untold;
}

-- A connection that is over has the number.
pub find_over : (n : ℕ) (fs : List Finished) → 1 ≤ count_over n fs → (f : Finished) × Contains fs f × (f.number ≡ n)
find_over n [] some = absurd (omega (arith, some))
find_over n (f ∷ fs) some =
    let cons = counted_cons number_of n f fs in
    elim (cases_Bool (f.number == n)) [
      | inl t ↦ (f, Contains-append_left (f ∷ []) fs f (Contains-push [] f), same_number f.number n t)
      | inr other ↦
          let none : one_if (f.number == n) ≡ 0 = rw other refl in
          let rest = find_over n fs (omega (arith, cons, none, some)) in
          (rest.0, Contains-append_right (f ∷ []) fs rest.0 rest.1, rest.2)
    ]

pub count_first : (p : Pair) (c : Held) (es : List (Pair × Held)) (n : ℕ)
    → count_open n ((p, c) ∷ es) ≡ one_if (c.value.number == n) + count_open n es
count_first p c es n = counted_cons number_in n (p, c) es

not_first : (e : Pair × Held) (es : List (Pair × Held)) (p : Pair) (c : Held) → IsApart (e ∷ es) → lookup (same_pair p) es ≡ Some c
    → lookup (same_pair p) (e ∷ es) ≡ Some c
not_first e es p c apart found = elim (cases_Bool (same_pair p e.0)) [
  | inl t ↦
      let none : lookup (same_pair p) es ≡ None = subst (λ k. lookup (same_pair k) es ≡ None) (sym (same_is p e.0 t)) (apart_first e es apart) in
      cc
  | inr f ↦ rw f found
]

-- A connection that isn't over has the number.
pub find_open : (es : List (Pair × Held)) (n : ℕ) → IsApart es → 1 ≤ count_open n es
    → (p : Pair) × (c : Held) × (lookup (same_pair p) es ≡ Some c) × (c.value.number ≡ n)
find_open [] n apart some = absurd (omega (arith, some))
find_open (e ∷ es) n apart some =
    let cons = counted_cons number_in n e es in
    elim (cases_Bool (e.1.value.number == n)) [
      | inl t ↦ (e.0, e.1, rw (same_self e.0) refl, same_number e.1.value.number n t)
      | inr f ↦
          let none : one_if (e.1.value.number == n) ≡ 0 = rw f refl in
          let rest = find_open es n (apart_rest e es apart) (omega (arith, cons, none, some)) in
          (rest.0, rest.1, not_first e es rest.0 rest.1 apart rest.2, rest.3)
    ]

-- ---- the first packet

stream_any : (side : Side) (told : List ℕ) (terms : Terms) (from from' number : ℕ) (taken : List Arrival) (end : Fate) → taken ≡ []
    → IsStreamBy side told terms from number taken end → IsStreamBy side told terms from' number taken end
stream_any side told terms from from' number taken (Reported r) e i = absurd (subst (λ l. IsFirst i.0.first l) e i.0.is_first)
stream_any side told terms from from' number taken Silent e i = i
stream_any side told terms from from' number taken Lost e i = i

all_stream_any : (form : Form) (told : List ℕ) (terms : Terms) (from from' : ℕ) (fs : List Finished) → All (λ f. f.taken ≡ []) fs
    → All (IsSentBy form told terms from) fs → All (IsSentBy form told terms from') fs
all_stream_any form told terms from from' [] none i = All-nil (IsSentBy form told terms from')
all_stream_any form told terms from from' (f ∷ fs) none i =
    let first = All-head (IsSentBy form told terms from) f fs i in
    All-cons (IsSentBy form told terms from') f fs
    (λ side small w. stream_any side told terms from from' f.number f.taken f.fate (All-head (λ g. g.taken ≡ []) f fs none) (first side small w))
    (all_stream_any form told terms from from' fs (All-tail (λ g. g.taken ≡ []) f fs none) (All-tail (IsSentBy form told terms from) f fs i))

-- No connection took a segment.
pub streaming_started : (form : Form) (told : List ℕ) (terms : Terms) (from from' begun : ℕ) (fs : List Finished) (es : List (Pair × Held))
    → All (λ f. f.taken ≡ []) fs → IsStreaming form told terms from begun fs es → IsStreaming form told terms from' begun fs es
streaming_started form told terms from from' begun fs es none i = record {
  numbered = i.numbered;
  sent = all_stream_any form told terms from from' fs none i.sent;
  untold = i.untold;
}

pub streaming_nothing : (form : Form) (told : List ℕ) (terms : Terms) (from : ℕ) → told ≡ [] → IsStreaming form told terms from 0 [] []
streaming_nothing form told terms from none = record {
  numbered = λ n small. none_began n;
  sent = All-nil (IsSentBy form told terms from);
  untold = λ n absent small. none;
}

-- ---- the end

-- as many as are over
pub numbered_end : (begun : ℕ) (fs : List Finished) → begun ≡ min (length fs + 0) (2 ^ 64 - 1) → AreNumbered begun fs [] → AreNumbered (length fs) fs []
numbered_end begun fs count i n small =
    let all = i n small in
    let same = end_counts begun (length fs) n small (omega (arith, count)) in
    omega (arith, all, same)

pub untold_end : (form : Form) (told : List ℕ) (begun n m : ℕ) → begun ≡ min (n + 0) (2 ^ 64 - 1)
    → ((k : ℕ) → absent_from form begun ≡ Some k → k < 2 ^ 64 - 1 → told ≡ []) → absent_from form n ≡ Some m → m < 2 ^ 64 - 1 → told ≡ []
untold_end form told begun n m count i absent small = i m (absent_before form begun n m (omega (arith, count)) absent) small
