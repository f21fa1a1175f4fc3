-- What was handed out so far of the stream that is told.
use Rattle.bt_talk.specs.declared.terms.Terms.{Terms}
use Rattle.std.proofs.Common.{◌≡◌, ◌∙◌, ◌⊎◌, ◌==◌, ℕ, ◌-◌, ◌^◌, ◌<◌, true, false, List, [], ◌∷◌, ◌++◌, append-nil, append_assoc, Some, None}
use Rattle.std.proofs.Common.{refl, sym, ap, subst, arith, inl, inr}
use Rattle.std.specs.List.{filter}
use Rattle.std.specs.Map.{lookup}
use Rattle.std.proofs.lemmas.Bool.{cases_Bool}
use Rattle.std.proofs.lemmas.List.Elements.{All-weaker, filter-append}
use Rattle.bt_remarks.specs.declared.events.Side.{Side}
use Rattle.bt_talk.specs.Pasts.{Past}
use Rattle.bt_talk.specs.Sent.{IsSent}
use Rattle.bt_talk.specs.Talks.{IsTalk, is_in_opening, is_lost, of_side}
use Rattle.bt_talk.specs.declared.talk.Talk.{Talk}
use Rattle.bt_capture.specs.Arrivals.{Arrival, is_between, pair_of}
use Rattle.bt_capture.specs.Following.{AreBegun, AreBegunTo, Finished, IsBegunAt, IsSentBy, IsSentSoFar, IsShare, IsShared, IsStreamOf, IsStreaming}
use Rattle.bt_capture.specs.Following.{IsStreamSoFar, count_over, taken_between}
use Rattle.bt_capture.specs.Forms.{is_stream, wanted_by}
use Rattle.bt_capture.specs.Sending.{IsSending}
use Rattle.bt_capture.specs.Tables.{Held, IsApart, same_pair}
use Rattle.bt_capture.specs.declared.ending.Form.{Form}
use Rattle.bt_capture.specs.declared.pair.Pair.{Pair}
use Rattle.bt_capture.proofs.Entries.{apart_first, apart_rest, same_is, same_self}
use Rattle.bt_capture.proofs.Numbers.{not_equal, one_if, one_if_began, same_number}
use Rattle.bt_capture.proofs.Order.{at_later, in_order_more}
use Rattle.bt_capture.proofs.Sending.{was_after, was_all, was_later}
use Rattle.bt_capture.proofs.Shares.{Others, AllShares, filter_and, others_of, own_of}
use Rattle.bt_capture.proofs.Streaming.{AddsFor, all_sent_on, alone_over, count_first, find_open}
use Rattle.bt_capture.proofs.Wants.{begun_or_absent, wanted_if_asked, wanted_stream, wants_other}

-- The bytes that end a side's stream.
abbrev pub EndsStream : Form → ℕ → Talk → List ℕ → Type 0
EndsStream form n talk more = (a b : Past) (side : Side) (before : List ℕ) → IsTalk a b talk → wanted_by form n ≡ Some side
    → IsSent (is_in_opening talk) (of_side side a b) before → IsSent false (of_side side a b) (before ++ more)

-- More segments came.
sent_more : (place : ℕ → ℕ) (begun : ℕ) (terms : Terms) (came came' : List Arrival) (fs : List Finished) (n : ℕ) (side : Side) (bytes : List ℕ)
    → IsSentSoFar place begun terms came fs n side bytes → IsSentSoFar place begun terms (came ++ came') fs n side bytes
sent_more place begun terms came came' fs n side bytes i =
    let test = is_between i.pair in
    let rest = filter test came' in
    record {
      pair = i.pair;
      taken = i.taken ++ rest;
      share = filter-append test came came' ∙ ap (λ l. l ++ rest) i.share ∙ append_assoc (taken_between i.pair fs) i.taken rest;
      began = at_later place came came' i.taken rest begun n i.began;
      ended = i.ended;
      sent = was_later i.ended side bytes terms i.taken rest i.sent;
    }

pub so_far_more : (form : Form) (told : List ℕ) (terms : Terms) (from : ℕ) (came came' : List Arrival) (fs : List Finished)
    → IsStreamSoFar form told terms from came fs → IsStreamSoFar form told terms from (came ++ came') fs
so_far_more form told terms from came came' fs i = record {
  over = i.over;
  begun = i.begun;
  place = i.place;
  order = in_order_more i.place came came' i.begun fs i.order;
  left = λ n side asked small none. elim (i.left n side asked small none) [
    | inl e ↦ inl e
    | inr s ↦ inr (sent_more i.place i.begun terms came came' fs n side told s)
  ];
}

pub so_far_same : (form form' : Form) (told told' : List ℕ) (terms terms' : Terms) (from from' : ℕ) (came : List Arrival) (fs : List Finished)
    → form' ≡ form → told' ≡ told → terms' ≡ terms → from' ≡ from → IsStreamSoFar form told terms from came fs
    → IsStreamSoFar form' told' terms' from' came fs
so_far_same form form' told told' terms terms' from from' came fs a b c d i =
    subst (λ x. IsStreamSoFar x told' terms' from' came fs) (sym a) (subst (λ x. IsStreamSoFar form x terms' from' came fs) (sym b)
    (subst (λ x. IsStreamSoFar form told x from' came fs) (sym c) (subst (λ x. IsStreamSoFar form told terms x came fs) (sym d) i)))

-- The text is the same, if a stream is told.
pub so_far_on : (form : Form) (told told' : List ℕ) (terms : Terms) (from : ℕ) (came : List Arrival) (fs : List Finished)
    → (is_stream form ≡ true → told' ≡ told) → IsStreamSoFar form told terms from came fs → IsStreamSoFar form told' terms from came fs
so_far_on form told told' terms from came fs is i =
    let all : (f : Finished) → IsSentBy form told terms from f → IsSentBy form told' terms from f = λ f h side small w.
    let P : List ℕ → Type 0 = λ l. IsStreamOf side l terms from f in
    subst P (sym (is (wanted_stream form f.number side w))) (h side small w) in
    record {
      over = All-weaker (IsSentBy form told terms from) (IsSentBy form told' terms from) all fs i.over;
      begun = i.begun;
      place = i.place;
      order = i.order;
      left = λ n side asked small none.
          let P : List ℕ → Type 0 = λ l. (l ≡ []) ⊎ IsSentSoFar i.place i.begun terms came fs n side l in
          subst P (sym (is (wanted_stream form n side (wanted_if_asked form n side asked)))) (i.left n side asked small none);
    }

-- It is this connection's.
own_so_far : (form : Form) (told : List ℕ) (terms : Terms) (place : ℕ → ℕ) (begun : ℕ) (came : List Arrival) (fs : List Finished) (p : Pair) (c : Held)
    (n : ℕ) (side : Side) → (s : IsShare form told terms came fs p (Some c)) → IsBegunAt place came begun c.value.number s.taken → c.value.number ≡ n
    → n < 2 ^ 64 - 1 → form.stream ≡ Some (n, side) → IsSentSoFar place begun terms came fs n side told
own_so_far form told terms place begun came fs p c n side s began same small asked =
    let below : c.value.number < 2 ^ 64 - 1 = subst (λ m. m < 2 ^ 64 - 1) (sym same) small in
    let wanted : wanted_by form c.value.number ≡ Some side = subst (λ m. wanted_by form m ≡ Some side) (sym same) (wanted_if_asked form n side asked) in
    record {
      pair = p;
      taken = s.taken;
      share = s.share;
      began = subst (λ m. IsBegunAt place came begun m s.taken) same began;
      ended = false;
      sent = (s.is.1 side below wanted).early;
    }

-- The connections that aren't over, without the one between the ends p, began at their places.
abbrev AreOthersBegun : (ℕ → ℕ) → ℕ → List Arrival → List Finished → Pair → List (Pair × Held) → Type 0
AreOthersBegun place begun came fs p es = (k : Pair) (d : Held) (rest : List Arrival) → same_pair k p ≡ false → lookup (same_pair k) es ≡ Some d
    → IsShared k came fs rest → IsBegunAt place came begun d.value.number rest

-- It is another one's than the first.
other_so_far : (form : Form) (told : List ℕ) (terms : Terms) (from : ℕ) (place : ℕ → ℕ) (begun : ℕ) (came : List Arrival) (fs : List Finished) (p : Pair)
    (c : Held) (es : List (Pair × Held)) (n : ℕ) (side : Side) → lookup (same_pair p) es ≡ None → IsApart es
    → IsStreaming form told terms from begun fs ((p, c) ∷ es) → AreOthersBegun place begun came fs p es
    → Others form terms came fs told p es → form.stream ≡ Some (n, side) → n < 2 ^ 64 - 1 → count_over n fs ≡ 0 → (c.value.number == n) ≡ false
    → (told ≡ []) ⊎ IsSentSoFar place begun terms came fs n side told
other_so_far form told terms from place begun came fs p c es n side absent apart i began others asked small none other =
    elim (begun_or_absent form begun n side asked) [
      | inl lt ↦
          let all = i.numbered n small in
          let one = one_if_began begun n lt in
          let cons = count_first p c es n in
          let not_first : one_if (c.value.number == n) ≡ 0 = rw other refl in
          let e = find_open es n apart (omega (arith, all, none, one, cons, not_first)) in
          let differs : same_pair e.0 p ≡ false = elim (cases_Bool (same_pair e.0 p)) [
            | inl t ↦
                let found : lookup (same_pair p) es ≡ Some e.1 = subst (λ q. lookup (same_pair q) es ≡ Some e.1) (same_is e.0 p t) e.2 in
                cc
            | inr f ↦ f
          ] in
          let s : IsShare form told terms came fs e.0 (Some e.1) = subst (λ x. IsShare form told terms came fs e.0 x) e.2 (others e.0 differs) in
          inr (own_so_far form told terms place begun came fs e.0 e.1 n side s (began e.0 e.1 s.taken differs e.2 s.share) e.3 small asked)
      | inr away ↦ inl (i.untold n away small)
    ]

-- These connections aren't over.
pub left_so_far : (form : Form) (told : List ℕ) (terms : Terms) (from begun : ℕ) (came : List Arrival) (fs : List Finished) (es : List (Pair × Held))
    → IsApart es → IsStreaming form told terms from begun fs es → (order : AreBegun came fs es begun) → AllShares form terms came fs told es
    → (n : ℕ) (side : Side) → form.stream ≡ Some (n, side) → n < 2 ^ 64 - 1 → count_over n fs ≡ 0
    → (told ≡ []) ⊎ IsSentSoFar order.place begun terms came fs n side told
left_so_far form told terms from begun came fs [] apart i order shared n side asked small none = elim (begun_or_absent form begun n side asked) [
  | inl lt ↦ let all = i.numbered n small in let one = one_if_began begun n lt in absurd (omega (arith, all, none, one))
  | inr away ↦ inl (i.untold n away small)
]
left_so_far form told terms from begun came fs (e ∷ es) apart i order shared n side asked small none = elim (cases_Bool (e.1.value.number == n)) [
  | inl t ↦
      let s = own_of form terms came fs told e.0 e.1 es shared in
      let began = order.left e.0 e.1 s.taken (rw (same_self e.0) refl) s.share in
      inr (own_so_far form told terms order.place begun came fs e.0 e.1 n side s began (same_number e.1.value.number n t) small asked)
  | inr f ↦ other_so_far form told terms from order.place begun came fs e.0 e.1 es n side (apart_first e es apart) (apart_rest e es apart) i
      (λ k d rest apart found share. order.left k d rest (rw apart found) share)
      (others_of form terms came fs told e.0 e.1 es shared) asked small none f
]

pub open_so_far : (form : Form) (told : List ℕ) (terms : Terms) (from begun : ℕ) (came : List Arrival) (fs : List Finished) (es : List (Pair × Held))
    → IsApart es → IsStreaming form told terms from begun fs es → AreBegun came fs es begun → AllShares form terms came fs told es
    → IsStreamSoFar form told terms from came fs
open_so_far form told terms from begun came fs es apart i order shared = record {
  over = i.sent;
  begun = begun;
  place = order.place;
  order = order.order;
  left = left_so_far form told terms from begun came fs es apart i order shared;
}

-- The segment x came for this connection, and it is given up.
pub held_so_far : (form : Form) (told : List ℕ) (terms : Terms) (from begun : ℕ) (came : List Arrival) (x : Arrival) (fs : List Finished) (p : Pair)
    (c : Held) (es : List (Pair × Held)) (taken : List Arrival) → pair_of x ≡ p → lookup (same_pair p) es ≡ None → IsApart es
    → IsStreaming form told terms from begun fs ((p, c) ∷ es) → AreBegunTo came fs x p c.value.number taken es begun → IsShared p came fs taken
    → IsSending form told terms taken (x ∷ []) c.value → Others form terms came fs told p es → IsStreamSoFar form told terms from (came ++ x ∷ []) fs
held_so_far form told terms from begun came x fs p c es taken ends absent apart i order share sends others = record {
  over = i.sent;
  begun = begun;
  place = order.place;
  order = in_order_more order.place came (x ∷ []) begun fs order.order;
  left = λ n side asked small none. elim (cases_Bool (c.value.number == n)) [
    | inl t ↦
        let same = same_number c.value.number n t in
        let below : c.value.number < 2 ^ 64 - 1 = subst (λ m. m < 2 ^ 64 - 1) (sym same) small in
        let wanted : wanted_by form c.value.number ≡ Some side =
        subst (λ m. wanted_by form m ≡ Some side) (sym same) (wanted_if_asked form n side asked) in
        let between : is_between p x ≡ true = subst (λ q. same_pair p q ≡ true) (sym ends) (same_self p) in
        inr (record {
          pair = p;
          taken = taken ++ x ∷ [];
          share = filter_and (is_between p) came x between ∙ ap (λ l. l ++ x ∷ []) share ∙ append_assoc (taken_between p fs) taken (x ∷ []);
          began = subst (λ m. IsBegunAt order.place (came ++ x ∷ []) begun m (taken ++ x ∷ [])) same order.own;
          ended = false;
          sent = was_after false side told terms taken (x ∷ []) (sends side below wanted).early;
        })
    | inr f ↦ elim (other_so_far form told terms from order.place begun came fs p c es n side absent apart i order.left others asked small none f) [
      | inl e ↦ inl e
      | inr s ↦ inr (sent_more order.place begun terms came (x ∷ []) fs n side told s)
    ]
  ];
}

-- The end of its stream may be told, and it is given up.
pub ended_so_far : (form : Form) (told told' more : List ℕ) (terms : Terms) (from begun : ℕ) (came : List Arrival) (fs : List Finished) (p : Pair)
    (c : Held) (es : List (Pair × Held)) → lookup (same_pair p) es ≡ None → IsApart es → IsStreaming form told terms from begun fs ((p, c) ∷ es)
    → AreBegun came fs ((p, c) ∷ es) begun → AllShares form terms came fs told ((p, c) ∷ es)
    → (is_stream form ≡ true → (told' ≡ told) ⊎ (told' ≡ told ++ more)) → (wanted_by form c.value.number ≡ None → more ≡ [])
    → is_lost c.value.talk ≡ false → EndsStream form c.value.number c.value.talk more → IsStreamSoFar form told' terms from came fs
ended_so_far form told told' more terms from begun came fs p c es absent apart i order shared is nothing there ends =
    let m = c.value.number in
    let place = order.place in
    let adds : AddsFor form m told told' = λ stream w. elim (is stream) [
      | inl e ↦ e
      | inr e ↦ e ∙ ap (λ l. told ++ l) (nothing w) ∙ append-nil told
    ] in
    let own = own_of form terms came fs told p c es shared in
    let began = order.left p c own.taken (rw (same_self p) refl) own.share in
    record {
      over = all_sent_on form told told' terms from fs m (alone_over begun fs p c es i.numbered) adds i.sent;
      begun = begun;
      place = place;
      order = order.order;
      left = λ n side asked small none. elim (cases_Bool (m == n)) [
        | inl t ↦
            let same = same_number m n t in
            let P : List ℕ → Type 0 = λ l. IsSentSoFar place begun terms came fs n side l in
            let wanted : wanted_by form m ≡ Some side = subst (λ k. wanted_by form k ≡ Some side) (sym same) (wanted_if_asked form n side asked) in
            let below : m < 2 ^ 64 - 1 = subst (λ k. k < 2 ^ 64 - 1) (sym same) small in
            elim (is (wanted_stream form m side wanted)) [
              | inl e ↦ inr (subst P (sym e) (own_so_far form told terms place begun came fs p c n side own began same small asked))
              | inr e ↦
                  let h = (own.is.1 side below wanted).all there in
                  inr (subst P (sym e) (record {
                    pair = p;
                    taken = own.taken;
                    share = own.share;
                    began = subst (λ k. IsBegunAt place came begun k own.taken) same began;
                    ended = true;
                    sent = was_all true side (told ++ more) terms own.taken [] c.value.talk h.0
                        (ends h.0.a h.0.b side told h.0.made.is wanted h.1);
                  }))
            ]
        | inr f ↦
            let other : n ≡ m → ⊥ = λ e. not_equal m n f (sym e) in
            let none' : wanted_by form m ≡ None = wants_other form n m side (wanted_if_asked form n side asked) other in
            let kept : told' ≡ told = adds (wanted_stream form n side (wanted_if_asked form n side asked)) none' in
            elim (other_so_far form told terms from place begun came fs p c es n side absent apart i
            (λ k d rest apart found share. order.left k d rest (rw apart found) share)
            (others_of form terms came fs told p c es shared) asked small none f) [
              | inl e ↦ inl (kept ∙ e)
              | inr s ↦ inr (subst (λ l. IsSentSoFar place begun terms came fs n side l) (sym kept) s)
            ]
      ];
    }
