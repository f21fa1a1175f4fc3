-- Each segment belongs to one connection.
use Rattle.bt_talk.specs.declared.terms.Terms.{Terms}
use Rattle.std.proofs.Common.{◌≡◌, ◌∙◌, ℕ, ◌-◌, ◌^◌, ◌<◌, Bool, true, false, List, [], ◌∷◌, ◌++◌, append-nil, append_assoc, Option, Some, None}
use Rattle.std.proofs.Common.{refl, sym, ap, subst, inl, inr}
use Rattle.std.specs.List.{All, filter, flat_map}
use Rattle.std.specs.Map.{lookup}
use Rattle.std.proofs.lemmas.Bool.{cases_Bool}
use Rattle.std.proofs.lemmas.Grind.{flat_map-append}
use Rattle.std.proofs.lemmas.List.Elements.{All-push, filter-append}
use Rattle.bt_talk.specs.Pasts.{Past}
use Rattle.bt_talk.specs.Talks.{IsTalk, is_lost}
use Rattle.bt_talk.specs.declared.talk.Talk.{Talk}
use Rattle.bt_capture.specs.Arrivals.{Arrival, pair_of, is_between}
use Rattle.bt_capture.specs.Connections.{Begins, HasRunOut, IsFirst, IsMade, IsNext, IsOpen, is_opener}
use Rattle.bt_capture.specs.Following.{Finished, IsLeft, IsShared, IsShare, count_open, taken_between}
use Rattle.bt_capture.specs.Sending.{IsSending}
use Rattle.bt_capture.specs.Tables.{Held, same_pair}
use Rattle.bt_capture.specs.declared.connection.Connection.{Connection}
use Rattle.bt_capture.specs.declared.ending.Form.{Form}
use Rattle.bt_capture.specs.declared.pair.Pair.{Pair}
use Rattle.bt_capture.proofs.Entries.{same_is, same_self}
use Rattle.bt_capture.proofs.Sending.{was_before}
use Rattle.bt_capture.proofs.Streaming.{AddsFor, other_open, sending_on}

pub filter_and : {X : Type 0} (p : X → Bool) (xs : List X) (x : X) → p x ≡ true → filter p (xs ++ x ∷ []) ≡ filter p xs ++ x ∷ []
filter_and p xs x e = filter-append p xs (x ∷ []) ∙ ap (λ l. filter p xs ++ l) (rw e refl)

pub filter_less : {X : Type 0} (p : X → Bool) (xs : List X) (x : X) → p x ≡ false → filter p (xs ++ x ∷ []) ≡ filter p xs
filter_less p xs x e = filter-append p xs (x ∷ []) ∙ ap (λ l. filter p xs ++ l) (rw e refl) ∙ append-nil (filter p xs)

pub taken_and : (k : Pair) (fs : List Finished) (f : Finished) → same_pair k f.pair ≡ true → taken_between k (fs ++ f ∷ []) ≡ taken_between k fs ++ f.taken
taken_and k fs f e =
    let test : Finished → Bool = λ g. same_pair k g.pair in
    let taken : Finished → List Arrival = λ g. g.taken in
    ap (flat_map taken) (filter_and test fs f e) ∙ flat_map-append taken (filter test fs) (f ∷ []) ∙ ap (λ l. taken_between k fs ++ l) (append-nil f.taken)

pub taken_less : (k : Pair) (fs : List Finished) (f : Finished) → same_pair k f.pair ≡ false → taken_between k (fs ++ f ∷ []) ≡ taken_between k fs
taken_less k fs f e = let test : Finished → Bool = λ g. same_pair k g.pair in ap (flat_map (λ g. g.taken)) (filter_less test fs f e)

module _ (form : Form) (terms : Terms) (came : List Arrival) (fs : List Finished) where
  abbrev pub Others : List ℕ → Pair → List (Pair × Held) → Type 0
  Others told p es = (k : Pair) → same_pair k p ≡ false → IsShare form told terms came fs k (lookup (same_pair k) es)

  abbrev pub AllShares : List ℕ → List (Pair × Held) → Type 0
  AllShares told es = (k : Pair) → IsShare form told terms came fs k (lookup (same_pair k) es)

  -- What was told for another connection is as it was.
  left_on : (told told' : List ℕ) (taken : List Arrival) (n : ℕ) (o : Option Held)
      → ((c : Held) → o ≡ Some c → c.value.number < 2 ^ 64 - 1 → c.value.number ≡ n → ⊥) → AddsFor form n told told'
      → IsLeft form told terms taken o → IsLeft form told' terms taken o
  left_on told told' taken n None other adds i = i
  left_on told told' taken n (Some c) other adds i =
      (i.0, sending_on form told told' terms taken [] c.value n (other c refl) adds i.1)

  share_on : (told told' : List ℕ) (n : ℕ) (k : Pair) (es : List (Pair × Held)) → (n < 2 ^ 64 - 1 → count_open n es ≡ 0) → AddsFor form n told told'
      → IsShare form told terms came fs k (lookup (same_pair k) es) → IsShare form told' terms came fs k (lookup (same_pair k) es)
  share_on told told' n k es none adds s =
      let other : (c : Held) → lookup (same_pair k) es ≡ Some c → c.value.number < 2 ^ 64 - 1 → c.value.number ≡ n → ⊥ = λ c found small same.
      other_open (same_pair k) es c n found (none (subst (λ m. m < 2 ^ 64 - 1) same small)) same in
      record { taken = s.taken; is = left_on told told' s.taken n (lookup (same_pair k) es) other adds s.is; share = s.share }

  pub others_on : (told told' : List ℕ) (n : ℕ) (p : Pair) (es : List (Pair × Held)) → (n < 2 ^ 64 - 1 → count_open n es ≡ 0)
      → AddsFor form n told told' → Others told p es → Others told' p es
  others_on told told' n p es none adds others k e = share_on told told' n k es none adds (others k e)

  pub others_of : (told : List ℕ) (p : Pair) (c : Held) (es : List (Pair × Held)) → AllShares told ((p, c) ∷ es) → Others told p es
  others_of told p c es i k e = rw e at (i k)

  pub own_of : (told : List ℕ) (p : Pair) (c : Held) (es : List (Pair × Held)) → AllShares told ((p, c) ∷ es) → IsShare form told terms came fs p (Some c)
  own_of told p c es i = rw (same_self p) at (i p)

  -- The connection is over.
  pub over : (told : List ℕ) (p : Pair) (es : List (Pair × Held)) (f : Finished) → f.pair ≡ p → lookup (same_pair p) es ≡ None
      → IsShared p came fs f.taken → Others told p es → (k : Pair) → IsShare form told terms came (fs ++ f ∷ []) k (lookup (same_pair k) es)
  over told p es f ends absent share others k =
      let P : Pair → Type 0 = λ q. IsShare form told terms came (fs ++ f ∷ []) q (lookup (same_pair q) es) in
      let own : same_pair p f.pair ≡ true = subst (λ q. same_pair p q ≡ true) (sym ends) (same_self p) in
      elim (cases_Bool (same_pair k p)) [
        | inl t ↦ subst P (sym (same_is k p t)) (record {
          taken = [];
          is = rw absent refl;
          share = share ∙ sym (taken_and p fs f own) ∙ sym (append-nil (taken_between p (fs ++ f ∷ [])));
        })
        | inr e ↦
            let s = others k e in
            let apart : same_pair k f.pair ≡ false = subst (λ q. same_pair k q ≡ false) (sym ends) e in
            record { taken = s.taken; is = s.is; share = s.share ∙ ap (λ l. l ++ s.taken) (sym (taken_less k fs f apart)) }
      ]

  -- The connection takes one segment more.
  pub took : (told : List ℕ) (p : Pair) (c : Held) (es : List (Pair × Held)) (taken : List Arrival) (x : Arrival) → pair_of x ≡ p
      → IsShared p came fs taken → IsOpen terms (taken ++ x ∷ []) [] c.value → IsSending form told terms (taken ++ x ∷ []) [] c.value
      → Others told p es → (k : Pair) → IsShare form told terms (came ++ x ∷ []) fs k (lookup (same_pair k) ((p, c) ∷ es))
  took told p c es taken x ends share now sends others k =
      let P : Pair → Type 0 = λ q. IsShare form told terms (came ++ x ∷ []) fs q (lookup (same_pair q) ((p, c) ∷ es)) in
      elim (cases_Bool (same_pair k p)) [
        | inl t ↦ subst P (sym (same_is k p t)) (record {
          taken = taken ++ x ∷ [];
          is = rw (same_self p) (now, sends);
          share = filter_and (is_between p) came x (subst (λ q. same_pair p q ≡ true) (sym ends) (same_self p)) ∙ ap (λ l. l ++ x ∷ []) share
              ∙ append_assoc (taken_between p fs) taken (x ∷ []);
        })
        | inr e ↦ let s = others k e in record {
          taken = s.taken;
          is = rw e s.is;
          share = filter_less (is_between k) came x (subst (λ q. same_pair k q ≡ false) (sym ends) e) ∙ s.share;
        }
      ]

  -- Another order, or what was taken out is put back.
  pub moved : (told : List ℕ) (es gs : List (Pair × Held)) → ((k : Pair) → lookup (same_pair k) gs ≡ lookup (same_pair k) es) → AllShares told es
      → AllShares told gs
  moved told es gs same i k = subst (λ o. IsShare form told terms came fs k o) (sym (same k)) (i k)

  pub own_none : (told : List ℕ) (p : Pair) (es : List (Pair × Held)) → lookup (same_pair p) es ≡ None → AllShares told es → IsShared p came fs []
  own_none told p es absent i =
      let s : IsShare form told terms came fs p None = subst (λ o. IsShare form told terms came fs p o) absent (i p) in
      s.share ∙ ap (λ l. taken_between p fs ++ l) s.is

pub share_same : (form form' : Form) (told told' : List ℕ) (terms terms' : Terms) (came : List Arrival) (fs : List Finished) (k : Pair) (o : Option Held)
    → form' ≡ form → told' ≡ told → terms' ≡ terms → IsShare form told terms came fs k o → IsShare form' told' terms' came fs k o
share_same form form' told told' terms terms' came fs k o a b c i =
    subst (λ x. IsShare x told' terms' came fs k o) (sym a) (subst (λ x. IsShare form x terms' came fs k o) (sym b)
    (subst (λ x. IsShare form told x came fs k o) (sym c) i))

-- A connection that has begun may take one segment more.
pub first_more : (taken : List Arrival) (x : Arrival) (s : _) → IsFirst s (taken ++ []) → IsFirst s (taken ++ x ∷ [])
first_more [] x s i = absurd i
first_more (y ∷ ys) x s i = i

pub next_is : (taken : List Arrival) (x : Arrival) (a b : Past) (t : Talk) → Begins false x a b t → IsNext taken (x ∷ []) a b t
next_is [] x a b t i = tt
next_is (y ∷ ys) x a b t i = i

front_of : (xs : List Arrival) (y : Arrival) (ys zs : List Arrival) (s : _) → IsFirst s (xs ++ y ∷ ys) → IsFirst s (xs ++ y ∷ zs)
front_of [] y ys zs s i = i
front_of (x ∷ xs) y ys zs s i = i

next_of : (kept : List Arrival) (y : Arrival) (ys zs : List Arrival) (a b : Past) (t : Talk) → IsNext kept (y ∷ ys) a b t → IsNext kept (y ∷ zs) a b t
next_of [] y ys zs a b t i = i
next_of (x ∷ xs) y ys zs a b t i = i

-- It begins no other.
abbrev pub GoesOn : Arrival → Connection → Type 0
GoesOn x c = (a b : Past) → IsTalk a b c.talk → Begins false x a b c.talk

-- The next segment is one of the connection's.
abbrev pub IsIts : Arrival → Connection → Type 0
IsIts x c = (is_lost c.talk ≡ false → GoesOn x c) × (is_lost c.talk ≡ true → is_opener x ≡ false)

abbrev pub made_ready : (terms : Terms) (taken : List Arrival) (x : Arrival) (c : Connection) → GoesOn x c → (m : IsMade terms taken [] c.talk)
    → IsMade terms taken (x ∷ []) c.talk
made_ready terms taken x c its m = record {
  first = m.first;
  is_first = first_more taken x m.first m.is_first;
  a = m.a;
  b = m.b;
  made = m.made;
  next = next_is taken x m.a m.b c.talk (its m.a m.b m.made.is);
}

-- A segment more is known to come after a segment of the connection.
pub made_before : (terms : Terms) (taken : List Arrival) (y : Arrival) (ys zs : List Arrival) (t : Talk) → (m : IsMade terms taken (y ∷ ys) t)
    → (n : IsMade terms taken (y ∷ zs) t) × (n.made.turns ≡ m.made.turns)
made_before terms taken y ys zs t m = (
  record {
    first = m.first;
    is_first = front_of taken y ys zs m.first m.is_first;
    a = m.a;
    b = m.b;
    made = m.made;
    next = next_of taken y ys zs m.a m.b t m.next;
  },
  refl,
)

-- Memory had run out before the segment x, which opens no connection.
ran_out_before : (terms : Terms) (taken : List Arrival) (x : Arrival) → is_opener x ≡ false → HasRunOut terms taken [] → HasRunOut terms taken (x ∷ [])
ran_out_before terms taken x own r =
    let P : Arrival → Type 0 = λ y. is_opener y ≡ false in
    record {
      kept = r.kept;
      x = r.x;
      later = r.later;
      is = r.is;
      talk = r.talk;
      made = (made_before terms r.kept r.x (r.later ++ []) (r.later ++ x ∷ []) r.talk r.made).0;
      no_opener = All-push P r.later x (subst (All P) (append-nil r.later) r.no_opener) own;
    }

pub ready : (terms : Terms) (taken : List Arrival) (x : Arrival) (c : Connection) → IsIts x c → IsOpen terms taken [] c → IsOpen terms taken (x ∷ []) c
ready terms taken x c its i = record {
  has_payload = i.has_payload;
  made = λ there. made_ready terms taken x c (its.0 there) (i.made there);
  ran_out = λ gone. ran_out_before terms taken x (its.1 gone) (i.ran_out gone);
}

pub ready_sent : (form : Form) (told : List ℕ) (terms : Terms) (taken : List Arrival) (x : Arrival) (c : Connection)
    → IsIts x c → IsSending form told terms taken [] c → IsSending form told terms taken (x ∷ []) c
ready_sent form told terms taken x c its i side small w =
    let s = i side small w in
    record {
      early = was_before false side told terms taken (x ∷ []) s.early;
      all = λ there. let g = s.all there in (made_ready terms taken x c (its.0 there) g.0, g.1);
    }
