-- A connection takes one segment more.
use Rattle.bt_talk.specs.declared.terms.Terms.{Terms}
use Rattle.std.proofs.Common.{◌≡◌, ◌∙◌, Bool, true, false, not, ◌&&◌, ◌||◌, List, [], ◌∷◌, ◌++◌, append-nil, append_assoc, Result, Ok, Err, OnOk, OnErr}
use Rattle.std.proofs.Common.{refl, sym, ap, subst, inl, inr}
use Rattle.std.specs.List.{All, list_any}
use Rattle.std.proofs.lemmas.Bool.{cases_Bool}
use Rattle.std.proofs.lemmas.List.Elements.{All-nil}
use Rattle.std.proofs.lemmas.List.Folds.{list_any-append}
use Rattle.bt_packet.specs.Tcp.{segment}
use Rattle.bt_packet.specs.declared.tcp.Segment.{Segment}
use Rattle.bt_talk.specs.Pasts.{Past}
use Rattle.bt_talk.specs.Shown.{Turn}
use Rattle.bt_talk.specs.Talks.{Takes, ends_of, is_lost, terms_of}
use Rattle.bt_talk.specs.declared.talk.Talk.{Talk}
use Rattle.bt_capture.specs.Arrivals.{Arrival}
use Rattle.bt_capture.specs.Connections.{Begins, HasRunOut, HasTaken, HasTurned, IsFirst, IsMade, IsNext, IsOpen, MayTake, Opens, is_late, is_opener}
use Rattle.bt_capture.specs.declared.connection.Connection.{Connection}

pub any_more : {X : Type 0} (p : X → Bool) (xs : List X) (x : X) → list_any p (xs ++ x ∷ []) ≡ (list_any p xs || p x)
any_more p xs x = list_any-append p xs (x ∷ []) ∙ ap (λ (b : Bool). list_any p xs || b) (elim (cases_Bool (p x)) [ inl e ↦ rw e refl | inr e ↦ rw e refl ])

-- A silent connection has no byte, and isn't lost.
pub silent_is : (payload lost : Bool) → (not payload && not lost) ≡ true → (payload ≡ false) × (lost ≡ false)
silent_is true lost e = absurd (let f : false ≡ true = e in cc)
silent_is false true e = absurd (let f : false ≡ true = e in cc)
silent_is false false e = (refl, refl)

-- One that isn't silent has a byte, or is lost.
pub has_some : (payload lost : Bool) → (not payload && not lost) ≡ false → lost ≡ false → payload ≡ true
has_some true lost e f = refl
has_some false true e f = absurd (let g : true ≡ false = f in cc)
has_some false false e f = absurd (let g : true ≡ false = e in cc)

-- the outcome is the fact, since the connection isn't lost
pub on_there : {A E P : Type 0} (r : Result A E) (lost : Bool) → OnOk r P → OnErr r (lost ≡ true) → lost ≡ false → P
on_there (Ok x) lost p l e = p
on_there (Err x) lost p l e = cc

pub was_there : {A E : Type 0} (r : Result A E) (before lost : Bool) (fault : E) → (before ≡ true → r ≡ Err fault) → OnErr r (lost ≡ true) → lost ≡ false
    → before ≡ false
was_there r false lost fault stays l e = refl
was_there (Ok x) true lost fault stays l e = let f : Ok x ≡ Err fault = stays refl in cc
was_there (Err x) true lost fault stays l e = cc

-- It takes one segment after none.
taken_one : (first : Bool) (x : Arrival) (s : Segment) → segment s ≡ x.segment → (a b : Past) (t : Talk) (turns : List Turn) (a' b' : Past) (t' : Talk)
    (turns' : List Turn) (t'' : Talk) (now : List Turn) → HasTaken first [] a b t turns a' b' t' turns' → MayTake first x a' b' t'
    → (took : Takes s x.when a' b' t' t'') → HasTurned s x.when a' b' t' t'' took turns' now
    → HasTaken first (x ∷ []) a b t turns took.a' took.b' t'' now
taken_one first x s e a b t turns a' b' t' turns' t'' now i may took turned =
    subst (λ (p : Past). HasTaken first (x ∷ []) p b t turns took.a' took.b' t'' now) i.0
    (subst (λ (p : Past). HasTaken first (x ∷ []) a' p t turns took.a' took.b' t'' now) i.1
    (subst (λ (u : Talk). HasTaken first (x ∷ []) a' b' u turns took.a' took.b' t'' now) i.2
    (subst (λ (l : List Turn). HasTaken first (x ∷ []) a' b' t' l took.a' took.b' t'' now) i.3
    (may, s, e, t'', took, now, turned, (refl, refl, refl, refl)))))

taken_later : (xs : List Arrival) (x : Arrival) (s : Segment) → segment s ≡ x.segment → (a b : Past) (t : Talk) (turns : List Turn) (a' b' : Past)
    (t' : Talk) (turns' : List Turn) (t'' : Talk) (now : List Turn) → HasTaken false xs a b t turns a' b' t' turns' → MayTake false x a' b' t'
    → (took : Takes s x.when a' b' t' t'') → HasTurned s x.when a' b' t' t'' took turns' now
    → HasTaken false (xs ++ x ∷ []) a b t turns took.a' took.b' t'' now
taken_later [] x s e a b t turns a' b' t' turns' t'' now i may took turned =
    taken_one false x s e a b t turns a' b' t' turns' t'' now i may took turned
taken_later (y ∷ ys) x s e a b t turns a' b' t' turns' t'' now i may took turned = (
  i.0,
  i.1,
  i.2,
  i.3,
  i.4,
  i.5,
  i.6,
  taken_later ys x s e i.4.a' i.4.b' i.3 i.5 a' b' t' turns' t'' now i.7 may took turned,
)

pub taken_more : (xs : List Arrival) (x : Arrival) (s : Segment) → segment s ≡ x.segment → (a b : Past) (t : Talk) (turns : List Turn) (a' b' : Past)
    (t' : Talk) (turns' : List Turn) (t'' : Talk) (now : List Turn) → HasTaken true xs a b t turns a' b' t' turns' → IsNext xs (x ∷ []) a' b' t'
    → (took : Takes s x.when a' b' t' t'') → HasTurned s x.when a' b' t' t'' took turns' now
    → HasTaken true (xs ++ x ∷ []) a b t turns took.a' took.b' t'' now
taken_more [] x s e a b t turns a' b' t' turns' t'' now i may took turned =
    taken_one true x s e a b t turns a' b' t' turns' t'' now i may took turned
taken_more (y ∷ ys) x s e a b t turns a' b' t' turns' t'' now i may took turned = (
  i.0,
  i.1,
  i.2,
  i.3,
  i.4,
  i.5,
  i.6,
  taken_later ys x s e i.4.a' i.4.b' i.3 i.5 a' b' t' turns' t'' now i.7 may took turned,
)

-- By what is known of it the segment begins another connection, or it doesn't.
pub begins_by : (opens : Bool) (x : Arrival) (a b : Past) (t : Talk) → is_late x t ≡ false → Opens x a b t opens → Begins opens x a b t
begins_by true x a b t e i = inr i
begins_by false x a b t e i = (e, i)

unfoldable pub made_more : (terms : Terms) (taken : List Arrival) (s : Segment) (x : Arrival) (t t' : Talk) → segment s ≡ x.segment → ends_of t' ≡ ends_of t
    → terms_of t' ≡ terms_of t → (i : IsMade terms taken (x ∷ []) t) → (took : Takes s x.when i.a i.b t t') (now : List Turn)
    → HasTurned s x.when i.a i.b t t' took i.made.turns now → IsMade terms (taken ++ x ∷ []) [] t'
made_more terms taken s x t t' e ends same i took now turned = record {
  first = i.first;
  is_first = subst (IsFirst i.first) (sym (append-nil (taken ++ x ∷ []))) i.is_first;
  a = took.a';
  b = took.b';
  made = record {
    begin = i.made.begin;
    turns = now;
    begun = i.made.begun;
    has_taken = taken_more taken x s e _ _ i.made.begin [] i.a i.b t i.made.turns t' now i.made.has_taken i.next took turned;
    is = took.is;
    ends = ends ∙ i.made.ends;
    terms_are = same ∙ i.made.terms_are;
    heard = turned.heard;
  };
  next = tt;
}

-- Memory ran out with the next segment, or had run out before.
pub ran_out_with : (terms : Terms) (taken : List Arrival) (x : Arrival) (c : Connection) → IsOpen terms taken (x ∷ []) c
    → HasRunOut terms (taken ++ x ∷ []) []
ran_out_with terms taken x c i =
    let P : Arrival → Type 0 = λ y. is_opener y ≡ false in
    elim (cases_Bool (is_lost c.talk)) [
      | inl gone ↦
          let r = i.ran_out gone in
          let all : r.later ++ x ∷ [] ≡ (r.later ++ x ∷ []) ++ [] = sym (append-nil (r.later ++ x ∷ [])) in
          record {
            kept = r.kept;
            x = r.x;
            later = r.later ++ x ∷ [];
            is = ap (λ l. l ++ x ∷ []) r.is ∙ append_assoc r.kept (r.x ∷ r.later) (x ∷ []);
            talk = r.talk;
            made = subst (λ l. IsMade terms r.kept (r.x ∷ l) r.talk) all r.made;
            no_opener = subst (All P) all r.no_opener;
          }
      | inr there ↦ record {
        kept = taken;
        x = x;
        later = [];
        is = refl;
        talk = c.talk;
        made = i.made there;
        no_opener = All-nil P;
      }
    ]
