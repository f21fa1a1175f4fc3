-- Where one connection ends and another between the same ends begins.
use Rattle.std.proofs.Common.{◌≡◌, ◌∙◌, ◌≤◌, Bool, true, false, if◌then◌else◌, is_some, List, [], ◌∷◌, ◌++◌, append-nil}
use Rattle.std.proofs.Common.{append_assoc, refl, sym, ap, subst, inl, inr}
use Rattle.std.specs.List.{All, Contains}
use Rattle.std.proofs.lemmas.Bool.{cases_Bool}
use Rattle.std.proofs.lemmas.Grind.{flat_map-append}
use Rattle.std.proofs.lemmas.List.{append_cancel_left}
use Rattle.std.proofs.lemmas.List.Elements.{All-append, All-cons, All-contains, All-filter, All-head, All-nil, All-push, All-tail, All-weaker}
use Rattle.std.proofs.lemmas.List.Elements.{Contains-append_left}
use Rattle.bt_talk.specs.Pasts.{Past}
use Rattle.bt_talk.specs.Closing.{is_quiet}
use Rattle.bt_talk.specs.Talks.{IsTalk, closing_of, is_lost}
use Rattle.bt_talk.specs.declared.closing.When.{When}
use Rattle.bt_capture.specs.Arrivals.{AreEarlier, Arrival, Clock, IsEarlier, is_between, pair_of}
use Rattle.bt_capture.specs.Connections.{Begins, is_opener}
use Rattle.bt_capture.specs.Following.{AreParted, AreParts, AtEnd, Before, Cause, Coming, Crowded, During, Ended, Final, Finished, IsParted, IsShared}
use Rattle.bt_capture.specs.Following.{IsTimely, IsTimelyBy, MayBe, MayEnd, Phase, between, coming, given_up_by, is_final, taken_between, taken_by}
use Rattle.bt_capture.specs.Tables.{same_pair}
use Rattle.bt_capture.specs.declared.connection.Connection.{Connection}
use Rattle.bt_capture.specs.declared.pair.Pair.{Pair}
use Rattle.bt_capture.proofs.Entries.{same_is, same_self}
use Rattle.bt_capture.proofs.Shares.{filter_and, filter_less, taken_and, taken_less}

-- ---- connections between the same ends

taken_last : (gs : List Finished) (f : Finished) (rest : List Arrival) → taken_by gs ++ (f.taken ++ rest) ≡ taken_by (gs ++ f ∷ []) ++ rest
taken_last gs f rest =
    let taken : Finished → List Arrival = λ g. g.taken in
    sym (ap (λ l. l ++ rest) (flat_map-append taken gs (f ∷ []) ∙ ap (λ l. taken_by gs ++ l) (append-nil f.taken)) ∙ append_assoc (taken_by gs) f.taken rest)

-- One more is over.
parted_over : (gs : List Finished) (f : Finished) (rest : List Arrival) → IsParted f.cause rest → AreParted gs (f.taken ++ rest)
    → AreParted (gs ++ f ∷ []) rest
parted_over [] f rest p i = (p, tt)
parted_over (g ∷ gs) f rest p i = (subst (IsParted g.cause) (taken_last gs f rest) i.0, parted_over gs f rest p i.1)

-- The segment comes after these packets.
abbrev IsNew : Clock → Arrival → Type 0
IsNew clock x = AreEarlier clock x.when.packet

-- These segments come after one of the packets, and so do more that come after all of them.
all_later : (clock : Clock) (at : When) (l more : List Arrival) → Contains clock.packets at → All (IsNew clock) more
    → All (λ x. IsEarlier at x.when.packet) l → All (λ x. IsEarlier at x.when.packet) (l ++ more)
all_later clock at l more there new i =
    let P : Arrival → Type 0 = λ x. IsEarlier at x.when.packet in
    All-append P l more i (All-weaker (IsNew clock) P (λ x later. All-contains (λ w. IsEarlier w x.when.packet) clock.packets at later there) more new)

one_more : (clock : Clock) (taken : List Arrival) (c : Cause) (l more : List Arrival) → is_final c ≡ false → IsTimelyBy clock taken c
    → All (IsNew clock) more → IsParted c l → IsParted c (l ++ more)
one_more clock taken Final l more e t new i = cc
one_more clock taken (Ended at) l more e t new i = all_later clock at l more t.0 new i
one_more clock taken (Crowded ended at) l more e t new i = all_later clock at l more t.0 new i
one_more clock taken (Before x) [] more e t new i = absurd i
one_more clock taken (Before x) (y ∷ ys) more e t new i = i

-- More segments come.
parted_more : (clock : Clock) (gs : List Finished) (rest more : List Arrival) → All (λ f. is_final f.cause ≡ false) gs → All (IsTimely clock) gs
    → All (IsNew clock) more → AreParted gs rest → AreParted gs (rest ++ more)
parted_more clock [] rest more none timely new i = tt
parted_more clock (g ∷ gs) rest more none timely new i =
    let P : Finished → Type 0 = λ f. is_final f.cause ≡ false in (
      subst (IsParted g.cause) (append_assoc (taken_by gs) rest more)
          (one_more clock g.taken g.cause (taken_by gs ++ rest) more (All-head P g gs none) (All-head (IsTimely clock) g gs timely) new i.0),
      parted_more clock gs rest more (All-tail P g gs none) (All-tail (IsTimely clock) g gs timely) new i.1,
    )

coming_new : (clock : Clock) (x : Arrival) (b : Bool) → IsNew clock x → All (IsNew clock) (if b then x ∷ [] else [])
coming_new clock x true new = All-cons (IsNew clock) x [] new (All-nil (IsNew clock))
coming_new clock x false new = All-nil (IsNew clock)

-- ---- when they were told

all_back : (P : Arrival → Type 0) (xs ys : List Arrival) → All P (xs ++ ys) → All P ys
all_back P [] ys a = a
all_back P (x ∷ xs) ys a = all_back P xs ys (All-tail P x (xs ++ ys) a)

own_within : (at : When) (k : Pair) (came : List Arrival) (fs : List Finished) (taken : List Arrival) → IsShared k came fs taken
    → All (λ x. x.when.packet ≤ at.packet) came → All (λ x. x.when.packet ≤ at.packet) taken
own_within at k came fs taken share all =
    let P : Arrival → Type 0 = λ x. x.when.packet ≤ at.packet in
    all_back P (taken_between k fs) taken (subst (All P) share (All-filter (is_between k) P came all))

-- None of the connection's own segments came after a packet after which none came.
pub timely_own : (clock : Clock) (k : Pair) (came : List Arrival) (fs : List Finished) (taken : List Arrival) (c : Cause) → IsShared k came fs taken
    → IsTimelyBy clock came c → IsTimelyBy clock taken c
timely_own clock k came fs taken Final share t = tt
timely_own clock k came fs taken (Ended at) share t = (t.0, own_within at k came fs taken share t.1)
timely_own clock k came fs taken (Crowded ended at) share t = (t.0, own_within at k came fs taken share t.1)
timely_own clock k came fs taken (Before x) share t = tt

-- One more packet comes.
timely_on : (clock later : Clock) (more : List When) (taken : List Arrival) (c : Cause) → later.packets ≡ clock.packets ++ more → IsTimelyBy clock taken c
    → IsTimelyBy later taken c
timely_on clock later more taken Final e t = tt
timely_on clock later more taken (Ended at) e t =
    (subst (λ l. Contains l at) (sym e) (Contains-append_left clock.packets more at t.0), t.1)
timely_on clock later more taken (Crowded ended at) e t =
    (subst (λ l. Contains l at) (sym e) (Contains-append_left clock.packets more at t.0), t.1)
timely_on clock later more taken (Before x) e t = tt

pub timely_more : (clock later : Clock) (more : List When) (fs : List Finished) → later.packets ≡ clock.packets ++ more → All (IsTimely clock) fs
    → All (IsTimely later) fs
timely_more clock later more fs e all = All-weaker (IsTimely clock) (IsTimely later) (λ f t. timely_on clock later more f.taken f.cause e t) fs all

-- This segment begins another connection.
pub may_before : (clock : Clock) (came : List Arrival) (p : Pair) (x : Arrival) (c : Connection)
    → (is_lost c.talk ≡ false → (a b : Past) → IsTalk a b c.talk → Begins true x a b c.talk) → (is_lost c.talk ≡ true → is_opener x ≡ true)
    → x.when.packet ≡ clock.number → MayEnd (Coming p x) clock came (Before x) p c
may_before clock came p x c why why_lost packet = record {
  may_be = refl;
  parted = subst (λ (b : Bool). IsParted (Before x) (if b then x ∷ [] else [])) (sym (same_self p)) refl;
  why = why;
  why_lost = why_lost;
  timely = tt;
  told_at = sym packet;
}

-- There are too many at this packet, and memory didn't run out with it.
may_quiet : (clock : Clock) (came : List Arrival) (p : Pair) (at : When) (c : Connection) (quiet : Bool) → is_quiet (closing_of c.talk).over at.nanos ≡ quiet
    → Contains clock.packets at → at.packet ≡ clock.number → All (λ x. x.when.packet ≤ at.packet) came
    → is_lost c.talk ≡ false → MayEnd During clock came (if quiet then Ended at else Crowded (is_some (closing_of c.talk).over) at) p c
may_quiet clock came p at c true is there packet within kept = record {
  may_be = refl;
  parted = All-nil (λ (x : Arrival). IsEarlier at x.when.packet);
  why = λ there a b t. is;
  why_lost = λ gone. absurd (let e : true ≡ false = sym gone ∙ kept in cc);
  timely = (there, within);
  told_at = sym packet;
}
may_quiet clock came p at c false is there packet within kept = record {
  may_be = refl;
  parted = All-nil (λ (x : Arrival). IsEarlier at x.when.packet);
  why = λ there a b t. (refl, is);
  why_lost = λ gone. absurd (let e : true ≡ false = sym gone ∙ kept in cc);
  timely = (there, within);
  told_at = sym packet;
}

-- There are too many at this packet.
may_lost : (clock : Clock) (came : List Arrival) (p : Pair) (at : When) (c : Connection) (lost : Bool) → is_lost c.talk ≡ lost
    → Contains clock.packets at → at.packet ≡ clock.number → All (λ x. x.when.packet ≤ at.packet) came
    → MayEnd During clock came (given_up_by lost (closing_of c.talk).over at) p c
may_lost clock came p at c true gone there packet within = record {
  may_be = refl;
  parted = All-nil (λ (x : Arrival). IsEarlier at x.when.packet);
  why = λ kept a b t. absurd (let e : true ≡ false = sym gone ∙ kept in cc);
  why_lost = λ _. tt;
  timely = (there, within);
  told_at = sym packet;
}
may_lost clock came p at c false kept there packet within =
    may_quiet clock came p at c (is_quiet (closing_of c.talk).over at.nanos) refl there packet within kept

pub may_given_up : (clock : Clock) (came : List Arrival) (p : Pair) (at : When) (c : Connection) → Contains clock.packets at → at.packet ≡ clock.number
    → All (λ x. x.when.packet ≤ at.packet) came → MayEnd During clock came (given_up_by (is_lost c.talk) (closing_of c.talk).over at) p c
may_given_up clock came p at c there packet within = may_lost clock came p at c (is_lost c.talk) refl there packet within

-- ---- all of them

-- One more between the ends p is over.
pub parts_over : (ph : Phase) (came : List Arrival) (fs : List Finished) (p : Pair) (f : Finished) → f.pair ≡ p → IsShared p came fs f.taken
    → IsParted f.cause (coming ph p) → MayBe ph f.cause → AreParts ph came fs → AreParts ph came (fs ++ f ∷ [])
parts_over ph came fs p f ends share parted may i k =
    let test : Finished → Bool = λ g. same_pair k g.pair in
    let P : List Finished → Type 0 = λ l. All (λ g. MayBe ph g.cause) l in
    let s = i k in
    elim (cases_Bool (same_pair k p)) [
      | inl t ↦
          let is : k ≡ p = same_is k p t in
          let own : same_pair k f.pair ≡ true = subst (λ q. same_pair k q ≡ true) (sym ends) t in
          let mine : IsShared k came fs f.taken = subst (λ q. IsShared q came fs f.taken) (sym is) share in
          let all : s.rest ≡ f.taken = append_cancel_left (taken_between k fs) s.rest f.taken (sym s.share ∙ mine) in
          let same : between k (fs ++ f ∷ []) ≡ between k fs ++ f ∷ [] = filter_and test fs f own in
          let last : IsParted f.cause (coming ph k) = subst (λ q. IsParted f.cause (coming ph q)) (sym is) parted in
          record {
            rest = [];
            share = mine ∙ sym (taken_and k fs f own) ∙ sym (append-nil (taken_between k (fs ++ f ∷ [])));
            going = subst P (sym same) (All-push (λ (g : Finished). MayBe ph g.cause) (between k fs) f s.going may);
            parted = subst (λ l. AreParted l (coming ph k)) (sym same)
                (parted_over (between k fs) f (coming ph k) last (subst (λ l. AreParted (between k fs) (l ++ coming ph k)) all s.parted));
          }
      | inr e ↦
          let apart : same_pair k f.pair ≡ false = subst (λ q. same_pair k q ≡ false) (sym ends) e in
          let same : between k (fs ++ f ∷ []) ≡ between k fs = filter_less test fs f apart in
          record {
            rest = s.rest;
            share = s.share ∙ ap (λ l. l ++ s.rest) (sym (taken_less k fs f apart));
            going = subst P (sym same) s.going;
            parted = subst (λ l. AreParted l (s.rest ++ coming ph k)) (sym same) s.parted;
          }
    ]

-- The next segment is known.
pub parts_coming : (clock : Clock) (came : List Arrival) (fs : List Finished) (p : Pair) (x : Arrival) → AreEarlier clock x.when.packet
    → All (IsTimely clock) fs → AreParts During came fs → AreParts (Coming p x) came fs
parts_coming clock came fs p x new timely i k =
    let s = i k in
    record {
      rest = s.rest;
      share = s.share;
      going = s.going;
      parted = parted_more clock (between k fs) s.rest (coming (Coming p x) k) s.going
          (All-filter (λ (f : Finished). same_pair k f.pair) (IsTimely clock) fs timely) (coming_new clock x (same_pair k p) new)
          (subst (AreParted (between k fs)) (append-nil s.rest) s.parted);
    }

-- It is taken.
pub parts_took : (came : List Arrival) (fs : List Finished) (p : Pair) (x : Arrival) → pair_of x ≡ p → AreParts (Coming p x) came fs
    → AreParts During (came ++ x ∷ []) fs
parts_took came fs p x ends i k =
    let s = i k in
    let gs = between k fs in
    let next : List Arrival → Type 0 = λ l. AreParted gs (s.rest ++ l) in
    elim (cases_Bool (same_pair k p)) [
      | inl t ↦
          let now : AreParted gs (s.rest ++ x ∷ []) = subst next (ap (λ (b : Bool). if b then x ∷ [] else []) t) s.parted in
          record {
            rest = s.rest ++ x ∷ [];
            share = filter_and (is_between k) came x (subst (λ q. same_pair k q ≡ true) (sym ends) t) ∙ ap (λ l. l ++ x ∷ []) s.share
                ∙ append_assoc (taken_between k fs) s.rest (x ∷ []);
            going = s.going;
            parted = subst (AreParted gs) (sym (append-nil (s.rest ++ x ∷ []))) now;
          }
      | inr e ↦ record {
        rest = s.rest;
        share = filter_less (is_between k) came x (subst (λ q. same_pair k q ≡ false) (sym ends) e) ∙ s.share;
        going = s.going;
        parted = subst next (ap (λ (b : Bool). if b then x ∷ [] else []) e) s.parted;
      }
    ]

all_may : (fs : List Finished) → All (λ f. MayBe AtEnd f.cause) fs
all_may [] = All-nil (λ (f : Finished). MayBe AtEnd f.cause)
all_may (f ∷ fs) = All-cons (λ (g : Finished). MayBe AtEnd g.cause) f fs tt (all_may fs)

-- The capture is read to its end.
pub parts_end : (came : List Arrival) (fs : List Finished) → AreParts During came fs → AreParts AtEnd came fs
parts_end came fs i k =
    let s = i k in
    record {
      rest = s.rest;
      share = s.share;
      going = all_may (between k fs);
      parted = s.parted;
    }

-- All connections are over.
pub parted_all : (came : List Arrival) (fs : List Finished) (k : Pair) → IsShared k came fs [] → AreParts AtEnd came fs → AreParted (between k fs) []
parted_all came fs k share i =
    let s = i k in
    let none : s.rest ≡ [] = append_cancel_left (taken_between k fs) s.rest [] (sym s.share ∙ share) in
    subst (λ l. AreParted (between k fs) (l ++ [])) none s.parted

pub parts_nothing : AreParts During [] []
parts_nothing k = record { rest = []; share = refl; going = All-nil (λ (f : Finished). MayBe During f.cause); parted = tt }
