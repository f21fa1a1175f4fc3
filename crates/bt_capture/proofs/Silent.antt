-- A connection of which no byte of a stream was captured has no items.
use Rattle.bt_talk.specs.declared.terms.Terms.{Terms}
use Rattle.std.proofs.Common.{◌≡◌, ◌∙◌, ◌==◌, ℕ, Bool, true, false, not, ◌&&◌, ◌||◌, List, [], ◌∷◌, ◌++◌, length, drop, Option, Some, None}
use Rattle.std.proofs.Common.{refl, sym, ap, subst, arith, inl, inr, is_some, reverse, unwrap_or}
use Rattle.std.specs.List.{All, list_any}
use Rattle.std.proofs.Math.Seq.{drop-nil}
use Rattle.std.proofs.lemmas.Bool.{cases_Bool}
use Rattle.std.proofs.lemmas.Bool.Decides.{nat_tests}
use Rattle.std.proofs.lemmas.List.Elements.{All-cons, All-head, All-nil, All-tail}
use Rattle.bt_flow.specs.Counts.{counts}
use Rattle.bt_flow.specs.Flows.{IsStreamFor, with_segment}
use Rattle.bt_flow.specs.declared.flow.Flow.{Flow}
use Rattle.bt_flow.specs.declared.stream.Stream.{Stream}
use Rattle.bt_intro.specs.Hellos.{IsFirstHello, IsStartOf}
use Rattle.bt_intro.specs.declared.settling.Receiver.{Receiver}
use Rattle.bt_packet.specs.declared.tcp.Segment.{Segment}
use Rattle.bt_remarks.specs.declared.events.Side.{Side}
use Rattle.bt_remarks.specs.declared.events.Side.TheVariants.{A, B}
use Rattle.bt_remarks.specs.Said.{Told, is_same, other}
use Rattle.bt_tcp.specs.Heard.{Heard}
use Rattle.bt_talk.specs.declared.closing.When.{When}
use Rattle.bt_talk.specs.declared.direction.Direction.{Direction}
use Rattle.bt_talk.specs.declared.replay.Mark.{Mark}
use Rattle.bt_talk.specs.declared.rows.Heading.{Heading}
use Rattle.bt_talk.specs.declared.stage.Stage.{Stage}
use Rattle.bt_talk.specs.declared.stage.Stage.TheVariants.{Opening, Open, Stranger}
use Rattle.bt_talk.specs.declared.talk.Talk.{Talk}
use Rattle.bt_talk.specs.Courses.{closes_by}
use Rattle.bt_talk.specs.Strays.{heeded}
use Rattle.bt_talk.specs.Marks.{AreMarkDeeds, AreOpenedBy, AreTurnsOf, HasBegun, by_side, reach_of}
use Rattle.bt_talk.specs.Pasts.{Past, HasSentBy, IsAckedBy, no_past}
use Rattle.bt_talk.specs.Rows.{Shown}
use Rattle.bt_talk.specs.Sent.{IsSent, sent_of}
use Rattle.bt_talk.specs.Shown.{AreItemRows, AreRowsOfTurn, AreTurnRows, Deeds, Turn, deed_rows, items_by, no_deeds, told_by}
use Rattle.bt_talk.specs.Stages.{AreItemsIn, IsDirection, receiver_in}
use Rattle.bt_talk.specs.Talks.{AreDeedsBy, HasHeard, IsTalk, Takes, has_closed, is_in_opening, marks_of, of_side, turn_by}
use Rattle.bt_rows.specs.declared.parts.Means.{Means}
use Rattle.bt_wire.specs.Handshakes.{protocol}
use Rattle.bt_wire.specs.declared.item.Item.{Item}
use Rattle.bt_wire.specs.declared.item.Refusal.{Refusal}
use Rattle.bt_capture.specs.Arrivals.{Arrival, has_data}
use Rattle.bt_capture.specs.Connections.{HasTaken, HasTurned, IsMade}

-- ---- no byte came

abbrev IsBare : Past → Type 0
IsBare p = p.segs ≡ []

none_counts : (at size : ℕ) → (size == 0) ≡ true → counts at size ≡ false
none_counts at size e = let z : size ≡ 0 = grind (arith, nat_tests) in rw z refl

bare_sent : (reset : Bool) (s : Segment) (opening : Bool) (p : Past) (flow : Flow) (p' : Past) (flow' : Flow)
    → (not reset && not (length s.payload.now == 0)) ≡ false → HasSentBy reset s opening p flow p' flow' → IsBare p → IsBare p'
bare_sent true s opening p flow p' flow' none i bare = ap (λ (q : Past). q.segs) i.0 ∙ bare
bare_sent false s opening p flow p' flow' none i bare =
    let empty : (length s.payload.now == 0) ≡ true = elim (cases_Bool (length s.payload.now == 0)) [
      | inl t ↦ t
      | inr f ↦ absurd (let e : true ≡ false = rw f at none in cc)
    ] in
    elim i.added [
      | inl a ↦
          let at = a.0 in
          let no : counts at (length s.payload.now) ≡ false = none_counts at (length s.payload.now) empty in
          let same : with_segment p.segs at s.payload.now ≡ p.segs = rw no refl in
          a.2 ∙ same ∙ bare
      | inr o ↦ elim o [ inl l ↦ l.2 ∙ bare | inr r ↦ r.3 ∙ bare ]
    ]

bare_acked : (reset : Bool) (acked : Option ℕ) (opens : Bool) (p p' : Past) → IsAckedBy reset acked opens p p' → IsBare p → IsBare p'
bare_acked true acked opens p p' i bare = ap (λ (q : Past). q.segs) i ∙ bare
bare_acked false None opens p p' i bare = ap (λ (q : Past). q.segs) i ∙ bare
bare_acked false (Some n) opens p p' (inl i) bare = ap (λ (q : Past). q.segs) i.1 ∙ bare
bare_acked false (Some n) opens p p' (inr i) bare = ap (λ (q : Past). q.segs) i.0 ∙ bare

both_bare : (side : Side) (a b : Past) → IsBare (of_side side a b) → IsBare (of_side (other side) a b) → IsBare a × IsBare b
both_bare A a b i j = (i, j)
both_bare B a b i j = (j, i)

each_bare : (side : Side) (a b : Past) → IsBare a → IsBare b → IsBare (of_side side a b)
each_bare A a b i j = i
each_bare B a b i j = j

nothing_out : (heard : List Heard) (out : List ℕ) (o : Option Stream) → IsStreamFor heard [] out o → out ≡ []
nothing_out heard out None i = i.2
nothing_out heard [] (Some s) i = refl
nothing_out heard (x ∷ xs) (Some s) i = absurd (let e : None ≡ Some x = i.1.front 0 (omega arith) in cc)

bare_out : (p : Past) (flow : Flow) → IsStreamFor p.heard p.segs p.out flow.stream → IsBare p → p.out ≡ []
bare_out p flow i bare = nothing_out p.heard p.out flow.stream (subst (λ l. IsStreamFor p.heard l p.out flow.stream) bare i)

pub parts_none : {X : Type 0} (xs ys : List X) → xs ++ ys ≡ [] → (xs ≡ []) × (ys ≡ [])
parts_none [] ys e = (refl, e)
parts_none (x ∷ xs) ys e = cc

front_none : (terms : Terms) (p q : Past) (d : Direction) → IsDirection terms p q d → p.out ≡ [] → p.front ≡ []
front_none terms p q d i none = (parts_none p.front i.later (sym i.front ∙ none)).0

not_empty : (before after : List ℕ) → [] ≡ before ++ (protocol ++ after) → ⊥
not_empty [] after e = cc
not_empty (x ∷ xs) after e = cc

no_hello : (front : List ℕ) (k : ℕ) → front ≡ [] → IsFirstHello front k → ⊥
no_hello front k none i = not_empty i.here.before i.here.after (sym none ∙ i.here.parts)

-- ---- no side did anything

no_start : (front : List ℕ) (start : Option ℕ) → front ≡ [] → IsStartOf front start → start ≡ None
no_start front None none i = refl
no_start front (Some k) none i = absurd (no_hello front k none i)

none_begun : (a b : Past) (begun : Bool) → a.front ≡ [] → b.front ≡ [] → HasBegun a b begun → begun ≡ false
none_begun a b begun no_a no_b i =
    i.4 ∙ ap (λ (o : Option ℕ). is_some o || is_some i.1) (no_start a.front i.0 no_a i.2) ∙ ap (λ (o : Option ℕ). is_some o) (no_start b.front i.1 no_b i.3)

undone_by : (begun : Bool) (side : Side) (before : Option Refusal) (closed : Option Means) (a b : Past) (t : Talk) (d : Deeds) → begun ≡ false
    → AreDeedsBy begun side before closed a b t d → d ≡ no_deeds
undone_by false side before closed a b t d e i = i
undone_by true side before closed a b t d e i = cc

undone_mark : (begun : Bool) (receiver : Option Receiver) (n k : ℕ) (p : Past) (m : Mark) (d : Deeds) → begun ≡ false
    → AreMarkDeeds begun receiver n k p m d → d ≡ no_deeds
undone_mark false receiver n k p m d e i = i
undone_mark true receiver n k p m d e i = cc

-- In these turns no side did anything besides items.
abbrev AreUndone : List Turn → Type 0
AreUndone turns = All (λ t. t.deeds ≡ no_deeds) turns

undone_marks : (p q : Past) (x y : Option Receiver) (marks : List Mark) (turns : List Turn) → p.front ≡ [] → q.front ≡ []
    → AreTurnsOf p q x y marks turns → AreUndone turns
undone_marks p q x y [] turns no_p no_q i = subst AreUndone (sym i) (All-nil (λ (t : Turn). t.deeds ≡ no_deeds))
undone_marks p q x y (m ∷ earlier) [] no_p no_q i = absurd i
undone_marks p q x y (m ∷ earlier) (t ∷ before) no_p no_q i =
    let own = i.0 in
    All-cons (λ u. u.deeds ≡ no_deeds) t before
    (undone_mark own.begun (by_side m.side x y) (reach_of m.side earlier) (reach_of m.side (m ∷ earlier)) (by_side m.side p q) m t.deeds
    (none_begun p q own.begun no_p no_q own.has_begun) own.deeds)
    (undone_marks p q x y earlier before no_p no_q i.1)

undone_opened : (marks : List Mark) (p q : Past) (s s' : Stage) (turns : List Turn) → p.front ≡ [] → q.front ≡ [] → AreOpenedBy marks p q s s' turns
    → AreUndone turns
undone_opened marks p q s s' turns no_p no_q i =
    let P : Turn → Type 0 = λ t. t.deeds ≡ no_deeds in
    subst AreUndone (sym i.is) (All-cons P i.y (i.x ∷ i.before) i.y_deeds (All-cons P i.x i.before i.x_deeds
    (undone_marks p q (receiver_in s) (receiver_in s') (reverse marks) i.before no_p no_q i.marked)))

-- With a segment after which no byte came.
undone_on : (s : Segment) (when : When) (a b : Past) (t t' : Talk) (took : Takes s when a b t t') (turns turns' : List Turn) → took.a'.front ≡ []
    → took.b'.front ≡ [] → HasTurned s when a b t t' took turns turns' → AreUndone turns → AreUndone turns'
undone_on s when a b t t' took turns turns' no_a no_b i undone =
    let P : Turn → Type 0 = λ u. u.deeds ≡ no_deeds in
    elim (cases_Bool (is_in_opening t)) [
      | inl o ↦ elim (cases_Bool (is_in_opening t')) [
        | inl q ↦ subst AreUndone (sym (i.heard.quiet q)) (All-nil P)
        | inr q ↦ undone_opened (marks_of t ++ took.marks) took.a' took.b' t'.sides.a.stage t'.sides.b.stage turns' no_a no_b (i.opened o q)
      ]
      | inr o ↦
          let after = i.after o in
          let did = took.did after.0 in
          let are = did.are in
          let none = undone_by are.0 took.side did.before (closes_by (heeded took.stray s.flags) (has_closed took.side t)) took.a' took.b' t' did.deeds
          (none_begun took.a' took.b' are.0 no_a no_b are.1) are.2 in
          subst AreUndone (sym after.1) (All-cons P (turn_by when (took.said after.0) did) turns none undone)
    ]

not_any : (x : Bool) (rest : Bool) → (x || rest) ≡ false → (x ≡ false) × (rest ≡ false)
not_any true rest e = absurd (let f : true ≡ false = e in cc)
not_any false rest e = (refl, e)

bare_taken : (first : Bool) (xs : List Arrival) (a b : Past) (t : Talk) (turns : List Turn) (a' b' : Past) (t' : Talk) (turns' : List Turn)
    → list_any has_data xs ≡ false → HasTaken first xs a b t turns a' b' t' turns' → IsBare a → IsBare b → AreUndone turns
    → IsBare a' × IsBare b' × AreUndone turns'
bare_taken first [] a b t turns a' b' t' turns' none i j k undone =
    (ap (λ (p : Past). p.segs) i.0 ∙ j, ap (λ (p : Past). p.segs) i.1 ∙ k, subst AreUndone (sym i.3) undone)
bare_taken first (x ∷ xs) a b t turns a' b' t' turns' none i j k undone =
    let s = i.1 in
    let took = i.4 in
    let both = not_any (has_data x) (list_any has_data xs) none in
    let own : (not s.flags.rst && not (length s.payload.now == 0)) ≡ false =
    ap (λ g. not g.flags.rst && not (length g.payload == 0)) i.2 ∙ both.0 in
    let sent = bare_sent s.flags.rst s (is_in_opening t) _ _ _ _ own took.sent (each_bare took.side a b j k) in
    let acked = bare_acked s.flags.rst s.acked s.flags.syn _ _ took.acked (each_bare (other took.side) a b j k) in
    let now = both_bare took.side took.a' took.b' sent acked in
    let mid = i.3 in
    let no_a = front_none mid.terms took.a' took.b' mid.sides.a took.is.a_is (bare_out took.a' mid.sides.a.flow took.is.a_is.flow.stream now.0) in
    let no_b = front_none mid.terms took.b' took.a' mid.sides.b took.is.b_is (bare_out took.b' mid.sides.b.flow took.is.b_is.flow.stream now.1) in
    bare_taken false xs took.a' took.b' mid i.5 a' b' t' turns' both.1 i.7 now.0 now.1 (undone_on s x.when a b t mid took turns i.5 no_a no_b i.6 undone)

-- No byte of either side was put together, and none did anything in its turns.
pub nothing_came : (terms : Terms) (taken : List Arrival) (t : Talk) → list_any has_data taken ≡ false → (m : IsMade terms taken [] t)
    → (m.a.out ≡ []) × (m.b.out ≡ []) × AreUndone m.made.turns
nothing_came terms taken t none m =
    let bare =
    bare_taken true taken no_past no_past m.made.begin [] m.a m.b t m.made.turns none m.made.has_taken refl refl (All-nil (λ u. u.deeds ≡ no_deeds)) in
    (bare_out m.a t.sides.a.flow m.made.is.a_is.flow.stream bare.0, bare_out m.b t.sides.b.flow m.made.is.b_is.flow.stream bare.1, bare.2)

-- ---- so there are no items

no_items : (stage : Stage) (p : Past) (xs : List (ℕ × Item)) → p.front ≡ [] → AreItemsIn stage p xs → xs ≡ []
no_items (Opening front) p xs none i = i
no_items (Open judged) p xs none i = absurd (no_hello p.front i.start none i.first)
no_items Stranger p xs none i = i

pub both_sides : (P : Side → Type 0) → P A → P B → (s : Side) → P s
both_sides P i j A = i
both_sides P i j B = j

same_side : (s : Side) → is_same s s ≡ true
same_side A = refl
same_side B = refl

-- no item of the turn, and none before
turn_none : (t : Turn) (earlier : List Turn) (side : Side) → t.side ≡ side → items_by side (t ∷ earlier) ≡ [] → (items_by side earlier ≡ []) × (t.items ≡ [])
turn_none t earlier side is none =
    let e : is_same t.side side ≡ true = subst (λ s. is_same s side ≡ true) (sym is) (same_side side) in
    parts_none (items_by side earlier) t.items (rw e at none)

turn_other : (t : Turn) (earlier : List Turn) (side : Side) → is_same t.side side ≡ false → items_by side (t ∷ earlier) ≡ [] → items_by side earlier ≡ []
turn_other t earlier side e none = rw e at none

no_item_rows : (h : Heading) (t : Turn) (events : List Told) (rows : List Shown) → t.items ≡ []
    → AreItemRows h t.when t.side t.known t.items events rows → rows ≡ []
no_item_rows h t events rows none i = subst (λ l. AreItemRows h t.when t.side t.known l events rows) none i

turns_none : (t : Turn) (earlier : List Turn) (side : Side) → t.side ≡ side → ((s : Side) → items_by s (t ∷ earlier) ≡ [])
    → ((s : Side) → items_by s earlier ≡ []) × (t.items ≡ [])
turns_none t earlier A is none =
    let own = turn_none t earlier A is (none A) in
    let apart : is_same t.side B ≡ false = subst (λ s. is_same s B ≡ false) (sym is) refl in
    (both_sides (λ s. items_by s earlier ≡ []) own.0 (turn_other t earlier B apart (none B)), own.1)
turns_none t earlier B is none =
    let own = turn_none t earlier B is (none B) in
    let apart : is_same t.side A ≡ false = subst (λ s. is_same s A ≡ false) (sym is) refl in
    (both_sides (λ s. items_by s earlier ≡ []) (turn_other t earlier A apart (none A)) own.0, own.1)

no_turn_rows : (h : Heading) (t : Turn) (events : List Told) (rows : List Shown) → t.items ≡ [] → t.deeds ≡ no_deeds → AreRowsOfTurn h t events rows
    → rows ≡ []
no_turn_rows h t events rows none undone i =
    i.1 ∙ ap (λ (l : List Shown). l ++ deed_rows h t.when t.side t.deeds) (no_item_rows h t events i.0 none i.2)
    ∙ ap (λ (d : Deeds). deed_rows h t.when t.side d) undone

no_rows : (h : Heading) (turns : List Turn) (rows : List Shown) → ((s : Side) → items_by s turns ≡ []) → AreUndone turns → AreTurnRows h turns rows
    → rows ≡ []
no_rows h [] rows none undone i = i
no_rows h (t ∷ earlier) rows none undone i =
    let P : Turn → Type 0 = λ u. u.deeds ≡ no_deeds in
    let none_of = turns_none t earlier t.side refl none in
    i.2 ∙ ap (λ l. l ++ i.1) (no_rows h earlier i.0 none_of.0 (All-tail P t earlier undone) i.3)
    ∙ no_turn_rows h t (told_by earlier) i.1 none_of.1 (All-head P t earlier undone) i.4

-- Nothing was shown.
pub nothing_shown : (h : Heading) (a b : Past) (t : Talk) (turns : List Turn) (rows : List Shown) → IsTalk a b t → HasHeard turns a b t → a.out ≡ []
    → b.out ≡ [] → AreUndone turns → AreTurnRows h turns rows → rows ≡ []
nothing_shown h a b t turns rows is heard none_a none_b undone i =
    let of_a = no_items t.sides.a.stage a (items_by A turns) (front_none t.terms a b t.sides.a is.a_is none_a) (heard.items A) in
    let of_b = no_items t.sides.b.stage b (items_by B turns) (front_none t.terms b a t.sides.b is.b_is none_b) (heard.items B) in
    no_rows h turns rows (both_sides (λ s. items_by s turns ≡ []) of_a of_b) undone i

nothing_of : (opening : Bool) (start : Option ℕ) (out : List ℕ) → out ≡ [] → sent_of opening start out ≡ []
nothing_of true start out none = refl
nothing_of false start out none = ap (drop (unwrap_or start 0)) none ∙ drop-nil (unwrap_or start 0)

-- Nothing was handed out.
pub nothing_sent : (opening : Bool) (side : Side) (a b : Past) (bytes : List ℕ) → a.out ≡ [] → b.out ≡ [] → IsSent opening (of_side side a b) bytes
    → bytes ≡ []
nothing_sent opening A a b bytes none_a none_b i = i.is ∙ nothing_of opening i.start a.out none_a
nothing_sent opening B a b bytes none_a none_b i = i.is ∙ nothing_of opening i.start b.out none_b
