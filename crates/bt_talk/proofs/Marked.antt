-- What a segment adds to the marks of an opening.
use Rattle.std.proofs.Common.{◌≡◌, ◌∙◌, ℕ, Bool, true, false, List, Option, refl, sym, ap, subst}
use Rattle.std.specs.Prelude.{◌||◌, if◌then◌else◌}
use Rattle.std.specs.Bool.{then_some}
use Rattle.std.specs.Option.{option_or}
use Rattle.bt_remarks.specs.declared.events.Side.{Side}
use Rattle.bt_remarks.specs.declared.events.Side.TheVariants.{A, B}
use Rattle.bt_remarks.specs.Said.{other, is_same}
use Rattle.bt_rows.specs.declared.parts.Means.{Means}
use Rattle.bt_packet.specs.declared.tcp.Flags.{Flags}
use Rattle.bt_packet.specs.declared.tcp.Segment.{Segment}
use Rattle.bt_flow.specs.declared.flow.Flow.{Flow}
use Rattle.bt_flow.specs.Flows.{HasHole, high_in}
use Rattle.bt_talk.specs.declared.closing.When.{When}
use Rattle.bt_talk.specs.declared.course.Course.{Course}
use Rattle.bt_talk.specs.declared.course.Courses.{Courses}
use Rattle.bt_talk.specs.declared.replay.Mark.{Mark}
use Rattle.bt_talk.specs.declared.talk.Talk.{Talk}
use Rattle.bt_talk.specs.Courses.{closes_by, counted, course_after, course_of}
use Rattle.bt_talk.specs.Pasts.{Past}
use Rattle.bt_talk.specs.Talks.{IsMark, IsMarked, IsMarkedBy, closed_after, flow_of, grown_after, grown_with, grows_by, has_closed, is_plain, of_side, strays_after, strays_of}

pub closed_by : (b : Bool) (x y : Course) → (if b then x else y).is_closed ≡ (if b then x.is_closed else y.is_closed)
closed_by true x y = refl
closed_by false x y = refl

-- Courses are the same, and so are those who have closed.
pub closed_same : (t u : Talk) (k : Side) → u.courses ≡ t.courses → has_closed k u ≡ has_closed k t
closed_same t u k e = ap (λ (c : Courses). (course_of k c).is_closed) e

pub after_same : (flags : Flags) (side : Side) (t u : Talk) (k : Side) → t.courses ≡ u.courses → closed_after flags side t k ≡ closed_after flags side u k
after_same flags side t u k e = ap (λ (b : Bool). if is_same side k then b || (flags.fin || flags.rst) else b) (closed_same u t k e)

-- The packet with which a stream grew last is that of the segment, if it has grown with it.
pub grown_by : (s : Segment) (flags : Flags) (stray : Bool) (when : When) (side k : Side) (before after : ℕ) (t : Talk) (grows : Bool) (now : Course)
    → grows ≡ grows_by s (grown_with side t) before after
    → now ≡ (if is_same side k then course_after flags stray grows when (course_of k t.courses) else course_of k t.courses)
    → now.grown ≡ grown_after s when side before after t k
grown_by s flags stray when A A before after t grows now e f =
    ap (λ (x : Course). x.grown) f ∙ ap (λ (b : Bool). option_or (then_some b when) (grown_with A t)) e
grown_by s flags stray when A B before after t grows now e f = ap (λ (x : Course). x.grown) f
grown_by s flags stray when B A before after t grows now e f = ap (λ (x : Course). x.grown) f
grown_by s flags stray when B B before after t grows now e f =
    ap (λ (x : Course). x.grown) f ∙ ap (λ (b : Bool). option_or (then_some b when) (grown_with B t)) e

pub strays_by : (b : Bool) (x y : Course) → (if b then x else y).strays ≡ (if b then x.strays else y.strays)
strays_by true x y = refl
strays_by false x y = refl

pub strays_same : (t u : Talk) (k : Side) → u.courses ≡ t.courses → strays_of k u ≡ strays_of k t
strays_same t u k e = ap (λ (c : Courses). (course_of k c).strays) e

pub strays_as : (stray : Bool) (side : Side) (t u : Talk) (k : Side) → t.courses ≡ u.courses → strays_after stray side t k ≡ strays_after stray side u k
strays_as stray side t u k e = ap (λ (n : ℕ). if is_same side k then counted stray n else n) (strays_same u t k e)

pub grown_same : (t u : Talk) (k : Side) → u.courses ≡ t.courses → grown_with k u ≡ grown_with k t
grown_same t u k e = ap (λ (c : Courses). (course_of k c).grown) e

pub grown_as : (s : Segment) (when : When) (side : Side) (before after : ℕ) (t u : Talk) (k : Side) → t.courses ≡ u.courses
    → grown_after s when side before after t k ≡ grown_after s when side before after u k
grown_as s when side before after t u k e =
    ap (λ (x : Option When). if is_same side k then option_or (then_some (grows_by s x before after) when) x else x) (grown_same u t k e)

mark_same : (when : When) (side : Side) (closed : Option Means) (a b : Past) (t u : Talk) (m : Mark) → ((k : Side) → flow_of k u ≡ flow_of k t)
    → IsMark when side closed a b t m → IsMark when side closed a b u m
mark_same when side closed a b t u m f i = record {
  side_is = i.side_is;
  when_is = i.when_is;
  length_is = i.length_is;
  hole = i.hole;
  hole_is = subst (λ (x : Flow). HasHole (of_side (other side) a b).heard (of_side (other side) a b).out x.stream i.hole) (sym (f (other side))) i.hole_is;
  whole = i.whole;
  high = i.high ∙ ap (λ (x : Flow). high_in (of_side side a b).heard x.stream) (sym (f side));
  closed_is = i.closed_is;
}

by_flows : (plain : Bool) (when : When) (side : Side) (closed : Option Means) (a b : Past) (t u : Talk) (marks : List Mark)
    → ((k : Side) → flow_of k u ≡ flow_of k t) → IsMarkedBy plain when side closed a b t marks → IsMarkedBy plain when side closed a b u marks
by_flows true when side closed a b t u marks f i = i
by_flows false when side closed a b t u marks f i = (i.0, i.1, mark_same when side closed a b t u i.0 f i.2)

-- What the marks stand on is as it was.
pub by_same : (payload : List ℕ) (when when' : When) (side : Side) (closed closed' : Option Means) (a b : Past) (t u : Talk) (marks : List Mark)
    → when ≡ when' → closed ≡ closed' → ((k : Side) → flow_of k u ≡ flow_of k t)
    → IsMarkedBy (is_plain payload closed) when side closed a b t marks → IsMarkedBy (is_plain payload closed') when' side closed' a b u marks
by_same payload when when' side closed closed' a b t u marks e f g h =
    subst (λ (x : When). IsMarkedBy (is_plain payload closed') x side closed' a b u marks) e
    (subst (λ (x : Option Means). IsMarkedBy (is_plain payload x) when side x a b u marks) f
    (by_flows (is_plain payload closed) when side closed a b t u marks g h))

pub marked_same : (s : Segment) (flags : Flags) (when : When) (side : Side) (a b : Past) (t t' u u' : Talk) (marks : List Mark) → u.courses ≡ t.courses
    → ((k : Side) → flow_of k u' ≡ flow_of k t') → IsMarked s flags when side a b t t' marks → IsMarked s flags when side a b u u' marks
marked_same s flags when side a b t t' u u' marks e f i =
    by_same s.payload.now when when side (closes_by flags (has_closed side t)) (closes_by flags (has_closed side u)) a b t' u' marks refl
    (ap (closes_by flags) (sym (closed_same t u side e))) f i
