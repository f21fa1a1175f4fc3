-- The bytes of a stream that are handed out.
use Rattle.bt_talk.specs.declared.terms.Terms.{Terms}
use Rattle.std.proofs.Common.{◌≡◌, ◌∙◌, ℕ, Bool, true, false, List, [], ◌∷◌, ◌++◌, append-nil, append_assoc, Option, Some, None, is_some, if◌then◌else◌}
use Rattle.std.proofs.Common.{Result, Ok, Err, OnOk, OnErr, refl, sym, ap, subst}
use Rattle.bt_remarks.specs.declared.events.Side.{Side}
use Rattle.bt_talk.specs.declared.room.Room.{Room}
use Rattle.bt_talk.specs.Pasts.{Past}
use Rattle.bt_talk.specs.Rooms.{sent_in}
use Rattle.bt_talk.specs.Sent.{IsSent}
use Rattle.bt_talk.specs.Talks.{of_side}
use Rattle.bt_talk.specs.declared.talk.Talk.{Talk}
use Rattle.bt_capture.specs.Arrivals.{Arrival}
use Rattle.bt_capture.specs.Connections.{IsFirst, IsMade}
use Rattle.bt_capture.specs.Sending.{WasSent, still_opening}
use Rattle.bt_capture.specs.declared.ending.Form.{Form}
use Rattle.bt_capture.specs.Forms.{handed, wanted_by}

pub nothing_sent : (p : Past) (opening : Bool) → opening ≡ true → IsSent opening p []
nothing_sent p true e = record { start = None; is_start = λ f. cc; is = refl }
nothing_sent p false e = cc

pub handed_all : (form : Form) (n m : ℕ) (room : Room) (side : Side) → m ≡ n → wanted_by form n ≡ Some side → handed form m room ≡ sent_in room
handed_all form n m room side same e =
    let w : wanted_by form m ≡ Some side = subst (λ k. wanted_by form k ≡ Some side) (sym same) e in
    ap (λ (o : Option Side). if is_some o then sent_in room else []) w

pub handed_none : (form : Form) (n : ℕ) (room : Room) → wanted_by form n ≡ None → handed form n room ≡ []
handed_none form n room e = ap (λ (o : Option Side). if is_some o then sent_in room else []) e

-- ---- what was handed out after a first part

-- It was after all segments.
pub was_all : (ended : Bool) (side : Side) (sent : List ℕ) (terms : Terms) (taken more : List Arrival) (t : Talk) → (m : IsMade terms taken more t)
    → IsSent (still_opening ended t) (of_side side m.a m.b) sent → WasSent ended side sent terms taken more
was_all ended side sent terms taken more t m i = record {
  early = taken;
  late = [];
  is = sym (append-nil taken);
  first = m.first;
  is_first = m.is_first;
  a = m.a;
  b = m.b;
  talk = t;
  made = m.made;
  is_sent = i;
}

first_front : (xs ys : List Arrival) (s : _) → IsFirst s xs → IsFirst s (xs ++ ys)
first_front [] ys s i = absurd i
first_front (x ∷ xs) ys s i = i

-- More segments come.
pub was_before : (ended : Bool) (side : Side) (sent : List ℕ) (terms : Terms) (taken more : List Arrival) → WasSent ended side sent terms taken []
    → WasSent ended side sent terms taken more
was_before ended side sent terms taken more i = record {
  early = i.early;
  late = i.late;
  is = i.is;
  first = i.first;
  is_first = first_front taken more i.first (subst (IsFirst i.first) (append-nil taken) i.is_first);
  a = i.a;
  b = i.b;
  talk = i.talk;
  made = i.made;
  is_sent = i.is_sent;
}

-- They came, and nothing more was handed out.
pub was_after : (ended : Bool) (side : Side) (sent : List ℕ) (terms : Terms) (taken more : List Arrival) → WasSent ended side sent terms taken more
    → WasSent ended side sent terms (taken ++ more) []
was_after ended side sent terms taken more i = record {
  early = i.early;
  late = i.late ++ more;
  is = ap (λ (l : List Arrival). l ++ more) i.is ∙ append_assoc i.early i.late more;
  first = i.first;
  is_first = subst (IsFirst i.first) (sym (append-nil (taken ++ more))) i.is_first;
  a = i.a;
  b = i.b;
  talk = i.talk;
  made = i.made;
  is_sent = i.is_sent;
}

pub was_later : (ended : Bool) (side : Side) (sent : List ℕ) (terms : Terms) (taken more : List Arrival) → WasSent ended side sent terms taken []
    → WasSent ended side sent terms (taken ++ more) []
was_later ended side sent terms taken more i = was_after ended side sent terms taken more (was_before ended side sent terms taken more i)

-- A segment was taken, or memory ran out.
pub took_or_lost : {A E P : Type 0} (r : Result A E) (was : Bool) (fault : E) → (was ≡ true → r ≡ Err fault) → (was ≡ false → OnOk r P) → OnErr r P → P
took_or_lost (Ok x) true fault stays took lost = let f : Ok x ≡ Err fault = stays refl in cc
took_or_lost (Ok x) false fault stays took lost = took refl
took_or_lost (Err e) was fault stays took lost = lost
