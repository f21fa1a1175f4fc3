-- The rows of a connection, which the room has.
use Rattle.std.proofs.Common.{◌≡◌, ◌∙◌, ℕ, Bool, true, false, List, [], ◌++◌, Result, Ok, Err, OnOk, OnErr, refl, sym, ap}
use Rattle.std.proofs.lemmas.Grind.{flat_map-append}
use Rattle.bt_talk.specs.declared.room.Room.{Room}
use Rattle.bt_talk.specs.declared.rows.Showing.{Showing}
use Rattle.bt_talk.specs.declared.talk.Talk.{Talk}
use Rattle.bt_talk.specs.Pasts.{Past}
use Rattle.bt_talk.specs.Rooms.{rows_in, showing_in}
use Rattle.bt_talk.specs.Rows.{Shown, shown_text, shown_texts}
use Rattle.bt_talk.specs.Shows.{Appends, HasNone}
use Rattle.bt_talk.specs.Talks.{IsTalk}
use Rattle.bt_capture.specs.Shown.{HasRows}

-- Rows were appended to none.
pub has_first : (room room' : Room) (rows : List Shown) → (rows_in room).text.items ≡ [] → Appends rows (rows_in room) (rows_in room')
    → HasRows (showing_in room) room'
has_first room room' rows empty i = record {
  showing_is = ap (λ h. h.showing) i.heading;
  rows = rows;
  text = i.text ∙ ap (λ (l : List ℕ). l ++ shown_texts (showing_in room) rows) empty;
}

-- Rows were appended.
pub has_more : (showing : Showing) (room room' : Room) (rows : List Shown) → Appends rows (rows_in room) (rows_in room') → HasRows showing room
    → HasRows showing room'
has_more showing room room' rows i h = record {
  showing_is = ap (λ k. k.showing) i.heading ∙ h.showing_is;
  rows = h.rows ++ rows;
  text = i.text ∙ ap (λ (s : Showing). (rows_in room).text.items ++ shown_texts s rows) h.showing_is
      ∙ ap (λ (l : List ℕ). l ++ shown_texts showing rows) h.text ∙ sym (flat_map-append (shown_text showing) h.rows rows);
}

-- the text of rows and further ones
pub texts_more : (showing : Showing) (room room' : Room) (rows more : List Shown) → showing_in room ≡ showing
    → (rows_in room).text.items ≡ shown_texts showing rows → Appends more (rows_in room) (rows_in room')
    → (rows_in room').text.items ≡ shown_texts showing (rows ++ more)
texts_more showing room room' rows more same text i =
    i.text ∙ ap (λ (s : Showing). (rows_in room).text.items ++ shown_texts s more) same ∙ ap (λ (l : List ℕ). l ++ shown_texts showing more) text
    ∙ sym (flat_map-append (shown_text showing) rows more)

-- The connection took a segment, or memory ran out.
pub has_taken : {A E : Type 0} (r : Result A E) (lost : Bool) (fault : E) (t : Talk) (room room' : Room) → (lost ≡ true → r ≡ Err fault)
    → OnOk r ((a b : Past) → IsTalk a b t → (rows : List Shown) × Appends rows (rows_in room) (rows_in room'))
    → OnErr r (HasNone (rows_in room) (rows_in room')) → (lost ≡ false → (a : Past) × (b : Past) × IsTalk a b t) → (rows_in room).text.items ≡ []
    → HasRows (showing_in room) room'
has_taken (Ok x) true fault t room room' stays some none talk empty = let f : Ok x ≡ Err fault = stays refl in cc
has_taken (Ok x) false fault t room room' stays some none talk empty =
    let k = talk refl in
    let rows = some k.0 k.1 k.2 in has_first room room' rows.0 empty rows.1
has_taken (Err x) lost fault t room room' stays some none talk empty =
    record { showing_is = ap (λ h. h.showing) none.heading; rows = []; text = none.empty }

-- It took a segment, and this is known of its rows; or memory ran out, and there is none.
pub shows_taken : {A E : Type 0} (r : Result A E) (was lost : Bool) (fault : E) (room room' : Room) (P : List Shown → Type 0)
    → (was ≡ true → r ≡ Err fault) → OnErr r (lost ≡ true) → OnErr r (HasNone (rows_in room) (rows_in room')) → (rows_in room).text.items ≡ []
    → (lost ≡ true → P []) → (was ≡ false → OnOk r ((rows : List Shown) × Appends rows (rows_in room) (rows_in room') × P rows))
    → (rows : List Shown) × ((rows_in room').text.items ≡ shown_texts (showing_in room) rows) × P rows
shows_taken (Ok x) true lost fault room room' P stays gone none empty nothing some = let f : Ok x ≡ Err fault = stays refl in cc
shows_taken (Ok x) false lost fault room room' P stays gone none empty nothing some =
    let w = some refl in
    (w.0, w.1.text ∙ ap (λ (l : List ℕ). l ++ shown_texts (showing_in room) w.0) empty, w.2)
shows_taken (Err x) was lost fault room room' P stays gone none empty nothing some = ([], none.empty, nothing gone)

-- a fact of an error
pub on_err : {A E P : Type 0} (r : Result A E) → P → OnErr r P
on_err (Ok x) p = tt
on_err (Err e) p = p
