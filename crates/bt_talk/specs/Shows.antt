-- Rows that are appended to others.
use Rattle.std.specs.Prelude.{◌≡◌, List, [], ◌++◌}
use Rattle.bt_talk.specs.declared.rows.Rows.{Rows}
use Rattle.bt_talk.specs.Rows.{Shown, shown_texts}

-- The texts of these rows were appended.
pub record Appends (rows : List Shown) (old new : Rows) : Type 0 where
  pub text : new.text.items ≡ old.text.items ++ shown_texts old.heading.showing rows
  pub heading : new.heading ≡ old.heading

-- There is no row.
pub record HasNone (old new : Rows) : Type 0 where
  pub empty : new.text.items ≡ []
  pub heading : new.heading ≡ old.heading
