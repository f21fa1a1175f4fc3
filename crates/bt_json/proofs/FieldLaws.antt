-- Laws of texts that may be null.
use Rattle.std.proofs.Common.{◌≡◌, List, ℕ, refl}
use Rattle.std.specs.Prelude.{Some, IsUtf8}
use Rattle.std.specs.Str.{is_utf8}
use Rattle.std.proofs.lemmas.Bool.{false_from_ne_true}
use Rattle.std.proofs.lemmas.Str.{IsUtf8-from_is_utf8, is_utf8-from_IsUtf8}
use Rattle.json.specs.Token.{string, null}
use Rattle.bt_json.specs.Objects.{text_or_null}

pub is_text : (s : List ℕ) → IsUtf8 s → text_or_null (Some s) ≡ string s
is_text s u = rw (is_utf8-from_IsUtf8 s u) refl

pub is_no_text : (s : List ℕ) → (IsUtf8 s → ⊥) → text_or_null (Some s) ≡ null
is_no_text s bad = rw (false_from_ne_true (is_utf8 s) (λ e. bad (IsUtf8-from_is_utf8 s e))) refl
