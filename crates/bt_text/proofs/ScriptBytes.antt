-- The bytes that words of a line say, and the bytes of a message made of them.
use Rattle.std.proofs.Common.{◌≡◌, ℕ, ◌+◌, ◌/◌, Bool, true, false, List, ◌∷◌, ◌++◌, length, Option, Some, None, Result, Ok, Err, refl, sym, ap, ◌∙◌, arith}
use Rattle.std.proofs.Common.{append_assoc}
use Rattle.std.specs.Prelude.{option_map, option_and_then}
use Rattle.std.specs.Result.{result_ok}
use Rattle.std.proofs.lemmas.List.{length-append}
use Rattle.hex.specs.Hex.{decode_of}
use Rattle.hex.specs.declared.error.FromHexError.{FromHexError}
use Rattle.hex.proofs.HexLemmas.{decode_of-ok}
use Rattle.bt_wire.specs.Numbers.{be32}
use Rattle.bt_text.specs.Script.{framed_by}
use Rattle.bt_wire.specs.declared.ids.Shape.{Shape}
use Rattle.bt_wire.specs.Ids.{Id}
use Rattle.bt_text.specs.ScriptReading.{fields_in, row_in_text, number_and_shape, Adds}

framed-append : (id size : ℕ) (numbers bytes : List ℕ) → size ≡ 1 + length numbers + length bytes → (be32 size ++ (id ∷ numbers)) ++ bytes
    ≡ framed_by id (numbers ++ bytes)
framed-append id size numbers bytes e =
    let same : size ≡ 1 + length (numbers ++ bytes) = omega (arith, e, length-append numbers bytes) in
    append_assoc (be32 size) (id ∷ numbers) bytes ∙ ap (λ (k : ℕ). be32 k ++ (id ∷ (numbers ++ bytes))) same

digits_as : (id : ℕ) (numbers w old mid new : List ℕ) (d : Result (List ℕ) FromHexError) → decode_of w ≡ d → mid
    ≡ old ++ (be32 (1 + length numbers + length w / 2) ++ (id ∷ numbers))
    → option_map (λ decoded. mid ++ decoded) (result_ok d) ≡ Some new
    → option_map (λ b. old ++ b) (option_map (framed_by id) (option_map (λ b. numbers ++ b) (result_ok d))) ≡ Some new
digits_as id numbers w old mid new (Err e) is made h = absurd cc
digits_as id numbers w old mid new (Ok bytes) is made h =
    let len = (decode_of-ok w bytes is).2 in
    let size : 1 + length numbers + length w / 2 ≡ 1 + length numbers + length bytes = omega (arith, len) in
    let front = be32 (1 + length numbers + length w / 2) ++ (id ∷ numbers) in
    let whole : old ++ framed_by id (numbers ++ bytes) ≡ mid ++ bytes =
    ap (λ (x : List ℕ). old ++ x) (sym (framed-append id _ numbers bytes size)) ∙ sym (append_assoc old front bytes)
    ∙ ap (λ (x : List ℕ). x ++ bytes) (sym made) in
    ap (λ (x : List ℕ). Some x) whole ∙ h

-- digits say bytes, which follow the others
pub digits_added : (id : ℕ) (numbers w old mid new : List ℕ) (ok : Bool) → ok ≡ true → mid
    ≡ old ++ (be32 (1 + length numbers + length w / 2) ++ (id ∷ numbers)) → Adds (result_ok (decode_of w)) mid new ok
    → option_map (λ b. old ++ b) (option_map (framed_by id) (option_map (λ b. numbers ++ b) (result_ok (decode_of w)))) ≡ Some new
digits_added id numbers w old mid new true e made h = digits_as id numbers w old mid new (decode_of w) refl made h
digits_added id numbers w old mid new false e made h = absurd cc

-- ---- the message of a row

pub no_row : (o : Option Id) → None ≡ option_map number_and_shape o → o ≡ None
no_row None e = refl
no_row (Some i) e = absurd cc

pub row_given : (o : Option Id) (text : List ℕ) (p : ℕ × Shape) → Some p ≡ option_map number_and_shape o → option_and_then (row_in_text text) o
    ≡ option_map (framed_by p.0) (fields_in p.1 text)
row_given None text p e = absurd cc
row_given (Some i) text p e =
    let same : p ≡ number_and_shape i = cc e in
    ap (λ (p : ℕ × Shape). option_map (framed_by p.0) (fields_in p.1 text)) (sym same)
