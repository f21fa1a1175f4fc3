-- What a writer of quoted text writes.
use Rattle.std.proofs.Common.{◌≡◌, ℕ, true, List, [], ◌∷◌, ◌++◌, Option, Some, None, IfSome, option_map, refl, sym, ap, ◌∙◌, append_assoc}
use Rattle.std.proofs.Output.{has_written_append, has_written_of_eq, has_written_to_eq, writes_in_calls_nil}
use Rattle.std.specs.List.{FoldsTo, concat}
use Rattle.std.specs.Fmt.{IsPlainFormatter, HasWritten, WritesText}
use Rattle.std.specs.declared.fmt.Formatter.{Formatter}
use Rattle.bt_report.specs.declared.quoted.Quoting.{Quoting}
use Rattle.bt_rows.specs.Members.{escaped}

pub escaped_append : (a b : List ℕ) → escaped (a ++ b) ≡ escaped a ++ escaped b
escaped_append [] b = refl
escaped_append (byte ∷ a) b = rw (escaped_append a b) (simp append_assoc)

module _ {W : Type 0} (took : W → List ℕ → W → Type 0) where
  abbrev pub Quotes : Quoting W → List ℕ → Quoting W → Type 0
  Quotes s bytes t = (IsPlainFormatter s.to.now → HasWritten took s.to.now (escaped bytes) t.to.now) × (t.to.ghost_name ≡ s.to.ghost_name)

  pub calls_quote : (s : Quoting W) (parts : List (List ℕ)) (t : Quoting W) → FoldsTo Quotes s parts t → Quotes s (concat parts) t
  calls_quote s [] t h = (
    λ plain. has_written_to_eq took _ _ _ _ (ap (λ (x : Quoting W). x.to.now) (sym h)) (record { wrote = writes_in_calls_nil took _; plain = plain }),
    ap (λ (x : Quoting W). x.to.ghost_name) (sym h),
  )
  calls_quote s (part ∷ parts) t h =
      let rest = calls_quote h.0 parts t h.2 in (
        λ plain. let first = h.1.0 plain in
            has_written_of_eq took _ _ _ _ (sym (escaped_append part (concat parts))) (has_written_append took _ _ _ _ _ first (rest.0 first.plain)),
        rest.1 ∙ h.1.1,
      )

  -- what is written through the writer, where x is what the lent formatter ends as
  pub quoted_is_written : (o : Option (List ℕ)) (s t : Quoting W) (x : Formatter W) → WritesText Quotes s o t → (t.to.ghost_name ≡ s.to.ghost_name → x ≡ t.to.now)
      → IfSome (option_map escaped o) (λ bytes. IsPlainFormatter s.to.now → true ≡ true → HasWritten took s.to.now bytes x)
  quoted_is_written None s t x h e = tt
  quoted_is_written (Some bytes) s t x h e =
      let wrote = calls_quote s h.parts t h.calls in
      λ plain _. has_written_of_eq took _ _ _ _ (ap escaped h.whole) (has_written_to_eq took _ _ _ _ (e wrote.1) (wrote.0 plain))
