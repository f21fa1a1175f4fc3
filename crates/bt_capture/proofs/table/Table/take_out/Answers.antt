use Rattle.std.proofs.Common.{◌∙◌, sym, subst, List, ◌∷◌, ◌++◌}
use Rattle.bt_capture.specs.declared.pair.Pair.{Pair}
use Rattle.bt_capture.specs.Tables.{IsApart, Held}
use Rattle.bt_capture.proofs.Entries.{apart_rest, apart_without, apart_others}
use Rattle.bt_capture.proofs.table.Table.take_out.Goals as goal

pub invariant_of-self : goal.invariant_of-self
invariant_of-self c =
    let es : List (Pair × Held) = c.self.inside.others.entries ++ c.self.inside.silent.entries in
    let e : Pair × Held = (c.in-Some.last, c.in-Some.connection) in
    (rw c.take.ensures.after (apart_rest e es (rw (sym c.in-Some.ensures.value) at c.self.invariant.0)), c.self.invariant.1, c.self.invariant.2)

pub invariant_of-self-in-Some : goal.invariant_of-self-in-Some
invariant_of-self-in-Some c =
    let es : List (Pair × Held) = c.self.inside.others.entries ++ c.self.inside.silent.entries in
    let e : Pair × Held = (c.in-Some.last, c.in-Some.connection) in
    let P : List (Pair × Held) → Type 0 = λ l. IsApart (e ∷ l) in (
      subst P (sym c.take_either.ensures.rest) (apart_others c.args.pair e es (rw (sym c.in-Some.ensures.value) at c.self.invariant.0)),
      c.take_either.ensures.cap ∙ c.self.invariant.1,
      c.take_either.ensures.silent_cap ∙ c.self.invariant.2,
    )

pub invariant_of-self-in-None : goal.invariant_of-self-in-None
invariant_of-self-in-None c =
    let es : List (Pair × Held) = c.self.inside.others.entries ++ c.self.inside.silent.entries in (
      rw c.take.ensures.after (subst (λ l. IsApart l) (sym c.take_either-in-None.ensures.rest)
          (apart_without c.args.pair es (rw (sym c.in-None.ensures.value) at c.self.invariant.0))),
      c.take_either-in-None.ensures.cap ∙ c.self.invariant.1,
      c.take_either-in-None.ensures.silent_cap ∙ c.self.invariant.2,
    )
