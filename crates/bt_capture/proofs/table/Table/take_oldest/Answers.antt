use Rattle.std.proofs.Common.{◌∙◌, subst, List, [], ◌∷◌, ◌++◌, append-nil}
use Rattle.bt_capture.specs.declared.pair.Pair.{Pair}
use Rattle.bt_capture.specs.Tables.{IsApart, Held}
use Rattle.bt_capture.proofs.Parts.{apart_others, apart_others_left}
use Rattle.bt_capture.proofs.table.Table.take_oldest.Goals as goal

pub invariant_of-self : goal.invariant_of-self
invariant_of-self c =
    let es : List (Pair × Held) = c.self.inside.others.entries ++ c.self.inside.silent.entries in
    let es' : List (Pair × Held) = c.take_least.new.others.entries ++ c.take_least.new.silent.entries in
    let e : Pair × Held = c.in-Some.oldest in (
      apart_others_left c.self.inside.last es es' (e ∷ []) c.in-Some.ensures.oldest c.self.invariant.0,
      c.in-Some.ensures.cap ∙ c.self.invariant.1,
      c.in-Some.ensures.silent_cap ∙ c.self.invariant.2,
    )

pub invariant_of-self-in-None : goal.invariant_of-self-in-None
invariant_of-self-in-None c =
    let es : List (Pair × Held) = c.self.inside.others.entries ++ c.self.inside.silent.entries in
    let es' : List (Pair × Held) = c.take_least.new.others.entries ++ c.take_least.new.silent.entries in (
      rw c.take.ensures.after (subst (λ l. IsApart l) (c.in-None.ensures.oldest ∙ append-nil es') (apart_others c.self.inside.last es c.self.invariant.0)),
      c.in-None.ensures.cap ∙ c.self.invariant.1,
      c.in-None.ensures.silent_cap ∙ c.self.invariant.2,
    )
