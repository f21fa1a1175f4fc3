use Rattle.std.proofs.Common.{◌∙◌, Bool, is_some, sym, ap}
use Rattle.std.specs.Prelude.{◌||◌}
use Rattle.bt_talk.proofs.talk.Talk.is_torrent.Goals as goal

pub returns-then-is_some : goal.returns-then-is_some
returns-then-is_some c = λ a b t. (
  c.start-a.result,
  c.start-b.result,
  c.start-a.ensures a b t,
  c.start-b.ensures a b t,
  c.if-is_some.true ∙ sym (ap (λ (x : Bool). x || is_some c.start-b.result) (sym c.is_some.ensures ∙ c.if-is_some.true)),
)

pub returns-else-is_some : goal.returns-else-is_some
returns-else-is_some c = λ a b t. (
  c.start-a.result,
  c.start-b.result,
  c.start-a.ensures a b t,
  c.start-b.ensures a b t,
  c.is_some-else-is_some.ensures ∙ sym (ap (λ (x : Bool). x || is_some c.start-b.result) (sym c.is_some.ensures ∙ c.if-is_some.false)),
)
