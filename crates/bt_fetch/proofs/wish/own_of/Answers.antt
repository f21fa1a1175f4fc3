use Rattle.std.proofs.Common.{◌≡◌, ℕ, ◌<◌, Option, None, Some, ap, ◌∙◌, arith}
use Rattle.std.specs.Option.{SomeIff}
use Rattle.bt_ext.specs.Ids.{metadata_only}
use Rattle.bt_ext.specs.declared.ids.Registered.{Registered}
use Rattle.bt_fetch.specs.Wishes.{own_of}
use Rattle.bt_fetch.proofs.wish.own_of.Goals as goal

an_id : (o : Option ℕ) → SomeIff o (0 < 3) 3 → o ≡ Some 3
an_id None h = absurd (h (omega arith))
an_id (Some id) h = ap (λ (n : ℕ). Some n) h.1

pub returns : goal.returns
returns c =
    ap (λ (r : Registered). record (own_of c.args.wish.now) { reg = r }) (c.metadata_only.ensures.ids ∙ ap metadata_only (an_id c.new.result c.new.ensures))
