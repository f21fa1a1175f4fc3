use Rattle.std.proofs.Common.{◌≡◌, ℕ, List, length, Result, Ok, Err, IfOk, ap, ◌∙◌}
use Rattle.std.specs.declared.alloc.AllocError.{AllocError}
use Rattle.bt_bencode.specs.declared.tree.Value.{Value}
use Rattle.bt_bencode.specs.declared.tree.Value.TheVariants as value
use Rattle.bt_bencode.specs.Trees.{Pairs}
use Rattle.bt_bencode.specs.Bencoding.{BeginsWith, Spells}
use Rattle.bt_bencode.proofs.Payloads.{one_dictionary, whole}
use Rattle.bt_ext.proofs.made.value_of.Goals as goal

of_text : (text : List ℕ) (qs : Pairs) (n : ℕ) (r : Result Value AllocError) → BeginsWith text qs n → IfOk r (λ v. v ≡ value.Dict qs)
    → IfOk r (λ v. (ps : Pairs) → Spells ps text → v ≡ value.Dict ps)
of_text text qs n (Ok v) b h = λ ps s. h ∙ ap value.Dict (one_dictionary text qs ps n (length text) b (whole text ps s)).0
of_text text qs n (Err e) b h = tt

pub returns : goal.returns
returns c = of_text c.args.text.now c.in-Ok.dict.tree.0 c.in-Ok.field-0-1 c.to_value.result c.in-Ok.ensures.ok c.to_value.ensures
