use Rattle.std.proofs.Common.{◌≡◌, ◌-◌, ◌<◌, ◌^◌, ◌∙◌, List, ℕ, Option, length, take, drop, Result, Ok, Err, IfOk, ap, arith}
use Rattle.std.proofs.lemmas.Grind.{common_steps}
use Rattle.std.specs.Option.{ForSome}
use Rattle.std.specs.declared.alloc.AllocError.{AllocError}
use Rattle.bt_bencode.specs.declared.tree.Value.{Value}
use Rattle.bt_bencode.specs.declared.tree.Value.TheVariants as value
use Rattle.bt_bencode.specs.Trees.{Pairs, dictionary}
use Rattle.bt_bencode.specs.Bencoding.{ben, Spells}
use Rattle.bt_bencode.specs.Views.{tree_of}
use Rattle.bt_ext.specs.Ids.{HaveBytes, metadata_id, donthave_id}
use Rattle.bt_ext.specs.declared.ids.Registered.{Registered}
use Rattle.bt_ext.specs.Made.{handshake_pairs, handshake_tree}
use Rattle.bt_ext.proofs.MadeRight.{handshake-fits}
use Rattle.bt_ext.proofs.made.handshake_dict.Goals as goal

spells : (reg : Registered) (size : Option ℕ) (start : ℕ) (text : List ℕ) → HaveBytes reg → ForSome size (λ n. n < 2 ^ 63) → length text ≡ 220
    → drop start text ≡ ben (handshake_tree reg size)
    → Spells (handshake_pairs (metadata_id reg) (donthave_id reg) size) (take (220 - start) (drop start text))
spells reg size start text bytes below long is =
    let whole : take (220 - start) (drop start text) ≡ drop start text = grind (arith, common_steps) in
    record { fits = handshake-fits reg size bytes below; spelled = whole ∙ is }

of_text : (ps : Pairs) (text : List ℕ) (r : Result Value AllocError) → Spells ps text → IfOk r (λ v. (qs : Pairs) → Spells qs text → v ≡ value.Dict qs)
    → IfOk r (λ v. tree_of v ≡ dictionary ps)
of_text ps text (Ok v) s h = ap tree_of (h ps s)
of_text ps text (Err e) s h = tt

pub value_of-requires : goal.value_of-requires
value_of-requires c = (
  handshake_pairs (metadata_id c.args.reg) (donthave_id c.args.reg) c.args.size,
  spells c.args.reg c.args.size c.handshake_text-start.result c.handshake_text-start.new.text c.handshake_text-start.ensures.bytes c.requires
      c.handshake_text-start.array_long c.handshake_text-start.ensures.text,
)

pub returns : goal.returns
returns c =
    of_text (handshake_pairs (metadata_id c.args.reg) (donthave_id c.args.reg) c.args.size) _ c.value_of.result
    (spells c.args.reg c.args.size c.handshake_text-start.result c.handshake_text-start.new.text c.handshake_text-start.ensures.bytes c.requires
    c.handshake_text-start.array_long c.handshake_text-start.ensures.text) c.value_of.ensures
