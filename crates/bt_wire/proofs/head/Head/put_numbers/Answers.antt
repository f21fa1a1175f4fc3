use Rattle.std.proofs.Common.{◌≡◌, ◌++◌, ◌∙◌, List, ℕ, [], ap, sym, refl, append_assoc, append-nil}
use Rattle.bt_wire.specs.Messages.{seen, spell_fields}
use Rattle.bt_wire.specs.Numbers.{be32}
use Rattle.bt_wire.specs.declared.fields.Fields.{Fields}
use Rattle.bt_wire.proofs.head.Head.put_numbers.Goals as goal

pub returns-in-Part : goal.returns-in-Part
returns-in-Part c =
    let front = c.args.self.now in
    let i = be32 c.in-Part.index in
    let b = be32 c.in-Part.begin in
    let l = be32 c.in-Part.length in
    let is : c.put-in-Part-3.new.self ≡ ((front ++ i) ++ b) ++ l =
    rw (
      c.put-in-Part-3.ensures,
      c.put-in-Part-2.ensures,
      c.put-in-Part.ensures,
      c.to_be_bytes-in-Part.ensures,
      c.to_be_bytes-in-Part-2.ensures,
      c.to_be_bytes-in-Part-3.ensures,
    ) refl in
    append-nil c.put-in-Part-3.new.self ∙ is ∙ append_assoc (front ++ i) b l ∙ append_assoc front i (b ++ l)
    ∙ ap (λ (f : Fields). front ++ spell_fields (seen f)) (sym c.in-Part.is)
