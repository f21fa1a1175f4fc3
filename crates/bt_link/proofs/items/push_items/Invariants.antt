use Rattle.std.proofs.Common.{◌≡◌, ◌++◌, drop}
use Rattle.bt_link.specs.Shown.{item_lines}
use Rattle.bt_link.proofs.items.push_items.Given as goal

-- what is written, and the lines of the items that are left
abbrev pub invariant-items : goal.invariant-items
invariant-items l = l.text.items ++ item_lines l.at (drop l.item-index l.sent) ≡ l.initial.text.items ++ item_lines 0 l.sent
