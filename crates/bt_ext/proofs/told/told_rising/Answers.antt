use Rattle.std.proofs.Common.{◌≡◌, ◌++◌, ◌∷◌, ◌∙◌, true, false, sym, refl}
use Rattle.std.specs.List.{list_any}
use Rattle.std.specs.Option.{option_copied}
use Rattle.std.specs.Str.{bytes_eq}
use Rattle.bt_bencode.specs.Keys.{is_above}
use Rattle.bt_ext.specs.Holding.{entries_of}
use Rattle.bt_ext.proofs.Rising.{below_more}
use Rattle.bt_ext.proofs.Telling.{told_at, told_step}
use Rattle.bt_ext.proofs.told.told_rising.Goals as goal

pub loop-name-preserved : goal.loop-name-preserved
loop-name-preserved g c =
    let earlier = c.loop-name.invariant.0 in
    let name = c.in-Some.name.now in
    let last = option_copied c.loop-name.last in
    let above : is_above last name ≡ true = sym c.is_above.ensures ∙ c.if-not-is_above.false in
    let new : list_any (bytes_eq name) earlier ≡ false = c.loop-name.invariant.1 name above in
    let front = entries_of c.loop-name.entries.items in
    let done = entries_of c.tell_new.new.entries.items in
    let more : done ≡ front ++ told_at earlier name c.byte_of.result = rw new c.in_ok-tell_new.ensures in (
      name ∷ earlier,
      below_more earlier last name c.loop-name.invariant.1 above,
      c.loop-name.invariant.2 ∙ told_step front done earlier (name ∷ earlier) c.loop-name.name-iterator c.next.new.self (c.in-Some.name, c.in-Some.value)
          c.in-Some.ensures.steps (λ other. refl) (rw c.byte_of.ensures at more),
    )
