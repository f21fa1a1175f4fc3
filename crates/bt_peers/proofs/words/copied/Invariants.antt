use Rattle.std.proofs.Common.{◌≡◌, map, string_bytes, take}
use Rattle.bt_peers.proofs.words.copied.Given as goal

-- the texts so far are copied
abbrev pub invariant-loop-text : goal.invariant-loop-text
invariant-loop-text l = map string_bytes l.copies.items ≡ map (λ s. s.now) (take l.text-index l.texts)
