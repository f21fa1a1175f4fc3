use Rattle.std.proofs.Common.{◌≡◌, map, string_bytes, take}
use Rattle.bt_peers.proofs.words.peers_in.Given as goal

-- the texts so far are copied
abbrev pub invariant-loop-word : goal.invariant-loop-word
invariant-loop-word l = map string_bytes l.peers.items ≡ map (λ s. s.now) (take l.word-index l.words)
