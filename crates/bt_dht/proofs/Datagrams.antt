-- A datagram that is a dictionary begins with it, and with no other.
use Rattle.std.proofs.Common.{◌≡◌, ℕ, ◌<◌, ◌≤◌, List, length, take, subst, sym, arith}
use Rattle.std.proofs.lemmas.Grind.{common_steps}
use Rattle.bt_bencode.specs.Trees.{Pairs}
use Rattle.bt_bencode.specs.Bencoding.{BeginsWith, Spells}
use Rattle.bt_bencode.proofs.LawProofs.{one_dictionary}

all_of : (d : List ℕ) (n : ℕ) → length d ≤ n → take n d ≡ d
all_of d n h = grind (arith, common_steps)

pub begins_whole : (d : List ℕ) (ps : Pairs) → Spells ps d → BeginsWith d ps (length d)
begins_whole d ps s = record { within = omega arith; spells = subst (λ x. Spells ps x) (sym (all_of d (length d) (omega arith))) s }

pub is_whole : (d : List ℕ) (ps : Pairs) (n : ℕ) → BeginsWith d ps n → length d ≤ n → Spells ps d
is_whole d ps n b h = subst (λ x. Spells ps x) (all_of d n h) b.spells

pub is_followed : (d : List ℕ) (ps : Pairs) (n : ℕ) → BeginsWith d ps n → n < length d → (qs : Pairs) → Spells qs d → ⊥
is_followed d ps n b h qs s =
    let same = one_dictionary d ps qs n (length d) b (begins_whole d qs s) in
    omega (arith, same.1)
