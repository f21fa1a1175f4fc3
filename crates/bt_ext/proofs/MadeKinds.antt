-- The dictionary that is written for a kind is of that kind.
use Rattle.std.proofs.Common.{◌≡◌, ℕ, ◌<◌, ◌^◌, refl, true, arith, nat_le, nat_lt}
use Rattle.bt_ext.specs.Metadata.{kind_of}
use Rattle.bt_ext.specs.Made.{IsMade, message_tree}
use Rattle.bt_ext.specs.declared.metadata.Kind.{Kind}
use Rattle.bt_ext.specs.declared.metadata.Kind.TheVariants as kind
use Rattle.std.proofs.lemmas.Grind.{common_steps}

within : (n : ℕ) → n < 2 ^ 32 → nat_le n 4294967295 ≡ true
within n h = grind (arith, common_steps)

positive : (n : ℕ) → 0 < n → nat_lt 0 n ≡ true
positive n h = grind (arith, common_steps)

pub kind_made : (k : Kind) → IsMade k → kind_of (message_tree k) ≡ k
kind_made (kind.Request piece) h = rw (within piece h) refl
kind_made (kind.Data piece total) h = rw (within piece h.0, positive total h.1) refl
kind_made (kind.Reject piece) h = rw (within piece h) refl
kind_made kind.Other h = absurd h
kind_made kind.Malformed h = absurd h
