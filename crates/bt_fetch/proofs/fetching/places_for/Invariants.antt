use Rattle.std.proofs.Common.{◌≡◌, is_some, count_by, All, vec_len}
use Rattle.bt_fetch.specs.Wishes.{handshake_of}
use Rattle.bt_fetch.proofs.fetching.places_for.Given as goal

-- each place so far is free, with the wish's handshake
abbrev pub invariant-loop-place : goal.invariant-loop-place
invariant-loop-place g l = record {
  kept : All (λ p. p.end.end.handshake ≡ handshake_of l.fn.wish) l.places.items;
  none : count_by (λ p. is_some p.visit) l.places.items ≡ 0;
  len : vec_len l.places ≡ l._place;
}
