-- How long the body of a block is.
use Rattle.std.proofs.Common.{◌≡◌, ℕ, ◌-◌, ◌≤◌, min, List, length, take, drop, arith, ap, ◌∙◌}
use Rattle.std.proofs.lemmas.Bool.Decides.{nat_tests}
use Rattle.std.proofs.lemmas.List.{length-take, length-take-le, length-drop}
use Rattle.bt_pcap.specs.Reading.{least, most, front}

pub least_le : (kind : ℕ) → least kind ≤ 20
unfolding least
least_le kind = grind (arith, nat_tests)

pub least_most : (kind : ℕ) → least kind ≤ most kind
unfolding least most
least_most kind = grind (arith, nat_tests)

pub body_long : (kind total : ℕ) (bytes f body : List ℕ) → body ≡ take (total - 12) (take (length f - 8) (drop 8 f)) → f ≡ front total bytes
    → 12 ≤ total → least kind ≤ total - 12 → min total 1048604 ≤ length bytes → least kind ≤ length body
body_long kind total bytes f body e is lo fits enough =
    let size : length f ≡ min total 1048604 = ap (length {A = ℕ}) is ∙ length-take-le (min total 1048604) bytes enough in
    rw e (omega (arith, least_le kind, length-take (total - 12) (take (length f - 8) (drop 8 f)), length-take (length f - 8) (drop 8 f), length-drop 8 f))
