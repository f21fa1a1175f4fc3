-- How many bytes reads give.
use Rattle.std.proofs.Common.{◌≡◌, ℕ, ◌+◌, ◌-◌, ◌*◌, ◌^◌, ◌≤◌, ◌<◌, min, suc, List, length, Option, Some, None, ap, ◌∙◌, arith}
use Rattle.std.proofs.Math.Nat.{mul-le-mul_right, suc-mul}
use Rattle.bt_io.specs.Counts.{one_more}
use Rattle.bt_io.specs.Seen.{SourceSeen}
use Rattle.bt_feed.specs.Pumps.{ConsumesAtMost, IsReadBy}

pub both_consumed : (m n k : ℕ) (old mid new : Option (List ℕ)) → ConsumesAtMost m old mid → ConsumesAtMost n mid new → m + n ≤ k → ConsumesAtMost k old new
both_consumed m n k None mid new g h le = tt
both_consumed m n k (Some xs) None new g h le = absurd g
both_consumed m n k (Some xs) (Some ys) None g h le = h
both_consumed m n k (Some xs) (Some ys) (Some zs) g h le = omega (arith, g, h, le)

none_left : (n : ℕ) (left : Option (List ℕ)) → ConsumesAtMost n left left
none_left n None = tt
none_left n (Some xs) = omega arith

-- as many reads were counted as were made
pub counted_reads : (n turns : ℕ) (old new : SourceSeen) → min (old.reads + turns) (2 ^ 64 - 1) ≤ new.reads
    → ConsumesAtMost (turns * n) old.left new.left → IsReadBy n old new
counted_reads n turns old new counted h = λ few.
    let le : turns ≤ new.reads - old.reads = omega (arith, counted, few) in
    both_consumed (turns * n) 0 ((new.reads - old.reads) * n) old.left new.left new.left h (none_left 0 new.left) (omega (arith, mul-le-mul_right n le))

pub not_read : (n : ℕ) (seen : SourceSeen) → IsReadBy n seen seen
not_read n seen = counted_reads n 0 seen seen (omega arith) (none_left (0 * n) seen.left)

-- one read more
pub read_more : (n turns k : ℕ) (old mid new : Option (List ℕ)) → ConsumesAtMost (turns * n) old mid → ConsumesAtMost k mid new → k ≡ n
    → ConsumesAtMost ((turns + 1) * n) old new
read_more n turns k old mid new g h e =
    let next : turns + 1 ≡ suc turns = omega arith in
    let all : (turns + 1) * n ≡ turns * n + n = ap (λ (x : ℕ). x * n) next ∙ suc-mul turns n in
    both_consumed (turns * n) k ((turns + 1) * n) old mid new g h (omega (arith, e, all))

pub counted_more : (n turns k : ℕ) (old mid new : SourceSeen) → min (old.reads + turns) (2 ^ 64 - 1) ≤ mid.reads → new.reads ≡ one_more mid.reads
    → ConsumesAtMost (turns * n) old.left mid.left → ConsumesAtMost k mid.left new.left → k ≡ n → IsReadBy n old new
counted_more n turns k old mid new counted more g h e =
    counted_reads n (turns + 1) old new (omega (arith, counted, more)) (read_more n turns k old.left mid.left new.left g h e)
