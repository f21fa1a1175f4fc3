use Rattle.std.proofs.Common.{◌≡◌, ℕ, ◌+◌, ◌-◌, ◌*◌, ◌<◌, List, length, take, drop, min, ap, subst, ◌∙◌, arith, length-drop}
use Rattle.std.proofs.lemmas.List.{take_min}
use Rattle.bt_ext.specs.Metadata.{block_count}
use Rattle.bt_metadata.specs.Blocks.{block}
use Rattle.bt_metadata.proofs.server.Server.answer.Goals as goal

-- up to the end, where that comes first
cut : (d : List ℕ) (at end : ℕ) → at < length d → end ≡ min (at + 16384) (length d) → take (end - at) (drop at d) ≡ take 16384 (drop at d)
cut d at end h e =
    let n : end - at ≡ min 16384 (length (drop at d)) = omega (arith, e, length-drop at d) in
    ap (λ k. take k (drop at d)) n ∙ take_min 16384 (drop at d)

exists : (n piece : ℕ) → 16384 * piece < n → piece < block_count n
exists n piece h = omega arith

pub returns-clause-reply : goal.returns-clause-reply
returns-clause-reply g c =
    let d = c.bytes-metadata.result.now in
    let at : ℕ = 16384 * c.args.piece in
    let v : d ≡ c.args.self.now = c.bytes-metadata.ensures ∙ c.self.view_is in
    let h : at < length d = omega (arith, c.if-at-size.false) in
    let m : c.min.result ≡ min (at + 16384) (length d) = c.min.ensures in (
      subst (λ x. c.args.piece < block_count (length x)) v (exists (length d) c.args.piece h),
      ap length v,
      cut d at c.min.result h m ∙ ap (λ x. block x c.args.piece) v,
    )
