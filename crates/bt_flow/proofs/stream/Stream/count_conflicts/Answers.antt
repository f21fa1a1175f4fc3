use Rattle.std.proofs.Common.{◌≡◌, ℕ, ◌+◌, ◌≤◌, ◌-◌, ◌^◌, ◌∙◌, Bool, true, false, min, sym, length, arith, if◌then◌else◌}
use Rattle.bt_tcp.specs.History.{conflicts, kept}
use Rattle.bt_flow.proofs.Streams.{conflicts_past}
use Rattle.bt_flow.proofs.stream.Stream.count_conflicts.Goals as goal

-- One that isn't a keep-alive, or is.
told : (probe b : Bool) (n sum r : ℕ) → b ≡ probe → b ≡ false → n ≡ min (2 ^ 64 - 1) sum → n ≡ min (2 ^ 64 - 1) (if probe then 0 else sum)
told false b n sum r e f h = h
told true b n sum r e f h = absurd (let z : true ≡ false = sym e ∙ f in cc)

none : (probe b : Bool) (sum : ℕ) → b ≡ probe → b ≡ true → 0 ≡ min (2 ^ 64 - 1) (if probe then 0 else sum)
none true b sum e t = omega arith
none false b sum e t = absurd (let z : false ≡ true = sym e ∙ t in cc)

pub returns-then-is_probe : goal.returns-then-is_probe
returns-then-is_probe c = λ out n h. none _ c.is_probe.result _ c.is_probe.ensures c.if-is_probe.true

pub returns-then-at-next : goal.returns-then-at-next
returns-then-at-next c = λ out n h.
    let p : c.args.self.now.resumed + length out ≤ c.args.at = omega (arith, n) in
    let z : conflicts (kept c.args.self.now.resumed out) c.args.at c.args.part.now ≡ 0 = conflicts_past c.args.self.now.resumed out c.args.at c.args.part.now p in
    told _ c.is_probe.result _ _ 0 c.is_probe.ensures c.if-is_probe.false (omega (arith, z, c.count_conflicts-ahead.ensures))
