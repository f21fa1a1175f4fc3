use Rattle.std.proofs.Common.{rules, ◌≡◌, ◌≤◌, ◌++◌, ℕ, List, length, take, ap, ◌∙◌, arith}
use Rattle.std.proofs.lemmas.List.{length-take-le}
use Rattle.bt_capture.proofs.Buffers.{read_after}
use Rattle.bt_capture.proofs.buffer.Buffer.read.Goals as goal

pub returns-in-Ok-clause-read : goal.returns-in-Ok-clause-read
returns-in-Ok-clause-read g c =
    let size = c.self.inside.size in
    let n = c.in-Ok.count in
    let into = c.read.new.into in
    let within : n ≤ length into = c.in-Ok.ensures.bound.0 in
    let there : size ≤ length c.deref_mut.result.now = omega (arith, c.lengthen.ensures.within, c.deref_mut.ensures.len) in
    let same : take size c.deref_mut.result.now ≡ c.args.self.now =
    ap (take size) c.deref_mut.ensures.value ∙ c.lengthen.ensures.same ∙ c.self.view_is in (
      take n into,
      length-take-le n into within,
      read_after size n _ _ into _ _ (length-take-le size c.deref_mut.result.now there) within (search rules) ∙ ap (λ (x : List ℕ). x ++ take n into) same,
      c.in-Ok.ensures.bytes.0,
    )
