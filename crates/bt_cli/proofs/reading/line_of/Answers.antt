use Rattle.std.proofs.Common.{◌≡◌, ℕ, List, ◌++◌, ◌/◌, IfOk, codes, decimal, string_bytes, append_assoc, sym, subst}
use Rattle.bt_cli.specs.Readings.{progress_words}
use Rattle.bt_cli.proofs.reading.line_of.Goals as goal

pub returns : goal.returns
returns c =
    let e : progress_words c.args.read c.args.size
    ≡ codes "capture: " ++ (decimal (c.args.read / 1000000) ++ (codes " of " ++ (decimal (c.args.size / 1000000) ++ codes " MB"))) = simp append_assoc in
    subst (λ (l : List ℕ). IfOk c.format.result (λ line. string_bytes line ≡ l)) (sym e) c.format.ensures.ok
