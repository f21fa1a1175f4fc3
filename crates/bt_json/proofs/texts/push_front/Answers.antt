use Rattle.std.proofs.Common.{◌++◌, ◌∙◌, List, ℕ, ap, append_assoc, arith, drop, length, length-drop, sym, take}
use Rattle.std.proofs.lemmas.List.{length-take-le}
use Rattle.bt_json.proofs.EscapeLaws.{any_err, few_size, plain_size, run_and_few}
use Rattle.bt_json.proofs.texts.push_front.Goals as goal

pub returns-in_err-extend_from_slice-clause-full : goal.returns-in_err-extend_from_slice-clause-full
returns-in_err-extend_from_slice-clause-full c =
    let run = c.plain_run-run in
    let size = plain_size c.args.bytes.now run.result run.ensures.within run.ensures.plain in
    let long = length-take-le run.result c.args.bytes.now run.ensures.within in
    any_err c.from_residual.result (omega (arith, size, long, c.in_err-extend_from_slice.ensures.full))

pub returns-in_err-extend_from_slice-2-clause-full : goal.returns-in_err-extend_from_slice-2-clause-full
returns-in_err-extend_from_slice-2-clause-full c =
    let run = c.plain_run-run in
    let put = c.put_few-taken in
    let size = few_size c.args.bytes.now run.result put.result.0 run.ensures.within run.ensures.plain in
    let same = ap length put.ensures.text in
    let more = c.in_ok-extend_from_slice.ensures in
    let long = length-take-le run.result c.args.bytes.now run.ensures.within in
    any_err c.from_residual-in_err-extend_from_slice-2.result
    (omega (arith, size, same, long, more.len, more.capacity, c.in_err-extend_from_slice-2.ensures.full))

pub returns-clause-taken : goal.returns-clause-taken
returns-clause-taken c =
    let run = c.plain_run-run in
    let put = c.put_few-taken in
    let next = run_and_few c.args.bytes.now run.result put.result.0 run.ensures.within run.ensures.plain in
    let old = c.args.lines.now.items in (
      omega (arith, put.ensures.taken.0),
      omega (arith, put.ensures.taken.1, length-drop run.result c.args.bytes.now, run.ensures.within),
      c.in_ok-extend_from_slice-2.ensures.items ∙ ap (λ (l : List ℕ). l ++ take put.result.1 put.new.text) c.in_ok-extend_from_slice.ensures.items
          ∙ append_assoc old _ _ ∙ ap (λ (l : List ℕ). old ++ (take run.result c.args.bytes.now ++ l)) put.ensures.text
          ∙ ap (λ (l : List ℕ). old ++ l) (sym next),
    )
