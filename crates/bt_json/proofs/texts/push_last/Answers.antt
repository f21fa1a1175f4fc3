use Rattle.std.proofs.Common.{rules, ◌≡◌, ◌++◌, List, ℕ, append_assoc, arith}
use Rattle.std.specs.Prelude.{codes, IsUtf8}
use Rattle.json.specs.Print.{escape}
use Rattle.bt_json.proofs.EscapeLaws.{any_err, escape_long, text_token}
use Rattle.bt_json.proofs.texts.push_last.Goals as goal

regrouped : (o q s e : List ℕ) → ((o ++ q) ++ s) ++ (q ++ e) ≡ o ++ ((q ++ (s ++ q)) ++ e)
regrouped o q s e = simp append_assoc

pub returns-clause-added : goal.returns-clause-added
returns-clause-added c =
    let utf8 : IsUtf8 c.in-Some.bytes.now = search rules in
    rw c.in-Some.is (rw (← text_token c.in-Some.bytes.now utf8)
    (rw (← regrouped c.args.lines.now.items (codes "\"") (escape c.in-Some.bytes.now) (codes "}\n")) (search rules)))

pub returns-in_err-reserve-clause-full : goal.returns-in_err-reserve-clause-full
returns-in_err-reserve-clause-full c =
    let long = escape_long c.in-Some.bytes.now in
    rw c.in-Some.is (any_err c.from_residual.result (omega (arith, long, c.in_err-reserve.ensures.full)))
