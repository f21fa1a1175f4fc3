use Rattle.std.proofs.Common.{◌≡◌, ◌++◌, List, ℕ, append_assoc, take, ◌∙◌}
use Rattle.std.specs.Prelude.{codes, decimal}
use Rattle.json.specs.Print.{escape_byte}
use Rattle.bt_json.specs.Members.{kind_and_name}
use Rattle.bt_json.proofs.MemberLaws.{three_numbers}
use Rattle.bt_json.proofs.members.put_data.Goals as goal

regrouped : (o a n d : List ℕ) → ((o ++ a) ++ n) ++ d ≡ o ++ (a ++ (n ++ d))
regrouped o a n d = simp append_assoc

pub returns-clause-text : goal.returns-clause-text
unfolding escape_byte
returns-clause-text c =
    let old = take c.args.at c.args.text.now in
    let whole = three_numbers old (codes "metadata-data") (codes "piece") (codes "total_size") (codes "bytes") c.from.result c.args.total c.args.rest in
    rw (← c.from.ensures) (rw c.put_two.ensures.text (rw c.put_number-place.ensures.text (rw c.put_word-place.ensures.text
    (regrouped old (kind_and_name (codes "metadata-data") (codes "piece")) (decimal c.from.result) _ ∙ whole))))
