use Rattle.std.proofs.Common.{◌++◌, ◌∙◌, List, ℕ, ap, arith, length, sym, take}
use Rattle.std.specs.Prelude.{Some, codes}
use Rattle.std.proofs.lemmas.Result.{IfOk-weaker, on_err_weaker}
use Rattle.json.specs.Print.{quoted, token_text}
use Rattle.bt_json.specs.Objects.{text_or_null, verdict_line as verdict_words}
use Rattle.bt_text.specs.declared.ended.Ended.TheVariants.{Accepted, Refused}
use Rattle.bt_json.proofs.EscapeLaws.{escape_size, text_token}
use Rattle.bt_json.proofs.MemberLaws.{accepted_line, whole_buffer}
use Rattle.bt_json.proofs.lines.add_verdict.Goals as goal

pub returns-in-Accepted-clause-line : goal.returns-in-Accepted-clause-line
returns-in-Accepted-clause-line c =
    let m = c.in-Accepted.messages in
    let n = c.in-Accepted.bytes in
    let size = c.put_two.ensures.size ∙ c.as_mut_slice-text.ensures.len in
    rw c.in-Accepted.is (ap (take c.put_two.result) (whole_buffer _ c.put_two.new.text c.args.text.now.items size) ∙ c.put_two.ensures.text
    ∙ accepted_line (take c.args.place c.as_mut_slice-text.result.now) m n
    ∙ ap (λ (l : List ℕ). take c.args.place l ++ verdict_words (Accepted m n)) c.as_mut_slice-text.ensures.value)

pub returns-in-Refused-clause-line : goal.returns-in-Refused-clause-line
returns-in-Refused-clause-line c =
    let size = c.put_refusal-end.ensures.size ∙ c.as_mut_slice.ensures.len in
    let end = c.put_refusal-end.result in
    let put = c.put_refusal-end.new.text in
    let name = c.as_bytes.result.now in
    let text = sym (text_token name c.as_bytes.ensures.utf8) ∙ ap quoted (c.as_bytes.ensures.value ∙ c.name.ensures.name) in
    rw c.in-Refused.is (IfOk-weaker c.add_last.result _ _
    (λ n e. e ∙ ap (λ (l : List ℕ). take end l ++ (token_text (text_or_null (Some name)) ++ codes "}\n")) (whole_buffer _ put c.args.text.now.items size)
    ∙ ap (λ (t : List ℕ). take end put ++ (t ++ codes "}\n")) text ∙ c.put_refusal-end.ensures.text
    ∙ ap (λ (l : List ℕ). take c.args.place l ++ verdict_words (Refused c.in-Refused.refusal)) c.as_mut_slice.ensures.value)
    c.add_last.ensures.line)

pub returns-in-Refused-clause-full : goal.returns-in-Refused-clause-full
returns-in-Refused-clause-full c =
    let size = escape_size c.as_bytes.result.now in
    let long = ap length c.as_bytes.ensures.value in
    let short = c.name.ensures.short in
    let room = c.put_refusal-end.ensures.room in
    on_err_weaker c.add_last.result (λ full. omega (arith, size, long, short, room, full)) c.add_last.ensures.full
