use Rattle.std.proofs.Common.{◌∙◌, ◌&&◌, ◌||◌, ◌++◌, ℕ, List, ap, refl}
use Rattle.bt_io.specs.Counts.{counted}
use Rattle.bt_capture.specs.Tellings.{is_told_with, is_refused_with, is_chosen, report_by}
use Rattle.bt_capture.proofs.InOrder.{told_more}
use Rattle.bt_capture.proofs.telling.Teller.tell.Goals as goal

pub returns-clause-told : goal.returns-clause-told
returns-clause-told c start now reports written t =
    let old = c.args.self.now in
    let told = report_by old.form c.args.report.now in
    let line = c.as_bytes.ensures.value ∙ c.in_ok-put_in.ensures ∙ ap (λ (l : List ℕ). l ++ told) c.clear.ensures.bytes in
    let text = c.in_ok-extend_from_slice.ensures.items ∙ ap (λ (l : List ℕ). old.text.items ++ l) line in
    let chosen = c.is_chosen-chosen.result in
    let choose = is_chosen old.form.choice c.args.report.now in
    let refused = old.is_refused || (chosen && c.is_refused.result) in
    let partial = old.is_partial || (chosen && c.is_partial.result) in
    told_more start now old (record {
      text = c.extend_from_slice.new.self;
      line = c.put_in.new.line;
      form = old.form;
      torrents = c.counted-self.result;
      is_refused = refused;
      is_partial = partial;
    })
    reports written
    c.args.report.now text refl (c.counted-self.ensures ∙ ap (λ f. counted (is_told_with f) old.torrents) c.finding-finding.ensures)
    (ap (λ b. old.is_refused || (b && c.is_refused.result)) c.is_chosen-chosen.ensures
    ∙ ap (λ b. old.is_refused || (choose && b)) (c.is_refused.ensures ∙ ap is_refused_with c.finding-finding.ensures))
    (ap (λ b. old.is_partial || (b && c.is_partial.result)) c.is_chosen-chosen.ensures
    ∙ ap (λ b. old.is_partial || (choose && b)) c.is_partial.ensures) t
