use Rattle.std.proofs.Common.{◌≡◌, ◌∙◌, sym, subst}
use Rattle.std.specs.Prelude.{IsSome}
use Rattle.bt_jobs.specs.Others.{reader_of_other}
use Rattle.bt_intro.specs.declared.voice.Reader.{Reader}
use Rattle.bt_intro.specs.Hearing.{IsReadBy}
use Rattle.bt_intro.proofs.Hearing.{told_by, Told, standing}
use Rattle.bt_intro.proofs.voice.Voice.is_refused.Goals as goal

pub returns-in-Open : goal.returns-in-Open
returns-in-Open c = λ b h.
    let t : Told b c.args.self.now = told_by b c.args.self.now h in
    let j = subst (λ (r : Reader). IsReadBy b h.items r) c.in-Open.is h.read in
    let s : t.now.refusal ≡ c.refusal.result = standing b c.refusal.result t.now t.is (c.refusal.ensures.stands reader_of_other b h.items j) in
    (t.now, t.is, t.heard, ((λ e. subst IsSome (sym s) (sym c.is_some.ensures ∙ e)), λ some. c.is_some.ensures ∙ subst IsSome s some))
