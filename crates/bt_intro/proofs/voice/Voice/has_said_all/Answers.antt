use Rattle.std.proofs.Common.{◌≡◌, ◌∙◌, true, false, refl, inl, inr, length}
use Rattle.bt_intro.proofs.Hearing.{awaited_by, is_awaited}
use Rattle.bt_intro.proofs.voice.Voice.has_said_all.Goals as goal

pub returns-then-is_refused : goal.returns-then-is_refused
returns-then-is_refused c = λ b h.
    let t = c.is_refused.ensures b h in
    (t.0, t.1, ((λ _. inr (inl (t.3.0 c.if-is_refused.true))), λ _. refl))

pub returns : goal.returns
returns c = λ b h.
    let t = c.is_refused.ensures b h in (
      t.0,
      t.1,
      (
        (λ e. inr (inr (awaited_by c.args.self.now.listener.items (length t.0.items) t.2.items e))),
        λ all. elim all [
          | inl e ↦
              let yes : c.args.self.now.listener.extended ≡ true = t.2.extended ∙ e in
              let no : c.args.self.now.listener.extended ≡ false = c.if-self.false in
              absurd cc
          | inr (inl some) ↦
              let yes : c.is_refused.result ≡ true = t.3.1 some in
              let no : c.is_refused.result ≡ false = c.if-is_refused.false in
              absurd cc
          | inr (inr n) ↦ is_awaited c.args.self.now.listener.items (length t.0.items) t.2.items n
        ],
      ),
    )
