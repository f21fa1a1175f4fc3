use Rattle.bt_talk.proofs.stage.judge_bytes.Goals as goal

pub returns-in-Ok : goal.returns-in-Ok
returns-in-Ok c = λ own b xs ys j.
    let m = c.in-Ok.ensures.judged own b xs ys j in (m.0, m.1.1.0, m.1.1.1, m.1.0)
