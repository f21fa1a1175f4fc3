use Rattle.bt_jobs.specs.Others.{reader_of_other}
use Rattle.bt_intro.proofs.Listening.{heard_more}
use Rattle.bt_intro.proofs.voice.listen.Goals as goal

pub returns : goal.returns
returns c = λ b items j h.
    let m = c.in-Ok.ensures.judged reader_of_other b items j in
    (m.0, m.1.1, heard_more items m.0 c.args.listener.now c.take.new.sink h m.1.0)
