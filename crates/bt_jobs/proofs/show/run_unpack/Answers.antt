use Rattle.bt_jobs.proofs.show.run_unpack.Goals as goal

pub returns-clause-unpacked : goal.returns-clause-unpacked
returns-clause-unpacked g c =
    (rw c.new-printer.ensures.form at c.tell.ensures.told)
