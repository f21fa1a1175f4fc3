use Rattle.std.proofs.Common.{Ok, Err, ap, sym, ◌∙◌}
use Rattle.bt_feed.proofs.Moving.{end_of_open}
use Rattle.bt_feed.proofs.pumping.end.Goals as goal

pub returns-in-Ok : goal.returns-in-Ok
returns-in-Ok g c = record {
  end = end_of_open c.args.feed.now (Ok c.in-Ok.bytes) c.start.ensures.feed c.requires (λ v e. sym e ∙ sym c.finish.ensures
      ∙ c.in-Ok.is);
}

pub returns-in-Err-Refused : goal.returns-in-Err-Refused
returns-in-Err-Refused g c =
    record {
      end = end_of_open c.args.feed.now _ c.start.ensures.feed c.requires (λ v e. sym e ∙ sym c.finish.ensures ∙ c.in-Err-Refused.is
          ∙ ap Err c.in-Err-Refused.field-0-is);
    }
