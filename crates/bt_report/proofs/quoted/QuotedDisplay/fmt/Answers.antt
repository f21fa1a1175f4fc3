use Rattle.std.proofs.Common.{rules}
use Rattle.bt_report.proofs.Quotes.{quoted_is_written}
use Rattle.bt_report.proofs.quoted.QuotedDisplay.fmt.Goals as goal

pub returns-clause-writes : goal.returns-clause-writes
returns-clause-writes g c =
    quoted_is_written _ (g.D.Display.output c.args.self.now.0.now) _ c.write.new.self _ c.in_ok-write.ensures.writes (search rules)
