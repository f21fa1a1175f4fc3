use Rattle.std.proofs.Common.{arith}
use Rattle.std.specs.BTreeMap.{get}
use Rattle.std.specs.Ordering.{nat_cmp}
use Rattle.std.proofs.lemmas.Grind.{common_steps}
use Rattle.bt_flow.proofs.PageProofs.{page_kept}
use Rattle.bt_flow.proofs.pages.Pages.keep_in_page.Goals as goal

pub returns : goal.returns
returns c =
    let u = c.in_ok-insert.ensures.updates in
    page_kept (get nat_cmp c.args.self.now.pages) (get nat_cmp c.insert.new.self) c.take_page-page.result c.fill.new.page c.args.at c.args.part.now
    c.take_page-page.ensures.page c.in_ok-fill.ensures u.1 (λ q ne. grind (arith, common_steps, u.0 q, c.take_page-page.ensures.others q ne)) c.requires
