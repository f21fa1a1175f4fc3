use Rattle.std.proofs.Common.{ℕ, List, refl, subst, sym}
use Rattle.bt_tracker.specs.declared.announce.Event.TheVariants as event
use Rattle.bt_seek.specs.Mails.{Asked}
use Rattle.bt_seek.specs.Names.{names_of}
use Rattle.bt_seek.specs.Questions.{IsPageAsked}
use Rattle.bt_seek.specs.Tables.{course_of}
use Rattle.bt_seek.proofs.Runs.{told_step}
use Rattle.bt_seek.proofs.sending.ask_page.Goals as goal

pub returns : goal.returns
returns g c =
    let page = c.args.search.now.table.begun in
    let asked = subst (λ (x : List ℕ). IsPageAsked (names_of c.args.named.now) event.Started page x) (sym c.deref.ensures.value)
    c.in_ok-question.ensures in
    told_step (g.P.Post.log c.args.post.now) (g.P.Post.log c.ask.new.self) (names_of c.args.named.now) (course_of c.args.search.now.table)
    (course_of c.ask_page.new.self) (Asked page c.deref.result.now) c.ask.ensures (refl, asked, c.in_ok-ask_page.ensures)
