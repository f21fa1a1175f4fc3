use Rattle.bt_seek.specs.Names.{names_of}
use Rattle.bt_seek.specs.Tables.{course_of}
use Rattle.bt_seek.proofs.More.{told_with_node}
use Rattle.bt_seek.proofs.seek.Seek.add_node.Goals as goal

pub returns-clause-told : goal.returns-clause-told
returns-clause-told c =
    told_with_node c.args.address c.args.self.now (names_of c.self.inside.named)
    (names_of c.add_node.new.self) (course_of c.self.inside.search.table) c.self.view_is c.in_ok-add_node.ensures
