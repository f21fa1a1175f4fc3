use Rattle.bt_text.proofs.ScriptLines.{read_answer}
use Rattle.bt_text.proofs.script.reading.read_line.Goals as goal

pub returns : goal.returns
returns c =
    read_answer c.args.first c.args.text.now c.clear.new.self.items c.append_line.new.out.items c.append_line.result c.clear.ensures.items c.append_line.ensures
