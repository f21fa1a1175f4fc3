use Rattle.std.proofs.Common.{◌≡◌, rules, refl, []}
use Rattle.std.specs.Io.KnownBytes.{Appends}
use Rattle.bt_io.specs.Seen.{AppendsPrefix, WriteFailed}
use Rattle.bt_capture.proofs.InOrder.{all_written, front_written}
use Rattle.bt_capture.proofs.telling.Teller.flush.Goals as goal

pub returns-in-Ok-clause-written : goal.returns-in-Ok-clause-written
returns-in-Ok-clause-written g c start reports written t =
    let before = g.W.Target.seen c.args.writer.now in
    let after = g.W.Target.seen c.write_out.new.writer in
    let held : Appends before.held after.held c.args.self.now.text.items = search rules in
    let calm : after.failed ≡ before.failed = search rules in
    let empty : c.clear.new.self.items ≡ [] = search rules in
    let old = c.args.self.now in
    all_written start before after old (record {
      text = c.clear.new.self;
      line = old.line;
      form = old.form;
      torrents = old.torrents;
      is_refused = old.is_refused;
      is_partial = old.is_partial;
    }) reports written held calm empty refl refl refl refl t

pub returns-in-Err-clause-stopped : goal.returns-in-Err-clause-stopped
returns-in-Err-clause-stopped g c start reports written t =
    let before = g.W.Target.seen c.args.writer.now in
    let after = g.W.Target.seen c.write_out.new.writer in
    let p : AppendsPrefix before.held after.held c.args.self.now.text.items = search rules in
    let failed : WriteFailed before after = search rules in
    front_written start before after c.args.self.now reports written p.0 p.1 p.2 p.3 failed t
