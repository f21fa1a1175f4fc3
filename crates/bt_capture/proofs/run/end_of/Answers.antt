use Rattle.std.proofs.Common.{◌∙◌, ap, length}
use Rattle.bt_capture.specs.declared.connections.Losses.{Losses}
use Rattle.bt_capture.specs.declared.ending.Form.{Form}
use Rattle.bt_capture.specs.Following.{Asked, reports_of}
use Rattle.bt_capture.specs.Tellings.{chosen_by, is_one_partial, is_one_refused}
use Rattle.bt_capture.proofs.Outcomes.{all_over, whole_written, texts_written, stream_told, rows_told, absent_by, begun_all}
use Rattle.bt_capture.proofs.Arriving.{have_come}
use Rattle.bt_capture.proofs.run.end_of.Goals as goal

pub returns : goal.returns
returns c o seen before now i empty ended added =
    let run = c.args.run.now in
    let r = c.args.packets.now in
    let known = i.follows.known in
    let fs = i.follows.fs in
    let written = i.follows.written in
    let all = run.connections in
    let form = ap (λ (a : Asked). a.form) i.asked in
    let begun = begun_all all.begun (length fs) i.follows.begun in
    record {
      packets = i.packets;
      r = r;
      read = i.read;
      ended = ended;
      count = c.packets.ensures ∙ i.read.reading.count;
      skipped = i.skipped;
      unread_packets = i.unread;
      came = i.came;
      come = have_come i.packets i.came run.links i.come;
      fs = fs;
      over = all_over o seen.left before run r i;
      text = written;
      texts_are = texts_written o seen.left before run r empty i;
      stream = stream_told o seen.left before run r empty i;
      rows = rows_told o seen.left before run r empty i;
      written = whole_written o seen.left before now run r empty i added.0;
      calm = added.1 ∙ known.tells.calm;
      torrents = c.torrents.ensures o.target before (reports_of fs) written known.tells;
      refused = c.is_refused.ensures o.target before (reports_of fs) written known.tells
          ∙ ap (λ (k : Form). is_one_refused (chosen_by k (reports_of fs))) form;
      partial = c.is_partial.ensures o.target before (reports_of fs) written known.tells
          ∙ ap (λ (k : Form). is_one_partial (chosen_by k (reports_of fs))) form;
      lost = ap (λ (l : Losses). l.memory) known.lost;
      unread = ap (λ (l : Losses). l.crowd) known.lost;
      early = ap (λ (l : Losses). l.early) known.lost;
      absent = absent_by o.form all.teller.form (length fs) all.begun form begun _ c.absent.ensures;
    }
