use Rattle.std.proofs.Common.{arith}
use Rattle.bt_pcap.specs.Files.{format_of}
use Rattle.bt_pcap.proofs.StepLaws.{answers, goes_on}
use Rattle.bt_pcap.proofs.file.CaptureFile.step.Goals as goal

pub returns-clause-answers : goal.returns-clause-answers
returns-clause-answers c = answers (format_of c.args.self.now) c.args.bytes.now c.read.result (format_of c.read.new.self) (λ i. omega
    (arith, c.type_inv.bytes i)) c.read.ensures

pub returns-clause-goes_on : goal.returns-clause-goes_on
returns-clause-goes_on c =
    goes_on (format_of c.args.self.now) c.args.bytes.now c.read.result (format_of c.read.new.self)
    (answers (format_of c.args.self.now) c.args.bytes.now c.read.result (format_of c.read.new.self) (λ i. omega (arith, c.type_inv.bytes i)) c.read.ensures)
