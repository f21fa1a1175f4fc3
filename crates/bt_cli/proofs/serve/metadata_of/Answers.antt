use Rattle.std.proofs.Common.{arith, rules}
use Rattle.bt_torrent.specs.Files.{IsInfo}
use Rattle.bt_cli.proofs.serve.metadata_of.Goals as goal

pub returns-then-len-gt-MAX_METADATA : goal.returns-then-len-gt-MAX_METADATA
returns-then-len-gt-MAX_METADATA c =
    let is : IsInfo c.args.file.items c.in-Ok-Some.metadata.items = search rules in
    (c.in-Ok-Some.metadata, is, omega (arith, c.if-len-gt-MAX_METADATA.true))
