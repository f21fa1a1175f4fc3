-- Lines that follow lines.
use Rattle.std.proofs.Common.{ℕ, List, ◌++◌, Option, subst, sym}
use Rattle.std.specs.List.{flat_map}
use Rattle.std.proofs.lemmas.Grind.{flat_map-append}
use Rattle.std.specs.Io.KnownBytes.{Appends}
use Rattle.std.proofs.KnownBytes.{Appends-trans}
use Rattle.std.specs.declared.net.socket_addr.SocketAddr.{SocketAddr}
use Rattle.bt_finding.specs.Lines.{peer_line}

-- the lines of more peers go after those of the first
pub shown_more : (a b c : Option (List ℕ)) (xs ys : List SocketAddr) → Appends a b (flat_map peer_line xs) → Appends b c (flat_map peer_line ys)
    → Appends a c (flat_map peer_line (xs ++ ys))
shown_more a b c xs ys first second =
    subst (Appends a c) (sym (flat_map-append peer_line xs ys)) (Appends-trans a b c (flat_map peer_line xs) (flat_map peer_line ys) first second)
