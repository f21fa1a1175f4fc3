use Rattle.std.proofs.Common.{List, ℕ, subst, rules}
use Rattle.bt_torrent.specs.Files.{IsInfo}
use Rattle.bt_torrent.proofs.file.into_info.Goals as goal

pub returns-in-Some-place : goal.returns-in-Some-place
returns-in-Some-place c = search rules

pub returns-in-None : goal.returns-in-None
returns-in-None c = subst (λ (l : List ℕ). (info : List ℕ) → IsInfo l info → ⊥) c.as_slice.ensures.value c.in-None.ensures
