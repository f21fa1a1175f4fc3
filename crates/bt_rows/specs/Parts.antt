-- Parts that rows and reports share.
use Rattle.std.specs.Prelude.{ℕ, List, ◌++◌, codes, decimal}
use Rattle.bt_remarks.specs.declared.events.Side.{Side}
use Rattle.bt_remarks.specs.declared.events.Side.TheVariants.{A, B}
use Rattle.bt_wire.specs.declared.item.Refusal.{Refusal}
use Rattle.bt_wire.specs.Reasons.{reason_name}
use Rattle.bt_rows.specs.declared.parts.Means.{Means}
use Rattle.bt_rows.specs.declared.parts.Means.TheVariants.{Fin, Rst}

abbrev pub side_text : Side → List ℕ
side_text A = codes "A"
side_text B = codes "B"

-- a flag of TCP (RFC 9293, 3.1)
abbrev pub means_text : Means → List ℕ
means_text Fin = codes "FIN"
means_text Rst = codes "RST"

abbrev pub refusal_text : Refusal → List ℕ
refusal_text r = codes "refused message=" ++ (decimal r.message ++ (codes " at=" ++ (decimal r.at ++ (codes " " ++ reason_name r.reason))))
