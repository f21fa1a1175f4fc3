-- The names of the reasons for which bytes are refused, as verdicts and scripts have them.
use Rattle.std.specs.Prelude.{ℕ, List, codes}
use Rattle.bt_wire.specs.declared.fault.Reason.{Reason}
use Rattle.bt_wire.specs.declared.fault.Reason.TheVariants as reasons

abbrev pub reason_name : Reason → List ℕ
reason_name reasons.BadProtocol = codes "BadProtocol"
reason_name reasons.WrongInfoHash = codes "WrongInfoHash"
reason_name reasons.TooLong = codes "TooLong"
reason_name reasons.UnknownId = codes "UnknownId"
reason_name reasons.NotNegotiated = codes "NotNegotiated"
reason_name reasons.WrongLength = codes "WrongLength"
reason_name reasons.BadIndex = codes "BadIndex"
reason_name reasons.SpareBits = codes "SpareBits"
reason_name reasons.Late = codes "Late"
reason_name reasons.Missing = codes "Missing"
reason_name reasons.BadBencode = codes "BadBencode"
reason_name reasons.Unsorted = codes "Unsorted"
reason_name reasons.BadField = codes "BadField"
reason_name reasons.BadBlock = codes "BadBlock"
reason_name reasons.StreamFull = codes "StreamFull"
reason_name reasons.EndInside = codes "EndInside"
reason_name reasons.BadExtLength = codes "BadExtLength"
