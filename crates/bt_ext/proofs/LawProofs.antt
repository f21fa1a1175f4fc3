-- The laws, for the functions of `laws` and for crates above.
use Rattle.bt_ext.specs.Laws.{OneExt, AllowedHasNoFault, AllowedHasNoReason, OneFault, KindOfMade, MadeMessageIsRight, MadeHandshakeIsRight}
use Rattle.bt_ext.specs.Laws.{MadeHandshakeTells, EnteredByName, FirstPairTells, AppliedByName, TableStays}
use Rattle.bt_ext.proofs.OneFault as faults
use Rattle.bt_ext.proofs.OneExt.{same_ext}
use Rattle.bt_ext.proofs.Allowed.{both, allowed-no_reason}
use Rattle.bt_ext.proofs.MadeKinds.{kind_made}
use Rattle.bt_ext.proofs.MadeRight.{message-right, handshake-right, handshake-tells}
use Rattle.bt_ext.proofs.ByName.{entered-name, first_tells, applied-name, table-applied}

pub one_ext : OneExt
one_ext = same_ext

pub allowed_has_no_fault : AllowedHasNoFault
allowed_has_no_fault = both

pub allowed_has_no_reason : AllowedHasNoReason
allowed_has_no_reason = allowed-no_reason

pub one_fault : OneFault
one_fault = faults.one_fault

pub kind_of_made : KindOfMade
kind_of_made = kind_made

pub made_message_is_right : MadeMessageIsRight
made_message_is_right = message-right

pub made_handshake_is_right : MadeHandshakeIsRight
made_handshake_is_right = handshake-right

pub made_handshake_tells : MadeHandshakeTells
made_handshake_tells = handshake-tells

pub entered_by_name : EnteredByName
entered_by_name = entered-name

pub first_pair_tells : FirstPairTells
first_pair_tells = first_tells

pub applied_by_name : AppliedByName
applied_by_name = applied-name

pub table_stays : TableStays
table_stays = table-applied
