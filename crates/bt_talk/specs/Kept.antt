-- What is kept of a side's items, one by one.
use Rattle.std.specs.Prelude.{Bool, true, false, Option, Some, None, Box}
use Rattle.std.specs.declared.alloc.Global.{Global}
use Rattle.bt_remarks.specs.declared.events.Remarks.{Remarks}
use Rattle.bt_rows.specs.declared.said.Said.{Said}
use Rattle.bt_talk.specs.declared.notes.Firsts.{Firsts}

-- the last item, and the first one with each remark
pub record Kept : Type 0 where
  pub last : Option Said
  pub firsts : Firsts

abbrev pub no_firsts : Firsts
no_firsts = record { unasked = None; choked = None; again = None; elsewhere = None }

abbrev pub firsts_in : Option (Box Firsts Global) → Firsts
firsts_in None = no_firsts
firsts_in (Some firsts) = firsts.value

-- ---- one item

-- the first one that has the remark
abbrev pub first_said : Bool → Said → Option Said → Option Said
first_said has said (Some first) = Some first
first_said true said None = Some said
first_said false said None = None

abbrev pub firsts_after : Remarks → Said → Firsts → Firsts
firsts_after remarks said firsts = record {
  unasked = first_said remarks.unasked said firsts.unasked;
  choked = first_said remarks.choked said firsts.choked;
  again = first_said remarks.again said firsts.again;
  elsewhere = first_said remarks.elsewhere said firsts.elsewhere;
}

abbrev pub noted : Remarks → Said → Kept → Kept
noted remarks said kept = record { last = Some said; firsts = firsts_after remarks said kept.firsts }
