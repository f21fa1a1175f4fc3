-- What a feed answers.
use Rattle.std.specs.Prelude.{◌≡◌, ◌==◌, ℕ, Bool, false, if◌then◌else◌, List, [], length, Option, Some, None, option_map, Result, Ok, Err}
use Rattle.bt_wire.specs.declared.fault.Refused.{Refused as Fault}
use Rattle.bt_wire.specs.declared.fault.Reason.TheVariants.{EndInside}
use Rattle.bt_wire.specs.declared.item.Item.{Item}
use Rattle.bt_wire.specs.declared.item.Refusal.{Refusal}
use Rattle.bt_feed.specs.declared.stage.Stage.{Stage}
use Rattle.bt_feed.specs.declared.stage.Stage.TheVariants as stage
use Rattle.bt_feed.specs.Stages.{start_of, early, is_all, is_closed, HasFault, refusal_of, IsItem, stage_after}
use Rattle.bt_feed.specs.Feeds.{FeedState}
use Rattle.bt_feed.specs.declared.view.Finish.{Finish}
use Rattle.bt_feed.specs.declared.view.Finish.TheVariants.{Refused, Untaken}
use Rattle.bt_feed.specs.declared.view.View.{View}
use Rattle.bt_feed.specs.Views.{item_of}

-- the item that the held bytes are, or none while they are open, or the refusal of their fault
abbrev pub IsAnswer : FeedState → Result (Option Item) Refusal → Type 0
IsAnswer f (Ok (Some item)) = IsItem f.stage f.held item
IsAnswer f (Ok None) = is_closed f.stage f.held ≡ false
IsAnswer f (Err r) = (g : Fault) × HasFault f.stage f.held g × (r ≡ refusal_of f.stage g)

-- the feed after an answer: an item is held no more, and a refusal stays
abbrev pub after : FeedState → Result (Option Item) Refusal → FeedState
after f (Ok (Some item)) = record { stage = stage_after f.stage (length f.held) item; held = []; refused = f.refused }
after f (Ok None) = f
after f (Err r) = record f { refused = Some r }

-- what is awaited once the item is taken that the held bytes are
abbrev pub IsFollowing : FeedState → Stage → Type 0
IsFollowing f t = (item : Item) × IsItem f.stage f.held item × (t ≡ stage_after f.stage (length f.held) item)

-- the feed that awaits this, with nothing held
abbrev pub followed : FeedState → Stage → FeedState
followed f t = record { stage = t; held = []; refused = f.refused }

-- ---- at the stream's end

abbrev pub or_else : Option Refusal → Option Refusal → Option Refusal
or_else (Some r) o = Some r
or_else None o = o

-- the refusal that was given, or that of a fault that is judged before all of the item is there
abbrev pub standing : FeedState → Option Refusal
standing f = or_else f.refused (option_map (refusal_of f.stage) (early f.stage f.held))

-- no handshake is awaited, and nothing is held
abbrev pub is_between : Stage → List ℕ → Bool
is_between (stage.Handshake own) b = false
is_between (stage.Message c o s n) b = length b == 0

abbrev pub end_inside : Stage → List ℕ → Refusal
end_inside t b = refusal_of t (record { at = length b; reason = EndInside })

-- what follows where nothing stands: a whole item isn't taken, or the stream ends inside one or after one
abbrev pub end_of : Stage → List ℕ → Result ℕ Finish
end_of t b = if is_all t b then Err Untaken else if is_between t b then Ok (start_of t) else Err (Refused (end_inside t b))

abbrev pub unless_refused : Option Refusal → Result ℕ Finish → Result ℕ Finish
unless_refused (Some r) end = Err (Refused r)
unless_refused None end = end

abbrev pub finish_of : FeedState → Result ℕ Finish
finish_of f = unless_refused (standing f) (end_of f.stage f.held)

-- ---- for private contracts

-- the item that the bytes are, or none while they are open, or their fault
abbrev pub IsFound : Stage → List ℕ → Result (Option View) Fault → Type 0
IsFound t b (Ok (Some view)) = IsItem t b (item_of view)
IsFound t b (Ok None) = is_closed t b ≡ false
IsFound t b (Err f) = HasFault t b f

-- the fault that is judged before all of the item is there, or whether all of it is there
abbrev pub IsEarly : Stage → List ℕ → Result Bool Fault → Type 0
IsEarly t b (Ok whole) = (early t b ≡ None) × (is_all t b ≡ whole)
IsEarly t b (Err f) = early t b ≡ Some f
