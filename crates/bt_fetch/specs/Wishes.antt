-- What the end that fetches is made with.
use Rattle.std.specs.Prelude.{ℕ, ◌≤◌, Some, None, unwrap_or}
use Rattle.bt_ext.specs.Ids.{metadata_only}
use Rattle.bt_metadata.specs.Blocks.{window}
use Rattle.bt_wire.specs.declared.context.Own.{Own}
use Rattle.bt_wire.specs.declared.handshake.Handshake.{Handshake}
use Rattle.bt_end.specs.Ends.{Awaiting, unopened}
use Rattle.bt_end.specs.Halves.{HalfState, connected}
use Rattle.bt_end.specs.declared.config.Announce.TheVariants as announce
use Rattle.bt_fetch.specs.declared.wish.Wish.{Wish}

-- the limit is that of an end
abbrev pub IsWish : Wish → Type 0
IsWish w = (32768 ≤ w.limit) × (w.limit ≤ 1048576)

-- It receives as the wish says, for this info hash, with the Extension Protocol, metadata messages under id 3
abbrev pub own_of : Wish → Own
own_of w = record {
  reserved = record { 0 = 1048576 };
  info_hash = Some w.info_hash;
  pieces = None;
  reg = metadata_only (Some 3);
  rules = w.rules;
  limit = w.limit;
}

abbrev pub handshake_of : Wish → Handshake
handshake_of w = record { reserved = record { 0 = 1048576 }; info_hash = w.info_hash; peer_id = w.peer_id }

-- how many blocks are asked for at once on a first connection
abbrev pub first_window : Wish → ℕ
first_window w = unwrap_or w.window window

-- a new end that says nothing of its pieces, and fetches metadata of at most so many bytes
abbrev pub fetching_end : Wish → HalfState
fetching_end w = connected (unopened (own_of w) (handshake_of w) announce.Silent (first_window w) (Awaiting w.most))
