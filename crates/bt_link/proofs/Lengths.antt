-- An item of fewer than 2^64 bytes has a dictionary whose length has 64 bits.
use Rattle.std.proofs.Common.{◌<◌, ◌^◌, length, arith, length-append}
use Rattle.bt_bencode.specs.Bencoding.{ben}
use Rattle.bt_bencode.specs.Views.{tree_of}
use Rattle.bt_ext.specs.declared.ext.Ext.{Ext}
use Rattle.bt_ext.specs.declared.ext.Ext.TheVariants as ext
use Rattle.bt_ext.specs.Payloads.{payload_of}
use Rattle.bt_wire.specs.declared.item.Item.{Item}
use Rattle.bt_wire.specs.declared.item.Item.TheVariants as items
use Rattle.bt_wire.specs.declared.message.Message.TheVariants as m
use Rattle.bt_wire.specs.Messages.{Message, body, spell}
use Rattle.bt_wire.specs.Numbers.{be32}
use Rattle.bt_session.specs.MessageLinks.{bare, size}
use Rattle.bt_text.specs.Words.{HasLength, HasLengths, IsCounted}

of_payload : (e : Ext) → length (payload_of e) < 2 ^ 64 → HasLength e
of_payload (ext.Handshake dict rest) lt = omega (arith, length-append (ben (tree_of dict)) rest)
of_payload (ext.Metadata dict rest) lt = omega (arith, length-append (ben (tree_of dict)) rest)
of_payload (ext.DontHave index) lt = tt
of_payload (ext.Raw id payload) lt = tt

of_message : (v : Message) → length (spell bare v) < 2 ^ 64 → IsCounted HasLength v
of_message (m.Extended e) lt =
    let long = length-append (be32 (length (body bare (m.Extended e)))) (body bare (m.Extended e)) in
    of_payload e (omega (arith, long))
of_message v lt = tt

pub has_lengths : (i : Item) → size i < 2 ^ 64 → HasLengths i
has_lengths (items.Handshake h) lt = tt
has_lengths (items.Message v) lt = of_message v lt
