-- Laws on the lines of a script.
use Rattle.std.specs.Prelude.{◌≡◌, ◌≤◌, ◌+◌, ◌*◌, Bool, true, false, List, length, ℕ}
use Rattle.bt_wire.specs.declared.context.Context.{Context}
use Rattle.bt_wire.specs.declared.context.Own.{Own}
use Rattle.bt_wire.specs.declared.handshake.Handshake.{Handshake}
use Rattle.bt_wire.specs.declared.item.Item.TheVariants as items
use Rattle.bt_wire.specs.Messages.{Message}
use Rattle.bt_wire.specs.Handshakes.{hand, IsHandshake}
use Rattle.bt_wire.specs.Messages.{spell, body, IsShaped, IsInRange}
use Rattle.bt_wire.specs.Numbers.{AreBytes}
use Rattle.bt_text.specs.Script.{has_feed}
use Rattle.bt_text.specs.Script.{script_words, IsLine}

-- a text names one list of bytes at most
abbrev pub LineIsOne : Type 0
LineIsOne = (first : Bool) (text a b : List ℕ) → IsLine first text a → IsLine first text b → a ≡ b

-- the words of a message are a line, with just the bytes of the message, where the registered ids are the receiver's
abbrev pub MessageIsLine : Type 0
MessageIsLine = (own : Own) (c : Context) (m : Message) → c.reg ≡ own.reg → IsShaped c m → IsInRange c m → AreBytes (spell c m)
    → IsLine false (script_words own (items.Message m)) (spell c m)

-- the words of a handshake are the first line, with just its bytes
abbrev pub HandshakeIsLine : Type 0
HandshakeIsLine = (own : Own) (h : Handshake) → IsHandshake h → AreBytes (hand h) → IsLine true (script_words own (items.Handshake h)) (hand h)

-- the words hold no line feed, and for n bytes they aren't longer than a script's line may be
pub record IsFitLine (words : List ℕ) (n : ℕ) : Type 0 where
  pub short : length words ≤ 2 * n + 256
  pub whole : has_feed words ≡ false

abbrev pub MessageFits : Type 0
MessageFits = (own : Own) (c : Context) (m : Message) → c.reg ≡ own.reg → IsInRange c m → IsFitLine (script_words own (items.Message m)) (length (body c m))

abbrev pub HandshakeFits : Type 0
HandshakeFits = (own : Own) (h : Handshake) → IsHandshake h → IsFitLine (script_words own (items.Handshake h)) 0
