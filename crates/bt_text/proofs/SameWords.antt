-- The words of a message, owned or viewed.
use Rattle.std.proofs.Common.{◌≡◌, List, ℕ, refl}
use Rattle.std.specs.Borrow.{Bor}
use Rattle.std.specs.Prelude.{⊤}
use Rattle.bt_ext.specs.declared.ext.Ext.{Ext}
use Rattle.bt_ext.specs.declared.ext.ExtView.{ExtView}
use Rattle.bt_wire.specs.declared.context.Own.{Own}
use Rattle.bt_wire.specs.declared.message.Message.TheVariants as m
use Rattle.bt_wire.specs.Messages.{Message, MessageView, map, message_of}
use Rattle.bt_text.specs.Lines.{message_words}
use Rattle.bt_text.specs.Script.{script_message}
use Rattle.bt_text.specs.Words.{IsCounted}

-- the length of a view can be told
pub counted_view : (v : MessageView) → IsCounted (λ (e : ExtView). ⊤) v
counted_view (m.Extended e) = tt
counted_view v = tt

-- a message over its own bytes
pub owned : (v : Message) → map (λ (b : List ℕ). b) (λ (e : Ext). e) v ≡ v
owned m.KeepAlive = refl
owned v = refl

-- a message without bytes has the same words in a script
pub same_words : (own : Own) (v : MessageView) → ((bits : Bor (List ℕ)) → v ≡ m.Bitfield bits → ⊥)
    → ((i b : ℕ) (bytes : Bor (List ℕ)) → v ≡ m.Piece i b bytes → ⊥)
    → ((e : ExtView) → v ≡ m.Extended e → ⊥) → ((n : ℕ) (bytes : Bor (List ℕ)) → v ≡ m.Unknown n bytes → ⊥)
    → message_words (message_of v) ≡ script_message own (message_of v)
same_words own (m.Bitfield bits) a b c d = absurd (a bits refl)
same_words own (m.Piece i k bytes) a b c d = absurd (b i k bytes refl)
same_words own (m.Extended e) a b c d = absurd (c e refl)
same_words own (m.Unknown n bytes) a b c d = absurd (d n bytes refl)
same_words own v a b c d = refl
