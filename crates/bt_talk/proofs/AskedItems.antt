-- A request that got no answer is an item of its side.
use Rattle.std.proofs.Common.{◌≡◌, ◌∙◌, ℕ, Bool, true, false, List, [], ◌∷◌, ◌++◌, append_assoc, refl, sym, ap, if◌then◌else◌}
use Rattle.bt_ext.specs.declared.ext.Ext.{Ext}
use Rattle.bt_ext.specs.declared.ext.Ext.TheVariants as ext
use Rattle.bt_ext.specs.declared.metadata.Kind.{Kind}
use Rattle.bt_ext.specs.declared.metadata.Kind.TheVariants as kind
use Rattle.bt_ext.specs.Metadata.{kind_of}
use Rattle.bt_bencode.specs.Views.{tree_of}
use Rattle.bt_remarks.specs.declared.events.Block.{Block}
use Rattle.bt_remarks.specs.declared.events.Side.{Side}
use Rattle.bt_remarks.specs.declared.tallies.Request.{Request}
use Rattle.bt_remarks.specs.Ends.{IsAsked}
use Rattle.bt_remarks.specs.Said.{Told, Message, Request as AsksFor, Other, is_same}
use Rattle.bt_text.specs.Lines.{words as words_of}
use Rattle.bt_rows.specs.Said.{words_text}
use Rattle.bt_wire.specs.declared.item.Item.{Item}
use Rattle.bt_wire.specs.declared.item.Item.TheVariants as items
use Rattle.bt_wire.specs.Messages.{Message as WireMessage}
use Rattle.bt_wire.specs.declared.message.Message.TheVariants as m
use Rattle.bt_talk.specs.Events.{block_of, metadata_event, extended_event, message_event, event_of}
use Rattle.bt_talk.specs.Unanswered.{request_said}
use Rattle.bt_talk.specs.Watching.{said_by, messages_of, IsAmong}

-- ---- the event among those of its side

speaks : (same : Bool) (message : Message) (block : Block) → (if same then message else Other) ≡ AsksFor block → (same ≡ true) × (message ≡ AsksFor block)
speaks true message block h = (refl, h)
speaks false message block h = (cc, cc)

pub record Stands (l : List (ℕ × Message)) (x : ℕ × Message) : Type 0 where
  pub before : List (ℕ × Message)
  pub after : List (ℕ × Message)
  pub parts : l ≡ before ++ x ∷ after

stands_more : (l : List (ℕ × Message)) (x y : ℕ × Message) → Stands l x → Stands (l ++ y ∷ []) x
stands_more l x y s = record {
  before = s.before;
  after = s.after ++ y ∷ [];
  parts = ap (λ (k : List (ℕ × Message)). k ++ y ∷ []) s.parts ∙ append_assoc s.before (x ∷ s.after) (y ∷ []);
}

stands_if : (same : Bool) (l : List (ℕ × Message)) (x y : ℕ × Message) → Stands l x → Stands (if same then l ++ y ∷ [] else l) x
stands_if true l x y s = stands_more l x y s
stands_if false l x y s = s

said_in : (side : Side) (later : List Told) (e : Told) (earlier : List Told) → is_same e.side side ≡ true
    → Stands (said_by side (later ++ e ∷ earlier)) (e.mark, e.message)
said_in side [] e earlier same = record {
  before = said_by side earlier;
  after = [];
  parts = ap (λ (k : Bool). if k then said_by side earlier ++ (e.mark, e.message) ∷ [] else said_by side earlier) same;
}
said_in side (x ∷ later) e earlier same =
    stands_if (is_same x.side side) (said_by side (later ++ e ∷ earlier)) (e.mark, e.message) (x.mark, x.message) (said_in side later e earlier same)

-- ---- the item of an event

pub record HasItem (xs : List (ℕ × Item)) (x : ℕ × Message) : Type 0 where
  pub before : List (ℕ × Item)
  pub item : ℕ × Item
  pub after : List (ℕ × Item)
  pub parts : xs ≡ before ++ item ∷ after
  pub place : item.0 ≡ x.0
  pub message : event_of item.1 ≡ x.1

item_more : (z : ℕ × Item) (xs : List (ℕ × Item)) (x : ℕ × Message) → HasItem xs x → HasItem (z ∷ xs) x
item_more z xs x i = record {
  before = z ∷ i.before;
  item = i.item;
  after = i.after;
  parts = ap (λ (k : List (ℕ × Item)). z ∷ k) i.parts;
  place = i.place;
  message = i.message;
}

item_of : (xs : List (ℕ × Item)) (before after : List (ℕ × Message)) (x : ℕ × Message) → messages_of xs ≡ before ++ x ∷ after → HasItem xs x
item_of [] [] after x h = absurd (cc)
item_of [] (y ∷ before) after x h = absurd (cc)
item_of (z ∷ xs) [] after x h =
    record { before = []; item = z; after = xs; parts = refl; place = cc; message = cc }
item_of (z ∷ xs) (y ∷ before) after x h =
    let rest : messages_of xs ≡ before ++ x ∷ after = cc in
    item_more z xs x (item_of xs before after x rest)

-- ---- an item that is a request has its words

abbrev words_for : Block → List ℕ
words_for block = words_text (request_said (record { mark = 0; block = block })).words

no_metadata : (k : Kind) (block : Block) → metadata_event k ≡ AsksFor block → ⊥
no_metadata (kind.Request piece) block h = cc
no_metadata (kind.Data piece total) block h = cc
no_metadata (kind.Reject piece) block h = cc
no_metadata kind.Other block h = cc
no_metadata kind.Malformed block h = cc

no_extended : (e : Ext) (block : Block) → extended_event e ≡ AsksFor block → ⊥
no_extended (ext.Metadata dict rest) block h = no_metadata (kind_of (tree_of dict)) block h
no_extended _ block h = cc

message_words : (message : WireMessage) (block : Block) → message_event message ≡ AsksFor block → words_for block ≡ words_of (items.Message message)
message_words (m.Request index begin length) block h =
    let same : block ≡ block_of index begin length = cc in
    ap (λ (b : Block). words_for b) same
message_words (m.Extended e) block h = absurd (no_extended e block h)
message_words _ block h = absurd (cc)

request_words : (x : Item) (block : Block) → event_of x ≡ AsksFor block → words_for block ≡ words_of x
request_words (items.Handshake hello) block h = absurd (cc)
request_words (items.Message message) block h = message_words message block h

pub asked_item : (side : Side) (events : List Told) (xs : List (ℕ × Item)) (first : Request) → IsAsked side events first → said_by side events ≡ messages_of xs
    → IsAmong xs first.mark (request_said first)
asked_item side events xs first asked said =
    let e = asked.event in
    let s = speaks (is_same e.side side) e.message first.block asked.asks in
    let at = said_in side asked.later e asked.earlier s.0 in
    let is : messages_of xs ≡ at.before ++ (e.mark, e.message) ∷ at.after = sym said ∙ ap (said_by side) asked.split ∙ at.parts in
    let i = item_of xs at.before at.after (e.mark, e.message) is in
    record {
      before = i.before;
      item = i.item;
      after = i.after;
      parts = i.parts;
      place = i.place ∙ asked.mark;
      is = record { offset = sym (i.place ∙ asked.mark); words = request_words i.item.1 first.block (i.message ∙ s.1) };
    }
