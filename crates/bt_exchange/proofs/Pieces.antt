-- A block of a piece changes nothing of a fetch.
use Rattle.std.proofs.Common.{◌≡◌, ℕ, nat_lt, Bool, true, false, if◌then◌else◌, List, [], ◌∷◌, length, is_some, is_none, refl, sym, ap, ◌∙◌}
use Rattle.std.specs.Str.{bytes_eq}
use Rattle.sha1.specs.Sha1.{sha1}
use Rattle.bt_bencode.specs.Views.{tree_of}
use Rattle.bt_ext.specs.Metadata.{block_count, kind_of}
use Rattle.bt_ext.specs.declared.ext.Ext.{Ext}
use Rattle.bt_ext.specs.declared.ext.Ext.TheVariants as ext
use Rattle.bt_ext.specs.declared.metadata.Kind.{Kind}
use Rattle.bt_ext.specs.declared.metadata.Kind.TheVariants as kind
use Rattle.bt_wire.specs.declared.item.Item.{Item}
use Rattle.bt_wire.specs.declared.item.Item.TheVariants as items
use Rattle.bt_wire.specs.declared.message.Message.TheVariants as m
use Rattle.bt_metadata.specs.Assemblies.{piece_error, data_error, with_data, is_whole, joined}
use Rattle.bt_end.specs.Ends.{EndState, Part, Serving, Fetching, metadata_of, peer_id, react}
use Rattle.bt_end.specs.Events.{answer_event, block_event, event_of, extended_event, kind_event, reject_event}
use Rattle.bt_end.specs.declared.event.Event.{Event}
use Rattle.bt_end.specs.declared.event.Event.TheVariants as event
use Rattle.bt_exchange.specs.Courses.{end_after, events}
use Rattle.bt_exchange.specs.Stops.{is_piece}

by_test : (t : Bool) (a b : Event) → is_piece a ≡ false → is_piece b ≡ false → is_piece (if t then a else b) ≡ false
by_test true a b p q = p
by_test false a b p q = q

answered : (p : Part) (piece : ℕ) → is_piece (answer_event p piece) ≡ false
answered (Serving metadata) piece = by_test (nat_lt piece (block_count (length metadata))) (event.Served piece) (event.Declined piece) refl refl
answered other piece = refl

blocked : (piece total : ℕ) (bytes : List ℕ) (p : Part) → is_piece (block_event piece total bytes p) ≡ false
blocked piece total bytes (Fetching a) =
    let b = with_data a piece total bytes in
    let right = bytes_eq (sha1 (joined b.slots)) b.info_hash in
    let known = is_none (data_error a piece total bytes) in
    by_test (is_whole b) (if right then event.Fetched else event.Mismatched) (if known then event.Block piece else event.Other)
    (by_test right event.Fetched event.Mismatched refl refl) (by_test known (event.Block piece) event.Other refl refl)
blocked piece total bytes other = refl

rejected : (piece : ℕ) (p : Part) → is_piece (reject_event piece p) ≡ false
rejected piece (Fetching a) = by_test (is_none (piece_error a piece)) (event.Rejected piece) event.Other refl refl
rejected piece other = refl

told : (e : EndState) (k : Kind) (rest : List ℕ) → is_piece (kind_event e k rest) ≡ false
told e (kind.Request piece) rest = by_test (is_some (peer_id e)) (answer_event e.part piece) event.Other (answered e.part piece) refl
told e (kind.Data piece total) rest = blocked piece total rest e.part
told e (kind.Reject piece) rest = rejected piece e.part
told e _ rest = refl

-- no message of the Extension Protocol is a block of a piece
extended : (e : EndState) (x : Ext) → is_piece (extended_event e x) ≡ false
extended e (ext.Handshake dict rest) = refl
extended e (ext.Metadata dict rest) = told e (kind_of (tree_of dict)) rest
extended e other = refl

pub true_not_false : true ≡ false → ⊥
true_not_false e = absurd cc

same_part : (e : EndState) (item : Item) → is_piece (event_of e item) ≡ true → (react e item).end.part ≡ e.part
same_part e (items.Handshake h) p = absurd cc
same_part e (items.Message (m.Extended x)) p = absurd (true_not_false (sym p ∙ extended e x))
same_part e (items.Message other) p = refl

abbrev first_or : Event → List Event → Event
first_or d [] = d
first_or d (x ∷ xs) = x

-- one item came, a block of a piece
pub undone_after : (e f : EndState) (v : Event) (xs : List (ℕ × Item)) → f ≡ end_after e xs → events e xs ≡ v ∷ [] → is_piece v ≡ true
    → is_some (metadata_of e.part) ≡ false → is_some (metadata_of f.part) ≡ false
undone_after e f v [] same told p u = absurd cc
undone_after e f v (x ∷ []) same told p u =
    let heard : event_of e x.1 ≡ v = ap (first_or v) told in
    ap (λ (s : EndState). is_some (metadata_of s.part)) same
    ∙ ap (λ (s : Part). is_some (metadata_of s)) (same_part e x.1 (ap is_piece heard ∙ p)) ∙ u
undone_after e f v (x ∷ y ∷ xs) same told p u = absurd cc
