-- What an item makes of an end, told to its caller.
use Rattle.std.proofs.Common.{◌≡◌, ℕ, Bool, true, false, ◌&&◌, not, if◌then◌else◌, List, ◌++◌, length, Option, is_none, refl, ap, subst, ◌∙◌, arith}
use Rattle.std.specs.Str.{bytes_eq}
use Rattle.sha1.specs.Sha1.{sha1}
use Rattle.bt_wire.specs.declared.item.Item.TheVariants as items
use Rattle.bt_wire.specs.Messages.{MessageView, message_of}
use Rattle.bt_ext.specs.declared.ext.ExtView.{ExtView}
use Rattle.bt_wire.specs.declared.message.Message.TheVariants as views
use Rattle.bt_bencode.specs.Trees.{Tree}
use Rattle.bt_ext.specs.Tables.{Entries, applied}
use Rattle.bt_ext.specs.Updates.{IsUpdate}
use Rattle.bt_ext.specs.declared.table.Update.{Update}
use Rattle.bt_io.specs.Outbox.{Outgoing}
use Rattle.bt_end.specs.Reactors.{end_of, learned, IsLesson, IsReacted}
use Rattle.bt_end.specs.declared.reactor.Reactor.{Reactor}
use Rattle.bt_end.specs.declared.reactor.Plan.TheVariants.{Learn}
use Rattle.bt_metadata.specs.Assemblies.{AssemblyState, data_error, with_data, is_whole, joined}
use Rattle.bt_end.specs.Ends.{Part, Watching, Serving, Awaiting, Fetching, Fetched, EndState, learnt, then_asked, spelled, brings_mismatch}
use Rattle.bt_end.specs.Events.{block_event, plain_event, event_of, is_mismatched}
use Rattle.bt_end.specs.declared.event.Event.TheVariants as event

by_tests : (whole right known : Bool) (piece : ℕ) →
    is_mismatched (if whole then (if right then event.Fetched else event.Mismatched) else (if known then event.Block piece else event.Other))
    ≡ (whole && not right)
by_tests true true known piece = refl
by_tests true false known piece = refl
by_tests false right true piece = refl
by_tests false right false piece = refl

pub mismatched : (piece total : ℕ) (bytes : List ℕ) (p : Part) → is_mismatched (block_event piece total bytes p) ≡ brings_mismatch piece total bytes p
mismatched piece total bytes (Fetching a) =
    let b = with_data a piece total bytes in
    by_tests (is_whole b) (bytes_eq (sha1 (joined b.slots)) b.info_hash) (is_none (data_error a piece total bytes)) piece
mismatched piece total bytes Watching = refl
mismatched piece total bytes (Serving x) = refl
mismatched piece total bytes (Awaiting most) = refl
mismatched piece total bytes (Fetched x) = refl

pub plain : (e : EndState) (v : MessageView) → ((x : ExtView) → v ≡ views.Extended x → ⊥) → plain_event (message_of v) ≡ event_of e (items.Message (message_of v))
plain e (views.Extended x) h = absurd (h x refl)
plain e other h = refl

-- an extended handshake is learnt, and then requests are queued
pub learn_reacted : {A : Type 0} → (old mid new : Reactor A) (t : Tree) (update : Update A) (size : Option ℕ) (assembly : Option AssemblyState)
    → ((next : Entries) → IsUpdate old.table next update → end_of mid ≡ learned (end_of old) next assembly) → mid.outbox ≡ old.outbox
    → IsLesson {A = A} (end_of old) t (Learn update size assembly)
    → IsReacted mid new (then_asked (end_of mid)) → IsReacted old new (then_asked (learnt (end_of old) t))
learn_reacted old mid new t update size assembly same box l h =
    let e : end_of mid ≡ learnt (end_of old) t =
    same (applied t old.table) l.0 ∙ ap (λ (x : Option AssemblyState). learned (end_of old) (applied t old.table) x) l.2 in
    let r : IsReacted mid new (then_asked (learnt (end_of old) t)) = subst (λ (x : EndState). IsReacted mid new (then_asked x)) e h in
    let bytes_are : mid.outbox.bytes ≡ old.outbox.bytes = ap (λ (o : Outgoing). o.bytes) box in
    let x = then_asked (learnt (end_of old) t) in
    record {
      end = r.end;
      queued = r.queued ∙ ap (λ (xs : List ℕ). xs ++ spelled x.end x.queued) bytes_are;
      bound = omega (arith, r.bound, ap (length {A = ℕ}) bytes_are);
    }
