-- What a connection leaves of an end's handshake.
use Rattle.std.proofs.Common.{◌≡◌, ℕ, Bool, true, false, if◌then◌else◌, List, [], ◌∷◌, Result, Ok, Err, sym, ap, subst, ◌∙◌, refl}
use Rattle.bt_wire.specs.declared.item.Item.{Item}
use Rattle.bt_wire.specs.declared.handshake.Handshake.{Handshake}
use Rattle.bt_metadata.specs.Blocks.{window}
use Rattle.bt_end.specs.Ends.{EndState, Fetching, all_wanted, may_ask, quiet, react, renewed, requesting, with_part}
use Rattle.bt_end.specs.Halves.{HalfState, connected, IsBegun}
use Rattle.bt_end.specs.declared.end.BeginError.{BeginError}
use Rattle.bt_end.specs.declared.end.BeginError.TheVariants as begin_error
use Rattle.bt_end.specs.Sturdy.{IsPartOf, IsEnd}
use Rattle.bt_end.proofs.Reactions.{react_keeps}
use Rattle.bt_exchange.specs.Courses.{end_after, IsMoved, Moment}

after_keeps : (e : EndState) (xs : List (ℕ × Item)) → IsPartOf e.handshake.info_hash e.part → (end_after e xs).handshake ≡ e.handshake
after_keeps e [] i = refl
after_keeps e (x ∷ xs) i =
    let k = react_keeps e x.1 i in
    let r = (react e x.1).end in
    let P : Handshake → Type 0 = λ h. IsPartOf h.info_hash r.part in
    after_keeps r xs (subst P (sym k.handshake) k.part) ∙ k.handshake

pub shut_keeps : (e : EndState) (a : HalfState) → a ≡ connected (renewed e) → a.end.handshake ≡ e.handshake
shut_keeps e a r = ap (λ (h : HalfState). h.end.handshake) r

pub moved_keeps : (a b : Moment) → IsEnd a.half → IsMoved a b → b.half.end.handshake ≡ a.half.end.handshake
moved_keeps a b s m = ap (λ (x : EndState). x.handshake) m.course.end ∙ after_keeps a.half.end m.course.items s.part

ask_by : (e : EndState) (t : Bool) → (if t then requesting e (all_wanted window e.window e.part) else quiet e).end.handshake ≡ e.handshake
ask_by e true = refl
ask_by e false = refl

pub begun_keeps : (a b : HalfState) (size : ℕ) (r : Result Bool BeginError) → IsBegun a size r b → b.end.handshake ≡ a.end.handshake
begun_keeps a b size (Ok true) h =
    let e = with_part a.end (Fetching h.1.0) in
    ap (λ (x : HalfState). x.end.handshake) h.1.2 ∙ ask_by e (may_ask e)
begun_keeps a b size (Ok false) h = ap (λ (x : HalfState). x.end.handshake) h.2
begun_keeps a b size (Err begin_error.Busy) h = ap (λ (x : HalfState). x.end.handshake) h.1
begun_keeps a b size (Err begin_error.Memory) h = ap (λ (x : HalfState). x.end.handshake) h
