-- The first request without an answer is an event of its side.
use Rattle.std.proofs.Common.{◌≡◌, ℕ, Bool, true, false, if◌then◌else◌, IfSome, List, Option, Some, None, sym, ◌∙◌, ap, ◌||◌, max}
use Rattle.bt_remarks.specs.declared.events.Side.{Side}
use Rattle.bt_remarks.specs.declared.events.Block.{Block}
use Rattle.bt_remarks.specs.declared.requests.Asked.{Asked}
use Rattle.bt_remarks.specs.declared.tallies.Request.{Request}
use Rattle.bt_remarks.specs.Said.{Told, Message, Blocks, Request as AsksFor, other, said, asked_block}
use Rattle.bt_remarks.specs.Known.{pending, overflowed, last_choke, last_answered}
use Rattle.bt_remarks.specs.Laws.{IsPending}
use Rattle.bt_remarks.specs.Ends.{late_one, unanswered, IsOldest, IsFirst, IsAsked}
use Rattle.bt_remarks.proofs.RequestProofs.{at_same}
use Rattle.bt_remarks.proofs.LawProofs.{pending_is}

kept : (t : Bool) (request one : Asked) → (if t then Some request else None) ≡ Some one → Some request ≡ Some one
kept true request one h = h
kept false request one h = cc

-- A late request is pending.
late_back : (unknown closed : Bool) (later : ℕ) (o : Option Asked) (one : Asked) → (if unknown then None else late_one closed later o) ≡ Some one
    → o ≡ Some one
late_back true closed later o one h = cc
late_back false closed later None one h = cc
late_back false closed later (Some request) one h = kept _ request one h

asks_for : (message : Message) (block : Block) → asked_block message ≡ Some block → message ≡ AsksFor block
asks_for (AsksFor one) block h = cc
asks_for _ block h = cc

same : (x y : Block) → x.index ≡ y.index → x.begin ≡ y.begin → x.length ≡ y.length → x ≡ y
same x y i b n =
    let made : ℕ → ℕ → ℕ → Block = λ i b n. record { index = i; begin = b; length = n } in
    ap (λ k. made k x.begin x.length) i ∙ ap (λ k. made y.index k x.length) b ∙ ap (made y.index y.begin) n

pub oldest_asked : (closed stopped : Bool) (side : Side) (events : List Told) (first : Request) → IsOldest (unanswered closed stopped side events) first
    → IsAsked side events first
oldest_asked closed stopped side events first h =
    let later : ℕ = max (last_choke (other side) events) (last_answered Blocks side events) in
    let i = first.block.index in
    let b = first.block.begin in
    let is_open : pending Blocks side events i b ≡ Some h.request =
    late_back (stopped || overflowed Blocks side events) closed later (pending Blocks side events i b) h.request h.there in
    let p : IsPending Blocks side events i b h.request = (pending_is Blocks side events i b h.request).0 is_open in
    let at = at_same p.block i b p.at in
    let length : p.block.length ≡ first.block.length = ap (λ (r : Asked). r.length) (sym p.is) ∙ h.length in
    record {
      later = p.later;
      event = p.event;
      earlier = p.earlier;
      split = p.split;
      asks = asks_for (said side p.event) p.block p.asks ∙ ap AsksFor (same p.block first.block at.0 at.1 length);
      mark = ap (λ (r : Asked). r.mark) (sym p.is) ∙ h.mark;
    }

pub first_asked : (Is : List Told → Type 0) (closed stopped : Bool) (side : Side) (first : Option Request)
    → ((events : List Told) → Is events → IsFirst (unanswered closed stopped side events) first)
    → IfSome first (λ request. (events : List Told) → Is events → IsAsked side events request)
first_asked Is closed stopped side None h = tt
first_asked Is closed stopped side (Some first) h = λ events is. oldest_asked closed stopped side events first (h events is)
